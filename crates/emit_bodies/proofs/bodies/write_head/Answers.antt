use Rattle.std.proofs.Common.{codes}
use Rattle.emit_expressions.specs.declared.scope.Reach.TheVariants as reaches
use Rattle.emit_bodies.specs.Blocks.{all_inputs_text, block_name}
use Rattle.emit_bodies.specs.Bodies.{arrow_text}
use Rattle.base_io.proofs.Writing.{wrote_both, wrote_fails, wrote_longer}
use Rattle.emit_bodies.proofs.bodies.write_head.Goals as goal

pub returns-in_err-write_piece : goal.returns-in_err-write_piece
returns-in_err-write_piece g c =
    wrote_fails _ c.from_residual.ensures.0 (wrote_longer (arrow_text c.args.answer c.args.fails) (wrote_longer (codes ")") (wrote_longer (all_inputs_text c.args.method.now reaches.Lent) (wrote_longer (codes "(&mut self") (wrote_longer (block_name c.args.tree.now c.args.method.now (codes "run") c.args.number) c.in_err-write_piece.ensures)))))

pub returns-in_err-write_block_name : goal.returns-in_err-write_block_name
returns-in_err-write_block_name g c =
    wrote_fails _ c.from_residual-in_err-write_block_name.ensures.0 (wrote_longer (arrow_text c.args.answer c.args.fails) (wrote_longer (codes ")") (wrote_longer (all_inputs_text c.args.method.now reaches.Lent) (wrote_longer (codes "(&mut self") (wrote_both c.in_ok-write_piece.ensures c.in_err-write_block_name.ensures)))))

pub returns-in_err-write_piece-2 : goal.returns-in_err-write_piece-2
returns-in_err-write_piece-2 g c =
    wrote_fails _ c.from_residual-in_err-write_piece-2.ensures.0 (wrote_longer (arrow_text c.args.answer c.args.fails) (wrote_longer (codes ")") (wrote_longer (all_inputs_text c.args.method.now reaches.Lent) (wrote_both (wrote_both c.in_ok-write_piece.ensures c.in_ok-write_block_name.ensures) c.in_err-write_piece-2.ensures))))

pub returns-in_err-write_inputs : goal.returns-in_err-write_inputs
returns-in_err-write_inputs g c =
    wrote_fails _ c.from_residual-in_err-write_inputs.ensures.0 (wrote_longer (arrow_text c.args.answer c.args.fails) (wrote_longer (codes ")") (wrote_both (wrote_both (wrote_both c.in_ok-write_piece.ensures c.in_ok-write_block_name.ensures) c.in_ok-write_piece-2.ensures) c.in_err-write_inputs.ensures)))

pub returns-in_err-write_piece-3 : goal.returns-in_err-write_piece-3
returns-in_err-write_piece-3 g c =
    wrote_fails _ c.from_residual-in_err-write_piece-3.ensures.0 (wrote_longer (arrow_text c.args.answer c.args.fails) (wrote_both (wrote_both (wrote_both (wrote_both c.in_ok-write_piece.ensures c.in_ok-write_block_name.ensures) c.in_ok-write_piece-2.ensures) c.in_ok-write_inputs.ensures) c.in_err-write_piece-3.ensures))

pub returns : goal.returns
returns g c =
    wrote_both (wrote_both (wrote_both (wrote_both (wrote_both c.in_ok-write_piece.ensures c.in_ok-write_block_name.ensures) c.in_ok-write_piece-2.ensures) c.in_ok-write_inputs.ensures) c.in_ok-write_piece-3.ensures) c.write_arrow.ensures
