use Rattle.std.proofs.Common.{codes}
use Rattle.emit_bodies.specs.Blocks.{block_name, inputs_text}
use Rattle.base_io.proofs.Writing.{wrote_both, wrote_fails, wrote_longer}
use Rattle.emit_bodies.proofs.guards.write_head.Goals as goal

pub returns-in_err-write_piece : goal.returns-in_err-write_piece
returns-in_err-write_piece g c =
    wrote_fails _ c.from_residual.ensures.0 (wrote_longer (codes ") -> bool {\n        ") (wrote_longer (inputs_text c.args.method.now c.args.reach) (wrote_longer (codes "(&self") (wrote_longer (block_name c.args.tree.now c.args.method.now (codes "can") c.args.number) c.in_err-write_piece.ensures))))

pub returns-in_err-write_block_name : goal.returns-in_err-write_block_name
returns-in_err-write_block_name g c =
    wrote_fails _ c.from_residual-in_err-write_block_name.ensures.0 (wrote_longer _ (wrote_longer _ (wrote_longer _ (wrote_both c.in_ok-write_piece.ensures c.in_err-write_block_name.ensures))))

pub returns-in_err-write_piece-2 : goal.returns-in_err-write_piece-2
returns-in_err-write_piece-2 g c =
    wrote_fails _ c.from_residual-in_err-write_piece-2.ensures.0 (wrote_longer _ (wrote_longer _ (wrote_both (wrote_both c.in_ok-write_piece.ensures c.in_ok-write_block_name.ensures) c.in_err-write_piece-2.ensures)))

pub returns-in_err-write_inputs : goal.returns-in_err-write_inputs
returns-in_err-write_inputs g c =
    wrote_fails _ c.from_residual-in_err-write_inputs.ensures.0 (wrote_longer _ (wrote_both (wrote_both (wrote_both c.in_ok-write_piece.ensures c.in_ok-write_block_name.ensures) c.in_ok-write_piece-2.ensures) c.in_err-write_inputs.ensures))

pub returns : goal.returns
returns g c =
    wrote_both (wrote_both (wrote_both (wrote_both c.in_ok-write_piece.ensures c.in_ok-write_block_name.ensures) c.in_ok-write_piece-2.ensures) c.in_ok-write_inputs.ensures) c.write_piece-3.ensures
