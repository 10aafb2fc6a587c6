use Rattle.std.proofs.Common.{codes, ap, ℕ}
use Rattle.emit_bodies.specs.Blocks.{block_name}
use Rattle.base_io.proofs.Writing.{wrote_both, wrote_fails, wrote_longer, wrote_same}
use Rattle.emit_statements.specs.Conditions.{arguments_text}
use Rattle.emit_statements.proofs.statements.write_own_call.Goals as goal

pub returns-in_err-write_block_name : goal.returns-in_err-write_block_name
returns-in_err-write_block_name g c =
    wrote_fails _ c.from_residual.ensures.0 (wrote_longer (codes ")") (wrote_longer (arguments_text c.args.it.now.method.now c.args.reach) (wrote_longer (codes "(") (wrote_same _ (ap (λ (n : ℕ). block_name c.args.it.now.source.now.tree.now c.args.it.now.method.now c.args.word.now n) c.saturating_sub-number.ensures) c.in_err-write_block_name.ensures))))

pub returns-in_err-write_piece : goal.returns-in_err-write_piece
returns-in_err-write_piece g c =
    wrote_fails _ c.from_residual-in_err-write_piece.ensures.0 (wrote_longer (codes ")") (wrote_longer (arguments_text c.args.it.now.method.now c.args.reach) (wrote_both (wrote_same _ (ap (λ (n : ℕ). block_name c.args.it.now.source.now.tree.now c.args.it.now.method.now c.args.word.now n) c.saturating_sub-number.ensures) c.in_ok-write_block_name.ensures) c.in_err-write_piece.ensures)))

pub returns-in_err-write_arguments : goal.returns-in_err-write_arguments
returns-in_err-write_arguments g c =
    wrote_fails _ c.from_residual-in_err-write_arguments.ensures.0 (wrote_longer (codes ")") (wrote_both (wrote_both (wrote_same _ (ap (λ (n : ℕ). block_name c.args.it.now.source.now.tree.now c.args.it.now.method.now c.args.word.now n) c.saturating_sub-number.ensures) c.in_ok-write_block_name.ensures) c.in_ok-write_piece.ensures) c.in_err-write_arguments.ensures))

pub returns : goal.returns
returns g c =
    wrote_both (wrote_both (wrote_both (wrote_same _ (ap (λ (n : ℕ). block_name c.args.it.now.source.now.tree.now c.args.it.now.method.now c.args.word.now n) c.saturating_sub-number.ensures) c.in_ok-write_block_name.ensures) c.in_ok-write_piece.ensures) c.in_ok-write_arguments.ensures) c.write_piece-2.ensures
