use Rattle.std.proofs.Common.{codes, ◌∙◌}
use Rattle.lang_tree.specs.Names.{declared_name}
use Rattle.base_io.proofs.Writing.{wrote_both, wrote_fails, wrote_longer, wrote_same}
use Rattle.emit_module.proofs.module.write_plain_docs.Goals as goal

pub returns-in_err-write_piece : goal.returns-in_err-write_piece
returns-in_err-write_piece g c =
    wrote_fails _ c.from_residual.ensures.0 (wrote_longer (codes "`.\n") (wrote_longer (declared_name c.args.declared.now) c.in_err-write_piece.ensures))

pub returns-in_err-write_piece-2 : goal.returns-in_err-write_piece-2
returns-in_err-write_piece-2 g c =
    wrote_fails _ c.from_residual-in_err-write_piece-2.ensures.0 (wrote_longer (codes "`.\n") (wrote_both c.in_ok-write_piece.ensures (wrote_same _ (c.bytes.ensures ∙ c.name.ensures) c.in_err-write_piece-2.ensures)))

pub returns : goal.returns
returns g c =
    wrote_both (wrote_both c.in_ok-write_piece.ensures (wrote_same _ (c.bytes.ensures ∙ c.name.ensures) c.in_ok-write_piece-2.ensures)) c.write_piece-3.ensures
