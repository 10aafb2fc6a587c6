use Rattle.lang_printer.specs.Canonical.{literal_text}
use Rattle.base_io.proofs.Writing.{wrote_both, wrote_fails, wrote_longer, wrote_same}
use Rattle.emit_choices.proofs.lists.write_test.Goals as goal

pub returns-in_err-write_piece : goal.returns-in_err-write_piece
returns-in_err-write_piece g c = wrote_fails _ c.from_residual.ensures.0 (wrote_longer (literal_text c.args.limit.now.bound) (wrote_same _ (c.limit_sign_bytes.ensures) c.in_err-write_piece.ensures))

pub returns : goal.returns
returns g c = wrote_both (wrote_same _ (c.limit_sign_bytes.ensures) c.in_ok-write_piece.ensures) c.write_literal.ensures
