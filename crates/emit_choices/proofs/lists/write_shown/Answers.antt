use Rattle.emit_choices.specs.Lists.{test_text}
use Rattle.base_io.proofs.Writing.{wrote_both, wrote_fails, wrote_longer, wrote_same}
use Rattle.emit_choices.proofs.lists.write_shown.Goals as goal

pub returns-in_err-write_piece : goal.returns-in_err-write_piece
returns-in_err-write_piece g c = wrote_fails _ c.from_residual.ensures.0 (wrote_longer (test_text c.args.limit.now) (wrote_same _ (c.bytes.ensures) c.in_err-write_piece.ensures))

pub returns : goal.returns
returns g c = wrote_both (wrote_same _ (c.bytes.ensures) c.in_ok-write_piece.ensures) c.write_test.ensures
