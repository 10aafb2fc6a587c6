use Rattle.emit_choices.specs.Lists.{test_text}
use Rattle.base_io.proofs.Writing.{wrote_both, wrote_fails, wrote_longer}
use Rattle.emit_choices.proofs.lists.write_tested.Goals as goal

pub returns-in_err-write_member : goal.returns-in_err-write_member
returns-in_err-write_member g c = wrote_fails _ c.from_residual.ensures.0 (wrote_longer (test_text c.args.limit.now) c.in_err-write_member.ensures)

pub returns : goal.returns
returns g c = wrote_both c.in_ok-write_member.ensures c.write_test.ensures
