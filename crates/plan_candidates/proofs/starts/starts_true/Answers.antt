use Rattle.std.proofs.Common.{refl}
use Rattle.lang_monitor.specs.declared.candidate.Candidate.TheVariants.{Flag}
use Rattle.plan_candidates.specs.inner.Starts.{starts}
use Rattle.plan_candidates.proofs.StartTruths.{flag_is}
use Rattle.plan_candidates.proofs.starts.starts_true.Goals as goal

pub returns-in-Flag : goal.returns-in-Flag
returns-in-Flag c = rw c.in-Flag.is (flag_is (starts c.args.fields.now) (Flag c.in-Flag.field c.in-Flag.is') c.in-Flag.field c.in-Flag.is' c.start_truth.result refl c.start_truth.ensures)
