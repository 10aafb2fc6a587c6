use Rattle.std.proofs.Common.{ap, sym}
use Rattle.base_io.proofs.Writing.{wrote_same}
use Rattle.lang_monitor.specs.declared.claim.Claim.{Claim}
use Rattle.report_failures.specs.FailureText.{claim_failure_text}
use Rattle.report_failures.proofs.writing.write_claim_failure.Goals as goal

pub returns-in-Keeps : goal.returns-in-Keeps
returns-in-Keeps g c =
    wrote_same _ (ap (λ (claim : Claim). claim_failure_text c.args.tree.now c.args.monitor.now claim c.args.failure) (sym c.in-Keeps.is)) c.write_kept.ensures
