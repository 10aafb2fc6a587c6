use Rattle.base_io.proofs.Writing.{wrote_both}
use Rattle.report_failures.proofs.writing.write_failing_finding.Goals as goal

pub returns : goal.returns
returns g c = wrote_both c.in_ok-write_finding.ensures c.write_failure.ensures
