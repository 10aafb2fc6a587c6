use Rattle.std.proofs.Common.{◌≡◌, take}
use Rattle.report_tally.specs.inner.Lines.{left_out}
use Rattle.report_tally.proofs.finding.left_out.Given as goal

abbrev pub invariant-loop-index : goal.invariant-loop-index
invariant-loop-index l = l.counted.items ≡ left_out l.found (take l.index l.kinds)
