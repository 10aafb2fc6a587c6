use Rattle.std.proofs.Common.{map}
use Rattle.std.specs.Prelude.{is_some}
use Rattle.report_tally.proofs.ConditionLines.{IsReading}
use Rattle.report_tally.proofs.answering.read_conditions.Given as goal

abbrev pub invariant-loop-index : goal.invariant-loop-index
invariant-loop-index l = IsReading l.monitor l.plan (map is_some l.marked) l.bytes l.index l.counted.items l.answers.items l.rest
