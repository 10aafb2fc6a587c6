use Rattle.std.proofs.Common.{◌≡◌}
use Rattle.std.specs.List.{flat_map, range_with_len}
use Rattle.report_audit.specs.CountedFindings.{block_questions}
use Rattle.report_audit.proofs.counting.questions_of.Given as goal

abbrev pub invariant-loop-index : goal.invariant-loop-index
invariant-loop-index l = l.all.items ≡ flat_map (block_questions l.monitor l.plan l.condition l.row) (range_with_len 0 l.index)
