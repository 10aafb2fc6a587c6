use Rattle.std.proofs.Common.{◌≡◌, ◌++◌}
use Rattle.std.specs.List.{flat_map, range_with_len}
use Rattle.machine_events.specs.Plans.{notes_at}
use Rattle.plan_place.specs.Relayed.{note_on}
use Rattle.report_tally.specs.CountedReports.{note_questions}
use Rattle.report_tally.proofs.owed.push_blocks.Given as goal

abbrev pub invariant-loop-index : goal.invariant-loop-index
invariant-loop-index l =
    l.owed.items ≡ l.fn.owed.items ++ flat_map (λ block. note_questions l.condition l.row block (note_on (notes_at l.plan block) l.condition)) (range_with_len 0 l.index)
