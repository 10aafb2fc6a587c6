use Rattle.std.proofs.Common.{◌≡◌, ◌++◌, drop}
use Rattle.lang_monitor.specs.Candidates.{field_candidates}
use Rattle.plan_candidates.proofs.listing.push_of_fields.Given as goal

abbrev pub invariant-loop-number : goal.invariant-loop-number
invariant-loop-number l =
    l.candidates.items ++ field_candidates l.blocks l.number (drop l.number l.fields)
    ≡ l.fn.candidates.items ++ field_candidates l.blocks 0 l.fields
