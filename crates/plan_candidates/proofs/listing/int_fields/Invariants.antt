use Rattle.std.proofs.Common.{◌≡◌, ◌++◌, drop}
use Rattle.lang_monitor.specs.Candidates.{int_fields}
use Rattle.plan_candidates.proofs.listing.int_fields.Given as goal

abbrev pub invariant-loop-number : goal.invariant-loop-number
invariant-loop-number l = l.numbers.items ++ int_fields l.number (drop l.number l.fields) ≡ int_fields 0 l.fields
