use Rattle.std.proofs.Common.{◌≡◌, ◌≤◌, drop}
use Rattle.lang_base.specs.Limits.{CALLS}
use Rattle.lang_script.specs.inner.Counting.{counted}
use Rattle.lang_script.proofs.counting.calls_of_items.Given as goal

abbrev pub invariant-loop-item : goal.invariant-loop-item
invariant-loop-item l = (l.count ≤ CALLS) × (counted l.count (drop l.item-index l.items) ≡ counted l.before l.items)
