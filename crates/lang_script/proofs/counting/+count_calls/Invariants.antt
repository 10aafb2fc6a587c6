use Rattle.std.proofs.Common.{◌≡◌, min, take}
use Rattle.std.specs.Prelude.{sum_by}
use Rattle.lang_script.specs.Scripts.{call_count}
use Rattle.lang_script.specs.inner.Counting.{ABOVE}
use Rattle.lang_script.proofs.counting.+count_calls.Given as goal

abbrev pub invariant-count_each-loop-item : goal.invariant-count_each-loop-item
invariant-count_each-loop-item l = l.count ≡ min (sum_by call_count (take l.item-index l.items)) ABOVE
