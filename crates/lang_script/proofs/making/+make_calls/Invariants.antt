use Rattle.std.proofs.Common.{◌≡◌, take}
use Rattle.std.specs.List.{flat_map}
use Rattle.lang_script.specs.Scripts.{calls_of_item}
use Rattle.lang_script.proofs.making.+make_calls.Given as goal

abbrev pub invariant-make_calls-loop-item : goal.invariant-make_calls-loop-item
invariant-make_calls-loop-item l = l.made.items ≡ flat_map (calls_of_item l.monitor) (take l.item-index l.items)
