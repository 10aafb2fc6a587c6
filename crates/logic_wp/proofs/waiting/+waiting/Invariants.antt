use Rattle.std.proofs.Common.{◌≡◌, take, map}
use Rattle.lang_monitor.specs.Queries.{for_waiting}
use Rattle.logic_wp.proofs.waiting.+waiting.Given as goal

abbrev pub invariant-waiting_parts-loop-part : goal.invariant-waiting_parts-loop-part
invariant-waiting_parts-loop-part l = l.moved.items ≡ map for_waiting (take l.part-index l.parts)
