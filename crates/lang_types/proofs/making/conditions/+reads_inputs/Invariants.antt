use Rattle.std.proofs.Common.{◌≡◌, false, map, take}
use Rattle.std.specs.List.{list_any}
use Rattle.lang_monitor.specs.Inputs.{reads_inputs}
use Rattle.lang_types.proofs.making.conditions.+reads_inputs.Given as goal

abbrev pub invariant-any_reads_inputs-loop-part : goal.invariant-any_reads_inputs-loop-part
invariant-any_reads_inputs-loop-part l = list_any (λ part. part) (map reads_inputs (take l.part-index l.parts)) ≡ false
