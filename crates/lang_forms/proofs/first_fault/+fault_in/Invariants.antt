use Rattle.std.proofs.Common.{◌≡◌, take}
use Rattle.std.specs.List.{flat_map}
use Rattle.lang_base.specs.SourceFaults.{least}
use Rattle.lang_forms.specs.Sense.{sense}
use Rattle.lang_forms.proofs.first_fault.+fault_in.Given as goal

abbrev pub invariant-fault_in_factors-loop-factor : goal.invariant-fault_in_factors-loop-factor
invariant-fault_in_factors-loop-factor l = l.fault ≡ least (flat_map (λ factor. (sense l.scope factor.of).faults) (take l.factor-index l.factors))

abbrev pub invariant-fault_in_addends-loop-addend : goal.invariant-fault_in_addends-loop-addend
invariant-fault_in_addends-loop-addend l = l.fault ≡ least (flat_map (λ addend. (sense l.scope addend.of).faults) (take l.addend-index l.addends))

abbrev pub invariant-fault_in_parts-loop-part : goal.invariant-fault_in_parts-loop-part
invariant-fault_in_parts-loop-part l = l.fault ≡ least (flat_map (λ part. (sense l.scope part).faults) (take l.part-index l.parts))
