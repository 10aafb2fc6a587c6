use Rattle.std.proofs.Common.{◌≡◌, take}
use Rattle.std.specs.List.{flat_map}
use Rattle.lang_base.specs.SourceFaults.{least}
use Rattle.lang_rules.specs.Rules.{method_faults}
use Rattle.lang_rules.proofs.methods.fault_in_methods.Given as goal

abbrev pub invariant-loop-method : goal.invariant-loop-method
invariant-loop-method l = l.fault ≡ least (flat_map (method_faults l.decls) (take l.method-index l.methods))
