use Rattle.std.proofs.Common.{◌≡◌, take}
use Rattle.std.specs.List.{flat_map}
use Rattle.lang_base.specs.SourceFaults.{least}
use Rattle.lang_rules.specs.Rules.{finding}
use Rattle.lang_rules.proofs.statements.fault_in_each.Given as goal

abbrev pub invariant-loop-statement : goal.invariant-loop-statement
invariant-loop-statement l = l.fault ≡ least (flat_map (λ statement. (finding l.scope statement).faults) (take l.statement-index l.body))
