use Rattle.std.proofs.Common.{◌≡◌, List, take}
use Rattle.std.specs.List.{flat_map}
use Rattle.lang_forms.specs.declared.scope.Entry.{Entry}
use Rattle.lang_base.specs.SourceFaults.{least}
use Rattle.lang_rules.specs.Rules.{finding, misplaced}
use Rattle.lang_rules.proofs.statements.any_return.Given as goal

abbrev pub invariant-loop-statement : goal.invariant-loop-statement
invariant-loop-statement l = (scope : List Entry) → l.fault ≡ least (flat_map (λ statement. misplaced (finding scope statement).returns) (take l.statement-index l.statements))
