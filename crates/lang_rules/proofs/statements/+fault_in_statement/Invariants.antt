use Rattle.std.proofs.Common.{◌≡◌, take}
use Rattle.lang_base.specs.SourceFaults.{least}
use Rattle.lang_rules.specs.inner.Parts.{branch_faults}
use Rattle.lang_rules.proofs.statements.+fault_in_statement.Given as goal

abbrev pub invariant-fault_in_branch-loop-statement : goal.invariant-fault_in_branch-loop-statement
invariant-fault_in_branch-loop-statement l = l.fault ≡ least (branch_faults l.scope (take l.statement-index l.statements))
