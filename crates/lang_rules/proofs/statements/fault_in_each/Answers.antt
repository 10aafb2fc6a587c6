use Rattle.std.proofs.Common.{arith, rules}
use Rattle.lang_rules.specs.Rules.{finding}
use Rattle.lang_base.proofs.Least.{least_all, least_turn}
use Rattle.lang_base.specs.SourceFaults.{order}
use Rattle.lang_rules.proofs.statements.fault_in_each.Goals as goal

pub loop-statement-preserved : goal.loop-statement-preserved
loop-statement-preserved c =
    least_turn order (λ s. (finding c.args.scope.now s).faults) c.args.body.now c.loop-statement.statement-index c.statement-item.result _ _ _ (search rules) c.statement-item.is c.loop-statement.invariant c.in_ok-fault_in_statement.ensures c.earlier_of-fault.ensures

pub returns : goal.returns
returns c = least_all order (λ s. (finding c.args.scope.now s).faults) c.args.body.now c.loop-statement.statement-index _ (omega arith) c.loop-statement.invariant
