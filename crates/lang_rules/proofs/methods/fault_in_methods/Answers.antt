use Rattle.std.proofs.Common.{arith, rules}
use Rattle.lang_rules.specs.Rules.{method_faults}
use Rattle.lang_base.proofs.Least.{least_all, least_turn}
use Rattle.lang_base.specs.SourceFaults.{order}
use Rattle.lang_rules.proofs.methods.fault_in_methods.Goals as goal

pub loop-method-preserved : goal.loop-method-preserved
loop-method-preserved c =
    least_turn order (method_faults c.args.decls.now) c.args.methods.now c.loop-method.method-index c.method-item.result _ _ _ (search rules) c.method-item.is c.loop-method.invariant c.in_ok-fault_in_method.ensures c.earlier_of-fault.ensures

pub returns : goal.returns
returns c = least_all order (method_faults c.args.decls.now) c.args.methods.now c.loop-method.method-index _ (omega arith) c.loop-method.invariant
