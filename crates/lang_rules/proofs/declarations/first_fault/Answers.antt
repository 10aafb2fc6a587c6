use Rattle.std.proofs.Common.{arith, rules}
use Rattle.lang_base.proofs.Least.{least_all, least_turn}
use Rattle.lang_base.specs.SourceFaults.{order}
use Rattle.lang_rules.proofs.declarations.first_fault.Goals as goal

pub loop-decl-preserved : goal.loop-decl-preserved
loop-decl-preserved g c =
    least_turn order g.R.DeclRule.faults c.args.decls.now c.loop-decl.decl-index c.decl-item.result _ _ _ (search rules) c.decl-item.is c.loop-decl.invariant c.fault_of.ensures c.earlier_of-fault.ensures

pub returns : goal.returns
returns g c = least_all order g.R.DeclRule.faults c.args.decls.now c.loop-decl.decl-index _ (omega arith) c.loop-decl.invariant
