use Rattle.std.proofs.Common.{◌++◌, Some, arith, rules, ◌∙◌, ap, sym}
use Rattle.lang_base.specs.SourceFaults.{least, order}
use Rattle.lang_base.specs.declared.kind.Kind.TheVariants as kinds
use Rattle.lang_forms.specs.Sense.{sense}
use Rattle.lang_rules.specs.Rules.{expected, finding, misplaced}
use Rattle.lang_rules.specs.inner.Parts.{branch_faults}
use Rattle.lang_base.proofs.Least.{least_all, least_both, least_turn}
use Rattle.lang_rules.proofs.Findings.{faults-If}
use Rattle.lang_rules.proofs.statements.+fault_in_statement.Goals as goal

pub fault_in_statement-returns-in_ok-otherwise-in-If : goal.fault_in_statement-returns-in_ok-otherwise-in-If
fault_in_statement-returns-in_ok-otherwise-in-If t c =
    let scope = c.args.scope.now in
    let chosen = c.in_ok-chosen-in-If.ensures ∙ ap (λ ss. least (branch_faults scope ss)) c.items.ensures in
    let otherwise = c.in_ok-otherwise-in-If.ensures ∙ ap (λ ss. least (branch_faults scope ss)) c.items-in-If.ensures in
    let inner = c.earlier_of.ensures ∙ least_both order _ _ (branch_faults scope c.in-If.«then») (branch_faults scope c.in-If.other) chosen otherwise in
    c.earlier_of-in-If.ensures ∙ least_both order _ _ (expected (Some kinds.Bool) (sense scope c.in-If.when)) (branch_faults scope c.in-If.«then» ++ branch_faults scope c.in-If.other) c.in_ok-condition-in-If.ensures inner
    ∙ ap least (sym (faults-If scope c.in-If.at c.in-If.when c.in-If.«then» c.in-If.other)) ∙ ap (λ s. least (finding scope s).faults) (sym c.in-If.is)

pub fault_in_branch-loop-statement-preserved : goal.fault_in_branch-loop-statement-preserved
fault_in_branch-loop-statement-preserved t c =
    let scope = c.args.scope.now in
    let this = c.earlier_of.ensures ∙ least_both order _ _ (finding scope c.statement-item.result).faults (misplaced (finding scope c.statement-item.result).returns) c.in_ok-inner.ensures (c.misplaced_return.ensures scope) in
    least_turn order (λ s. (finding scope s).faults ++ misplaced (finding scope s).returns) c.args.statements.now c.loop-statement.statement-index c.statement-item.result _ _ _ (search rules) c.statement-item.is c.loop-statement.invariant this c.earlier_of-fault.ensures

pub fault_in_branch-returns : goal.fault_in_branch-returns
fault_in_branch-returns t c =
    let scope = c.args.scope.now in
    least_all order (λ s. (finding scope s).faults ++ misplaced (finding scope s).returns) c.args.statements.now c.loop-statement.statement-index _ (omega arith) c.loop-statement.invariant
