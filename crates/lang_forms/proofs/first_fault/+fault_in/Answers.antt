use Rattle.std.proofs.Common.{◌≡◌, ℕ, List, Option, Result, Ok, Err, IfOk, sym, ap, ◌∙◌}
use Rattle.lang_tree.specs.declared.tree.Op.{Op}
use Rattle.lang_tree.specs.declared.tree.Expr.{Expr}
use Rattle.lang_tree.specs.declared.tree.Addend.{Addend}
use Rattle.lang_tree.specs.declared.tree.Factor.{Factor}
use Rattle.lang_tree.specs.declared.tree.Expr.TheVariants as exprs
use Rattle.lang_base.specs.declared.source_fault.SourceFault.{SourceFault}
use Rattle.lang_forms.specs.declared.scope.Entry.{Entry}
use Rattle.lang_base.specs.SourceFaults.{least, order}
use Rattle.lang_forms.specs.Sense.{sense}
use Rattle.lang_base.proofs.Least.{least_turn}
use Rattle.lang_forms.proofs.first_fault.+fault_in.Goals as goal

of_comparison : {E : Type 0} (scope : List Entry) (op : Op) (here there left right expression : Expr) (r : Result (Option SourceFault) E) → here ≡ left → there ≡ right → expression ≡ exprs.Compare op left right
    → IfOk r (λ fault. (op : Op) → fault ≡ least (sense scope (exprs.Compare op here there)).faults)
    → IfOk r (λ fault. fault ≡ least (sense scope expression).faults)
of_comparison scope op here there left right expression (Ok fault) here_is there_is is h =
    h op
    ∙ ap (λ one. least (sense scope (exprs.Compare op one there)).faults) here_is
    ∙ ap (λ other. least (sense scope (exprs.Compare op left other)).faults) there_is
    ∙ sym (ap (λ e. least (sense scope e).faults) is)
of_comparison scope op here there left right expression (Err error) here_is there_is is h = h

of_not : {E : Type 0} (scope : List Entry) (at : ℕ) (of expression : Expr) (r : Result (Option SourceFault) E) → expression ≡ exprs.Not at of
    → IfOk r (λ fault. (at : ℕ) → fault ≡ least (sense scope (exprs.Not at of)).faults)
    → IfOk r (λ fault. fault ≡ least (sense scope expression).faults)
of_not scope at of expression (Ok fault) is h = h at ∙ sym (ap (λ e. least (sense scope e).faults) is)
of_not scope at of expression (Err error) is h = h

pub fault_in-returns-in-Not : goal.fault_in-returns-in-Not
fault_in-returns-in-Not t c = of_not c.args.scope.now c.in-Not.at c.in-Not.of c.args.expression.now c.fault_in_not.result c.in-Not.is c.fault_in_not.ensures

pub fault_in_not-returns : goal.fault_in_not-returns
fault_in_not-returns t c = λ at. c.fault_of_not.ensures at ∙ ap (λ of. least (sense c.args.scope.now (exprs.Not at of)).faults) c.get-of.ensures

pub fault_in-returns-in_ok-other-in-Compare : goal.fault_in-returns-in_ok-other-in-Compare
fault_in-returns-in_ok-other-in-Compare t c =
    of_comparison c.args.scope.now c.in-Compare.op c.get-left.result.now c.get-right.result.now c.in-Compare.left c.in-Compare.right c.args.expression.now c.fault_of_comparison.result
    c.get-left.ensures c.get-right.ensures c.in-Compare.is c.fault_of_comparison.ensures

pub fault_in_factors-loop-factor-preserved : goal.fault_in_factors-loop-factor-preserved
fault_in_factors-loop-factor-preserved t c =
    least_turn order (λ (factor : Factor). (sense c.args.scope.now factor.of).faults) c.args.factors.now c.loop-factor.factor-index c.factor-item.result c.loop-factor.fault c.in_ok-fault_in.field-0 c.earlier_of-fault.result
    c.loop-factor-test.true c.factor-item.is c.loop-factor.invariant c.in_ok-fault_in.ensures c.earlier_of-fault.ensures

pub fault_in_addends-loop-addend-preserved : goal.fault_in_addends-loop-addend-preserved
fault_in_addends-loop-addend-preserved t c =
    least_turn order (λ (addend : Addend). (sense c.args.scope.now addend.of).faults) c.args.addends.now c.loop-addend.addend-index c.addend-item.result c.loop-addend.fault c.in_ok-fault_in.field-0 c.earlier_of-fault.result
    c.loop-addend-test.true c.addend-item.is c.loop-addend.invariant c.in_ok-fault_in.ensures c.earlier_of-fault.ensures

pub fault_in_parts-loop-part-preserved : goal.fault_in_parts-loop-part-preserved
fault_in_parts-loop-part-preserved t c =
    least_turn order (λ (part : Expr). (sense c.args.scope.now part).faults) c.args.parts.now c.loop-part.part-index c.part-item.result c.loop-part.fault c.in_ok-fault_in.field-0 c.earlier_of-fault.result
    c.loop-part-test.true c.part-item.is c.loop-part.invariant c.in_ok-fault_in.ensures c.earlier_of-fault.ensures
