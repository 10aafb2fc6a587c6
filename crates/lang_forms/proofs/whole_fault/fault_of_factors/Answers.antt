use Rattle.lang_forms.proofs.WholeFaults.{goes_on, int_at_index, int_limited, too_large}
use Rattle.std.proofs.Common.{sym, ap, ◌∙◌}
use Rattle.lang_tree.specs.declared.tree.Factor.{Factor}
use Rattle.lang_base.specs.SourceFaults.{least}
use Rattle.lang_forms.proofs.whole_fault.fault_of_factors.Goals as goal

pub multiply-product-requires-clause-right : goal.multiply-product-requires-clause-right
multiply-product-requires-clause-right c = int_limited c.args.scope.now c.factor-item.result.of c.in_ok-next.next c.requires.numbers (int_at_index c.args.scope.now (λ (factor : Factor). factor.of) c.args.rest.now c.loop-factor.factor-index c.factor-item.result c.factor-item.is c.loop-factor-test.true c.requires.rest) c.in_ok-next.ensures

pub returns-then-not-is_limited : goal.returns-then-not-is_limited
returns-then-not-is_limited c = sym (ap least c.loop-factor.invariant.same ∙ too_large c.args.scope.now c.args.at c.loop-factor.product c.in_ok-next.next c.multiply-product.result c.args.rest.now c.loop-factor.factor-index c.factor-item.result c.factor-item.is c.loop-factor-test.true c.in_ok-next.ensures (sym c.is_linear.ensures ∙ c.if-not-is_linear.false) c.multiply-product.ensures (sym c.is_limited.ensures ∙ c.if-not-is_limited.true))

pub loop-factor-preserved : goal.loop-factor-preserved
loop-factor-preserved c = record {
  limited = sym c.is_limited.ensures ∙ c.if-not-is_limited.false;
  same = c.loop-factor.invariant.same ∙ goes_on c.args.scope.now c.args.at c.loop-factor.product c.in_ok-next.next c.multiply-product.result c.args.rest.now c.loop-factor.factor-index c.factor-item.result c.factor-item.is c.loop-factor-test.true c.in_ok-next.ensures (sym c.is_linear.ensures ∙ c.if-not-is_linear.false) c.multiply-product.ensures (sym c.is_limited.ensures ∙ c.if-not-is_limited.false);
}
