use Rattle.std.proofs.Common.{◌||◌, ◌∙◌, ap, sym}
use Rattle.emit_expressions.specs.Expressions.{written}
use Rattle.emit_expressions.specs.inner.Parts.{later_factor, later_addend}
use Rattle.emit_expressions.proofs.Written.{any_stops, any_ends, any_goes, factor_named, addend_named, named-Product, named-Sum, named-parts}
use Rattle.emit_expressions.specs.Scopes.{seen}
use Rattle.emit_expressions.proofs.expressions.+is_named.Goals as goal

pub any_factor-loop-factor-preserved : goal.any_factor-loop-factor-preserved
any_factor-loop-factor-preserved t c =
    any_goes (λ factor. (later_factor (seen c.args.scope.now) factor).is_named) c.args.factors.now c.loop-factor.factor-index c.factor-item.result c.loop-factor-test.true c.factor-item.is
    (sym (factor_named (seen c.args.scope.now) c.factor-item.result) ∙ sym c.is_named.ensures ∙ c.if-is_named.false) c.loop-factor.invariant

pub any_factor-returns-then-is_named : goal.any_factor-returns-then-is_named
any_factor-returns-then-is_named t c =
    any_stops (λ factor. (later_factor (seen c.args.scope.now) factor).is_named) c.args.factors.now c.loop-factor.factor-index c.factor-item.result c.loop-factor-test.true c.factor-item.is
    (sym (factor_named (seen c.args.scope.now) c.factor-item.result) ∙ sym c.is_named.ensures ∙ c.if-is_named.true)

pub any_factor-returns : goal.any_factor-returns
any_factor-returns t c = any_ends (λ factor. (later_factor (seen c.args.scope.now) factor).is_named) c.args.factors.now c.loop-factor.factor-index c.loop-factor-test.false c.loop-factor.invariant

pub any_addend-loop-addend-preserved : goal.any_addend-loop-addend-preserved
any_addend-loop-addend-preserved t c =
    any_goes (λ addend. (later_addend (seen c.args.scope.now) addend).is_named) c.args.addends.now c.loop-addend.addend-index c.addend-item.result c.loop-addend-test.true c.addend-item.is
    (sym (addend_named (seen c.args.scope.now) c.addend-item.result) ∙ sym c.is_named.ensures ∙ c.if-is_named.false) c.loop-addend.invariant

pub any_addend-returns-then-is_named : goal.any_addend-returns-then-is_named
any_addend-returns-then-is_named t c =
    any_stops (λ addend. (later_addend (seen c.args.scope.now) addend).is_named) c.args.addends.now c.loop-addend.addend-index c.addend-item.result c.loop-addend-test.true c.addend-item.is
    (sym (addend_named (seen c.args.scope.now) c.addend-item.result) ∙ sym c.is_named.ensures ∙ c.if-is_named.true)

pub any_addend-returns : goal.any_addend-returns
any_addend-returns t c = any_ends (λ addend. (later_addend (seen c.args.scope.now) addend).is_named) c.args.addends.now c.loop-addend.addend-index c.loop-addend-test.false c.loop-addend.invariant

pub any_part-loop-part-preserved : goal.any_part-loop-part-preserved
any_part-loop-part-preserved t c =
    any_goes (λ part. (written (seen c.args.scope.now) part).is_named) c.args.parts.now c.loop-part.part-index c.part-item.result c.loop-part-test.true c.part-item.is
    (sym c.is_named.ensures ∙ c.if-is_named.false) c.loop-part.invariant

pub any_part-returns-then-is_named : goal.any_part-returns-then-is_named
any_part-returns-then-is_named t c =
    any_stops (λ part. (written (seen c.args.scope.now) part).is_named) c.args.parts.now c.loop-part.part-index c.part-item.result c.loop-part-test.true c.part-item.is
    (sym c.is_named.ensures ∙ c.if-is_named.true)

pub any_part-returns : goal.any_part-returns
any_part-returns t c = any_ends (λ part. (written (seen c.args.scope.now) part).is_named) c.args.parts.now c.loop-part.part-index c.loop-part-test.false c.loop-part.invariant

pub is_named-returns-else-one : goal.is_named-returns-else-one
is_named-returns-else-one t c =
    sym (ap (λ t. t || c.any_factor-more.result) c.if-one.false)
    ∙ named-Product (seen c.args.scope.now) _ _ _ _ _ c.is_named-one.result c.any_factor-more.result c.in-Product.is c.get.ensures c.items.ensures c.is_named-one.ensures c.any_factor-more.ensures

pub is_named-returns-else-one-2 : goal.is_named-returns-else-one-2
is_named-returns-else-one-2 t c =
    sym (ap (λ t. t || c.any_addend-more.result) c.if-one-2.false)
    ∙ named-Sum (seen c.args.scope.now) _ _ _ _ _ c.is_named-one-in-Sum.result c.any_addend-more.result c.in-Sum.is c.get-in-Sum.ensures c.items-in-Sum.ensures c.is_named-one-in-Sum.ensures c.any_addend-more.ensures

pub is_named-returns-in-Both : goal.is_named-returns-in-Both
is_named-returns-in-Both t c = named-parts (seen c.args.scope.now) _ _ _ _ c.in-Both.is c.items-in-Both.ensures c.any_part.ensures
