use Rattle.std.proofs.Common.{◌≡◌, rules, refl, ◌∙◌, sym, subst}
use Rattle.std.specs.Prelude.{IfOk}
use Rattle.lang_tree.specs.declared.tree.Expr.TheViews.{the_lemmas}
use Rattle.lang_forms.specs.Forms.{Form}
use Rattle.lang_forms.proofs.FormTerms.{times_length}
use Rattle.lang_forms.proofs.MakingLemmas.{part_form_of, part_limited, addend_at, factor_at, sum_turn, sum_goes, sum_parts, sum_is, product_done, product_goes, product_parts, product_is, first_product, minus_part}
use Rattle.lang_forms.proofs.making.+flat_of.Goals as goal

pub add_all-add-requires-clause-length : goal.add_all-add-requires-clause-length
add_all-add-requires-clause-length t c =
    times_length c.args.scope.now c.loop-addend.sum.times c.loop-addend.invariant.of_scope ∙ sym (times_length c.args.scope.now c.in_ok-part.part.times (part_form_of c.args.scope.now c.addend-item.result.of c.in_ok-part.part c.requires.numbers c.in_ok-part.ensures))

pub add_all-add-requires-clause-limited : goal.add_all-add-requires-clause-limited
add_all-add-requires-clause-limited t c =
    part_limited c.args.scope.now c.addend-item.result.of c.in_ok-part.part c.requires.numbers (addend_at c.args.scope.now c.args.rest.now c.loop-addend.addend-index c.addend-item.result c.addend-item.is c.loop-addend-test.true c.requires.parts) c.in_ok-part.ensures

pub add_all-loop-addend-preserved : goal.add_all-loop-addend-preserved
add_all-loop-addend-preserved t c =
    let scope = c.args.scope.now in
    let addend = c.addend-item.result in
    let int = addend_at scope c.args.rest.now c.loop-addend.addend-index addend c.addend-item.is c.loop-addend-test.true c.requires.parts in
    let of_scope = part_form_of scope addend.of c.in_ok-part.part c.requires.numbers c.in_ok-part.ensures in
    let limited = part_limited scope addend.of c.in_ok-part.part c.requires.numbers int c.in_ok-part.ensures in
    record {
      done = sum_turn scope c.args.first c.loop-addend.sum c.in_ok-part.part _ c.args.rest.now c.loop-addend.addend-index addend c.addend-item.is c.loop-addend-test.true c.in_ok-part.ensures c.loop-addend.invariant.done c.add.ensures;
      of_scope = (sum_goes scope addend.minus c.loop-addend.addend-index c.loop-addend.sum c.in_ok-part.part _ c.loop-addend.invariant.of_scope of_scope c.loop-addend.invariant.within limited c.add.ensures).of_scope;
      within = (sum_goes scope addend.minus c.loop-addend.addend-index c.loop-addend.sum c.in_ok-part.part _ c.loop-addend.invariant.of_scope of_scope c.loop-addend.invariant.within limited c.add.ensures).within;
    }

pub flat_of-scale-requires-clause-limited : goal.flat_of-scale-requires-clause-limited
flat_of-scale-requires-clause-limited t c =
    part_limited c.args.scope.now c.get.result.now c.in_ok-flat-in-Minus.flat c.requires.numbers (minus_part c.args.scope.now c.args.expression.now _ c.get.result.now _ c.in-Minus.is c.get.ensures c.requires.fine) c.in_ok-flat-in-Minus.ensures

pub flat_of-flat_of-requires-in-Product : goal.flat_of-flat_of-requires-in-Product
flat_of-flat_of-requires-in-Product t c =
    let parts = product_parts c.args.scope.now c.args.expression.now _ c.get-in-Product.result.now _ _ c.in-Product.is c.get-in-Product.ensures refl c.requires.fine in
    (search (rules, the_lemmas), (c.requires.numbers, (parts.first_int.fine, parts.first_int.int)))

pub flat_of-multiply_all-requires : goal.flat_of-multiply_all-requires
flat_of-multiply_all-requires t c =
    let scope = c.args.scope.now in
    let parts = product_parts scope c.args.expression.now _ c.get-in-Product.result.now _ c.items.result.now c.in-Product.is c.get-in-Product.ensures c.items.ensures c.requires.fine in
    let limited = part_limited scope c.get-in-Product.result.now c.in_ok-first-in-Product.first c.requires.numbers parts.first_int c.in_ok-first-in-Product.ensures in
    let fine = first_product scope c.get-in-Product.result.now c.items.result.now c.in_ok-first-in-Product.first parts c.in_ok-first-in-Product.ensures in
    (search (rules, the_lemmas), (c.requires.numbers, (limited, (parts.rest_int, fine))))

pub flat_of-flat_of-requires-in-Sum : goal.flat_of-flat_of-requires-in-Sum
flat_of-flat_of-requires-in-Sum t c =
    let parts = sum_parts c.args.scope.now c.args.expression.now _ c.get-in-Sum.result.now _ _ c.in-Sum.is c.get-in-Sum.ensures refl c.requires.fine in
    (search (rules, the_lemmas), (c.requires.numbers, (parts.first_int.fine, parts.first_int.int)))

pub flat_of-add_all-requires : goal.flat_of-add_all-requires
flat_of-add_all-requires t c =
    let scope = c.args.scope.now in
    let parts = sum_parts scope c.args.expression.now _ c.get-in-Sum.result.now _ c.items-in-Sum.result.now c.in-Sum.is c.get-in-Sum.ensures c.items-in-Sum.ensures c.requires.fine in
    let of_scope = part_form_of scope c.get-in-Sum.result.now c.in_ok-first-in-Sum.first c.requires.numbers c.in_ok-first-in-Sum.ensures in
    let limited = part_limited scope c.get-in-Sum.result.now c.in_ok-first-in-Sum.first c.requires.numbers parts.first_int c.in_ok-first-in-Sum.ensures in
    (search (rules, the_lemmas), (c.requires.numbers, (of_scope, (limited, parts.rest_int))))

pub flat_of-returns-in_ok-first-in-Product : goal.flat_of-returns-in_ok-first-in-Product
flat_of-returns-in_ok-first-in-Product t c =
    subst (λ (form : Form). IfOk c.multiply_all.result (λ flat. flat ≡ form)) (product_is c.args.scope.now c.args.expression.now _ c.get-in-Product.result.now _ c.items.result.now c.in_ok-first-in-Product.first c.in-Product.is c.get-in-Product.ensures c.items.ensures c.in_ok-first-in-Product.ensures) c.multiply_all.ensures

pub flat_of-returns-in_ok-first-in-Sum : goal.flat_of-returns-in_ok-first-in-Sum
flat_of-returns-in_ok-first-in-Sum t c =
    subst (λ (form : Form). IfOk c.add_all.result (λ flat. flat ≡ form)) (sum_is c.args.scope.now c.args.expression.now _ c.get-in-Sum.result.now _ c.items-in-Sum.result.now c.in_ok-first-in-Sum.first c.in-Sum.is c.get-in-Sum.ensures c.items-in-Sum.ensures c.in_ok-first-in-Sum.ensures) c.add_all.ensures

pub multiply_all-multiply-product-requires-clause-right : goal.multiply_all-multiply-product-requires-clause-right
multiply_all-multiply-product-requires-clause-right t c =
    part_limited c.args.scope.now c.factor-item.result.of c.in_ok-flat_of.field-0 c.requires.numbers (factor_at c.args.scope.now c.args.rest.now c.loop-factor.factor-index c.factor-item.result c.factor-item.is c.loop-factor-test.true c.requires.parts) c.in_ok-flat_of.ensures

pub multiply_all-loop-factor-preserved : goal.multiply_all-loop-factor-preserved
multiply_all-loop-factor-preserved t c =
    let scope = c.args.scope.now in
    let factor = c.factor-item.result in
    let at = c.loop-factor.invariant.fine.0 in
    let goes = product_goes scope at c.loop-factor.product c.in_ok-flat_of.field-0 _ c.args.rest.now c.loop-factor.factor-index factor c.factor-item.is c.loop-factor-test.true c.in_ok-flat_of.ensures c.loop-factor.invariant.fine.1 c.multiply-product.ensures in
    record {
      done = product_done scope c.args.first c.loop-factor.product c.in_ok-flat_of.field-0 _ c.args.rest.now c.loop-factor.factor-index factor c.factor-item.is c.loop-factor-test.true c.in_ok-flat_of.ensures c.loop-factor.invariant.done c.multiply-product.ensures;
      limited = goes.limited;
      fine = (at, goes.fine);
    }
