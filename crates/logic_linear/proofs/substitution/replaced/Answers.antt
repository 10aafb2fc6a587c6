use Rattle.std.proofs.Common.{sym, ◌∙◌, ap, rules}
use Rattle.std.specs.List.{list_all}
use Rattle.std.proofs.lemmas.Int.{to_z-of_z}
use mir.Syntax.{w128}
use mir.Val.{SFits}
use Rattle.logic_linear.specs.Substitution.{has_term_in_range}
use Rattle.logic_linear.proofs.ReplacedLemmas.{made_others_rise, made_sum, made_stops, made_passes, constant_is, replaced_is_linear, sum_found, sum_stops}
use Rattle.logic_linear.proofs.substitution.replaced.Goals as goal

pub combined_terms-requires-clause-left : goal.combined_terms-requires-clause-left
combined_terms-requires-clause-left c = made_others_rise c.args.place c.args.form.now c.deref.result.now c.in_ok-others.others.items c.terms.result.now c.terms.ensures.rule c.deref.ensures.value c.in_ok-others.ensures c.terms.ensures.terms

pub returns-in_default-2 : goal.returns-in_default-2
returns-in_default-2 c =
    let f : SFits w128 c.times_at-factor.result = search rules in
    sum_stops c.args.place c.args.by.now c.args.form.now c.terms.ensures.rule c.terms-2.ensures.rule
    (made_sum c.args.place c.args.by.now c.args.form.now c.times_at-factor.result c.deref.result.now c.in_ok-others.others.items c.terms.result.now c.terms-2.result.now _ c.times_at-factor.ensures
    c.deref.ensures.value c.in_ok-others.ensures c.terms.ensures.terms c.terms-2.ensures.terms (sym c.in_default-2.is ∙ simp to_z-of_z at c.in_ok-terms.ensures.sum))

pub returns-then-not-are_terms_in_range : goal.returns-then-not-are_terms_in_range
returns-then-not-are_terms_in_range c =
    let f : SFits w128 c.times_at-factor.result = search rules in
    made_stops c.args.place c.args.by.now c.args.form.now c.in-Some-2.terms c.items.result.now
    (sum_found c.args.place c.args.by.now c.args.form.now c.in-Some-2.terms
    (made_sum c.args.place c.args.by.now c.args.form.now c.times_at-factor.result c.deref.result.now c.in_ok-others.others.items c.terms.result.now c.terms-2.result.now _ c.times_at-factor.ensures
    c.deref.ensures.value c.in_ok-others.ensures c.terms.ensures.terms c.terms-2.ensures.terms (sym c.in-Some-2.is ∙ simp to_z-of_z at c.in_ok-terms.ensures.sum)))
    c.items.ensures (sym c.if-not-are_terms_in_range.true ∙ c.are_terms_in_range.ensures)

pub of-requires : goal.of-requires
of-requires c =
    let f : SFits w128 c.times_at-factor.result = search rules in
    let g : SFits w128 c.in-Some.constant = search rules in
    let found = sum_found c.args.place c.args.by.now c.args.form.now c.in-Some-2.terms
    (made_sum c.args.place c.args.by.now c.args.form.now c.times_at-factor.result c.deref.result.now c.in_ok-others.others.items c.terms.result.now c.terms-2.result.now _ c.times_at-factor.ensures
    c.deref.ensures.value c.in_ok-others.ensures c.terms.ensures.terms c.terms-2.ensures.terms (sym c.in-Some-2.is ∙ simp to_z-of_z at c.in_ok-terms.ensures.sum)) in
    simp to_z-of_z (replaced_is_linear c.args.place c.args.by.now c.args.form.now c.into_items.result.items c.in-Some.constant c.terms-2.ensures.rule c.terms.ensures.rule (c.into_items.ensures ∙ found)
    (ap (list_all has_term_in_range) (c.into_items.ensures ∙ sym c.items.ensures) ∙ sym c.are_terms_in_range.ensures ∙ c.if-not-are_terms_in_range.false) c.in-Some.ensures.1)

pub returns : goal.returns
returns c =
    let f : SFits w128 c.times_at-factor.result = search rules in
    let g : SFits w128 c.in-Some.constant = search rules in
    let a : SFits w128 c.constant.result = search rules in
    let b : SFits w128 c.constant-2.result = search rules in
    let found = sum_found c.args.place c.args.by.now c.args.form.now c.in-Some-2.terms
    (made_sum c.args.place c.args.by.now c.args.form.now c.times_at-factor.result c.deref.result.now c.in_ok-others.others.items c.terms.result.now c.terms-2.result.now _ c.times_at-factor.ensures
    c.deref.ensures.value c.in_ok-others.ensures c.terms.ensures.terms c.terms-2.ensures.terms (sym c.in-Some-2.is ∙ simp to_z-of_z at c.in_ok-terms.ensures.sum)) in
    let constant = simp to_z-of_z at c.of.ensures.constant in
    let terms = c.of.ensures.terms ∙ c.into_items.ensures in
    made_passes c.args.place c.args.by.now c.args.form.now c.of.result c.times_at-factor.result c.times_at-factor.ensures (terms ∙ found)
    (constant ∙ constant_is c.in-Some.constant c.constant.result c.constant-2.result c.times_at-factor.result c.args.form.now.constant c.args.by.now.constant (simp to_z-of_z at c.in-Some.ensures.0) c.constant.ensures.constant c.constant-2.ensures.constant)
    (ap (list_all has_term_in_range) (terms ∙ sym c.items.ensures) ∙ sym c.are_terms_in_range.ensures ∙ c.if-not-are_terms_in_range.false)
    (rw constant c.in-Some.ensures.1)
