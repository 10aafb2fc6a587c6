use Rattle.std.proofs.Common.{List, [], ◌∷◌, ◌++◌, ◌∙◌, ap, sym, subst}
use Rattle.logic_linear.specs.declared.formula.Formula.{Formula}
use Rattle.logic_linear.specs.Substitution.{is_formula_within}
use Rattle.logic_wp.specs.inner.Backward.{ArePartsOf}
use Rattle.logic_wp.proofs.BodyParts.{end_beyond, end_parts, whole_body}
use Rattle.logic_wp.proofs.Parts.{held, not_held, value_is}
use Rattle.logic_wp.proofs.backward.parts_of_body.Goals as goal

pub returns-in_default : goal.returns-in_default
returns-in_default c =
    let negated = c.in_ok-negated.negated in
    end_beyond c.args.post.now c.args.body.now
    (ap is_formula_within (sym c.in_ok-negated.ensures) ∙ not_held (is_formula_within negated) negated (sym c.where_within.ensures ∙ c.in_default.is))

pub returns : goal.returns
returns c =
    let post = c.args.post.now in
    let negated = c.in_ok-negated.negated in
    let found = sym c.where_within.ensures ∙ c.in-Some.is in
    let is = value_is (is_formula_within negated) negated c.in-Some.end found ∙ c.in_ok-negated.ensures in
    let within = ap is_formula_within (sym c.in_ok-negated.ensures) ∙ held (is_formula_within negated) negated c.in-Some.end found in
    let ends = c.deref.ensures.value ∙ c.in_ok-push.ensures.items ∙ ap (λ (xs : List Formula). xs ++ c.in-Some.end ∷ []) c.new-ends.ensures.items in
    whole_body post c.args.body.now c.deref.result.now c.in_ok-before_body.field-0 (subst (ArePartsOf post ([] ∷ [])) (sym ends) (end_parts post c.in-Some.end is within)) c.in_ok-before_body.ensures
