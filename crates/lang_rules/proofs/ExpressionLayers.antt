-- What is found of an expression, by its outermost form, and induction over its parts.
use Rattle.std.proofs.Common.{◌≡◌, List, [], ◌∷◌, map, refl, sym, ap, subst, ◌∙◌, inl, inr}
use Rattle.std.specs.List.{Contains}
use Rattle.lang_tree.specs.declared.tree.Addend.{Addend, roll-Addend, out-roll-Addend}
use Rattle.lang_tree.specs.declared.tree.Factor.{Factor, roll-Factor, out-roll-Factor}
use Rattle.lang_tree.specs.declared.tree.Expr.{Expr, out-Expr, roll-Expr, out-roll-Expr}
use Rattle.lang_tree.specs.declared.tree.Expr.TheOpen.{Expr-F, Addend-F, Factor-F, Number, Truth, Named, Minus, Not, Product, Sum, Compare, Both, Either}
use Rattle.lang_tree.specs.declared.tree.Expr.TheFolds.{fold_out-Expr, map-Expr, ind-Expr}
use Rattle.lang_forms.specs.declared.scope.Entry.{Entry}
use Rattle.lang_forms.specs.Sense.{Sense, AddendSense, FactorSense, sense, sense_step, addend_step, factor_step}
use Rattle.lang_forms.specs.inner.Parts.{addend_sense, factor_sense}
use Rattle.lang_forms.proofs.SenseLayers.{addends, factors, found_addend, found_factor}
use Rattle.lang_rules.specs.Occurrences.{layer_parts, parts_of}
use Rattle.lang_base.proofs.Members.{first_or_later, from_map, none_in}

-- ---- what is found

abbrev pub sense_of_layer : List Entry → Expr-F Expr Addend Factor → Sense
sense_of_layer scope (Number at value) = sense_step scope (Number at value)
sense_of_layer scope (Truth at value) = sense_step scope (Truth at value)
sense_of_layer scope (Named at name) = sense_step scope (Named at name)
sense_of_layer scope (Minus at of) = sense_step scope (Minus at (sense scope of))
sense_of_layer scope (Not at of) = sense_step scope (Not at (sense scope of))
sense_of_layer scope (Product first rest) = sense_step scope (Product (sense scope first) (map (factor_sense scope) rest))
sense_of_layer scope (Sum first rest) = sense_step scope (Sum (sense scope first) (map (addend_sense scope) rest))
sense_of_layer scope (Compare op left right) = sense_step scope (Compare op (sense scope left) (sense scope right))
sense_of_layer scope (Both parts) = sense_step scope (Both (map (sense scope) parts))
sense_of_layer scope (Either parts) = sense_step scope (Either (map (sense scope) parts))

step_is : (scope : List Entry) (layer : Expr-F Expr Addend Factor) → sense_step scope (map-Expr Expr Addend Factor Sense AddendSense FactorSense (sense scope) (found_addend scope) (found_factor scope) layer) ≡ sense_of_layer scope layer
step_is scope (Number at value) = refl
step_is scope (Truth at value) = refl
step_is scope (Named at name) = refl
step_is scope (Minus at of) = refl
step_is scope (Not at of) = refl
step_is scope (Product first rest) = ap (λ more. sense_step scope (Product (sense scope first) more)) (factors scope rest)
step_is scope (Sum first rest) = ap (λ more. sense_step scope (Sum (sense scope first) more)) (addends scope rest)
step_is scope (Compare op left right) = refl
step_is scope (Both parts) = refl
step_is scope (Either parts) = refl

pub sense_is : (scope : List Entry) (expression : Expr) → sense scope expression ≡ sense_of_layer scope (out-Expr expression)
sense_is scope expression = fold_out-Expr Sense AddendSense FactorSense (sense_step scope) addend_step factor_step expression ∙ step_is scope (out-Expr expression)

-- ---- induction over parts

abbrev Layer : (Expr → Type 0) → Type 0
Layer P = Expr-F ((expression : Expr) × P expression) ((addend : Addend) × P addend.of) ((factor : Factor) × P factor.of)

abbrev bare_layer : (P : Expr → Type 0) → Layer P → Expr-F Expr Addend Factor
bare_layer P = map-Expr ((expression : Expr) × P expression) ((addend : Addend) × P addend.of) ((factor : Factor) × P factor.of) Expr Addend Factor (λ e. e.0) (λ e. e.0) (λ e. e.0)

one_part : (P : Expr → Type 0) (of part : Expr) → P of → Contains (of ∷ []) part → P part
one_part P of part holds within = elim (first_or_later of part [] within) [ inl is ↦ subst P is holds | inr more ↦ none_in part more ]

some_part : (P : Expr → Type 0) (parts : List ((expression : Expr) × P expression)) (part : Expr) → Contains (map (λ e. e.0) parts) part → P part
some_part P parts part within = let found = from_map (λ (e : (expression : Expr) × P expression). e.0) parts part within in subst P found.is found.from.1

some_factor : (P : Expr → Type 0) (rest : List ((factor : Factor) × P factor.of)) (part : Expr) → Contains (map (λ factor. factor.of) (map (λ e. e.0) rest)) part → P part
some_factor P rest part within =
    let factor = from_map (λ (factor : Factor). factor.of) (map (λ (e : (factor : Factor) × P factor.of). e.0) rest) part within in
    let found = from_map (λ (e : (factor : Factor) × P factor.of). e.0) rest factor.from factor.one in
    subst P (ap (λ (factor : Factor). factor.of) found.is ∙ factor.is) found.from.1

some_addend : (P : Expr → Type 0) (rest : List ((addend : Addend) × P addend.of)) (part : Expr) → Contains (map (λ addend. addend.of) (map (λ e. e.0) rest)) part → P part
some_addend P rest part within =
    let addend = from_map (λ (addend : Addend). addend.of) (map (λ (e : (addend : Addend) × P addend.of). e.0) rest) part within in
    let found = from_map (λ (e : (addend : Addend) × P addend.of). e.0) rest addend.from addend.one in
    subst P (ap (λ (addend : Addend). addend.of) found.is ∙ addend.is) found.from.1

in_layer : (P : Expr → Type 0) (layer : Layer P) (part : Expr) → Contains (layer_parts (bare_layer P layer)) part → P part
in_layer P (Number at value) part within = none_in part within
in_layer P (Truth at value) part within = none_in part within
in_layer P (Named at name) part within = none_in part within
in_layer P (Minus at of) part within = one_part P of.0 part of.1 within
in_layer P (Not at of) part within = one_part P of.0 part of.1 within
in_layer P (Product first rest) part within = elim (first_or_later first.0 part (map (λ factor. factor.of) (map (λ e. e.0) rest)) within) [ inl is ↦ subst P is first.1 | inr more ↦ some_factor P rest part more ]
in_layer P (Sum first rest) part within = elim (first_or_later first.0 part (map (λ addend. addend.of) (map (λ e. e.0) rest)) within) [ inl is ↦ subst P is first.1 | inr more ↦ some_addend P rest part more ]
in_layer P (Compare op left right) part within = elim (first_or_later left.0 part (right.0 ∷ []) within) [ inl is ↦ subst P is left.1 | inr more ↦ one_part P right.0 part right.1 more ]
in_layer P (Both parts) part within = some_part P parts part within
in_layer P (Either parts) part within = some_part P parts part within

-- what holds of an expression where it holds of its parts holds of each
pub by_parts : (P : Expr → Type 0) → ((expression : Expr) → ((part : Expr) → Contains (parts_of expression) part → P part) → P expression) → (expression : Expr) → P expression
by_parts P step =
    ind-Expr P (λ addend. P addend.of) (λ factor. P factor.of)
    (λ x y is. subst (λ (z : Expr-F Expr Addend Factor). P (roll-Expr z)) is (step (roll-Expr (bare_layer P y)) (λ part within. in_layer P y part (subst (λ (z : Expr-F Expr Addend Factor). Contains (layer_parts z) part) (out-roll-Expr (bare_layer P y)) within))))
    (λ x y is. subst (λ (z : Addend-F Expr Addend Factor). P (roll-Addend z).of) is (subst P (sym (ap (λ (layer : Addend-F Expr Addend Factor). layer.of) (out-roll-Addend (record { minus = y.minus; of = y.of.0 })))) y.of.1))
    (λ x y is. subst (λ (z : Factor-F Expr Addend Factor). P (roll-Factor z).of) is (subst P (sym (ap (λ (layer : Factor-F Expr Addend Factor). layer.of) (out-roll-Factor (record { at = y.at; of = y.of.0 })))) y.of.1))
