-- What is found of an expression, by its forms.
use Rattle.std.proofs.Common.{◌≡◌, ℕ, Bool, List, [], ◌∷◌, map, refl, sym, ap, ◌∙◌}
use Rattle.lang_tree.specs.declared.tree.Op.{Op}
use Rattle.lang_tree.specs.declared.tree.Expr.{Expr}
use Rattle.lang_tree.specs.declared.tree.Factor.{Factor}
use Rattle.lang_tree.specs.declared.tree.Addend.{Addend}
use Rattle.lang_tree.specs.declared.tree.Expr.TheVariants as exprs
use Rattle.lang_tree.specs.declared.tree.Expr.TheOpen as layers
use Rattle.lang_tree.specs.declared.tree.Expr.TheFolds.{fold-roll-Expr, fold-Addend, fold-Factor, fold_out-Addend, fold_out-Factor}
use Rattle.lang_forms.specs.declared.scope.Entry.{Entry}
use Rattle.lang_forms.specs.Sense.{Sense, AddendSense, FactorSense, sense, sense_step, addend_step, factor_step}
use Rattle.lang_forms.specs.inner.Parts.{addend_sense, factor_sense}

-- ---- the later parts of sums and products

abbrev pub found_addend : List Entry → Addend → AddendSense
found_addend scope = fold-Addend Sense AddendSense FactorSense (sense_step scope) addend_step factor_step

abbrev pub found_factor : List Entry → Factor → FactorSense
found_factor scope = fold-Factor Sense AddendSense FactorSense (sense_step scope) addend_step factor_step

pub addends : (scope : List Entry) (rest : List Addend) → map (found_addend scope) rest ≡ map (addend_sense scope) rest
addends scope [] = refl
addends scope (addend ∷ rest) =
    ap (λ first. first ∷ map (found_addend scope) rest) (fold_out-Addend Sense AddendSense FactorSense (sense_step scope) addend_step factor_step addend) ∙ ap (λ more. addend_sense scope addend ∷ more) (addends scope rest)

pub factors : (scope : List Entry) (rest : List Factor) → map (found_factor scope) rest ≡ map (factor_sense scope) rest
factors scope [] = refl
factors scope (factor ∷ rest) =
    ap (λ first. first ∷ map (found_factor scope) rest) (fold_out-Factor Sense AddendSense FactorSense (sense_step scope) addend_step factor_step factor) ∙ ap (λ more. factor_sense scope factor ∷ more) (factors scope rest)

-- ---- each form

pub sense-Number : (scope : List Entry) (at value : ℕ) → sense scope (exprs.Number at value) ≡ sense_step scope (layers.Number at value)
sense-Number scope at value = ap (sense scope) (sym (exprs.rolls-Number at value)) ∙ fold-roll-Expr Sense AddendSense FactorSense (sense_step scope) addend_step factor_step (layers.Number at value)

pub sense-Truth : (scope : List Entry) (at : ℕ) (value : Bool) → sense scope (exprs.Truth at value) ≡ sense_step scope (layers.Truth at value)
sense-Truth scope at value = ap (sense scope) (sym (exprs.rolls-Truth at value)) ∙ fold-roll-Expr Sense AddendSense FactorSense (sense_step scope) addend_step factor_step (layers.Truth at value)

pub sense-Named : (scope : List Entry) (at : ℕ) (name : List ℕ) → sense scope (exprs.Named at name) ≡ sense_step scope (layers.Named at name)
sense-Named scope at name = ap (sense scope) (sym (exprs.rolls-Named at name)) ∙ fold-roll-Expr Sense AddendSense FactorSense (sense_step scope) addend_step factor_step (layers.Named at name)

pub sense-Minus : (scope : List Entry) (at : ℕ) (of : Expr) → sense scope (exprs.Minus at of) ≡ sense_step scope (layers.Minus at (sense scope of))
sense-Minus scope at of = ap (sense scope) (sym (exprs.rolls-Minus at of)) ∙ fold-roll-Expr Sense AddendSense FactorSense (sense_step scope) addend_step factor_step (layers.Minus at of)

pub sense-Not : (scope : List Entry) (at : ℕ) (of : Expr) → sense scope (exprs.Not at of) ≡ sense_step scope (layers.Not at (sense scope of))
sense-Not scope at of = ap (sense scope) (sym (exprs.rolls-Not at of)) ∙ fold-roll-Expr Sense AddendSense FactorSense (sense_step scope) addend_step factor_step (layers.Not at of)

pub sense-Product : (scope : List Entry) (first : Expr) (rest : List Factor) → sense scope (exprs.Product first rest) ≡ sense_step scope (layers.Product (sense scope first) (map (factor_sense scope) rest))
sense-Product scope first rest =
    ap (sense scope) (sym (exprs.rolls-Product first rest))
    ∙ fold-roll-Expr Sense AddendSense FactorSense (sense_step scope) addend_step factor_step (layers.Product first rest)
    ∙ ap (λ more. sense_step scope (layers.Product (sense scope first) more)) (factors scope rest)

pub sense-Sum : (scope : List Entry) (first : Expr) (rest : List Addend) → sense scope (exprs.Sum first rest) ≡ sense_step scope (layers.Sum (sense scope first) (map (addend_sense scope) rest))
sense-Sum scope first rest =
    ap (sense scope) (sym (exprs.rolls-Sum first rest))
    ∙ fold-roll-Expr Sense AddendSense FactorSense (sense_step scope) addend_step factor_step (layers.Sum first rest)
    ∙ ap (λ more. sense_step scope (layers.Sum (sense scope first) more)) (addends scope rest)

pub sense-Compare : (scope : List Entry) (op : Op) (left right : Expr) → sense scope (exprs.Compare op left right) ≡ sense_step scope (layers.Compare op (sense scope left) (sense scope right))
sense-Compare scope op left right = ap (sense scope) (sym (exprs.rolls-Compare op left right)) ∙ fold-roll-Expr Sense AddendSense FactorSense (sense_step scope) addend_step factor_step (layers.Compare op left right)

pub sense-Both : (scope : List Entry) (parts : List Expr) → sense scope (exprs.Both parts) ≡ sense_step scope (layers.Both (map (sense scope) parts))
sense-Both scope parts = ap (sense scope) (sym (exprs.rolls-Both parts)) ∙ fold-roll-Expr Sense AddendSense FactorSense (sense_step scope) addend_step factor_step (layers.Both parts)

pub sense-Either : (scope : List Entry) (parts : List Expr) → sense scope (exprs.Either parts) ≡ sense_step scope (layers.Either (map (sense scope) parts))
sense-Either scope parts = ap (sense scope) (sym (exprs.rolls-Either parts)) ∙ fold-roll-Expr Sense AddendSense FactorSense (sense_step scope) addend_step factor_step (layers.Either parts)
