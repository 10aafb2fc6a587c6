-- An expression is worked out to what it stands for.
use Rattle.std.proofs.Common.{◌≡◌, ℤ, neg_ℤ, ◌+ℤ◌, ◌*ℤ◌, List, [], ◌∷◌, map, refl, sym, ap, ◌∙◌}
use Rattle.std.specs.Prelude.{fold, not}
use Rattle.std.specs.List.{list_all, list_any}
use Rattle.lang_tree.specs.declared.tree.Addend.{Addend, roll-Addend}
use Rattle.lang_tree.specs.declared.tree.Factor.{Factor, roll-Factor}
use Rattle.lang_tree.specs.declared.tree.Expr.{Expr, roll-Expr}
use Rattle.lang_tree.specs.declared.tree.Expr.TheOpen.{Expr-F, Addend-F, Factor-F, Number, Truth, Named, Minus, Not, Product, Sum, Compare, Both, Either}
use Rattle.lang_tree.specs.declared.tree.Expr.TheFolds.{fold-Addend, fold-Factor, fold-roll-Expr, fold-roll-Addend, fold-roll-Factor, map-Expr, ind-Expr}
use Rattle.std.proofs.Common.{subst}
use Rattle.logic_linear.specs.Truth.{Valuation}
use Rattle.lang_forms.specs.declared.scope.Entry.{Entry}
use Rattle.lang_forms.specs.Scope.{signed}
use Rattle.lang_forms.specs.Plain.{Plain, number, truth, number_in, truth_in, compared, plain_step, plain_value, addend_value, factor_value}
use Rattle.emit_numbers.specs.Widths.{Worked, WorkedPart, worked, worked_step, worked_addend, worked_factor}

-- what is made of each element by two ways
same_mapped : {X Y Z : Type 0} (P : X → Type 0) (by : Y → Z) (one : X → Y) (other : X → Z) → ((x : X) → P x → by (one x) ≡ other x) → (xs : List ((x : X) × P x))
    → map by (map one (map (λ x. x.0) xs)) ≡ map other (map (λ x. x.0) xs)
same_mapped P by one other same [] = refl
same_mapped P by one other same (x ∷ xs) = λ i. same x.0 x.1 i ∷ same_mapped P by one other same xs i

module _ (scope : List Entry) (valuation : Valuation) where
  abbrev pub worked_of : Expr → Worked
  worked_of = worked scope valuation

  abbrev pub worked_of_addend : Addend → WorkedPart
  worked_of_addend = fold-Addend Worked WorkedPart WorkedPart (worked_step scope valuation) worked_addend worked_factor

  abbrev pub worked_of_factor : Factor → WorkedPart
  worked_of_factor = fold-Factor Worked WorkedPart WorkedPart (worked_step scope valuation) worked_addend worked_factor

  abbrev plain_of : Expr → Plain
  plain_of = plain_value scope valuation

  abbrev plain_of_addend : Addend → ℤ
  plain_of_addend = fold-Addend Plain ℤ ℤ (plain_step scope valuation) addend_value factor_value

  abbrev plain_of_factor : Factor → ℤ
  plain_of_factor = fold-Factor Plain ℤ ℤ (plain_step scope valuation) addend_value factor_value

  abbrev pub worked_layer : Expr-F Expr Addend Factor → Worked
  worked_layer layer = worked_step scope valuation (map-Expr Expr Addend Factor Worked WorkedPart WorkedPart worked_of worked_of_addend worked_of_factor layer)

  abbrev plain_layer : Expr-F Expr Addend Factor → Plain
  plain_layer layer = plain_step scope valuation (map-Expr Expr Addend Factor Plain ℤ ℤ plain_of plain_of_addend plain_of_factor layer)

  abbrev IsWorth : Expr → Type 0
  IsWorth expression = (worked_of expression).value ≡ plain_of expression

  abbrev AddendWorth : Addend → Type 0
  AddendWorth addend = (worked_of_addend addend).value ≡ plain_of_addend addend

  abbrev FactorWorth : Factor → Type 0
  FactorWorth factor = (worked_of_factor factor).value ≡ plain_of_factor factor

  abbrev Part : Type 0
  Part = (expression : Expr) × IsWorth expression

  abbrev AddendPart : Type 0
  AddendPart = (addend : Addend) × AddendWorth addend

  abbrev FactorPart : Type 0
  FactorPart = (factor : Factor) × FactorWorth factor

  abbrev bare_layer : Expr-F Part AddendPart FactorPart → Expr-F Expr Addend Factor
  bare_layer = map-Expr Part AddendPart FactorPart Expr Addend Factor (λ part. part.0) (λ part. part.0) (λ part. part.0)

  layer_worth : (y : Expr-F Part AddendPart FactorPart) → (worked_layer (bare_layer y)).value ≡ plain_layer (bare_layer y)
  layer_worth (Number at value) = refl
  layer_worth (Truth at value) = refl
  layer_worth (Named at name) = refl
  layer_worth (Minus at of) = ap (λ p. number (neg_ℤ (number_in p))) of.1
  layer_worth (Not at of) = ap (λ p. truth (not (truth_in p))) of.1
  layer_worth (Product first rest) =
      let later = same_mapped FactorWorth (λ part. part.value) worked_of_factor plain_of_factor (λ x is. is) rest in
      λ i. number (fold ◌*ℤ◌ (number_in (first.1 i)) (later i))
  layer_worth (Sum first rest) =
      let later = same_mapped AddendWorth (λ part. part.value) worked_of_addend plain_of_addend (λ x is. is) rest in
      λ i. number (fold ◌+ℤ◌ (number_in (first.1 i)) (later i))
  layer_worth (Compare op left right) = λ i. truth (compared op (number_in (left.1 i)) (number_in (right.1 i)))
  layer_worth (Both parts) = ap (λ list. truth (list_all (λ part. truth_in part) list)) (same_mapped IsWorth (λ part. part.value) worked_of plain_of (λ x is. is) parts)
  layer_worth (Either parts) = ap (λ list. truth (list_any (λ part. truth_in part) list)) (same_mapped IsWorth (λ part. part.value) worked_of plain_of (λ x is. is) parts)

  pub worked_rolled : (x : Expr-F Expr Addend Factor) → worked_of (roll-Expr x) ≡ worked_layer x
  worked_rolled x = fold-roll-Expr Worked WorkedPart WorkedPart (worked_step scope valuation) worked_addend worked_factor x

  roll_worth : (x : Expr-F Expr Addend Factor) → (worked_layer x).value ≡ plain_layer x → IsWorth (roll-Expr x)
  roll_worth x is = ap (λ (w : Worked). w.value) (worked_rolled x) ∙ is ∙ sym (fold-roll-Expr Plain ℤ ℤ (plain_step scope valuation) addend_value factor_value x)

  pub worked_addend_rolled : (x : Addend-F Expr Addend Factor) → worked_of_addend (roll-Addend x) ≡ record { value = signed x.minus (number_in (worked_of x.of).value); made = (worked_of x.of).made }
  worked_addend_rolled x = fold-roll-Addend Worked WorkedPart WorkedPart (worked_step scope valuation) worked_addend worked_factor x

  pub worked_factor_rolled : (x : Factor-F Expr Addend Factor) → worked_of_factor (roll-Factor x) ≡ record { value = number_in (worked_of x.of).value; made = (worked_of x.of).made }
  worked_factor_rolled x = fold-roll-Factor Worked WorkedPart WorkedPart (worked_step scope valuation) worked_addend worked_factor x

  addend_worth : (x : Addend-F Expr Addend Factor) → IsWorth x.of → AddendWorth (roll-Addend x)
  addend_worth x is =
      ap (λ (w : WorkedPart). w.value) (worked_addend_rolled x) ∙ ap (λ p. signed x.minus (number_in p)) is
      ∙ sym (fold-roll-Addend Plain ℤ ℤ (plain_step scope valuation) addend_value factor_value x)

  factor_worth : (x : Factor-F Expr Addend Factor) → IsWorth x.of → FactorWorth (roll-Factor x)
  factor_worth x is =
      ap (λ (w : WorkedPart). w.value) (worked_factor_rolled x) ∙ ap (λ p. number_in p) is
      ∙ sym (fold-roll-Factor Plain ℤ ℤ (plain_step scope valuation) addend_value factor_value x)

  pub worked_worth : (expression : Expr) → (worked_of expression).value ≡ plain_value scope valuation expression
  worked_worth =
      ind-Expr IsWorth AddendWorth FactorWorth
      (λ x y is. subst (λ (z : Expr-F Expr Addend Factor). IsWorth (roll-Expr z)) is (roll_worth (bare_layer y) (layer_worth y)))
      (λ x y is. subst (λ (z : Addend-F Expr Addend Factor). AddendWorth (roll-Addend z)) is (addend_worth (record { minus = y.minus; of = y.of.0 }) y.of.1))
      (λ x y is. subst (λ (z : Factor-F Expr Addend Factor). FactorWorth (roll-Factor z)) is (factor_worth (record { at = y.at; of = y.of.0 }) y.of.1))
