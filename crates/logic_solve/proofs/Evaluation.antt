-- What forms and formulas are worth at a valuation, and numbers on the way that are outside 128 bits.
use Rattle.std.proofs.Common.{◌≡◌, ℕ, zero, suc, ◌+◌, ℤ, pos, ◌+ℤ◌, ◌*ℤ◌, ◌<◌, ◌≤◌, Bool, true, false, List, [], ◌∷◌, ◌++◌, length, take, map, get_or, Option, Some, None, FitsSigned, sym, ap, subst, refl, arith, ◌∙◌}
use Rattle.std.specs.Prelude.{int_le, SomeIff}
use Rattle.std.specs.List.{Contains, flat_map, list_all, list_any}
use Rattle.std.proofs.lemmas.Int.{ints}
use Rattle.std.proofs.lemmas.List.{take_all, take_more}
use Rattle.std.proofs.lemmas.List.Elements.{Contains-append_left, Contains-append_right, Contains-get_or}
use Rattle.std.proofs.lemmas.List.Folds.{list_all-map, list_all_at, list_any_at}
use mir.Syntax.{w128}
use Rattle.logic_linear.specs.declared.form.Term.{Term}
use Rattle.logic_linear.specs.declared.formula.Formula.{Formula}
use Rattle.logic_linear.specs.declared.formula.Formula.TheVariants as formulas
use Rattle.logic_linear.specs.declared.formula.Formula.TheOpen as layers
use Rattle.logic_linear.specs.declared.formula.Formula.TheFolds.{fold-roll-Formula}
use Rattle.logic_linear.specs.Linear.{Linear}
use Rattle.logic_linear.specs.Places.{rows_of, rows_layer}
use Rattle.logic_linear.specs.Sums.{fits_128}
use Rattle.logic_linear.specs.Truth.{Valuation, layer_truth, sum_of, truth_of, value_of}
use Rattle.logic_linear.proofs.MergeLemmas.{fits_answer}
use Rattle.logic_solve.specs.WideNumbers.{HasWideSum, IsComputed, IsWideForm, IsWideFormula, product, front}
use Rattle.logic_solve.specs.inner.Evaluating.{all_true, any_true, HasWidePart}

-- an element of an element's list
in_flat_map : {X Y : Type 0} (f : X → List Y) (xs : List X) (x : X) (y : Y) → Contains xs x → Contains (f x) y → Contains (flat_map f xs) y
in_flat_map f [] x y one within = absurd (omega (arith, one.1))
in_flat_map f (z ∷ xs) x y (zero, lt, is) within = Contains-append_left (f z) (flat_map f xs) y (subst (λ some. Contains (f some) y) (sym is) within)
in_flat_map f (z ∷ xs) x y (suc k, lt, is) within = Contains-append_right (f z) (flat_map f xs) y (in_flat_map f xs x y (k, omega (arith, lt), is) within)

pub computed : (found : Option ℤ) (x : ℤ) → SomeIff found (FitsSigned w128 x) x → IsComputed x (fits_128 x ≡ false) found
computed None x h = fits_answer None x x h refl
computed (Some value) x h = (fits_answer (Some value) x x h refl).0

pub none_is : {X : Type 0} (value : X) (wide : Type 0) (found : Option X) → found ≡ None → wide → IsComputed value wide found
none_is value wide found is so = subst (IsComputed value wide) (sym is) so

-- ---- sums

pub wide_product : (v : Valuation) (terms : List Term) (i : ℕ) (default : Term) → i < length terms → fits_128 ((get_or terms i default).times *ℤ v.number (get_or terms i default).place) ≡ false → HasWideSum v terms
wide_product v terms i default h wide = record { number = _; on_the_way = product (get_or terms i default) (Contains-get_or terms i default h); wide = wide }

pub wide_front : (v : Valuation) (terms : List Term) (count : ℕ) (sum : ℤ) → sum ≡ sum_of v (take count terms) → fits_128 sum ≡ false → HasWideSum v terms
wide_front v terms count sum is wide = record { number = _; on_the_way = front count; wide = ap fits_128 (sym is) ∙ wide }

-- ---- formulas

pub truth_of_row : (v : Valuation) (form : Linear) → truth_of v (formulas.Row form) ≡ int_le (value_of v form) (pos 0)
truth_of_row v form = ap (truth_of v) (sym (formulas.rolls-Row form)) ∙ fold-roll-Formula Bool (layer_truth v) (layers.Row form)

truth_of_all : (v : Valuation) (parts : List Formula) → truth_of v (formulas.All parts) ≡ all_true v parts
truth_of_all v parts = ap (truth_of v) (sym (formulas.rolls-All parts)) ∙ fold-roll-Formula Bool (layer_truth v) (layers.All parts)

truth_of_any : (v : Valuation) (parts : List Formula) → truth_of v (formulas.Any parts) ≡ any_true v parts
truth_of_any v parts = ap (truth_of v) (sym (formulas.rolls-Any parts)) ∙ fold-roll-Formula Bool (layer_truth v) (layers.Any parts)

row_rows : (form : Linear) → rows_of (formulas.Row form) ≡ form ∷ []
row_rows form = ap rows_of (sym (formulas.rolls-Row form)) ∙ fold-roll-Formula (List Linear) rows_layer (layers.Row form)

all_rows : (parts : List Formula) → rows_of (formulas.All parts) ≡ flat_map (λ rows. rows) (map rows_of parts)
all_rows parts = ap rows_of (sym (formulas.rolls-All parts)) ∙ fold-roll-Formula (List Linear) rows_layer (layers.All parts)

any_rows : (parts : List Formula) → rows_of (formulas.Any parts) ≡ flat_map (λ rows. rows) (map rows_of parts)
any_rows parts = ap rows_of (sym (formulas.rolls-Any parts)) ∙ fold-roll-Formula (List Linear) rows_layer (layers.Any parts)

same_parts : (parts : List Formula) → flat_map (λ rows. rows) (map rows_of parts) ≡ flat_map rows_of parts
same_parts [] = refl
same_parts (part ∷ parts) = ap (λ rest. rows_of part ++ rest) (same_parts parts)

pub in_row : (v : Valuation) (formula : Formula) (form : Linear) (held : Option Bool) → formula ≡ formulas.Row form → IsComputed (int_le (value_of v form) (pos 0)) (IsWideForm v form) held → IsComputed (truth_of v formula) (IsWideFormula v formula) held
in_row v formula form (Some whether) is so = so ∙ sym (ap (truth_of v) is ∙ truth_of_row v form)
in_row v formula form None is wide = record { row = form; there = subst (λ rows. Contains rows form) (sym (ap rows_of is ∙ row_rows form)) (Contains-get_or (form ∷ []) 0 form (omega arith)); wide = wide }

wide_parts : (v : Valuation) (formula : Formula) (parts : List Formula) → rows_of formula ≡ flat_map (λ rows. rows) (map rows_of parts) → HasWidePart v parts → IsWideFormula v formula
wide_parts v formula parts is has =
    let found = has.wide in
    record { row = found.row; there = subst (λ rows. Contains rows found.row) (sym (is ∙ same_parts parts)) (in_flat_map rows_of parts has.part found.row has.there found.there); wide = found.wide }

pub in_all : (v : Valuation) (formula : Formula) (parts : List Formula) (held : Option Bool) → formula ≡ formulas.All parts → IsComputed (all_true v parts) (HasWidePart v parts) held → IsComputed (truth_of v formula) (IsWideFormula v formula) held
in_all v formula parts (Some whether) is so = so ∙ sym (ap (truth_of v) is ∙ truth_of_all v parts)
in_all v formula parts None is has = wide_parts v formula parts (ap rows_of is ∙ all_rows parts) has

pub in_any : (v : Valuation) (formula : Formula) (parts : List Formula) (held : Option Bool) → formula ≡ formulas.Any parts → IsComputed (any_true v parts) (HasWidePart v parts) held → IsComputed (truth_of v formula) (IsWideFormula v formula) held
in_any v formula parts (Some whether) is so = so ∙ sym (ap (truth_of v) is ∙ truth_of_any v parts)
in_any v formula parts None is has = wide_parts v formula parts (ap rows_of is ∙ any_rows parts) has

pub wide_part : (v : Valuation) (parts : List Formula) (i : ℕ) (part : Formula) → i < length parts → part ≡ get_or parts i part → IsWideFormula v part → HasWidePart v parts
wide_part v parts i part h is wide = record { part = part; there = subst (Contains parts) (sym is) (Contains-get_or parts i part h); wide = wide }

-- ---- parts of a formula

pub all_stops : (v : Valuation) (parts : List Formula) (i : ℕ) (part : Formula) → i < length parts → part ≡ get_or parts i part → false ≡ truth_of v part → false ≡ all_true v parts
all_stops v parts i part h is held = sym (list_all-map (λ part. part) (truth_of v) parts ∙ list_all_at (truth_of v) parts i part h (ap (truth_of v) (sym is) ∙ sym held))

pub all_ends : (v : Valuation) (parts : List Formula) (i : ℕ) → length parts ≤ i → list_all (truth_of v) (take i parts) ≡ true → true ≡ all_true v parts
all_ends v parts i h held = sym (list_all-map (λ part. part) (truth_of v) parts ∙ ap (list_all (truth_of v)) (sym (take_all i parts h)) ∙ held)

any_mapped : (v : Valuation) (parts : List Formula) → any_true v parts ≡ list_any (truth_of v) parts
any_mapped v [] = refl
any_mapped v (part ∷ parts) = grind (arith, any_mapped v parts)

pub any_stops : (v : Valuation) (parts : List Formula) (i : ℕ) (part : Formula) → i < length parts → part ≡ get_or parts i part → true ≡ truth_of v part → true ≡ any_true v parts
any_stops v parts i part h is held = sym (any_mapped v parts ∙ list_any_at (truth_of v) parts i part h (ap (truth_of v) (sym is) ∙ sym held))

pub any_ends : (v : Valuation) (parts : List Formula) (i : ℕ) → length parts ≤ i → list_any (truth_of v) (take i parts) ≡ false → false ≡ any_true v parts
any_ends v parts i h held = sym (any_mapped v parts ∙ ap (list_any (truth_of v)) (sym (take_all i parts h)) ∙ held)

-- ---- sums

three : (a b c : ℤ) → a +ℤ (b +ℤ c) ≡ (a +ℤ b) +ℤ c
three a b c = omega (arith, ints)

alone : (a : ℤ) → a +ℤ pos 0 ≡ pos 0 +ℤ a
alone a = omega (arith, ints)

sum_push : (v : Valuation) (terms : List Term) (term : Term) → sum_of v (terms ++ term ∷ []) ≡ sum_of v terms +ℤ term.times *ℤ v.number term.place
sum_push v [] term = alone (term.times *ℤ v.number term.place)
sum_push v (first ∷ terms) term =
    ap (λ (rest : ℤ). first.times *ℤ v.number first.place +ℤ rest) (sum_push v terms term)
    ∙ three (first.times *ℤ v.number first.place) (sum_of v terms) (term.times *ℤ v.number term.place)

-- one more term
pub sum_more : (v : Valuation) (terms : List Term) (i : ℕ) (default : Term) → i < length terms → sum_of v (take (i + 1) terms) ≡ sum_of v (take i terms) +ℤ (get_or terms i default).times *ℤ v.number (get_or terms i default).place
sum_more v terms i default h = ap (sum_of v) (take_more terms i default h) ∙ sum_push v (take i terms) (get_or terms i default)
