-- The rules of expressions: a fault of an expression is one of a part of it, or a rule that it
-- breaks itself.
use Rattle.std.proofs.Common.{◌≡◌, ℕ, zero, suc, ◌<◌, Bool, true, false, List, [], ◌∷◌, map, refl, sym, ap, subst, arith, inl, inr, Option, Some, None}
use Rattle.std.specs.Prelude.{◌⊎◌, nat_lt, if◌then◌else◌}
use Rattle.std.specs.List.{All, Contains}
use Rattle.std.proofs.lemmas.List.Elements.{All-contains}
use Rattle.std.proofs.lemmas.Bool.Decides.{nat_tests}
use Rattle.lang_tree.specs.declared.tree.Addend.{Addend}
use Rattle.lang_tree.specs.declared.tree.Factor.{Factor}
use Rattle.lang_tree.specs.declared.tree.Expr.{Expr, out-Expr}
use Rattle.lang_tree.specs.declared.tree.Expr.TheOpen.{Expr-F, Number, Truth, Named, Minus, Not, Product, Sum, Compare, Both, Either}
use Rattle.lang_base.specs.Limits.{GREATEST_NUMBER}
use Rattle.lang_base.specs.declared.kind.Kind.TheVariants as kinds
use Rattle.lang_base.specs.declared.source_fault.SourceFault.{SourceFault}
use Rattle.lang_base.specs.declared.source_fault.Refusal.{Refusal}
use Rattle.lang_base.specs.declared.source_fault.Refusal.TheVariants as refusals
use Rattle.lang_forms.specs.declared.scope.Entry.{Entry}
use Rattle.lang_forms.specs.Scope.{entry_named}
use Rattle.lang_forms.specs.Forms.{minus, opposite}
use Rattle.lang_base.specs.SourceFaults.{fault_at, ◌or_else◌}
use Rattle.lang_forms.specs.Sense.{Sense, AddendSense, faults_in, first_in, form_in, large_form, large_number, part_faults, sense, unknown}
use Rattle.lang_forms.specs.inner.Parts.{addend_sense, broken_product, sum_from}
use Rattle.lang_rules.specs.Occurrences.{IsBelow, StandsIn, layer_parts, parts_of}
use Rattle.lang_rules.specs.Judgements.{Fit, IsFine, IsLarge, IsLargeNumber, IsNotLinear, IsOther, IsUnknownName, layer_kind}
use Rattle.lang_base.proofs.Members.{contains_head, none_in, only_in}
use Rattle.lang_rules.proofs.OrElse.{in_these, in_those, or_else_cases}
use Rattle.lang_rules.proofs.ExpressionLayers.{by_parts, sense_is, sense_of_layer}
use Rattle.lang_rules.proofs.PartRules.{InPart, WrongPart, fit_none, none_fit, part_cases, part_in, wrong_part_in}
use Rattle.lang_rules.proofs.ProductRules.{BreaksProduct, factor_senses, from_large_form, from_product, in_large_form, large_product_in, nonlinear_in}

-- ---- rules of names and numbers

pub record LargeNumber (at value : ℕ) (fault : SourceFault) : Type 0 where
  pub is : fault ≡ fault_at refusals.TooLarge at
  pub large : GREATEST_NUMBER < value

greatest : (bound value : ℕ) → nat_lt bound value ≡ true → bound < value
greatest bound value test = grind (arith, nat_tests)

pub from_large_number : (at value : ℕ) (fault : SourceFault) → Contains (large_number at value) fault → LargeNumber at value fault
from_large_number at value fault within = by_test (nat_lt GREATEST_NUMBER value) refl within
  where
    by_test : (test : Bool) → nat_lt GREATEST_NUMBER value ≡ test → Contains (if test then fault_at refusals.TooLarge at ∷ [] else []) fault → LargeNumber at value fault
    by_test true large within = record { is = sym (only_in (fault_at refusals.TooLarge at) fault within); large = greatest GREATEST_NUMBER value large }
    by_test false large within = none_in fault within

is_greater : (bound value : ℕ) → bound < value → nat_lt bound value ≡ true
is_greater bound value large = grind (arith, nat_tests)

pub in_large_number : (at value : ℕ) → GREATEST_NUMBER < value → Contains (large_number at value) (fault_at refusals.TooLarge at)
in_large_number at value large = rw (is_greater GREATEST_NUMBER value large) (contains_head (fault_at refusals.TooLarge at) [])

pub record UnknownAt (at : ℕ) (entry : Option Entry) (fault : SourceFault) : Type 0 where
  pub is : fault ≡ fault_at refusals.Unknown at
  pub none : entry ≡ None

from_unknown : (at : ℕ) (entry : Option Entry) (fault : SourceFault) → Contains (unknown at entry) fault → UnknownAt at entry fault
from_unknown at None fault within = record { is = sym (only_in (fault_at refusals.Unknown at) fault within); none = refl }
from_unknown at (Some entry) fault within = none_in fault within

in_unknown : (at : ℕ) (entry : Option Entry) → entry ≡ None → Contains (unknown at entry) (fault_at refusals.Unknown at)
in_unknown at entry none = rw none (contains_head (fault_at refusals.Unknown at) [])

-- ---- the rules of one layer

-- a layer of which this is found breaks the rule of a fault itself
abbrev pub BreaksRule : List Entry → Sense → Expr-F Expr Addend Factor → Refusal → ℕ → Type 0
BreaksRule scope found layer refusals.Unknown at = IsUnknownName scope at layer
BreaksRule scope found layer refusals.WrongType at =
    All (IsFine scope) (layer_parts layer) × ((part : Expr) × Contains (layer_parts layer) part × IsOther scope (layer_kind layer) at part)
BreaksRule scope found layer refusals.NotLinear at = Fit scope (layer_kind layer) (layer_parts layer) × IsNotLinear scope at layer
BreaksRule scope found layer refusals.TooLarge at =
    IsLargeNumber at layer ⊎ ((found.first ≡ at) × Fit scope (layer_kind layer) (layer_parts layer) × IsLarge scope found.form layer)
BreaksRule scope found layer what at = ⊥

abbrev pub BreaksLayer : List Entry → Sense → Expr-F Expr Addend Factor → SourceFault → Type 0
BreaksLayer scope found layer fault = BreaksRule scope found layer fault.what fault.at

abbrev Cases : List Entry → Sense → Expr-F Expr Addend Factor → SourceFault → Type 0
Cases scope found layer fault = InPart scope (layer_parts layer) fault ⊎ BreaksLayer scope found layer fault

-- a part of another kind
wrong_layer : (scope : List Entry) (found : Sense) (layer : Expr-F Expr Addend Factor) (fault : SourceFault) → WrongPart scope (layer_kind layer) (layer_parts layer) fault → BreaksLayer scope found layer fault
wrong_layer scope found layer fault wrong =
    let other : IsOther scope (layer_kind layer) (first_in scope wrong.part) wrong.part = record { begins = refl; fine = All-contains (IsFine scope) (layer_parts layer) wrong.part wrong.fine wrong.one; other = wrong.wrong.other } in
    subst (BreaksLayer scope found layer) (sym wrong.wrong.is) (wrong.fine, (wrong.part, wrong.one, other))

-- a whole of too large a number
large_layer : (scope : List Entry) (found : Sense) (layer : Expr-F Expr Addend Factor) (fault : SourceFault) → Fit scope (layer_kind layer) (layer_parts layer) → IsLarge scope found.form layer → fault ≡ fault_at refusals.TooLarge found.first → BreaksLayer scope found layer fault
large_layer scope found layer fault fit large is = subst (BreaksLayer scope found layer) (sym is) (inr (refl, fit, large))

parts_alone : (scope : List Entry) (found : Sense) (layer : Expr-F Expr Addend Factor) (fault : SourceFault) → Contains (part_faults (layer_kind layer) (map (sense scope) (layer_parts layer))) fault → Cases scope found layer fault
parts_alone scope found layer fault within = elim (part_cases scope (layer_kind layer) (layer_parts layer) fault within) [
  | inl part ↦ inl part
  | inr wrong ↦ inr (wrong_layer scope found layer fault wrong)
]

parts_and_whole : (scope : List Entry) (found : Sense) (layer : Expr-F Expr Addend Factor) (whole : List SourceFault) (fault : SourceFault)
    → (Fit scope (layer_kind layer) (layer_parts layer) → Contains whole fault → BreaksLayer scope found layer fault)
    → Contains (part_faults (layer_kind layer) (map (sense scope) (layer_parts layer)) or_else whole) fault
    → Cases scope found layer fault
parts_and_whole scope found layer whole fault breaks within =
    elim (or_else_cases (part_faults (layer_kind layer) (map (sense scope) (layer_parts layer))) whole fault within) [
      | inl parts ↦ parts_alone scope found layer fault parts
      | inr later ↦ inr (breaks (none_fit scope (layer_kind layer) (layer_parts layer) later.0) later.1)
    ]

addend_senses : (scope : List Entry) (rest : List Addend) → map (λ (addend : AddendSense). addend.of) (map (addend_sense scope) rest) ≡ map (sense scope) (map (λ addend. addend.of) rest)
addend_senses scope [] = refl
addend_senses scope (addend ∷ rest) = ap (λ more. sense scope addend.of ∷ more) (addend_senses scope rest)

product_layer : (scope : List Entry) (first : Expr) (rest : List Factor) (fault : SourceFault) → Fit scope kinds.Int (first ∷ map (λ factor. factor.of) rest) → BreaksProduct scope first rest fault → BreaksLayer scope (sense_of_layer scope (Product first rest)) (Product first rest) fault
product_layer scope first rest fault fit broken = elim broken [
  | inl nonlinear ↦ subst (BreaksLayer scope (sense_of_layer scope (Product first rest)) (Product first rest)) (sym nonlinear.2) (fit, (nonlinear.0, nonlinear.1, refl))
  | inr large ↦ large_layer scope (sense_of_layer scope (Product first rest)) (Product first rest) fault fit large.0 large.1
]

layer_cases : (scope : List Entry) (layer : Expr-F Expr Addend Factor) (fault : SourceFault) → Contains (sense_of_layer scope layer).faults fault → Cases scope (sense_of_layer scope layer) layer fault
layer_cases scope (Number at value) fault within =
    let large = from_large_number at value fault within in
    inr (subst (BreaksLayer scope (sense_of_layer scope (Number at value)) (Number at value)) (sym large.is) (inl (refl, large.large)))
layer_cases scope (Truth at value) fault within = none_in fault within
layer_cases scope (Named at name) fault within =
    let known = from_unknown at (entry_named scope name) fault within in
    inr (subst (BreaksLayer scope (sense_of_layer scope (Named at name)) (Named at name)) (sym known.is) (refl, known.none))
layer_cases scope (Minus at of) fault within =
    parts_and_whole scope (sense_of_layer scope (Minus at of)) (Minus at of) (large_form at (opposite (form_in scope of))) fault
    (λ fit whole. let large = from_large_form at (opposite (form_in scope of)) fault whole in large_layer scope (sense_of_layer scope (Minus at of)) (Minus at of) fault fit large.large large.is) within
layer_cases scope (Not at of) fault within = parts_alone scope (sense_of_layer scope (Not at of)) (Not at of) fault within
layer_cases scope (Product first rest) fault within =
    parts_and_whole scope (sense_of_layer scope (Product first rest)) (Product first rest) (broken_product scope first rest) fault
    (λ fit whole. product_layer scope first rest fault fit (from_product scope first rest fault fit whole))
    (subst (λ (parts : List Sense). Contains (part_faults kinds.Int (sense scope first ∷ parts) or_else broken_product scope first rest) fault) (factor_senses scope rest) within)
layer_cases scope (Sum first rest) fault within =
    let form = sum_from scope (form_in scope first) rest in
    parts_and_whole scope (sense_of_layer scope (Sum first rest)) (Sum first rest) (large_form (first_in scope first) form) fault
    (λ fit whole. let large = from_large_form (first_in scope first) form fault whole in large_layer scope (sense_of_layer scope (Sum first rest)) (Sum first rest) fault fit large.large large.is)
    (subst (λ (parts : List Sense). Contains (part_faults kinds.Int (sense scope first ∷ parts) or_else large_form (first_in scope first) form) fault) (addend_senses scope rest) within)
layer_cases scope (Compare op left right) fault within =
    let form = minus (form_in scope left) (form_in scope right) in
    parts_and_whole scope (sense_of_layer scope (Compare op left right)) (Compare op left right) (large_form (first_in scope left) form) fault
    (λ fit whole. let large = from_large_form (first_in scope left) form fault whole in large_layer scope (sense_of_layer scope (Compare op left right)) (Compare op left right) fault fit large.large large.is) within
layer_cases scope (Both parts) fault within = parts_alone scope (sense_of_layer scope (Both parts)) (Both parts) fault within
layer_cases scope (Either parts) fault within = parts_alone scope (sense_of_layer scope (Either parts)) (Either parts) fault within

-- ---- what a layer breaks is among its faults

parts_reach : (scope : List Entry) (layer : Expr-F Expr Addend Factor) (fault : SourceFault) → Contains (part_faults (layer_kind layer) (map (sense scope) (layer_parts layer))) fault → Contains (sense_of_layer scope layer).faults fault
parts_reach scope (Number at value) fault within = none_in fault within
parts_reach scope (Truth at value) fault within = none_in fault within
parts_reach scope (Named at name) fault within = none_in fault within
parts_reach scope (Minus at of) fault within = in_these (part_faults kinds.Int (sense scope of ∷ [])) (large_form at (opposite (form_in scope of))) fault within
parts_reach scope (Not at of) fault within = within
parts_reach scope (Product first rest) fault within =
    subst (λ (parts : List Sense). Contains (part_faults kinds.Int (sense scope first ∷ parts) or_else broken_product scope first rest) fault) (sym (factor_senses scope rest))
    (in_these (part_faults kinds.Int (map (sense scope) (first ∷ map (λ factor. factor.of) rest))) (broken_product scope first rest) fault within)
parts_reach scope (Sum first rest) fault within =
    subst (λ (parts : List Sense). Contains (part_faults kinds.Int (sense scope first ∷ parts) or_else large_form (first_in scope first) (sum_from scope (form_in scope first) rest)) fault) (sym (addend_senses scope rest))
    (in_these (part_faults kinds.Int (map (sense scope) (first ∷ map (λ addend. addend.of) rest))) (large_form (first_in scope first) (sum_from scope (form_in scope first) rest)) fault within)
parts_reach scope (Compare op left right) fault within = in_these (part_faults kinds.Int (sense scope left ∷ sense scope right ∷ [])) (large_form (first_in scope left) (minus (form_in scope left) (form_in scope right))) fault within
parts_reach scope (Both parts) fault within = within
parts_reach scope (Either parts) fault within = within

product_reach : (scope : List Entry) (first : Expr) (rest : List Factor) (fault : SourceFault) → Fit scope kinds.Int (first ∷ map (λ factor. factor.of) rest) → Contains (broken_product scope first rest) fault → Contains (sense_of_layer scope (Product first rest)).faults fault
product_reach scope first rest fault fit whole =
    subst (λ (parts : List Sense). Contains (part_faults kinds.Int (sense scope first ∷ parts) or_else broken_product scope first rest) fault) (sym (factor_senses scope rest))
    (in_those (part_faults kinds.Int (map (sense scope) (first ∷ map (λ factor. factor.of) rest))) (broken_product scope first rest) fault (fit_none scope kinds.Int (first ∷ map (λ factor. factor.of) rest) fit) whole)

unknown_reach : (scope : List Entry) (at : ℕ) (layer : Expr-F Expr Addend Factor) → IsUnknownName scope at layer → Contains (sense_of_layer scope layer).faults (fault_at refusals.Unknown at)
unknown_reach scope at (Named place name) (is, none) = subst (λ at. Contains (unknown place (entry_named scope name)) (fault_at refusals.Unknown at)) is (in_unknown place (entry_named scope name) none)
unknown_reach scope at layer breaks = absurd breaks

number_reach : (scope : List Entry) (at : ℕ) (layer : Expr-F Expr Addend Factor) → IsLargeNumber at layer → Contains (sense_of_layer scope layer).faults (fault_at refusals.TooLarge at)
number_reach scope at (Number place value) (is, large) = subst (λ at. Contains (large_number place value) (fault_at refusals.TooLarge at)) is (in_large_number place value large)
number_reach scope at layer breaks = absurd breaks

nonlinear_reach : (scope : List Entry) (at : ℕ) (layer : Expr-F Expr Addend Factor) → Fit scope (layer_kind layer) (layer_parts layer) → IsNotLinear scope at layer → Contains (sense_of_layer scope layer).faults (fault_at refusals.NotLinear at)
nonlinear_reach scope at (Product first rest) fit (reached, neither, is) =
    subst (λ at. Contains (sense_of_layer scope (Product first rest)).faults (fault_at refusals.NotLinear at)) is (product_reach scope first rest (fault_at refusals.NotLinear reached.factor.at) fit (nonlinear_in scope first rest reached neither))
nonlinear_reach scope at layer fit breaks = absurd breaks

large_reach : (scope : List Entry) (layer : Expr-F Expr Addend Factor) → Fit scope (layer_kind layer) (layer_parts layer) → IsLarge scope (sense_of_layer scope layer).form layer → Contains (sense_of_layer scope layer).faults (fault_at refusals.TooLarge (sense_of_layer scope layer).first)
large_reach scope (Minus at of) fit large =
    in_those (part_faults kinds.Int (sense scope of ∷ [])) (large_form at (opposite (form_in scope of))) (fault_at refusals.TooLarge at) (fit_none scope kinds.Int (of ∷ []) fit) (in_large_form at (opposite (form_in scope of)) large)
large_reach scope (Product first rest) fit large = product_reach scope first rest (fault_at refusals.TooLarge (first_in scope first)) fit (large_product_in scope first rest large)
large_reach scope (Sum first rest) fit large =
    let form = sum_from scope (form_in scope first) rest in
    subst (λ (parts : List Sense). Contains (part_faults kinds.Int (sense scope first ∷ parts) or_else large_form (first_in scope first) form) (fault_at refusals.TooLarge (first_in scope first))) (sym (addend_senses scope rest))
    (in_those (part_faults kinds.Int (map (sense scope) (first ∷ map (λ addend. addend.of) rest))) (large_form (first_in scope first) form) (fault_at refusals.TooLarge (first_in scope first)) (fit_none scope kinds.Int (first ∷ map (λ addend. addend.of) rest) fit) (in_large_form (first_in scope first) form large))
large_reach scope (Compare op left right) fit large =
    let form = minus (form_in scope left) (form_in scope right) in
    in_those (part_faults kinds.Int (sense scope left ∷ sense scope right ∷ [])) (large_form (first_in scope left) form) (fault_at refusals.TooLarge (first_in scope left)) (fit_none scope kinds.Int (left ∷ right ∷ []) fit) (in_large_form (first_in scope left) form large)
large_reach scope layer fit large = absurd large

too_large_reach : (scope : List Entry) (at : ℕ) (layer : Expr-F Expr Addend Factor) → BreaksLayer scope (sense_of_layer scope layer) layer (fault_at refusals.TooLarge at) → Contains (sense_of_layer scope layer).faults (fault_at refusals.TooLarge at)
too_large_reach scope at layer breaks = elim breaks [
  | inl number ↦ number_reach scope at layer number
  | inr whole ↦ subst (λ at. Contains (sense_of_layer scope layer).faults (fault_at refusals.TooLarge at)) whole.0 (large_reach scope layer whole.1 whole.2)
]

rule_reach : (scope : List Entry) (layer : Expr-F Expr Addend Factor) (what : Refusal) (at : ℕ) → BreaksLayer scope (sense_of_layer scope layer) layer (fault_at what at) → Contains (sense_of_layer scope layer).faults (fault_at what at)
rule_reach scope layer refusals.Unknown at breaks = unknown_reach scope at layer breaks
rule_reach scope layer refusals.WrongType at (fine, (part, one, other)) =
    parts_reach scope layer (fault_at refusals.WrongType at)
    (subst (λ at. Contains (part_faults (layer_kind layer) (map (sense scope) (layer_parts layer))) (fault_at refusals.WrongType at)) other.begins (wrong_part_in scope (layer_kind layer) (layer_parts layer) part fine one other.other))
rule_reach scope layer refusals.NotLinear at (fit, breaks) = nonlinear_reach scope at layer fit breaks
rule_reach scope layer refusals.TooLarge at breaks = too_large_reach scope at layer breaks
rule_reach scope layer what at breaks = absurd breaks

layer_reach : (scope : List Entry) (layer : Expr-F Expr Addend Factor) (fault : SourceFault) → BreaksLayer scope (sense_of_layer scope layer) layer fault → Contains (sense_of_layer scope layer).faults fault
layer_reach scope layer fault breaks = rule_reach scope layer fault.what fault.at breaks

-- ---- an expression with all its parts

abbrev pub BreaksHere : List Entry → Expr → SourceFault → Type 0
BreaksHere scope expression fault = BreaksLayer scope (sense scope expression) (out-Expr expression) fault

expression_cases : (scope : List Entry) (expression : Expr) (fault : SourceFault) → Contains (faults_in scope expression) fault → InPart scope (parts_of expression) fault ⊎ BreaksHere scope expression fault
expression_cases scope expression fault within =
    elim (layer_cases scope (out-Expr expression) fault (subst (λ (found : Sense). Contains found.faults fault) (sense_is scope expression) within)) [
      | inl part ↦ inl part
      | inr breaks ↦ inr (subst (λ (found : Sense). BreaksLayer scope found (out-Expr expression) fault) (sym (sense_is scope expression)) breaks)
    ]

-- an expression that stands in another breaks the rule of a fault
pub record BrokenIn (scope : List Entry) (expression : Expr) (fault : SourceFault) : Type 0 where
  pub inner : Expr
  pub stands : StandsIn parts_of expression inner
  pub breaks : BreaksHere scope inner fault

deeper : (scope : List Entry) (expression part : Expr) (fault : SourceFault) → Contains (parts_of expression) part → BrokenIn scope part fault → BrokenIn scope expression fault
deeper scope expression part fault one broken = record { inner = broken.inner; stands = (suc broken.stands.0, (part, one, broken.stands.1)); breaks = broken.breaks }

abbrev AllBroken : List Entry → Expr → Type 0
AllBroken scope expression = (fault : SourceFault) → Contains (faults_in scope expression) fault → BrokenIn scope expression fault

broken_step : (scope : List Entry) (expression : Expr) → ((part : Expr) → Contains (parts_of expression) part → AllBroken scope part) → AllBroken scope expression
broken_step scope expression more fault within = elim (expression_cases scope expression fault within) [
  | inl part ↦ deeper scope expression part.part fault part.one (more part.part part.one fault part.within)
  | inr breaks ↦ record { inner = expression; stands = (0, refl); breaks = breaks }
]

pub from_expression : (scope : List Entry) (expression : Expr) (fault : SourceFault) → Contains (faults_in scope expression) fault → BrokenIn scope expression fault
from_expression scope = by_parts (AllBroken scope) (broken_step scope)

break_in : (scope : List Entry) (expression : Expr) (fault : SourceFault) → BreaksHere scope expression fault → Contains (faults_in scope expression) fault
break_in scope expression fault breaks =
    subst (λ (found : Sense). Contains found.faults fault) (sym (sense_is scope expression))
    (layer_reach scope (out-Expr expression) fault (subst (λ (found : Sense). BreaksLayer scope found (out-Expr expression) fault) (sense_is scope expression) breaks))

part_of_in : (scope : List Entry) (expression part : Expr) (fault : SourceFault) → Contains (parts_of expression) part → Contains (faults_in scope part) fault → Contains (faults_in scope expression) fault
part_of_in scope expression part fault one within =
    let layer = out-Expr expression in
    subst (λ (found : Sense). Contains found.faults fault) (sym (sense_is scope expression)) (parts_reach scope layer fault (part_in scope (layer_kind layer) (layer_parts layer) part fault one within))

pub in_expression : (scope : List Entry) (depth : ℕ) (expression inner : Expr) (fault : SourceFault) → IsBelow parts_of depth expression inner → BreaksHere scope inner fault → Contains (faults_in scope expression) fault
in_expression scope zero expression inner fault is breaks = subst (λ (e : Expr). Contains (faults_in scope e) fault) is (break_in scope inner fault breaks)
in_expression scope (suc depth) expression inner fault (part, one, below) breaks = part_of_in scope expression part fault one (in_expression scope depth part inner fault below breaks)
