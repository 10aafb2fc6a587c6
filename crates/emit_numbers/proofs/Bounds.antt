-- How large the values of limited forms are.
use Rattle.std.proofs.Common.{◌≡◌, ℕ, zero, suc, ◌+◌, ◌*◌, ◌^◌, ◌≤◌, true, List, [], ◌∷◌, ◌++◌, length, ℤ, pos, negsuc, neg_ℤ, ◌+ℤ◌, ◌*ℤ◌, mul-le-mul, refl, sym, ap, subst, ◌∙◌, arith}
use Rattle.std.specs.Prelude.{unsigned_abs}
use Rattle.std.specs.List.{list_all}
use Rattle.std.proofs.lemmas.Int.{ints, unsigned_abs-mul}
use Rattle.lang_tree.specs.declared.tree.Decl.{Decl}
use Rattle.lang_tree.specs.declared.tree.Decl.TheVariants as decls
use Rattle.lang_tree.specs.declared.tree.Expr.{Expr}
use Rattle.lang_tree.specs.declared.tree.InputTree.{InputTree}
use Rattle.lang_tree.specs.declared.tree.MethodTree.{MethodTree}
use Rattle.lang_tree.specs.declared.tree.MonitorTree.{MonitorTree}
use Rattle.logic_linear.specs.Truth.{Valuation}
use Rattle.lang_base.specs.Numbers.{is_within}
use Rattle.lang_base.specs.declared.kind.Kind.TheVariants as kinds
use Rattle.lang_forms.specs.declared.scope.Entry.{Entry}
use Rattle.lang_forms.specs.Scope.{declared_from, inputs_from, scope_of}
use Rattle.lang_forms.specs.Forms.{Form, is_limited, meaning_place}
use Rattle.lang_forms.specs.Making.{has_small_numbers}
use Rattle.lang_forms.specs.Plain.{number_in, plain_value}
use Rattle.lang_forms.specs.Sense.{sense}
use Rattle.lang_forms.proofs.FineParts.{IsFine}
use Rattle.lang_forms.proofs.FormShapes.{limited_times, limited_constant}
use Rattle.lang_forms.proofs.FormValues.{times_value, value, value_of_linear}
use Rattle.lang_forms.proofs.LimitedForms.{both_true}
use Rattle.lang_forms.proofs.Numbers.{within_abs}
use Rattle.lang_forms.proofs.SenseValues.{ints_keep_meaning}
use Rattle.lang_forms.proofs.SoundSenses.{every_sense_is_sound}
use Rattle.lang_types.proofs.FineTrees.{IsFine as IsFineTree, IsFineMethod, constants_and_fields}
use Rattle.emit_numbers.specs.Widths.{IsWide}
use Rattle.emit_numbers.proofs.Short.{ArePlain}

-- ---- magnitudes

pub abs_plus : (a b : ℤ) → unsigned_abs (a +ℤ b) ≤ unsigned_abs a + unsigned_abs b
abs_plus (pos a) (pos b) = omega (arith, ints)
abs_plus (pos a) (negsuc b) = grind (arith, ints)
abs_plus (negsuc a) (pos b) = grind (arith, ints)
abs_plus (negsuc a) (negsuc b) = omega (arith, ints)

pub abs_negative : (a : ℤ) → unsigned_abs (neg_ℤ a) ≡ unsigned_abs a
abs_negative (pos zero) = refl
abs_negative (pos (suc a)) = refl
abs_negative (negsuc a) = refl

abs_wide : (number : ℤ) → unsigned_abs number ≤ 2 ^ 120 → IsWide number
abs_wide (pos n) few = (grind (arith, ints), grind (arith, ints))
abs_wide (negsuc n) few = (grind (arith, ints), grind (arith, ints))

-- ---- forms

-- each place has a number of so many bits
abbrev pub IsLow : Valuation → Type 0
IsLow valuation = (place : ℕ) → unsigned_abs (valuation.number place) ≤ 2 ^ 63

one_more : (n unit here all : ℕ) → here ≤ unit → all ≤ n * unit → here + all ≤ suc n * unit
one_more n unit here all few rest = omega arith

times_low : (valuation : Valuation) (scope : List Entry) (times : List ℤ) → IsLow valuation → list_all (is_within (2 ^ 31)) times ≡ true
    → unsigned_abs (times_value valuation scope times) ≤ length scope * (2 ^ 31 * 2 ^ 63)
times_low valuation [] times low within = omega arith
times_low valuation (entry ∷ scope) [] low within = omega arith
times_low valuation (entry ∷ scope) (number ∷ times) low within =
    let both = both_true (is_within (2 ^ 31) number) (list_all (is_within (2 ^ 31)) times) within in
    let there = valuation.number (meaning_place entry.meaning) in
    let here : unsigned_abs (number *ℤ there) ≤ 2 ^ 31 * 2 ^ 63 =
    subst (λ (n : ℕ). n ≤ 2 ^ 31 * 2 ^ 63) (sym (unsigned_abs-mul number there)) (mul-le-mul (within_abs (2 ^ 31) number both.0) (low (meaning_place entry.meaning))) in
    let all = one_more (length scope) (2 ^ 31 * 2 ^ 63) (unsigned_abs (number *ℤ there)) (unsigned_abs (times_value valuation scope times)) here (times_low valuation scope times low both.1) in
    let whole = abs_plus (number *ℤ there) (times_value valuation scope times) in
    omega arith

-- so large a value at most
abbrev pub UNIT : ℕ
UNIT = 2 ^ 101

few_units : (entries sum constant whole unit : ℕ) → entries ≤ 96 → sum ≤ entries * unit → constant ≤ unit → whole ≤ sum + constant → whole ≤ 97 * unit
few_units entries sum constant whole unit few within small is = let most = mul-le-mul {n₁ = entries} {m₁ = unit} {n₂ = 96} {m₂ = unit} few (omega arith) in omega arith

pub form_low : (valuation : Valuation) (scope : List Entry) (form : Form) → IsLow valuation → length scope ≤ 96 → is_limited form ≡ true → unsigned_abs (value valuation scope form) ≤ UNIT
form_low valuation scope form low few limited =
    let times = times_low valuation scope form.times low (limited_times form limited) in
    let constant = within_abs (2 ^ 63) form.constant (limited_constant form limited) in
    let whole = abs_plus (times_value valuation scope form.times) form.constant in
    let units = few_units (length scope) (unsigned_abs (times_value valuation scope form.times)) (unsigned_abs form.constant) (unsigned_abs (value valuation scope form)) (2 ^ 31 * 2 ^ 63) few times (omega arith) whole in
    omega arith

-- ---- expressions

-- where expressions are read whose numbers are to be bounded
pub record IsBounded (scope : List Entry) (valuation : Valuation) : Type 0 where
  pub few : length scope ≤ 96
  pub small : has_small_numbers scope ≡ true
  pub plain : ArePlain scope
  pub low : IsLow valuation

-- the value of its form
pub form_worth : (scope : List Entry) (valuation : Valuation) (expression : Expr) → IsFine kinds.Int (sense scope expression)
    → value valuation scope (sense scope expression).form ≡ number_in (plain_value scope valuation expression)
form_worth scope valuation expression fine = sym (value_of_linear valuation scope (sense scope expression).form) ∙ ints_keep_meaning scope valuation expression fine.0 fine.1

pub part_low : (scope : List Entry) (valuation : Valuation) → IsBounded scope valuation → (expression : Expr) → IsFine kinds.Int (sense scope expression)
    → unsigned_abs (number_in (plain_value scope valuation expression)) ≤ UNIT
part_low scope valuation bounded expression fine =
    subst (λ (n : ℤ). unsigned_abs n ≤ UNIT) (form_worth scope valuation expression fine)
    (form_low valuation scope (sense scope expression).form bounded.low bounded.few ((every_sense_is_sound scope bounded.small expression).limited fine.0 fine.1))

pub low_wide : (number : ℤ) → unsigned_abs number ≤ UNIT → IsWide number
low_wide number low = abs_wide number (omega arith)

-- a sum of so many parts
pub parts_wide : (parts : ℕ) (number : ℤ) → parts ≤ 65537 → unsigned_abs number ≤ parts * UNIT → IsWide number
parts_wide parts number few low = let most = mul-le-mul {n₁ = parts} {m₁ = UNIT} {n₂ = 65537} {m₂ = UNIT} few (omega arith) in abs_wide number (omega arith)

-- ---- scopes

declared_long : (place : ℕ) (declared : List Decl) (later : List Entry) → length (declared_from place declared ++ later) ≡ length declared + length later
declared_long place [] later = omega arith
declared_long place (decls.Const at name value ∷ more) later = let rest = declared_long place more later in omega arith
declared_long place (decls.Param at name value limit ∷ more) later = let rest = declared_long (place + 1) more later in omega arith
declared_long place (decls.Int at name value ∷ more) later = let rest = declared_long (place + 1) more later in omega arith
declared_long place (decls.Copied at name source ∷ more) later = let rest = declared_long (place + 1) more later in omega arith
declared_long place (decls.Flag at name value ∷ more) later = let rest = declared_long (place + 1) more later in omega arith

declared_alone : (place : ℕ) (declared : List Decl) → length (declared_from place declared) ≡ length declared
declared_alone place [] = refl
declared_alone place (decls.Const at name value ∷ more) = ap suc (declared_alone place more)
declared_alone place (decls.Param at name value limit ∷ more) = ap suc (declared_alone (place + 1) more)
declared_alone place (decls.Int at name value ∷ more) = ap suc (declared_alone (place + 1) more)
declared_alone place (decls.Copied at name source ∷ more) = ap suc (declared_alone (place + 1) more)
declared_alone place (decls.Flag at name value ∷ more) = ap suc (declared_alone (place + 1) more)

inputs_long : (place : ℕ) (taken : List InputTree) (later : List Entry) → length (inputs_from place taken ++ later) ≡ length taken + length later
inputs_long place [] later = omega arith
inputs_long place (input ∷ more) later = let rest = inputs_long (place + 1) more later in omega arith

pub scope_few : (tree : MonitorTree) (method : MethodTree) → IsFineTree tree → IsFineMethod tree.decls method → length (scope_of tree.decls method) ≤ 96
scope_few tree method sound fine =
    let locals = declared_from 22 method.locals in
    let one = declared_long 0 tree.decls (inputs_from 16 method.inputs ++ locals) in
    let two = inputs_long 16 method.inputs locals in
    let three = declared_alone 22 method.locals in
    let four = constants_and_fields tree.decls in
    let constants = sound.constants in
    let fields = sound.fields in
    let inputs = fine.inputs in
    let most = fine.locals in
    omega arith
