-- Each entry of a method's scope has the place of a field, an input or a local of its kind.
use Rattle.std.proofs.Common.{◌≡◌, ℕ, zero, suc, ◌+◌, ◌-◌, ◌<◌, ◌≤◌, Bool, true, false, List, [], ◌∷◌, ◌++◌, length, map, drop, Option, Some, None, refl, ap, ◌∙◌, arith, add-one}
use Rattle.std.specs.Prelude.{◌&&◌, nat_lt, slice_get, if◌then◌else◌}
use Rattle.std.specs.List.{flat_map, list_all}
use Rattle.std.proofs.lemmas.Bool.Decides.{nat_tests}
use Rattle.std.proofs.lemmas.List.Folds.{list_all-append}
use Rattle.lang_tree.specs.declared.tree.Decl.{Decl}
use Rattle.lang_tree.specs.declared.tree.Decl.TheVariants as decls
use Rattle.lang_tree.specs.declared.tree.InputTree.{InputTree}
use Rattle.lang_tree.specs.declared.tree.MethodTree.{MethodTree}
use Rattle.lang_base.specs.declared.kind.Kind.{Kind}
use Rattle.lang_base.specs.declared.kind.Kind.TheVariants as kinds
use Rattle.lang_forms.specs.declared.scope.Meaning.{Meaning}
use Rattle.lang_forms.specs.declared.scope.Meaning.TheVariants as meanings
use Rattle.lang_forms.specs.declared.scope.Entry.{Entry}
use Rattle.lang_forms.specs.Scope.{declared_from, entry_at, entry_named, index_of, input_meaning, inputs_from, scope_of}
use Rattle.lang_forms.proofs.LimitedForms.{both_true}
use Rattle.lang_monitor.specs.MonitorParts.{Places, is_kind, kind_at, kinds_of, target_at}
use Rattle.lang_types.specs.Typed.{field_of, fields_of, locals_of}

-- ---- what fits

-- the place of a name has the name's kind
abbrev pub fits_meaning : Places → Meaning → Bool
fits_meaning places (meanings.Number number) = true
fits_meaning places (meanings.Int place) = is_kind kinds.Int (kind_at places place)
fits_meaning places (meanings.Flag place) = is_kind kinds.Bool (kind_at places place)

-- the place of a field or a local has its kind, and may be assigned to
abbrev pub fits_variable : Places → Meaning → Bool
fits_variable places (meanings.Number number) = true
fits_variable places (meanings.Int place) = is_kind kinds.Int (target_at places place)
fits_variable places (meanings.Flag place) = is_kind kinds.Bool (target_at places place)

abbrev pub fits_target : Places → Entry → Bool
fits_target places entry = if entry.is_variable then fits_variable places entry.meaning else true

abbrev pub fits_entry : Places → Entry → Bool
fits_entry places entry = fits_meaning places entry.meaning && fits_target places entry

abbrev pub fits_scope : Places → List Entry → Bool
fits_scope places scope = list_all (fits_entry places) scope

-- ---- lists

some_is : {X : Type 0} (x y : X) (xs ys : List X) → x ∷ xs ≡ y ∷ ys → x ≡ y
some_is x y xs ys is = cc

rest_is : {X : Type 0} (x y : X) (xs ys : List X) → x ∷ xs ≡ y ∷ ys → xs ≡ ys
rest_is x y xs ys is = cc

-- what stands at an index, where the rest from there is known
pub first_of_rest : {X : Type 0} (xs : List X) (i : ℕ) (x : X) (rest : List X) → drop i xs ≡ x ∷ rest → slice_get xs i ≡ Some x
first_of_rest [] zero x rest is = absurd (cc)
first_of_rest [] (suc i) x rest is = absurd (cc)
first_of_rest (y ∷ xs) zero x rest is = ap (λ z. Some z) (some_is y x xs rest is)
first_of_rest (y ∷ xs) (suc i) x rest is = first_of_rest xs i x rest is

pub within_rest : {X : Type 0} (xs : List X) (i : ℕ) (x : X) (rest : List X) → drop i xs ≡ x ∷ rest → i < length xs
within_rest [] zero x rest is = absurd (cc)
within_rest [] (suc i) x rest is = absurd (cc)
within_rest (y ∷ xs) zero x rest is = omega arith
within_rest (y ∷ xs) (suc i) x rest is = let lt = within_rest xs i x rest is in omega arith

after_suc : {X : Type 0} (xs : List X) (i : ℕ) (x : X) (rest : List X) → drop i xs ≡ x ∷ rest → drop (suc i) xs ≡ rest
after_suc [] zero x rest is = absurd (cc)
after_suc [] (suc i) x rest is = absurd (cc)
after_suc (y ∷ xs) zero x rest is = rest_is y x xs rest is
after_suc (y ∷ xs) (suc i) x rest is = after_suc xs i x rest is

pub after_rest : {X : Type 0} (xs : List X) (i : ℕ) (x : X) (rest : List X) → drop i xs ≡ x ∷ rest → drop (i + 1) xs ≡ rest
after_rest xs i x rest is = rw (add-one i) (after_suc xs i x rest is)

-- ---- places

-- the kind stands at the place, which may be assigned to
record IsVariable (places : Places) (place : ℕ) (kind : Kind) : Type 0 where
  here : kind_at places place ≡ Some kind
  target : target_at places place ≡ Some kind

field_at : (places : Places) (place : ℕ) (kind : Kind) → place < 16 → slice_get places.fields place ≡ Some kind → IsVariable places place kind
field_at places place kind low is =
    let test : nat_lt place 16 ≡ true = grind (arith, nat_tests) in
    record { here = rw test is; target = rw test is }

local_at : (places : Places) (place k : ℕ) (kind : Kind) → place ≡ 22 + k → slice_get places.locals k ≡ Some kind → IsVariable places place kind
local_at places place k kind at is =
    let low : nat_lt place 16 ≡ false = grind (arith, nat_tests) in
    let high : nat_lt place 22 ≡ false = grind (arith, nat_tests) in
    let index : place - 22 ≡ k = omega arith in
    record { here = rw (low, high, index) is; target = rw (low, high, index) is }

input_at : (places : Places) (place k : ℕ) → place ≡ 16 + k → k < 6 → kind_at places place ≡ slice_get places.inputs k
input_at places place k is less =
    let low : nat_lt place 16 ≡ false = grind (arith, nat_tests) in
    let high : nat_lt place 22 ≡ true = grind (arith, nat_tests) in
    let index : place - 16 ≡ k = omega arith in
    rw (low, high, index) refl

int_variable : (places : Places) (place : ℕ) → IsVariable places place kinds.Int → (is_kind kinds.Int (kind_at places place) && is_kind kinds.Int (target_at places place)) ≡ true
int_variable places place is = ap (λ kind. is_kind kinds.Int kind && is_kind kinds.Int (target_at places place)) is.here ∙ ap (is_kind kinds.Int) is.target

-- a place to which nothing is assigned
int_parameter : (places : Places) (place : ℕ) → IsVariable places place kinds.Int → (is_kind kinds.Int (kind_at places place) && true) ≡ true
int_parameter places place is = ap (λ kind. is_kind kinds.Int kind && true) is.here

bool_variable : (places : Places) (place : ℕ) → IsVariable places place kinds.Bool → (is_kind kinds.Bool (kind_at places place) && is_kind kinds.Bool (target_at places place)) ≡ true
bool_variable places place is = ap (λ kind. is_kind kinds.Bool kind && is_kind kinds.Bool (target_at places place)) is.here ∙ ap (is_kind kinds.Bool) is.target

-- an input of either kind
input_fits : (places : Places) (kind : Kind) (place k : ℕ) → place ≡ 16 + k → k < 6 → slice_get places.inputs k ≡ Some kind → fits_meaning places (input_meaning kind place) ≡ true
input_fits places kinds.Int place k at less is = ap (is_kind kinds.Int) (input_at places place k at less ∙ is)
input_fits places kinds.Bool place k at less is = ap (is_kind kinds.Bool) (input_at places place k at less ∙ is)

-- ---- scopes

inputs_fit : (places : Places) (place k : ℕ) (taken : List InputTree) → length places.inputs ≤ 6 → place ≡ 16 + k → drop k places.inputs ≡ map (λ input. input.kind) taken → fits_scope places (inputs_from place taken) ≡ true
inputs_fit places place k [] few at rest = refl
inputs_fit places place k (input ∷ more) few at rest =
    let here = first_of_rest places.inputs k input.kind (map (λ input. input.kind) more) rest in
    let low = within_rest places.inputs k input.kind (map (λ input. input.kind) more) rest in
    let next = after_rest places.inputs k input.kind (map (λ input. input.kind) more) rest in
    rw (input_fits places input.kind place k at (omega arith) here, inputs_fit places (place + 1) (k + 1) more few (omega arith) next) refl

-- the kinds of a list stand at the places from the first one on, which may be assigned to
record Hold (places : Places) (first : ℕ) (list : List Kind) : Type 0 where
  at : (place k : ℕ) (kind : Kind) (rest : List Kind) → place ≡ first + k → drop k list ≡ kind ∷ rest → IsVariable places place kind

fields_hold : (places : Places) → length places.fields ≤ 16 → Hold places 0 places.fields
fields_hold places few = record {
  at = λ place k kind rest at is.
      let within = within_rest places.fields k kind rest is in
      let same : place ≡ k = omega arith in
      field_at places place kind (omega arith) (rw same (first_of_rest places.fields k kind rest is));
}

locals_hold : (places : Places) → Hold places 22 places.locals
locals_hold places = record { at = λ place k kind rest at is. local_at places place k kind at (first_of_rest places.locals k kind rest is) }

declared_fit : (known : List Decl) (places : Places) (first : ℕ) (list : List Kind) → Hold places first list → (place k : ℕ) (declared : List Decl) → place ≡ first + k → drop k list ≡ kinds_of (flat_map (field_of known) declared) → fits_scope places (declared_from place declared) ≡ true
declared_fit known places first list hold place k [] at rest = refl
declared_fit known places first list hold place k (decls.Const from name value ∷ more) at rest = declared_fit known places first list hold place k more at rest
declared_fit known places first list hold place k (decls.Param from name value limit ∷ more) at rest =
    let here = hold.at place k kinds.Int (kinds_of (flat_map (field_of known) more)) at rest in
    let next = after_rest list k kinds.Int (kinds_of (flat_map (field_of known) more)) rest in
    rw (int_parameter places place here, declared_fit known places first list hold (place + 1) (k + 1) more (omega arith) next) refl
declared_fit known places first list hold place k (decls.Int from name value ∷ more) at rest =
    let here = hold.at place k kinds.Int (kinds_of (flat_map (field_of known) more)) at rest in
    let next = after_rest list k kinds.Int (kinds_of (flat_map (field_of known) more)) rest in
    rw (int_variable places place here, declared_fit known places first list hold (place + 1) (k + 1) more (omega arith) next) refl
declared_fit known places first list hold place k (decls.Copied from name source ∷ more) at rest =
    let here = hold.at place k kinds.Int (kinds_of (flat_map (field_of known) more)) at rest in
    let next = after_rest list k kinds.Int (kinds_of (flat_map (field_of known) more)) rest in
    rw (int_variable places place here, declared_fit known places first list hold (place + 1) (k + 1) more (omega arith) next) refl
declared_fit known places first list hold place k (decls.Flag from name value ∷ more) at rest =
    let here = hold.at place k kinds.Bool (kinds_of (flat_map (field_of known) more)) at rest in
    let next = after_rest list k kinds.Bool (kinds_of (flat_map (field_of known) more)) rest in
    rw (bool_variable places place here, declared_fit known places first list hold (place + 1) (k + 1) more (omega arith) next) refl

-- the kinds of the fields, and of a method's inputs and locals
abbrev pub scope_places : List Decl → MethodTree → Places
scope_places declared method = record {
  fields = kinds_of (fields_of declared);
  inputs = map (λ input. input.kind) method.inputs;
  locals = kinds_of (locals_of method.locals);
}

-- With at most 16 fields and 6 inputs each entry of a scope has a place of its kind.
pub scope_fits : (declared : List Decl) (method : MethodTree) → length (kinds_of (fields_of declared)) ≤ 16 → length (map (λ input. input.kind) method.inputs) ≤ 6 → fits_scope (scope_places declared method) (scope_of declared method) ≡ true
scope_fits declared method few few_inputs =
    let places = scope_places declared method in
    let fields = declared_fit declared places 0 places.fields (fields_hold places few) 0 0 declared refl refl in
    let inputs = inputs_fit places 16 0 method.inputs few_inputs refl refl in
    let locals = declared_fit [] places 22 places.locals (locals_hold places) 22 0 method.locals refl refl in
    list_all-append (fits_entry places) (declared_from 0 declared) (inputs_from 16 method.inputs ++ declared_from 22 method.locals)
    ∙ rw (fields, list_all-append (fits_entry places) (inputs_from 16 method.inputs) (declared_from 22 method.locals), inputs, locals) refl

-- ---- looked up

abbrev pub fits_found : Places → Option Entry → Bool
fits_found places None = true
fits_found places (Some entry) = fits_entry places entry

pub found_at : (places : Places) (scope : List Entry) (index : ℕ) → fits_scope places scope ≡ true → fits_found places (slice_get scope index) ≡ true
found_at places [] index fits = refl
found_at places (entry ∷ scope) zero fits = (both_true (fits_entry places entry) (fits_scope places scope) fits).0
found_at places (entry ∷ scope) (suc index) fits = found_at places scope index (both_true (fits_entry places entry) (fits_scope places scope) fits).1

found_by : (places : Places) (scope : List Entry) (index : Option ℕ) → fits_scope places scope ≡ true → fits_found places (entry_at scope index) ≡ true
found_by places scope None fits = refl
found_by places scope (Some index) fits = found_at places scope index fits

pub found_named : (places : Places) (scope : List Entry) (name : List ℕ) → fits_scope places scope ≡ true → fits_found places (entry_named scope name) ≡ true
found_named places scope name fits = found_by places scope (index_of scope name) fits
