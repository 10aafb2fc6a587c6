-- The fields of a tree that breaks no rule may start with their own values, and copies copy
-- parameters.
use Rattle.std.proofs.Common.{◌≡◌, ℕ, ◌+◌, ◌≤◌, ◌^◌, ℤ, pos, Bool, true, false, not, ◌&&◌, List, [], ◌∷◌, ◌++◌, length, map, Option, Some, None, refl, sym, ap, subst, ◌∙◌, arith}
use Rattle.std.specs.Prelude.{nat_le, nat_lt, slice_get, IsSomeAnd, if◌then◌else◌}
use Rattle.std.specs.List.{All, flat_map}
use Rattle.std.specs.Option.{option_map}
use Rattle.std.proofs.lemmas.Int.{ints}
use Rattle.std.proofs.lemmas.Bool.Decides.{nat_tests}
use Rattle.std.proofs.lemmas.List.{append_assoc, length-append}
use Rattle.std.proofs.lemmas.List.Elements.{All-cons, All-head, All-nil, All-tail, All-weaker}
use Rattle.std.proofs.lemmas.Option.{slice_get-map}
use Rattle.lang_tree.specs.declared.tree.Lit.{Lit}
use Rattle.lang_tree.specs.declared.tree.LimitTree.{LimitTree}
use Rattle.lang_tree.specs.declared.tree.LimitSign.{LimitSign}
use Rattle.lang_tree.specs.declared.tree.LimitSign.TheVariants as signs
use Rattle.lang_tree.specs.declared.tree.Decl.{Decl}
use Rattle.lang_tree.specs.declared.tree.Decl.TheVariants as decls
use Rattle.lang_base.specs.Limits.{GREATEST_NUMBER}
use Rattle.lang_base.specs.Numbers.{is_within}
use Rattle.lang_base.specs.declared.value.Value.{Value}
use Rattle.lang_base.specs.declared.value.Value.TheVariants as values
use Rattle.lang_forms.specs.Scope.{field_count, literal_value, signed}
use Rattle.lang_rules.specs.Rules.{faults_in_literals, faults_in_sources, faults_in_starts, is_source, is_wrong_start, literal_faults, meets, start_faults, subject_faults}
use Rattle.lang_monitor.specs.declared.monitor.Field.{Field}
use Rattle.lang_monitor.specs.declared.start.Origin.{Origin}
use Rattle.lang_monitor.specs.declared.start.Origin.TheVariants as origins
use Rattle.lang_monitor.specs.MonitorParts.{HasOrigin, IsChosen}
use Rattle.lang_monitor.specs.Starts.{Admits, AreStarts, IsStart, MayStart, fits_64, limit_number}
use Rattle.lang_types.specs.Typed.{IntStart, copied_from, copy_of, field_of, fields_of, int_field, limit_at, limit_of}
use Rattle.lang_types.proofs.FineTrees.{append_none, no_fault}
use Rattle.lang_types.proofs.LimitLaws.{as_written}

-- ---- own numbers of parameters

small_test : (digits : ℕ) → nat_lt GREATEST_NUMBER digits ≡ false → nat_le digits GREATEST_NUMBER ≡ true
small_test digits small = grind (arith, nat_tests)

third_fails : (one two three : Bool) → one ≡ true → two ≡ true → (one && (two && not three)) ≡ false → three ≡ true
third_fails true true true own bound is = refl
third_fails true true false own bound is = absurd cc
third_fails true false three own bound is = absurd cc
third_fails false two three own bound is = absurd cc

signed_fits : (minus : Bool) (digits : ℕ) → digits ≤ GREATEST_NUMBER → fits_64 (values.Int (signed minus (pos digits))) ≡ true
signed_fits true digits small = grind (arith, ints)
signed_fits false digits small = grind (arith, ints)

-- the number of a limit is at most one beside that of its bound
limit_within : (sign : LimitSign) (minus : Bool) (digits : ℕ) → digits ≤ GREATEST_NUMBER → is_within (2 ^ 64) (limit_number (limit_at sign (signed minus (pos digits)))) ≡ true
limit_within signs.Equal true digits small = grind (arith, ints)
limit_within signs.Equal false digits small = grind (arith, ints)
limit_within signs.Less true digits small = grind (arith, ints)
limit_within signs.Less false digits small = grind (arith, ints)
limit_within signs.AtMost true digits small = grind (arith, ints)
limit_within signs.AtMost false digits small = grind (arith, ints)
limit_within signs.More true digits small = grind (arith, ints)
limit_within signs.More false digits small = grind (arith, ints)
limit_within signs.AtLeast true digits small = grind (arith, ints)
limit_within signs.AtLeast false digits small = grind (arith, ints)

at_most : (value bound : ℕ) → nat_le value bound ≡ true → value ≤ bound
at_most value bound test = grind (arith, nat_tests)

-- what the rules give of a parameter
record FineParameter (name : List ℕ) (value : Lit) (limit : LimitTree) : Type 0 where
  admits : Admits (limit_of limit) (literal_value value)
  fits : fits_64 (values.Int (literal_value value)) ≡ true
  within : is_within (2 ^ 64) (limit_number (limit_of limit)) ≡ true

fine_parameter : (at : ℕ) (name : List ℕ) (value : Lit) (limit : LimitTree) → literal_faults (decls.Param at name value limit) ≡ [] → start_faults (decls.Param at name value limit) ≡ [] → FineParameter name value limit
fine_parameter at name value limit small meets_it =
    let both = append_none _ _ small in
    let own = small_test value.digits (no_fault _ _ both.0) in
    let bound = small_test limit.bound.digits (no_fault _ _ both.1) in
    let met = third_fails (nat_le value.digits GREATEST_NUMBER) (nat_le limit.bound.digits GREATEST_NUMBER) (meets limit (literal_value value)) own bound (no_fault (is_wrong_start value limit) _ meets_it) in
    record { admits = (as_written limit (literal_value value)).1 met; fits = signed_fits value.minus value.digits (at_most value.digits GREATEST_NUMBER own); within = limit_within limit.sign limit.bound.minus limit.bound.digits (at_most limit.bound.digits GREATEST_NUMBER bound) }

-- ---- copies

-- what is copied from a parameter is the number that it has
abbrev RefersBy : List Field → ℤ → Origin → Type 0
RefersBy fields number origins.Own = Unit {0}
RefersBy fields number (origins.Chosen limit) = ⊥
RefersBy fields number (origins.Copied place) =
    IsSomeAnd (slice_get fields place) (λ source. IsChosen source.origin × (source.start ≡ values.Int number))

abbrev Refers : List Field → IntStart → Type 0
Refers fields start = RefersBy fields start.number start.origin

at_end : (front : List Field) (field : Field) (rest : List Field) → slice_get (front ++ field ∷ rest) (length front) ≡ Some field
at_end [] field rest = refl
at_end (first ∷ front) field rest = at_end front field rest

either_refers : (test : Bool) (fields : List Field) (one other : IntStart) → Refers fields one → Refers fields other → Refers fields (if test then one else other)
either_refers true fields one other this that = this
either_refers false fields one other this that = that

-- a declaration whose field stands behind these
copied_refers : (known : List Decl) (front : List Field) (place : ℕ) (decl : Decl) (rest : List Field) → place ≡ length front → Refers (front ++ (field_of known decl ++ rest)) (copied_from place decl)
copied_refers known front place (decls.Const at name value) rest here = tt
copied_refers known front place (decls.Param at name value limit) rest here =
    let field = int_field name (literal_value value) (origins.Chosen (limit_of limit)) in
    let found : slice_get (front ++ field ∷ rest) place ≡ Some field = ap (slice_get (front ++ field ∷ rest)) here ∙ at_end front field rest in
    subst (λ (found : Option Field). IsSomeAnd found (λ source. IsChosen source.origin × (source.start ≡ values.Int (literal_value value)))) (sym found) (tt, refl)
copied_refers known front place (decls.Int at name value) rest here = tt
copied_refers known front place (decls.Copied at name source) rest here = tt
copied_refers known front place (decls.Flag at name value) rest here = tt

next_place : (known : List Decl) (front : List Field) (place : ℕ) (decl : Decl) → place ≡ length front → place + field_count (decl ∷ []) ≡ length (front ++ field_of known decl)
next_place known front place (decls.Const at name value) here = let longer = length-append front [] in omega (arith, longer)
next_place known front place (decls.Param at name value limit) here = let longer = length-append front (field_of known (decls.Param at name value limit)) in omega (arith, longer)
next_place known front place (decls.Int at name value) here = let longer = length-append front (field_of known (decls.Int at name value)) in omega (arith, longer)
next_place known front place (decls.Copied at name source) here = let longer = length-append front (field_of known (decls.Copied at name source)) in omega (arith, longer)
next_place known front place (decls.Flag at name value) here = let longer = length-append front (field_of known (decls.Flag at name value)) in omega (arith, longer)

refers : (known : List Decl) (wanted : List ℕ) (front : List Field) (place : ℕ) (declared : List Decl) → place ≡ length front → Refers (front ++ flat_map (field_of known) declared) (copy_of wanted place declared)
refers known wanted front place [] here = tt
refers known wanted front place (decl ∷ more) here =
    let rest = flat_map (field_of known) more in
    let next = place + field_count (decl ∷ []) in
    let later = refers known wanted (front ++ field_of known decl) next more (next_place known front place decl here) in
    either_refers (is_source wanted decl) (front ++ (field_of known decl ++ rest)) (copied_from place decl) (copy_of wanted next more)
    (copied_refers known front place decl rest here)
    (subst (λ (fields : List Field). Refers fields (copy_of wanted next more)) (append_assoc front (field_of known decl) rest) later)

-- ---- each field

-- the field has an origin as it must, and may start with its own value
abbrev Opens : List Field → Field → Type 0
Opens fields field =
    HasOrigin fields field.kind field.origin
    × MayStart (map (λ (one : Field). one.start) fields) field.start field.origin field.start

source_parts : (found : Option Field) (number : ℤ) → IsSomeAnd found (λ source. IsChosen source.origin × (source.start ≡ values.Int number))
    → IsSomeAnd found (λ source. IsChosen source.origin) × (option_map (λ (one : Field). one.start) found ≡ Some (values.Int number))
source_parts None number is = absurd is
source_parts (Some source) number is = (is.0, ap (λ (value : Value). Some value) is.1)

opens_by : (fields : List Field) (name : List ℕ) (number : ℤ) (origin : Origin) → RefersBy fields number origin → Opens fields (int_field name number origin)
opens_by fields name number origins.Own refers = (tt, refl)
opens_by fields name number (origins.Chosen limit) refers = absurd refers
opens_by fields name number (origins.Copied place) refers =
    let both = source_parts (slice_get fields place) number refers in
    ((refl, both.0), slice_get-map (λ (one : Field). one.start) fields place ∙ both.1)

opens_each : (known declared : List Decl) → faults_in_literals declared ≡ [] → flat_map start_faults declared ≡ [] → All (Opens (fields_of known)) (flat_map (field_of known) declared)
opens_each known [] small met = All-nil (Opens (fields_of known))
opens_each known (decls.Const at name value ∷ more) small met =
    let rest = append_none (literal_faults (decls.Const at name value)) (faults_in_literals more) small in
    opens_each known more rest.1 met
opens_each known (decls.Param at name value limit ∷ more) small met =
    let one = decls.Param at name value limit in
    let rest = append_none (literal_faults one) (faults_in_literals more) small in
    let starts = append_none (start_faults one) (flat_map start_faults more) met in
    let fine = fine_parameter at name value limit rest.0 starts.0 in
    All-cons (Opens (fields_of known)) (int_field name (literal_value value) (origins.Chosen (limit_of limit))) (flat_map (field_of known) more)
    ((refl, fine.within), (fine.admits, fine.fits)) (opens_each known more rest.1 starts.1)
opens_each known (decls.Int at name value ∷ more) small met =
    let rest = append_none (literal_faults (decls.Int at name value)) (faults_in_literals more) small in
    All-cons (Opens (fields_of known)) _ (flat_map (field_of known) more) (tt, refl) (opens_each known more rest.1 met)
opens_each known (decls.Copied at name source ∷ more) small met =
    let start = copy_of source.name 0 known in
    All-cons (Opens (fields_of known)) (int_field name start.number start.origin) (flat_map (field_of known) more)
    (opens_by (fields_of known) name start.number start.origin (refers known source.name [] 0 known refl)) (opens_each known more small met)
opens_each known (decls.Flag at name value ∷ more) small met =
    All-cons (Opens (fields_of known)) _ (flat_map (field_of known) more) (tt, refl) (opens_each known more small met)

own_numbers_meet : (declared : List Decl) → faults_in_starts declared ≡ [] → flat_map start_faults declared ≡ []
own_numbers_meet declared none = (append_none (flat_map subject_faults declared ++ faults_in_sources [] declared) (flat_map start_faults declared) none).1

open_all : (declared : List Decl) → faults_in_literals declared ≡ [] → faults_in_starts declared ≡ [] → All (Opens (fields_of declared)) (fields_of declared)
open_all declared small none = opens_each declared declared small (own_numbers_meet declared none)

pub have_origins : (declared : List Decl) → faults_in_literals declared ≡ [] → faults_in_starts declared ≡ [] → All (λ field. HasOrigin (fields_of declared) field.kind field.origin) (fields_of declared)
have_origins declared small none =
    All-weaker (Opens (fields_of declared)) (λ (field : Field). HasOrigin (fields_of declared) field.kind field.origin) (λ field opens. opens.0) (fields_of declared) (open_all declared small none)

start_each : (fields some : List Field) → All (Opens fields) some → AreStarts (map (λ (one : Field). one.start) fields) some (map (λ (one : Field). one.start) some)
start_each fields [] each = tt
start_each fields (field ∷ more) each = ((All-head (Opens fields) field more each).1, start_each fields more (All-tail (Opens fields) field more each))

pub may_open : (declared : List Decl) → faults_in_literals declared ≡ [] → faults_in_starts declared ≡ [] → IsStart (fields_of declared) (map (λ (one : Field). one.start) (fields_of declared))
may_open declared small none = start_each (fields_of declared) (fields_of declared) (open_all declared small none)
