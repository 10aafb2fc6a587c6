-- What a name finds in a scope, and that other names have other places.
use Rattle.std.proofs.Common.{◌≡◌, ◌≢◌, ℕ, ◌+◌, ◌<◌, ◌≤◌, ◌⊎◌, Bool, true, false, cond, List, [], ◌∷◌, ◌++◌, length, drop, Option, Some, None, refl, sym, ap, subst, ◌∙◌, arith, inl, inr, true≢false}
use Rattle.std.specs.Prelude.{nat_lt, slice_get}
use Rattle.std.specs.List.{find, flat_map, position_or_len}
use Rattle.std.specs.Str.{bytes_eq}
use Rattle.std.proofs.lemmas.Bool.Decides.{nat_tests}
use Rattle.std.proofs.lemmas.List.{append-nil}
use Rattle.std.proofs.lemmas.List.Folds.{find_at}
use Rattle.std.proofs.lemmas.Option.{slice_get_past}
use Rattle.std.proofs.lemmas.Slice.Eq.{bytes_eq-Decides}
use Rattle.lang_tree.specs.declared.tree.Decl.{Decl}
use Rattle.lang_tree.specs.declared.tree.Decl.TheVariants as decls
use Rattle.lang_tree.specs.declared.tree.InputTree.{InputTree}
use Rattle.lang_tree.specs.declared.tree.MethodTree.{MethodTree}
use Rattle.lang_base.specs.declared.kind.Kind.{Kind}
use Rattle.lang_base.specs.declared.kind.Kind.TheVariants as kinds
use Rattle.lang_forms.specs.declared.scope.Meaning.{Meaning}
use Rattle.lang_forms.specs.declared.scope.Meaning.TheVariants as meanings
use Rattle.lang_forms.specs.declared.scope.Entry.{Entry}
use Rattle.lang_forms.specs.Scope.{declared_from, entry_at, entry_named, field_count, input_meaning, inputs_from, scope_of}
use Rattle.lang_monitor.specs.MonitorParts.{kinds_of}
use Rattle.lang_types.specs.Typed.{field_of, fields_of, locals_of}
use Rattle.lang_types.proofs.ScopePlaces.{after_rest, first_of_rest, within_rest}

-- ---- what a name finds

abbrev pub found : List Entry → List ℕ → Option Entry
found scope name = find (λ entry. bytes_eq entry.name name) scope

either_way : (scope : List Entry) (test : Bool) (index : ℕ) → (test ≡ false → slice_get scope index ≡ None) → entry_at scope (cond test (Some index) None) ≡ slice_get scope index
either_way scope true index past = refl
either_way scope false index past = sym (past refl)

pub named_is_found : (scope : List Entry) (name : List ℕ) → entry_named scope name ≡ found scope name
named_is_found scope name =
    let index = position_or_len (λ (entry : Entry). bytes_eq entry.name name) scope in
    either_way scope (nat_lt index (length scope)) index (λ out. slice_get_past scope index (grind (arith, nat_tests)))
    ∙ sym (find_at (λ (entry : Entry). bytes_eq entry.name name) scope)

pub same_name : (these those : List ℕ) → bytes_eq these those ≡ true → these ≡ those
same_name these those is = (bytes_eq-Decides these those).0 is

pub own_name : (name : List ℕ) → bytes_eq name name ≡ true
own_name name = (bytes_eq-Decides name name).1 refl

-- ---- other names have other places

abbrev pub HasPlace : ℕ → Meaning → Type 0
HasPlace place (meanings.Number number) = ⊥
HasPlace place (meanings.Int own) = own ≡ place
HasPlace place (meanings.Flag own) = own ≡ place

abbrev pub Misses : ℕ → Meaning → Type 0
Misses place (meanings.Number number) = Unit {0}
Misses place (meanings.Int own) = own ≢ place
Misses place (meanings.Flag own) = own ≢ place

abbrev AllMiss : ℕ → List Entry → Type 0
AllMiss place [] = Unit {0}
AllMiss place (entry ∷ scope) = Misses place entry.meaning × AllMiss place scope

abbrev pub FoundMisses : ℕ → Option Entry → Type 0
FoundMisses place None = Unit {0}
FoundMisses place (Some entry) = Misses place entry.meaning

-- the later entries have other places than a meaning's
abbrev IsApart : Meaning → List Entry → Type 0
IsApart (meanings.Number number) scope = Unit {0}
IsApart (meanings.Int place) scope = AllMiss place scope
IsApart (meanings.Flag place) scope = AllMiss place scope

abbrev pub AreApart : List Entry → Type 0
AreApart [] = Unit {0}
AreApart (entry ∷ scope) = IsApart entry.meaning scope × AreApart scope

either_found : (test : Bool) (P : Option Entry → Type 0) (this that : Option Entry) → P this → P that → P (cond test this that)
either_found true P this that first rest = first
either_found false P this that first rest = rest

found_misses : (place : ℕ) (scope : List Entry) (name : List ℕ) → AllMiss place scope → FoundMisses place (found scope name)
found_misses place [] name miss = tt
found_misses place (entry ∷ scope) name miss = either_found (bytes_eq entry.name name) (FoundMisses place) (Some entry) (found scope name) miss.0 (found_misses place scope name miss.1)

later_misses : (place : ℕ) (meaning : Meaning) (scope : List Entry) → HasPlace place meaning → IsApart meaning scope → AllMiss place scope
later_misses place (meanings.Number number) scope has apart = absurd has
later_misses place (meanings.Int own) scope has apart = subst (λ (x : ℕ). AllMiss x scope) has apart
later_misses place (meanings.Flag own) scope has apart = subst (λ (x : ℕ). AllMiss x scope) has apart

other_way : (place own : ℕ) (meaning : Meaning) → Misses own meaning → HasPlace place meaning → own ≢ place
other_way place own (meanings.Number number) miss has = absurd has
other_way place own (meanings.Int its) miss has = λ same. miss (has ∙ sym same)
other_way place own (meanings.Flag its) miss has = λ same. miss (has ∙ sym same)

earlier_misses : (place : ℕ) (meaning : Meaning) (scope : List Entry) (name : List ℕ) (entry : Entry) → IsApart meaning scope → found scope name ≡ Some entry → HasPlace place entry.meaning → Misses place meaning
earlier_misses place (meanings.Number number) scope name entry apart is has = tt
earlier_misses place (meanings.Int own) scope name entry apart is has = other_way place own entry.meaning (subst (FoundMisses own) is (found_misses own scope name apart)) has
earlier_misses place (meanings.Flag own) scope name entry apart is has = other_way place own entry.meaning (subst (FoundMisses own) is (found_misses own scope name apart)) has

some_is : {X : Type 0} (x y : X) → Some x ≡ Some y → x ≡ y
some_is x y is = cc

abbrev OthersMiss : List Entry → List ℕ → List ℕ → Type 0
OthersMiss scope target name =
    (place : ℕ) (entry : Entry) → found scope target ≡ Some entry → HasPlace place entry.meaning → FoundMisses place (found scope name)

first_misses : (first : Entry) (scope : List Entry) (target name : List ℕ) (this that : Bool)
    → bytes_eq first.name target ≡ this → bytes_eq first.name name ≡ that → bytes_eq target name ≡ false
    → IsApart first.meaning scope → OthersMiss scope target name
    → (place : ℕ) (entry : Entry) → cond this (Some first) (found scope target) ≡ Some entry → HasPlace place entry.meaning
    → FoundMisses place (cond that (Some first) (found scope name))
first_misses first scope target name true true at also other apart rest place entry is has =
    let both : target ≡ name = sym (same_name first.name target at) ∙ same_name first.name name also in
    absurd (true≢false (sym (own_name name) ∙ ap (λ (x : List ℕ). bytes_eq x name) (sym both) ∙ other))
first_misses first scope target name true false at also other apart rest place entry is has =
    found_misses place scope name (later_misses place first.meaning scope (subst (λ (x : Entry). HasPlace place x.meaning) (sym (some_is first entry is)) has) apart)
first_misses first scope target name false true at also other apart rest place entry is has = earlier_misses place first.meaning scope target entry apart is has
first_misses first scope target name false false at also other apart rest place entry is has = rest place entry is has

pub others_miss : (scope : List Entry) (target name : List ℕ) → AreApart scope → bytes_eq target name ≡ false → OthersMiss scope target name
others_miss [] target name apart other = λ place entry is has. tt
others_miss (first ∷ scope) target name apart other =
    first_misses first scope target name (bytes_eq first.name target) (bytes_eq first.name name) refl refl other apart.0 (others_miss scope target name apart.1 other)

-- ---- the places of a method's scope

abbrev IsAbove : ℕ → Meaning → Type 0
IsAbove low (meanings.Number number) = Unit {0}
IsAbove low (meanings.Int own) = low ≤ own
IsAbove low (meanings.Flag own) = low ≤ own

abbrev AreAbove : ℕ → List Entry → Type 0
AreAbove low [] = Unit {0}
AreAbove low (entry ∷ scope) = IsAbove low entry.meaning × AreAbove low scope

one_lower : (low high : ℕ) (meaning : Meaning) → low ≤ high → IsAbove high meaning → IsAbove low meaning
one_lower low high (meanings.Number number) less above = tt
one_lower low high (meanings.Int own) less above = omega (arith, above)
one_lower low high (meanings.Flag own) less above = omega (arith, above)

each_lower : (low high : ℕ) (scope : List Entry) → low ≤ high → AreAbove high scope → AreAbove low scope
each_lower low high [] less above = tt
each_lower low high (entry ∷ scope) less above = (one_lower low high entry.meaning less above.0, each_lower low high scope less above.1)

one_misses : (place : ℕ) (meaning : Meaning) → IsAbove (place + 1) meaning → Misses place meaning
one_misses place (meanings.Number number) above = tt
one_misses place (meanings.Int own) above = λ same. absurd (omega (arith, above, same))
one_misses place (meanings.Flag own) above = λ same. absurd (omega (arith, above, same))

each_misses : (place : ℕ) (scope : List Entry) → AreAbove (place + 1) scope → AllMiss place scope
each_misses place [] above = tt
each_misses place (entry ∷ scope) above = (one_misses place entry.meaning above.0, each_misses place scope above.1)

input_above : (place : ℕ) (kind : Kind) → IsAbove place (input_meaning kind place)
input_above place kinds.Int = omega arith
input_above place kinds.Bool = omega arith

inputs_above : (place : ℕ) (taken : List InputTree) (later : List Entry) → AreAbove (place + length taken) later → AreAbove place (inputs_from place taken ++ later)
inputs_above place [] later above = each_lower place (place + 0) later (omega arith) above
inputs_above place (input ∷ more) later above =
    let next = each_lower (place + 1 + length more) (place + length (input ∷ more)) later (omega arith) above in
    (input_above place input.kind, each_lower place (place + 1) (inputs_from (place + 1) more ++ later) (omega arith) (inputs_above (place + 1) more later next))

input_apart : (place : ℕ) (kind : Kind) (scope : List Entry) → AllMiss place scope → IsApart (input_meaning kind place) scope
input_apart place kinds.Int scope miss = miss
input_apart place kinds.Bool scope miss = miss

inputs_apart : (place : ℕ) (taken : List InputTree) (later : List Entry) → AreAbove (place + length taken) later → AreApart later → AreApart (inputs_from place taken ++ later)
inputs_apart place [] later above apart = apart
inputs_apart place (input ∷ more) later above apart =
    let next = each_lower (place + 1 + length more) (place + length (input ∷ more)) later (omega arith) above in
    let rest = inputs_from (place + 1) more ++ later in
    (input_apart place input.kind rest (each_misses place rest (inputs_above (place + 1) more later next)), inputs_apart (place + 1) more later next apart)

declared_above : (place : ℕ) (declared : List Decl) (later : List Entry) → AreAbove (place + field_count declared) later → AreAbove place (declared_from place declared ++ later)
declared_above place [] later above = each_lower place (place + 0) later (omega arith) above
declared_above place (decls.Const at name value ∷ more) later above = (tt, declared_above place more later above)
declared_above place (decls.Param at name value limit ∷ more) later above =
    let rest = declared_above (place + 1) more later (each_lower (place + 1 + field_count more) (place + (1 + field_count more)) later (omega arith) above) in
    (omega arith, each_lower place (place + 1) (declared_from (place + 1) more ++ later) (omega arith) rest)
declared_above place (decls.Int at name value ∷ more) later above =
    let rest = declared_above (place + 1) more later (each_lower (place + 1 + field_count more) (place + (1 + field_count more)) later (omega arith) above) in
    (omega arith, each_lower place (place + 1) (declared_from (place + 1) more ++ later) (omega arith) rest)
declared_above place (decls.Copied at name source ∷ more) later above =
    let rest = declared_above (place + 1) more later (each_lower (place + 1 + field_count more) (place + (1 + field_count more)) later (omega arith) above) in
    (omega arith, each_lower place (place + 1) (declared_from (place + 1) more ++ later) (omega arith) rest)
declared_above place (decls.Flag at name value ∷ more) later above =
    let rest = declared_above (place + 1) more later (each_lower (place + 1 + field_count more) (place + (1 + field_count more)) later (omega arith) above) in
    (omega arith, each_lower place (place + 1) (declared_from (place + 1) more ++ later) (omega arith) rest)

declared_apart : (place : ℕ) (declared : List Decl) (later : List Entry) → AreAbove (place + field_count declared) later → AreApart later → AreApart (declared_from place declared ++ later)
declared_apart place [] later above apart = apart
declared_apart place (decls.Const at name value ∷ more) later above apart = (tt, declared_apart place more later above apart)
declared_apart place (decls.Param at name value limit ∷ more) later above apart =
    let next = each_lower (place + 1 + field_count more) (place + (1 + field_count more)) later (omega arith) above in
    (each_misses place (declared_from (place + 1) more ++ later) (declared_above (place + 1) more later next), declared_apart (place + 1) more later next apart)
declared_apart place (decls.Int at name value ∷ more) later above apart =
    let next = each_lower (place + 1 + field_count more) (place + (1 + field_count more)) later (omega arith) above in
    (each_misses place (declared_from (place + 1) more ++ later) (declared_above (place + 1) more later next), declared_apart (place + 1) more later next apart)
declared_apart place (decls.Copied at name source ∷ more) later above apart =
    let next = each_lower (place + 1 + field_count more) (place + (1 + field_count more)) later (omega arith) above in
    (each_misses place (declared_from (place + 1) more ++ later) (declared_above (place + 1) more later next), declared_apart (place + 1) more later next apart)
declared_apart place (decls.Flag at name value ∷ more) later above apart =
    let next = each_lower (place + 1 + field_count more) (place + (1 + field_count more)) later (omega arith) above in
    (each_misses place (declared_from (place + 1) more ++ later) (declared_above (place + 1) more later next), declared_apart (place + 1) more later next apart)

counted : (known declared : List Decl) → field_count declared ≡ length (kinds_of (flat_map (field_of known) declared))
counted known [] = refl
counted known (decls.Const at name value ∷ more) = counted known more
counted known (decls.Param at name value limit ∷ more) = let rest = counted known more in omega arith
counted known (decls.Int at name value ∷ more) = let rest = counted known more in omega arith
counted known (decls.Copied at name source ∷ more) = let rest = counted known more in omega arith
counted known (decls.Flag at name value ∷ more) = let rest = counted known more in omega arith

locals_above : (locals : List Decl) → AreAbove 22 (declared_from 22 locals)
locals_above locals = subst (AreAbove 22) (append-nil (declared_from 22 locals)) (declared_above 22 locals [] tt)

locals_apart : (locals : List Decl) → AreApart (declared_from 22 locals)
locals_apart locals = subst AreApart (append-nil (declared_from 22 locals)) (declared_apart 22 locals [] tt tt)

pub scope_apart : (declared : List Decl) (method : MethodTree) → length (kinds_of (fields_of declared)) ≤ 16 → length method.inputs ≤ 6 → AreApart (scope_of declared method)
scope_apart declared method few few_inputs =
    let count = counted declared declared in
    let locals = declared_from 22 method.locals in
    let later = inputs_from 16 method.inputs ++ locals in
    let high = each_lower (16 + length method.inputs) 22 locals (omega arith) (locals_above method.locals) in
    declared_apart 0 declared later (each_lower (0 + field_count declared) 16 later (omega arith) (inputs_above 16 method.inputs locals high))
    (inputs_apart 16 method.inputs locals high (locals_apart method.locals))

-- ---- targets: fields and locals have places of their kinds

-- the kinds of the fields and of a method's locals
pub record Variables : Type 0 where
  pub fields : List Kind
  pub locals : List Kind

pub record OfField (fields : List Kind) (place : ℕ) (kind : Kind) : Type 0 where
  pub low : place < 16
  pub is : slice_get fields place ≡ Some kind

pub record OfLocal (locals : List Kind) (place : ℕ) (kind : Kind) : Type 0 where
  pub own : ℕ
  pub at : place ≡ 22 + own
  pub is : slice_get locals own ≡ Some kind

-- the place is a field's or a local's of this kind
abbrev pub IsStored : Variables → ℕ → Kind → Type 0
IsStored variables place kind = OfField variables.fields place kind ⊎ OfLocal variables.locals place kind

abbrev pub TargetPlace : Variables → Meaning → Type 0
TargetPlace variables (meanings.Number number) = ⊥
TargetPlace variables (meanings.Int place) = IsStored variables place kinds.Int
TargetPlace variables (meanings.Flag place) = IsStored variables place kinds.Bool

abbrev IsTarget : Variables → Entry → Type 0
IsTarget variables entry = entry.is_variable ≡ true → TargetPlace variables entry.meaning

abbrev pub AreTargets : Variables → List Entry → Type 0
AreTargets variables [] = Unit {0}
AreTargets variables (entry ∷ scope) = IsTarget variables entry × AreTargets variables scope

abbrev pub FoundTarget : Variables → Option Entry → Type 0
FoundTarget variables None = Unit {0}
FoundTarget variables (Some entry) = IsTarget variables entry

pub found_target : (variables : Variables) (scope : List Entry) (name : List ℕ) → AreTargets variables scope → FoundTarget variables (found scope name)
found_target variables [] name targets = tt
found_target variables (entry ∷ scope) name targets =
    either_found (bytes_eq entry.name name) (FoundTarget variables) (Some entry) (found scope name) targets.0 (found_target variables scope name targets.1)

inputs_targets : (variables : Variables) (place : ℕ) (taken : List InputTree) (later : List Entry) → AreTargets variables later → AreTargets variables (inputs_from place taken ++ later)
inputs_targets variables place [] later targets = targets
inputs_targets variables place (input ∷ more) later targets = (λ is. absurd (true≢false (sym is)), inputs_targets variables (place + 1) more later targets)

-- the kinds of a list are stored at the places from the first one on
record Store (variables : Variables) (first : ℕ) (list : List Kind) : Type 0 where
  at : (place k : ℕ) (kind : Kind) (rest : List Kind) → place ≡ first + k → drop k list ≡ kind ∷ rest → IsStored variables place kind

fields_stored : (variables : Variables) → length variables.fields ≤ 16 → Store variables 0 variables.fields
fields_stored variables few = record {
  at = λ place k kind rest at is.
      let within = within_rest variables.fields k kind rest is in
      let same : k ≡ place = omega arith in
      inl (record { low = omega arith; is = ap (slice_get variables.fields) (sym same) ∙ first_of_rest variables.fields k kind rest is });
}

locals_stored : (variables : Variables) → Store variables 22 variables.locals
locals_stored variables = record { at = λ place k kind rest at is. inr (record { own = k; at = at; is = first_of_rest variables.locals k kind rest is }) }

declared_targets : (known : List Decl) (variables : Variables) (first : ℕ) (list : List Kind) → Store variables first list → (place k : ℕ) (declared : List Decl) (later : List Entry) → place ≡ first + k
    → drop k list ≡ kinds_of (flat_map (field_of known) declared) → AreTargets variables later → AreTargets variables (declared_from place declared ++ later)
declared_targets known variables first list store place k [] later at rest targets = targets
declared_targets known variables first list store place k (decls.Const from name value ∷ more) later at rest targets =
    (λ is. absurd (true≢false (sym is)), declared_targets known variables first list store place k more later at rest targets)
declared_targets known variables first list store place k (decls.Param from name value limit ∷ more) later at rest targets =
    let here = store.at place k kinds.Int (kinds_of (flat_map (field_of known) more)) at rest in
    let next = after_rest list k kinds.Int (kinds_of (flat_map (field_of known) more)) rest in
    (λ is. here, declared_targets known variables first list store (place + 1) (k + 1) more later (omega arith) next targets)
declared_targets known variables first list store place k (decls.Int from name value ∷ more) later at rest targets =
    let here = store.at place k kinds.Int (kinds_of (flat_map (field_of known) more)) at rest in
    let next = after_rest list k kinds.Int (kinds_of (flat_map (field_of known) more)) rest in
    (λ is. here, declared_targets known variables first list store (place + 1) (k + 1) more later (omega arith) next targets)
declared_targets known variables first list store place k (decls.Copied from name source ∷ more) later at rest targets =
    let here = store.at place k kinds.Int (kinds_of (flat_map (field_of known) more)) at rest in
    let next = after_rest list k kinds.Int (kinds_of (flat_map (field_of known) more)) rest in
    (λ is. here, declared_targets known variables first list store (place + 1) (k + 1) more later (omega arith) next targets)
declared_targets known variables first list store place k (decls.Flag from name value ∷ more) later at rest targets =
    let here = store.at place k kinds.Bool (kinds_of (flat_map (field_of known) more)) at rest in
    let next = after_rest list k kinds.Bool (kinds_of (flat_map (field_of known) more)) rest in
    (λ is. here, declared_targets known variables first list store (place + 1) (k + 1) more later (omega arith) next targets)

abbrev pub variables_of : List Decl → MethodTree → Variables
variables_of declared method = record { fields = kinds_of (fields_of declared); locals = kinds_of (locals_of method.locals) }

pub scope_targets : (declared : List Decl) (method : MethodTree) → length (kinds_of (fields_of declared)) ≤ 16 → AreTargets (variables_of declared method) (scope_of declared method)
scope_targets declared method few =
    let variables = variables_of declared method in
    let locals = declared_from 22 method.locals in
    let own = subst (AreTargets variables) (append-nil locals) (declared_targets [] variables 22 variables.locals (locals_stored variables) 22 0 method.locals [] refl refl tt) in
    declared_targets declared variables 0 variables.fields (fields_stored variables few) 0 0 declared (inputs_from 16 method.inputs ++ locals) refl refl
    (inputs_targets variables 16 method.inputs locals own)
