-- Values and their kinds, and a block in a state of its monitor.
use Rattle.std.proofs.Common.{◌≡◌, ℕ, zero, suc, true, List, [], ◌∷◌, Some, map, set, refl, sym, subst, ap, ◌∙◌}
use Rattle.std.specs.List.{All, slice_get}
use Rattle.std.proofs.lemmas.List.Elements.{All-head, All-tail}
use Rattle.lang_base.specs.declared.kind.Kind.{Kind}
use Rattle.lang_base.specs.declared.kind.Kind.TheVariants as kinds
use Rattle.lang_base.specs.declared.value.Value.{Value}
use Rattle.lang_base.specs.declared.value.Value.TheVariants as values
use Rattle.lang_monitor.specs.declared.monitor.Field.{Field}
use Rattle.lang_monitor.specs.MonitorParts.{IsOfKind, AreOfKinds, MonitorParts, IsMonitor, kinds_of, kind_of, is_kind}
use Rattle.machine_implicit.specs.Steps.{FitsState, start_of}

-- ---- kinds of values

pub kind_held : (kind : Kind) (value : Value) → IsOfKind kind value → kind_of value ≡ kind
kind_held kinds.Int (values.Int number) held = refl
kind_held kinds.Int (values.Bool truth) held = absurd held
kind_held kinds.Bool (values.Int number) held = absurd held
kind_held kinds.Bool (values.Bool truth) held = refl

pub of_its_kind : (value : Value) → IsOfKind (kind_of value) value
of_its_kind (values.Int number) = tt
of_its_kind (values.Bool truth) = tt

pub kinds_held : (some_kinds : List Kind) (some_values : List Value) → AreOfKinds some_kinds some_values → map kind_of some_values ≡ some_kinds
kinds_held [] [] held = refl
kinds_held [] (value ∷ more) held = absurd held
kinds_held (kind ∷ more) [] held = absurd held
kinds_held (kind ∷ more_kinds) (value ∷ more_values) held =
    ap (λ (first : Kind). first ∷ map kind_of more_values) (kind_held kind value held.0) ∙ ap (λ (rest : List Kind). kind ∷ rest) (kinds_held more_kinds more_values held.1)

pub of_their_kinds : (some_values : List Value) → AreOfKinds (map kind_of some_values) some_values
of_their_kinds [] = tt
of_their_kinds (value ∷ more) = (of_its_kind value, of_their_kinds more)

pub held_from_kinds : (some_kinds : List Kind) (some_values : List Value) → map kind_of some_values ≡ some_kinds → AreOfKinds some_kinds some_values
held_from_kinds some_kinds some_values same = subst (λ (which : List Kind). AreOfKinds which some_values) same (of_their_kinds some_values)

same_kind : (kind other : Kind) → is_kind kind (Some other) ≡ true → kind ≡ other
same_kind kinds.Int kinds.Int held = refl
same_kind kinds.Int kinds.Bool held = absurd (cc)
same_kind kinds.Bool kinds.Int held = absurd (cc)
same_kind kinds.Bool kinds.Bool held = refl

-- one of them gets a value of its kind
pub kinds_set : (kind : Kind) (some : List Value) (at : ℕ) (value : Value) → kind_of value ≡ kind → is_kind kind (slice_get (map kind_of some) at) ≡ true
    → map kind_of (set some at value) ≡ map kind_of some
kinds_set kind [] at value is held = refl
kinds_set kind (first ∷ some) zero value is held = ap (λ (one : Kind). one ∷ map kind_of some) (is ∙ same_kind kind (kind_of first) held)
kinds_set kind (first ∷ some) (suc at) value is held = ap (λ (rest : List Kind). kind_of first ∷ rest) (kinds_set kind some at value is held)

-- ---- the start

pub start_fits : (fields : List Field) → All (λ field. IsOfKind field.kind field.start) fields → AreOfKinds (kinds_of fields) (map (λ field. field.start) fields)
start_fits [] held = tt
start_fits (field ∷ fields) held =
    (All-head (λ (one : Field). IsOfKind one.kind one.start) field fields held, start_fits fields (All-tail (λ (one : Field). IsOfKind one.kind one.start) field fields held))

pub start_state_fits : (monitor : MonitorParts) (state : List Value) → IsMonitor monitor → state ≡ start_of monitor → FitsState monitor state
start_state_fits monitor state rule start =
    subst (λ (values : List Value). FitsState monitor values) (sym start) (start_fits monitor.fields rule.starts)
