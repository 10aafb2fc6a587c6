-- Statements one after the other, and the kinds of the values, which stay.
use Rattle.std.proofs.Common.{◌≡◌, ℕ, ◌+◌, ◌-◌, ◌<◌, Bool, true, false, cond, ltb, ◌||◌, List, [], ◌∷◌, length, map, drop, set, get_or, refl, sym, subst, ap, ◌∙◌, arith}
use Rattle.std.specs.List.{list_all, slice_get}
use Rattle.std.proofs.lemmas.Bool.{ltb-true, ltb-false}
use Rattle.std.proofs.lemmas.List.{length-map, at_drop_more}
use Rattle.logic_linear.proofs.LinearLemmas.{mapped_at}
use Rattle.lang_base.specs.declared.kind.Kind.{Kind}
use Rattle.lang_base.specs.declared.kind.Kind.TheVariants as kinds
use Rattle.lang_base.specs.declared.value.Value.{Value}
use Rattle.lang_monitor.specs.declared.monitor.Stmt.{Stmt}
use Rattle.lang_monitor.specs.MonitorParts.{Places, kind_of, is_kind, target_at, fits_statement}
use Rattle.lang_monitor.specs.Bodies.{Memory, with_value, effect_of, body_effect}
use Rattle.machine_implicit.specs.inner.Held.{given, held, held_places, HasTarget, SameKinds, AreFew, RunsWhole}
use Rattle.machine_implicit.proofs.Sums.{kind_within}
use Rattle.machine_implicit.proofs.Held.{kinds_set}

-- ---- kinds stay

pub few_kept : (before now : Memory) (inputs : List Value) → SameKinds before now → AreFew before.state (given inputs before.locals) → AreFew now.state (given inputs now.locals)
few_kept before now inputs same few = record {
  few_fields = omega (arith, length-map before.state kind_of, length-map now.state kind_of, ap length same.state, few.few_fields);
  few_inputs = few.few_inputs;
  few_locals = omega (arith, length-map before.locals kind_of, length-map now.locals kind_of, ap length same.locals, few.few_locals);
}

places_kept : (before now : Memory) (inputs : List Value) → SameKinds before now → held_places now.state (given inputs now.locals) ≡ held_places before.state (given inputs before.locals)
places_kept before now inputs same = λ i. record { fields = same.state i; inputs = map kind_of inputs; locals = same.locals i }

fits_kept : (before now : Memory) (inputs : List Value) (statement : Stmt) → SameKinds before now
    → fits_statement (held_places before.state (given inputs before.locals)) statement ≡ true → fits_statement (held_places now.state (given inputs now.locals)) statement ≡ true
fits_kept before now inputs statement same fits =
    subst (λ (places : Places). fits_statement places statement ≡ true) (sym (places_kept before now inputs same)) fits

pub same_still : (memory : Memory) → SameKinds memory memory
same_still memory = record { state = refl; locals = refl }

-- a field or a local with this place, of its kind, is there
target_by : (kind : Kind) (memory : Memory) (place : ℕ) (low middle : Bool) → ltb place 16 ≡ low → ltb place 22 ≡ middle
    → is_kind kind (cond low (slice_get (map kind_of memory.state) place) (cond middle (slice_get [] (place - 16)) (slice_get (map kind_of memory.locals) (place - 22)))) ≡ true
    → HasTarget memory place
target_by kind memory place true middle is also held = record {
  field = λ below. omega (arith, length-map memory.state kind_of, kind_within kind (map kind_of memory.state) place held);
  local = λ above. absurd (omega (arith, ltb-true place 16 is, above));
}
target_by kinds.Int memory place false true is also held = absurd (cc)
target_by kinds.Bool memory place false true is also held = absurd (cc)
target_by kind memory place false false is also held = record {
  field = λ below. absurd (omega (arith, ltb-false place 16 is, below));
  local = λ above. (omega (arith, ltb-false place 22 also), omega (arith, length-map memory.locals kind_of, kind_within kind (map kind_of memory.locals) (place - 22) held));
}

pub has_target : (kind : Kind) (memory : Memory) (inputs : List Value) (place : ℕ) → is_kind kind (target_at (held_places memory.state (given inputs memory.locals)) place) ≡ true → HasTarget memory place
has_target kind memory inputs place held = target_by kind memory place (ltb place 16) (ltb place 22) refl refl held

-- a field or a local gets a value of its kind
set_by : (kind : Kind) (memory : Memory) (place : ℕ) (value : Value) (low middle : Bool) → kind_of value ≡ kind
    → is_kind kind (cond low (slice_get (map kind_of memory.state) place) (cond middle (slice_get [] (place - 16)) (slice_get (map kind_of memory.locals) (place - 22)))) ≡ true
    → SameKinds memory (cond low (held (set memory.state place value) memory.locals) (held memory.state (set memory.locals (place - 22) value)))
set_by kind memory place value true middle is fits = record { state = kinds_set kind memory.state place value is fits; locals = refl }
set_by kinds.Int memory place value false true is fits = absurd (cc)
set_by kinds.Bool memory place value false true is fits = absurd (cc)
set_by kind memory place value false false is fits = record { state = refl; locals = kinds_set kind memory.locals (place - 22) value is fits }

pub same_set : (kind : Kind) (memory next : Memory) (inputs : List Value) (place : ℕ) (value : Value) → kind_of value ≡ kind → next ≡ with_value memory place value
    → is_kind kind (target_at (held_places memory.state (given inputs memory.locals)) place) ≡ true → SameKinds memory next
same_set kind memory next inputs place value is becomes fits = subst (SameKinds memory) (sym becomes) (set_by kind memory place value (ltb place 16) (ltb place 22) is fits)

-- ---- what is left of a body, while it runs from the left

-- the rest of the body goes from the later state as the whole body does from the start
pub record IsLeft (inputs : List Value) (body : List Stmt) (start : Memory) (rest : List Stmt) (now : Memory) : Type 0 where
  pub reaches : (body_effect inputs rest).next now ≡ (body_effect inputs body).next start
  pub overflows : (body_effect inputs rest).overflows now ≡ (body_effect inputs body).overflows start
  pub kinds : SameKinds start now

or_false : (a b : Bool) → a ≡ false → (a || b) ≡ b
or_false a b is = grind (arith, is)

or_true : (a b : Bool) → a ≡ true → (a || b) ≡ true
or_true a b is = grind (arith, is)

pub left_more : (inputs : List Value) (body : List Stmt) (start now next : Memory) (index : ℕ) (statement : Stmt) → index < length body → statement ≡ get_or body index statement
    → IsLeft inputs body start (drop index body) now → RunsWhole (effect_of inputs statement) now next → SameKinds now next
    → IsLeft inputs body start (drop (index + 1) body) next
left_more inputs body start now next index statement within is left runs same =
    let more = drop (index + 1) body in
    let first_reaches : (body_effect inputs (drop index body)).next now ≡ (body_effect inputs more).next ((effect_of inputs statement).next now) =
    at_drop_more (λ (rest : List Stmt). (body_effect inputs rest).next now) body index statement within ∙ ap (λ (one : Stmt). (body_effect inputs (one ∷ more)).next now) (sym is) in
    let first_overflows : (body_effect inputs (drop index body)).overflows now ≡ ((effect_of inputs statement).overflows now || (body_effect inputs more).overflows ((effect_of inputs statement).next now)) =
    at_drop_more (λ (rest : List Stmt). (body_effect inputs rest).overflows now) body index statement within ∙ ap (λ (one : Stmt). (body_effect inputs (one ∷ more)).overflows now) (sym is) in
    record {
      reaches = ap (body_effect inputs more).next runs.reaches ∙ sym first_reaches ∙ left.reaches;
      overflows =
          ap (body_effect inputs more).overflows runs.reaches
          ∙ sym (or_false ((effect_of inputs statement).overflows now) ((body_effect inputs more).overflows ((effect_of inputs statement).next now)) runs.fits)
          ∙ sym first_overflows ∙ left.overflows;
      kinds = record { state = same.state ∙ left.kinds.state; locals = same.locals ∙ left.kinds.locals };
    }

pub left_fails : (inputs : List Value) (body : List Stmt) (start now : Memory) (index : ℕ) (statement : Stmt) → index < length body → statement ≡ get_or body index statement
    → IsLeft inputs body start (drop index body) now → (effect_of inputs statement).overflows now ≡ true
    → (body_effect inputs body).overflows start ≡ true
left_fails inputs body start now index statement within is left overflows =
    let more = drop (index + 1) body in
    let first_overflows : (body_effect inputs (drop index body)).overflows now ≡ ((effect_of inputs statement).overflows now || (body_effect inputs more).overflows ((effect_of inputs statement).next now)) =
    at_drop_more (λ (rest : List Stmt). (body_effect inputs rest).overflows now) body index statement within ∙ ap (λ (one : Stmt). (body_effect inputs (one ∷ more)).overflows now) (sym is) in
    sym left.overflows ∙ first_overflows ∙ or_true ((effect_of inputs statement).overflows now) ((body_effect inputs more).overflows ((effect_of inputs statement).next now)) overflows

-- the next statement of a body fits the state that is reached
pub statement_fits : (inputs : List Value) (body : List Stmt) (start now : Memory) (index : ℕ) (statement : Stmt) → index < length body → statement ≡ get_or body index statement
    → SameKinds start now → list_all (λ part. part) (map (fits_statement (held_places start.state (given inputs start.locals))) body) ≡ true
    → fits_statement (held_places now.state (given inputs now.locals)) statement ≡ true
statement_fits inputs body start now index statement within is same fits =
    fits_kept start now inputs statement same (ap (fits_statement (held_places start.state (given inputs start.locals))) is ∙ mapped_at (fits_statement (held_places start.state (given inputs start.locals))) body index statement within fits)
