-- Whom notes woke.
use Rattle.std.proofs.Common.{◌≡◌, ◌↔◌, ◌⊎◌, ℕ, Bool, List, cond, Some, refl, sym, ap, subst, ◌∙◌, inl, inr}
use Rattle.std.specs.Prelude.{option_map, Contains}
use Rattle.std.specs.Int.RustNames.{bit_or}
use Rattle.std.proofs.lemmas.Bool.{cases_eq, eq-eqb}
use Rattle.std.proofs.lemmas.Option.{slice_get-map}
use Rattle.machine_events.specs.declared.plan.Note.{Note}
use Rattle.machine_events.specs.declared.event.Stage.{Stage}
use Rattle.machine_events.specs.Configurations.{Standing, StandsAt, put}
use Rattle.machine_events.specs.declared.event.Stage.TheVariants.{Idle, Waiting, Woken, Notifying}
use Rattle.machine_events.specs.Events.{waking, wake_all}
use Rattle.machine_events.proofs.Standings.{put_same, one_place, one_stage, stands_within, came, apart, stays, unwoken_stays}
use Rattle.machine_explicit.specs.inner.Waiting.{AreBits, WasWoken, WokeThese}
use Rattle.machine_explicit.proofs.Bits.{bits_alike, no_bits, either_bits}
use Rattle.machine_explicit.proofs.Lining.{WaitsAfter, Anyone, ButOne, ButOn, IsQuiet, idle_is_quiet, notifying_is_quiet, same_waiting, one_left, each_left}
use Rattle.machine_implicit.specs.declared.place.Place.{Place}

waiting_woken : (condition another : ℕ) → ◌≡◌ {A = Stage (List Note)} (Waiting condition) (Woken another) → ⊥
waiting_woken condition another is = cc is

woken_waiting : (condition another : ℕ) → ◌≡◌ {A = Stage (List Note)} (Woken condition) (Waiting another) → ⊥
woken_waiting condition another is = cc is

-- neither waiting nor woken
abbrev pub IsCalm : Stage (List Note) → Type 0
IsCalm stage = IsQuiet stage × ((condition : ℕ) → Woken condition ≡ stage → ⊥)

pub idle_is_calm : IsCalm Idle
idle_is_calm = (idle_is_quiet, woken_idle)
  where
    woken_idle : (condition : ℕ) → ◌≡◌ {A = Stage (List Note)} (Woken condition) Idle → ⊥
    woken_idle condition is = cc is

pub notifying_is_calm : (notes : List Note) → IsCalm (Notifying notes)
notifying_is_calm notes = (notifying_is_quiet notes, woken_notifying)
  where
    woken_notifying : (condition : ℕ) → Woken condition ≡ Notifying notes → ⊥
    woken_notifying condition is = cc is

-- ---- one client is put elsewhere

-- a stage that it had neither before nor after
kept_apart : (client : ℕ) (place was_place : Place) (stage was held : Stage (List Note)) (before next : List Standing) → next ≡ put before client place stage → StandsAt before client was_place was → (held ≡ stage → ⊥) → (held ≡ was → ⊥)
    → (other : ℕ) (others_place : Place) → StandsAt next other others_place held ↔ StandsAt before other others_place held
kept_apart client place was_place stage was held before next is stood not_after not_before other others_place = (there, back)
  where
    there : StandsAt next other others_place held → StandsAt before other others_place held
    there at = elim (came before client place stage other others_place held (stands_within before client was_place was stood) (subst (λ (some : List Standing). StandsAt some other others_place held) is at)) [
      | inl mover ↦ absurd (not_after mover.where_stage)
      | inr stays_there ↦ stays_there.stood
    ]

    back : StandsAt before other others_place held → StandsAt next other others_place held
    back at = subst (λ (some : List Standing). StandsAt some other others_place held) (sym is)
        (stays before client place stage other others_place held (apart before client was_place other others_place was held stood at not_before) at)

pub woke_put : (client : ℕ) (place was_place : Place) (bits : ℕ) (stage was : Stage (List Note)) (before woken next : List Standing) → next ≡ put woken client place stage → StandsAt woken client was_place was → IsCalm was → IsCalm stage
    → WokeThese before woken bits → WokeThese before next bits
woke_put client place was_place bits stage was before woken next is stood calm_before calm these = record {
  waited = λ other others_place condition at. these.waited other others_place condition ((waits condition other others_place).0 at);
  goes = λ other others_place condition at. elim (these.goes other others_place condition at) [
    | inl still ↦ inl ((waits condition other others_place).1 still)
    | inr goes_on ↦ inr ((wakes condition other others_place).1 goes_on)
  ];
  stays = λ other others_place condition at. (wakes condition other others_place).1 (these.stays other others_place condition at);
  woken = bits_alike (λ other. WasWoken before woken other) (λ other. WasWoken before next other) bits (λ other. (
    (λ found. (found.0, found.1, found.2, (wakes found.1 other found.0).1 found.3)),
    (λ found. (found.0, found.1, found.2, (wakes found.1 other found.0).0 found.3)),
  )) these.woken;
}
  where
    waits : (condition other : ℕ) (others_place : Place) → StandsAt next other others_place (Waiting condition) ↔ StandsAt woken other others_place (Waiting condition)
    waits condition = kept_apart client place was_place stage was (Waiting condition) woken next is stood (calm.0 condition) (calm_before.0 condition)

    wakes : (condition other : ℕ) (others_place : Place) → StandsAt next other others_place (Woken condition) ↔ StandsAt woken other others_place (Woken condition)
    wakes condition = kept_apart client place was_place stage was (Woken condition) woken next is stood (calm.1 condition) (calm_before.1 condition)

-- who waits stays the same up to there
pub woken_since : (first before next : List Standing) (bits : ℕ) → WaitsAfter Anyone first before → AreBits (λ client. WasWoken before next client) bits → AreBits (λ client. WasWoken first next client) bits
woken_since first before next bits after = bits_alike (λ client. WasWoken before next client) (λ client. WasWoken first next client) bits (λ client. (
  (λ found. (found.0, found.1, ((after client found.0 found.1).0 found.2).0, found.3)),
  (λ found. (found.0, found.1, (after client found.0 found.1).1 found.2 tt, found.3)),
))

-- ---- nobody, then more

pub woke_nobody : (before next : List Standing) → next ≡ before → WokeThese before next 0
woke_nobody before next is = record {
  waited = λ client place condition at. subst (λ (some : List Standing). StandsAt some client place (Waiting condition)) is at;
  goes = λ client place condition at. inl (subst (λ (some : List Standing). StandsAt some client place (Waiting condition)) (sym is) at);
  stays = λ client place condition at. subst (λ (some : List Standing). StandsAt some client place (Woken condition)) (sym is) at;
  woken = no_bits (λ client. WasWoken before next client) (λ client found.
      waiting_woken found.1 found.1 (one_stage before client found.0 found.0 (Waiting found.1) (Woken found.1) found.2 (subst (λ (some : List Standing). StandsAt some client found.0 (Woken found.1)) is found.3)));
}

pub woke_more : (first second third : List Standing) (bits more : ℕ) → WokeThese first second bits → WokeThese second third more → WokeThese first third (bit_or bits more)
woke_more first second third bits more one two = record {
  waited = λ client place condition at. one.waited client place condition (two.waited client place condition at);
  goes = λ client place condition at. elim (one.goes client place condition at) [
    | inl still ↦ two.goes client place condition still
    | inr goes_on ↦ inr (two.stays client place condition goes_on)
  ];
  stays = λ client place condition at. two.stays client place condition (one.stays client place condition at);
  woken = bits_alike (λ client. WasWoken first second client ⊎ WasWoken second third client) (λ client. WasWoken first third client) (bit_or bits more) (λ client. (there client, back client))
      (either_bits (λ client. WasWoken first second client) (λ client. WasWoken second third client) bits more one.woken two.woken);
}
  where
    there : (client : ℕ) → WasWoken first second client ⊎ WasWoken second third client → WasWoken first third client
    there client (inl found) = (found.0, found.1, found.2, two.stays client found.0 found.1 found.3)
    there client (inr found) = (found.0, found.1, one.waited client found.0 found.1 found.2, found.3)

    back : (client : ℕ) → WasWoken first third client → WasWoken first second client ⊎ WasWoken second third client
    back client found = elim (one.goes client found.0 found.1 found.2) [
      | inl still ↦ inr (found.0, found.1, still, found.3)
      | inr goes_on ↦ inl (found.0, found.1, found.2, goes_on)
    ]

-- ---- one client is woken

woken_where : (before next : List Standing) (client : ℕ) (place others_place : Place) (on condition : ℕ) → StandsAt before client place (Waiting on) → StandsAt before client others_place (Waiting condition) → StandsAt next client place (Woken on)
    → StandsAt next client others_place (Woken condition)
woken_where before next client place others_place on condition stood at woken =
    subst (λ (one : Place). StandsAt next client one (Woken condition)) (one_place before client place others_place (Waiting on) (Waiting condition) stood at)
    (subst (λ (which : ℕ). StandsAt next client place (Woken which)) (same_waiting on condition (one_stage before client place others_place (Waiting on) (Waiting condition) stood at)) woken)

pub woke_one : (target : ℕ) (place : Place) (on bits : ℕ) (before next : List Standing) → StandsAt before target place (Waiting on) → next ≡ put before target place (Woken on) → AreBits (λ client. client ≡ target) bits → WokeThese before next bits
woke_one target place on bits before next stood is one = record {
  waited = λ client others_place condition at. ((after client others_place condition).0 at).0;
  goes = λ client others_place condition at. elim (cases_eq client target) [
    | inl same ↦ inr (woken_where before next client place others_place on condition (stood_of client same) at (woken_of client same))
    | inr differs ↦ inl ((after client others_place condition).1 at differs)
  ];
  stays = λ client others_place condition at. subst (λ (some : List Standing). StandsAt some client others_place (Woken condition)) (sym is)
      (stays before target place (Woken on) client others_place (Woken condition) (apart before target place client others_place (Waiting on) (Woken condition) stood at (woken_waiting condition on)) at);
  woken = bits_alike (λ client. client ≡ target) (λ client. WasWoken before next client) bits (λ client. (
    (λ same. (place, on, stood_of client same, woken_of client same)),
    (λ found. elim (cases_eq client target) [
      | inl same ↦ same
      | inr differs ↦ absurd (waiting_woken found.1 found.1 (one_stage next client found.0 found.0 (Waiting found.1) (Woken found.1) ((after client found.0 found.1).1 found.2 differs) found.3))
    ]),
  )) one;
}
  where
    after : WaitsAfter (ButOne target) before next
    after = one_left target place on before next stood is

    stood_of : (client : ℕ) → client ≡ target → StandsAt before client place (Waiting on)
    stood_of client same = subst (λ (who : ℕ). StandsAt before who place (Waiting on)) (sym same) stood

    woken_of : (client : ℕ) → client ≡ target → StandsAt next client place (Woken on)
    woken_of client same = subst (λ (who : ℕ). StandsAt next who place (Woken on)) (sym same)
        (subst (λ (some : List Standing). StandsAt some target place (Woken on)) (sym is) (put_same before target place (Woken on) (stands_within before target place (Waiting on) stood)))

-- ---- each that waits on a condition is woken

is_woken : (standings : List Standing) (on client : ℕ) (place : Place) → StandsAt standings client place (Waiting on) → StandsAt (wake_all on standings) client place (Woken on)
is_woken standings on client place at =
    slice_get-map (waking on) standings client ∙ ap (option_map (waking on)) at
    ∙ ap (λ (test : Bool). Some (cond test (record { place = place; stage = Woken on }) (record { place = place; stage = Waiting on }))) (eq-eqb on on refl)

pub woke_each : (on bits : ℕ) (line : List ℕ) (before next : List Standing) → next ≡ wake_all on before → ((client : ℕ) (place : Place) → StandsAt before client place (Waiting on) → Contains line client)
    → ((client : ℕ) → Contains line client → (place : Place) × StandsAt before client place (Waiting on)) → AreBits (λ client. Contains line client) bits → WokeThese before next bits
woke_each on bits line before next is all only listed = record {
  waited = λ client place condition at. ((after client place condition).0 at).0;
  goes = λ client place condition at. elim (cases_eq condition on) [
    | inl same ↦ inr (subst (λ (which : ℕ). StandsAt next client place (Woken which)) (sym same) (goes_on client place (subst (λ (which : ℕ). StandsAt before client place (Waiting which)) same at)))
    | inr differs ↦ inl ((after client place condition).1 at differs)
  ];
  stays = λ client place condition at. subst (λ (some : List Standing). StandsAt some client place (Woken condition)) (sym is) (unwoken_stays before on client place (Woken condition) at refl);
  woken = bits_alike (λ client. Contains line client) (λ client. WasWoken before next client) bits (λ client. (
    (λ has. let stood = only client has in (stood.0, on, stood.1, goes_on client stood.0 stood.1)),
    (λ found. elim (cases_eq found.1 on) [
      | inl same ↦ all client found.0 (subst (λ (which : ℕ). StandsAt before client found.0 (Waiting which)) same found.2)
      | inr differs ↦ absurd (waiting_woken found.1 found.1 (one_stage next client found.0 found.0 (Waiting found.1) (Woken found.1) ((after client found.0 found.1).1 found.2 differs) found.3))
    ]),
  )) listed;
}
  where
    after : WaitsAfter (ButOn on) before next
    after = each_left on before next is

    goes_on : (client : ℕ) (place : Place) → StandsAt before client place (Waiting on) → StandsAt next client place (Woken on)
    goes_on client place at = subst (λ (some : List Standing). StandsAt some client place (Woken on)) (sym is) (is_woken before on client place at)
