-- The answer how a client stands is right.
use Rattle.std.proofs.Common.{◌≡◌, ◌↔◌, ◌<◌, ◌≤◌, ℕ, Bool, true, false, IsTrue, Option, Some, length, refl, sym, ap, ◌∙◌, List, subst, arith}
use Rattle.std.specs.Prelude.{IsSomeAnd, nat_lt, slice_get}
use Rattle.std.specs.Option.{option_map_or}
use Rattle.std.proofs.lemmas.Bool.{true≢false}
use Rattle.std.proofs.lemmas.Bool.Decides.{nat_tests}
use Rattle.machine_implicit.specs.declared.place.Place.{Place}
use Rattle.machine_implicit.specs.Scripted.{calls_of}
use Rattle.machine_events.specs.declared.plan.Note.{Note}
use Rattle.machine_events.specs.declared.event.Stage.{Stage}
use Rattle.machine_events.specs.Configurations.{StandsAt}
use Rattle.machine_events.specs.Configurations.{Standing as Stood}
use Rattle.machine_events.specs.declared.event.Stage.TheVariants.{Idle, Entering, Waiting, Woken, Inside, Notifying}
use Rattle.machine_events.specs.Logs.{IsClosed}
use Rattle.machine_events.specs.Stages.{is_waiting_stage}
use Rattle.machine_events.proofs.Facing.{is_some_and}
use Rattle.machine_explicit.specs.Machines.{shown_stage}
use Rattle.machine_explicit.specs.Sections.{FreeMachine, HoldsAlways, can_start, is_ready}
use Rattle.threads_lock.specs.declared.standing.Standing.{Standing}
use Rattle.threads_lock.specs.declared.standing.Standing.TheVariants as standings
use Rattle.threads_lock.specs.Standings.{HasNoCallLeft, IsWaitingIn, StandsAs}
use Rattle.threads_lock.specs.inner.Standing.{standing_by}

-- ---- no two answers are one

abbrev at_ready : Standing → Bool
at_ready standings.Ready = true
at_ready answer = false

abbrev at_over : Standing → Bool
at_over standings.Over = true
at_over answer = false

abbrev at_stalled : Standing → Bool
at_stalled standings.Stalled = true
at_stalled answer = false

abbrev at_waits : Standing → Bool
at_waits standings.Waits = true
at_waits answer = false

other : (test : Standing → Bool) (one two : Standing) → test one ≡ true → test two ≡ false → one ≡ two → ⊥
other test one two first second same = true≢false (sym first ∙ (ap test same ∙ second))

pub stalled_not_over : standings.Stalled ≡ standings.Over → ⊥
stalled_not_over same = other at_stalled standings.Stalled standings.Over refl refl same

-- ---- the four answers

abbrev IsNow : FreeMachine → Type 0
IsNow machine = IsClosed machine.system machine.now

ready_stands : (machine : FreeMachine) (client : ℕ) → (HasNoCallLeft machine client → ⊥) → (IsWaitingIn machine client → ⊥) → StandsAs machine client standings.Ready
ready_stands machine client left works = record {
  over = (λ is. absurd (other at_ready standings.Ready standings.Over refl refl is), λ none. absurd (left none));
  stalled = (λ is. absurd (other at_ready standings.Ready standings.Stalled refl refl is), λ both. absurd (works both.0));
  waits = (λ is. absurd (other at_ready standings.Ready standings.Waits refl refl is), λ both. absurd (works both.0));
  ready = (λ is. (left, works), λ both. refl);
}

over_stands : (machine : FreeMachine) (client : ℕ) → HasNoCallLeft machine client → (IsWaitingIn machine client → ⊥) → StandsAs machine client standings.Over
over_stands machine client none works = record {
  over = (λ is. none, λ is. refl);
  stalled = (λ is. absurd (other at_over standings.Over standings.Stalled refl refl is), λ both. absurd (works both.0));
  waits = (λ is. absurd (other at_over standings.Over standings.Waits refl refl is), λ both. absurd (works both.0));
  ready = (λ is. absurd (other at_over standings.Over standings.Ready refl refl is), λ both. absurd (both.0 none));
}

stalled_stands : (machine : FreeMachine) (client : ℕ) → (HasNoCallLeft machine client → ⊥) → IsWaitingIn machine client → IsNow machine → StandsAs machine client standings.Stalled
stalled_stands machine client left waits closed = record {
  over = (λ is. absurd (other at_stalled standings.Stalled standings.Over refl refl is), λ none. absurd (left none));
  stalled = (λ is. (waits, closed), λ both. refl);
  waits = (λ is. absurd (other at_stalled standings.Stalled standings.Waits refl refl is), λ both. absurd (both.1 closed));
  ready = (λ is. absurd (other at_stalled standings.Stalled standings.Ready refl refl is), λ both. absurd (both.1 waits));
}

waits_stands : (machine : FreeMachine) (client : ℕ) → (HasNoCallLeft machine client → ⊥) → IsWaitingIn machine client → (IsNow machine → ⊥) → StandsAs machine client standings.Waits
waits_stands machine client left waits is_open = record {
  over = (λ is. absurd (other at_waits standings.Waits standings.Over refl refl is), λ none. absurd (left none));
  stalled = (λ is. absurd (other at_waits standings.Waits standings.Stalled refl refl is), λ both. absurd (is_open both.1));
  waits = (λ is. (waits, is_open), λ both. refl);
  ready = (λ is. absurd (other at_waits standings.Waits standings.Ready refl refl is), λ both. absurd (both.1 waits));
}

-- ---- where a client stands

abbrev stood : Place → Stage (List Note) → Stood
stood place stage = record { place = place; stage = stage }

some_same : (one two : Stood) → Some one ≡ Some two → one ≡ two
some_same one two is = cc

abbrev is_waiting : Stage (List Note) → Bool
is_waiting stage = is_waiting_stage (shown_stage stage)

module _ (machine : FreeMachine) (client : ℕ) (place : Place) (stage : Stage (List Note)) (at : StandsAt machine.now.standings client place stage) where
  same : (also : Place) (other_stage : Stage (List Note)) → StandsAt machine.now.standings client also other_stage → stood also other_stage ≡ stood place stage
  same also other_stage there = some_same (stood also other_stage) (stood place stage) (sym there ∙ at)

  -- it waits only in a stage that waits
  waits_not : is_waiting stage ≡ false → IsWaitingIn machine client → ⊥
  waits_not is (also, condition, there) = true≢false (ap (λ (s : Stood). is_waiting s.stage) (same also (Waiting condition) there) ∙ is)

  -- a call is left at its place
  left_at : place.past < length (calls_of machine.system.clients client) → HasNoCallLeft machine client → ⊥
  left_at left (also, other_stage, there, none) = let e = ap (λ (s : Stood). s.place.past) (same also other_stage there) in omega (arith, left, none, e)

-- ---- by its stage

past_or_left : (past count : ℕ) → nat_lt past count ≡ false → count ≤ past
past_or_left past count is = grind (arith, nat_tests, is)

past_left : (past count : ℕ) → nat_lt past count ≡ true → past < count
past_left past count is = grind (arith, nat_tests, is)

by_waits : (machine : FreeMachine) (client : ℕ) (stalled : Bool) → (HasNoCallLeft machine client → ⊥) → IsWaitingIn machine client → IsTrue stalled ↔ ((true ≡ true) × IsNow machine) → StandsAs machine client (standing_by false true stalled)
by_waits machine client true left waits is = stalled_stands machine client left waits (is.0 refl).1
by_waits machine client false left waits is = waits_stands machine client left waits (λ closed. true≢false (sym (is.1 (refl, closed))))

by_idle : (machine : FreeMachine) (client : ℕ) (place : Place) (starts stalled : Bool) → StandsAt machine.now.standings client place Idle
    → nat_lt place.past (length (calls_of machine.system.clients client)) ≡ starts → StandsAs machine client (standing_by starts false stalled)
by_idle machine client place true stalled at is =
    ready_stands machine client (left_at machine client place Idle at (past_left place.past (length (calls_of machine.system.clients client)) is)) (waits_not machine client place Idle at refl)
by_idle machine client place false stalled at is =
    over_stands machine client (place, Idle, at, past_or_left place.past (length (calls_of machine.system.clients client)) is) (waits_not machine client place Idle at refl)

by_stage : (machine : FreeMachine) (client : ℕ) (place : Place) (stage : Stage (List Note)) (stalled : Bool) → HoldsAlways machine → StandsAt machine.now.standings client place stage
    → IsTrue stalled ↔ ((is_waiting stage ≡ true) × IsNow machine) → StandsAs machine client (standing_by (can_start machine.system client place stage) (is_waiting stage) stalled)
by_stage machine client place Idle stalled always at is = by_idle machine client place (nat_lt place.past (length (calls_of machine.system.clients client))) stalled at refl
by_stage machine client place Entering stalled always at is = absurd (true≢false (sym (always.between client place Entering at)))
by_stage machine client place (Waiting condition) stalled always at is =
    by_waits machine client stalled (left_at machine client place (Waiting condition) at (always.sound.begun client place (Waiting condition) at refl)) (place, condition, at) is
by_stage machine client place (Woken condition) stalled always at is =
    ready_stands machine client (left_at machine client place (Woken condition) at (always.sound.begun client place (Woken condition) at refl)) (waits_not machine client place (Woken condition) at refl)
by_stage machine client place Inside stalled always at is = absurd (true≢false (sym (always.between client place Inside at)))
by_stage machine client place (Notifying notes) stalled always at is = absurd (true≢false (sym (always.between client place (Notifying notes) at)))

pub stands_as : (machine : FreeMachine) (client : ℕ) (ready waits stalled : Bool) (stage : Stage ℕ) (answer : Standing) → HoldsAlways machine → ready ≡ is_ready machine client
    → IsSomeAnd (slice_get machine.now.standings client) (λ standing. stage ≡ shown_stage standing.stage) → waits ≡ is_waiting_stage stage
    → IsTrue stalled ↔ ((waits ≡ true) × IsClosed machine.system machine.now) → answer ≡ standing_by ready waits stalled → StandsAs machine client answer
stands_as machine client ready waits stalled stage answer always starts_is told waits_is stalled_is is =
    let found = is_some_and (slice_get machine.now.standings client) (λ (standing : Stood). stage ≡ shown_stage standing.stage) told in
    let waiting : waits ≡ is_waiting found.0.stage = waits_is ∙ ap is_waiting_stage found.2 in
    let starts : ready ≡ can_start machine.system client found.0.place found.0.stage =
    starts_is ∙ ap (λ (one : Option Stood). option_map_or (λ standing. can_start machine.system client standing.place standing.stage) one false) found.1 in
    let stands = by_stage machine client found.0.place found.0.stage stalled always found.1
    (subst (λ w. IsTrue stalled ↔ ((w ≡ true) × IsNow machine)) waiting stalled_is) in
    subst (StandsAs machine client) (sym is)
    (subst (λ r. StandsAs machine client (standing_by r waits stalled)) (sym starts)
    (subst (λ w. StandsAs machine client (standing_by (can_start machine.system client found.0.place found.0.stage) w stalled)) (sym waiting) stands))
