-- The start of a section, by two steps of the machine.
use Rattle.std.proofs.Common.{◌≡◌, ℕ, ◌<◌, length, None, Result, Ok, Err, MatchResult, refl, sym, ap, subst, ◌∙◌, inl, inr}
use Rattle.machine_events.specs.declared.event.Event.{Event}
use Rattle.machine_events.specs.declared.event.Event.TheVariants as events
use Rattle.machine_events.specs.Configurations.{System, Configuration, StandsAt}
use Rattle.machine_events.specs.declared.event.Stage.TheVariants.{Idle, Entering, Woken, Inside}
use Rattle.machine_events.specs.Events.{Begins, Locks, WantsLock}
use Rattle.std.specs.Prelude.{is_err, true, false}
use Rattle.std.proofs.lemmas.Bool.{true≢false}
use Rattle.machine_explicit.specs.Machines.{Machine, Happened, Refused, Steps, NotAllowed}
use Rattle.machine_explicit.specs.inner.Waiting.{Started, NotStarted, IsInside}
use Rattle.machine_events.proofs.Standings.{put_same, stands_within, one_place}
use Rattle.machine_implicit.specs.declared.place.Place.{Place}

-- a client that began enters, and the lock is as before
begun_enters : (system : System) (client : ℕ) (place : Place) (before begun : Configuration) → Begins system client place before begun → StandsAt begun.standings client place Entering
begun_enters system client place before begun begins =
    subst (λ (c : Configuration). StandsAt c.standings client place Entering) (sym begins.becomes)
    (put_same before.standings client place Entering (stands_within before.standings client place Idle begins.idle))

locked_place : (client : ℕ) (place other : Place) (begun last : Configuration) → StandsAt begun.standings client place Entering → Locks client other begun last → place ≡ other
locked_place client place other begun last at locks = elim locks.wants [
  | inl entering ↦ one_place begun.standings client place other Entering Entering at entering
  | inr woken ↦ one_place begun.standings client place other Entering (Woken woken.0) at woken.1
]

pub began : {E : Type 0} (before begun last : Machine) (client : ℕ) (result : Result (Unit {0}) E) → before.now.owner ≡ None → Happened (events.Begin client) before begun
    → MatchResult result (λ _. Happened (events.Lock client) begun last) (λ _. Refused (events.Lock client) begun last)
    → MatchResult result (λ _. Started before client last) (λ _. NotStarted before client last)
began before begun last client (Ok done) free happened told =
    let begins = happened.1.1 in
    let enters = begun_enters before.system client happened.1.0 before.now begun.now begins in
    let same = locked_place client happened.1.0 told.1.0 begun.now last.now enters told.1.1 in
    (told.0 ∙ happened.0, (happened.1.0, begun.now, inl begins, subst (λ (place : Place). Locks client place begun.now last.now) (sym same) told.1.1))
began before begun last client (Err error) free happened told =
    let begins = happened.1.1 in
    absurd (told.1 _ (
      happened.1.0,
      record {
        free = ap (λ (c : Configuration). c.owner) begins.becomes ∙ free;
        wants = inl (begun_enters before.system client happened.1.0 before.now begun.now begins);
        becomes = refl;
      },
    ))

-- a client that started is inside
pub started_inside : (before next : Machine) (client : ℕ) → Started before client next → IsInside next client
started_inside before next client started =
    let place = started.1.0 in
    let begun = started.1.1 in
    let locks = started.1.3 in
    (place, subst (λ (c : Configuration). StandsAt c.standings client place Inside) (sym locks.becomes) (put_same begun.standings client place Inside (ready_within begun place locks.wants)))
  where
    ready_within : (begun : Configuration) (place : Place) → WantsLock begun.standings client place → client < length begun.standings
    ready_within begun place (inl at) = stands_within begun.standings client place Entering at
    ready_within begun place (inr woken) = stands_within begun.standings client place (Woken woken.0) woken.1

-- ---- outcomes

pub refused_when : {E : Type 0} (event : Event) (before next : Machine) (result : Result (Unit {0}) E) → is_err result ≡ true → Steps event before next result → NotAllowed before event
refused_when event before next (Ok done) fails steps = absurd (true≢false (sym fails))
refused_when event before next (Err error) fails steps = steps.1

pub happened_when : {E : Type 0} (event : Event) (before next : Machine) (result : Result (Unit {0}) E) → is_err result ≡ false → Steps event before next result → Happened event before next
happened_when event before next (Ok done) works steps = steps
happened_when event before next (Err error) works steps = absurd (true≢false works)

pub started_when : {E : Type 0} (before next : Machine) (client : ℕ) (result : Result (Unit {0}) E) → is_err result ≡ false → MatchResult result (λ _. Started before client next) (λ _. NotStarted before client next) → Started before client next
started_when before next client (Ok done) works told = told
started_when before next client (Err error) works told = absurd (true≢false works)
