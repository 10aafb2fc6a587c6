-- A monitor is closed exactly where no client can make a section.
use Rattle.std.proofs.Common.{◌≡◌, ℕ, ◌<◌, true, false, length, Option, Some, None, refl, sym, ap, ◌∙◌, List, arith, inl, inr}
use Rattle.std.specs.Prelude.{nat_le, nat_lt, slice_get}
use Rattle.std.specs.Option.{option_map_or}
use Rattle.std.proofs.lemmas.Bool.{cases_lt, true≢false}
use Rattle.std.proofs.lemmas.Bool.Decides.{nat_tests}
use Rattle.std.proofs.lemmas.Option.{slice_get_within}
use Rattle.machine_implicit.specs.Scripted.{calls_of}
use Rattle.machine_implicit.specs.declared.place.Place.{Place}
use Rattle.machine_events.specs.declared.plan.Note.{Note}
use Rattle.machine_events.specs.declared.event.Stage.{Stage}
use Rattle.machine_events.specs.Configurations.{System, Standing}
use Rattle.machine_events.specs.declared.event.Stage.TheVariants.{Idle, Entering, Waiting, Woken, Inside, Notifying}
use Rattle.machine_events.specs.Logs.{IsClosed, rests}
use Rattle.machine_explicit.specs.Sections.{FreeMachine, HoldsAlways, is_between}
use Rattle.machine_explicit.specs.Sections.{can_start, is_ready}
use Rattle.machine_simulate.specs.Schedules.{ready}
use Rattle.machine_simulate.specs.inner.Turns.{NoneReady}
use Rattle.machine_simulate.proofs.Choosing.{none_of_none}

one_each : (machine : FreeMachine) → HoldsAlways machine
    → length machine.now.standings ≡ length machine.system.clients
one_each machine always = always.sound.one_each

-- ---- between sections a client rests exactly where it can't make one

none_left : (past count : ℕ) → nat_lt past count ≡ false → nat_le count past ≡ true
none_left past count is = grind (arith, nat_tests, is)

not_left : (past count : ℕ) → nat_le count past ≡ true → nat_lt past count ≡ false
not_left past count is = grind (arith, nat_tests, is)

rests_between : (system : System) (client : ℕ) (place : Place) (stage : Stage (List Note))
    → is_between stage ≡ true → can_start system client place stage ≡ false
    → rests system client place stage ≡ true
rests_between system client place Idle between starts = none_left place.past (length (calls_of system.clients client)) starts
rests_between system client place Entering between starts = absurd (true≢false (sym between))
rests_between system client place (Waiting condition) between starts = refl
rests_between system client place (Woken condition) between starts = absurd (true≢false starts)
rests_between system client place Inside between starts = absurd (true≢false (sym between))
rests_between system client place (Notifying notes) between starts = absurd (true≢false (sym between))

starts_not : (system : System) (client : ℕ) (place : Place) (stage : Stage (List Note))
    → rests system client place stage ≡ true → can_start system client place stage ≡ false
starts_not system client place Idle resting = not_left place.past (length (calls_of system.clients client)) resting
starts_not system client place Entering resting = refl
starts_not system client place (Waiting condition) resting = refl
starts_not system client place (Woken condition) resting = absurd (true≢false (sym resting))
starts_not system client place Inside resting = refl
starts_not system client place (Notifying notes) resting = refl

-- ---- closed

pub closed_where_none_ready : (machine : FreeMachine) → HoldsAlways machine
    → NoneReady machine 0 (length machine.system.clients) → IsClosed machine.system machine.now
closed_where_none_ready machine always none = record {
  free = always.rule.free;
  each = λ client place stage at.
      let within : client < length machine.system.clients = omega (arith, one_each machine always, slice_get_within machine.now.standings client (record { place = place; stage = stage }) at) in
      rests_between machine.system client place stage (always.between client place stage at)
      (sym (ap (λ (one : Option Standing). option_map_or (λ standing. can_start machine.system client standing.place standing.stage) one false) at) ∙ none client (omega arith) within);
}

starts_there : (machine : FreeMachine) (client : ℕ) → IsClosed machine.system machine.now
    → (found : Option Standing) → slice_get machine.now.standings client ≡ found
    → option_map_or (λ standing. can_start machine.system client standing.place standing.stage) found false ≡ false
starts_there machine client closed None is = refl
starts_there machine client closed (Some standing) is = starts_not machine.system client standing.place standing.stage (closed.each client standing.place standing.stage is)

pub none_ready_where_closed : (machine : FreeMachine) → IsClosed machine.system machine.now
    → (client : ℕ) → is_ready machine client ≡ false
none_ready_where_closed machine closed client = starts_there machine client closed (slice_get machine.now.standings client) refl

pub some_ready_where_open : (machine : FreeMachine) → HoldsAlways machine
    → (IsClosed machine.system machine.now → ⊥) → 0 < length (ready machine)
some_ready_where_open machine always is_open =
    elim (cases_lt 0 (length (ready machine))) [
      | inl some ↦ some
      | inr none ↦ absurd (is_open (closed_where_none_ready machine always
          (λ client above below. none_of_none (is_ready machine) 0 (length machine.system.clients) (omega arith) client above (omega arith))))
    ]

pub none_of_both : (machine : FreeMachine) (asked count : ℕ) → NoneReady machine asked count
    → NoneReady machine 0 asked → NoneReady machine 0 count
none_of_both machine asked count later earlier client above below =
    elim (cases_lt client asked) [
      | inl before ↦ earlier client above before
      | inr after ↦ later client after below
    ]
