-- Whatever events come, who waits does so on a condition, at a method that does not assert.
use Rattle.std.proofs.Common.{◌≡◌, ℕ, false, List, [], ◌∷◌, Some, refl, sym, subst}
use Rattle.std.specs.Prelude.{slice_get}
use Rattle.lang_monitor.specs.MonitorParts.{asserts_in}
use Rattle.lang_monitor.specs.declared.monitor.Condition.{Condition}
use Rattle.machine_implicit.specs.declared.script.Call.{Call}
use Rattle.machine_implicit.specs.declared.place.Place.{Place}
use Rattle.machine_implicit.specs.Places.{call_at}
use Rattle.machine_events.specs.declared.event.Event.{Event}
use Rattle.machine_events.specs.Plans.{IsCondition}
use Rattle.machine_events.specs.Configurations.{System, Configuration, StandsAt, initial}
use Rattle.machine_events.specs.declared.event.Stage.TheVariants.{Waiting}
use Rattle.machine_events.specs.Events.{Happen, AreEvents}
use Rattle.machine_events.specs.Pending.{IsSystem, IsSound}
use Rattle.machine_events.proofs.Facing.{no_assertion, waiter_in}
use Rattle.machine_events.proofs.Sound.{event_keeps_sound, start_is_sound}

sound_on : (system : System) → IsSystem system → (events : List Event)
    (before last : Configuration) → IsSound system before → Happen system events before last
    → IsSound system last
sound_on system is [] before last sound happen = subst (IsSound system) (sym happen) sound
sound_on system is (event ∷ more) before last sound happen =
    sound_on system is more happen.0 last (event_keeps_sound system is.rule is.scripts event before happen.0 sound happen.1) happen.2

pub sound_over_events : (system : System) (events : List Event) (last : Configuration)
    → IsSystem system → AreEvents system events last → IsSound system last
sound_over_events system events last is happen = sound_on system is events (initial system) last (start_is_sound system is.rule is.scripts) happen

pub on_a_condition : (system : System) (events : List Event) (last : Configuration)
    → IsSystem system → AreEvents system events last
    → (client : ℕ) (place : Place) (condition : ℕ)
    → StandsAt last.standings client place (Waiting condition)
    → (which : Condition) × IsCondition system.monitor condition which
on_a_condition system events last is happen client place condition at =
    let theirs = waiter_in system is last (sound_over_events system events last is happen) client place condition at in
    (theirs.2, theirs.3.which_is)

pub asserts_nowhere : (system : System) (events : List Event) (last : Configuration)
    → IsSystem system → AreEvents system events last
    → (client : ℕ) (place : Place) (condition : ℕ) (call : Call)
    → StandsAt last.standings client place (Waiting condition)
    → call_at system.clients client place ≡ Some call
    → asserts_in (slice_get system.monitor.methods call.method) ≡ false
asserts_nowhere system events last is happen client place condition call at called =
    let sound = sound_over_events system events last is happen in
    no_assertion system client place call is.rule is.scripts (sound.places client place (Waiting condition) at) called (sound.waits client place (Waiting condition) condition at refl).1
