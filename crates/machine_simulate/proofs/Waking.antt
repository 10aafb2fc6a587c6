-- A client that waits, with an entry left for it, is woken by nothing.
use Rattle.std.proofs.Common.{◌≡◌, ◌<◌, ℕ, true, false, Option, Some, None, Result, Ok, Err, refl, sym, ap, ◌∙◌, List, arith}
use Rattle.std.specs.Prelude.{slice_get, is_err}
use Rattle.std.specs.Option.{option_map_or}
use Rattle.std.proofs.lemmas.Bool.{true≢false}
use Rattle.machine_events.specs.declared.plan.Note.{Note}
use Rattle.machine_events.specs.declared.event.Stage.{Stage}
use Rattle.machine_events.specs.Configurations.{Standing}
use Rattle.machine_events.specs.declared.event.Stage.TheVariants.{Idle, Entering, Waiting, Woken, Inside, Notifying}
use Rattle.machine_events.specs.Stages.{is_waiting_stage}
use Rattle.machine_explicit.specs.declared.section.SpuriousFault.{SpuriousFault}
use Rattle.machine_explicit.specs.declared.section.SpuriousFault.TheVariants as faults
use Rattle.machine_explicit.specs.Machines.{shown_stage}
use Rattle.machine_explicit.specs.Sections.{FreeMachine, IsSpuriousFault, IsWaiting, WakesByNothing, spurious_in}
use Rattle.machine_simulate.specs.Schedules.{is_waiting}

waiting_stage : (stage : Stage (List Note)) → is_waiting_stage (shown_stage stage) ≡ true
    → (condition : ℕ) × (stage ≡ Waiting condition)
waiting_stage Idle is = absurd (true≢false (sym is))
waiting_stage Entering is = absurd (true≢false (sym is))
waiting_stage (Waiting condition) is = (condition, refl)
waiting_stage (Woken condition) is = absurd (true≢false (sym is))
waiting_stage Inside is = absurd (true≢false (sym is))
waiting_stage (Notifying notes) is = absurd (true≢false (sym is))

waits : (machine : FreeMachine) (client : ℕ) → is_waiting machine client ≡ true
    → IsWaiting machine.now.standings client
waits machine client is = by (slice_get machine.now.standings client) refl is
  where
    by : (found : Option Standing) → slice_get machine.now.standings client ≡ found
        → option_map_or (λ (standing : Standing). is_waiting_stage (shown_stage standing.stage)) found false ≡ true → IsWaiting machine.now.standings client
    by None at waiting = absurd (true≢false (sym waiting))
    by (Some standing) at waiting =
        let which = waiting_stage standing.stage waiting in
        (standing.place, which.0, at ∙ ap (λ (stage : Stage (List Note)). Some (record { place = standing.place; stage = stage })) which.1)

no_fault : (machine : FreeMachine) (client : ℕ) (fault : SpuriousFault)
    → IsWaiting machine.now.standings client → spurious_in machine.log < machine.extra
    → IsSpuriousFault machine client fault → ⊥
no_fault machine client (faults.NotReady entries) waiting left why = why.1 waiting
no_fault machine client faults.Spent waiting left why = omega (arith, why.0, left)

pub never_refused : {T : Type 0} (machine next : FreeMachine) (client : ℕ)
    (result : Result T SpuriousFault) → is_waiting machine client ≡ true
    → spurious_in machine.log < machine.extra
    → WakesByNothing client machine next result → is_err result ≡ true → ⊥
never_refused machine next client (Ok done) is left wakes fails = true≢false (sym fails)
never_refused machine next client (Err fault) is left wakes fails = no_fault machine client fault (waits machine client is) left wakes.why
