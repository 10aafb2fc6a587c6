-- What a schedule leads to from the start is a simulation.
use Rattle.std.proofs.Common.{◌≡◌, ℕ, ◌+◌, ◌≤◌, ◌++◌, List, sym, ap, subst, ◌∙◌, arith}
use Rattle.lang_monitor.specs.MonitorParts.{MonitorParts}
use Rattle.machine_implicit.specs.declared.script.Client.{Client}
use Rattle.machine_events.specs.declared.plan.Plan.{Plan}
use Rattle.machine_events.specs.Configurations.{System}
use Rattle.machine_events.specs.Logs.{IsClosed}
use Rattle.machine_explicit.specs.Sections.{FreeMachine, HoldsAlways, HasEnded, opened_free, spurious_in}
use Rattle.machine_events.specs.PlanText.{plan_text}
use Rattle.report_text.specs.LogText.{log_text}
use Rattle.machine_simulate.specs.Schedules.{Extends, IsByRounds, IsDrawn}
use Rattle.front_command.specs.declared.plan_choice.PlanChoice.{PlanChoice}
use Rattle.front_command.specs.declared.schedule.Schedule.{Schedule}
use Rattle.front_command.specs.declared.schedule.Schedule.TheVariants.{Rounds, Drawn}
use Rattle.expresso_answers.specs.Placements.{IsChosen}
use Rattle.expresso_answers.specs.Simulations.{IsScheduled, IsSimulation, most_spurious}
use Rattle.expresso_runs.specs.inner.Schedules.{IsRunOut}
use Rattle.expresso_runs.proofs.PlacedRun.{placed_run}
use Rattle.machine_events.specs.Configurations.{system_under}
use Rattle.report_text.specs.Laws.{plan_and_log_text}

pub rounds_run_out : (schedule : Schedule) (before next : FreeMachine) → schedule ≡ Rounds → IsByRounds 0 before next → IsClosed next.system next.now → Extends before next
    → spurious_in next.log ≡ spurious_in before.log → HoldsAlways next → HasEnded next → IsRunOut schedule before next
rounds_run_out schedule before next is rounds closed extends spurious always ends =
    subst (λ (s : Schedule). IsRunOut s before next) (sym is) (record { scheduled = rounds; closed = closed; extends = extends; spurious = omega (arith, spurious); always = always; ends = ends })

pub drawn_run_out : (schedule : Schedule) (seed extra : ℕ) (before next : FreeMachine) → schedule ≡ Drawn seed extra → IsDrawn seed extra before next → IsClosed next.system next.now → Extends before next
    → spurious_in next.log ≤ spurious_in before.log + extra → HoldsAlways next → HasEnded next → IsRunOut schedule before next
drawn_run_out schedule seed extra before next is drawn closed extends spurious always ends =
    subst (λ (s : Schedule). IsRunOut s before next) (sym is) (record { scheduled = drawn; closed = closed; extends = extends; spurious = spurious; always = always; ends = ends })

run_from_start : (choice : PlanChoice) (system : System) (schedule : Schedule) (next : FreeMachine) → IsChosen choice system.monitor system.plan
    → IsRunOut schedule (opened_free system.monitor system.plan system.clients (most_spurious schedule)) next → IsSimulation choice system schedule next.log next.now
run_from_start choice system schedule next chosen out = record {
  placed = placed_run choice system next chosen out.extends.system out.closed out.always out.ends;
  scheduled = subst (λ (m : FreeMachine). IsScheduled schedule (opened_free system.monitor system.plan system.clients (most_spurious schedule)) m) whole out.scheduled;
  spurious = let most : spurious_in next.log ≤ 0 + most_spurious schedule = out.spurious in omega (arith, most);
}
  where
    whole : next ≡ record { system = system; now = next.now; log = next.log; extra = most_spurious schedule }
    whole = λ i. record { system = out.extends.system i; now = next.now; log = next.log; extra = out.extends.extra i }

module _ (monitor : MonitorParts) (clients : List Client) (schedule : Schedule) (plan : Plan) (extra : ℕ) (before next : FreeMachine)
    (extra_is : extra ≡ most_spurious schedule) (before_is : before ≡ opened_free monitor plan clients extra) where
  opened_is : before ≡ opened_free monitor plan clients (most_spurious schedule)
  opened_is = before_is ∙ ap (opened_free monitor plan clients) extra_is

  run_out : IsRunOut schedule before next → IsRunOut schedule (opened_free monitor plan clients (most_spurious schedule)) next
  run_out out = subst (λ (m : FreeMachine). IsRunOut schedule m next) opened_is out

  -- the plan is the one that was given
  pub run_system : IsRunOut schedule before next → next.system ≡ system_under monitor clients next.system.plan
  run_system out = let is : next.system ≡ system_under monitor clients plan = (run_out out).extends.system in cc is

  pub run_simulates : (choice : PlanChoice) → IsChosen choice monitor plan → IsRunOut schedule before next → IsSimulation choice (system_under monitor clients next.system.plan) schedule next.log next.now
  run_simulates choice chosen out =
      let is : next.system ≡ system_under monitor clients plan = (run_out out).extends.system in
      subst (λ (p : Plan). IsSimulation choice (system_under monitor clients p) schedule next.log next.now) (sym (ap (λ system. system.plan) is))
      (run_from_start choice (system_under monitor clients plan) schedule next chosen (run_out out))

-- ---- the text

pub simulation_text-parts : (machine : FreeMachine) (monitor : MonitorParts) (plan : Plan) → monitor ≡ machine.system.monitor → plan ≡ machine.system.plan
    → plan_text monitor plan ++ log_text machine.system machine.log machine.now ≡ plan_and_log_text machine.system machine.log machine.now
simulation_text-parts machine monitor plan p q = λ i. plan_text (p i) (q i) ++ log_text machine.system machine.log machine.now
