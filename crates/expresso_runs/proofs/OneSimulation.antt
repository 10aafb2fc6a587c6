-- A schedule has one simulation under a plan, and a monitor without a hard claim one plan.
use Rattle.std.proofs.Common.{◌≡◌, ℕ, List, sym, ap, subst, ◌∙◌}
use Rattle.lang_monitor.specs.MonitorParts.{MonitorParts}
use Rattle.machine_implicit.specs.declared.script.Client.{Client}
use Rattle.machine_events.specs.declared.plan.Plan.{Plan}
use Rattle.machine_events.specs.Plans.{FitsPlan}
use Rattle.machine_events.specs.declared.log.Entry.{Entry}
use Rattle.machine_events.specs.Configurations.{System, Configuration, system_under}
use Rattle.plan_prune.specs.Hardness.{HasNoHardClaim}
use Rattle.plan_place.specs.Exact.{IsExact}
use Rattle.report_text.specs.Laws.{plan_and_log_text}
use Rattle.machine_explicit.specs.Sections.{FreeMachine, opened_free}
use Rattle.machine_simulate.specs.Schedules.{IsByRounds, IsDrawn}
use Rattle.front_command.specs.declared.plan_choice.PlanChoice.{PlanChoice}
use Rattle.front_command.specs.declared.schedule.Schedule.{Schedule}
use Rattle.front_command.specs.declared.schedule.Schedule.TheVariants.{Rounds, Drawn}
use Rattle.front_command.specs.declared.plan_choice.PlanChoice.TheVariants.{Placed, Relayed, Counted, CountedAndRelayed}
use Rattle.plan_place.specs.Relayed.{relay_of}
use Rattle.expresso_answers.specs.Placements.{CountsNothing, IsChosen, IsPlacement}
use Rattle.expresso_answers.specs.Simulations.{IsScheduled, IsSimulation, most_spurious}

abbrev OneByRounds : Type 0
OneByRounds = (before one other : FreeMachine) → IsByRounds 0 before one → IsByRounds 0 before other → one ≡ other

abbrev OneDrawn : Type 0
OneDrawn = (seed spurious : ℕ) (before one other : FreeMachine) → IsDrawn seed spurious before one → IsDrawn seed spurious before other → one ≡ other

one_end : OneByRounds → OneDrawn → (schedule : Schedule) (before one other : FreeMachine) → IsScheduled schedule before one → IsScheduled schedule before other → one ≡ other
one_end by_rounds drawn Rounds before one other are also = by_rounds before one other are also
one_end by_rounds drawn (Drawn seed spurious) before one other are also = drawn seed spurious before one other are also

-- where a simulation ends
abbrev ending : System → Schedule → List Entry → Configuration → FreeMachine
ending system schedule log last = record { system = system; now = last; log = log; extra = most_spurious schedule }

same_end : OneByRounds → OneDrawn → (choice : PlanChoice) (system : System) (schedule : Schedule) (log other : List Entry) (last also : Configuration) → IsSimulation choice system schedule log last → IsSimulation choice system schedule other also
    → ending system schedule log last ≡ ending system schedule other also
same_end by_rounds drawn choice system schedule log other last also one two =
    one_end by_rounds drawn schedule (opened_free system.monitor system.plan system.clients (most_spurious schedule))
    (ending system schedule log last) (ending system schedule other also) one.scheduled two.scheduled

pub one_log : OneByRounds → OneDrawn → (choice : PlanChoice) (system : System) (schedule : Schedule) (log other : List Entry) (last also : Configuration) → IsSimulation choice system schedule log last → IsSimulation choice system schedule other also → log ≡ other
one_log by_rounds drawn choice system schedule log other last also one two =
    ap (λ (machine : FreeMachine). machine.log) (same_end by_rounds drawn choice system schedule log other last also one two)

pub one_last : OneByRounds → OneDrawn → (choice : PlanChoice) (system : System) (schedule : Schedule) (log other : List Entry) (last also : Configuration) → IsSimulation choice system schedule log last → IsSimulation choice system schedule other also → last ≡ also
one_last by_rounds drawn choice system schedule log other last also one two =
    ap (λ (machine : FreeMachine). machine.now) (same_end by_rounds drawn choice system schedule log other last also one two)

-- ---- monitors without a hard claim

abbrev pub OneExactPlan : Type 0
OneExactPlan = (monitor : MonitorParts) (plan other : Plan) → FitsPlan monitor plan → FitsPlan monitor other → IsExact monitor plan → IsExact monitor other → plan ≡ other

pub one_placement : OneExactPlan → (monitor : MonitorParts) (plan other : Plan) → HasNoHardClaim monitor → IsPlacement monitor plan → IsPlacement monitor other → plan ≡ other
one_placement one_exact monitor plan other easy one two = one_exact monitor plan other one.fits two.fits (one.exact easy) (two.exact easy)

-- and so one plan that is asked for, where the choice counts no condition
one_chosen : OneExactPlan → (choice : PlanChoice) (monitor : MonitorParts) (plan other : Plan) → CountsNothing choice → HasNoHardClaim monitor → IsChosen choice monitor plan → IsChosen choice monitor other → plan ≡ other
one_chosen one_exact Placed monitor plan other none easy one two =
    one.is ∙ one_placement one_exact monitor one.placed two.placed easy one.placement two.placement ∙ sym two.is
one_chosen one_exact Relayed monitor plan other none easy one two =
    one.is ∙ ap (relay_of monitor) (one_placement one_exact monitor one.placed two.placed easy one.placement two.placement) ∙ sym two.is
one_chosen one_exact Counted monitor plan other none easy one two = absurd none
one_chosen one_exact CountedAndRelayed monitor plan other none easy one two = absurd none

pub one_text : OneExactPlan → OneByRounds → OneDrawn → (choice : PlanChoice) (monitor : MonitorParts) (clients : List Client) (schedule : Schedule) (plan other : Plan) (log others : List Entry) (last also : Configuration) → CountsNothing choice → HasNoHardClaim monitor
    → IsSimulation choice (system_under monitor clients plan) schedule log last → IsSimulation choice (system_under monitor clients other) schedule others also
    → plan_and_log_text (system_under monitor clients plan) log last ≡ plan_and_log_text (system_under monitor clients other) others also
one_text one_exact by_rounds drawn choice monitor clients schedule plan other log others last also none easy one two =
    let plans = one_chosen one_exact choice monitor plan other none easy one.placed.chosen two.placed.chosen in
    let moved = subst (λ (placed : Plan). IsSimulation choice (system_under monitor clients placed) schedule others also) (sym plans) two in
    let logs = one_log by_rounds drawn choice (system_under monitor clients plan) schedule log others last also one moved in
    let ends = one_last by_rounds drawn choice (system_under monitor clients plan) schedule log others last also one moved in
    λ i. plan_and_log_text (system_under monitor clients (plans i)) (logs i) (ends i)
