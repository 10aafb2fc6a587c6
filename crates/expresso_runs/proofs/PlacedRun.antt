-- A machine that ended closed under a plan that is asked for.
use Rattle.std.proofs.Common.{◌≡◌, List, Result, Ok, Err, IfOk, sym, ap, subst, ◌∙◌}
use Rattle.lang_monitor.specs.MonitorParts.{MonitorParts}
use Rattle.machine_implicit.specs.declared.script.Client.{Client}
use Rattle.machine_implicit.specs.Scripted.{AreClients}
use Rattle.machine_implicit.specs.Runs.{IsRun, Ends}
use Rattle.machine_events.specs.Configurations.{System, situation_of, system_under}
use Rattle.machine_events.specs.Pending.{IsSystem}
use Rattle.machine_events.specs.declared.plan.Plan.{Plan}
use Rattle.machine_events.specs.Counts.{IsLawfulByCounting}
use Rattle.machine_events.proofs.Counting.{lawful_by_counting}
use Rattle.machine_events.specs.Logs.{IsLegal, IsClosed, commits_of}
use Rattle.machine_explicit.specs.Sections.{FreeMachine, HoldsAlways, HasEnded, opened_free}
use Rattle.front_command.specs.declared.plan_choice.PlanChoice.{PlanChoice}
use Rattle.front_command.specs.declared.plan_choice.PlanChoice.TheVariants.{Placed, Relayed, Counted, CountedAndRelayed}
use Rattle.expresso_answers.specs.Placements.{IsChosen, IsLawfulChoice}
use Rattle.expresso_answers.specs.PlacedRuns.{IsPlacedRun}

-- whatever the choice, the plan is lawful by counting
pub choice_counts : (choice : PlanChoice) (monitor : MonitorParts) (plan : Plan) → IsLawfulChoice choice monitor plan → IsLawfulByCounting monitor plan
choice_counts Placed monitor plan lawful = lawful_by_counting monitor plan lawful
choice_counts Relayed monitor plan lawful = lawful_by_counting monitor plan lawful
choice_counts Counted monitor plan lawful = lawful
choice_counts CountedAndRelayed monitor plan lawful = lawful

pub placed_run : (choice : PlanChoice) (system : System) (next : FreeMachine) → IsChosen choice system.monitor system.plan → next.system ≡ system
    → IsClosed next.system next.now → HoldsAlways next → HasEnded next → IsPlacedRun choice system next.log next.now
placed_run choice system next chosen same closed always ends = record {
  chosen = chosen;
  is = subst IsSystem same always.rule.is;
  few = subst (λ (s : System). AreClients s.clients) same always.rule.clients;
  legal = subst (λ (s : System). IsLegal s next.log next.now) same always.rule.legal;
  closed = subst (λ (s : System). IsClosed s next.now) same closed;
  run = subst (λ (s : System). IsRun s.monitor s.clients (commits_of next.log) (situation_of next.now)) same always.run;
  ends = subst (λ (s : System). Ends s.monitor s.clients (situation_of next.now)) same
      (ends (choice_counts choice next.system.monitor next.system.plan (subst (λ (s : System). IsLawfulChoice choice s.monitor s.plan) (sym same) chosen.lawful)));
}

-- what threads made of it since it was opened
pub ended_run : {E : Type 0} {Follows : FreeMachine → Type 0} (choice : PlanChoice) (monitor : MonitorParts) (clients : List Client) (plan : Plan) (start : FreeMachine) (result : Result FreeMachine E) → IsChosen choice monitor plan
    → start ≡ opened_free monitor plan clients 0 → IfOk result Follows → ((last : FreeMachine) → Follows last → last.system ≡ start.system) → IfOk result (λ last. IsClosed last.system last.now) → IfOk result HasEnded → IfOk result HoldsAlways
    → IfOk result (λ last. IsPlacedRun choice (system_under monitor clients last.system.plan) last.log last.now)
ended_run choice monitor clients plan start (Ok last) chosen opened follows stays closed ends always =
    let same : last.system ≡ system_under monitor clients plan = stays last follows ∙ ap (λ (machine : FreeMachine). machine.system) opened in
    let under : last.system.plan ≡ plan = ap (λ (s : System). s.plan) same in
    placed_run choice (system_under monitor clients last.system.plan) last (subst (IsChosen choice monitor) (sym under) chosen)
    (subst (λ (one : Plan). last.system ≡ system_under monitor clients one) (sym under) same) closed always ends
ended_run choice monitor clients plan start (Err fault) chosen opened follows stays closed ends always = tt
