-- Simulations: runs of a monitor by sections that a schedule leads to.
use Rattle.std.specs.Prelude.{◌≤◌, ℕ, List}
use Rattle.machine_events.specs.declared.log.Entry.{Entry}
use Rattle.machine_events.specs.Configurations.{System, Configuration}
use Rattle.machine_explicit.specs.Sections.{FreeMachine, opened_free, spurious_in}
use Rattle.machine_simulate.specs.Schedules.{IsByRounds, IsDrawn}
use Rattle.front_command.specs.declared.plan_choice.PlanChoice.{PlanChoice}
use Rattle.front_command.specs.declared.schedule.Schedule.{Schedule}
use Rattle.front_command.specs.declared.schedule.Schedule.TheVariants.{Rounds, Drawn}
use Rattle.expresso_answers.specs.PlacedRuns.{IsPlacedRun}

-- the most spurious wake-ups of a schedule
abbrev pub most_spurious : Schedule → ℕ
most_spurious Rounds = 0
most_spurious (Drawn seed spurious) = spurious

-- the schedule leads from the one to the other
abbrev pub IsScheduled : Schedule → FreeMachine → FreeMachine → Type 0
IsScheduled Rounds before last = IsByRounds 0 before last
IsScheduled (Drawn seed spurious) before last = IsDrawn seed spurious before last

-- what a log and its last configuration are a simulation of
pub record IsSimulation (choice : PlanChoice) (system : System) (schedule : Schedule)
    (log : List Entry) (last : Configuration) : Type 0 where
  pub placed : IsPlacedRun choice system log last
  -- they are what the schedule leads to from the start
  pub scheduled : IsScheduled schedule
      (opened_free system.monitor system.plan system.clients (most_spurious schedule))
      (record { system = system; now = last; log = log; extra = most_spurious schedule })
  -- no more wake-ups are spurious than were asked for
  pub spurious : spurious_in log ≤ most_spurious schedule
