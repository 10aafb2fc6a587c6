-- What is known of a monitor where a schedule has led to its end.
use Rattle.std.specs.Prelude.{◌≤◌, ◌+◌}
use Rattle.machine_events.specs.Logs.{IsClosed}
use Rattle.machine_explicit.specs.Sections.{FreeMachine, HoldsAlways, HasEnded, spurious_in}
use Rattle.machine_simulate.specs.Schedules.{Extends}
use Rattle.front_command.specs.declared.schedule.Schedule.{Schedule}
use Rattle.expresso_answers.specs.Simulations.{IsScheduled, most_spurious}

pub record IsRunOut (schedule : Schedule) (before next : FreeMachine) : Type 0 where
  pub scheduled : IsScheduled schedule before next
  pub closed : IsClosed next.system next.now
  pub extends : Extends before next
  pub spurious : spurious_in next.log ≤ spurious_in before.log + most_spurious schedule
  pub always : HoldsAlways next
  pub ends : HasEnded next
