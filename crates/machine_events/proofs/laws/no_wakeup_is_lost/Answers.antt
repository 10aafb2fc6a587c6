use Rattle.machine_events.proofs.Ending.{kept_over_events, wake_is_pending, stuck_ends}
use Rattle.machine_events.proofs.Counting.{counting_plan}
use Rattle.machine_events.proofs.laws.no_wakeup_is_lost.Goals as goal

pub returns-clause-pending : goal.returns-clause-pending
returns-clause-pending c system events last set happen =
    let counting = counting_plan system set in
    let kept = kept_over_events system counting events last happen in
    wake_is_pending system last counting kept.sound kept.covered

pub returns-clause-ends : goal.returns-clause-ends
returns-clause-ends c system events last set happen stuck =
    let counting = counting_plan system set in
    let kept = kept_over_events system counting events last happen in
    stuck_ends system last counting kept.sound kept.covered stuck
