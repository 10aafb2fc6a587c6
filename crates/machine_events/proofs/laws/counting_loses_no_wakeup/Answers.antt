use Rattle.machine_events.proofs.Ending.{kept_over_events, wake_is_pending, stuck_ends}
use Rattle.machine_events.proofs.Ending.{IsKept}
use Rattle.machine_events.proofs.Counting.{lawful_by_counting}
use Rattle.machine_events.proofs.Legal.{legal_keeps, kept_lasts, closed_ends}
use Rattle.machine_events.proofs.Notified.{event_keeps_covered}
use Rattle.machine_events.proofs.laws.counting_loses_no_wakeup.Goals as goal

pub returns-clause-lawful : goal.returns-clause-lawful
returns-clause-lawful c = lawful_by_counting

pub returns-clause-covered : goal.returns-clause-covered
returns-clause-covered c system event before next set sound covered happens = event_keeps_covered system set event before next sound covered happens

pub returns-clause-pending : goal.returns-clause-pending
returns-clause-pending c system events last set happen =
    let kept = kept_over_events system set events last happen in
    wake_is_pending system last set kept.sound kept.covered

pub returns-clause-ends : goal.returns-clause-ends
returns-clause-ends c system events last set happen stuck =
    let kept = kept_over_events system set events last happen in
    stuck_ends system last set kept.sound kept.covered stuck

pub returns-clause-closed : goal.returns-clause-closed
returns-clause-closed c system log last set legal closed = closed_ends system last set (legal_keeps system (IsKept system) (kept_lasts system set) log last legal) closed
