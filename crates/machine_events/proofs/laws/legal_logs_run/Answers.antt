use Rattle.machine_events.specs.Pending.{IsSound}
use Rattle.machine_events.proofs.Ending.{IsKept}
use Rattle.machine_events.proofs.Legal.{legal_keeps, sound_lasts, kept_lasts, closed_ends}
use Rattle.machine_events.proofs.Counting.{counting_plan}
use Rattle.machine_events.proofs.Commits.{legal_commits}
use Rattle.machine_events.proofs.laws.legal_logs_run.Goals as goal

pub returns-clause-run : goal.returns-clause-run
returns-clause-run c system log last is legal = (legal_keeps system (IsSound system) (sound_lasts system is) log last legal).run

pub returns-clause-ends : goal.returns-clause-ends
returns-clause-ends c system log last set legal closed =
    let counting = counting_plan system set in
    closed_ends system last counting (legal_keeps system (IsKept system) (kept_lasts system counting) log last legal) closed

pub returns-clause-commits : goal.returns-clause-commits
returns-clause-commits c = legal_commits
