use Rattle.machine_events.proofs.Counting.{counting_plan}
use Rattle.emit_code.proofs.Running.{late_runs}
use Rattle.emit_code.proofs.Holding.{late_holders_act, late_ready}
use Rattle.emit_code.proofs.Answering.{late_answers}
use Rattle.emit_code.proofs.Covering.{late_seen_to, nobody_owed}
use Rattle.emit_code.proofs.Stillness.{quiet_late, still_late, still_ends}
use Rattle.emit_code.proofs.Order.{late_is_told}
use Rattle.emit_code.proofs.laws.late_notes_lose_none.Goals as goal

pub returns-clause-mutex : goal.returns-clause-mutex
returns-clause-mutex c = late_holders_act

pub returns-clause-ready : goal.returns-clause-ready
returns-clause-ready c = late_ready

pub returns-clause-run : goal.returns-clause-run
returns-clause-run c = late_runs

pub returns-clause-answers : goal.returns-clause-answers
returns-clause-answers c = late_answers

pub returns-clause-pending : goal.returns-clause-pending
returns-clause-pending c system told timed last set order run = late_seen_to system told timed last (counting_plan system set) order run

pub returns-clause-rests : goal.returns-clause-rests
returns-clause-rests c system told timed last set order run = quiet_late system told timed last (counting_plan system set) order run

pub returns-clause-ends : goal.returns-clause-ends
returns-clause-ends c system told timed last set order run = still_late system told timed last (counting_plan system set) order run

pub returns-clause-ends_the_run : goal.returns-clause-ends_the_run
returns-clause-ends_the_run c system told timed last set order run = still_ends system told timed last (counting_plan system set) order run

pub returns-clause-owed : goal.returns-clause-owed
returns-clause-owed c = nobody_owed

pub returns-clause-order : goal.returns-clause-order
returns-clause-order c = late_is_told
