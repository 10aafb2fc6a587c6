use Rattle.lang_monitor.proofs.Openings.{opened_inductive, opened_monitor, opened_start}
use Rattle.lang_monitor.proofs.laws.monitors_may_be_opened.Goals as goal

pub returns-clause-monitor : goal.returns-clause-monitor
returns-clause-monitor c = opened_monitor

pub returns-clause-start : goal.returns-clause-start
returns-clause-start c = opened_start

pub returns-clause-inductive : goal.returns-clause-inductive
returns-clause-inductive c = opened_inductive
