use Rattle.machine_events.specs.Configurations.{situation_of, system_under}
use Rattle.report_text.proofs.NamedPlans.{plan_text_names}
use Rattle.report_text.proofs.NamedLogs.{plan_and_log_named}
use Rattle.report_text.proofs.LegalEntries.{legal_entries}
use Rattle.report_text.proofs.laws.text_names_log.Goals as goal

pub returns-clause-plan : goal.returns-clause-plan
returns-clause-plan c = plan_text_names

pub returns-clause-log : goal.returns-clause-log
returns-clause-log c monitor clients plan other log others last end first second same =
    plan_and_log_named monitor clients plan other log others (situation_of last) (situation_of end) first.is.rule first.clients first.is.plan second.is.plan
    (legal_entries (system_under monitor clients plan) first.is log last first.legal)
    (legal_entries (system_under monitor clients other) second.is others end second.legal) same
