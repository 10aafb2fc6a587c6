use Rattle.std.proofs.Common.{subst}
use Rattle.report_audit.specs.inner.Seen.{IsUnsuitedAt}
use Rattle.report_audit.proofs.AtSight.{at_sight}
use Rattle.report_audit.proofs.FoundByCounting.{kind_found}
use Rattle.report_audit.proofs.auditing.suited.Goals as goal

pub returns-in-Some : goal.returns-in-Some
returns-in-Some c =
    let own = subst (IsUnsuitedAt c.args.monitor.now c.args.plan.now) c.in-Some.is c.first_unsuited.ensures in
    kind_found c.args.count c.args.monitor.now c.args.plan.now c.in-Some.condition (record { starts = c.requires.starts; there = own.0; here = own.1; before = own.2 })

pub asked_by-requires-clause-sight : goal.asked_by-requires-clause-sight
asked_by-requires-clause-sight c =
    at_sight c.args.monitor.now c.args.plan.now c.requires.plan c.requires.starts
    (subst (IsUnsuitedAt c.args.monitor.now c.args.plan.now) c.in-None.is c.first_unsuited.ensures)
