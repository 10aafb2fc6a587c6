use Rattle.std.proofs.Common.{Bool, None, refl, sym, subst}
use Rattle.std.specs.Prelude.{IfOk}
use Rattle.report_audit.specs.CountedFindings.{IsFindingBy}
use Rattle.expresso_answers.specs.PlanFiles.{IsFailureBy}
use Rattle.expresso_reports.proofs.audit.failure_by.Goals as goal

pub finding_failure-requires-clause-found : goal.finding_failure-requires-clause-found
finding_failure-requires-clause-found c = subst (λ (count : Bool). IsFindingBy count c.args.monitor.now c.args.plan.now c.args.finding) c.if-count.true c.requires.found

pub returns-then-count : goal.returns-then-count
returns-then-count c =
    subst (λ (count : Bool). IfOk c.finding_failure.result (IsFailureBy count c.args.monitor.now c.args.plan.now c.args.finding)) (sym c.if-count.true) c.finding_failure.ensures

pub returns-else-count : goal.returns-else-count
returns-else-count c = subst (λ (count : Bool). IsFailureBy count c.args.monitor.now c.args.plan.now c.args.finding None) (sym c.if-count.false) refl
