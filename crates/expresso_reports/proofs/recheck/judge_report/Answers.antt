use Rattle.std.proofs.Common.{inr, refl, subst}
use Rattle.report_verdict.specs.declared.report.Verdict.TheVariants as verdicts
use Rattle.report_tally.specs.CountedVerdicts.{IsCountedVerdict}
use Rattle.expresso_reports.proofs.Judged.{each_accepted}
use Rattle.expresso_reports.proofs.recheck.judge_report.Goals as goal

pub returns-in-Accepted : goal.returns-in-Accepted
returns-in-Accepted c =
    each_accepted c.args.monitor.now c.args.rest.now c.args.report.now c.in-Accepted.claims c.judge_rest.result
    (subst (IsCountedVerdict c.args.monitor.now c.args.report.now) c.in-Accepted.is c.in_ok-verdict.ensures) c.judge_rest.ensures

pub returns-in-Unlawful : goal.returns-in-Unlawful
returns-in-Unlawful c =
    inr (verdicts.Unlawful, subst (IsCountedVerdict c.args.monitor.now c.args.report.now) c.in-Unlawful.is c.in_ok-verdict.ensures, (λ none. none), refl)

pub returns-in-Unproved : goal.returns-in-Unproved
returns-in-Unproved c =
    inr (
      verdicts.Unproved c.in-Unproved.line,
      subst (IsCountedVerdict c.args.monitor.now c.args.report.now) c.in-Unproved.is c.in_ok-verdict.ensures,
      (λ none. none),
      refl,
    )
