use Rattle.std.proofs.Common.{◌∙◌, List, None, Option, Some, ap, refl, subst, sym}
use Rattle.lang_monitor.specs.declared.candidate.Candidate.{Candidate}
use Rattle.lang_monitor.specs.Candidates.{AreSomeOf, candidates_of}
use Rattle.report_verdict.specs.declared.report.Verdict.TheVariants as verdicts
use Rattle.report_fits.specs.declared.fit.Fit.{Fit}
use Rattle.report_fits.specs.FitTexts.{AreFits}
use Rattle.expresso_reports.proofs.Judged.{same_first}
use Rattle.expresso_reports.proofs.recheck.check_fits.Goals as goal

pub first_open_fit-requires-clause-kept : goal.first_open_fit-requires-clause-kept
first_open_fit-requires-clause-kept c =
    subst (λ (kept : List Candidate). AreSomeOf kept (candidates_of c.args.monitor.now)) (sym c.items.ensures) c.requires.is.plan.kept

pub first_open_fit-requires-clause-blocks : goal.first_open_fit-requires-clause-blocks
first_open_fit-requires-clause-blocks c = subst (AreFits c.args.monitor.now) (sym c.as_slice.ensures.value) c.requires.fits

pub returns-in-Some : goal.returns-in-Some
returns-in-Some c = (
  c.in-Some.place,
  same_first c.args.monitor.now c.args.report.now c.items.result.now c.as_slice.result.now c.args.fits.items _ _ c.items.ensures c.as_slice.ensures.value c.in-Some.is c.in_ok-place.ensures.first,
  ap verdicts.Unproved c.line_of_fit.ensures,
)

pub returns-in-None : goal.returns-in-None
returns-in-None c = (
  refl,
  c.of.ensures,
  same_first c.args.monitor.now c.args.report.now c.items.result.now c.as_slice.result.now c.args.fits.items _ _ c.items.ensures c.as_slice.ensures.value c.in-None.is c.in_ok-place.ensures.first,
)
