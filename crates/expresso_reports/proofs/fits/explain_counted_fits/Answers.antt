use Rattle.std.proofs.Common.{true, List, ◌++◌, ◌≤◌, length, subst, sym, refl}
use Rattle.lang_base.specs.Limits.{BLOCKS}
use Rattle.lang_monitor.specs.declared.candidate.Candidate.{Candidate}
use Rattle.lang_monitor.specs.Candidates.{AreSomeOf, candidates_of}
use Rattle.report_fits.specs.declared.reasons.FitReason.{FitReason}
use Rattle.report_fits.specs.FitReasonTexts.{fit_reasons_text}
use Rattle.expresso_answers.specs.Texts.{count_explained_text}
use Rattle.expresso_answers.specs.declared.status.Status.TheVariants.{Done}
use Rattle.expresso_reports.specs.inner.Fitting.{AreFewReasons}
use Rattle.front_command.specs.CommandLine.{explain}
use Rattle.expresso_reports.proofs.Fitted.{count_explain_fits_done}
use Rattle.expresso_answers.proofs.Outcomes.{written_since}
use Rattle.expresso_reports.proofs.fits.explain_counted_fits.Goals as goal

pub returns-in-Err-clause-ended : goal.returns-in-Err-clause-ended
returns-in-Err-clause-ended g c = c.in-Err.ensures.ended (explain c.args.file.now true true) refl

pub reasons_of-requires : goal.reasons_of-requires
reasons_of-requires g c =
    subst (λ (kept : List Candidate). AreSomeOf kept (candidates_of c.in-Ok.found.monitor)) (sym c.items.ensures) c.in-Ok-count_explanation_of.ensures.chosen.fits.kept

pub show_counted_fits_explanation-requires : goal.show_counted_fits_explanation-requires
show_counted_fits_explanation-requires g c = subst (λ (reasons : List FitReason). length reasons ≤ BLOCKS) (sym c.as_slice.ensures.value) c.in-Ok-reasons_of.ensures.few

pub returns-in-Ok-reasons_of-clause-ended : goal.returns-in-Ok-reasons_of-clause-ended
returns-in-Ok-reasons_of-clause-ended g c =
    let found = c.in-Ok.found in
    let explained = c.in-Ok-count_explanation_of.explained in
    let plan = explained.explanation.plan in
    let reasons = c.in-Ok-reasons_of.reasons in
    let told = c.as_slice.result.now in
    let fits = subst (λ (kept : List Candidate). AreFewReasons found.monitor kept reasons.items) c.items.ensures c.in-Ok-reasons_of.ensures in
    count_explain_fits_done c.args.file.now found.tree found.monitor plan explained.explanation.reasons.items explained.broadcasts.items told
    (g.F.Files.seen c.args.files.now) (g.F.Files.seen c.monitor_of.new.files) _ (g.S.Sink.seen c.args.out.now) _ c.in-Ok.ensures.holds c.in-Ok-count_explanation_of.ensures
    (subst (AreFewReasons found.monitor plan.kept) (sym c.as_slice.ensures.value) fits) c.in-Ok.ensures.quiet.steady
    (written_since Done (count_explained_text found.tree found.monitor plan explained.explanation.reasons.items explained.broadcasts.items ++ fit_reasons_text found.tree found.monitor told) _ _ _ _ c.in-Ok.ensures.quiet.silent c.show_counted_fits_explanation.ensures)
