use Rattle.std.proofs.Common.{true, List, Option, ◌++◌, ◌≤◌, length, subst, sym, refl}
use Rattle.lang_base.specs.Limits.{BLOCKS}
use Rattle.lang_monitor.specs.declared.candidate.Candidate.{Candidate}
use Rattle.lang_monitor.specs.Candidates.{AreSomeOf, candidates_of}
use Rattle.logic_cert.specs.declared.cert.Cert.{Cert}
use Rattle.report_tally.specs.CountedTexts.{counted_text}
use Rattle.report_fits.specs.FitTexts.{certified, fits_text}
use Rattle.expresso_answers.specs.declared.status.Status.TheVariants.{Done}
use Rattle.expresso_reports.specs.inner.Fitting.{AreTypedAnswers}
use Rattle.front_command.specs.CommandLine.{report}
use Rattle.expresso_reports.proofs.Fitted.{counted_fits_done}
use Rattle.expresso_answers.proofs.Outcomes.{written_since}
use Rattle.expresso_reports.proofs.fits.report_counted_fits.Goals as goal

pub returns-in-Err-clause-ended : goal.returns-in-Err-clause-ended
returns-in-Err-clause-ended g c = c.in-Err.ensures.ended (report c.args.file.now true true) refl

pub answers_of-requires : goal.answers_of-requires
answers_of-requires g c =
    subst (λ (kept : List Candidate). AreSomeOf kept (candidates_of c.in-Ok.found.monitor)) (sym c.items.ensures) c.in-Ok-counting_of.ensures.fits.kept

pub show_counted_fits_report-requires-clause-backed : goal.show_counted_fits_report-requires-clause-backed
show_counted_fits_report-requires-clause-backed g c = c.in-Ok-counting_of.ensures.by.table.backed

pub show_counted_fits_report-requires-clause-few : goal.show_counted_fits_report-requires-clause-few
show_counted_fits_report-requires-clause-few g c = subst (λ (answers : List (Option Cert)). length answers ≤ BLOCKS) (sym c.as_slice.ensures.value) c.in-Ok-answers_of.ensures.few

pub returns-in-Ok-answers_of-clause-ended : goal.returns-in-Ok-answers_of-clause-ended
returns-in-Ok-answers_of-clause-ended g c =
    let found = c.in-Ok.found in
    let counting = c.in-Ok-counting_of.counting in
    let answers = c.in-Ok-answers_of.answers in
    let told = c.as_slice.result.now in
    let fits = subst (λ (kept : List Candidate). AreTypedAnswers found.monitor kept answers.items) c.items.ensures c.in-Ok-answers_of.ensures in
    counted_fits_done c.counted_text_is_report_text.ensures.text c.args.file.now found.tree found.monitor counting.placed counting.counted told
    (g.F.Files.seen c.args.files.now) (g.F.Files.seen c.monitor_of.new.files) _ (g.S.Sink.seen c.args.out.now) _ c.in-Ok.ensures.holds c.in-Ok-counting_of.ensures
    (subst (AreTypedAnswers found.monitor counting.counted.plan.kept) (sym c.as_slice.ensures.value) fits) c.in-Ok.ensures.quiet.steady
    (written_since Done (counted_text found.monitor counting.placed counting.counted ++ fits_text found.monitor (certified told)) _ _ _ _ c.in-Ok.ensures.quiet.silent c.show_counted_fits_report.ensures)
