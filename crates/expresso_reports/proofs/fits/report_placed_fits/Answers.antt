use Rattle.std.proofs.Common.{true, false, List, Option, ◌++◌, ◌≤◌, length, subst, sym, refl}
use Rattle.lang_base.specs.Limits.{BLOCKS}
use Rattle.lang_monitor.specs.declared.candidate.Candidate.{Candidate}
use Rattle.lang_monitor.specs.Candidates.{AreSomeOf, candidates_of}
use Rattle.logic_cert.specs.declared.cert.Cert.{Cert}
use Rattle.report_proofs.specs.ReportTexts.{placed_text}
use Rattle.report_fits.specs.FitTexts.{certified, fits_text}
use Rattle.expresso_answers.specs.declared.status.Status.TheVariants.{Done}
use Rattle.expresso_reports.specs.inner.Fitting.{AreTypedAnswers}
use Rattle.front_command.specs.CommandLine.{report}
use Rattle.expresso_reports.proofs.Fitted.{report_fits_done}
use Rattle.expresso_answers.proofs.Outcomes.{written_since}
use Rattle.expresso_reports.proofs.fits.report_placed_fits.Goals as goal

pub returns-in-Err-clause-ended : goal.returns-in-Err-clause-ended
returns-in-Err-clause-ended g c = c.in-Err.ensures.ended (report c.args.file.now false true) refl

pub answers_of-requires : goal.answers_of-requires
answers_of-requires g c =
    subst (λ (kept : List Candidate). AreSomeOf kept (candidates_of c.in-Ok.found.monitor)) (sym c.items.ensures) c.in-Ok-placed_of.ensures.placement.fits.kept

pub show_fits_report-requires : goal.show_fits_report-requires
show_fits_report-requires g c = subst (λ (answers : List (Option Cert)). length answers ≤ BLOCKS) (sym c.as_slice.ensures.value) c.in-Ok-answers_of.ensures.few

pub returns-in-Ok-answers_of-clause-ended : goal.returns-in-Ok-answers_of-clause-ended
returns-in-Ok-answers_of-clause-ended g c =
    let found = c.in-Ok.found in
    let placed = c.in-Ok-placed_of.placed in
    let answers = c.in-Ok-answers_of.answers in
    let told = c.as_slice.result.now in
    let fits = subst (λ (kept : List Candidate). AreTypedAnswers found.monitor kept answers.items) c.items.ensures c.in-Ok-answers_of.ensures in
    report_fits_done c.placed_text_is_report_text.ensures.text c.args.file.now found.tree found.monitor placed told
    (g.F.Files.seen c.args.files.now) (g.F.Files.seen c.monitor_of.new.files) _ (g.S.Sink.seen c.args.out.now) _ c.in-Ok.ensures.holds c.in-Ok-placed_of.ensures.placement c.in-Ok-placed_of.ensures.proofs c.read_numbers.ensures
    (subst (AreTypedAnswers found.monitor placed.plan.kept) (sym c.as_slice.ensures.value) fits) c.in-Ok.ensures.quiet.steady
    (written_since Done (placed_text found.monitor placed ++ fits_text found.monitor (certified told)) _ _ _ _ c.in-Ok.ensures.quiet.silent c.show_fits_report.ensures)
