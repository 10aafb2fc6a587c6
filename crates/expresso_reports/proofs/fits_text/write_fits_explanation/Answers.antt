use Rattle.base_io.proofs.Writing.{wrote_both, wrote_fails, wrote_longer}
use Rattle.report_fits.specs.FitReasonTexts.{fit_reasons_text}
use Rattle.expresso_reports.proofs.fits_text.write_fits_explanation.Goals as goal

pub returns-in_err-write_explanation : goal.returns-in_err-write_explanation
returns-in_err-write_explanation g c = wrote_fails _ c.from_residual.ensures.0 (wrote_longer (fit_reasons_text c.args.tree.now c.args.monitor.now c.args.found.now) c.in_err-write_explanation.ensures)

pub returns : goal.returns
returns g c = wrote_both c.in_ok-write_explanation.ensures c.write_fit_reasons.ensures
