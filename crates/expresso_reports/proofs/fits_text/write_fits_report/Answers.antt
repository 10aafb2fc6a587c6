use Rattle.base_io.proofs.Writing.{wrote_both, wrote_fails, wrote_longer}
use Rattle.report_fits.specs.FitTexts.{certified, fits_text}
use Rattle.expresso_reports.proofs.fits_text.write_fits_report.Goals as goal

pub returns-in_err-write_report : goal.returns-in_err-write_report
returns-in_err-write_report g c = wrote_fails _ c.from_residual.ensures.0 (wrote_longer (fits_text c.args.monitor.now (certified c.args.answers.now)) c.in_err-write_report.ensures)

pub returns : goal.returns
returns g c = wrote_both c.in_ok-write_report.ensures c.write_fits.ensures
