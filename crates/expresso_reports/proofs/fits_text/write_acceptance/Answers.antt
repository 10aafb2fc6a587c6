use Rattle.base_io.proofs.Writing.{wrote_both, wrote_fails, wrote_longer}
use Rattle.report_fits.specs.FitVerdicts.{fitting_text}
use Rattle.expresso_reports.proofs.fits_text.write_acceptance.Goals as goal

pub returns-in_err-write_verdict : goal.returns-in_err-write_verdict
returns-in_err-write_verdict g c = wrote_fails _ c.from_residual.ensures.0 (wrote_longer (fitting_text c.args.monitor.now c.args.fits.now) c.in_err-write_verdict.ensures)

pub returns : goal.returns
returns g c = wrote_both c.in_ok-write_verdict.ensures c.write_fitting.ensures
