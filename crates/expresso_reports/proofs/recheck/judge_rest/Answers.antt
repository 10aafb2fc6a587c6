use Rattle.std.proofs.Common.{inr, refl, subst}
use Rattle.std.specs.Prelude.{option_map}
use Rattle.report_fits.specs.FitReadings.{AreFitsRead}
use Rattle.expresso_reports.proofs.Judged.{each_checked}
use Rattle.expresso_reports.proofs.recheck.judge_rest.Goals as goal

pub check_fits-requires-clause-fits : goal.check_fits-requires-clause-fits
check_fits-requires-clause-fits c =
    (subst (λ found. AreFitsRead c.args.monitor.now c.args.bytes.now (option_map (λ fits. fits.items) found)) c.in-Some.is c.in_ok-fits.ensures).are.are

pub returns-in-Some : goal.returns-in-Some
returns-in-Some c =
    each_checked c.args.monitor.now c.args.bytes.now c.args.report.now c.args.certs c.in-Some.fits.items c.check_fits.result
    (subst (λ found. AreFitsRead c.args.monitor.now c.args.bytes.now (option_map (λ fits. fits.items) found)) c.in-Some.is c.in_ok-fits.ensures) c.check_fits.ensures

pub returns-in-None : goal.returns-in-None
returns-in-None c =
    inr (subst (λ found. AreFitsRead c.args.monitor.now c.args.bytes.now (option_map (λ fits. fits.items) found)) c.in-None.is c.in_ok-fits.ensures, refl)
