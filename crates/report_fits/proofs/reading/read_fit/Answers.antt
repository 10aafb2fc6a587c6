use Rattle.std.proofs.Common.{◌++◌, codes, subst}
use Rattle.machine_events.specs.PlanText.{block_name}
use Rattle.report_proofs.specs.Fronts.{Anything, IsAfter}
use Rattle.report_proofs.specs.Readings.{IsReadable}
use Rattle.report_proofs.proofs.Fronts.{either_after, none_there}
use Rattle.report_fits.specs.FitTexts.{fit_line}
use Rattle.report_fits.proofs.FitLines.{cert_line, head_line}
use Rattle.report_fits.proofs.reading.read_fit.Goals as goal

pub returns-in-Some : goal.returns-in-Some
returns-in-Some c =
    let monitor = c.args.monitor.now in
    let head = codes "proof fits " ++ block_name monitor c.args.block ++ codes ": " in
    either_after IsReadable Anything head cert_line (fit_line monitor c.args.block) c.args.bytes.now c.in-Some.rest.now c.read_cert_line.result (head_line monitor c.args.block)
    (subst (IsAfter c.args.bytes.now head) c.in-Some.is c.in_ok-rest.ensures) c.read_cert_line.ensures

pub returns-in-None : goal.returns-in-None
returns-in-None c =
    let monitor = c.args.monitor.now in
    let head = codes "proof fits " ++ block_name monitor c.args.block ++ codes ": " in
    none_there IsReadable Anything head cert_line (fit_line monitor c.args.block) c.args.bytes.now (head_line monitor c.args.block)
    (subst (IsAfter c.args.bytes.now head) c.in-None.is c.in_ok-rest.ensures)
