use Rattle.std.proofs.Common.{◌++◌, codes, subst}
use Rattle.report_proofs.specs.Readings.{IsReadable}
use Rattle.report_proofs.specs.ReportTexts.{claim_text, proof_text}
use Rattle.report_proofs.specs.Fronts.{Anything, IsAfter}
use Rattle.report_proofs.proofs.Fronts.{either_after, none_there}
use Rattle.report_proofs.proofs.ReportParts.{cert_line, proof_line}
use Rattle.report_proofs.proofs.report_reading.read_proof.Goals as goal

pub returns-in-Some : goal.returns-in-Some
returns-in-Some c =
    let monitor = c.args.monitor.now in
    let head = codes "proof " ++ claim_text monitor c.args.claim ++ codes ": " in
    either_after IsReadable Anything head cert_line (proof_text monitor c.args.claim) c.args.bytes.now c.in-Some.rest.now c.read_cert_line.result (proof_line monitor c.args.claim)
    (subst (IsAfter c.args.bytes.now head) c.in-Some.is c.in_ok-rest.ensures) c.read_cert_line.ensures

pub returns-in-None : goal.returns-in-None
returns-in-None c =
    let monitor = c.args.monitor.now in
    let head = codes "proof " ++ claim_text monitor c.args.claim ++ codes ": " in
    none_there IsReadable Anything head cert_line (proof_text monitor c.args.claim) c.args.bytes.now (proof_line monitor c.args.claim)
    (subst (IsAfter c.args.bytes.now head) c.in-None.is c.in_ok-rest.ensures)
