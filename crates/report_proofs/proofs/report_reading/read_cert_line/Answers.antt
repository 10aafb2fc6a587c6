use Rattle.std.proofs.Common.{subst}
use Rattle.logic_cert.specs.CertText.{cert_text}
use Rattle.logic_outline.specs.Readings.{IsRead}
use Rattle.report_proofs.specs.Readings.{IsReadable}
use Rattle.report_proofs.proofs.ReportParts.{line_found, line_none}
use Rattle.report_proofs.proofs.report_reading.read_cert_line.Goals as goal

pub returns-in-Some : goal.returns-in-Some
returns-in-Some c =
    line_found c.args.bytes.now c.in-Some.cert c.in-Some.rest c.ended.result (subst (IsRead cert_text IsReadable c.args.bytes.now) c.in-Some.is c.in_ok-cert.ensures) c.ended.ensures

pub returns-in-None : goal.returns-in-None
returns-in-None c = line_none c.args.bytes.now (subst (IsRead cert_text IsReadable c.args.bytes.now) c.in-None.is c.in_ok-cert.ensures)
