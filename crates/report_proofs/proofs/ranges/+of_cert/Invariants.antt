use Rattle.std.proofs.Common.{take}
use Rattle.std.specs.Prelude.{All}
use Rattle.logic_outline.specs.Outlines.{HasTypedNumbers}
use Rattle.report_proofs.proofs.ranges.+of_cert.Given as goal

abbrev pub invariant-of_certs-loop-cert : goal.invariant-of_certs-loop-cert
invariant-of_certs-loop-cert l = All HasTypedNumbers (take l.cert-index l.certs)
