use Rattle.std.proofs.Common.{take}
use Rattle.std.specs.Prelude.{All}
use Rattle.logic_outline.specs.Outlines.{HasTypedNumbers}
use Rattle.report_proofs.proofs.ranges.of_proofs.Given as goal

abbrev pub invariant-loop-proof : goal.invariant-loop-proof
invariant-loop-proof l = All (λ proof. HasTypedNumbers proof.cert) (take l.proof-index l.proofs)
