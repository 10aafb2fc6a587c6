use Rattle.std.proofs.Common.{refl}
use Rattle.plan_claims.specs.declared.placed.Proof.{Proof}
use Rattle.base_pen.proofs.Putting.{adds_next}
use Rattle.report_proofs.specs.ReportTexts.{proof_text}
use Rattle.report_proofs.proofs.writing.put_proofs.Goals as goal

pub loop-proof-preserved : goal.loop-proof-preserved
loop-proof-preserved g c =
    adds_next (λ (proof : Proof). proof_text c.args.monitor.now proof.claim proof.cert) c.args.proofs.now c.loop-proof.proof-index c.proof-item.result _ c.loop-proof-test.true c.proof-item.is refl c.loop-proof.invariant c.put_proof.ensures
