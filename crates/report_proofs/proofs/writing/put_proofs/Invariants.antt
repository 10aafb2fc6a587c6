use Rattle.std.proofs.Common.{take}
use Rattle.std.specs.List.{flat_map}
use Rattle.base_pen.specs.Putting.{Adds}
use Rattle.report_proofs.specs.ReportTexts.{proof_text}
use Rattle.report_proofs.proofs.writing.put_proofs.Given as goal

abbrev pub invariant-loop-proof : goal.invariant-loop-proof
invariant-loop-proof g l =
    Adds g.S.Sink.seen l.initial.pen l.pen (flat_map (λ proof. proof_text l.monitor proof.claim proof.cert) (take l.proof-index l.proofs))
