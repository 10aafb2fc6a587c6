use Rattle.std.specs.Prelude.{◌≡◌, map}
use Rattle.report_verdict.proofs.making.certs_of.Given as goal

abbrev pub invariant-loop-proof : goal.invariant-loop-proof
invariant-loop-proof l = l.certs.items ≡ map (λ proof. proof.cert) l.yielded
