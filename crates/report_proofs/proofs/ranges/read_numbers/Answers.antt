use Rattle.std.proofs.Common.{List, subst}
use Rattle.std.specs.Prelude.{All}
use Rattle.plan_claims.specs.declared.placed.Proof.{Proof}
use Rattle.logic_outline.specs.Outlines.{HasTypedNumbers}
use Rattle.report_proofs.proofs.ranges.read_numbers.Goals as goal

pub returns : goal.returns
returns c = subst (λ (proofs : List Proof). All (λ (proof : Proof). HasTypedNumbers proof.cert) proofs) c.items.ensures c.of_proofs.ensures
