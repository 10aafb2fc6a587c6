use Rattle.std.proofs.Common.{arith, subst}
use Rattle.std.proofs.lemmas.List.Elements.{All-more}
use Rattle.plan_claims.specs.declared.placed.Proof.{Proof}
use Rattle.logic_outline.specs.Outlines.{HasTypedNumbers}
use Rattle.report_verdict.proofs.Pairs.{all_taken}
use Rattle.report_proofs.proofs.ranges.of_proofs.Goals as goal

abbrev IsTyped : Proof → Type 0
IsTyped proof = HasTypedNumbers proof.cert

pub loop-proof-preserved : goal.loop-proof-preserved
loop-proof-preserved c =
    All-more IsTyped c.args.proofs.now c.loop-proof.proof-index c.proof-item.result c.loop-proof-test.true c.loop-proof.invariant (subst IsTyped c.proof-item.is c.of_cert.ensures)

pub returns : goal.returns
returns c = all_taken IsTyped c.args.proofs.now c.loop-proof.proof-index (omega (arith, c.loop-proof-test.false)) c.loop-proof.invariant
