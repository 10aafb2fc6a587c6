use Rattle.std.proofs.Common.{arith, subst}
use Rattle.std.proofs.lemmas.List.Elements.{All-more}
use Rattle.logic_outline.specs.Outlines.{HasTypedNumbers}
use Rattle.report_verdict.proofs.Pairs.{all_taken}
use Rattle.report_proofs.proofs.TypedNumbers.{cases_typed, chain_typed, clash_typed, split_typed}
use Rattle.report_proofs.proofs.ranges.+of_cert.Goals as goal

pub of_cert-returns-in-Split : goal.of_cert-returns-in-Split
of_cert-returns-in-Split t c =
    split_typed c.args.cert.now c.in-Split.certs c.items.result.now c.items-in-Split.result.now c.in-Split.is c.items.ensures c.items-in-Split.ensures c.of_count.ensures c.of_certs.ensures

pub of_cert-returns-in-Clash : goal.of_cert-returns-in-Clash
of_cert-returns-in-Clash t c = clash_typed c.args.cert.now c.in-Clash.left c.in-Clash.right c.in-Clash.is c.of_clash.ensures

pub of_cert-returns-in-Chain : goal.of_cert-returns-in-Chain
of_cert-returns-in-Chain t c =
    chain_typed c.args.cert.now c.in-Chain.combines c.items-in-Chain.result.now c.items-in-Chain-2.result.now c.in-Chain.is c.items-in-Chain.ensures c.items-in-Chain-2.ensures c.of_count-in-Chain.ensures c.of_combines.ensures

pub of_cert-returns-in-Cases : goal.of_cert-returns-in-Cases
of_cert-returns-in-Cases t c =
    cases_typed c.args.cert.now c.in-Cases.form c.in-Cases.below c.in-Cases.above c.get.result.now c.get-in-Cases.result.now c.in-Cases.is c.get.ensures c.get-in-Cases.ensures
    c.of_form.ensures c.of_cert.ensures c.of_cert-in-Cases.ensures

pub of_certs-loop-cert-preserved : goal.of_certs-loop-cert-preserved
of_certs-loop-cert-preserved t c =
    All-more HasTypedNumbers c.args.certs.now c.loop-cert.cert-index c.cert-item.result c.loop-cert-test.true c.loop-cert.invariant (subst HasTypedNumbers c.cert-item.is c.of_cert.ensures)

pub of_certs-returns : goal.of_certs-returns
of_certs-returns t c = all_taken HasTypedNumbers c.args.certs.now c.loop-cert.cert-index (omega (arith, c.loop-cert-test.false)) c.loop-cert.invariant
