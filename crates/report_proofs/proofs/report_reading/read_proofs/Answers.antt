use Rattle.std.proofs.Common.{◌≡◌, ◌+◌, List, [], ◌∷◌, ◌++◌, rules, refl, sym, subst}
use Rattle.logic_cert.specs.declared.cert.Cert.{Cert}
use Rattle.report_proofs.specs.Readings.{IsReadable}
use Rattle.report_proofs.specs.ReportTexts.{proof_text}
use Rattle.report_proofs.proofs.Fronts.{AreGoing, at_none, at_some}
use Rattle.report_proofs.proofs.ReportParts.{proofs_end, proofs_more, proofs_stop}
use Rattle.report_proofs.proofs.report_reading.read_proofs.Goals as goal

pub returns-in-None : goal.returns-in-None
returns-in-None c =
    proofs_stop c.args.monitor.now c.args.claims.now c.args.bytes.now c.loop-index.index c.loop-index.proofs.items c.loop-index.rest.now _ _ c.loop-index-test.true refl c.loop-index.invariant
    (at_none _ _ c.in-None.is c.in_ok-cert.ensures)

pub loop-index-preserved : goal.loop-index-preserved
loop-index-preserved c =
    let pushed : c.push.new.self.items ≡ c.loop-index.proofs.items ++ c.in-Some.cert ∷ [] = search rules in
    subst (λ (proofs : List Cert). AreGoing (proof_text c.args.monitor.now) IsReadable c.args.claims.now c.args.bytes.now (c.loop-index.index + 1) proofs c.in-Some.left.now) (sym pushed)
    (proofs_more c.args.monitor.now c.args.claims.now c.args.bytes.now c.loop-index.index c.loop-index.proofs.items c.loop-index.rest.now _ _ c.in-Some.cert c.in-Some.left.now c.loop-index-test.true refl
    c.loop-index.invariant (at_some _ _ c.in-Some.is c.in_ok-cert.ensures))

pub returns : goal.returns
returns c = proofs_end c.args.monitor.now c.args.claims.now c.args.bytes.now c.loop-index.index c.loop-index.proofs.items c.loop-index.rest.now c.loop-index-test.false c.loop-index.invariant
