use Rattle.std.proofs.Common.{◌≡◌, ◌+◌, List, [], ◌∷◌, ◌++◌, rules, refl, sym, subst}
use Rattle.logic_cert.specs.declared.cert.Cert.{Cert}
use Rattle.report_proofs.specs.Fronts.{Anything}
use Rattle.report_proofs.specs.Readings.{IsReadable}
use Rattle.report_proofs.proofs.Fronts.{AreGoing, at_none, at_some}
use Rattle.report_proofs.proofs.Fronts.{going_end, going_more, going_none}
use Rattle.report_tally.specs.CountedReports.{answer_text}
use Rattle.report_tally.proofs.answering.read_answers.Goals as goal

pub returns-in-None : goal.returns-in-None
returns-in-None c others more are ends same =
    let none = at_none _ _ c.in-None.is c.in_ok-cert.ensures in
    going_none (answer_text c.args.monitor.now) IsReadable c.args.questions.now c.args.bytes.now c.loop-index.index c.loop-index.answers.items c.loop-index.rest.now _ _ c.loop-index-test.true refl c.loop-index.invariant
    (λ other after holds begins. none other after holds tt begins) others more are same

pub loop-index-preserved : goal.loop-index-preserved
loop-index-preserved c =
    let pushed : c.push.new.self.items ≡ c.loop-index.answers.items ++ c.in-Some.cert ∷ [] = search rules in
    let front = at_some _ _ c.in-Some.is c.in_ok-cert.ensures in
    subst (λ (answers : List Cert). AreGoing (answer_text c.args.monitor.now) IsReadable c.args.questions.now c.args.bytes.now (c.loop-index.index + 1) answers c.in-Some.left.now) (sym pushed)
    (going_more (answer_text c.args.monitor.now) IsReadable c.args.questions.now c.args.bytes.now c.loop-index.index c.loop-index.answers.items c.loop-index.rest.now _ _ c.in-Some.cert c.in-Some.left.now
    c.loop-index-test.true refl c.loop-index.invariant front.holds front.begins (λ other after holds same. front.only other after holds tt same))

pub returns : goal.returns
returns c =
    going_end (answer_text c.args.monitor.now) IsReadable Anything c.args.questions.now c.args.bytes.now c.loop-index.index c.loop-index.answers.items c.loop-index.rest.now c.loop-index-test.false c.loop-index.invariant
