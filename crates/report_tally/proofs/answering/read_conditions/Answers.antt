use Rattle.std.proofs.Common.{rules, refl}
use Rattle.report_proofs.proofs.Fronts.{at_none, at_some}
use Rattle.report_tally.proofs.ConditionLines.{marked_signal, reading_end, reading_more, reading_none}
use Rattle.report_tally.proofs.answering.read_conditions.Goals as goal

pub read_condition-requires-clause-kind : goal.read_condition-requires-clause-kind
read_condition-requires-clause-kind c = marked_signal c.args.plan.now c.args.marked.now c.loop-index.index _ _ c.requires.are c.loop-index-test.true refl

pub returns-in-None : goal.returns-in-None
returns-in-None c =
    reading_none c.args.monitor.now c.args.plan.now c.args.marked.now c.args.bytes.now c.loop-index.index c.loop-index.counted.items c.loop-index.answers.items c.loop-index.rest.now _ _
    c.loop-index-test.true refl (at_none _ _ c.in-None.is c.in_ok-row.ensures) c.loop-index.invariant

pub loop-index-preserved : goal.loop-index-preserved
loop-index-preserved c =
    reading_more c.args.monitor.now c.args.plan.now c.args.marked.now c.args.bytes.now c.loop-index.index c.loop-index.counted.items c.push.new.self.items c.loop-index.answers.items c.append.new.self.items
    c.loop-index.rest.now c.in-Some.left.now _ _ c.in-Some.row c.in-Some.certs.items c.loop-index-test.true refl (search rules) (search rules)
    (at_some _ _ c.in-Some.is c.in_ok-row.ensures) c.loop-index.invariant

pub returns : goal.returns
returns c =
    reading_end c.args.monitor.now c.args.plan.now c.args.marked.now c.args.bytes.now c.loop-index.index c.loop-index.counted.items c.loop-index.answers.items c.loop-index.rest.now
    c.loop-index-test.false c.loop-index.invariant
