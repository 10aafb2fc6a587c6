use Rattle.std.proofs.Common.{◌≡◌, rules, sym, ◌∙◌}
use Rattle.report_tally.specs.CountedReports.{block_questions}
use Rattle.report_tally.proofs.ConditionLines.{named_shown, none_reading, reads_from, unnamed_shown}
use Rattle.report_tally.proofs.answering.shown_row.Goals as goal

pub returns-then-not-reads_none : goal.returns-then-not-reads_none
returns-then-not-reads_none c = none_reading c.args.monitor.now c.args.plan.now c.args.condition c.args.bytes.now (sym c.reads_none.ensures ∙ c.if-not-reads_none.true)

pub unnamed_row-requires : goal.unnamed_row-requires
unnamed_row-requires c = reads_from c.args.monitor.now c.args.condition c.requires.first (sym c.reads_none.ensures ∙ c.if-not-reads_none.false)

pub named_row-requires : goal.named_row-requires
named_row-requires c = reads_from c.args.monitor.now c.args.condition c.requires.first (sym c.reads_none.ensures ∙ c.if-not-reads_none.false)

pub returns-in-None : goal.returns-in-None
returns-in-None c =
    let asked : c.deref.result.now ≡ block_questions c.args.monitor.now c.args.plan.now c.args.condition 1 = search rules in
    unnamed_shown c.args.monitor.now c.args.plan.now c.args.condition c.args.bytes.now c.deref.result.now c.unnamed_row.result c.requires.kind
    (reads_from c.args.monitor.now c.args.condition c.requires.first (sym c.reads_none.ensures ∙ c.if-not-reads_none.false)) asked (sym c.first_of.ensures ∙ c.in-None.is) c.unnamed_row.ensures

pub returns : goal.returns
returns c =
    let asked : c.deref.result.now ≡ block_questions c.args.monitor.now c.args.plan.now c.args.condition 1 = search rules in
    named_shown c.args.monitor.now c.args.plan.now c.args.condition c.args.bytes.now c.deref.result.now c.in-Some.question c.named_row.result c.requires.kind
    (reads_from c.args.monitor.now c.args.condition c.requires.first (sym c.reads_none.ensures ∙ c.if-not-reads_none.false)) asked (sym c.first_of.ensures ∙ c.in-Some.is) c.named_row.ensures
