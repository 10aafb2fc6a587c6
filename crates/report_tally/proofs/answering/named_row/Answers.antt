use Rattle.std.proofs.Common.{◌+◌, Some, subst, arith}
use Rattle.plan_count.specs.declared.question.Question.{Question}
use Rattle.report_proofs.specs.Fronts.{IsAfter}
use Rattle.report_tally.specs.inner.Lines.{by_row, head_text}
use Rattle.report_tally.proofs.NamedRows.{named_here}
use Rattle.report_tally.proofs.answering.named_row.Goals as goal

pub returns-in-Some : goal.returns-in-Some
returns-in-Some c =
    let monitor = c.args.monitor.now in
    let row = c.loop-before.before + 1 in
    let own : IsAfter c.args.bytes.now (head_text monitor (by_row row c.args.question)) c.in_ok-after_question.field-0 =
    subst (λ (one : Question). IsAfter c.args.bytes.now (head_text monitor one) c.in_ok-after_question.field-0) c.by_row.ensures c.in_ok-after_question.ensures in
    let here : IsAfter c.args.bytes.now (head_text monitor (by_row row c.args.question)) (Some c.in-Some.field-0) =
    subst (IsAfter c.args.bytes.now (head_text monitor (by_row row c.args.question))) c.in-Some.is own in
    named_here monitor c.args.condition row c.args.question c.args.bytes.now c.in-Some.field-0.now c.blocks-blocks.ensures.rule (c.has_row.ensures.0 c.if-not-has_row.false)
    (omega (arith, c.loop-before-test.true)) here
