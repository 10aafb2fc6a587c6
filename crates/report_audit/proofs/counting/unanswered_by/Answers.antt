use Rattle.std.proofs.Common.{sym, subst, ◌∙◌}
use Rattle.std.specs.Prelude.{All}
use Rattle.plan_count.specs.Questions.{MayAskQuestion}
use Rattle.report_audit.proofs.CountAsked.{questions_askable}
use Rattle.report_audit.proofs.Uncounted.{by_row}
use Rattle.report_audit.proofs.counting.unanswered_by.Goals as goal

pub first_unanswered-requires-clause-questions : goal.first_unanswered-requires-clause-questions
first_unanswered-requires-clause-questions c =
    subst (All (MayAskQuestion c.args.monitor.now)) (sym (c.deref.ensures.value ∙ c.in_ok-questions.ensures))
    (questions_askable c.args.monitor.now c.args.plan.now c.args.condition c.args.row c.requires.reads c.requires.has)

pub returns : goal.returns
returns c =
    by_row c.args.monitor.now c.args.plan.now c.args.condition c.args.row c.items.result.now c.deref.result.now c.first_unanswered.result c.items.ensures (c.deref.ensures.value ∙ c.in_ok-questions.ensures)
    c.first_unanswered.ensures
