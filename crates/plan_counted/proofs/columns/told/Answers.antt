use Rattle.std.proofs.Common.{sym, subst, ◌∙◌}
use Rattle.plan_count.specs.declared.question.Question.TheVariants as questions
use Rattle.plan_counted.specs.inner.Answers.{IsAnswerTo, NeedsNote}
use Rattle.plan_counted.proofs.Answered.{none_needed_where_noted, told_of}
use Rattle.plan_counted.proofs.columns.told.Goals as goal
use Rattle.plan_counted.proofs.columns.told.Goals.{After-waits_at, then-not-is_noted+in_ok-counts+in-None, else-not-is_noted}

needed : (c : After-waits_at) → NeedsNote c.args.monitor.now c.args.kept.now c.args.condition c.args.row c.args.block c.args.is_noted
needed c = elim c.if-not-is_noted.branch [
  | then-not-is_noted+in_ok-counts+in-None w ↦
      λ none. subst (IsAnswerTo c.args.monitor.now c.args.kept.now (questions.Counts c.args.condition c.args.row c.args.block)) w.in-None.is w.in_ok-counts.ensures
  | else-not-is_noted w ↦ none_needed_where_noted c.args.monitor.now c.args.kept.now c.args.condition c.args.row c.args.block c.args.is_noted w.if-not-is_noted.false
]

pub returns : goal.returns
returns c =
    told_of c.args.monitor.now c.args.kept.now c.args.condition c.args.row c.args.block c.args.is_noted c.in_ok-told.told
    (sym c.waits_at.ensures ∙ c.if-waits_at.false) (needed (goal.at.returns c).After-waits_at) c.in_ok-told.ensures
