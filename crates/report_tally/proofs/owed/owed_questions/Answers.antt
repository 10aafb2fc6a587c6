use Rattle.std.proofs.Common.{◌+◌, [], Option, ℕ, ap, refl, ◌∙◌, arith}
use Rattle.std.proofs.lemmas.List.{take_all}
use Rattle.report_verdict.proofs.Gathered.{listed_more}
use Rattle.report_tally.specs.CountedReports.{condition_questions, owed_questions}
use Rattle.report_tally.proofs.owed.owed_questions.Goals as goal

pub loop-index-preserved : goal.loop-index-preserved
loop-index-preserved c =
    listed_more (λ (number : ℕ) (row : Option ℕ). condition_questions c.args.monitor.now c.args.plan.now number row) 1 c.loop-index.index (c.loop-index.index + 1) c.args.counted.now _ _ _ []
    c.loop-index.owed.items c.push_counted.new.owed.items c.loop-index-test.true (omega arith) refl refl c.loop-index.invariant c.in_ok-push_counted.ensures

pub returns : goal.returns
returns c =
    c.loop-index.invariant ∙ ap (owed_questions c.args.monitor.now c.args.plan.now) (take_all c.loop-index.index c.args.counted.now c.loop-index-test.false)
