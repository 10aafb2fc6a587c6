use Rattle.std.proofs.Common.{ap}
use Rattle.plan_count.specs.declared.question.Question.{Question}
use Rattle.base_pen.proofs.Putting.{adds_both, adds_same}
use Rattle.report_tally.specs.CountedReports.{answer_text}
use Rattle.report_tally.proofs.writing.put_signal.Goals as goal

pub returns : goal.returns
returns g c =
    let monitor = c.args.monitor.now in
    adds_both (adds_same _ (ap (λ (question : Question). answer_text monitor question c.args.gives.now) c.gives_question.ensures) c.put_answer.ensures)
    (adds_same _ (ap (λ (question : Question). answer_text monitor question c.args.first.now) c.first_question.ensures) c.put_answer-2.ensures)
