use Rattle.std.proofs.Common.{Option, Some, ap, arith, sym, ◌∙◌}
use Rattle.std.proofs.lemmas.Option.{slice_get-get_or}
use Rattle.logic_cert.specs.declared.cert.Cert.{Cert}
use Rattle.report_verdict.proofs.Pairs.{all_taken, one_more_at}
use Rattle.report_fits.proofs.FitLines.{IsTypedAnswer}
use Rattle.report_fits.proofs.fit.read_fit_numbers.Goals as goal

pub loop-answer-preserved : goal.loop-answer-preserved
loop-answer-preserved c =
    one_more_at IsTypedAnswer c.args.answers.now c.loop-answer.answer-index c.answer-item.result
    (slice_get-get_or c.args.answers.now c.loop-answer.answer-index c.answer-item.result c.loop-answer-test.true
    ∙ ap {B = Option (Option Cert)} (λ (one : Option Cert). Some one) (sym c.answer-item.is))
    c.loop-answer.invariant c.of_answer.ensures

pub returns : goal.returns
returns c = all_taken IsTypedAnswer c.args.answers.now c.loop-answer.answer-index (omega (arith, c.loop-answer-test.false)) c.loop-answer.invariant
