use Rattle.std.proofs.Common.{ℕ, Option, refl, arith}
use Rattle.std.specs.List.{flat_map}
use Rattle.logic_cert.specs.declared.cert.Cert.{Cert}
use Rattle.base_pen.proofs.Putting.{adds_all_numbered, adds_numbered, adds_same}
use Rattle.report_fits.specs.FitTexts.{fit_if, fit_text}
use Rattle.report_fits.proofs.FitLines.{answered_lines}
use Rattle.report_fits.proofs.writing.put_fits.Goals as goal

pub loop-index-preserved : goal.loop-index-preserved
loop-index-preserved g c =
    adds_numbered (λ (block : ℕ) (answer : Option Cert). flat_map (fit_text c.args.monitor.now) (fit_if block answer)) 0 c.args.answers.now c.loop-index.index c.loop-index.index c.index-answers-index.result _
    (omega arith) c.loop-index-test.true c.index-answers-index.is refl c.loop-index.invariant c.put_answer.ensures

pub returns : goal.returns
returns g c =
    adds_same _ (answered_lines c.args.monitor.now 0 c.args.answers.now)
    (adds_all_numbered (λ (block : ℕ) (answer : Option Cert). flat_map (fit_text c.args.monitor.now) (fit_if block answer)) 0 c.args.answers.now c.loop-index.index c.loop-index-test.false c.loop-index.invariant)
