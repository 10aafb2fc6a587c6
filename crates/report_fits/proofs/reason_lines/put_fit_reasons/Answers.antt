use Rattle.std.proofs.Common.{refl, arith}
use Rattle.base_pen.proofs.Putting.{adds_all_numbered, adds_numbered}
use Rattle.report_fits.specs.FitReasonTexts.{fit_reason_text}
use Rattle.report_fits.proofs.reason_lines.put_fit_reasons.Goals as goal

pub loop-index-preserved : goal.loop-index-preserved
loop-index-preserved g c =
    adds_numbered (fit_reason_text c.args.tree.now c.args.monitor.now) 0 c.args.found.now c.loop-index.index c.loop-index.index c.index-found-index.result _ (omega arith) c.loop-index-test.true
    c.index-found-index.is refl c.loop-index.invariant c.put_fit_reason.ensures

pub returns : goal.returns
returns g c = adds_all_numbered (fit_reason_text c.args.tree.now c.args.monitor.now) 0 c.args.found.now c.loop-index.index c.loop-index-test.false c.loop-index.invariant
