use Rattle.std.proofs.Common.{refl, arith}
use Rattle.base_pen.proofs.Putting.{adds_all_numbered, adds_numbered}
use Rattle.report_fits.specs.FitVerdicts.{named_text}
use Rattle.report_fits.proofs.writing.put_names.Goals as goal

pub loop-index-preserved : goal.loop-index-preserved
loop-index-preserved g c =
    adds_numbered (named_text c.args.monitor.now) 0 c.args.fits.now c.loop-index.index c.loop-index.index c.index-fits-index.result _ (omega arith) c.loop-index-test.true c.index-fits-index.is
    refl c.loop-index.invariant c.put_name.ensures

pub returns : goal.returns
returns g c = adds_all_numbered (named_text c.args.monitor.now) 0 c.args.fits.now c.loop-index.index c.loop-index-test.false c.loop-index.invariant
