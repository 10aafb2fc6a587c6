use Rattle.std.proofs.Common.{List, arith, sym, subst, ap, length, ℕ}
use Rattle.report_fits.specs.declared.fit.Fit.{Fit}
use Rattle.report_fits.proofs.FitLines.{IsWalking, walked, walking_more, walking_start}
use Rattle.report_fits.proofs.reading.read_fits.Goals as goal

pub loop-block-init : goal.loop-block-init
loop-block-init c =
    subst (λ (fits : List Fit). IsWalking c.args.monitor.now c.args.bytes.now 0 fits c.args.bytes.now) (sym c.new-fits.ensures.items) (walking_start c.args.monitor.now c.args.bytes.now)

pub loop-block-preserved : goal.loop-block-preserved
loop-block-preserved c =
    walking_more c.args.monitor.now c.args.bytes.now c.loop-block.block c.loop-block.fits.items c.take_fit.new.fits.items c.loop-block.rest.now c.in_ok-rest.rest.now
    c.blocks-blocks.ensures.rule (omega (arith, c.loop-block-test.true, ap {B = ℕ} length c.blocks-blocks.ensures.blocks)) c.in_ok-rest.ensures c.loop-block.invariant

pub returns : goal.returns
returns c =
    walked c.args.monitor.now c.args.bytes.now c.loop-block.block c.loop-block.fits.items c.loop-block.rest.now (λ fits. fits.items) c.all_read.result
    (omega (arith, c.loop-block-test.false, ap {B = ℕ} length c.blocks-blocks.ensures.blocks)) c.loop-block.invariant c.all_read.ensures
