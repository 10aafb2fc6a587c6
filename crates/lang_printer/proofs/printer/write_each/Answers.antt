use Rattle.std.proofs.Common.{◌++◌, codes, refl}
use Rattle.lang_printer.specs.Canonical.{guarded_text}
use Rattle.lang_printer.specs.Depths.{levels}
use Rattle.base_io.proofs.Rows.{row_went, row_stopped}
use Rattle.lang_printer.proofs.printer.write_each.Goals as goal

pub loop-block-preserved : goal.loop-block-preserved
loop-block-preserved g c =
    row_went (λ block. codes "    " ++ guarded_text c.args.opening.now (levels c.args.depth.now) block) c.args.blocks.now c.loop-block.block-index c.block-item.result _ c.loop-block-test.true c.block-item.is refl c.loop-block.invariant c.in_ok-write_guarded.ensures

pub returns-in_err-write_guarded : goal.returns-in_err-write_guarded
returns-in_err-write_guarded g c =
    row_stopped (λ block. codes "    " ++ guarded_text c.args.opening.now (levels c.args.depth.now) block) c.args.blocks.now c.loop-block.block-index c.block-item.result _ _ c.loop-block-test.true c.block-item.is refl c.from_residual.ensures.0 c.loop-block.invariant c.in_err-write_guarded.ensures
