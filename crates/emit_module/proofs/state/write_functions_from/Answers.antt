use Rattle.std.proofs.Common.{refl}
use Rattle.base_io.proofs.Writing.{wrote_same}
use Rattle.emit_comments.proofs.Numbered.{numbered_done, numbered_stopped, numbered_went}
use Rattle.emit_module.specs.Modules.{block_functions}
use Rattle.emit_statements.specs.Sources.{seen}
use Rattle.emit_module.proofs.state.write_functions_from.Goals as goal

pub loop-place-preserved : goal.loop-place-preserved
loop-place-preserved g c =
    numbered_went (block_functions (seen c.args.source.now) c.args.method.now c.args.first) c.args.blocks.now c.loop-place.place c.index-blocks-place.result _ c.loop-place-test.true c.index-blocks-place.is refl c.loop-place.invariant c.in_ok-write_block_functions.ensures

pub returns-in_err-write_block_functions : goal.returns-in_err-write_block_functions
returns-in_err-write_block_functions g c =
    numbered_stopped (block_functions (seen c.args.source.now) c.args.method.now c.args.first) c.args.blocks.now c.loop-place.place c.index-blocks-place.result _ _ c.loop-place-test.true c.index-blocks-place.is refl c.from_residual.ensures.0 c.loop-place.invariant c.in_err-write_block_functions.ensures

pub returns : goal.returns
returns g c =
    wrote_same _ (numbered_done (block_functions (seen c.args.source.now) c.args.method.now c.args.first) c.args.blocks.now c.loop-place.place c.loop-place-test.false) c.loop-place.invariant
