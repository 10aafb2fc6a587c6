use Rattle.std.proofs.Common.{refl}
use Rattle.base_io.proofs.Writing.{wrote_same}
use Rattle.emit_comments.proofs.Numbered.{numbered_done, numbered_stopped, numbered_went}
use Rattle.emit_module.specs.Modules.{method_functions}
use Rattle.emit_statements.specs.Sources.{seen}
use Rattle.emit_module.proofs.state.write_functions_of_blocks.Goals as goal

pub loop-number-preserved : goal.loop-number-preserved
loop-number-preserved g c =
    numbered_went (method_functions (seen c.args.source.now)) c.args.methods.now c.loop-number.number c.index-methods-number.result _ c.loop-number-test.true c.index-methods-number.is refl c.loop-number.invariant c.in_ok-write_method_functions.ensures

pub returns-in_err-write_method_functions : goal.returns-in_err-write_method_functions
returns-in_err-write_method_functions g c =
    numbered_stopped (method_functions (seen c.args.source.now)) c.args.methods.now c.loop-number.number c.index-methods-number.result _ _ c.loop-number-test.true c.index-methods-number.is refl c.from_residual.ensures.0 c.loop-number.invariant c.in_err-write_method_functions.ensures

pub returns : goal.returns
returns g c =
    wrote_same _ (numbered_done (method_functions (seen c.args.source.now)) c.args.methods.now c.loop-number.number c.loop-number-test.false) c.loop-number.invariant
