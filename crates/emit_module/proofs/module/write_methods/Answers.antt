use Rattle.std.proofs.Common.{refl}
use Rattle.base_io.proofs.Writing.{wrote_same}
use Rattle.emit_comments.proofs.Numbered.{numbered_done, numbered_stopped, numbered_went}
use Rattle.emit_method.specs.Methods.{methods_text}
use Rattle.emit_statements.specs.Sources.{seen}
use Rattle.emit_module.proofs.module.write_methods.Goals as goal

pub loop-number-preserved : goal.loop-number-preserved
loop-number-preserved g c =
    numbered_went (methods_text (seen c.args.source.now)) c.args.methods.now c.loop-number.number c.index-methods-number.result _ c.loop-number-test.true c.index-methods-number.is refl c.loop-number.invariant c.in_ok-write_methods_of.ensures

pub returns-in_err-write_methods_of : goal.returns-in_err-write_methods_of
returns-in_err-write_methods_of g c =
    numbered_stopped (methods_text (seen c.args.source.now)) c.args.methods.now c.loop-number.number c.index-methods-number.result _ _ c.loop-number-test.true c.index-methods-number.is refl c.from_residual.ensures.0 c.loop-number.invariant c.in_err-write_methods_of.ensures

pub returns : goal.returns
returns g c =
    wrote_same _ (numbered_done (methods_text (seen c.args.source.now)) c.args.methods.now c.loop-number.number c.loop-number-test.false) c.loop-number.invariant
