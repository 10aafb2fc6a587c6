use Rattle.std.proofs.Common.{refl}
use Rattle.base_io.proofs.Writing.{wrote_same}
use Rattle.emit_comments.proofs.Numbered.{numbered_done, numbered_stopped, numbered_went}
use Rattle.emit_module.specs.inner.Lines.{condition_line_at}
use Rattle.emit_statements.specs.Sources.{seen}
use Rattle.emit_module.proofs.fields.write_conditions.Goals as goal

pub loop-place-preserved : goal.loop-place-preserved
loop-place-preserved g c =
    numbered_went (condition_line_at c.args.line (seen c.args.source.now)) c.args.conditions.now c.loop-place.place c.index-conditions-place.result _ c.loop-place-test.true c.index-conditions-place.is refl c.loop-place.invariant c.in_ok-write_condition_line.ensures

pub returns-in_err-write_condition_line : goal.returns-in_err-write_condition_line
returns-in_err-write_condition_line g c =
    numbered_stopped (condition_line_at c.args.line (seen c.args.source.now)) c.args.conditions.now c.loop-place.place c.index-conditions-place.result _ _ c.loop-place-test.true c.index-conditions-place.is refl c.from_residual.ensures.0 c.loop-place.invariant c.in_err-write_condition_line.ensures

pub returns : goal.returns
returns g c =
    wrote_same _ (numbered_done (condition_line_at c.args.line (seen c.args.source.now)) c.args.conditions.now c.loop-place.place c.loop-place-test.false) c.loop-place.invariant
