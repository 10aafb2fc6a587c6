use Rattle.std.proofs.Common.{refl}
use Rattle.base_io.proofs.Writing.{wrote_same}
use Rattle.emit_comments.proofs.Numbered.{numbered_done, numbered_stopped, numbered_went}
use Rattle.emit_statements.specs.Conditions.{handed_local}
use Rattle.emit_statements.proofs.conditions.write_handed_locals.Goals as goal

pub loop-before-preserved : goal.loop-before-preserved
loop-before-preserved g c =
    numbered_went (handed_local c.args.method.now c.args.reach) c.args.locals.now c.loop-before.before c.index-locals-before.result _ c.loop-before-test.true c.index-locals-before.is refl c.loop-before.invariant c.in_ok-write_handed_local.ensures

pub returns-in_err-write_handed_local : goal.returns-in_err-write_handed_local
returns-in_err-write_handed_local g c =
    numbered_stopped (handed_local c.args.method.now c.args.reach) c.args.locals.now c.loop-before.before c.index-locals-before.result _ _ c.loop-before-test.true c.index-locals-before.is refl c.from_residual.ensures.0 c.loop-before.invariant c.in_err-write_handed_local.ensures

pub returns : goal.returns
returns g c =
    wrote_same _ (numbered_done (handed_local c.args.method.now c.args.reach) c.args.locals.now c.loop-before.before c.loop-before-test.false) c.loop-before.invariant
