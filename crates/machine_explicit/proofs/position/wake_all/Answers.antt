use Rattle.std.proofs.Common.{get_or, ap, ◌∙◌}
use Rattle.std.proofs.lemmas.List.{get_or_default}
use Rattle.machine_explicit.specs.declared.position.Position.{Position}
use Rattle.machine_explicit.specs.inner.Positions.{waking_stage, waking_position}
use Rattle.machine_explicit.proofs.MakingNotes.{walk_step, walk_length}
use Rattle.machine_explicit.proofs.position.wake_all.Goals as goal

pub loop-i-preserved : goal.loop-i-preserved
loop-i-preserved c =
    let f = waking_position c.args.condition in
    let place = c.index-positions-i-in-loop-i.result in
    let kept = c.index-positions-i.result in
    let same = get_or_default c.loop-i.positions c.loop-i.i kept place (walk_length f c.args.positions.now c.loop-i.positions c.loop-i.i c.loop-i.invariant c.loop-i-test.true) in
    walk_step f c.args.positions.now c.loop-i.positions c.loop-i.i _ place c.loop-i.invariant c.loop-i-test.true
    (λ j. record { place = (get_or c.loop-i.positions c.loop-i.i place).place; stage = (c.woken.ensures ∙ ap (λ (one : Position). waking_stage c.args.condition one.stage) same) j })
