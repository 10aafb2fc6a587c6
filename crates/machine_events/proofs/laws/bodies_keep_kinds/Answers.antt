use Rattle.machine_implicit.proofs.Bodies.{HasKinds, after_keeps_kinds}
use Rattle.machine_implicit.proofs.Held.{held_from_kinds, kinds_held}
use Rattle.machine_events.proofs.laws.bodies_keep_kinds.Goals as goal

pub returns : goal.returns
returns c places inputs state block fits held locals_held =
    let kept : HasKinds places _ =
    after_keeps_kinds places inputs state block fits (record { state = kinds_held places.fields state held; locals = kinds_held places.locals inputs.locals locals_held }) in
    (held_from_kinds places.fields _ kept.state, held_from_kinds places.locals _ kept.locals)
