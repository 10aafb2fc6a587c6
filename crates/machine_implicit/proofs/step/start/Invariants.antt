use Rattle.std.proofs.Common.{◌≡◌, map, take}
use Rattle.machine_implicit.proofs.step.start.Given as goal

abbrev pub invariant-loop-field : goal.invariant-loop-field
invariant-loop-field l = l.state ≡ map (λ field. field.start) (take l.field-index l.field-items)
