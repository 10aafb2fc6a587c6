use Rattle.std.proofs.Common.{◌≡◌, true, All, take}
use Rattle.lang_monitor.specs.Bodies.{fits_64}
use Rattle.plan_candidates.proofs.starts.read_starts.Given as goal

abbrev pub invariant-loop-field : goal.invariant-loop-field
invariant-loop-field l = All (λ field. fits_64 field.start ≡ true) (take l.field-index l.fields)
