use Rattle.std.proofs.Common.{◌≡◌, ◌∷◌, ◌++◌, pos, take}
use Rattle.std.specs.List.{flat_map}
use Rattle.lang_monitor.specs.Candidates.{guard_bounds, own_numbers}
use Rattle.plan_candidates.proofs.bounds.numbers_of.Given as goal

abbrev pub invariant-loop-block : goal.invariant-loop-block
invariant-loop-block l = l.numbers.items ≡ pos 0 ∷ own_numbers l.field.start l.field.origin ++ flat_map (guard_bounds l.number) (take l.block-index l.blocks)
