use Rattle.std.proofs.Common.{◌≡◌, All, take}
use Rattle.lang_types.proofs.making.conditions.condition_with.Given as goal

abbrev pub invariant-loop-index : goal.invariant-loop-index
invariant-loop-index l = All (λ condition. condition.guard ≡ l.guard → ⊥) (take l.index l.conditions)
