use Rattle.std.proofs.Common.{ℕ, ◌<◌, map}
use Rattle.lang_base.specs.Names.{IsRepeated}
use Rattle.lang_base.proofs.named.first_repeat.Given as goal

abbrev pub invariant-loop-place : goal.invariant-loop-place
invariant-loop-place g l = (k : ℕ) → k < l.place → IsRepeated (map g.T.Named.name_of l.items) k → ⊥
