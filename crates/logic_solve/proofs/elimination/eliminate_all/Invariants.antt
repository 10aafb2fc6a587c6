use Rattle.std.proofs.Common.{[]}
use Rattle.logic_elim.specs.declared.elimination.Progress.TheVariants.{Left}
use Rattle.logic_elim.specs.Chains.{KeepsSound, state_of}
use Rattle.logic_solve.proofs.elimination.eliminate_all.Given as goal

abbrev pub invariant-loop-place : goal.invariant-loop-place
invariant-loop-place l = KeepsSound [] (state_of l.initial.left) (state_of l.left) Left
