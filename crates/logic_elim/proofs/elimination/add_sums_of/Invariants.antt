use Rattle.std.proofs.Common.{◌∷◌, take}
use Rattle.logic_elim.specs.declared.elimination.Progress.TheVariants.{Left}
use Rattle.logic_elim.specs.Chains.{KeepsSound, state_of}
use Rattle.logic_elim.specs.Steps.{HasSums, sums_with}
use Rattle.logic_elim.proofs.elimination.add_sums_of.Given as goal

abbrev pub invariant-loop-lower : goal.invariant-loop-lower
invariant-loop-lower l = record {
  sound : KeepsSound (l.upper ∷ l.lowers) (state_of l.initial.left) (state_of l.left) Left;
  adds : HasSums (sums_with l.place l.upper (take l.lower-index l.lowers)) (state_of l.initial.left) (state_of l.left);
}
