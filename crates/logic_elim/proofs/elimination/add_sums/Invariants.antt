use Rattle.std.proofs.Common.{◌++◌, take}
use Rattle.logic_elim.specs.declared.elimination.Progress.TheVariants.{Left}
use Rattle.logic_elim.specs.Chains.{KeepsSound, state_of}
use Rattle.logic_elim.specs.Steps.{HasSums, sums_between}
use Rattle.logic_elim.proofs.elimination.add_sums.Given as goal

abbrev pub invariant-loop-upper : goal.invariant-loop-upper
invariant-loop-upper l = record {
  sound : KeepsSound (l.uppers ++ l.lowers) (state_of l.initial.left) (state_of l.left) Left;
  adds : HasSums (sums_between l.place (take l.upper-index l.uppers) l.lowers) (state_of l.initial.left) (state_of l.left);
}
