use Rattle.std.proofs.Common.{◌≡◌, take}
use Rattle.logic_linear.proofs.RisingLemmas.{others_of}
use Rattle.logic_linear.proofs.substitution.others_of.Given as goal

abbrev pub invariant-loop-term : goal.invariant-loop-term
invariant-loop-term l = l.others.items ≡ others_of l.place (take l.term-index l.terms)
