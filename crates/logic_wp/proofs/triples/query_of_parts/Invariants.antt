use Rattle.std.proofs.Common.{◌≡◌, take}
use Rattle.logic_wp.proofs.triples.query_of_parts.Given as goal

abbrev pub invariant-loop-hyp : goal.invariant-loop-hyp
invariant-loop-hyp l = l.all.items ≡ take l.hyp-index l.hyps
