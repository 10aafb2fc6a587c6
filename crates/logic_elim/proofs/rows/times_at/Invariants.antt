use Rattle.std.proofs.Common.{◌≡◌, drop}
use Rattle.logic_linear.specs.Substitution.{times_at}
use Rattle.logic_elim.proofs.rows.times_at.Given as goal

abbrev pub invariant-loop-term : goal.invariant-loop-term
invariant-loop-term l = times_at l.place (drop l.term-index l.term-items) ≡ times_at l.place l.term-items
