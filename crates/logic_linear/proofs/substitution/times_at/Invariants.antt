use Rattle.std.proofs.Common.{◌≡◌, drop}
use Rattle.logic_linear.specs.Substitution.{times_at}
use Rattle.logic_linear.proofs.substitution.times_at.Given as goal

abbrev pub invariant-loop-term : goal.invariant-loop-term
invariant-loop-term l = times_at l.place (drop l.term-index l.form.terms) ≡ times_at l.place l.form.terms
