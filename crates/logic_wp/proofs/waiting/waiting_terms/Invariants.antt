use Rattle.std.proofs.Common.{◌≡◌, take, map}
use Rattle.lang_monitor.specs.Queries.{waiting_term}
use Rattle.logic_wp.proofs.waiting.waiting_terms.Given as goal

abbrev pub invariant-loop-term : goal.invariant-loop-term
invariant-loop-term l = l.moved.items ≡ map waiting_term (take l.term-index l.terms)
