use Rattle.std.proofs.Common.{◌+◌, ◌*◌, ◌≡◌, ◌∷◌}
use Rattle.logic_solve.specs.inner.Searches.{in_order, weight}
use Rattle.logic_solve.proofs.MarkLemmas.{AreMarked}
use Rattle.logic_solve.proofs.SearchLemmas.{GoesBack, PartsRefuted}
use Rattle.logic_solve.proofs.search.+search.Given as goal

abbrev pub decreases-search : goal.decreases-search
decreases-search l = 2 * weight (l.formula.now ∷ in_order l.rest.now)

abbrev pub decreases-search_any : goal.decreases-search_any
decreases-search_any l = 1 + 2 * (weight l.parts.now + weight (in_order l.rest.now))

abbrev pub invariant-search-loop-todo : goal.invariant-search-loop-todo
invariant-search-loop-todo l = record {
  back : GoesBack (l.fn.formula ∷ in_order l.fn.rest) (l.formula ∷ in_order l.todo.items) l.fn.literals.items l.literals.items;
  same : l.facts ≡ l.fn.facts;
}

abbrev pub decreases-search-loop-todo : goal.decreases-search-loop-todo
decreases-search-loop-todo l = weight (l.formula ∷ in_order l.todo.items)

abbrev pub invariant-search_any-loop-i : goal.invariant-search_any-loop-i
invariant-search_any-loop-i l = record {
  refuted : PartsRefuted l.parts (in_order l.rest) l.fn.literals.items l.certs.items l.i;
  same : l.literals.items ≡ l.fn.literals.items;
  marked : AreMarked l.fn.literals.items l.noted l.fn.facts l.facts;
}
