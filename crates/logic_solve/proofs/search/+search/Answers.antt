use Rattle.std.proofs.Common.{arith, rules, List, refl, sym, subst, ◌∙◌}
use Rattle.logic_cert.specs.declared.cert.Cert.{Cert}
use Rattle.logic_cert.specs.declared.cert.Literal.{Literal}
use Rattle.logic_solve.specs.inner.Different.{IsGrown}
use Rattle.logic_solve.specs.inner.Searches.{in_order}
use Rattle.logic_solve.proofs.GrownLemmas.{cut_back, grown_same}
use Rattle.logic_solve.proofs.MarkLemmas.{facts_of_more, marked_again, marked_first, more_of_more, more_of_same, slice_facts}
use Rattle.logic_solve.proofs.SearchLemmas.{PartsRefuted, no_parts, at_first, goes_on, goes_less, any_found, any_grown, any_room, nothing_left, last_grown, last_room, any_closed, one_more_part, all_parts, part_holds, part_room}
use Rattle.logic_solve.proofs.search.+search.Goals as goal

pub search-search_any-requires : goal.search-search_any-requires
search-search_any-requires t c =
    let taken = rw c.in-Some.is at c.in_ok-parts.ensures in
    let room = any_room _ c.loop-todo.formula.now c.in-Some.parts.now c.loop-todo.todo.items c.take.new.todo.items c.as_slice.result.now c.args.literals.now.items c.loop-todo.literals.items c.take.new.literals.items c.as_slice.ensures.value taken c.loop-todo.invariant.back c.requires.size in
    let grown = subst (IsGrown c.args.literals.now.items) (sym taken.literals_same) c.loop-todo.invariant.back.grown in
    (omega (arith, room.1, c.decreases), (room.0, facts_of_more c.args.literals.now.items c.take.new.literals.items c.args.facts.now c.loop-todo.facts c.loop-todo.invariant.same grown c.requires.facts))

pub search-returns-in-Some-clause-found : goal.search-returns-in-Some-clause-found
search-returns-in-Some-clause-found t c =
    any_found _ c.loop-todo.formula.now c.in-Some.parts.now c.loop-todo.todo.items c.take.new.todo.items c.as_slice.result.now c.args.literals.now.items c.loop-todo.literals.items c.take.new.literals.items c.search_any.new.literals.items c.in_ok-search_any.field-0
    c.as_slice.ensures.value (rw c.in-Some.is at c.in_ok-parts.ensures) c.loop-todo.invariant.back c.in_ok-search_any.ensures.found

pub search-returns-in-Some-clause-grown : goal.search-returns-in-Some-clause-grown
search-returns-in-Some-clause-grown t c =
    let taken = rw c.in-Some.is at c.in_ok-parts.ensures in
    any_grown _ _ c.args.literals.now.items c.loop-todo.literals.items c.take.new.literals.items c.search_any.new.literals.items taken.literals_same c.loop-todo.invariant.back c.in_ok-search_any.ensures.grown

pub search-returns-in-Some-clause-more : goal.search-returns-in-Some-clause-more
search-returns-in-Some-clause-more t c = more_of_same c.args.facts.now c.loop-todo.facts c.search_any.new.facts c.loop-todo.invariant.same c.in_ok-search_any.ensures.more

pub search-closing-requires-clause-size : goal.search-closing-requires-clause-size
search-closing-requires-clause-size t c =
    last_room _ c.loop-todo.formula.now c.loop-todo.todo.items c.take.new.todo.items c.args.literals.now.items c.loop-todo.literals.items c.take.new.literals.items c.as_slice-in-None.result.now c.as_slice-in-None.ensures.value
    (rw c.in_default.is at c.in_ok-parts.ensures) c.loop-todo.invariant.back c.requires.size

pub search-closing-requires-clause-facts : goal.search-closing-requires-clause-facts
search-closing-requires-clause-facts t c =
    let grown = last_grown _ c.loop-todo.formula.now c.loop-todo.todo.items c.take.new.todo.items c.args.literals.now.items c.loop-todo.literals.items c.take.new.literals.items (rw c.in_default.is at c.in_ok-parts.ensures) c.loop-todo.invariant.back in
    slice_facts c.take.new.literals.items c.as_slice-in-None.result.now c.loop-todo.facts c.as_slice-in-None.ensures.value
    (facts_of_more c.args.literals.now.items c.take.new.literals.items c.args.facts.now c.loop-todo.facts c.loop-todo.invariant.same grown c.requires.facts)

pub search-returns-in-None-clause-found : goal.search-returns-in-None-clause-found
search-returns-in-None-clause-found t c =
    let ended = rw c.in-None.is at c.in_ok-next.ensures in
    nothing_left _ c.loop-todo.formula.now c.loop-todo.todo.items c.take.new.todo.items c.args.literals.now.items c.loop-todo.literals.items c.take.new.literals.items c.as_slice-in-None.result.now c.in_ok-closing-in-None.field-0
    (rw c.in_default.is at c.in_ok-parts.ensures) ended.0 c.loop-todo.invariant.back c.as_slice-in-None.ensures.value c.in_ok-closing-in-None.ensures.closing

pub search-returns-in-None-clause-grown : goal.search-returns-in-None-clause-grown
search-returns-in-None-clause-grown t c =
    last_grown _ c.loop-todo.formula.now c.loop-todo.todo.items c.take.new.todo.items c.args.literals.now.items c.loop-todo.literals.items c.take.new.literals.items (rw c.in_default.is at c.in_ok-parts.ensures) c.loop-todo.invariant.back

pub search-returns-in-None-clause-more : goal.search-returns-in-None-clause-more
search-returns-in-None-clause-more t c = more_of_same c.args.facts.now c.loop-todo.facts c.closing.new.facts c.loop-todo.invariant.same c.in_ok-closing-in-None.ensures.more

pub search-loop-todo-smaller : goal.search-loop-todo-smaller
search-loop-todo-smaller t c =
    goes_less _ c.loop-todo.formula.now c.loop-todo.todo.items c.take.new.todo.items c.loop-todo.literals.items c.take.new.literals.items (rw c.in_default.is at c.in_ok-parts.ensures) (rw c.in-Some-2.is at c.in_ok-next.ensures)

pub search-loop-todo-preserved : goal.search-loop-todo-preserved
search-loop-todo-preserved t c = record {
  back = goes_on _ _ c.loop-todo.formula.now c.loop-todo.todo.items c.take.new.todo.items c.args.literals.now.items c.loop-todo.literals.items c.take.new.literals.items (rw c.in_default.is at c.in_ok-parts.ensures) (rw c.in-Some-2.is at c.in_ok-next.ensures) c.loop-todo.invariant.back;
  same = c.loop-todo.invariant.same;
}

pub search_any-closing-requires-clause-facts : goal.search_any-closing-requires-clause-facts
search_any-closing-requires-clause-facts t c = slice_facts c.args.literals.now.items c.as_slice.result.now c.args.facts.now c.as_slice.ensures.value c.requires.facts

pub search_any-returns-in-Some-clause-found : goal.search_any-returns-in-Some-clause-found
search_any-returns-in-Some-clause-found t c = any_closed c.args.parts.now _ c.args.literals.now.items c.args.literals.now.items c.as_slice.result.now c.in-Some.cert c.as_slice.ensures.value (rw c.in-Some.is at c.in_ok-cert.ensures.closing)

pub search_any-search-requires : goal.search_any-search-requires
search_any-search-requires t c =
    let room = part_room c.args.parts.now _ c.args.literals.now.items c.loop-i.literals.items c.index-parts-i.result c.loop-i.i c.loop-i-test.true c.index-parts-i.is c.loop-i.invariant.same c.requires.size in
    (omega (arith, room.1, c.decreases), (room.0, slice_facts c.args.literals.now.items c.loop-i.literals.items c.loop-i.facts c.loop-i.invariant.same c.loop-i.invariant.marked.of))

pub search_any-returns-in_default-found-clause-found : goal.search_any-returns-in_default-found-clause-found
search_any-returns-in_default-found-clause-found t c =
    part_holds c.args.parts.now _ c.args.literals.now.items c.loop-i.literals.items c.search.new.literals.items c.index-parts-i.result c.loop-i.i c.loop-i-test.true c.index-parts-i.is c.loop-i.invariant.same (rw c.in_default-found.is at c.in_ok-found.ensures.found)

pub search_any-returns-in_default-found-clause-grown : goal.search_any-returns-in_default-found-clause-grown
search_any-returns-in_default-found-clause-grown t c = subst (λ (some : List Literal). IsGrown some c.search.new.literals.items) c.loop-i.invariant.same c.in_ok-found.ensures.grown

pub search_any-returns-in_default-found-clause-more : goal.search_any-returns-in_default-found-clause-more
search_any-returns-in_default-found-clause-more t c = more_of_more c.args.facts.now c.loop-i.facts c.search.new.facts c.loop-i.invariant.marked.more c.in_ok-found.ensures.more

pub search_any-loop-i-init : goal.search_any-loop-i-init
search_any-loop-i-init t c = record {
  refuted = subst (λ (some : List Cert). PartsRefuted c.args.parts.now (in_order c.args.rest.now) c.args.literals.now.items some 0) (sym c.new-certs.ensures.items) (no_parts c.args.parts.now (in_order c.args.rest.now) c.args.literals.now.items);
  same = refl;
  marked = marked_first c.args.literals.now.items c.as_slice.result.now c.mark-noted.result c.args.facts.now c.closing.new.facts c.as_slice.ensures.value c.in_ok-cert.ensures.facts c.mark-noted.ensures c.in_ok-cert.ensures.more;
}

pub search_any-loop-i-preserved : goal.search_any-loop-i-preserved
search_any-loop-i-preserved t c = record {
  refuted = one_more_part c.args.parts.now _ c.args.literals.now.items c.loop-i.literals.items c.search.new.literals.items c.index-parts-i.result c.loop-i.certs.items c.push.new.self.items c.in-Some-found.cert c.loop-i.i
      c.loop-i-test.true c.index-parts-i.is c.loop-i.invariant.same (rw c.in-Some-found.is at c.in_ok-found.ensures.found) c.in_ok-push.ensures.items c.loop-i.invariant.refuted;
  same = c.truncate.ensures.items ∙ cut_back c.args.literals.now.items c.search.new.literals.items c.len-gathered.result (search rules) (subst (λ (some : List Literal). IsGrown some c.search.new.literals.items) c.loop-i.invariant.same c.in_ok-found.ensures.grown);
  marked = marked_again c.args.literals.now.items c.mark-noted.result c.args.facts.now c.loop-i.facts c.search.new.facts c.cut_back.new.self c.loop-i.invariant.marked c.in_ok-found.ensures.more c.cut_back.ensures;
}

pub search_any-returns-clause-found : goal.search_any-returns-clause-found
search_any-returns-clause-found t c = all_parts c.args.parts.now _ c.args.literals.now.items c.loop-i.literals.items c.loop-i.certs.items c.of.result c.loop-i.i (omega arith) (omega arith) c.of.ensures c.loop-i.invariant.refuted

pub search_any-returns-clause-grown : goal.search_any-returns-clause-grown
search_any-returns-clause-grown t c = grown_same c.args.literals.now.items c.loop-i.literals.items c.loop-i.invariant.same

pub search_any-returns-clause-more : goal.search_any-returns-clause-more
search_any-returns-clause-more t c = c.loop-i.invariant.marked.more

pub search-loop-todo-init : goal.search-loop-todo-init
search-loop-todo-init t c = record {
  back = at_first c.args.formula.now c.in_ok-todo.todo.items c.args.rest.now c.args.literals.now.items c.in_ok-todo.ensures.items;
  same = refl;
}
