use Rattle.std.proofs.Common.{[], ◌∷◌}
use Rattle.logic_solve.proofs.SolutionLemmas.{are_edges, chain_nowhere, cycle_nowhere, edges_so, general_unsolved, high_so, near_all, true_so}
use Rattle.logic_solve.proofs.solving.solved.Goals as goal

pub returns-then-has_general_row : goal.returns-then-has_general_row
returns-then-has_general_row c = general_unsolved c.args.literals.now c.has_general_row.result c.has_general_row.ensures c.if-has_general_row.true

pub returns-in-Some : goal.returns-in-Some
returns-in-Some c = λ small. chain_nowhere c.args.literals.now (c.in-Some._sum ∷ []) (rw c.in-Some.is at c.absurd_sum.ensures)

pub positive_cycle-requires-clause-edges : goal.positive_cycle-requires-clause-edges
positive_cycle-requires-clause-edges c = are_edges c.args.literals.now c.deref.result.now c.requires.size (edges_so c.args.literals.now c.in_ok-edges.edges.items c.deref.result.now c.deref.ensures.value c.in_ok-edges.ensures)

pub returns-in-Some-2 : goal.returns-in-Some-2
returns-in-Some-2 c = λ small. cycle_nowhere c.args.literals.now c.deref.result.now _ (edges_so c.args.literals.now c.in_ok-edges.edges.items c.deref.result.now c.deref.ensures.value c.in_ok-edges.ensures) (rw c.in-Some-2.is at c.in_ok-_cycle.ensures)

pub standing-requires : goal.standing-requires
standing-requires c =
    let so = edges_so c.args.literals.now c.in_ok-edges.edges.items c.deref.result.now c.deref.ensures.value c.in_ok-edges.ensures in
    near_all c.deref.result.now c.positive_cycle.new.reached.items c.deref-2.result.now c.deref-2.ensures.value (are_edges c.args.literals.now c.deref.result.now c.requires.size so) (rw c.in_default-2.is at c.in_ok-_cycle.ensures).paths

pub returns : goal.returns
returns c =
    let so = edges_so c.args.literals.now c.in_ok-edges.edges.items c.deref.result.now c.deref.ensures.value c.in_ok-edges.ensures in
    let high = high_so c.deref.result.now c.positive_cycle.new.reached.items c.deref-2.result.now c.deref-2.ensures.value (rw c.in_default-2.is at c.in_ok-_cycle.ensures) in
    true_so c.args.literals.now c.deref.result.now c.deref-2.result.now c.in_ok-standing.field-0 so (rw c.in_default.is at c.absurd_sum.ensures) high.fitting c.requires.clear c.in_ok-standing.ensures
