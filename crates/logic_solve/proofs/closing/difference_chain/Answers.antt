use Rattle.std.proofs.Common.{◌≡◌, true, map, sym, subst, ap, ◌∙◌, List}
use Rattle.logic_cert.specs.declared.cert.Combine.{Combine}
use Rattle.logic_cert.specs.Refutes.{chain_closes, row_of}
use Rattle.logic_solve.specs.declared.paths.Edge.{Edge}
use Rattle.logic_solve.specs.inner.Differences.{chain_of}
use Rattle.logic_solve.specs.inner.Paths.{height_at, HaveHeights, IsCycle}
use Rattle.logic_solve.proofs.CycleLemmas.{cycle_closes}
use Rattle.logic_solve.proofs.EdgeLemmas.{heights_hold}
use Rattle.logic_solve.proofs.closing.difference_chain.Goals as goal

pub returns-in_default : goal.returns-in_default
returns-in_default c =
    heights_hold c.args.literals.now c.in_ok-edges.edges.items c.in_ok-edges.ensures c.requires.sane (subst HaveHeights c.deref.ensures.value (record { height = height_at c.positive_cycle.new.reached.items; fitting = (rw c.in_default.is at c.in_ok-cycle.ensures).fitting }))

pub returns : goal.returns
returns c =
    let closed = subst (λ (edges : List Edge). IsCycle edges c.in-Some.cycle.items) c.deref.ensures.value (rw c.in-Some.is at c.in_ok-cycle.ensures) in
    subst (λ (combines : List Combine). chain_closes combines (map row_of c.args.literals.now) ≡ true) (sym (c.in_ok-chain_of.ensures ∙ ap (chain_of c.first_sum.result) c.deref-2.ensures.value))
    (cycle_closes c.args.literals.now c.in_ok-edges.edges.items c.in-Some.cycle.items c.first_sum.result c.in_ok-edges.ensures closed c.first_sum.ensures)
