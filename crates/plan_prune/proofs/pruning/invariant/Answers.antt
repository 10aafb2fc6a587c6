use Rattle.lang_monitor.specs.Candidates.{candidates_of}
use Rattle.logic_wp.specs.Expressible.{is_expressible}
use Rattle.plan_prune.proofs.Pruned.{greatest_left, invariant_left, left_first}
use Rattle.plan_candidates.proofs.SomeOf.{some_pass}
use Rattle.plan_prune.proofs.pruning.invariant.Goals as goal

pub pruned-requires-clause-first : goal.pruned-requires-clause-first
pruned-requires-clause-first c = left_first c.args.monitor.now _ c.in_ok-first.ensures

pub returns-clause-invariant : goal.returns-clause-invariant
returns-clause-invariant c =
    let round = c.in_ok-round.ensures in
    rw c.of.ensures (invariant_left c.args.monitor.now c.in_ok-round.round.kept.items c.in_ok-round.round.proofs.items round.left round.last)

pub returns-clause-expressible : goal.returns-clause-expressible
returns-clause-expressible c =
    rw c.of.ensures
    (some_pass is_expressible c.in_ok-round.round.kept.items (candidates_of c.args.monitor.now) c.in_ok-round.ensures.left.candidates
    (c.candidates_are_expressible.ensures c.args.monitor.now c.fields.ensures.rule (rw c.fields.ensures.fields at c.read_starts.ensures)))

pub returns-clause-easy : goal.returns-clause-easy
returns-clause-easy c = rw c.of.ensures c.in_ok-round.ensures.left.easy

pub returns-clause-greatest : goal.returns-clause-greatest
returns-clause-greatest c = λ none.
    let round = c.in_ok-round.ensures in
    rw c.of.ensures
    (greatest_left c.args.monitor.now c.in_ok-round.round.kept.items
    (invariant_left c.args.monitor.now c.in_ok-round.round.kept.items c.in_ok-round.round.proofs.items round.left round.last) round.left.easy none)
