use Rattle.machine_implicit.proofs.ScriptTests.{of_kinds_from_pairs, pairs_from_of_kinds}
use Rattle.machine_implicit.proofs.offered.are_of_kinds.Goals as goal

pub returns-then-kinds-values : goal.returns-then-kinds-values
returns-then-kinds-values c = (
  λ right. of_kinds_from_pairs c.args.kinds.now c.args.values.now c.if-kinds-values.true (c.are_pairs_of_kinds.ensures.0 right),
  λ held. c.are_pairs_of_kinds.ensures.1 (pairs_from_of_kinds c.args.kinds.now c.args.values.now held),
)
