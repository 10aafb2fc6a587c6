use Rattle.std.proofs.Common.{◌+◌, arith}
use Rattle.logic_elim.proofs.LeanLemmas.{all_sums, no_sums, none_left, one_sum}
use Rattle.logic_elim.proofs.lean.lean_chain.Goals as goal

pub loop-combine-init : goal.loop-combine-init
loop-combine-init c = no_sums c.args.first c.args.combines.items c.new-kept.result.items c.new-kept.ensures.items

pub loop-combine-preserved : goal.loop-combine-preserved
loop-combine-preserved c =
    one_sum c.args.first (c.from.result + c.len.result) c.in-Some.combine c.args.combines.items c.loop-combine.left.items c.pop.new.self.items c.loop-combine.kept.items c.put_before.new.later.items
    c.in-Some.ensures.items (let from = c.from.ensures in let len = c.len.ensures in omega arith) c.in_ok-put_before.ensures c.loop-combine.invariant

pub returns-clause-closes : goal.returns-clause-closes
returns-clause-closes c =
    (all_sums c.args.first c.args.combines.items c.loop-combine.left.items c.loop-combine.kept.items
    (none_left c.loop-combine.left.items c.pop.new.self.items _ c.in_default.ensures.cases.0 c.in_default.ensures.items c.in_default.ensures.rest) c.loop-combine.invariant).closes

pub returns-clause-lean : goal.returns-clause-lean
returns-clause-lean c =
    (all_sums c.args.first c.args.combines.items c.loop-combine.left.items c.loop-combine.kept.items
    (none_left c.loop-combine.left.items c.pop.new.self.items _ c.in_default.ensures.cases.0 c.in_default.ensures.items c.in_default.ensures.rest) c.loop-combine.invariant).lean
