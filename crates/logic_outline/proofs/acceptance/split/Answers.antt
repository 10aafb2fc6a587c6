use Rattle.std.proofs.Common.{arith, rules}
use Rattle.logic_outline.proofs.BranchLemmas.{all_put, none_put, not_as_many, put_one}
use Rattle.logic_outline.proofs.acceptance.split.Goals as goal

pub returns-then-parts-count : goal.returns-then-parts-count
returns-then-parts-count c = not_as_many c.args.at.now c.args.parts.now c.args.count c.args.branches.now.items c.args.branches.now.items c.if-parts-count.true

pub loop-left-init : goal.loop-left-init
loop-left-init c = record { puts = none_put c.args.at.now c.args.parts.now _ c.args.branches.now.items (search rules); within = search rules }

pub loop-left-preserved : goal.loop-left-preserved
loop-left-preserved c = record {
  puts = put_one c.args.at.now c.in_ok-branch_of.field-0 c.args.parts.now c.loop-left.left c.index-parts-left.result c.args.branches.now.items c.loop-left.branches.items c.push.new.self.items
      (omega arith) c.loop-left.invariant.within c.index-parts-left.is c.in_ok-push.ensures.items c.in_ok-branch_of.ensures c.loop-left.invariant.puts;
  within = omega arith;
}

pub returns : goal.returns
returns c =
    all_put c.args.at.now c.args.parts.now c.loop-left.left c.args.count c.args.branches.now.items c.loop-left.branches.items (omega (arith, c.loop-left-test.false)) (search rules) c.loop-left.invariant.puts
