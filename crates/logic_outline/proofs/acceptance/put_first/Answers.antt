use Rattle.std.proofs.Common.{arith}
use Rattle.logic_cert.specs.inner.Branches.{stack_of, weight_of}
use Rattle.logic_cert.proofs.BranchLemmas.{put_one, put_weighs}
use Rattle.logic_outline.proofs.acceptance.put_first.Goals as goal

pub loop-left-preserved : goal.loop-left-preserved
loop-left-preserved c = record {
  order = put_one c.args.parts.now c.loop-left.left c.loop-left.todo.items c.push.new.self.items _ (stack_of c.args.todo.now.items) (omega arith) c.loop-left.invariant.within c.index-parts-left.is c.in_ok-push.ensures.items c.loop-left.invariant.order;
  weighs = put_weighs c.args.parts.now c.loop-left.left c.loop-left.todo.items c.push.new.self.items _ (weight_of c.args.todo.now.items) (omega arith) c.loop-left.invariant.within c.index-parts-left.is c.in_ok-push.ensures.items c.loop-left.invariant.weighs;
  within = omega arith;
}
