use Rattle.std.proofs.Common.{arith}
use Rattle.logic_cert.specs.inner.Branches.{branch_refutes, branches_size}
use Rattle.logic_cert.proofs.BranchLemmas.{answer_at, not_as_many, split_more, split_sizes}
use Rattle.logic_cert.proofs.acceptance.split.Goals as goal

pub returns-then-parts-certs-clause-answer : goal.returns-then-parts-certs-clause-answer
returns-then-parts-certs-clause-answer c = not_as_many c.args.at.now c.args.parts.now c.args.certs.now c.if-parts-certs.true

pub loop-i-preserved : goal.loop-i-preserved
loop-i-preserved c = record {
  same = split_more c.args.at.now c.args.parts.now c.args.certs.now c.index-parts-i.result c.index-certs-i.result c.loop-i.i c.args.branches.now.items c.loop-i.branches.items c.push.new.self.items c.in_ok-branch_of.field-0
      (omega arith) c.loop-i-test.true c.index-parts-i.is c.index-certs-i.is c.loop-i.invariant.same c.in_ok-push.ensures.items
      (answer_at (branch_refutes c.in_ok-branch_of.field-0) c.index-parts-i.result c.deref.result.now c.args.at.now.todo.items c.deref-in-loop-i.result.now c.args.at.now.literals.items c.index-certs-i.result c.in_ok-branch_of.ensures.answer c.deref.ensures.value c.deref-in-loop-i.ensures.value);
  size = split_sizes c.args.certs.now c.index-certs-i.result c.loop-i.i c.loop-i.branches.items c.push.new.self.items c.in_ok-branch_of.field-0 (branches_size c.args.branches.now.items)
      c.loop-i-test.true c.index-certs-i.is c.loop-i.invariant.size c.in_ok-push.ensures.items c.in_ok-branch_of.ensures.cert;
}
