use Rattle.std.proofs.Common.{◌≡◌}
use Rattle.logic_cert.specs.inner.Branches.{branch_refutes, weight_of}
use Rattle.logic_cert.proofs.acceptance.gather.Given as goal

abbrev pub invariant-loop-formula : goal.invariant-loop-formula
invariant-loop-formula l = record {
  same : branch_refutes l.fn.branch ≡ branch_refutes l.branch;
  cert : l.branch.cert ≡ l.fn.branch.cert;
}

abbrev pub decreases-loop-formula : goal.decreases-loop-formula
decreases-loop-formula l = weight_of l.branch.todo.items
