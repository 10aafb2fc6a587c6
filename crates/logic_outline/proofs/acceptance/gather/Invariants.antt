use Rattle.std.proofs.Common.{◌≡◌}
use Rattle.logic_cert.specs.declared.cert.Cert.{Cert}
use Rattle.logic_cert.specs.inner.Branches.{weight_of}
use Rattle.logic_outline.specs.inner.Branches.{branch_refutes}
use Rattle.logic_outline.proofs.acceptance.gather.Given as goal

abbrev pub invariant-loop-formula : goal.invariant-loop-formula
invariant-loop-formula l = (cert : Cert) → branch_refutes l.fn.branch cert ≡ branch_refutes l.branch cert

abbrev pub decreases-loop-formula : goal.decreases-loop-formula
decreases-loop-formula l = weight_of l.branch.todo.items
