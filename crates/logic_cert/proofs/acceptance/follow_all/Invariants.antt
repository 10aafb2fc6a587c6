use Rattle.std.proofs.Common.{◌≡◌}
use Rattle.logic_cert.specs.inner.Branches.{all_refute, branches_size}
use Rattle.logic_cert.specs.inner.Deciding.{refutes}
use Rattle.logic_cert.proofs.acceptance.follow_all.Given as goal

abbrev pub invariant-loop-branch : goal.invariant-loop-branch
invariant-loop-branch l = refutes l.formula l.cert ≡ all_refute l.branches.items

abbrev pub decreases-loop-branch : goal.decreases-loop-branch
decreases-loop-branch l = branches_size l.branches.items
