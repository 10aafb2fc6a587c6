use Rattle.std.proofs.Common.{◌≡◌, ◌+◌, ◌&&◌, take}
use Rattle.logic_cert.specs.inner.Branches.{all_refute, any_refutes, branches_size, sizes_of}
use Rattle.logic_cert.proofs.acceptance.split.Given as goal

abbrev pub invariant-loop-i : goal.invariant-loop-i
invariant-loop-i l = record {
  same : (any_refutes l.at (take l.i l.parts) (take l.i l.certs) && all_refute l.fn.branches.items) ≡ all_refute l.branches.items;
  size : branches_size l.branches.items ≡ sizes_of (take l.i l.certs) + branches_size l.fn.branches.items;
}
