use Rattle.std.proofs.Common.{◌≡◌, drop}
use Rattle.logic_cert.specs.declared.cert.Cert.{Cert}
use Rattle.logic_outline.specs.Outlines.{outline_of}
use Rattle.logic_outline.proofs.BranchLemmas.{Follows}
use Rattle.logic_outline.proofs.acceptance.follow_each.Given as goal

abbrev pub invariant-loop-i : goal.invariant-loop-i
invariant-loop-i l = (cert : Cert) → l.nodes ≡ outline_of cert → Follows l.formula cert (drop l.i l.nodes) l.branches.items
