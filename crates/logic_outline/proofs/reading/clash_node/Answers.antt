use Rattle.std.proofs.Common.{subst}
use Rattle.logic_outline.specs.Readings.{IsRead}
use Rattle.logic_outline.specs.inner.Parts.{clash_text, IsClash}
use Rattle.logic_outline.proofs.NodeParts.{clash_none, clash_some}
use Rattle.logic_outline.proofs.reading.clash_node.Goals as goal

pub returns-in-Some : goal.returns-in-Some
returns-in-Some c rest bytes at r = clash_some rest bytes ((c.in-Some.left, c.in-Some.right), c.in-Some.rest) at (subst (IsRead clash_text IsClash rest) c.in-Some.is r)

pub returns-in-None : goal.returns-in-None
returns-in-None c rest bytes at r = clash_none rest bytes at (subst (IsRead clash_text IsClash rest) c.in-None.is r)
