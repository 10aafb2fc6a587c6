use Rattle.std.proofs.Common.{subst, ◌^◌}
use Rattle.logic_outline.specs.Readings.{IsRead}
use Rattle.logic_outline.specs.inner.Parts.{IsBelow, later_number}
use Rattle.logic_outline.proofs.NodeParts.{split_none, split_some}
use Rattle.logic_outline.proofs.reading.split_node.Goals as goal

pub returns-in-Some : goal.returns-in-Some
returns-in-Some c rest bytes at r = split_some rest bytes (c.in-Some.count, c.in-Some.rest) at (subst (IsRead later_number (IsBelow (2 ^ 64)) rest) c.in-Some.is r)

pub returns-in-None : goal.returns-in-None
returns-in-None c rest bytes at r = split_none rest bytes at (subst (IsRead later_number (IsBelow (2 ^ 64)) rest) c.in-None.is r)
