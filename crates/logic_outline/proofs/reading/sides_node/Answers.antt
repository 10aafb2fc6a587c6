use Rattle.std.proofs.Common.{subst}
use Rattle.logic_outline.specs.Outlines.{IsForm}
use Rattle.logic_outline.specs.Readings.{IsRead}
use Rattle.logic_outline.specs.inner.Parts.{sides_text}
use Rattle.logic_outline.proofs.NodeParts.{cases_none, cases_some}
use Rattle.logic_outline.proofs.reading.sides_node.Goals as goal

pub returns-in-Some : goal.returns-in-Some
returns-in-Some c rest bytes at r = cases_some rest bytes (c.in-Some.form, c.in-Some.rest) at (subst (IsRead sides_text IsForm rest) c.in-Some.is r)

pub returns-in-None : goal.returns-in-None
returns-in-None c rest bytes at r = cases_none rest bytes at (subst (IsRead sides_text IsForm rest) c.in-None.is r)
