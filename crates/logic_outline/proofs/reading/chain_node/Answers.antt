use Rattle.std.proofs.Common.{subst}
use Rattle.logic_outline.specs.Readings.{IsRead}
use Rattle.logic_outline.specs.inner.Parts.{chain_text, IsChain}
use Rattle.logic_outline.proofs.NodeParts.{chain_none, chain_some}
use Rattle.logic_outline.proofs.reading.chain_node.Goals as goal

pub returns-in-Some : goal.returns-in-Some
returns-in-Some c rest bytes at r = chain_some rest bytes (c.in-Some.combines, c.in-Some.rest) at (subst (IsRead chain_text IsChain rest) c.in-Some.is r)

pub returns-in-None : goal.returns-in-None
returns-in-None c rest bytes at r = chain_none rest bytes at (subst (IsRead chain_text IsChain rest) c.in-None.is r)
