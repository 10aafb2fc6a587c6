use Rattle.std.proofs.Common.{◌^◌}
use Rattle.logic_outline.specs.inner.Parts.{AreCombines, chain_text, combines_text, IsBelow, IsChain, later_number}
use Rattle.logic_outline.proofs.Readings.{first_fails}
use Rattle.logic_outline.proofs.NodeParts.{chain_joins, chain_rest}
use Rattle.logic_outline.proofs.reading.chain.Goals as goal

pub returns-in-Some : goal.returns-in-Some
returns-in-Some c = chain_rest c.args.bytes.now (c.in-Some.count, c.in-Some.rest) c.combines.result c.in-Some.ensures c.combines.ensures

pub returns-in-None : goal.returns-in-None
returns-in-None c = first_fails later_number (IsBelow (2 ^ 64)) combines_text AreCombines chain_text IsChain chain_joins c.args.bytes.now c.in-None.ensures
