use Rattle.base_io.proofs.Writing.{wrote_same}
use Rattle.emit_statements.proofs.Tests.{block_says}
use Rattle.emit_statements.specs.Statements.{method_seen}
use Rattle.emit_statements.proofs.statements.write_block.Goals as goal

pub returns : goal.returns
returns g c =
    wrote_same _ (block_says (method_seen c.args.it.now) c.args.index _ _ c.tries_at.ensures c.block_at.ensures.number) c.write_statements.ensures
