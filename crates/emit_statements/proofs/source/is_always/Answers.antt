use Rattle.emit_statements.proofs.Lookups.{always-All}
use Rattle.emit_statements.proofs.source.is_always.Goals as goal

pub returns-in-All : goal.returns-in-All
returns-in-All c =
    always-All c.args.guard.now _ _ _ c.in-All.is c.items.ensures c.are_none.ensures
