use Rattle.std.proofs.Common.{rules}
use Rattle.base_io.proofs.Writing.{wrote_same}
use Rattle.emit_statements.proofs.Runs.{hand_none, hand_some}
use Rattle.emit_statements.specs.Statements.{method_seen}
use Rattle.emit_statements.proofs.working.write_hand.Goals as goal

pub returns-then-not-waits_at : goal.returns-then-not-waits_at
returns-then-not-waits_at g c =
    wrote_same _ (hand_none (method_seen c.args.it.now) c.args.block _ c.waits_at.ensures c.if-not-waits_at.true) (search rules)

pub returns : goal.returns
returns g c =
    wrote_same _ (hand_some (method_seen c.args.it.now) c.args.block _ c.waits_at.ensures c.if-not-waits_at.false) c.write_around_own_name.ensures
