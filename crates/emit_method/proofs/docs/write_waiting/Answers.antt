use Rattle.std.proofs.Common.{refl}
use Rattle.base_io.proofs.Writing.{wrote_same}
use Rattle.emit_method.proofs.Wakes.{waits_not, waits_then}
use Rattle.emit_statements.specs.Statements.{method_seen}
use Rattle.emit_method.proofs.docs.write_waiting.Goals as goal

pub returns-then-not-is_waited_on : goal.returns-then-not-is_waited_on
returns-then-not-is_waited_on g c =
    wrote_same _ (waits_not (method_seen c.args.it.now) c.args.place c.args.block.now _ _ _ _ refl c.condition_of.ensures c.is_waited_on.ensures c.if-not-is_waited_on.true c.going_bytes.ensures) c.write_piece.ensures

pub returns : goal.returns
returns g c =
    wrote_same _ (waits_then (method_seen c.args.it.now) c.args.place c.args.block.now _ _ _ _ refl c.condition_of.ensures c.is_waited_on.ensures c.if-not-is_waited_on.false c.waits_until.ensures) c.write_around.ensures
