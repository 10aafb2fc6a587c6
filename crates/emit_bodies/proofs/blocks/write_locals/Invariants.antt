use Rattle.std.proofs.Common.{Ok, take}
use Rattle.std.specs.List.{flat_map}
use Rattle.emit_bodies.specs.Blocks.{local_text}
use Rattle.base_io.specs.Writing.{Wrote}
use Rattle.emit_bodies.proofs.blocks.write_locals.Given as goal

abbrev pub invariant-loop-local : goal.invariant-loop-local
invariant-loop-local g l =
    Wrote (g.S.Sink.seen l.initial.out) (g.S.Sink.seen l.out) (Ok tt) (flat_map (local_text l.method l.reach) (take l.local-index l.locals))
