use Rattle.std.proofs.Common.{Ok, take}
use Rattle.std.specs.List.{enumerate_from, flat_map}
use Rattle.emit_expressions.specs.inner.Parts.{part_at}
use Rattle.emit_expressions.proofs.Numbered.{numbered}
use Rattle.base_io.specs.Writing.{Wrote}
use Rattle.emit_expressions.specs.Scopes.{seen}
use Rattle.emit_expressions.proofs.expressions.+write_plain.Given as goal

abbrev pub invariant-write_joined-loop-place : goal.invariant-write_joined-loop-place
invariant-write_joined-loop-place g l =
    Wrote (g.S.Sink.seen l.initial.out) (g.S.Sink.seen l.out) (Ok tt) (flat_map (numbered (part_at (seen l.scope) l.sign l.asked l.pieced)) (take l.place (enumerate_from 0 l.rest)))
