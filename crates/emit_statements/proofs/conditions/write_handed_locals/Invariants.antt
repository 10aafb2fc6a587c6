use Rattle.std.proofs.Common.{take, Ok}
use Rattle.base_io.specs.Writing.{Wrote}
use Rattle.emit_comments.proofs.Numbered.{numbered}
use Rattle.emit_statements.specs.Conditions.{handed_local}
use Rattle.std.specs.List.{enumerate_from, flat_map}
use Rattle.emit_statements.proofs.conditions.write_handed_locals.Given as goal

abbrev pub invariant-loop-before : goal.invariant-loop-before
invariant-loop-before g l =
    Wrote (g.S.Sink.seen l.initial.out) (g.S.Sink.seen l.out) (Ok tt) (flat_map (numbered (handed_local l.method l.reach)) (take l.before (enumerate_from 0 l.locals)))
