use Rattle.std.proofs.Common.{take, Ok}
use Rattle.base_io.specs.Writing.{Wrote}
use Rattle.emit_method.specs.Methods.{local_line}
use Rattle.std.specs.List.{flat_map}
use Rattle.emit_method.proofs.methods.write_locals.Given as goal

abbrev pub invariant-loop-local : goal.invariant-loop-local
invariant-loop-local g l =
    Wrote (g.S.Sink.seen l.initial.out) (g.S.Sink.seen l.out) (Ok tt) (flat_map (local_line l.method) (take l.local-index l.locals))
