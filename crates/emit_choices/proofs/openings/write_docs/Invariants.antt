use Rattle.std.proofs.Common.{take, Ok}
use Rattle.std.specs.List.{flat_map}
use Rattle.base_io.specs.Writing.{Wrote}
use Rattle.emit_choices.specs.Openings.{parameter_docs}
use Rattle.emit_choices.proofs.openings.write_docs.Given as goal

abbrev pub invariant-loop-one : goal.invariant-loop-one
invariant-loop-one g l =
    Wrote (g.S.Sink.seen l.initial.out) (g.S.Sink.seen l.out) (Ok tt) (flat_map (parameter_docs l.text) (take l.one-index l.declared))
