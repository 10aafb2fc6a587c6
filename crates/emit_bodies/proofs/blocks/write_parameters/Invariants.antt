use Rattle.std.proofs.Common.{Ok, take}
use Rattle.std.specs.List.{flat_map}
use Rattle.emit_bodies.specs.Blocks.{parameter_text}
use Rattle.base_io.specs.Writing.{Wrote}
use Rattle.emit_bodies.proofs.blocks.write_parameters.Given as goal

abbrev pub invariant-loop-input : goal.invariant-loop-input
invariant-loop-input g l =
    Wrote (g.S.Sink.seen l.initial.out) (g.S.Sink.seen l.out) (Ok tt) (flat_map (parameter_text l.method) (take l.input-index l.inputs))
