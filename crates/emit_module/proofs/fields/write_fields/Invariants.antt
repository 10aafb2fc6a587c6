use Rattle.std.proofs.Common.{take, Ok}
use Rattle.base_io.specs.Writing.{Wrote}
use Rattle.emit_module.specs.Modules.{field_line}
use Rattle.std.specs.List.{flat_map}
use Rattle.emit_module.proofs.fields.write_fields.Given as goal

abbrev pub invariant-loop-one : goal.invariant-loop-one
invariant-loop-one g l =
    Wrote (g.S.Sink.seen l.initial.out) (g.S.Sink.seen l.out) (Ok tt) (flat_map (field_line l.tree) (take l.one-index l.declared))
