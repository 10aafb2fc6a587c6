use Rattle.std.proofs.Common.{take, Ok}
use Rattle.base_io.specs.Writing.{Wrote}
use Rattle.emit_statements.specs.Sources.{seen}
use Rattle.emit_module.specs.Modules.{constant_line}
use Rattle.std.specs.List.{flat_map}
use Rattle.emit_module.proofs.module.write_constant_lines.Given as goal

abbrev pub invariant-loop-one : goal.invariant-loop-one
invariant-loop-one g l =
    Wrote (g.S.Sink.seen l.initial.out) (g.S.Sink.seen l.out) (Ok tt) (flat_map (constant_line (seen l.source)) (take l.one-index l.declared))
