use Rattle.std.proofs.Common.{take, Ok}
use Rattle.base_io.specs.Writing.{Wrote}
use Rattle.emit_comments.proofs.Numbered.{numbered}
use Rattle.emit_module.specs.Modules.{block_functions}
use Rattle.emit_statements.specs.Sources.{seen}
use Rattle.std.specs.List.{enumerate_from, flat_map}
use Rattle.emit_module.proofs.state.write_functions_from.Given as goal

abbrev pub invariant-loop-place : goal.invariant-loop-place
invariant-loop-place g l =
    Wrote (g.S.Sink.seen l.initial.out) (g.S.Sink.seen l.out) (Ok tt) (flat_map (numbered (block_functions (seen l.source) l.method l.first)) (take l.place (enumerate_from 0 l.blocks)))
