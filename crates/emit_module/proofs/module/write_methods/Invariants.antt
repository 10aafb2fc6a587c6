use Rattle.std.proofs.Common.{take, Ok}
use Rattle.base_io.specs.Writing.{Wrote}
use Rattle.emit_comments.proofs.Numbered.{numbered}
use Rattle.emit_method.specs.Methods.{methods_text}
use Rattle.emit_statements.specs.Sources.{seen}
use Rattle.std.specs.List.{enumerate_from, flat_map}
use Rattle.emit_module.proofs.module.write_methods.Given as goal

abbrev pub invariant-loop-number : goal.invariant-loop-number
invariant-loop-number g l =
    Wrote (g.S.Sink.seen l.initial.out) (g.S.Sink.seen l.out) (Ok tt) (flat_map (numbered (methods_text (seen l.source))) (take l.number (enumerate_from 0 l.methods)))
