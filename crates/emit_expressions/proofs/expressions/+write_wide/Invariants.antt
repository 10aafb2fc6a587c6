use Rattle.std.proofs.Common.{Ok, take}
use Rattle.emit_expressions.specs.inner.Parts.{addend_at, factor_at}
use Rattle.std.specs.List.{enumerate_from, flat_map}
use Rattle.emit_expressions.proofs.Numbered.{numbered}
use Rattle.base_io.specs.Writing.{Wrote}
use Rattle.emit_expressions.specs.Scopes.{seen}
use Rattle.emit_expressions.proofs.expressions.+write_wide.Given as goal

abbrev pub invariant-write_factors-loop-place : goal.invariant-write_factors-loop-place
invariant-write_factors-loop-place g l =
    Wrote (g.S.Sink.seen l.initial.out) (g.S.Sink.seen l.out) (Ok tt) (flat_map (numbered (factor_at (seen l.scope) l.pieced l.ending)) (take l.place (enumerate_from 0 l.factors)))

abbrev pub invariant-write_addends-loop-place : goal.invariant-write_addends-loop-place
invariant-write_addends-loop-place g l =
    Wrote (g.S.Sink.seen l.initial.out) (g.S.Sink.seen l.out) (Ok tt) (flat_map (numbered (addend_at (seen l.scope) l.pieced l.ending)) (take l.place (enumerate_from 0 l.addends)))
