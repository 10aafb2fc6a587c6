use Rattle.std.proofs.Common.{Ok, take}
use Rattle.base_io.specs.Writing.{Wrote}
use Rattle.front_hint.specs.inner.Ways.{parts_text}
use Rattle.front_hint.proofs.parts.write_parts.Given as goal

abbrev pub invariant-loop-part : goal.invariant-loop-part
invariant-loop-part g l =
    Wrote (g.S.Sink.seen l.initial.out) (g.S.Sink.seen l.out) (Ok tt) (parts_text (take l.part-index l.parts))
