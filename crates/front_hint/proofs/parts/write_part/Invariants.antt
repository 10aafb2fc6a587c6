use Rattle.std.proofs.Common.{Ok, [], ◌∷◌, take}
use Rattle.std.specs.List.{flat_map}
use Rattle.base_io.specs.Writing.{Wrote}
use Rattle.front_hint.specs.inner.Ways.{written_byte}
use Rattle.front_hint.proofs.parts.write_part.Given as goal

abbrev pub invariant-loop-byte : goal.invariant-loop-byte
invariant-loop-byte g l =
    Wrote (g.S.Sink.seen l.initial.out) (g.S.Sink.seen l.out) (Ok tt) (flat_map (λ byte. written_byte l.part.way byte ∷ []) (take l.byte-index l.part.bytes.now))
