use Rattle.std.proofs.Common.{[], ◌∷◌, ◌∙◌, ap}
use Rattle.base_io.proofs.Rows.{flat_map-parts}
use Rattle.base_io.proofs.Writing.{wrote_same, wrote_until}
use Rattle.front_hint.specs.inner.Ways.{written_byte}
use Rattle.front_hint.proofs.Bytes.{map_by_one}
use Rattle.front_hint.proofs.parts.write_part.Goals as goal

pub returns-in_err-write_byte : goal.returns-in_err-write_byte
returns-in_err-write_byte g c =
    wrote_until _ _ _ (flat_map-parts (λ byte. written_byte c.args.part.way byte ∷ []) c.args.part.bytes.now c.loop-byte.byte-index _ c.loop-byte-test.true ∙ map_by_one (written_byte c.args.part.way) c.args.part.bytes.now)
    c.from_residual.ensures.0 c.loop-byte.invariant (wrote_same _ (ap (λ byte. byte ∷ []) c.written_byte.ensures) c.in_err-write_byte.ensures)
