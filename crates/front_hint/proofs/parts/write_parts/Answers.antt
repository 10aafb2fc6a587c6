use Rattle.base_io.proofs.Rows.{flat_map-parts}
use Rattle.base_io.proofs.Writing.{wrote_until}
use Rattle.front_hint.specs.inner.Ways.{part_text}
use Rattle.front_hint.proofs.parts.write_parts.Goals as goal

pub returns-in_err-write_part : goal.returns-in_err-write_part
returns-in_err-write_part g c =
    wrote_until _ _ _ (flat_map-parts part_text c.args.parts.now c.loop-part.part-index _ c.loop-part-test.true) c.from_residual.ensures.0 c.loop-part.invariant c.in_err-write_part.ensures
