use Rattle.std.proofs.Common.{◌++◌, ◌∙◌, ap, append-nil, codes}
use Rattle.base_io.proofs.Rows.{flat_map-parts}
use Rattle.base_io.proofs.Writing.{wrote_same, wrote_until}
use Rattle.report_text.specs.TurnsText.{value_text}
use Rattle.report_text.proofs.turns.write_more_inputs.Goals as goal

pub returns-in_err-write_pieces : goal.returns-in_err-write_pieces
returns-in_err-write_pieces g c =
    let here = wrote_same _ (ap (λ text. codes ", " ++ text) (append-nil _ ∙ c.value_bytes.ensures)) c.in_err-write_pieces.ensures in
    wrote_until _ _ _ (flat_map-parts (λ input. codes ", " ++ value_text input) c.args.inputs.now c.loop-input.input-index _ c.loop-input-test.true) c.from_residual.ensures.0 c.loop-input.invariant here
