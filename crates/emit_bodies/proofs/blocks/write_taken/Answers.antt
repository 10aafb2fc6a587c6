use Rattle.base_io.proofs.Writing.{wrote_both, wrote_same, wrote_until}
use Rattle.emit_bodies.proofs.TakenTexts.{taken_says, taken_cut}
use Rattle.emit_bodies.proofs.blocks.write_taken.Goals as goal

pub returns-in_err-write_input : goal.returns-in_err-write_input
returns-in_err-write_input g c =
    wrote_until _ _ _ (taken_cut c.args.method.now c.args.name.now c.args.kind c.args.lending.now)
    c.from_residual-in_err-write_input.ensures.0 c.in_ok-write_piece.ensures c.in_err-write_input.ensures

pub returns : goal.returns
returns g c =
    wrote_same _ (taken_says c.args.method.now c.args.name.now c.args.kind c.args.lending.now c.kind_bytes.result.now c.kind_bytes.ensures)
    (wrote_both c.in_ok-write_piece.ensures (wrote_both c.in_ok-write_input.ensures c.write_pieces.ensures))
