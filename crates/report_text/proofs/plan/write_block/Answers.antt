use Rattle.std.proofs.Common.{codes}
use Rattle.machine_events.specs.PlanText.{block_name, notes_text}
use Rattle.base_io.proofs.Writing.{wrote_both, wrote_fails, wrote_longer}
use Rattle.report_text.proofs.plan.write_block.Goals as goal

pub returns-in_err-write_piece : goal.returns-in_err-write_piece
returns-in_err-write_piece g c =
    wrote_fails _ c.from_residual.ensures.0 (wrote_longer (codes "\n") (wrote_longer (notes_text c.args.notes.now) (wrote_longer (codes ": ") (wrote_longer (block_name c.args.monitor.now c.args.block) c.in_err-write_piece.ensures))))

pub returns-in_err-write_block_name : goal.returns-in_err-write_block_name
returns-in_err-write_block_name g c =
    wrote_fails _ c.from_residual-in_err-write_block_name.ensures.0
    (wrote_longer (codes "\n") (wrote_longer (notes_text c.args.notes.now) (wrote_longer (codes ": ") (wrote_both c.in_ok-write_piece.ensures c.in_err-write_block_name.ensures))))

pub returns-in_err-write_piece-2 : goal.returns-in_err-write_piece-2
returns-in_err-write_piece-2 g c =
    wrote_fails _ c.from_residual-in_err-write_piece-2.ensures.0
    (wrote_longer (codes "\n") (wrote_longer (notes_text c.args.notes.now) (wrote_both (wrote_both c.in_ok-write_piece.ensures c.in_ok-write_block_name.ensures) c.in_err-write_piece-2.ensures)))

pub returns-in_err-write_notes : goal.returns-in_err-write_notes
returns-in_err-write_notes g c =
    wrote_fails _ c.from_residual-in_err-write_notes.ensures.0
    (wrote_longer (codes "\n") (wrote_both (wrote_both (wrote_both c.in_ok-write_piece.ensures c.in_ok-write_block_name.ensures) c.in_ok-write_piece-2.ensures) c.in_err-write_notes.ensures))

pub returns : goal.returns
returns g c =
    wrote_both (wrote_both (wrote_both (wrote_both c.in_ok-write_piece.ensures c.in_ok-write_block_name.ensures) c.in_ok-write_piece-2.ensures) c.in_ok-write_notes.ensures) c.write_piece-3.ensures
