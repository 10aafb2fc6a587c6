use Rattle.std.proofs.Common.{codes, length}
use Rattle.emit_method.specs.Docs.{first_guard, other_error, refused_by, when_text}
use Rattle.base_io.proofs.Writing.{wrote_both, wrote_fails, wrote_longer, wrote_same}
use Rattle.emit_method.proofs.docs.write_refusals.Goals as goal

pub returns-in_err-write_piece : goal.returns-in_err-write_piece
returns-in_err-write_piece g c =
    wrote_fails _ c.from_residual.ensures.0 (wrote_longer (other_error c.args.it.now.fails (length c.args.it.now.method.now.blocks)) (wrote_longer (codes "` is false. Then nothing changes.\n") (wrote_longer (first_guard c.args.it.now.method.now) (wrote_longer (when_text c.args.it.now.way) (wrote_longer (refused_by c.args.it.now.fails) (wrote_same _ (c.errors_head.ensures) c.in_err-write_piece.ensures))))))

pub returns-in_err-write_piece-2 : goal.returns-in_err-write_piece-2
returns-in_err-write_piece-2 g c =
    wrote_fails _ c.from_residual-in_err-write_piece-2.ensures.0 (wrote_longer (other_error c.args.it.now.fails (length c.args.it.now.method.now.blocks)) (wrote_longer (codes "` is false. Then nothing changes.\n") (wrote_longer (first_guard c.args.it.now.method.now) (wrote_longer (when_text c.args.it.now.way) (wrote_both (wrote_same _ (c.errors_head.ensures) c.in_ok-write_piece.ensures) (wrote_same _ (c.refused_by.ensures) c.in_err-write_piece-2.ensures))))))

pub returns-in_err-write_piece-3 : goal.returns-in_err-write_piece-3
returns-in_err-write_piece-3 g c =
    wrote_fails _ c.from_residual-in_err-write_piece-3.ensures.0 (wrote_longer (other_error c.args.it.now.fails (length c.args.it.now.method.now.blocks)) (wrote_longer (codes "` is false. Then nothing changes.\n") (wrote_longer (first_guard c.args.it.now.method.now) (wrote_both (wrote_both (wrote_same _ (c.errors_head.ensures) c.in_ok-write_piece.ensures) (wrote_same _ (c.refused_by.ensures) c.in_ok-write_piece-2.ensures)) (wrote_same _ (c.when_bytes.ensures) c.in_err-write_piece-3.ensures)))))

pub returns-in_err-write_guard : goal.returns-in_err-write_guard
returns-in_err-write_guard g c =
    wrote_fails _ c.from_residual-in_err-write_guard.ensures.0 (wrote_longer (other_error c.args.it.now.fails (length c.args.it.now.method.now.blocks)) (wrote_longer (codes "` is false. Then nothing changes.\n") (wrote_both (wrote_both (wrote_both (wrote_same _ (c.errors_head.ensures) c.in_ok-write_piece.ensures) (wrote_same _ (c.refused_by.ensures) c.in_ok-write_piece-2.ensures)) (wrote_same _ (c.when_bytes.ensures) c.in_ok-write_piece-3.ensures)) c.in_err-write_guard.ensures)))

pub returns-in_err-write_piece-4 : goal.returns-in_err-write_piece-4
returns-in_err-write_piece-4 g c =
    wrote_fails _ c.from_residual-in_err-write_piece-4.ensures.0 (wrote_longer (other_error c.args.it.now.fails (length c.args.it.now.method.now.blocks)) (wrote_both (wrote_both (wrote_both (wrote_both (wrote_same _ (c.errors_head.ensures) c.in_ok-write_piece.ensures) (wrote_same _ (c.refused_by.ensures) c.in_ok-write_piece-2.ensures)) (wrote_same _ (c.when_bytes.ensures) c.in_ok-write_piece-3.ensures)) c.in_ok-write_guard.ensures) c.in_err-write_piece-4.ensures))

pub returns : goal.returns
returns g c =
    wrote_both (wrote_both (wrote_both (wrote_both (wrote_both (wrote_same _ (c.errors_head.ensures) c.in_ok-write_piece.ensures) (wrote_same _ (c.refused_by.ensures) c.in_ok-write_piece-2.ensures)) (wrote_same _ (c.when_bytes.ensures) c.in_ok-write_piece-3.ensures)) c.in_ok-write_guard.ensures) c.in_ok-write_piece-4.ensures) c.write_other_error.ensures
