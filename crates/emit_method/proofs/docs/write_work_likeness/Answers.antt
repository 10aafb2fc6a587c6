use Rattle.std.proofs.Common.{codes, length}
use Rattle.emit_method.specs.Called.{plain_called}
use Rattle.emit_method.specs.Docs.{handed_text, panics_text}
use Rattle.emit_statements.specs.Statements.{method_seen}
use Rattle.base_io.proofs.Writing.{wrote_both, wrote_fails, wrote_longer, wrote_same}
use Rattle.emit_method.proofs.docs.write_work_likeness.Goals as goal

pub returns-in_err-write_piece : goal.returns-in_err-write_piece
returns-in_err-write_piece g c =
    wrote_fails _ c.from_residual.ensures.0 (wrote_longer (codes "`f` must not call this monitor.\n") (wrote_longer (panics_text (length c.args.it.now.method.now.blocks)) (wrote_longer (handed_text c.args.it.now.answer) (wrote_longer (codes "), and calls `f` with ") (wrote_longer (plain_called (method_seen c.args.it.now)) (wrote_longer (codes "`](Self::") (wrote_longer (plain_called (method_seen c.args.it.now)) c.in_err-write_piece.ensures)))))))

pub returns-in_err-write_plain_called : goal.returns-in_err-write_plain_called
returns-in_err-write_plain_called g c =
    wrote_fails _ c.from_residual-in_err-write_plain_called.ensures.0 (wrote_longer (codes "`f` must not call this monitor.\n") (wrote_longer (panics_text (length c.args.it.now.method.now.blocks)) (wrote_longer (handed_text c.args.it.now.answer) (wrote_longer (codes "), and calls `f` with ") (wrote_longer (plain_called (method_seen c.args.it.now)) (wrote_longer (codes "`](Self::") (wrote_both c.in_ok-write_piece.ensures c.in_err-write_plain_called.ensures)))))))

pub returns-in_err-write_piece-2 : goal.returns-in_err-write_piece-2
returns-in_err-write_piece-2 g c =
    wrote_fails _ c.from_residual-in_err-write_piece-2.ensures.0 (wrote_longer (codes "`f` must not call this monitor.\n") (wrote_longer (panics_text (length c.args.it.now.method.now.blocks)) (wrote_longer (handed_text c.args.it.now.answer) (wrote_longer (codes "), and calls `f` with ") (wrote_longer (plain_called (method_seen c.args.it.now)) (wrote_both (wrote_both c.in_ok-write_piece.ensures c.in_ok-write_plain_called.ensures) c.in_err-write_piece-2.ensures))))))

pub returns-in_err-write_plain_called-2 : goal.returns-in_err-write_plain_called-2
returns-in_err-write_plain_called-2 g c =
    wrote_fails _ c.from_residual-in_err-write_plain_called-2.ensures.0 (wrote_longer (codes "`f` must not call this monitor.\n") (wrote_longer (panics_text (length c.args.it.now.method.now.blocks)) (wrote_longer (handed_text c.args.it.now.answer) (wrote_longer (codes "), and calls `f` with ") (wrote_both (wrote_both (wrote_both c.in_ok-write_piece.ensures c.in_ok-write_plain_called.ensures) c.in_ok-write_piece-2.ensures) c.in_err-write_plain_called-2.ensures)))))

pub returns-in_err-write_piece-3 : goal.returns-in_err-write_piece-3
returns-in_err-write_piece-3 g c =
    wrote_fails _ c.from_residual-in_err-write_piece-3.ensures.0 (wrote_longer (codes "`f` must not call this monitor.\n") (wrote_longer (panics_text (length c.args.it.now.method.now.blocks)) (wrote_longer (handed_text c.args.it.now.answer) (wrote_both (wrote_both (wrote_both (wrote_both c.in_ok-write_piece.ensures c.in_ok-write_plain_called.ensures) c.in_ok-write_piece-2.ensures) c.in_ok-write_plain_called-2.ensures) c.in_err-write_piece-3.ensures))))

pub returns-in_err-write_piece-4 : goal.returns-in_err-write_piece-4
returns-in_err-write_piece-4 g c =
    wrote_fails _ c.from_residual-in_err-write_piece-4.ensures.0 (wrote_longer (codes "`f` must not call this monitor.\n") (wrote_longer (panics_text (length c.args.it.now.method.now.blocks)) (wrote_both (wrote_both (wrote_both (wrote_both (wrote_both c.in_ok-write_piece.ensures c.in_ok-write_plain_called.ensures) c.in_ok-write_piece-2.ensures) c.in_ok-write_plain_called-2.ensures) c.in_ok-write_piece-3.ensures) (wrote_same _ (c.handed_bytes.ensures) c.in_err-write_piece-4.ensures))))

pub returns-in_err-write_panics : goal.returns-in_err-write_panics
returns-in_err-write_panics g c =
    wrote_fails _ c.from_residual-in_err-write_panics.ensures.0 (wrote_longer (codes "`f` must not call this monitor.\n") (wrote_both (wrote_both (wrote_both (wrote_both (wrote_both (wrote_both c.in_ok-write_piece.ensures c.in_ok-write_plain_called.ensures) c.in_ok-write_piece-2.ensures) c.in_ok-write_plain_called-2.ensures) c.in_ok-write_piece-3.ensures) (wrote_same _ (c.handed_bytes.ensures) c.in_ok-write_piece-4.ensures)) c.in_err-write_panics.ensures))

pub returns : goal.returns
returns g c =
    wrote_both (wrote_both (wrote_both (wrote_both (wrote_both (wrote_both (wrote_both c.in_ok-write_piece.ensures c.in_ok-write_plain_called.ensures) c.in_ok-write_piece-2.ensures) c.in_ok-write_plain_called-2.ensures) c.in_ok-write_piece-3.ensures) (wrote_same _ (c.handed_bytes.ensures) c.in_ok-write_piece-4.ensures)) c.in_ok-write_panics.ensures) c.write_piece-5.ensures
