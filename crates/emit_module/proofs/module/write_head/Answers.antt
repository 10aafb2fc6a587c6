use Rattle.std.proofs.Common.{codes}
use Rattle.emit_module.specs.Fixed.{HEAD, VERSION}
use Rattle.base_io.proofs.Writing.{wrote_both, wrote_fails, wrote_longer, wrote_same}
use Rattle.emit_module.proofs.module.write_head.Goals as goal

pub returns-in_err-write_piece : goal.returns-in_err-write_piece
returns-in_err-write_piece g c =
    wrote_fails _ c.from_residual.ensures.0 (wrote_longer (HEAD) (wrote_longer (VERSION) (wrote_longer (codes "` as a module of Rust, made by `expresso emit` ") (wrote_longer (c.args.tree.now.name) c.in_err-write_piece.ensures))))

pub returns-in_err-write_piece-2 : goal.returns-in_err-write_piece-2
returns-in_err-write_piece-2 g c =
    wrote_fails _ c.from_residual-in_err-write_piece-2.ensures.0 (wrote_longer (HEAD) (wrote_longer (VERSION) (wrote_longer (codes "` as a module of Rust, made by `expresso emit` ") (wrote_both c.in_ok-write_piece.ensures (wrote_same _ (c.bytes.ensures) c.in_err-write_piece-2.ensures)))))

pub returns-in_err-write_piece-3 : goal.returns-in_err-write_piece-3
returns-in_err-write_piece-3 g c =
    wrote_fails _ c.from_residual-in_err-write_piece-3.ensures.0 (wrote_longer (HEAD) (wrote_longer (VERSION) (wrote_both (wrote_both c.in_ok-write_piece.ensures (wrote_same _ (c.bytes.ensures) c.in_ok-write_piece-2.ensures)) c.in_err-write_piece-3.ensures)))

pub returns-in_err-write_piece-4 : goal.returns-in_err-write_piece-4
returns-in_err-write_piece-4 g c =
    wrote_fails _ c.from_residual-in_err-write_piece-4.ensures.0 (wrote_longer (HEAD) (wrote_both (wrote_both (wrote_both c.in_ok-write_piece.ensures (wrote_same _ (c.bytes.ensures) c.in_ok-write_piece-2.ensures)) c.in_ok-write_piece-3.ensures) (wrote_same _ (c.version_bytes.ensures) c.in_err-write_piece-4.ensures)))

pub returns : goal.returns
returns g c =
    wrote_both (wrote_both (wrote_both (wrote_both c.in_ok-write_piece.ensures (wrote_same _ (c.bytes.ensures) c.in_ok-write_piece-2.ensures)) c.in_ok-write_piece-3.ensures) (wrote_same _ (c.version_bytes.ensures) c.in_ok-write_piece-4.ensures)) (wrote_same _ (c.head_bytes.ensures) c.write_piece-5.ensures)
