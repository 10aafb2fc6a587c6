use Rattle.std.proofs.Common.{codes}
use Rattle.std.specs.List.{flat_map}
use Rattle.emit_method.specs.Docs.{docs_text}
use Rattle.emit_method.specs.Methods.{head_text, local_line}
use Rattle.emit_statements.specs.Statements.{blocks_ops, end_text, method_seen}
use Rattle.base_io.proofs.Writing.{wrote_both, wrote_fails, wrote_longer}
use Rattle.emit_method.proofs.methods.write_calls.Goals as goal

pub returns-in_err-write_piece : goal.returns-in_err-write_piece
returns-in_err-write_piece g c =
    wrote_fails _ c.from_residual.ensures.0 (wrote_longer (codes "    }\n") (wrote_longer (end_text (method_seen c.args.it.now)) (wrote_longer (blocks_ops (method_seen c.args.it.now) c.args.count) (wrote_longer (flat_map (local_line c.args.it.now.method.now) c.args.it.now.method.now.locals) (wrote_longer (head_text (method_seen c.args.it.now)) (wrote_longer (docs_text (method_seen c.args.it.now)) c.in_err-write_piece.ensures))))))

pub returns-in_err-write_docs : goal.returns-in_err-write_docs
returns-in_err-write_docs g c =
    wrote_fails _ c.from_residual-in_err-write_docs.ensures.0 (wrote_longer (codes "    }\n") (wrote_longer (end_text (method_seen c.args.it.now)) (wrote_longer (blocks_ops (method_seen c.args.it.now) c.args.count) (wrote_longer (flat_map (local_line c.args.it.now.method.now) c.args.it.now.method.now.locals) (wrote_longer (head_text (method_seen c.args.it.now)) (wrote_both c.in_ok-write_piece.ensures c.in_err-write_docs.ensures))))))

pub returns-in_err-write_head : goal.returns-in_err-write_head
returns-in_err-write_head g c =
    wrote_fails _ c.from_residual-in_err-write_head.ensures.0 (wrote_longer (codes "    }\n") (wrote_longer (end_text (method_seen c.args.it.now)) (wrote_longer (blocks_ops (method_seen c.args.it.now) c.args.count) (wrote_longer (flat_map (local_line c.args.it.now.method.now) c.args.it.now.method.now.locals) (wrote_both (wrote_both c.in_ok-write_piece.ensures c.in_ok-write_docs.ensures) c.in_err-write_head.ensures)))))

pub returns-in_err-write_own_locals : goal.returns-in_err-write_own_locals
returns-in_err-write_own_locals g c =
    wrote_fails _ c.from_residual-in_err-write_own_locals.ensures.0 (wrote_longer (codes "    }\n") (wrote_longer (end_text (method_seen c.args.it.now)) (wrote_longer (blocks_ops (method_seen c.args.it.now) c.args.count) (wrote_both (wrote_both (wrote_both c.in_ok-write_piece.ensures c.in_ok-write_docs.ensures) c.in_ok-write_head.ensures) c.in_err-write_own_locals.ensures))))

pub returns-in_err-write_blocks : goal.returns-in_err-write_blocks
returns-in_err-write_blocks g c =
    wrote_fails _ c.from_residual-in_err-write_blocks.ensures.0 (wrote_longer (codes "    }\n") (wrote_longer (end_text (method_seen c.args.it.now)) (wrote_both (wrote_both (wrote_both (wrote_both c.in_ok-write_piece.ensures c.in_ok-write_docs.ensures) c.in_ok-write_head.ensures) c.in_ok-write_own_locals.ensures) c.in_err-write_blocks.ensures)))

pub returns-in_err-write_end : goal.returns-in_err-write_end
returns-in_err-write_end g c =
    wrote_fails _ c.from_residual-in_err-write_end.ensures.0 (wrote_longer (codes "    }\n") (wrote_both (wrote_both (wrote_both (wrote_both (wrote_both c.in_ok-write_piece.ensures c.in_ok-write_docs.ensures) c.in_ok-write_head.ensures) c.in_ok-write_own_locals.ensures) c.in_ok-write_blocks.ensures) c.in_err-write_end.ensures))

pub returns : goal.returns
returns g c =
    wrote_both (wrote_both (wrote_both (wrote_both (wrote_both (wrote_both c.in_ok-write_piece.ensures c.in_ok-write_docs.ensures) c.in_ok-write_head.ensures) c.in_ok-write_own_locals.ensures) c.in_ok-write_blocks.ensures) c.in_ok-write_end.ensures) c.write_piece-2.ensures
