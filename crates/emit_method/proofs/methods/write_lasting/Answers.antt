use Rattle.std.proofs.Common.{codes}
use Rattle.emit_method.specs.Docs.{docs_text}
use Rattle.emit_method.specs.Lasting.{lasting_lines}
use Rattle.emit_method.specs.Methods.{head_text}
use Rattle.emit_statements.specs.Statements.{method_seen}
use Rattle.base_io.proofs.Writing.{wrote_both, wrote_fails, wrote_longer}
use Rattle.emit_method.proofs.methods.write_lasting.Goals as goal

pub returns-in_err-write_piece : goal.returns-in_err-write_piece
returns-in_err-write_piece g c =
    wrote_fails _ c.from_residual.ensures.0 (wrote_longer (codes "    }\n") (wrote_longer (lasting_lines (method_seen c.args.it.now)) (wrote_longer (head_text (method_seen c.args.it.now)) (wrote_longer (docs_text (method_seen c.args.it.now)) c.in_err-write_piece.ensures))))

pub returns-in_err-write_docs : goal.returns-in_err-write_docs
returns-in_err-write_docs g c =
    wrote_fails _ c.from_residual-in_err-write_docs.ensures.0 (wrote_longer (codes "    }\n") (wrote_longer (lasting_lines (method_seen c.args.it.now)) (wrote_longer (head_text (method_seen c.args.it.now)) (wrote_both c.in_ok-write_piece.ensures c.in_err-write_docs.ensures))))

pub returns-in_err-write_head : goal.returns-in_err-write_head
returns-in_err-write_head g c =
    wrote_fails _ c.from_residual-in_err-write_head.ensures.0 (wrote_longer (codes "    }\n") (wrote_longer (lasting_lines (method_seen c.args.it.now)) (wrote_both (wrote_both c.in_ok-write_piece.ensures c.in_ok-write_docs.ensures) c.in_err-write_head.ensures)))

pub returns-in_err-write_lasting_lines : goal.returns-in_err-write_lasting_lines
returns-in_err-write_lasting_lines g c =
    wrote_fails _ c.from_residual-in_err-write_lasting_lines.ensures.0 (wrote_longer (codes "    }\n") (wrote_both (wrote_both (wrote_both c.in_ok-write_piece.ensures c.in_ok-write_docs.ensures) c.in_ok-write_head.ensures) c.in_err-write_lasting_lines.ensures))

pub returns : goal.returns
returns g c =
    wrote_both (wrote_both (wrote_both (wrote_both c.in_ok-write_piece.ensures c.in_ok-write_docs.ensures) c.in_ok-write_head.ensures) c.in_ok-write_lasting_lines.ensures) c.write_piece-2.ensures
