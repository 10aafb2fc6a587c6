use Rattle.std.proofs.Common.{codes, ap}
use Rattle.base_io.proofs.Writing.{wrote_both, wrote_fails, wrote_longer, wrote_same}
use Rattle.emit_choices.specs.Starts.{brace_text}
use Rattle.emit_module.specs.Modules.{field_line, lints_text}
use Rattle.std.specs.List.{flat_map}
use Rattle.emit_module.proofs.state.write_state.Goals as goal

pub returns-in_err-write_piece : goal.returns-in_err-write_piece
returns-in_err-write_piece g c =
    wrote_fails _ c.from_residual.ensures.0 (wrote_longer (codes "}\n\n") (wrote_longer (flat_map (field_line c.args.tree.now) c.args.tree.now.decls) (wrote_longer (brace_text c.args.tree.now) (wrote_longer (codes "struct State ") (wrote_longer (lints_text c.args.tree.now) (wrote_same _ c.state_bytes.ensures c.in_err-write_piece.ensures))))))

pub returns-in_err-write_lints : goal.returns-in_err-write_lints
returns-in_err-write_lints g c =
    wrote_fails _ c.from_residual-in_err-write_lints.ensures.0 (wrote_longer (codes "}\n\n") (wrote_longer (flat_map (field_line c.args.tree.now) c.args.tree.now.decls) (wrote_longer (brace_text c.args.tree.now) (wrote_longer (codes "struct State ") (wrote_both (wrote_same _ c.state_bytes.ensures c.in_ok-write_piece.ensures) c.in_err-write_lints.ensures)))))

pub returns-in_err-write_piece-2 : goal.returns-in_err-write_piece-2
returns-in_err-write_piece-2 g c =
    wrote_fails _ c.from_residual-in_err-write_piece-2.ensures.0 (wrote_longer (codes "}\n\n") (wrote_longer (flat_map (field_line c.args.tree.now) c.args.tree.now.decls) (wrote_longer (brace_text c.args.tree.now) (wrote_both (wrote_both (wrote_same _ c.state_bytes.ensures c.in_ok-write_piece.ensures) c.in_ok-write_lints.ensures) c.in_err-write_piece-2.ensures))))

pub returns-in_err-write_brace : goal.returns-in_err-write_brace
returns-in_err-write_brace g c =
    wrote_fails _ c.from_residual-in_err-write_brace.ensures.0 (wrote_longer (codes "}\n\n") (wrote_longer (flat_map (field_line c.args.tree.now) c.args.tree.now.decls) (wrote_both (wrote_both (wrote_both (wrote_same _ c.state_bytes.ensures c.in_ok-write_piece.ensures) c.in_ok-write_lints.ensures) c.in_ok-write_piece-2.ensures) c.in_err-write_brace.ensures)))

pub returns-in_err-write_fields : goal.returns-in_err-write_fields
returns-in_err-write_fields g c =
    wrote_fails _ c.from_residual-in_err-write_fields.ensures.0 (wrote_longer (codes "}\n\n") (wrote_both (wrote_both (wrote_both (wrote_both (wrote_same _ c.state_bytes.ensures c.in_ok-write_piece.ensures) c.in_ok-write_lints.ensures) c.in_ok-write_piece-2.ensures) c.in_ok-write_brace.ensures) (wrote_same _ (ap (flat_map (field_line c.args.tree.now)) c.items.ensures) c.in_err-write_fields.ensures)))

pub returns : goal.returns
returns g c =
    wrote_both (wrote_both (wrote_both (wrote_both (wrote_both (wrote_same _ c.state_bytes.ensures c.in_ok-write_piece.ensures) c.in_ok-write_lints.ensures) c.in_ok-write_piece-2.ensures) c.in_ok-write_brace.ensures) (wrote_same _ (ap (flat_map (field_line c.args.tree.now)) c.items.ensures) c.in_ok-write_fields.ensures)) c.write_piece-3.ensures
