use Rattle.std.proofs.Common.{ap, codes}
use Rattle.std.specs.List.{flat_map}
use Rattle.emit_choices.specs.Starts.{brace_text, start_line, starts_end}
use Rattle.base_io.proofs.Writing.{wrote_both, wrote_fails, wrote_longer, wrote_same}
use Rattle.emit_choices.proofs.starts.write_fixed.Goals as goal

pub returns-in_err-write_piece : goal.returns-in_err-write_piece
returns-in_err-write_piece g c = wrote_fails _ c.from_residual.ensures.0 (wrote_longer (starts_end c.args.tree.now) (wrote_longer (flat_map (start_line (codes "        ") c.args.tree.now) c.args.tree.now.decls) (wrote_longer (brace_text c.args.tree.now) c.in_err-write_piece.ensures)))

pub returns-in_err-write_brace : goal.returns-in_err-write_brace
returns-in_err-write_brace g c = wrote_fails _ c.from_residual-in_err-write_brace.ensures.0 (wrote_longer (starts_end c.args.tree.now) (wrote_longer (flat_map (start_line (codes "        ") c.args.tree.now) c.args.tree.now.decls) (wrote_both c.in_ok-write_piece.ensures c.in_err-write_brace.ensures)))

pub returns-in_err-write_lines : goal.returns-in_err-write_lines
returns-in_err-write_lines g c = wrote_fails _ c.from_residual-in_err-write_lines.ensures.0 (wrote_longer (starts_end c.args.tree.now) (wrote_both (wrote_both c.in_ok-write_piece.ensures c.in_ok-write_brace.ensures) (wrote_same _ (ap (flat_map (start_line (codes "        ") c.args.tree.now)) c.items.ensures) c.in_err-write_lines.ensures)))

pub returns : goal.returns
returns g c = wrote_both (wrote_both (wrote_both c.in_ok-write_piece.ensures c.in_ok-write_brace.ensures) (wrote_same _ (ap (flat_map (start_line (codes "        ") c.args.tree.now)) c.items.ensures) c.in_ok-write_lines.ensures)) c.write_end.ensures
