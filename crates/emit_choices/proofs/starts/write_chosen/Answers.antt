use Rattle.std.proofs.Common.{ap, codes}
use Rattle.std.specs.List.{flat_map}
use Rattle.emit_choices.specs.Starts.{start_line}
use Rattle.emit_choices.specs.declared.lists.Form.TheVariants as forms
use Rattle.emit_choices.specs.Lists.{parameters_text}
use Rattle.base_io.proofs.Writing.{wrote_both, wrote_fails, wrote_longer, wrote_same}
use Rattle.emit_choices.proofs.starts.write_chosen.Goals as goal

pub returns-in_err-write_piece : goal.returns-in_err-write_piece
returns-in_err-write_piece g c = wrote_fails _ c.from_residual.ensures.0 (wrote_longer (codes "        }\n    }\n") (wrote_longer (flat_map (start_line (codes "            ") c.args.tree.now) c.args.tree.now.decls) (wrote_longer (codes ") -> Self {\n        Self {\n") (wrote_longer (parameters_text forms.Taken c.args.tree.now) c.in_err-write_piece.ensures))))

pub returns-in_err-write_parameters : goal.returns-in_err-write_parameters
returns-in_err-write_parameters g c = wrote_fails _ c.from_residual-in_err-write_parameters.ensures.0 (wrote_longer (codes "        }\n    }\n") (wrote_longer (flat_map (start_line (codes "            ") c.args.tree.now) c.args.tree.now.decls) (wrote_longer (codes ") -> Self {\n        Self {\n") (wrote_both c.in_ok-write_piece.ensures c.in_err-write_parameters.ensures))))

pub returns-in_err-write_piece-2 : goal.returns-in_err-write_piece-2
returns-in_err-write_piece-2 g c = wrote_fails _ c.from_residual-in_err-write_piece-2.ensures.0 (wrote_longer (codes "        }\n    }\n") (wrote_longer (flat_map (start_line (codes "            ") c.args.tree.now) c.args.tree.now.decls) (wrote_both (wrote_both c.in_ok-write_piece.ensures c.in_ok-write_parameters.ensures) c.in_err-write_piece-2.ensures)))

pub returns-in_err-write_lines : goal.returns-in_err-write_lines
returns-in_err-write_lines g c = wrote_fails _ c.from_residual-in_err-write_lines.ensures.0 (wrote_longer (codes "        }\n    }\n") (wrote_both (wrote_both (wrote_both c.in_ok-write_piece.ensures c.in_ok-write_parameters.ensures) c.in_ok-write_piece-2.ensures) (wrote_same _ (ap (flat_map (start_line (codes "            ") c.args.tree.now)) c.items.ensures) c.in_err-write_lines.ensures)))

pub returns : goal.returns
returns g c = wrote_both (wrote_both (wrote_both (wrote_both c.in_ok-write_piece.ensures c.in_ok-write_parameters.ensures) c.in_ok-write_piece-2.ensures) (wrote_same _ (ap (flat_map (start_line (codes "            ") c.args.tree.now)) c.items.ensures) c.in_ok-write_lines.ensures)) c.write_piece-3.ensures
