use Rattle.std.proofs.Common.{codes}
use Rattle.emit_choices.specs.Fixed.{ADMITS_HEAD}
use Rattle.emit_choices.specs.declared.lists.Form.TheVariants as forms
use Rattle.emit_choices.specs.Lists.{parameters_text}
use Rattle.base_io.proofs.Writing.{wrote_both, wrote_fails, wrote_longer, wrote_same}
use Rattle.emit_choices.proofs.openings.write_admits.Goals as goal

pub returns-in_err-write_piece : goal.returns-in_err-write_piece
returns-in_err-write_piece g c = wrote_fails _ c.from_residual.ensures.0 (wrote_longer (codes "\n    }\n\n") (wrote_longer (parameters_text forms.Tested c.args.tree.now) (wrote_longer (codes ") -> bool {\n        ") (wrote_longer (parameters_text forms.Taken c.args.tree.now) (wrote_longer (ADMITS_HEAD) (wrote_longer (parameters_text forms.Shown c.args.tree.now) c.in_err-write_piece.ensures))))))

pub returns-in_err-write_parameters : goal.returns-in_err-write_parameters
returns-in_err-write_parameters g c = wrote_fails _ c.from_residual-in_err-write_parameters.ensures.0 (wrote_longer (codes "\n    }\n\n") (wrote_longer (parameters_text forms.Tested c.args.tree.now) (wrote_longer (codes ") -> bool {\n        ") (wrote_longer (parameters_text forms.Taken c.args.tree.now) (wrote_longer (ADMITS_HEAD) (wrote_both c.in_ok-write_piece.ensures c.in_err-write_parameters.ensures))))))

pub returns-in_err-write_piece-2 : goal.returns-in_err-write_piece-2
returns-in_err-write_piece-2 g c = wrote_fails _ c.from_residual-in_err-write_piece-2.ensures.0 (wrote_longer (codes "\n    }\n\n") (wrote_longer (parameters_text forms.Tested c.args.tree.now) (wrote_longer (codes ") -> bool {\n        ") (wrote_longer (parameters_text forms.Taken c.args.tree.now) (wrote_both (wrote_both c.in_ok-write_piece.ensures c.in_ok-write_parameters.ensures) (wrote_same _ (c.admits_head.ensures) c.in_err-write_piece-2.ensures))))))

pub returns-in_err-write_parameters-2 : goal.returns-in_err-write_parameters-2
returns-in_err-write_parameters-2 g c = wrote_fails _ c.from_residual-in_err-write_parameters-2.ensures.0 (wrote_longer (codes "\n    }\n\n") (wrote_longer (parameters_text forms.Tested c.args.tree.now) (wrote_longer (codes ") -> bool {\n        ") (wrote_both (wrote_both (wrote_both c.in_ok-write_piece.ensures c.in_ok-write_parameters.ensures) (wrote_same _ (c.admits_head.ensures) c.in_ok-write_piece-2.ensures)) c.in_err-write_parameters-2.ensures))))

pub returns-in_err-write_piece-3 : goal.returns-in_err-write_piece-3
returns-in_err-write_piece-3 g c = wrote_fails _ c.from_residual-in_err-write_piece-3.ensures.0 (wrote_longer (codes "\n    }\n\n") (wrote_longer (parameters_text forms.Tested c.args.tree.now) (wrote_both (wrote_both (wrote_both (wrote_both c.in_ok-write_piece.ensures c.in_ok-write_parameters.ensures) (wrote_same _ (c.admits_head.ensures) c.in_ok-write_piece-2.ensures)) c.in_ok-write_parameters-2.ensures) c.in_err-write_piece-3.ensures)))

pub returns-in_err-write_parameters-3 : goal.returns-in_err-write_parameters-3
returns-in_err-write_parameters-3 g c = wrote_fails _ c.from_residual-in_err-write_parameters-3.ensures.0 (wrote_longer (codes "\n    }\n\n") (wrote_both (wrote_both (wrote_both (wrote_both (wrote_both c.in_ok-write_piece.ensures c.in_ok-write_parameters.ensures) (wrote_same _ (c.admits_head.ensures) c.in_ok-write_piece-2.ensures)) c.in_ok-write_parameters-2.ensures) c.in_ok-write_piece-3.ensures) c.in_err-write_parameters-3.ensures))

pub returns : goal.returns
returns g c = wrote_both (wrote_both (wrote_both (wrote_both (wrote_both (wrote_both c.in_ok-write_piece.ensures c.in_ok-write_parameters.ensures) (wrote_same _ (c.admits_head.ensures) c.in_ok-write_piece-2.ensures)) c.in_ok-write_parameters-2.ensures) c.in_ok-write_piece-3.ensures) c.in_ok-write_parameters-3.ensures) c.write_piece-4.ensures
