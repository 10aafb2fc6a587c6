use Rattle.std.proofs.Common.{codes}
use Rattle.emit_names.specs.Names.{type_name}
use Rattle.emit_choices.specs.declared.lists.Form.TheVariants as forms
use Rattle.emit_choices.specs.Lists.{parameters_text}
use Rattle.base_io.proofs.Writing.{wrote_both, wrote_fails, wrote_longer}
use Rattle.emit_choices.proofs.openings.write_assert.Goals as goal

pub returns-in_err-write_piece : goal.returns-in_err-write_piece
returns-in_err-write_piece g c = wrote_fails _ c.from_residual.ensures.0 (wrote_longer (codes "\");\n") (wrote_longer (parameters_text forms.Shown c.args.tree.now) (wrote_longer (codes " wants ") (wrote_longer (type_name c.args.tree.now) (wrote_longer (codes "), \"") (wrote_longer (parameters_text forms.Given c.args.tree.now) (wrote_longer (codes "::admits(") (wrote_longer (type_name c.args.tree.now) c.in_err-write_piece.ensures))))))))

pub returns-in_err-write_type : goal.returns-in_err-write_type
returns-in_err-write_type g c = wrote_fails _ c.from_residual-in_err-write_type.ensures.0 (wrote_longer (codes "\");\n") (wrote_longer (parameters_text forms.Shown c.args.tree.now) (wrote_longer (codes " wants ") (wrote_longer (type_name c.args.tree.now) (wrote_longer (codes "), \"") (wrote_longer (parameters_text forms.Given c.args.tree.now) (wrote_longer (codes "::admits(") (wrote_both c.in_ok-write_piece.ensures c.in_err-write_type.ensures))))))))

pub returns-in_err-write_piece-2 : goal.returns-in_err-write_piece-2
returns-in_err-write_piece-2 g c = wrote_fails _ c.from_residual-in_err-write_piece-2.ensures.0 (wrote_longer (codes "\");\n") (wrote_longer (parameters_text forms.Shown c.args.tree.now) (wrote_longer (codes " wants ") (wrote_longer (type_name c.args.tree.now) (wrote_longer (codes "), \"") (wrote_longer (parameters_text forms.Given c.args.tree.now) (wrote_both (wrote_both c.in_ok-write_piece.ensures c.in_ok-write_type.ensures) c.in_err-write_piece-2.ensures)))))))

pub returns-in_err-write_parameters : goal.returns-in_err-write_parameters
returns-in_err-write_parameters g c = wrote_fails _ c.from_residual-in_err-write_parameters.ensures.0 (wrote_longer (codes "\");\n") (wrote_longer (parameters_text forms.Shown c.args.tree.now) (wrote_longer (codes " wants ") (wrote_longer (type_name c.args.tree.now) (wrote_longer (codes "), \"") (wrote_both (wrote_both (wrote_both c.in_ok-write_piece.ensures c.in_ok-write_type.ensures) c.in_ok-write_piece-2.ensures) c.in_err-write_parameters.ensures))))))

pub returns-in_err-write_piece-3 : goal.returns-in_err-write_piece-3
returns-in_err-write_piece-3 g c = wrote_fails _ c.from_residual-in_err-write_piece-3.ensures.0 (wrote_longer (codes "\");\n") (wrote_longer (parameters_text forms.Shown c.args.tree.now) (wrote_longer (codes " wants ") (wrote_longer (type_name c.args.tree.now) (wrote_both (wrote_both (wrote_both (wrote_both c.in_ok-write_piece.ensures c.in_ok-write_type.ensures) c.in_ok-write_piece-2.ensures) c.in_ok-write_parameters.ensures) c.in_err-write_piece-3.ensures)))))

pub returns-in_err-write_type-2 : goal.returns-in_err-write_type-2
returns-in_err-write_type-2 g c = wrote_fails _ c.from_residual-in_err-write_type-2.ensures.0 (wrote_longer (codes "\");\n") (wrote_longer (parameters_text forms.Shown c.args.tree.now) (wrote_longer (codes " wants ") (wrote_both (wrote_both (wrote_both (wrote_both (wrote_both c.in_ok-write_piece.ensures c.in_ok-write_type.ensures) c.in_ok-write_piece-2.ensures) c.in_ok-write_parameters.ensures) c.in_ok-write_piece-3.ensures) c.in_err-write_type-2.ensures))))

pub returns-in_err-write_piece-4 : goal.returns-in_err-write_piece-4
returns-in_err-write_piece-4 g c = wrote_fails _ c.from_residual-in_err-write_piece-4.ensures.0 (wrote_longer (codes "\");\n") (wrote_longer (parameters_text forms.Shown c.args.tree.now) (wrote_both (wrote_both (wrote_both (wrote_both (wrote_both (wrote_both c.in_ok-write_piece.ensures c.in_ok-write_type.ensures) c.in_ok-write_piece-2.ensures) c.in_ok-write_parameters.ensures) c.in_ok-write_piece-3.ensures) c.in_ok-write_type-2.ensures) c.in_err-write_piece-4.ensures)))

pub returns-in_err-write_parameters-2 : goal.returns-in_err-write_parameters-2
returns-in_err-write_parameters-2 g c = wrote_fails _ c.from_residual-in_err-write_parameters-2.ensures.0 (wrote_longer (codes "\");\n") (wrote_both (wrote_both (wrote_both (wrote_both (wrote_both (wrote_both (wrote_both c.in_ok-write_piece.ensures c.in_ok-write_type.ensures) c.in_ok-write_piece-2.ensures) c.in_ok-write_parameters.ensures) c.in_ok-write_piece-3.ensures) c.in_ok-write_type-2.ensures) c.in_ok-write_piece-4.ensures) c.in_err-write_parameters-2.ensures))

pub returns : goal.returns
returns g c = wrote_both (wrote_both (wrote_both (wrote_both (wrote_both (wrote_both (wrote_both (wrote_both c.in_ok-write_piece.ensures c.in_ok-write_type.ensures) c.in_ok-write_piece-2.ensures) c.in_ok-write_parameters.ensures) c.in_ok-write_piece-3.ensures) c.in_ok-write_type-2.ensures) c.in_ok-write_piece-4.ensures) c.in_ok-write_parameters-2.ensures) c.write_piece-5.ensures
