use Rattle.std.proofs.Common.{codes}
use Rattle.emit_choices.specs.Fixed.{CHOSEN_DATA_HEAD, CHOSEN_INNER}
use Rattle.emit_choices.specs.Openings.{assert_text, choice_docs}
use Rattle.emit_choices.specs.declared.lists.Form.TheVariants as forms
use Rattle.emit_choices.specs.Lists.{parameters_text}
use Rattle.base_io.proofs.Writing.{wrote_both, wrote_fails, wrote_longer, wrote_same}
use Rattle.emit_choices.proofs.openings.write_chosen_data.Goals as goal

pub returns-in_err-write_piece : goal.returns-in_err-write_piece
returns-in_err-write_piece g c = wrote_fails _ c.from_residual.ensures.0 (wrote_longer (codes "),\n") (wrote_longer (parameters_text forms.Given c.args.tree.now) (wrote_longer (CHOSEN_INNER) (wrote_longer (assert_text c.args.tree.now) (wrote_longer (codes ", data: D) -> Self {\n") (wrote_longer (parameters_text forms.Taken c.args.tree.now) (wrote_longer (CHOSEN_DATA_HEAD) (wrote_longer (choice_docs c.args.text.now c.args.tree.now) c.in_err-write_piece.ensures))))))))

pub returns-in_err-write_choice_docs : goal.returns-in_err-write_choice_docs
returns-in_err-write_choice_docs g c = wrote_fails _ c.from_residual-in_err-write_choice_docs.ensures.0 (wrote_longer (codes "),\n") (wrote_longer (parameters_text forms.Given c.args.tree.now) (wrote_longer (CHOSEN_INNER) (wrote_longer (assert_text c.args.tree.now) (wrote_longer (codes ", data: D) -> Self {\n") (wrote_longer (parameters_text forms.Taken c.args.tree.now) (wrote_longer (CHOSEN_DATA_HEAD) (wrote_both c.in_ok-write_piece.ensures c.in_err-write_choice_docs.ensures))))))))

pub returns-in_err-write_piece-2 : goal.returns-in_err-write_piece-2
returns-in_err-write_piece-2 g c = wrote_fails _ c.from_residual-in_err-write_piece-2.ensures.0 (wrote_longer (codes "),\n") (wrote_longer (parameters_text forms.Given c.args.tree.now) (wrote_longer (CHOSEN_INNER) (wrote_longer (assert_text c.args.tree.now) (wrote_longer (codes ", data: D) -> Self {\n") (wrote_longer (parameters_text forms.Taken c.args.tree.now) (wrote_both (wrote_both c.in_ok-write_piece.ensures c.in_ok-write_choice_docs.ensures) (wrote_same _ (c.chosen_data_head.ensures) c.in_err-write_piece-2.ensures))))))))

pub returns-in_err-write_parameters : goal.returns-in_err-write_parameters
returns-in_err-write_parameters g c = wrote_fails _ c.from_residual-in_err-write_parameters.ensures.0 (wrote_longer (codes "),\n") (wrote_longer (parameters_text forms.Given c.args.tree.now) (wrote_longer (CHOSEN_INNER) (wrote_longer (assert_text c.args.tree.now) (wrote_longer (codes ", data: D) -> Self {\n") (wrote_both (wrote_both (wrote_both c.in_ok-write_piece.ensures c.in_ok-write_choice_docs.ensures) (wrote_same _ (c.chosen_data_head.ensures) c.in_ok-write_piece-2.ensures)) c.in_err-write_parameters.ensures))))))

pub returns-in_err-write_piece-3 : goal.returns-in_err-write_piece-3
returns-in_err-write_piece-3 g c = wrote_fails _ c.from_residual-in_err-write_piece-3.ensures.0 (wrote_longer (codes "),\n") (wrote_longer (parameters_text forms.Given c.args.tree.now) (wrote_longer (CHOSEN_INNER) (wrote_longer (assert_text c.args.tree.now) (wrote_both (wrote_both (wrote_both (wrote_both c.in_ok-write_piece.ensures c.in_ok-write_choice_docs.ensures) (wrote_same _ (c.chosen_data_head.ensures) c.in_ok-write_piece-2.ensures)) c.in_ok-write_parameters.ensures) c.in_err-write_piece-3.ensures)))))

pub returns-in_err-write_assert : goal.returns-in_err-write_assert
returns-in_err-write_assert g c = wrote_fails _ c.from_residual-in_err-write_assert.ensures.0 (wrote_longer (codes "),\n") (wrote_longer (parameters_text forms.Given c.args.tree.now) (wrote_longer (CHOSEN_INNER) (wrote_both (wrote_both (wrote_both (wrote_both (wrote_both c.in_ok-write_piece.ensures c.in_ok-write_choice_docs.ensures) (wrote_same _ (c.chosen_data_head.ensures) c.in_ok-write_piece-2.ensures)) c.in_ok-write_parameters.ensures) c.in_ok-write_piece-3.ensures) c.in_err-write_assert.ensures))))

pub returns-in_err-write_piece-4 : goal.returns-in_err-write_piece-4
returns-in_err-write_piece-4 g c = wrote_fails _ c.from_residual-in_err-write_piece-4.ensures.0 (wrote_longer (codes "),\n") (wrote_longer (parameters_text forms.Given c.args.tree.now) (wrote_both (wrote_both (wrote_both (wrote_both (wrote_both (wrote_both c.in_ok-write_piece.ensures c.in_ok-write_choice_docs.ensures) (wrote_same _ (c.chosen_data_head.ensures) c.in_ok-write_piece-2.ensures)) c.in_ok-write_parameters.ensures) c.in_ok-write_piece-3.ensures) c.in_ok-write_assert.ensures) (wrote_same _ (c.chosen_inner.ensures) c.in_err-write_piece-4.ensures))))

pub returns-in_err-write_parameters-2 : goal.returns-in_err-write_parameters-2
returns-in_err-write_parameters-2 g c = wrote_fails _ c.from_residual-in_err-write_parameters-2.ensures.0 (wrote_longer (codes "),\n") (wrote_both (wrote_both (wrote_both (wrote_both (wrote_both (wrote_both (wrote_both c.in_ok-write_piece.ensures c.in_ok-write_choice_docs.ensures) (wrote_same _ (c.chosen_data_head.ensures) c.in_ok-write_piece-2.ensures)) c.in_ok-write_parameters.ensures) c.in_ok-write_piece-3.ensures) c.in_ok-write_assert.ensures) (wrote_same _ (c.chosen_inner.ensures) c.in_ok-write_piece-4.ensures)) c.in_err-write_parameters-2.ensures))

pub returns : goal.returns
returns g c = wrote_both (wrote_both (wrote_both (wrote_both (wrote_both (wrote_both (wrote_both (wrote_both c.in_ok-write_piece.ensures c.in_ok-write_choice_docs.ensures) (wrote_same _ (c.chosen_data_head.ensures) c.in_ok-write_piece-2.ensures)) c.in_ok-write_parameters.ensures) c.in_ok-write_piece-3.ensures) c.in_ok-write_assert.ensures) (wrote_same _ (c.chosen_inner.ensures) c.in_ok-write_piece-4.ensures)) c.in_ok-write_parameters-2.ensures) c.write_piece-5.ensures
