use Rattle.std.proofs.Common.{ap}
use Rattle.std.specs.List.{flat_map}
use Rattle.emit_choices.specs.Fixed.{PANICS, PANICS_END}
use Rattle.emit_choices.specs.Openings.{parameter_docs}
use Rattle.emit_choices.specs.declared.lists.Form.TheVariants as forms
use Rattle.emit_choices.specs.Lists.{parameters_text}
use Rattle.base_io.proofs.Writing.{wrote_both, wrote_fails, wrote_longer, wrote_same}
use Rattle.emit_choices.proofs.openings.write_choice_docs.Goals as goal

pub returns-in_err-write_docs : goal.returns-in_err-write_docs
returns-in_err-write_docs g c = wrote_fails _ c.from_residual.ensures.0 (wrote_longer (PANICS_END) (wrote_longer (parameters_text forms.Shown c.args.tree.now) (wrote_longer (PANICS) (wrote_same _ (ap (flat_map (parameter_docs c.args.text.now)) c.items.ensures) c.in_err-write_docs.ensures))))

pub returns-in_err-write_piece : goal.returns-in_err-write_piece
returns-in_err-write_piece g c = wrote_fails _ c.from_residual-in_err-write_piece.ensures.0 (wrote_longer (PANICS_END) (wrote_longer (parameters_text forms.Shown c.args.tree.now) (wrote_both (wrote_same _ (ap (flat_map (parameter_docs c.args.text.now)) c.items.ensures) c.in_ok-write_docs.ensures) c.in_err-write_piece.ensures)))

pub returns-in_err-write_parameters : goal.returns-in_err-write_parameters
returns-in_err-write_parameters g c = wrote_fails _ c.from_residual-in_err-write_parameters.ensures.0 (wrote_longer (PANICS_END) (wrote_both (wrote_both (wrote_same _ (ap (flat_map (parameter_docs c.args.text.now)) c.items.ensures) c.in_ok-write_docs.ensures) c.in_ok-write_piece.ensures) c.in_err-write_parameters.ensures))

pub returns : goal.returns
returns g c = wrote_both (wrote_both (wrote_both (wrote_same _ (ap (flat_map (parameter_docs c.args.text.now)) c.items.ensures) c.in_ok-write_docs.ensures) c.in_ok-write_piece.ensures) c.in_ok-write_parameters.ensures) c.write_piece-2.ensures
