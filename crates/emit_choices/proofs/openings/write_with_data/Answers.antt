use Rattle.std.proofs.Common.{◌∙◌, ap, sym}
use Rattle.base_io.proofs.Writing.{wrote_same}
use Rattle.emit_choices.specs.Openings.{with_data_by}
use Rattle.emit_choices.proofs.openings.write_with_data.Goals as goal

pub returns-then-has_parameters : goal.returns-then-has_parameters
returns-then-has_parameters g c = wrote_same _ (ap (with_data_by c.args.text.now c.args.tree.now) (sym c.if-has_parameters.true ∙ c.has_parameters.ensures)) c.write_chosen_data.ensures

pub returns : goal.returns
returns g c = wrote_same _ (ap (with_data_by c.args.text.now c.args.tree.now) (sym c.if-has_parameters.false ∙ c.has_parameters.ensures)) (wrote_same _ c.with_data_bytes.ensures c.write_piece.ensures)
