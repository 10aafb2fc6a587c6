use Rattle.std.proofs.Common.{◌∙◌, ap, sym}
use Rattle.base_io.proofs.Writing.{wrote_same}
use Rattle.emit_choices.specs.Starts.{starts_by}
use Rattle.emit_choices.proofs.starts.write_starts.Goals as goal

pub returns-then-has_parameters : goal.returns-then-has_parameters
returns-then-has_parameters g c = wrote_same _ (ap (starts_by c.args.tree.now) (sym c.if-has_parameters.true ∙ c.has_parameters.ensures)) c.write_chosen.ensures

pub returns : goal.returns
returns g c = wrote_same _ (ap (starts_by c.args.tree.now) (sym c.if-has_parameters.false ∙ c.has_parameters.ensures)) c.write_fixed.ensures
