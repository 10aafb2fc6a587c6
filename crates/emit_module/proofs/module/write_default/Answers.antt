use Rattle.std.proofs.Common.{◌∙◌, ap, rules, sym}
use Rattle.base_io.proofs.Writing.{wrote_same}
use Rattle.emit_module.specs.Modules.{default_by}
use Rattle.emit_module.proofs.module.write_default.Goals as goal

pub returns-then-has_parameters : goal.returns-then-has_parameters
returns-then-has_parameters g c = wrote_same _ (ap (default_by c.args.tree.now) (sym c.if-has_parameters.true ∙ c.has_parameters.ensures)) (search rules)

pub returns : goal.returns
returns g c = wrote_same _ (ap (default_by c.args.tree.now) (sym c.if-has_parameters.false ∙ c.has_parameters.ensures)) c.write_own_default.ensures
