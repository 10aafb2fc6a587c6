use Rattle.std.proofs.Common.{◌∙◌}
use Rattle.emit_expressions.proofs.ValueTexts.{is-Named}
use Rattle.emit_expressions.specs.Scopes.{seen}
use Rattle.emit_expressions.proofs.values.is_variable.Goals as goal

pub returns-in-Named : goal.returns-in-Named
returns-in-Named c = c.is_variable_name.ensures ∙ is-Named (seen c.args.scope.now) _ _ _ c.in-Named.is
