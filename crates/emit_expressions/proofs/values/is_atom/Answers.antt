use Rattle.std.proofs.Common.{◌∙◌}
use Rattle.emit_expressions.proofs.ValueTexts.{atom-Minus}
use Rattle.emit_expressions.specs.Scopes.{seen}
use Rattle.emit_expressions.proofs.values.is_atom.Goals as goal

pub returns-in-Minus : goal.returns-in-Minus
returns-in-Minus c = c.is_number.ensures (seen c.args.scope.now) ∙ atom-Minus (seen c.args.scope.now) _ _ _ _ c.in-Minus.is c.get.ensures
