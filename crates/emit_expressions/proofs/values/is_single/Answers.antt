use Rattle.std.proofs.Common.{◌∙◌}
use Rattle.emit_expressions.proofs.ValueTexts.{is-Minus, is-Product, is-Sum}
use Rattle.emit_expressions.specs.Scopes.{seen}
use Rattle.emit_expressions.proofs.values.is_single.Goals as goal

pub returns-in-Minus : goal.returns-in-Minus
returns-in-Minus c = c.is_variable.ensures ∙ is-Minus (seen c.args.scope.now) _ _ _ _ c.in-Minus.is c.get.ensures

pub returns-in-Product : goal.returns-in-Product
returns-in-Product c = c.single_factor.ensures ∙ is-Product (seen c.args.scope.now) _ _ _ _ _ c.in-Product.is c.get-in-Product.ensures c.items.ensures

pub returns-in-Sum : goal.returns-in-Sum
returns-in-Sum c = c.single_addend.ensures ∙ is-Sum (seen c.args.scope.now) _ _ _ _ _ c.in-Sum.is c.get-in-Sum.ensures c.items-in-Sum.ensures
