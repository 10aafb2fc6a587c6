use Rattle.base_io.proofs.Writing.{wrote_both, wrote_same}
use Rattle.emit_expressions.proofs.ValueTexts.{single-Minus, single-Product, single-Sum}
use Rattle.emit_expressions.specs.Scopes.{seen}
use Rattle.emit_expressions.proofs.values.write_single.Goals as goal

pub returns-in_ok-write_piece-in-Minus : goal.returns-in_ok-write_piece-in-Minus
returns-in_ok-write_piece-in-Minus g c =
    wrote_same _ (single-Minus (seen c.args.scope.now) _ _ _ _ c.in-Minus.is c.get.ensures) (wrote_both c.in_ok-write_piece-in-Minus.ensures c.write_plain.ensures)

pub returns-in_ok-write_plain-in-Product : goal.returns-in_ok-write_plain-in-Product
returns-in_ok-write_plain-in-Product g c =
    wrote_same _ (single-Product (seen c.args.scope.now) _ _ _ _ _ c.in-Product.is c.get-in-Product.ensures c.items.ensures) (wrote_both c.in_ok-write_plain-in-Product.ensures c.write_plain_factors.ensures)

pub returns-in_ok-write_plain-in-Sum : goal.returns-in_ok-write_plain-in-Sum
returns-in_ok-write_plain-in-Sum g c =
    wrote_same _ (single-Sum (seen c.args.scope.now) _ _ _ _ _ c.in-Sum.is c.get-in-Sum.ensures c.items-in-Sum.ensures) (wrote_both c.in_ok-write_plain-in-Sum.ensures c.write_plain_addends.ensures)
