use Rattle.std.proofs.Common.{◌∙◌, ◌&&◌, not, ap}
use Rattle.emit_expressions.specs.Expressions.{written}
use Rattle.emit_expressions.proofs.expressions.are_plain.Goals as goal

pub returns : goal.returns
returns c =
    λ scope. c.plain_by.ensures
    ∙ ap (λ t. (not t && not c.narrows-other.result) && c.args.named) (c.narrows-one.ensures scope)
    ∙ ap (λ t. (not (written scope c.args.left.now).narrows && not t) && c.args.named) (c.narrows-other.ensures scope)
