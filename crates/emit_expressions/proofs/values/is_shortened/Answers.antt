use Rattle.std.proofs.Common.{◌&&◌, ◌∙◌, not, ap}
use Rattle.emit_expressions.specs.Scopes.{seen}
use Rattle.emit_expressions.specs.Expressions.{written}
use Rattle.emit_expressions.proofs.values.is_shortened.Goals as goal

pub returns : goal.returns
returns c =
    let scope = seen c.args.scope.now in
    c.shortened_by.ensures
    ∙ ap (λ t. (t && scope.whole) && not c.is_single-single.result) (c.narrows-long.ensures scope)
    ∙ ap (λ t. ((written scope c.args.expression.now).narrows && scope.whole) && not t) c.is_single-single.ensures
