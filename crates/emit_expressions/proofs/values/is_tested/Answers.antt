use Rattle.std.proofs.Common.{◌&&◌, ◌∙◌, not, ap}
use Rattle.emit_expressions.specs.Scopes.{seen}
use Rattle.emit_expressions.proofs.values.is_tested.Goals as goal

pub returns : goal.returns
returns c =
    let scope = seen c.args.scope.now in
    c.tested_by.ensures ∙ ap (λ t. t && not scope.whole) (c.narrows-long.ensures scope)
