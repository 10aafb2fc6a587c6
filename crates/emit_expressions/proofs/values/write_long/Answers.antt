use Rattle.std.proofs.Common.{[], refl}
use Rattle.emit_expressions.specs.Expressions.{written}
use Rattle.emit_expressions.specs.Values.{narrowed, whole_text}
use Rattle.base_io.proofs.Writing.{wrote_same}
use Rattle.emit_expressions.proofs.ValueTexts.{first_by, second_by}
use Rattle.emit_expressions.specs.Scopes.{seen}
use Rattle.emit_expressions.proofs.values.write_long.Goals as goal

pub returns-then-scope : goal.returns-then-scope
returns-then-scope g c =
    let scope = seen c.args.scope.now in
    let value = c.args.expression.now in
    wrote_same _ (first_by scope.whole scope.whole (whole_text scope value) (narrowed ((written scope value).wide []) c.args.ending.now) refl c.if-scope.true) c.write_whole.ensures

pub returns : goal.returns
returns g c =
    let scope = seen c.args.scope.now in
    let value = c.args.expression.now in
    wrote_same _ (second_by scope.whole scope.whole (whole_text scope value) (narrowed ((written scope value).wide []) c.args.ending.now) refl c.if-scope.false) c.write_narrowed.ensures
