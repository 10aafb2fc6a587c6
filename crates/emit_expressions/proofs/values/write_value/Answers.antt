use Rattle.emit_expressions.specs.Expressions.{plain_text, written}
use Rattle.emit_expressions.specs.Values.{long_text}
use Rattle.base_io.proofs.Writing.{wrote_same}
use Rattle.emit_expressions.proofs.ValueTexts.{first_by, second_by}
use Rattle.emit_expressions.specs.Scopes.{seen}
use Rattle.emit_expressions.proofs.values.write_value.Goals as goal

pub returns-then-not-narrows : goal.returns-then-not-narrows
returns-then-not-narrows g c =
    let scope = seen c.args.scope.now in
    let value = c.args.expression.now in
    wrote_same _ (second_by (written scope value).narrows c.narrows.result (long_text scope value c.args.ending.now) (plain_text scope value) (c.narrows.ensures scope) c.if-not-narrows.true) c.write_plain.ensures

pub returns : goal.returns
returns g c =
    let scope = seen c.args.scope.now in
    let value = c.args.expression.now in
    wrote_same _ (first_by (written scope value).narrows c.narrows.result (long_text scope value c.args.ending.now) (plain_text scope value) (c.narrows.ensures scope) c.if-not-narrows.false) c.write_long.ensures
