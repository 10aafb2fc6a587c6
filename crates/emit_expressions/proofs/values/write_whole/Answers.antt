use Rattle.std.proofs.Common.{[]}
use Rattle.emit_expressions.specs.Expressions.{written}
use Rattle.emit_expressions.specs.Values.{is_single, shortened, single_text}
use Rattle.base_io.proofs.Writing.{wrote_same}
use Rattle.emit_expressions.proofs.ValueTexts.{first_by, second_by}
use Rattle.emit_expressions.specs.Scopes.{seen}
use Rattle.emit_expressions.proofs.values.write_whole.Goals as goal

pub returns-then-is_single : goal.returns-then-is_single
returns-then-is_single g c =
    let scope = seen c.args.scope.now in
    let value = c.args.expression.now in
    wrote_same _ (first_by (is_single scope value) c.is_single.result (single_text scope value) (shortened ((written scope value).wide [])) c.is_single.ensures c.if-is_single.true) c.write_single.ensures

pub returns : goal.returns
returns g c =
    let scope = seen c.args.scope.now in
    let value = c.args.expression.now in
    wrote_same _ (second_by (is_single scope value) c.is_single.result (single_text scope value) (shortened ((written scope value).wide [])) c.is_single.ensures c.if-is_single.false) c.write_shortened.ensures
