use Rattle.std.proofs.Common.{[]}
use Rattle.emit_expressions.specs.Scopes.{seen}
use Rattle.emit_expressions.specs.Expressions.{plain_text, written}
use Rattle.emit_expressions.specs.Values.{value_text}
use Rattle.std.proofs.Common.{◌∙◌, sym}
use Rattle.emit_bodies.proofs.BodyTexts.{result_narrow, result_plain, result_wrapped}
use Rattle.base_io.proofs.Writing.{wrote_same}
use Rattle.emit_bodies.proofs.bodies.write_result.Goals as goal

pub returns-then-narrows : goal.returns-then-narrows
returns-then-narrows g c =
    wrote_same _ (result_narrow c.args.fails (written (seen c.args.scope.now) c.args.value.now).narrows (value_text (seen c.args.scope.now) c.args.value.now []) (plain_text (seen c.args.scope.now) c.args.value.now) (sym (c.narrows.ensures (seen c.args.scope.now)) ∙ c.if-narrows.true)) c.write_value.ensures

pub returns-then-not-fails : goal.returns-then-not-fails
returns-then-not-fails g c =
    wrote_same _ (result_plain c.args.fails (written (seen c.args.scope.now) c.args.value.now).narrows (value_text (seen c.args.scope.now) c.args.value.now []) (plain_text (seen c.args.scope.now) c.args.value.now) (sym (c.narrows.ensures (seen c.args.scope.now)) ∙ c.if-narrows.false) c.if-not-fails.true) c.write_plain.ensures

pub returns : goal.returns
returns g c =
    wrote_same _ (result_wrapped c.args.fails (written (seen c.args.scope.now) c.args.value.now).narrows (value_text (seen c.args.scope.now) c.args.value.now []) (plain_text (seen c.args.scope.now) c.args.value.now) (sym (c.narrows.ensures (seen c.args.scope.now)) ∙ c.if-narrows.false) c.if-not-fails.false) c.write_wrapped.ensures
