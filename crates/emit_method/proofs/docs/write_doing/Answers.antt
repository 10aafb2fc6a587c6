use Rattle.emit_method.specs.Docs.{asserting_text, likeness_text}
use Rattle.emit_statements.specs.Statements.{method_seen}
use Rattle.base_io.proofs.Writing.{wrote_same}
use Rattle.emit_statements.specs.Ways.{asserts}
use Rattle.emit_statements.proofs.Choices.{no_text, yes_text}
use Rattle.emit_method.proofs.docs.write_doing.Goals as goal

pub returns-then-asserts : goal.returns-then-asserts
returns-then-asserts g c =
    wrote_same _ (yes_text (asserts c.args.it.now.way) _ (asserting_text (method_seen c.args.it.now)) (likeness_text (method_seen c.args.it.now)) c.asserts.ensures c.if-asserts.true) c.write_asserting.ensures

pub returns : goal.returns
returns g c =
    wrote_same _ (no_text (asserts c.args.it.now.way) _ (asserting_text (method_seen c.args.it.now)) (likeness_text (method_seen c.args.it.now)) c.asserts.ensures c.if-asserts.false) c.write_likeness.ensures
