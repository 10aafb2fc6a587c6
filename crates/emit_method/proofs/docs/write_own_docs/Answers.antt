use Rattle.emit_method.specs.Docs.{trying_docs, waiting_docs}
use Rattle.emit_statements.specs.Statements.{method_seen}
use Rattle.base_io.proofs.Writing.{wrote_same}
use Rattle.emit_statements.specs.Ways.{may_refuse}
use Rattle.emit_statements.proofs.Choices.{no_text, yes_text}
use Rattle.emit_method.proofs.docs.write_own_docs.Goals as goal

pub returns-then-may_refuse : goal.returns-then-may_refuse
returns-then-may_refuse g c =
    wrote_same _ (yes_text (may_refuse c.args.it.now.way) _ (trying_docs (method_seen c.args.it.now)) (waiting_docs (method_seen c.args.it.now)) c.may_refuse.ensures c.if-may_refuse.true) c.write_trying.ensures

pub returns : goal.returns
returns g c =
    wrote_same _ (no_text (may_refuse c.args.it.now.way) _ (trying_docs (method_seen c.args.it.now)) (waiting_docs (method_seen c.args.it.now)) c.may_refuse.ensures c.if-may_refuse.false) c.write_waiting_docs.ensures
