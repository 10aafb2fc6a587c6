use Rattle.std.proofs.Common.{length}
use Rattle.emit_method.specs.Docs.{errors_text, refusal_docs}
use Rattle.emit_statements.specs.Statements.{method_seen}
use Rattle.base_io.proofs.Writing.{wrote_same}
use Rattle.emit_statements.specs.Ways.{may_refuse}
use Rattle.emit_statements.proofs.Choices.{no_text, yes_text}
use Rattle.emit_method.proofs.docs.write_failures.Goals as goal

pub returns-then-may_refuse : goal.returns-then-may_refuse
returns-then-may_refuse g c =
    wrote_same _ (yes_text (may_refuse c.args.it.now.way) _ (refusal_docs (method_seen c.args.it.now)) (errors_text c.args.it.now.fails (length c.args.it.now.method.now.blocks)) c.may_refuse.ensures c.if-may_refuse.true) c.write_refusals.ensures

pub returns : goal.returns
returns g c =
    wrote_same _ (no_text (may_refuse c.args.it.now.way) _ (refusal_docs (method_seen c.args.it.now)) (errors_text c.args.it.now.fails (length c.args.it.now.method.now.blocks)) c.may_refuse.ensures c.if-may_refuse.false) c.write_errors.ensures
