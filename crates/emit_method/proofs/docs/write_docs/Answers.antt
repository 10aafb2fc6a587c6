use Rattle.emit_method.specs.Docs.{own_docs, work_docs}
use Rattle.emit_statements.specs.Statements.{method_seen}
use Rattle.base_io.proofs.Writing.{wrote_same}
use Rattle.emit_statements.proofs.Choices.{if_false, if_true}
use Rattle.emit_method.proofs.docs.write_docs.Goals as goal

pub returns-then-it : goal.returns-then-it
returns-then-it g c =
    wrote_same _ (if_true c.args.it.now.works (work_docs (method_seen c.args.it.now)) (own_docs (method_seen c.args.it.now)) c.if-it.true) c.write_work_docs.ensures

pub returns : goal.returns
returns g c =
    wrote_same _ (if_false c.args.it.now.works (work_docs (method_seen c.args.it.now)) (own_docs (method_seen c.args.it.now)) c.if-it.false) c.write_own_docs.ensures
