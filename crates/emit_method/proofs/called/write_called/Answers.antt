use Rattle.std.proofs.Common.{◌++◌, codes}
use Rattle.emit_method.specs.Called.{plain_called, work_name}
use Rattle.emit_statements.specs.Statements.{method_seen}
use Rattle.base_io.proofs.Writing.{wrote_same}
use Rattle.emit_statements.proofs.Choices.{if_false, if_true}
use Rattle.emit_method.proofs.called.write_called.Goals as goal

pub returns-then-not-it : goal.returns-then-not-it
returns-then-not-it g c =
    wrote_same _ (if_false c.args.it.now.works (work_name c.args.it.now.source.now.tree.now c.args.it.now.method.now.name c.args.it.now.way ++ codes "<R>") (plain_called (method_seen c.args.it.now)) c.if-not-it.true) c.write_plain_called.ensures

pub returns : goal.returns
returns g c =
    wrote_same _ (if_true c.args.it.now.works (work_name c.args.it.now.source.now.tree.now c.args.it.now.method.now.name c.args.it.now.way ++ codes "<R>") (plain_called (method_seen c.args.it.now)) c.if-not-it.false) c.write_generic.ensures
