use Rattle.emit_method.specs.Called.{plain_name, work_name}
use Rattle.base_io.proofs.Writing.{wrote_same}
use Rattle.emit_statements.proofs.Choices.{if_false, if_true}
use Rattle.emit_method.proofs.called.write_name_of.Goals as goal

pub returns-then-not-it : goal.returns-then-not-it
returns-then-not-it g c =
    wrote_same _ (if_false c.args.it.now.works (work_name c.args.it.now.source.now.tree.now c.args.it.now.method.now.name c.args.way) (plain_name c.args.it.now.source.now.tree.now c.args.it.now.method.now.name c.args.way) c.if-not-it.true) c.write_plain_name.ensures

pub returns : goal.returns
returns g c =
    wrote_same _ (if_true c.args.it.now.works (work_name c.args.it.now.source.now.tree.now c.args.it.now.method.now.name c.args.way) (plain_name c.args.it.now.source.now.tree.now c.args.it.now.method.now.name c.args.way) c.if-not-it.false) c.write_work_name.ensures
