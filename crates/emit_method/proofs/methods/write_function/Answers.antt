use Rattle.std.proofs.Common.{◌++◌, [], codes, rules}
use Rattle.emit_method.specs.Methods.{function_end}
use Rattle.base_io.proofs.Writing.{wrote_same}
use Rattle.emit_statements.proofs.Choices.{if_false, if_true}
use Rattle.emit_method.proofs.methods.write_function.Goals as goal

pub returns-then-not-it : goal.returns-then-not-it
returns-then-not-it g c =
    wrote_same _ (if_false c.args.it.now.works (codes ", f: impl FnOnce(&mut D" ++ function_end c.args.it.now.answer) ([]) c.if-not-it.true) (search rules)

pub returns : goal.returns
returns g c =
    wrote_same _ (if_true c.args.it.now.works (codes ", f: impl FnOnce(&mut D" ++ function_end c.args.it.now.answer) ([]) c.if-not-it.false) c.write_function_of.ensures
