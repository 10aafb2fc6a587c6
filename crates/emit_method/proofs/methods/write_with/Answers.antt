use Rattle.std.proofs.Common.{[], rules, true}
use Rattle.base_io.proofs.Writing.{wrote_same}
use Rattle.emit_statements.proofs.Choices.{no_text, yes_text}
use Rattle.emit_method.specs.Methods.{has_with, method_text}
use Rattle.emit_statements.specs.Sources.{seen}
use Rattle.emit_method.proofs.methods.write_with.Goals as goal

pub returns-then-not-has_with : goal.returns-then-not-has_with
returns-then-not-has_with g c =
    wrote_same _ (no_text (has_with c.args.source.now.tree.now c.args.method.now c.args.way) _ (method_text (seen c.args.source.now) c.args.number c.args.method.now c.args.way true) [] c.has_with.ensures c.if-not-has_with.true) (search rules)

pub returns : goal.returns
returns g c =
    wrote_same _ (yes_text (has_with c.args.source.now.tree.now c.args.method.now c.args.way) _ (method_text (seen c.args.source.now) c.args.number c.args.method.now c.args.way true) [] c.has_with.ensures c.if-not-has_with.false) c.write_method.ensures
