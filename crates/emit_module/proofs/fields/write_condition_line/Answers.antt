use Rattle.std.proofs.Common.{[], rules}
use Rattle.emit_code.specs.Code.{is_always}
use Rattle.base_io.proofs.Writing.{wrote_same}
use Rattle.emit_statements.proofs.Choices.{no_text, yes_text}
use Rattle.emit_module.specs.inner.Lines.{condition_at}
use Rattle.emit_statements.specs.Sources.{seen}
use Rattle.emit_module.proofs.fields.write_condition_line.Goals as goal

pub returns-then-is_always : goal.returns-then-is_always
returns-then-is_always g c =
    wrote_same _ (yes_text (is_always c.args.which.now.guard) _ [] (condition_at c.args.line (seen c.args.source.now) c.args.place c.args.which.now) c.is_always.ensures c.if-is_always.true) (search rules)

pub returns : goal.returns
returns g c =
    wrote_same _ (no_text (is_always c.args.which.now.guard) _ [] (condition_at c.args.line (seen c.args.source.now) c.args.place c.args.which.now) c.is_always.ensures c.if-is_always.false) c.write_condition.ensures
