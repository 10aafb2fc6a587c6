use Rattle.std.proofs.Common.{[], rules}
use Rattle.base_io.proofs.Writing.{wrote_same}
use Rattle.emit_statements.proofs.Choices.{no_text, yes_text}
use Rattle.emit_choices.specs.Declarations.{is_field}
use Rattle.emit_module.specs.Modules.{field_text}
use Rattle.emit_module.proofs.fields.write_line.Goals as goal

pub returns-then-not-is_field : goal.returns-then-not-is_field
returns-then-not-is_field g c =
    wrote_same _ (no_text (is_field c.args.declared.now) _ (field_text c.args.tree.now c.args.declared.now) [] c.is_field.ensures c.if-not-is_field.true) (search rules)

pub returns : goal.returns
returns g c =
    wrote_same _ (yes_text (is_field c.args.declared.now) _ (field_text c.args.tree.now c.args.declared.now) [] c.is_field.ensures c.if-not-is_field.false) c.write_field.ensures
