use Rattle.std.proofs.Common.{[], rules}
use Rattle.base_io.proofs.Writing.{wrote_same}
use Rattle.emit_statements.proofs.Choices.{no_text, yes_text}
use Rattle.emit_method.specs.Methods.{has_try, both_text}
use Rattle.emit_statements.specs.declared.ways.Way.TheVariants as ways
use Rattle.emit_statements.specs.Sources.{seen}
use Rattle.emit_method.proofs.methods.write_try.Goals as goal

pub returns-then-not-has_try : goal.returns-then-not-has_try
returns-then-not-has_try g c =
    wrote_same _ (no_text (has_try (seen c.args.source.now) c.args.number c.args.method.now) _ (both_text (seen c.args.source.now) c.args.number c.args.method.now ways.Tries) [] c.has_try.ensures c.if-not-has_try.true) (search rules)

pub returns : goal.returns
returns g c =
    wrote_same _ (yes_text (has_try (seen c.args.source.now) c.args.number c.args.method.now) _ (both_text (seen c.args.source.now) c.args.number c.args.method.now ways.Tries) [] c.has_try.ensures c.if-not-has_try.false) c.write_both.ensures
