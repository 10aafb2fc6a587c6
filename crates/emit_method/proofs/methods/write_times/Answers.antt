use Rattle.std.proofs.Common.{[], rules}
use Rattle.base_io.proofs.Writing.{wrote_same}
use Rattle.emit_statements.proofs.Choices.{no_text, yes_text}
use Rattle.emit_method.specs.Methods.{has_times, timed_texts}
use Rattle.emit_statements.specs.Sources.{seen}
use Rattle.emit_method.proofs.methods.write_times.Goals as goal

pub returns-then-not-has_times : goal.returns-then-not-has_times
returns-then-not-has_times g c =
    wrote_same _ (no_text (has_times (seen c.args.source.now) c.args.number c.args.method.now) _ (timed_texts (seen c.args.source.now) c.args.number c.args.method.now) [] c.has_times.ensures c.if-not-has_times.true) (search rules)

pub returns : goal.returns
returns g c =
    wrote_same _ (yes_text (has_times (seen c.args.source.now) c.args.number c.args.method.now) _ (timed_texts (seen c.args.source.now) c.args.number c.args.method.now) [] c.has_times.ensures c.if-not-has_times.false) c.write_timed.ensures
