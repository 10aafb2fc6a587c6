use Rattle.std.proofs.Common.{codes, [], rules}
use Rattle.base_io.proofs.Writing.{wrote_same}
use Rattle.emit_statements.proofs.Choices.{no_text, yes_text}
use Rattle.emit_names.specs.Lints.{has_odd_name}
use Rattle.emit_module.proofs.declared.write_lints.Goals as goal

pub returns-then-not-has_odd_name : goal.returns-then-not-has_odd_name
returns-then-not-has_odd_name g c =
    wrote_same _ (no_text (has_odd_name c.args.tree.now) _ (codes "#[allow(non_snake_case, non_upper_case_globals)]\n") [] c.has_odd_name.ensures c.if-not-has_odd_name.true) (search rules)

pub returns : goal.returns
returns g c =
    wrote_same _ (yes_text (has_odd_name c.args.tree.now) _ (codes "#[allow(non_snake_case, non_upper_case_globals)]\n") [] c.has_odd_name.ensures c.if-not-has_odd_name.false) c.write_piece.ensures
