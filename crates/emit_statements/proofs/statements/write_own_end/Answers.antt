use Rattle.std.proofs.Common.{◌++◌, ◌||◌, ◌∙◌, codes}
use Rattle.base_io.proofs.Writing.{wrote_same}
use Rattle.emit_statements.proofs.Choices.{no_text, yes_text}
use Rattle.emit_statements.specs.Statements.{answer_name, plain_end}
use Rattle.emit_statements.proofs.statements.write_own_end.Goals as goal

pub returns-then-not-is_wrapped : goal.returns-then-not-is_wrapped
returns-then-not-is_wrapped g c =
    wrote_same _ (c.plain_end.ensures ∙ no_text (c.args.fails || c.args.refused) _ (codes "        Ok(" ++ answer_name c.args.answer ++ codes ")\n") (plain_end c.args.answer) c.is_wrapped.ensures c.if-not-is_wrapped.true) c.write_piece.ensures

pub returns : goal.returns
returns g c =
    wrote_same _ (yes_text (c.args.fails || c.args.refused) _ (codes "        Ok(" ++ answer_name c.args.answer ++ codes ")\n") (plain_end c.args.answer) c.is_wrapped.ensures c.if-not-is_wrapped.false) c.write_wrapped_end.ensures
