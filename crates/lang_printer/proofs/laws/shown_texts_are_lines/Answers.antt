use Rattle.lang_printer.proofs.ExpressionLines.{expression_in_line}
use Rattle.lang_printer.proofs.laws.shown_texts_are_lines.Goals as goal

pub returns : goal.returns
returns c = expression_in_line
