use Rattle.emit_expressions.proofs.Written.{narrows-Minus}
use Rattle.emit_expressions.proofs.expressions.narrows.Goals as goal

pub returns-in-Minus : goal.returns-in-Minus
returns-in-Minus c = λ scope. narrows-Minus scope _ _ _ _ _ c.in-Minus.is c.get.ensures (c.is_number.ensures scope)
