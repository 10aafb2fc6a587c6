use Rattle.std.proofs.Common.{◌^◌}
use Rattle.logic_outline.specs.inner.Parts.{clash_text, IsBelow, IsClash, later_number}
use Rattle.logic_outline.proofs.Readings.{first_fails, joined, second_fails}
use Rattle.logic_outline.proofs.NodeParts.{clash_joins}
use Rattle.logic_outline.proofs.reading.clash.Goals as goal

pub returns-in_err-left : goal.returns-in_err-left
returns-in_err-left c = rw c.from_residual.ensures (first_fails later_number (IsBelow (2 ^ 32)) later_number (λ row. IsBelow (2 ^ 32)) clash_text IsClash clash_joins c.args.bytes.now c.in_err-left.ensures)

pub returns-in_err-right : goal.returns-in_err-right
returns-in_err-right c = rw c.from_residual-in_err-right.ensures (second_fails later_number (IsBelow (2 ^ 32)) later_number (λ row. IsBelow (2 ^ 32)) clash_text IsClash clash_joins c.args.bytes.now (c.in_ok-left.left, c.in_ok-left.rest) c.in_ok-left.ensures c.in_err-right.ensures)

pub returns : goal.returns
returns c = joined later_number (IsBelow (2 ^ 32)) later_number (λ row. IsBelow (2 ^ 32)) clash_text IsClash clash_joins c.args.bytes.now (c.in_ok-left.left, c.in_ok-left.rest) (c.in_ok-right.right, c.in_ok-right.rest) c.in_ok-left.ensures c.in_ok-right.ensures
