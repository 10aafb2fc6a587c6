use Rattle.std.proofs.Common.{◌^◌, codes, decimal}
use Rattle.logic_outline.specs.inner.Parts.{IsBelow}
use Rattle.logic_outline.proofs.Readings.{word_none, word_then}
use Rattle.logic_outline.proofs.numbers.later_number.Goals as goal

pub returns-in_err-after : goal.returns-in_err-after
returns-in_err-after c = rw c.from_residual.ensures (word_none decimal (IsBelow (2 ^ 128)) (codes " ") c.args.bytes.now c.in_err-after.ensures)

pub returns : goal.returns
returns c = word_then decimal (IsBelow (2 ^ 128)) (codes " ") c.in_ok-after.field-0.now c.args.bytes.now c.number.result c.in_ok-after.ensures c.number.ensures
