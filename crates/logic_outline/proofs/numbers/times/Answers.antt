use Rattle.std.proofs.Common.{codes}
use Rattle.std.specs.Fmt.{signed_decimal}
use Rattle.logic_outline.specs.Outlines.{IsFactor}
use Rattle.logic_outline.proofs.Readings.{word_none, word_then}
use Rattle.logic_outline.proofs.numbers.times.Goals as goal

pub returns-in_err-after : goal.returns-in_err-after
returns-in_err-after c = rw c.from_residual.ensures (word_none signed_decimal IsFactor (codes " ") c.args.bytes.now c.in_err-after.ensures)

pub returns : goal.returns
returns c = word_then signed_decimal IsFactor (codes " ") c.in_ok-after.field-0.now c.args.bytes.now c.factor.result c.in_ok-after.ensures c.factor.ensures
