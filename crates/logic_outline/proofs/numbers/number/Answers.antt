use Rattle.logic_outline.proofs.NumberLemmas.{a_number, no_number}
use Rattle.logic_outline.proofs.numbers.number.Goals as goal

pub returns-in_err-number : goal.returns-in_err-number
returns-in_err-number c = rw c.from_residual.ensures (no_number c.args.bytes.now c.split_at.result.0.now c.digits_len.result c.digits_len.ensures.len c.split_at.ensures.front c.in_err-number.ensures)

pub returns : goal.returns
returns c = a_number c.args.bytes.now c.split_at.result.0.now c.digits_len.result c.in_ok-number.number c.split_at.result.1 c.digits_len.ensures.len c.split_at.ensures.front c.split_at.ensures.back c.in_ok-number.ensures.0 c.in_ok-number.ensures.1
