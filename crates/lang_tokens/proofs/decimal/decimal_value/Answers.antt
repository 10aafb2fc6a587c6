use Rattle.std.proofs.Common.{arith, get_or}
use Rattle.lang_tokens.proofs.Digits.{has_room, digit_is}
use Rattle.lang_tokens.proofs.decimal.decimal_value.Goals as goal

pub overflow_mul-value : goal.overflow_mul-value
overflow_mul-value c = omega (arith, has_room _ _ _ c.loop-digit.invariant.1 c.loop-digit-test.true c.requires.short)

pub overflow_add-value : goal.overflow_add-value
overflow_add-value c =
    let digit = digit_is (get_or c.args.digits.now c.loop-digit.digit-index 0) (c.requires.digits c.loop-digit.digit-index 0 c.loop-digit-test.true) in
    omega (arith, digit.0, digit.1, has_room _ _ _ c.loop-digit.invariant.1 c.loop-digit-test.true c.requires.short)
