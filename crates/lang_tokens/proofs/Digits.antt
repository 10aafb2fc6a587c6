-- A number of at most 32 digits fits.
use Rattle.std.proofs.Common.{◌≡◌, ℕ, ◌+◌, ◌*◌, ◌^◌, ◌<◌, ◌≤◌, true, arith}
use Rattle.std.proofs.Math.Nat.{pow-le-pow_right}
use Rattle.lang_tokens.specs.Spelling.{is_digit}

pub has_room : (value i n : ℕ) → value < 10 ^ i → i < n → n ≤ 32 → value * 10 + 9 < 2 ^ 128
has_room value i n h lt le =
    let ten : 0 < 10 = omega arith in
    let below : i ≤ 31 = omega arith in
    let grows : 10 ^ i ≤ 10 ^ 31 = pow-le-pow_right ten below in
    omega arith

pub digit_is : (byte : ℕ) → is_digit byte ≡ true → (48 ≤ byte) × (byte ≤ 57)
digit_is byte h = grind arith
