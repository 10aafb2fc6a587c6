-- The elimination of a variable.
use Rattle.std.specs.Prelude.{ℕ, pos, neg_ℤ, int_lt, Bool, not, ◌&&◌, List, ◌++◌, map}
use Rattle.std.specs.List.{filter, flat_map}
use Rattle.logic_linear.specs.Linear.{Linear}
use Rattle.logic_linear.specs.Substitution.{times_at}
use Rattle.logic_linear.specs.Sums.{sum_of_multiples}

-- The row bounds the variable above, or below, or is free of it.
abbrev pub is_upper : ℕ → Linear → Bool
is_upper place row = int_lt (pos 0) (times_at place row.terms)

abbrev pub is_lower : ℕ → Linear → Bool
is_lower place row = int_lt (times_at place row.terms) (pos 0)

abbrev pub is_free : ℕ → Linear → Bool
is_free place row = not (is_upper place row) && not (is_lower place row)

-- The sum of the two rows in which the variable goes.
abbrev pub sum_row : ℕ → Linear → Linear → Linear
sum_row place upper lower =
    sum_of_multiples (neg_ℤ (times_at place lower.terms)) upper (times_at place upper.terms) lower

-- The sums of the upper row and each lower one.
abbrev pub sums_of_upper : ℕ → List Linear → Linear → List Linear
sums_of_upper place lowers upper = map (sum_row place upper) lowers

-- The sums of each upper row and each lower one.
abbrev pub sums_of_sides : ℕ → List Linear → List Linear → List Linear
sums_of_sides place uppers lowers = flat_map (sums_of_upper place lowers) uppers

-- The rows without the variable, and all sums of an upper and a lower row.
abbrev pub eliminated : ℕ → List Linear → List Linear
eliminated place rows =
    filter (is_free place) rows
    ++ sums_of_sides place (filter (is_upper place) rows) (filter (is_lower place) rows)
