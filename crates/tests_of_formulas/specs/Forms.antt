-- The forms that the tests make: of one variable and of two.
use Rattle.std.specs.Prelude.{ℕ, ℤ, [], ◌∷◌}
use Rattle.logic_linear.specs.Linear.{Linear}

-- times * x + constant, where x has place 1
abbrev pub one_variable : ℤ → ℤ → Linear
one_variable times constant = record {
  terms = record { place = 1; times = times } ∷ [];
  constant = constant;
}

-- The form of two terms and a constant.
abbrev pub pair_of : ℕ → ℤ → ℕ → ℤ → ℤ → Linear
pair_of place times other other_times constant = record {
  terms =
      record { place = place; times = times } ∷ record { place = other; times = other_times } ∷ [];
  constant = constant;
}
