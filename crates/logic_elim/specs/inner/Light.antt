-- For private contracts: tests of light cubes.
use Rattle.std.specs.Prelude.{ℕ, ◌^◌, ℤ, pos, neg_ℤ, int_le, Bool, ◌&&◌}
use Rattle.std.specs.List.{list_all}
use Rattle.logic_linear.specs.declared.form.Term.{Term}
use Rattle.logic_linear.specs.Linear.{Linear}
use Rattle.logic_elim.specs.declared.rows.Numbered.{Numbered}

-- Whether the number's magnitude is at most the bound.
abbrev pub is_within : ℕ → ℤ → Bool
is_within bound number = int_le (neg_ℤ (pos bound)) number && int_le number (pos bound)

abbrev pub has_light_times : Term → Bool
has_light_times term = is_within (2 ^ 10) term.times

abbrev pub has_light_numbers : Linear → Bool
has_light_numbers row = list_all has_light_times row.terms && is_within (2 ^ 40) row.constant

abbrev pub is_light_row : Numbered → Bool
is_light_row numbered = has_light_numbers numbered.row
