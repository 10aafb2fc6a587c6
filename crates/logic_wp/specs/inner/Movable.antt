-- Formulas whose inputs and locals can be moved to the places of a waiting client's, and numbers
-- that stay small.
use Rattle.std.specs.Prelude.{ℕ, ◌+◌, Bool, true, ◌&&◌, nat_lt}
use Rattle.std.specs.List.{list_all}
use Rattle.lang_base.specs.Limits.{FIRST_INPUT}
use Rattle.lang_base.specs.Numbers.{is_within}
use Rattle.logic_linear.specs.declared.form.Term.{Term}
use Rattle.logic_linear.specs.Linear.{Linear}
use Rattle.logic_linear.specs.declared.formula.Formula.{Formula}
use Rattle.logic_linear.specs.declared.formula.Formula.TheOpen.{Formula-F, Row, Flag, All as Every}
use Rattle.logic_linear.specs.declared.formula.Formula.TheOpen.{Any as Some_of}
use Rattle.logic_linear.specs.declared.formula.Formula.TheFolds.{fold-Formula}
use Rattle.logic_wp.specs.Limits.{QUERY_PLACES}

-- `FIRST_INPUT` places further it is still a place of queries
abbrev pub is_movable_place : ℕ → Bool
is_movable_place place = nat_lt (place + FIRST_INPUT) QUERY_PLACES

abbrev pub is_movable_term : Term → Bool
is_movable_term term = is_movable_place term.place

abbrev pub movable_layer : Formula-F Bool → Bool
movable_layer (Row form) = list_all is_movable_term form.terms
movable_layer (Flag place is) = is_movable_place place
movable_layer (Every parts) = list_all (λ part. part) parts
movable_layer (Some_of parts) = list_all (λ part. part) parts

-- each place can be moved
abbrev pub is_movable : Formula → Bool
is_movable = fold-Formula Bool movable_layer

abbrev pub has_small_times : ℕ → Term → Bool
has_small_times bound term = is_within bound term.times

abbrev pub is_small_form : ℕ → Linear → Bool
is_small_form bound form =
    list_all (has_small_times bound) form.terms && is_within bound form.constant

abbrev pub small_layer : ℕ → Formula-F Bool → Bool
small_layer bound (Row form) = is_small_form bound form
small_layer bound (Flag place is) = true
small_layer bound (Every parts) = list_all (λ part. part) parts
small_layer bound (Some_of parts) = list_all (λ part. part) parts

-- the magnitude of each number is at most the bound
abbrev pub is_small : ℕ → Formula → Bool
is_small bound = fold-Formula Bool (small_layer bound)
