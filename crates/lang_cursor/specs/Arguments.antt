-- The trees of arguments that are numbers.
use Rattle.std.specs.Prelude.{ℕ, true, false}
use Rattle.lang_tree.specs.declared.tree.Arg.{Arg}
use Rattle.lang_tree.specs.declared.tree.Arg.TheVariants as args

-- a number after a minus sign at `at`
abbrev pub negative : ℕ → ℕ → ℕ → Arg
negative at digits place = args.Int at (record { at = place; minus = true; digits = digits })

-- one without a sign
abbrev pub plain : ℕ → ℕ → Arg
plain at digits = args.Int at (record { at = at; minus = false; digits = digits })
