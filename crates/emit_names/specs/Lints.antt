-- The names of which rustc's lints would speak.
use Rattle.std.specs.Prelude.{ℕ, Bool, false, not, ◌&&◌, ◌||◌, ◌==◌, List, [], ◌∷◌}
use Rattle.std.specs.List.{list_any}
use Rattle.lang_tree.specs.declared.tree.MonitorTree.{MonitorTree}
use Rattle.emit_names.specs.Names.{is_alone, inputs_of, members}

-- two `_` in a row
abbrev pub has_double : List ℕ → Bool
has_double [] = false
has_double (b ∷ []) = false
has_double (b ∷ c ∷ more) = (b == 95 && c == 95) || has_double (c ∷ more)

abbrev pub begins_underlined : List ℕ → Bool
begins_underlined [] = false
begins_underlined (b ∷ more) = b == 95

-- a name of a scope that is written as it stands, begins with `_` or has two in a row
abbrev pub is_odd : List (List ℕ) → List ℕ → Bool
is_odd scope name = not (is_alone scope name) || (begins_underlined name || has_double name)

-- some name of a scope is odd
abbrev pub any_odd : List (List ℕ) → Bool
any_odd scope = list_any (is_odd scope) scope

-- so is a name of a monitor: a constant, a field or a method, or an input or a local of a method
abbrev pub has_odd_name : MonitorTree → Bool
has_odd_name tree =
    any_odd (members tree) || list_any (λ method. any_odd (inputs_of method)) tree.methods
