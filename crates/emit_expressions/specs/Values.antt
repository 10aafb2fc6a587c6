-- Values that are stored or answered.
use Rattle.std.specs.Prelude.{ℕ, Bool, true, false, not, ◌&&◌, ◌||◌, List, [], ◌∷◌, ◌++◌, codes}
use Rattle.std.specs.Prelude.{if◌then◌else◌}
use Rattle.std.specs.List.{flat_map}
use Rattle.lang_tree.specs.declared.tree.Expr.{Expr, out-Expr}
use Rattle.lang_tree.specs.declared.tree.Addend.{Addend, out-Addend}
use Rattle.lang_tree.specs.declared.tree.Factor.{Factor, out-Factor}
use Rattle.lang_tree.specs.declared.tree.Expr.TheOpen.{Expr-F, Number, Truth, Named, Minus, Not}
use Rattle.lang_tree.specs.declared.tree.Expr.TheOpen.{Product, Sum, Compare, Both, Either}
use Rattle.lang_printer.specs.Canonical.{addend_sign}
use Rattle.emit_expressions.specs.Scopes.{ScopeParts, is_variable_name}
use Rattle.emit_expressions.specs.Expressions.{written, plain_text}

-- ---- one operation of atoms, which is worked out in 64 bits where its value has so many

-- the name of a variable
abbrev pub is_variable_in : ScopeParts → Expr-F Expr Addend Factor → Bool
is_variable_in scope (Number at value) = false
is_variable_in scope (Truth at value) = false
is_variable_in scope (Named at name) = is_variable_name scope name
is_variable_in scope (Minus at of) = false
is_variable_in scope (Not at of) = false
is_variable_in scope (Product first rest) = false
is_variable_in scope (Sum first rest) = false
is_variable_in scope (Compare op left right) = false
is_variable_in scope (Both parts) = false
is_variable_in scope (Either parts) = false

abbrev pub is_variable : ScopeParts → Expr → Bool
is_variable scope expression = is_variable_in scope (out-Expr expression)

-- a name, a number or the negative of a number
abbrev pub is_atom_in : ScopeParts → Expr-F Expr Addend Factor → Bool
is_atom_in scope (Number at value) = true
is_atom_in scope (Truth at value) = false
is_atom_in scope (Named at name) = true
is_atom_in scope (Minus at of) = (written scope of).is_number
is_atom_in scope (Not at of) = false
is_atom_in scope (Product first rest) = false
is_atom_in scope (Sum first rest) = false
is_atom_in scope (Compare op left right) = false
is_atom_in scope (Both parts) = false
is_atom_in scope (Either parts) = false

abbrev pub is_atom : ScopeParts → Expr → Bool
is_atom scope expression = is_atom_in scope (out-Expr expression)

-- Both are atoms, and some one is a variable: what is made of constants alone rustc works out
-- itself, and refuses it where it leaves 64 bits, even where it never runs.
abbrev pub are_atoms : ScopeParts → Expr → Expr → Bool
are_atoms scope one other =
    (is_atom scope one && is_atom scope other)
    && (is_variable scope one || is_variable scope other)

abbrev pub single_factor : ScopeParts → Expr → List Factor → Bool
single_factor scope first [] = false
single_factor scope first (one ∷ []) = are_atoms scope first (out-Factor one).of
single_factor scope first (one ∷ other ∷ rest) = false

abbrev pub single_addend : ScopeParts → Expr → List Addend → Bool
single_addend scope first [] = false
single_addend scope first (one ∷ []) = are_atoms scope first (out-Addend one).of
single_addend scope first (one ∷ other ∷ rest) = false

abbrev pub is_single_in : ScopeParts → Expr-F Expr Addend Factor → Bool
is_single_in scope (Number at value) = false
is_single_in scope (Truth at value) = false
is_single_in scope (Named at name) = false
is_single_in scope (Minus at of) = is_variable scope of
is_single_in scope (Not at of) = false
is_single_in scope (Product first rest) = single_factor scope first rest
is_single_in scope (Sum first rest) = single_addend scope first rest
is_single_in scope (Compare op left right) = false
is_single_in scope (Both parts) = false
is_single_in scope (Either parts) = false

abbrev pub is_single : ScopeParts → Expr → Bool
is_single scope expression = is_single_in scope (out-Expr expression)

abbrev pub plain_factor : ScopeParts → Factor → List ℕ
plain_factor scope factor = codes " * " ++ plain_text scope (out-Factor factor).of

abbrev pub plain_addend : ScopeParts → Addend → List ℕ
plain_addend scope addend =
    addend_sign (out-Addend addend).minus ++ plain_text scope (out-Addend addend).of

abbrev pub single_text_in : ScopeParts → Expr-F Expr Addend Factor → List ℕ
single_text_in scope (Number at value) = []
single_text_in scope (Truth at value) = []
single_text_in scope (Named at name) = []
single_text_in scope (Minus at of) = codes "-" ++ plain_text scope of
single_text_in scope (Not at of) = []
single_text_in scope (Product first rest) =
    plain_text scope first ++ flat_map (plain_factor scope) rest
single_text_in scope (Sum first rest) = plain_text scope first ++ flat_map (plain_addend scope) rest
single_text_in scope (Compare op left right) = []
single_text_in scope (Both parts) = []
single_text_in scope (Either parts) = []

-- in 64 bits
abbrev pub single_text : ScopeParts → Expr → List ℕ
single_text scope expression = single_text_in scope (out-Expr expression)

-- ---- values

-- the test that it has 64 bits, and what comes after it
abbrev pub narrowed : List ℕ → List ℕ → List ℕ
narrowed wide ending = codes "narrow(" ++ wide ++ codes ")" ++ ending

-- it is known that it has 64 bits
abbrev pub shortened : List ℕ → List ℕ
shortened wide = codes "whole(" ++ wide ++ codes ")"

abbrev pub whole_text : ScopeParts → Expr → List ℕ
whole_text scope expression =
    if is_single scope expression then single_text scope expression
    else shortened ((written scope expression).wide [])

-- of one that may need more than 64 bits
abbrev pub long_text : ScopeParts → Expr → List ℕ → List ℕ
long_text scope expression ending =
    if scope.whole then whole_text scope expression
    else narrowed ((written scope expression).wide []) ending

-- a value that is stored or answered, and what comes after a test that it has 64 bits
abbrev pub value_text : ScopeParts → Expr → List ℕ → List ℕ
value_text scope expression ending =
    if (written scope expression).narrows then long_text scope expression ending
    else plain_text scope expression

-- it is written with `narrow`
abbrev pub is_tested : ScopeParts → Expr → Bool
is_tested scope expression = (written scope expression).narrows && not scope.whole

-- it is written with `whole`
abbrev pub is_shortened : ScopeParts → Expr → Bool
is_shortened scope expression =
    ((written scope expression).narrows && scope.whole) && not (is_single scope expression)
