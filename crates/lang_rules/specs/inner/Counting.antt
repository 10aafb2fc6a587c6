-- Things counted down by the places where they stand.
use Rattle.std.specs.Prelude.{ℕ, ◌-◌, ◌==◌, Bool, true, false, List, [], ◌∷◌, Result, Ok, Err}
use Rattle.std.specs.Prelude.{if◌then◌else◌}
use Rattle.lang_tree.specs.declared.tree.Decl.{Decl}
use Rattle.lang_tree.specs.declared.tree.Decl.TheVariants as decls
use Rattle.lang_tree.specs.declared.tree.StmtTree.{StmtTree}
use Rattle.lang_tree.specs.declared.tree.StmtTree.TheOpen.{StmtTree-F, Set, If, Return}

abbrev pub declares_constant : Decl → Bool
declares_constant (decls.Const at name value) = true
declares_constant (decls.Param at name value limit) = false
declares_constant (decls.Int at name value) = false
declares_constant (decls.Copied at name source) = false
declares_constant (decls.Flag at name value) = false

abbrev pub statement_place : StmtTree-F StmtTree → ℕ
statement_place (Set at name value) = at
statement_place (If at when body other) = at
statement_place (Return at value) = at

-- Counts down by the places: the place at which none is left, or how many are left after all.
abbrev pub counted : List ℕ → ℕ → Result ℕ ℕ
counted [] left = Ok left
counted (at ∷ more) left = if left == 0 then Err at else counted more (left - 1)
