-- Numbers on the way through a body that are outside 128 bits.
use Rattle.std.specs.Prelude.{◌≡◌, true, false, List, ◌∷◌}
use Rattle.logic_linear.specs.declared.formula.Formula.{Formula}
use Rattle.logic_linear.specs.declared.substitution.Put.{Put}
use Rattle.logic_linear.specs.declared.substitution.Put.TheVariants.{Number, Truth}
use Rattle.logic_linear.specs.Truth.{Valuation, truth_of}
use Rattle.lang_monitor.specs.declared.monitor.Stmt.{Stmt}
use Rattle.lang_monitor.specs.declared.monitor.Stmt.TheVariants as statements
use Rattle.lang_monitor.specs.Changes.{change_of}
use Rattle.logic_solve.specs.WideNumbers.{IsWideForm, IsWideFormula}

-- a number of what is assigned is outside 128 bits
abbrev pub IsWidePut : Put → Valuation → Type 0
IsWidePut (Number place form) v = IsWideForm v form
IsWidePut (Truth place is) v = IsWideFormula v is

-- a number of a form or a formula that the body comes to, from the valuation on, is outside 128
-- bits
pub data IsWideBody : List Stmt → Valuation → Type 0 where
  assigns : (put : Put) (rest : List Stmt) (v : Valuation)
      → IsWidePut put v → IsWideBody (statements.Put put ∷ rest) v
  test : (when : Formula) (body other rest : List Stmt) (v : Valuation)
      → IsWideFormula v when → IsWideBody (statements.If when body other ∷ rest) v
  taken : (when : Formula) (body other rest : List Stmt) (v : Valuation)
      → truth_of v when ≡ true → IsWideBody body v
      → IsWideBody (statements.If when body other ∷ rest) v
  left : (when : Formula) (body other rest : List Stmt) (v : Valuation)
      → truth_of v when ≡ false → IsWideBody other v
      → IsWideBody (statements.If when body other ∷ rest) v
  later : (statement : Stmt) (rest : List Stmt) (v : Valuation)
      → IsWideBody rest (change_of statement v) → IsWideBody (statement ∷ rest) v
