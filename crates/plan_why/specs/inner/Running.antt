-- For private contracts: valuations with one value changed, and what is computed in 128 bits.
use Rattle.std.specs.Prelude.{◌≡◌, ℕ, ℤ, ◌==◌, Bool, not, List, [], ◌∷◌, ◌++◌, Option}
use Rattle.std.specs.Prelude.{Some, None, if◌then◌else◌}
use Rattle.std.specs.List.{filter}
use Rattle.logic_linear.specs.declared.substitution.Put.{Put}
use Rattle.logic_linear.specs.Substitution.{assigned}
use Rattle.logic_linear.specs.Truth.{Valuation}
use Rattle.lang_monitor.specs.declared.monitor.Stmt.{Stmt}
use Rattle.logic_solve.specs.declared.valuation.Solution.{Solution}
use Rattle.logic_solve.specs.Solutions.{valuation_of}
pub use Rattle.lang_monitor.specs.Changes.{change_of, body_change}
use Rattle.plan_why.specs.WideNumbers.{IsWideBody, IsWidePut}

-- ---- one value changed

abbrev pub with_number : ℕ → ℤ → Valuation → Valuation
with_number place number v = record {
  number = λ at. if at == place then number else v.number at;
  flag = v.flag;
}

abbrev pub with_truth : ℕ → Bool → Valuation → Valuation
with_truth place truth v = record {
  number = v.number;
  flag = λ at. if at == place then truth else v.flag at;
}

-- the place is another one
abbrev pub is_other : ℕ → ℕ → Bool
is_other place other = not (other == place)

-- the flags, with this one as it is told
abbrev pub flags_with : ℕ → Bool → List ℕ → List ℕ
flags_with place truth flags =
    filter (is_other place) flags ++ (if truth then place ∷ [] else [])

-- ---- what is computed

-- the valuation that is found is that after the assignment; there is none only where a number is
-- wide
abbrev pub IsAssigned : Put → Valuation → Option Solution → Type 0
IsAssigned put v (Some next) = valuation_of next ≡ assigned put v
IsAssigned put v None = IsWidePut put v

-- the valuation that is found is that after the body; there is none only where a number is wide
abbrev pub IsRun : List Stmt → Valuation → Option Solution → Type 0
IsRun body v (Some last) = valuation_of last ≡ body_change body v
IsRun body v None = IsWideBody body v
