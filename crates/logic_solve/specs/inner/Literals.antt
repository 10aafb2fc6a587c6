-- For private contracts: the literals of a cube, their rows and their places.
use Rattle.std.specs.Global.{Global}
use Rattle.std.specs.Option.{option_map}
use Rattle.std.specs.Prelude.{Vec, ◌≡◌, ◌⊎◌, ℕ, ℤ, pos, ◌<ℤ◌, ◌≤ℤ◌, ◌≤◌, Bool, true, false, List}
use Rattle.std.specs.Prelude.{[], ◌∷◌, map, length, Option, Some, None}
use Rattle.std.specs.List.{list_any, flat_map, AllByRecursion as Each}
use Rattle.logic_linear.specs.declared.form.Term.{Term}
use Rattle.logic_linear.specs.Linear.{Linear, IsLinear}
use Rattle.logic_linear.specs.Differences.{is_difference}
use Rattle.logic_linear.specs.Truth.{Valuation, value_of}
use Rattle.logic_cert.specs.declared.cert.Combine.{Combine}
use Rattle.logic_cert.specs.declared.cert.Cert.{Cert, out-Cert}
use Rattle.logic_cert.specs.declared.cert.Literal.{Literal}
use Rattle.logic_cert.specs.declared.cert.Literal.TheVariants.{Row, Flag}
use Rattle.logic_cert.specs.Refutes.{chain_closes, closes, is_absurd, literal_truth, row_of}
use Rattle.logic_elim.specs.declared.rows.Numbered.{Numbered}
use Rattle.logic_elim.specs.Rows.{is_as_tight, with_row}
use Rattle.logic_linear.specs.Fractions.{HasFractionalSolution, HoldsOver}
use Rattle.logic_linear.specs.LightCubes.{IsLightCube}
use Rattle.logic_elim.specs.Chains.{HasNumber, StandsAtNumbers, State, rows_in}
pub use Rattle.logic_elim.specs.Noted.{with_place, noted}
use Rattle.logic_solve.specs.Cubes.{HasGeneral, HasNoClash, rows_of_literals}
use Rattle.logic_solve.specs.LeanRefutations.{IsLeanEnd}
use Rattle.logic_elim.specs.Steps.{Among, RowsHold as HoldOver}

-- ---- places

abbrev pub terms_in_literal : Literal → List Term
terms_in_literal (Row form) = form.terms
terms_in_literal (Flag place is) = []

abbrev pub terms_in_literals : List Literal → List Term
terms_in_literals = flat_map terms_in_literal

-- ---- literals

abbrev pub is_absurd_literal : Literal → Bool
is_absurd_literal (Row form) = is_absurd form
is_absurd_literal (Flag place is) = false

-- A difference row, or a flag.
abbrev pub IsDifferenceLiteral : Literal → Type 0
IsDifferenceLiteral (Row form) = is_difference form ≡ true
IsDifferenceLiteral (Flag place is) = Unit {0}

abbrev pub AreDifferences : List Literal → Type 0
AreDifferences literals = Each IsDifferenceLiteral literals

abbrev pub AreTrue : Valuation → List Literal → Type 0
AreTrue valuation literals =
    Each (λ (literal : Literal). literal_truth valuation literal ≡ true) literals

-- The literal's row holds, where it is a row.
abbrev pub LiteralHolds : Valuation → Literal → Type 0
LiteralHolds valuation (Row form) = value_of valuation form ≤ℤ pos 0
LiteralHolds valuation (Flag place is) = Unit {0}

-- The certificate is a clash or a chain over the literals, and no made row is there for nothing.
abbrev pub Closes : List Literal → Cert → Type 0
Closes literals cert =
    (closes literals (out-Cert cert) ≡ true) × IsLeanEnd (length literals) (out-Cert cert)

-- A row's rule holds.
abbrev pub FitsLiteral : Literal → Type 0
FitsLiteral (Row form) = IsLinear form
FitsLiteral (Flag place is) = Unit {0}

abbrev pub HaveNoAbsurd : List Literal → Type 0
HaveNoAbsurd literals = Each (λ (literal : Literal). is_absurd_literal literal ≡ false) literals

-- No row is absurd, or a sum is such a row.
abbrev pub HasAbsurd : List Literal → Option Combine → Type 0
HasAbsurd literals None = HaveNoAbsurd literals
HasAbsurd literals (Some combine) = chain_closes (combine ∷ []) (map row_of literals) ≡ true

-- ---- the rows to begin with

-- What a row becomes of the kept ones.
pub record IsGatheredRow (form : Linear) (number : ℕ) (before after : List Numbered) : Type 0 where
  pub linear : IsLinear form
  pub kept : ((list_any (is_as_tight form) before ≡ true) × (after ≡ before))
      ⊎ ((list_any (is_as_tight form) before ≡ false)
      × (after ≡ with_row before (record { number = number; row = form })))

abbrev pub IsGathered : ℕ → Literal → List Numbered → List Numbered → Type 0
IsGathered number (Row form) before after = IsGatheredRow form number before after
IsGathered number (Flag place is) before after = after ≡ before

-- Each kept row is one of the rows, and where the kept ones hold all rows do.
pub record IsKeptOf (rows : List Linear) (kept : List Numbered) : Type 0 where
  pub linear : Each IsLinear rows
  pub from : (row : Linear) → Among row (rows_in kept) → Among row rows
  pub fewer : length kept ≤ length rows
  pub covers : (numerators : Valuation) (denominator : ℤ) → pos 0 <ℤ denominator
      → HoldOver numerators denominator kept → Each (HoldsOver numerators denominator) rows

-- The rows of the literals so far under their numbers, the tightest of those with the same terms.
pub record IsStartOf (literals some : List Literal) (kept : List Numbered) : Type 0 where
  pub rows : IsKeptOf (rows_of_literals some) kept
  pub numbers : Each (HasNumber (map row_of literals)) kept

abbrev pub IsStart : List Literal → List Numbered → Type 0
IsStart literals kept = IsStartOf literals literals kept

-- ---- what refutes literals

-- The chain closes, or literals that are difference rows have rows that hold somewhere, with each
-- truth value as it is.
abbrev pub IsRefuting : List Literal → Option (List Combine) → Type 0
IsRefuting literals None =
    AreDifferences literals → (valuation : Valuation)
    → (solution : Valuation) × Each (LiteralHolds solution) literals
    × (solution.flag ≡ valuation.flag)
IsRefuting literals (Some combines) = chain_closes combines (map row_of literals) ≡ true

-- The same of the chain that is answered.
abbrev pub FindsChain : List Literal → Option (Vec Combine Global) → Type 0
FindsChain literals chain = IsRefuting literals (option_map (λ combines. combines.items) chain)

-- The chain of an elimination closes, if it says so.
abbrev pub ClosesIf : State → State → Bool → Type 0
ClosesIf before after true =
    (rows : List (Option Linear)) → StandsAtNumbers rows [] before
    → chain_closes after.combines rows ≡ true
ClosesIf before after false = Unit {0}

-- ---- light cubes

-- Where a row is no difference row and the rows are a light cube, they have a solution in
-- fractions.
abbrev pub IsLightCase : List Literal → Type 0
IsLightCase literals =
    HasGeneral literals → IsLightCube (rows_of_literals literals)
    → HasFractionalSolution (rows_of_literals literals)

abbrev pub LeavesLight : List Literal → Option (Vec Combine Global) → Type 0
LeavesLight literals None = IsLightCase literals
LeavesLight literals (Some chain) = Unit {0}

-- What the elimination of a light cube answers.
abbrev pub EndsLight : State → Option (Vec Combine Global) → Type 0
EndsLight state None = HasFractionalSolution (rows_in state.kept)
EndsLight state (Some chain) =
    (rows : List (Option Linear)) → StandsAtNumbers rows [] state
    → chain_closes chain.items rows ≡ true

-- Literals that are difference rows are true somewhere.
abbrev pub CanBeTrue : List Literal → Type 0
CanBeTrue literals = AreDifferences literals → (valuation : Valuation) × AreTrue valuation literals

-- No flag stands with opposite truths, literals that are difference rows are true somewhere, and a
-- light cube has a solution
-- in fractions.
pub record IsOpen (cube : List Literal) : Type 0 where
  pub no_clash : HasNoClash cube
  pub differences : CanBeTrue cube
  pub light : IsLightCase cube

-- A certificate closes the literals, or they are open.
abbrev pub IsClosing : List Literal → Option Cert → Type 0
IsClosing literals None = IsOpen literals
IsClosing literals (Some cert) = Closes literals cert
