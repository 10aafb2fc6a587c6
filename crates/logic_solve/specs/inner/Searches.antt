-- For private contracts: what is left to do, and what a search finds.
use Rattle.std.specs.Borrow.{Bor}
use Rattle.std.specs.Global.{Global}
use Rattle.std.specs.Prelude.{Vec, ◌≡◌, ◌<◌, ◌≤◌, ℕ, ◌+◌, List, [], ◌∷◌, length}
use Rattle.std.specs.Prelude.{reverse, Option, Some, None}
use Rattle.std.specs.List.{flat_map}
use Rattle.logic_linear.specs.declared.formula.Formula.{Formula}
use Rattle.logic_linear.specs.declared.formula.Formula.TheVariants as formulas
use Rattle.logic_linear.specs.Measures.{nodes_of}
use Rattle.logic_cert.specs.declared.cert.Cert.{Cert}
use Rattle.logic_cert.specs.declared.cert.Literal.{Literal}
use Rattle.logic_solve.specs.LeanRefutations.{RefutesLeanly}
use Rattle.logic_solve.specs.Cubes.{IsCubeFrom}
use Rattle.logic_solve.specs.inner.Different.{IsGrown}
use Rattle.logic_solve.specs.inner.Literals.{IsOpen}

-- ---- what is left to do

-- The nodes of the formulas.
abbrev pub weight : List Formula → ℕ
weight [] = 0
weight (formula ∷ formulas) = nodes_of formula + weight formulas

-- The formulas of the lists, those of the last list first.
abbrev pub in_order : List (Bor (List Formula)) → List Formula
in_order todo = flat_map (λ parts. parts.now) (reverse todo)

-- The first of what is left, and what is left then; there is none only where nothing is left.
abbrev pub IsNext : List Formula → Vec (Bor (List Formula)) Global → Option (Bor Formula) → Type 0
IsNext left after None = (left ≡ []) × (after.items ≡ [])
IsNext left after (Some formula) = left ≡ formula.now ∷ in_order after.items

-- ---- a formula that is taken

-- The formula was put into what is left to do and the literals.
pub record IsPutOff (formula : Formula) (todo todo_after : List (Bor (List Formula)))
    (literals literals_after : List Literal) : Type 0 where
  pub refutes : (cert : Cert) → RefutesLeanly (in_order todo_after) literals_after cert
      → RefutesLeanly (formula ∷ in_order todo) literals cert
  pub cubes : (cube : List Literal) → IsCubeFrom (in_order todo_after) literals_after cube
      → IsCubeFrom (formula ∷ in_order todo) literals cube
  pub size : weight (in_order todo_after) + length literals_after
      ≤ nodes_of formula + weight (in_order todo) + length literals
  pub less : weight (in_order todo_after) < nodes_of formula + weight (in_order todo)
  pub grown : IsGrown literals literals_after

-- Or it is an any, and nothing changed.
pub record IsAnyOf (formula : Formula) (todo todo_after : List (Bor (List Formula)))
    (literals literals_after : List Literal) (parts : List Formula) : Type 0 where
  pub is : formula ≡ formulas.Any parts
  pub todo_same : todo_after ≡ todo
  pub literals_same : literals_after ≡ literals

abbrev pub IsTaken : Formula → Vec (Bor (List Formula)) Global → Vec (Bor (List Formula)) Global
    → Vec Literal Global → Vec Literal Global → Option (Bor (List Formula)) → Type 0
IsTaken formula todo todo_after literals literals_after None =
    IsPutOff formula todo.items todo_after.items literals.items literals_after.items
IsTaken formula todo todo_after literals literals_after (Some parts) =
    IsAnyOf formula todo.items todo_after.items literals.items literals_after.items parts.now

-- ---- what a search finds

-- The cube is one of what is left to do, and open.
pub record HasOpenCube (todo : List Formula) (literals cube : List Literal) : Type 0 where
  pub is_cube : IsCubeFrom todo literals cube
  pub open_cube : IsOpen cube

-- A certificate refutes what is left to do, or the literals that are left are an open cube of it.
abbrev pub IsFound : List Formula → List Literal → List Literal → Option Cert → Type 0
IsFound todo literals after (Some cert) = RefutesLeanly todo literals cert
IsFound todo literals after None = HasOpenCube todo literals after

-- The same with an any put first.
abbrev pub IsFoundAt : List Formula → List Formula → List Literal → List Literal → Option Cert
    → Type 0
IsFoundAt parts others literals after answer =
    IsFound (formulas.Any parts ∷ others) literals after answer
