-- The cubes of a formula: the literals that a choice of a part of each any leaves.
use Rattle.std.specs.Prelude.{◌≡◌, ℕ, Bool, true, false, not, List, [], ◌∷◌, ◌++◌, Some, slice_get}
use Rattle.std.specs.List.{flat_map, list_any, AllByRecursion as Each}
use Rattle.logic_linear.specs.declared.formula.Formula.{Formula}
use Rattle.logic_linear.specs.declared.formula.Formula.TheVariants as formulas
use Rattle.logic_linear.specs.Differences.{is_difference}
use Rattle.logic_linear.specs.Linear.{Linear}
use Rattle.logic_cert.specs.declared.cert.Literal.{Literal}
use Rattle.logic_cert.specs.declared.cert.Literal.TheVariants.{Row, Flag}
use Rattle.logic_cert.specs.Refutes.{are_opposite}

-- With the literals gathered so far, the formulas to do, the first first, leave the cube.
pub data IsCubeFrom : List Formula → List Literal → List Literal → Type 0 where
  -- a row is gathered
  row : (form : Linear) (todo : List Formula) (literals cube : List Literal)
      → IsCubeFrom todo (literals ++ Row form ∷ []) cube
      → IsCubeFrom (formulas.Row form ∷ todo) literals cube
  -- a flag is gathered
  flag : (place : ℕ) (is : Bool) (todo : List Formula) (literals cube : List Literal)
      → IsCubeFrom todo (literals ++ Flag place is ∷ []) cube
      → IsCubeFrom (formulas.Flag place is ∷ todo) literals cube
  -- an all gives its parts, in order
  every : (parts todo : List Formula) (literals cube : List Literal)
      → IsCubeFrom (parts ++ todo) literals cube
      → IsCubeFrom (formulas.All parts ∷ todo) literals cube
  -- of an any one part is chosen
  chosen : (parts todo : List Formula) (i : ℕ) (part : Formula) (literals cube : List Literal)
      → slice_get parts i ≡ Some part
      → IsCubeFrom (part ∷ todo) literals cube
      → IsCubeFrom (formulas.Any parts ∷ todo) literals cube
  -- nothing is left to do
  ended : (literals : List Literal) → IsCubeFrom [] literals literals

-- A cube of the formula.
abbrev pub IsCubeOf : Formula → List Literal → Type 0
IsCubeOf formula cube = IsCubeFrom (formula ∷ []) [] cube

-- The row of a literal, where it is one.
abbrev pub literal_rows : Literal → List Linear
literal_rows (Row form) = form ∷ []
literal_rows (Flag place is) = []

-- The rows of a cube.
abbrev pub rows_of_literals : List Literal → List Linear
rows_of_literals = flat_map literal_rows

-- A row that is no difference row.
abbrev pub is_general : Literal → Bool
is_general (Row form) = not (is_difference form)
is_general (Flag place is) = false

-- Some row of the cube is no difference row.
abbrev pub HasGeneral : List Literal → Type 0
HasGeneral literals = list_any is_general literals ≡ true

-- The literals are the same flag with opposite truths.
abbrev pub is_opposite : Literal → Literal → Bool
is_opposite literal other = are_opposite (Some literal) (Some other)

-- No flag stands with opposite truths.
abbrev pub HasNoClash : List Literal → Type 0
HasNoClash literals =
    Each (λ (literal : Literal). list_any (is_opposite literal) literals ≡ false) literals
