-- The parts of paths, made from the end of a body, and what stops them.
use Rattle.std.specs.Prelude.{◌≡◌, ◌⊎◌, ℕ, ◌<◌, Bool, true, false, List, map, sum_by, Option}
use Rattle.std.specs.Prelude.{Some, None}
use Rattle.std.specs.List.{list_all, flat_map}
use Rattle.logic_linear.specs.declared.formula.Formula.{Formula}
use Rattle.logic_linear.specs.Measures.{nodes_of, MOST_NODES}
use Rattle.logic_linear.specs.Substitution.{is_formula_within}
use Rattle.logic_wp.specs.declared.step.Step.{Step}
use Rattle.logic_wp.specs.Paths.{continued}
use Rattle.logic_wp.specs.NegatedQueries.{part_before, path_part}
use Rattle.logic_wp.specs.Limits.{is_path_within}

-- ---- one step before parts

abbrev pub is_within_after : Step → Formula → Bool
is_within_after step part = is_formula_within (part_before step part)

abbrev pub nodes_after : Step → Formula → ℕ
nodes_after step part = nodes_of (part_before step part)

-- what the step makes of each part, where each keeps the limits and together they are not too large
abbrev pub IsStepped : Step → List Formula → Option (List Formula) → Type 0
IsStepped step parts (Some made) =
    (made ≡ map (part_before step) parts) × (list_all (is_within_after step) parts ≡ true)
IsStepped step parts None =
    (list_all (is_within_after step) parts ≡ false)
    ⊎ (MOST_NODES < sum_by (nodes_after step) parts)

-- ---- the parts of paths

abbrev pub nodes_of_part : Formula → List Step → ℕ
nodes_of_part post path = nodes_of (path_part post path)

-- the nodes of the parts of these paths
abbrev pub nodes_of_parts : Formula → List (List Step) → ℕ
nodes_of_parts post paths = sum_by (nodes_of_part post) paths

-- the parts of these paths, each of which keeps the limits
pub record ArePartsOf (post : Formula) (paths : List (List Step)) (parts : List Formula) :
    Type 0 where
  pub made : parts ≡ map (path_part post) paths
  pub kept : list_all (is_path_within post) paths ≡ true

-- some path does not keep the limits, or together their parts are too large
abbrev pub AreBeyond : Formula → List (List Step) → Type 0
AreBeyond post paths =
    (list_all (is_path_within post) paths ≡ false) ⊎ (MOST_NODES < nodes_of_parts post paths)

abbrev pub AreMade : Formula → List (List Step) → Option (List Formula) → Type 0
AreMade post paths (Some parts) = ArePartsOf post paths parts
AreMade post paths None = AreBeyond post paths

-- where the parts are of some paths, these are of the firsts, each continued by those paths
abbrev pub AreBefore : List (List Step) → List Formula → Option (List Formula) → Type 0
AreBefore firsts parts made = (post : Formula) (rests : List (List Step))
    → ArePartsOf post rests parts → AreMade post (flat_map (continued rests) firsts) made
