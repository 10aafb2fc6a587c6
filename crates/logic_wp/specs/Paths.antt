-- The paths of bodies: lists of assignments and assumptions.
use Rattle.std.specs.Prelude.{ℕ, List, [], ◌∷◌, ◌++◌, map}
use Rattle.std.specs.List.{flat_map}
use Rattle.logic_linear.specs.declared.formula.Formula.{Formula}
use Rattle.logic_linear.specs.Negation.{negation}
use Rattle.lang_monitor.specs.declared.monitor.Stmt.{Stmt}
use Rattle.lang_monitor.specs.declared.monitor.Stmt.TheOpen.{Stmt-F, Put as Assign, If}
use Rattle.lang_monitor.specs.declared.monitor.Stmt.TheFolds.{fold-Stmt}
use Rattle.lang_monitor.specs.MonitorParts.{MonitorParts}
use Rattle.lang_monitor.specs.Paths.{block_body}
use Rattle.logic_wp.specs.declared.step.Step.{Step}
use Rattle.logic_wp.specs.declared.step.Step.TheVariants.{Put, Assume}

-- the path, continued by each of the rests
abbrev pub continued : List (List Step) → List Step → List (List Step)
continued rests path = map (λ rest. path ++ rest) rests

-- the paths of statements one after the other, given those of each
abbrev pub joined : List (List (List Step)) → List (List Step)
joined [] = [] ∷ []
joined (first ∷ more) = flat_map (continued (joined more)) first

-- the paths that go on where the formula is assumed
abbrev pub assuming : Formula → List (List Step) → List (List Step)
assuming formula paths = map (λ path. Assume formula ∷ path) paths

-- the paths of an `if`: those that assume its condition stand before those that assume the negation
abbrev pub branch_paths : Formula → List (List Step) → List (List Step) → List (List Step)
branch_paths when body other = assuming when body ++ assuming (negation when) other

abbrev pub paths_step : Stmt-F (List (List Step)) → List (List Step)
paths_step (Assign put) = (Put put ∷ []) ∷ []
paths_step (If when body other) = branch_paths when (joined body) (joined other)

abbrev pub statement_paths : Stmt → List (List Step)
statement_paths = fold-Stmt (List (List Step)) paths_step

-- the paths of a body
abbrev pub body_paths : List Stmt → List (List Step)
body_paths body = joined (map statement_paths body)

-- the paths of the body of a block
abbrev pub block_paths : MonitorParts → ℕ → List (List Step)
block_paths monitor block = body_paths (block_body monitor block)
