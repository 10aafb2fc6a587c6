-- The places that queries have, and the limits within which they are negated.
use Rattle.std.specs.Prelude.{ℕ, ◌+◌, Bool, ◌&&◌, nat_le, List, [], ◌∷◌, length, Option, Some, None}
use Rattle.std.specs.Prelude.{if◌then◌else◌}
use Rattle.std.specs.List.{list_all}
use Rattle.lang_base.specs.Limits.{FIRST_INPUT, FIRST_LOCAL, LOCALS}
use Rattle.logic_linear.specs.declared.formula.Formula.{Formula}
use Rattle.logic_linear.specs.Measures.{nodes_of, MOST_NODES}
use Rattle.logic_linear.specs.Substitution.{is_formula_within}
use Rattle.lang_monitor.specs.declared.monitor.Stmt.{Stmt}
use Rattle.lang_monitor.specs.declared.query.Query.{Query}
use Rattle.lang_monitor.specs.MonitorParts.{MonitorParts}
use Rattle.lang_monitor.specs.Paths.{block_body, MOST_PATHS}
use Rattle.logic_wp.specs.declared.step.Step.{Step}
use Rattle.logic_wp.specs.Paths.{body_paths, block_paths}
use Rattle.logic_wp.specs.NegatedQueries.{path_part, negated_triple, negated_query}

-- the places of a query are below: the last are those of the locals of a client that waits,
-- `FIRST_INPUT` places further than those of the block that runs
abbrev pub QUERY_PLACES : ℕ
QUERY_PLACES = FIRST_INPUT + FIRST_LOCAL + LOCALS

-- the formulas on the way from the end of a path to its beginning
abbrev pub on_the_way : Formula → List Step → List Formula
on_the_way post [] = path_part post [] ∷ []
on_the_way post (step ∷ steps) = path_part post (step ∷ steps) ∷ on_the_way post steps

-- each formula on the way has numbers in 96 bits, and no more than the most nodes
abbrev pub is_path_within : Formula → List Step → Bool
is_path_within post path = list_all is_formula_within (on_the_way post path)

abbrev pub has_few_paths : List (List Step) → Bool
has_few_paths paths = nat_le (length paths) MOST_PATHS

abbrev pub has_few_nodes : Formula → Bool
has_few_nodes formula = nat_le (nodes_of formula) MOST_NODES

-- the paths are few, each keeps the limits, and the negated query has no more than the most nodes
abbrev pub is_triple_within : List Formula → List Stmt → Formula → Bool
is_triple_within hyps body post =
    has_few_paths (body_paths body)
    && (list_all (is_path_within post) (body_paths body)
    && has_few_nodes (negated_triple hyps body post))

-- whether a query is negated within the limits
abbrev pub is_query_within : MonitorParts → Query → Bool
is_query_within monitor query =
    is_triple_within query.hyps (block_body monitor query.block) query.post

-- ---- answers

-- the value, where the condition holds
abbrev pub value_if : {X : Type 0} → Bool → X → Option X
value_if held x = if held then Some x else None

-- the paths of the body of a block, where they are few
abbrev pub few_paths : MonitorParts → ℕ → Option (List (List Step))
few_paths monitor block =
    value_if (has_few_paths (block_paths monitor block)) (block_paths monitor block)

-- the negated query, where it is within the limits
abbrev pub query_within : MonitorParts → Query → Option Formula
query_within monitor query = value_if (is_query_within monitor query) (negated_query monitor query)
