-- Negated queries: formulas that are true exactly where a query's triple fails.
use Rattle.std.specs.Prelude.{Bool, false, not, ◌&&◌, List, [], ◌∷◌, ◌++◌, map, Option, Some, None}
use Rattle.std.specs.Prelude.{slice_get}
use Rattle.std.specs.List.{list_all}
use Rattle.logic_linear.specs.declared.formula.Formula.{Formula}
use Rattle.logic_linear.specs.declared.formula.Formula.TheOpen.{All as Every, Any as Some_of}
use Rattle.logic_linear.specs.declared.formula.Formula.TheViews.{roll-Formula}
use Rattle.logic_linear.specs.Negation.{negation}
use Rattle.logic_linear.specs.Substitution.{substituted}
use Rattle.logic_linear.specs.Truth.{Valuation, truth_of}
use Rattle.lang_monitor.specs.declared.monitor.Block.{Block}
use Rattle.lang_monitor.specs.declared.monitor.Stmt.{Stmt}
use Rattle.lang_monitor.specs.declared.query.Query.{Query}
use Rattle.lang_monitor.specs.MonitorParts.{MonitorParts, Places}
pub use Rattle.lang_monitor.specs.Bodies.{valuation_after}
use Rattle.lang_monitor.specs.Paths.{block_body}
use Rattle.lang_monitor.specs.Triples.{places_of}
use Rattle.logic_wp.specs.declared.step.Step.{Step}
use Rattle.logic_wp.specs.declared.step.Step.TheVariants.{Put, Assume}
use Rattle.logic_wp.specs.Paths.{body_paths}

-- ---- the negated query

abbrev pub both_of : Formula → Formula → Formula
both_of first second = roll-Formula (Every (first ∷ second ∷ []))

-- what a step makes of the part of the steps after it: an assignment is put in, an assumption
-- stands beside it
abbrev pub part_before : Step → Formula → Formula
part_before (Put put) part = substituted put part
part_before (Assume formula) part = both_of formula part

-- the path is taken, and the post formula fails after it
abbrev pub path_part : Formula → List Step → Formula
path_part post [] = negation post
path_part post (step ∷ steps) = part_before step (path_part post steps)

-- a part for each path
abbrev pub some_part : List Formula → Formula
some_part parts = roll-Formula (Some_of parts)

-- each hypothesis, and some part
abbrev pub query_of_parts : List Formula → List Formula → Formula
query_of_parts hyps parts = roll-Formula (Every (hyps ++ some_part parts ∷ []))

-- each hypothesis holds, and the post formula fails after some path of the body
abbrev pub negated_triple : List Formula → List Stmt → Formula → Formula
negated_triple hyps body post = query_of_parts hyps (map (path_part post) (body_paths body))

-- the negated query
abbrev pub negated_query : MonitorParts → Query → Formula
negated_query monitor query = negated_triple query.hyps (block_body monitor query.block) query.post

-- ---- where a triple fails

-- each hypothesis is true, and the post formula is not after the body
abbrev pub triple_fails : Places → List Formula → List Stmt → Formula → Valuation → Bool
triple_fails places hyps body post v =
    list_all (truth_of v) hyps && not (truth_of (valuation_after places body v) post)

abbrev pub fails_in : MonitorParts → Query → Valuation → Option Block → Bool
fails_in monitor query v None = false
fails_in monitor query v (Some block) =
    triple_fails (places_of monitor block) query.hyps block.body query.post v

-- whether the triple of a query fails at a valuation
abbrev pub query_fails : MonitorParts → Query → Valuation → Bool
query_fails monitor query v = fails_in monitor query v (slice_get monitor.blocks query.block)
