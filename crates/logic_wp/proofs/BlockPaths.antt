-- The paths of a block, and its negated queries, as the code makes them.
use Rattle.std.proofs.Common.{◌≡◌, inl, inr, ℕ, zero, suc, ◌<◌, ◌≤◌, min, Bool, true, false, ◌&&◌, List, [], ◌∷◌, map, length, Option, Some, None, sym, subst, arith, ap, refl, ◌∙◌}
use Rattle.std.specs.Prelude.{nat_le, slice_get, slice_index_or}
use Rattle.std.specs.List.{list_all}
use Rattle.logic_linear.specs.declared.formula.Formula.{Formula}
use Rattle.lang_monitor.specs.declared.monitor.Block.{Block}
use Rattle.lang_monitor.specs.declared.monitor.Stmt.{Stmt}
use Rattle.lang_monitor.specs.declared.query.Query.{Query}
use Rattle.lang_monitor.specs.MonitorParts.{MonitorParts, IsMonitor}
use Rattle.lang_monitor.specs.Paths.{body_in, block_body, path_count}
use Rattle.lang_monitor.specs.Triples.{places_of}
use Rattle.logic_wp.specs.declared.step.Step.{Step}
use Rattle.logic_wp.specs.Paths.{body_paths, block_paths}
use Rattle.logic_wp.specs.NegatedQueries.{path_part, query_of_parts, negated_query}
use Rattle.logic_wp.specs.Limits.{has_few_paths, has_few_nodes, is_path_within, few_paths, query_within}
use Rattle.logic_linear.specs.Measures.{nodes_of}
use Rattle.logic_wp.specs.inner.Backward.{AreBeyond, ArePartsOf, nodes_of_parts}
use Rattle.logic_wp.specs.inner.Choices.{parts_within}
use Rattle.logic_wp.specs.inner.Negatable.{negates_body}
use Rattle.logic_wp.proofs.Fitting.{block_fits}
use Rattle.logic_wp.proofs.Negating.{fitting_body_negates}
use Rattle.logic_wp.proofs.Parts.{held, value_is, not_held, gives, gives_none}
use Rattle.logic_wp.proofs.PathNumbers.{paths_counted}
use Rattle.logic_wp.proofs.StepNodes.{query_nodes}

pub many : (monitor : MonitorParts) (block count : ℕ) → count ≡ min (path_count (block_body monitor block)) 65 → 64 < count → None ≡ few_paths monitor block
many monitor block count e h =
    gives_none (has_few_paths (block_paths monitor block)) (block_paths monitor block)
    (let is = paths_counted (block_body monitor block) in grind arith)

pub few : (monitor : MonitorParts) (block count : ℕ) (paths : List (List Step)) → count ≡ min (path_count (block_body monitor block)) 65 → count ≤ 64
    → paths ≡ block_paths monitor block → Some paths ≡ few_paths monitor block
few monitor block count paths e h made =
    gives (has_few_paths (block_paths monitor block)) (block_paths monitor block) paths
    (let is = paths_counted (block_body monitor block) in grind arith) made

at_index : {X : Type 0} (xs : List X) (i : ℕ) (x : X) → i < length xs → slice_get xs i ≡ Some (slice_index_or xs i x)
at_index [] i x h = absurd (omega arith)
at_index (first ∷ xs) zero x h = refl
at_index (first ∷ xs) (suc i) x h = at_index xs i x (omega arith)

pub block_there : (monitor : MonitorParts) (number : ℕ) (blocks : List Block) (found : Block) → blocks ≡ monitor.blocks → number < length monitor.blocks
    → slice_get monitor.blocks number ≡ Some (slice_index_or blocks number found)
block_there monitor number blocks found same within =
    at_index monitor.blocks number found within ∙ ap (λ xs. Some (slice_index_or xs number found)) (sym same)

pub block_negates : (monitor : MonitorParts) (number : ℕ) (blocks : List Block) (found : Block) (body : List Stmt) → IsMonitor monitor → blocks ≡ monitor.blocks → number < length monitor.blocks
    → body ≡ (slice_index_or blocks number found).body → negates_body body ≡ true
block_negates monitor number blocks found body rule same within is =
    let block = slice_index_or blocks number found in
    let fits = block_fits monitor number block rule (block_there monitor number blocks found same within) in
    ap negates_body is ∙ fitting_body_negates (places_of monitor block) block.body fits.body

pub paths_made : (monitor : MonitorParts) (number : ℕ) (blocks : List Block) (found : Block) (body : List Stmt) (paths : List (List Step)) → blocks ≡ monitor.blocks → number < length monitor.blocks
    → body ≡ (slice_index_or blocks number found).body → paths ≡ body_paths body → paths ≡ block_paths monitor number
paths_made monitor number blocks found body paths same within is made =
    made ∙ ap body_paths (is ∙ ap body_in (sym (block_there monitor number blocks found same within)))

-- ---- negated queries

second_false : (a b c : Bool) → b ≡ false → (a && (b && c)) ≡ false
second_false true b c e = rw e refl
second_false false b c e = refl

third_false : (a b c : Bool) → c ≡ false → (a && (b && c)) ≡ false
third_false true true c e = e
third_false true false c e = refl
third_false false b c e = refl

first_false : (a b : Bool) → a ≡ false → (a && b) ≡ false
first_false a b e = rw e refl

all_hold : (a b c : Bool) → a ≡ true → b ≡ true → c ≡ true → (a && (b && c)) ≡ true
all_hold a b c e f g = rw (e, f, g) refl

pub no_paths : (monitor : MonitorParts) (query : Query) (answer : Option (List (List Step))) → answer ≡ few_paths monitor query.block → answer ≡ None → None ≡ query_within monitor query
no_paths monitor query answer e f =
    gives_none _ _ (first_false _ _ (not_held (has_few_paths (block_paths monitor query.block)) (block_paths monitor query.block) (sym e ∙ f)))

beyond_nodes : (n m : ℕ) → 65536 < n → n ≤ m → nat_le m 65536 ≡ false
beyond_nodes n m e f = grind arith

pub no_parts : (monitor : MonitorParts) (query : Query) (paths : List (List Step)) → paths ≡ block_paths monitor query.block → AreBeyond query.post paths → None ≡ query_within monitor query
no_parts monitor query paths are beyond = stopped (subst (AreBeyond query.post) are beyond)
  where
    stopped : AreBeyond query.post (block_paths monitor query.block) → None ≡ query_within monitor query
    stopped (inl e) = gives_none _ _ (second_false _ _ _ e)
    stopped (inr large) =
        gives_none _ _ (third_false _ _ _ (beyond_nodes (nodes_of_parts query.post (block_paths monitor query.block)) (nodes_of (negated_query monitor query)) large (query_nodes query.hyps query.post (block_paths monitor query.block))))

pub parts_there : (post : Formula) (paths : List (List Step)) (parts : List Formula) → ArePartsOf post paths parts → Some parts ≡ parts_within post paths
parts_there post paths parts are = gives (list_all (is_path_within post) paths) (map (path_part post) paths) parts are.kept are.made

whole_is : (monitor : MonitorParts) (query : Query) (paths : List (List Step)) (parts : List Formula) (whole : Formula) → paths ≡ block_paths monitor query.block
    → parts ≡ map (path_part query.post) paths → whole ≡ query_of_parts query.hyps parts → whole ≡ negated_query monitor query
whole_is monitor query paths parts whole are made is = is ∙ ap (query_of_parts query.hyps) (made ∙ ap (map (path_part query.post)) are)

pub too_large : (monitor : MonitorParts) (query : Query) (answer : Option (List (List Step))) (paths : List (List Step)) (found : Option (List Formula)) (parts : List Formula) (whole : Formula) (small : Bool)
    → answer ≡ few_paths monitor query.block → answer ≡ Some paths → found ≡ parts_within query.post paths → found ≡ Some parts
    → whole ≡ query_of_parts query.hyps parts → small ≡ has_few_nodes whole → small ≡ false → None ≡ query_within monitor query
too_large monitor query answer paths found parts whole small e f g h is j k =
    let same = whole_is monitor query paths parts whole (value_is _ _ _ (sym e ∙ f)) (value_is _ _ _ (sym g ∙ h)) is in
    gives_none _ _ (third_false _ _ _ (ap has_few_nodes (sym same) ∙ sym j ∙ k))

pub within : (monitor : MonitorParts) (query : Query) (answer : Option (List (List Step))) (paths : List (List Step)) (found : Option (List Formula)) (parts : List Formula) (whole : Formula) (small : Bool)
    → answer ≡ few_paths monitor query.block → answer ≡ Some paths → found ≡ parts_within query.post paths → found ≡ Some parts
    → whole ≡ query_of_parts query.hyps parts → small ≡ has_few_nodes whole → small ≡ true → Some whole ≡ query_within monitor query
within monitor query answer paths found parts whole small e f g h is j k =
    let are = value_is _ _ _ (sym e ∙ f) in
    let same = whole_is monitor query paths parts whole are (value_is _ _ _ (sym g ∙ h)) is in
    gives _ _ _ (all_hold _ _ _ (held _ _ _ (sym e ∙ f)) (ap (list_all (is_path_within query.post)) (sym are) ∙ held _ _ _ (sym g ∙ h)) (ap has_few_nodes (sym same) ∙ sym j ∙ k)) same
