-- Fewer kept candidates make no query harder, and more of them leave each query valid.
use Rattle.std.proofs.Common.{◌≡◌, inl, inr, ℕ, suc, ◌+◌, ◌≤◌, sum, Bool, true, ◌&&◌, List, [], ◌∷◌, ◌++◌, map, Option, Some, None, sym, subst, arith, ap, refl, ◌∙◌}
use Rattle.std.specs.Prelude.{nat_le, slice_get}
use Rattle.std.specs.List.{All, Contains, list_all, flat_map}
use Rattle.std.specs.Option.{IsSomeAnd}
use Rattle.std.proofs.lemmas.Bool.{and_parts, and_from, leb-true, le-leb}
use Rattle.std.proofs.lemmas.List.{append_assoc}
use Rattle.std.proofs.lemmas.List.Elements.{All-nil, All-cons, All-contains, All-head, All-tail, All-weaker}
use Rattle.std.proofs.lemmas.List.Folds.{list_all-append, list_all-map}
use Rattle.std.proofs.lemmas.List.Recursion.{and_at}
use Rattle.std.proofs.lemmas.List.Sums.{sum_by-cons}
use Rattle.logic_linear.specs.declared.formula.Formula.{Formula}
use Rattle.logic_linear.specs.declared.formula.Formula.TheVariants as formulas
use Rattle.logic_linear.specs.declared.formula.Formula.TheOpen.{Row, Flag, All as Every}
use Rattle.logic_linear.specs.declared.formula.Formula.TheViews.{roll-Formula}
use Rattle.logic_linear.specs.declared.formula.Formula.TheFolds.{fold-roll-Formula}
use Rattle.logic_linear.specs.Differences.{is_difference, has_difference_rows}
use Rattle.logic_linear.specs.Linear.{Linear}
use Rattle.logic_linear.specs.Measures.{cubes_layer, cubes_of, nodes_layer, nodes_of, product, MOST_CUBES, MOST_NODES}
use Rattle.logic_linear.specs.Places.{rows_layer, rows_of}
use Rattle.logic_linear.specs.Truth.{Valuation, truth_of}
use Rattle.lang_monitor.specs.declared.candidate.Candidate.{Candidate}
use Rattle.lang_monitor.specs.declared.candidate.Candidate.TheVariants as candidates
use Rattle.lang_monitor.specs.declared.claim.Claim.{Claim}
use Rattle.lang_monitor.specs.declared.claim.Claim.TheVariants as claims
use Rattle.lang_monitor.specs.declared.monitor.Block.{Block}
use Rattle.lang_monitor.specs.Bodies.{IsValid}
use Rattle.lang_monitor.specs.Candidates.{AreSomeOf, candidate_formula}
use Rattle.lang_monitor.specs.MonitorParts.{MonitorParts}
use Rattle.lang_monitor.specs.Paths.{block_body}
use Rattle.lang_monitor.specs.Queries.{hypotheses, query_of}
use Rattle.lang_monitor.specs.Triples.{IsValidQuery, places_of}
use Rattle.logic_wp.specs.PlainClaims.{has_few_cubes, is_plain, is_within_limits}
use Rattle.logic_wp.specs.Limits.{has_few_nodes, has_few_paths, is_path_within}
use Rattle.logic_wp.specs.NegatedQueries.{negated_query, path_part, some_part}
use Rattle.logic_wp.specs.Paths.{body_paths}
use Rattle.logic_wp.proofs.QueryLaws.{all_truth}

-- ---- measures of lists of hypotheses

abbrev nodes_in : List Formula → ℕ
nodes_in parts = sum (map nodes_of parts)

abbrev cubes_in : List Formula → ℕ
cubes_in parts = product (map cubes_of parts)

abbrev rows_in : List Formula → List Linear
rows_in parts = flat_map (λ rows. rows) (map rows_of parts)

-- a candidate counts as one cube

row_cubes : (form : Linear) → cubes_of (formulas.Row form) ≡ 1
row_cubes form = ap cubes_of (sym (formulas.rolls-Row form)) ∙ fold-roll-Formula ℕ cubes_layer (Row form)

flag_cubes : (place : ℕ) (is : Bool) → cubes_of (formulas.Flag place is) ≡ 1
flag_cubes place is = ap cubes_of (sym (formulas.rolls-Flag place is)) ∙ fold-roll-Formula ℕ cubes_layer (Flag place is)

one_cube : (candidate : Candidate) → cubes_of (candidate_formula candidate) ≡ 1
one_cube (candidates.AtMost field bound) = row_cubes _
one_cube (candidates.AtLeast field bound) = row_cubes _
one_cube (candidates.Flag field is) = flag_cubes field is
one_cube (candidates.Below left right) = row_cubes _

same_cubes : (kept : List Candidate) (more : List Formula) → cubes_in (hypotheses kept more) ≡ cubes_in more
same_cubes [] more = refl
same_cubes (one ∷ kept) more =
    let first = one_cube one in
    let rest = same_cubes kept more in
    rw first (omega arith)

-- fewer hypotheses have no more nodes

more_nodes : (part : Formula) (parts : List Formula) → nodes_in (part ∷ parts) ≡ nodes_of part + nodes_in parts
more_nodes part parts = sum_by-cons (λ n. n) (nodes_of part) (map nodes_of parts)

fewer_nodes : (kept all : List Candidate) (more : List Formula) → AreSomeOf kept all → nodes_in (hypotheses kept more) ≤ nodes_in (hypotheses all more)
fewer_nodes [] [] more are = omega arith
fewer_nodes [] (first ∷ all) more are =
    let step = more_nodes (candidate_formula first) (hypotheses all more) in
    let rest = fewer_nodes [] all more are in
    omega arith
fewer_nodes (one ∷ kept) [] more are = absurd are
fewer_nodes (one ∷ kept) (first ∷ all) more (inl both) =
    let mine = more_nodes (candidate_formula one) (hypotheses kept more) in
    let step = more_nodes (candidate_formula first) (hypotheses all more) in
    let same = ap (λ (c : Candidate). nodes_of (candidate_formula c)) both.0 in
    let rest = fewer_nodes kept all more both.1 in
    omega arith
fewer_nodes (one ∷ kept) (first ∷ all) more (inr are) =
    let step = more_nodes (candidate_formula first) (hypotheses all more) in
    let rest = fewer_nodes (one ∷ kept) all more are in
    omega arith

-- and no new rows

abbrev AreDifferences : List Formula → Type 0
AreDifferences parts = list_all is_difference (rows_in parts) ≡ true

split_rows : (part : Formula) (parts : List Formula) → AreDifferences (part ∷ parts) → (has_difference_rows part ≡ true) × AreDifferences parts
split_rows part parts e =
    and_parts (list_all is_difference (rows_of part)) (list_all is_difference (rows_in parts)) (sym (list_all-append is_difference (rows_of part) (rows_in parts)) ∙ e)

join_rows : (part : Formula) (parts : List Formula) → has_difference_rows part ≡ true → AreDifferences parts → AreDifferences (part ∷ parts)
join_rows part parts e f =
    list_all-append is_difference (rows_of part) (rows_in parts) ∙ and_from (list_all is_difference (rows_of part)) (list_all is_difference (rows_in parts)) e f

fewer_rows : (kept all : List Candidate) (more : List Formula) → AreSomeOf kept all → AreDifferences (hypotheses all more) → AreDifferences (hypotheses kept more)
fewer_rows [] [] more are e = e
fewer_rows [] (first ∷ all) more are e =
    fewer_rows [] all more are (split_rows (candidate_formula first) (hypotheses all more) e).1
fewer_rows (one ∷ kept) [] more are e = absurd are
fewer_rows (one ∷ kept) (first ∷ all) more (inl both) e =
    let parts = split_rows (candidate_formula first) (hypotheses all more) e in
    join_rows (candidate_formula one) (hypotheses kept more)
    (ap (λ (c : Candidate). has_difference_rows (candidate_formula c)) both.0 ∙ parts.0) (fewer_rows kept all more both.1 parts.1)
fewer_rows (one ∷ kept) (first ∷ all) more (inr are) e =
    fewer_rows (one ∷ kept) all more are (split_rows (candidate_formula first) (hypotheses all more) e).1

-- ---- the negated query

abbrev whole : List Formula → Formula
whole parts = roll-Formula (Every parts)

few_nodes_of : (parts others : List Formula) → nodes_in parts ≤ nodes_in others → has_few_nodes (whole others) ≡ true → has_few_nodes (whole parts) ≡ true
few_nodes_of parts others fewer e =
    let mine = fold-roll-Formula ℕ nodes_layer (Every parts) in
    let other = fold-roll-Formula ℕ nodes_layer (Every others) in
    let most = leb-true (nodes_of (whole others)) MOST_NODES e in
    le-leb (nodes_of (whole parts)) MOST_NODES (omega arith)

few_cubes_of : (parts others : List Formula) → cubes_in parts ≡ cubes_in others → has_few_cubes (whole others) ≡ true → has_few_cubes (whole parts) ≡ true
few_cubes_of parts others same e =
    ap (λ n. nat_le n MOST_CUBES) (fold-roll-Formula ℕ cubes_layer (Every parts) ∙ same ∙ sym (fold-roll-Formula ℕ cubes_layer (Every others))) ∙ e

differences_of : (parts others : List Formula) → (AreDifferences others → AreDifferences parts) → has_difference_rows (whole others) ≡ true → has_difference_rows (whole parts) ≡ true
differences_of parts others fewer e =
    ap (list_all is_difference) (fold-roll-Formula (List Linear) rows_layer (Every parts))
    ∙ fewer (ap (list_all is_difference) (sym (fold-roll-Formula (List Linear) rows_layer (Every others))) ∙ e)

within_by_parts : (paths within nodes cubes fewer_nodes fewer_cubes : Bool)
    → (nodes ≡ true → fewer_nodes ≡ true) → (cubes ≡ true → fewer_cubes ≡ true)
    → ((paths && (within && nodes)) && cubes) ≡ true
    → ((paths && (within && fewer_nodes)) && fewer_cubes) ≡ true
within_by_parts paths within nodes cubes fewer_nodes fewer_cubes f g e =
    let both = and_parts (paths && (within && nodes)) cubes e in
    let limits = and_parts paths (within && nodes) both.0 in
    let more = and_parts within nodes limits.1 in
    and_from (paths && (within && fewer_nodes)) fewer_cubes
    (and_from paths (within && fewer_nodes) limits.0 (and_from within fewer_nodes more.0 (f more.1))) (g both.1)

-- the hypotheses, and some part of the body's
abbrev parts_with : List Candidate → List Formula → Formula → List Formula
parts_with kept more some = hypotheses kept (more ++ some ∷ [])

parts_are : (kept : List Candidate) (more : List Formula) (some : Formula) → hypotheses kept more ++ some ∷ [] ≡ parts_with kept more some
parts_are kept more some = append_assoc (map candidate_formula kept) more (some ∷ [])

abbrev IsWithinWith : MonitorParts → ℕ → Formula → List Formula → Type 0
IsWithinWith monitor block post parts =
    ((has_few_paths (body_paths (block_body monitor block)) && (list_all (is_path_within post) (body_paths (block_body monitor block)) && has_few_nodes (whole parts)))
    && has_few_cubes (whole parts)) ≡ true

within_with : (monitor : MonitorParts) (block : ℕ) (post : Formula) (kept all : List Candidate) (more : List Formula) (some : Formula) → AreSomeOf kept all
    → IsWithinWith monitor block post (hypotheses all more ++ some ∷ [])
    → IsWithinWith monitor block post (hypotheses kept more ++ some ∷ [])
within_with monitor block post kept all more some are e =
    subst (IsWithinWith monitor block post) (sym (parts_are kept more some))
    (within_by_parts (has_few_paths (body_paths (block_body monitor block))) (list_all (is_path_within post) (body_paths (block_body monitor block)))
    (has_few_nodes (whole (parts_with all more some))) (has_few_cubes (whole (parts_with all more some)))
    (has_few_nodes (whole (parts_with kept more some))) (has_few_cubes (whole (parts_with kept more some)))
    (few_nodes_of (parts_with kept more some) (parts_with all more some) (fewer_nodes kept all (more ++ some ∷ []) are))
    (few_cubes_of (parts_with kept more some) (parts_with all more some) (same_cubes kept (more ++ some ∷ []) ∙ sym (same_cubes all (more ++ some ∷ []))))
    (subst (IsWithinWith monitor block post) (parts_are all more some) e))

differences_with : (kept all : List Candidate) (more : List Formula) (some : Formula) → AreSomeOf kept all
    → has_difference_rows (whole (hypotheses all more ++ some ∷ [])) ≡ true → has_difference_rows (whole (hypotheses kept more ++ some ∷ [])) ≡ true
differences_with kept all more some are e =
    subst (λ (parts : List Formula). has_difference_rows (whole parts) ≡ true) (sym (parts_are kept more some))
    (differences_of (parts_with kept more some) (parts_with all more some) (fewer_rows kept all (more ++ some ∷ []) are)
    (subst (λ (parts : List Formula). has_difference_rows (whole parts) ≡ true) (parts_are all more some) e))

abbrev some_of_body : MonitorParts → ℕ → Formula → Formula
some_of_body monitor block post = some_part (map (path_part post) (body_paths (block_body monitor block)))

pub fewer_within : (monitor : MonitorParts) (claim : Claim) (kept all : List Candidate) → AreSomeOf kept all
    → is_within_limits monitor (query_of monitor all claim) ≡ true → is_within_limits monitor (query_of monitor kept claim) ≡ true
fewer_within monitor (claims.Keeps candidate block) kept all are e = within_with monitor block _ kept all _ (some_of_body monitor block _) are e
fewer_within monitor (claims.NoNote block condition) kept all are e = within_with monitor block _ kept all _ (some_of_body monitor block _) are e
fewer_within monitor (claims.One condition block) kept all are e = within_with monitor block _ kept all _ (some_of_body monitor block _) are e
fewer_within monitor (claims.NoTest block condition) kept all are e = within_with monitor block _ kept all _ (some_of_body monitor block _) are e

fewer_differences : (monitor : MonitorParts) (claim : Claim) (kept all : List Candidate) → AreSomeOf kept all
    → has_difference_rows (negated_query monitor (query_of monitor all claim)) ≡ true → has_difference_rows (negated_query monitor (query_of monitor kept claim)) ≡ true
fewer_differences monitor (claims.Keeps candidate block) kept all are e = differences_with kept all _ (some_of_body monitor block _) are e
fewer_differences monitor (claims.NoNote block condition) kept all are e = differences_with kept all _ (some_of_body monitor block _) are e
fewer_differences monitor (claims.One condition block) kept all are e = differences_with kept all _ (some_of_body monitor block _) are e
fewer_differences monitor (claims.NoTest block condition) kept all are e = differences_with kept all _ (some_of_body monitor block _) are e

pub fewer_no_harder : (monitor : MonitorParts) (claim : Claim) (kept all : List Candidate) → AreSomeOf kept all
    → is_plain monitor (query_of monitor all claim) ≡ true → is_plain monitor (query_of monitor kept claim) ≡ true
fewer_no_harder monitor claim kept all are e =
    let every = query_of monitor all claim in
    let some = query_of monitor kept claim in
    let both = and_parts (is_within_limits monitor every) (has_difference_rows (negated_query monitor every)) e in
    and_from (is_within_limits monitor some) (has_difference_rows (negated_query monitor some)) (fewer_within monitor claim kept all are both.0) (fewer_differences monitor claim kept all are both.1)

-- ---- more hypotheses

-- the candidate is true there
abbrev IsTrueAt : Valuation → Candidate → Type 0
IsTrueAt v candidate = truth_of v (candidate_formula candidate) ≡ true

each_true : (v : Valuation) (all : List Candidate) → list_all (truth_of v) (map candidate_formula all) ≡ true → All (IsTrueAt v) all
each_true v all e = λ k d h.
    and_at (list_all (λ candidate. truth_of v (candidate_formula candidate))) (λ candidate. truth_of v (candidate_formula candidate)) refl (λ one more. refl) all k d h
    (sym (list_all-map (truth_of v) candidate_formula all) ∙ e)

all_true : (v : Valuation) (kept : List Candidate) → All (IsTrueAt v) kept → list_all (truth_of v) (map candidate_formula kept) ≡ true
all_true v [] each = refl
all_true v (one ∷ kept) each =
    and_from (truth_of v (candidate_formula one)) (list_all (truth_of v) (map candidate_formula kept))
    (All-head (IsTrueAt v) one kept each) (all_true v kept (All-tail (IsTrueAt v) one kept each))

more_true : (v : Valuation) (kept all : List Candidate) (more : List Formula) → All (Contains all) kept
    → list_all (truth_of v) (hypotheses all more) ≡ true → list_all (truth_of v) (hypotheses kept more) ≡ true
more_true v kept all more within e =
    let both = and_parts (list_all (truth_of v) (map candidate_formula all)) (list_all (truth_of v) more) (sym (list_all-append (truth_of v) (map candidate_formula all) more) ∙ e) in
    list_all-append (truth_of v) (map candidate_formula kept) more
    ∙ and_from (list_all (truth_of v) (map candidate_formula kept)) (list_all (truth_of v) more)
    (all_true v kept (All-weaker (Contains all) (IsTrueAt v) (λ one is. All-contains (IsTrueAt v) all one (each_true v all both.0) is) kept within)) both.1

abbrev IsValidIn : MonitorParts → Formula → List Formula → Option Block → Type 0
IsValidIn monitor post hyps held = IsSomeAnd held (λ block. IsValid (places_of monitor block) (formulas.All hyps) block.body post)

valid_under : (monitor : MonitorParts) (post : Formula) (hyps others : List Formula) (held : Option Block)
    → ((v : Valuation) → list_all (truth_of v) others ≡ true → list_all (truth_of v) hyps ≡ true)
    → IsValidIn monitor post hyps held → IsValidIn monitor post others held
valid_under monitor post hyps others None gives valid = valid
valid_under monitor post hyps others (Some block) gives valid = λ v before.
    valid v (all_truth v hyps ∙ gives v (sym (all_truth v others) ∙ before))

valid_with : (monitor : MonitorParts) (block : ℕ) (post : Formula) (kept all : List Candidate) (more : List Formula) → All (Contains all) kept
    → IsValidIn monitor post (hypotheses kept more) (slice_get monitor.blocks block) → IsValidIn monitor post (hypotheses all more) (slice_get monitor.blocks block)
valid_with monitor block post kept all more within =
    valid_under monitor post (hypotheses kept more) (hypotheses all more) (slice_get monitor.blocks block) (λ v. more_true v kept all more within)

pub more_keep_valid : (monitor : MonitorParts) (claim : Claim) (kept all : List Candidate) → All (Contains all) kept
    → IsValidQuery monitor (query_of monitor kept claim) → IsValidQuery monitor (query_of monitor all claim)
more_keep_valid monitor (claims.Keeps candidate block) kept all within valid = valid_with monitor block _ kept all _ within valid
more_keep_valid monitor (claims.NoNote block condition) kept all within valid = valid_with monitor block _ kept all _ within valid
more_keep_valid monitor (claims.One condition block) kept all within valid = valid_with monitor block _ kept all _ within valid
more_keep_valid monitor (claims.NoTest block condition) kept all within valid = valid_with monitor block _ kept all _ within valid

-- ---- some of the candidates are among them

contains_more : (first one : Candidate) (all : List Candidate) → Contains all one → Contains (first ∷ all) one
contains_more first one all is = let low = is.1 in (suc is.0, omega arith, is.2)

pub some_contained : (kept all : List Candidate) → AreSomeOf kept all → All (Contains all) kept
some_contained [] all are = All-nil (Contains all)
some_contained (one ∷ kept) [] are = absurd are
some_contained (one ∷ kept) (first ∷ all) (inl both) =
    All-cons (Contains (first ∷ all)) one kept (0, omega arith, sym both.0)
    (All-weaker (Contains all) (Contains (first ∷ all)) (λ other. contains_more first other all) kept (some_contained kept all both.1))
some_contained (one ∷ kept) (first ∷ all) (inr are) =
    All-weaker (Contains all) (Contains (first ∷ all)) (λ other. contains_more first other all) (one ∷ kept) (some_contained (one ∷ kept) all are)
