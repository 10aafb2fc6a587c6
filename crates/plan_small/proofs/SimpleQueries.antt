-- Where blocks are simple, negated queries have difference rows alone, so that a small monitor is
-- plain.
use Rattle.std.proofs.Common.{◌≡◌, ℕ, zero, suc, pos, ◌-◌, ◌==◌, Bool, true, false, cond, ◌&&◌, List, [], ◌∷◌, ◌++◌, map, Option, Some, None, refl, sym, ap, subst, ◌∙◌, arith}
use Rattle.std.specs.Prelude.{IsSomeAnd, nat_lt, slice_get}
use Rattle.std.specs.List.{flat_map, list_all}
use Rattle.std.proofs.lemmas.Bool.{and_from, and_parts}
use Rattle.std.proofs.lemmas.List.Elements.{All-contains}
use Rattle.std.proofs.lemmas.List.Folds.{list_all-append}
use Rattle.logic_linear.specs.declared.formula.Formula.{Formula}
use Rattle.logic_linear.specs.declared.formula.Formula.TheOpen.{Formula-F, Row, Flag, All as Every, Any as Some_of}
use Rattle.logic_linear.specs.declared.formula.Formula.TheViews.{roll-Formula}
use Rattle.logic_linear.specs.declared.formula.Formula.TheFolds.{fold-Formula, fold-roll-Formula, ind-Formula, map-Formula}
use Rattle.logic_linear.specs.declared.substitution.Put.{Put}
use Rattle.logic_linear.specs.declared.substitution.Put.TheVariants.{Number, Truth}
use Rattle.logic_linear.specs.Differences.{has_difference_rows, is_difference}
use Rattle.logic_linear.specs.Linear.{Linear}
use Rattle.logic_linear.specs.Negation.{layer_negation, negation}
use Rattle.logic_linear.specs.Places.{rows_layer, rows_of}
use Rattle.logic_linear.specs.Substitution.{put_in_layer}
use Rattle.lang_monitor.specs.declared.candidate.Candidate.{Candidate}
use Rattle.lang_monitor.specs.declared.candidate.Candidate.TheVariants as candidates
use Rattle.lang_monitor.specs.declared.claim.Claim.{Claim}
use Rattle.lang_monitor.specs.declared.claim.Claim.TheVariants as claims
use Rattle.lang_monitor.specs.declared.monitor.Block.{Block}
use Rattle.lang_monitor.specs.declared.monitor.Condition.{Condition}
use Rattle.lang_monitor.specs.declared.monitor.Stmt.{Stmt}
use Rattle.lang_monitor.specs.declared.monitor.Stmt.TheVariants as statements
use Rattle.lang_monitor.specs.Candidates.{candidate_formula, candidates_of, once, opposite as minus_once}
use Rattle.lang_monitor.specs.Conditions.{HasCondition, HasFirstBlock}
use Rattle.lang_monitor.specs.MonitorParts.{MonitorParts, IsMonitor}
use Rattle.lang_monitor.specs.Paths.{block_body, body_in}
use Rattle.lang_monitor.proofs.Statements.{by_bodies, if_passes, put_passes}
use Rattle.lang_monitor.specs.Queries.{block_guard, for_waiting, guard_in_block, guard_in_condition, hypotheses, query_of, waiting_guard, waiting_step}
use Rattle.logic_wp.specs.declared.step.Step.{Step}
use Rattle.logic_wp.specs.declared.step.Step.TheVariants.{Assume, Put as Assign}
use Rattle.logic_wp.specs.NegatedQueries.{negated_query, path_part, some_part}
use Rattle.logic_wp.specs.Paths.{assuming, body_paths, continued, statement_paths}
use Rattle.logic_wp.proofs.PathNumbers.{if_paths, put_paths}
use Rattle.logic_wp.specs.PlainClaims.{IsClaimOf, IsConditionNumber, is_simple_block, is_simple_put, is_simple_statement, is_within_limits}
use Rattle.plan_prune.specs.Hardness.{IsSmall, beyond_limits}
use Rattle.plan_small.specs.Plain.{IsPlain, IsPlainClaim}
use Rattle.plan_small.proofs.DifferenceRows.{all_differs, flag_differs, parts_differ, row_differs}
use Rattle.plan_small.proofs.ShownReasons.{contained, number_of_kind}
use Rattle.plan_small.proofs.SimpleRows.{negated_row, replaced_row, waiting_row}

abbrev Differs : Formula → Type 0
Differs formula = has_difference_rows formula ≡ true

-- ---- layers

rolled : (layer : Formula-F Formula) → has_difference_rows (roll-Formula layer) ≡ list_all is_difference (rows_layer (map-Formula _ (List Linear) rows_of layer))
rolled layer = ap (list_all is_difference) (fold-roll-Formula (List Linear) rows_layer layer)

row_rolled : (form : Linear) → is_difference form ≡ true → Differs (roll-Formula (Row form))
row_rolled form e = rolled (Row form) ∙ and_from (is_difference form) true e refl

flag_rolled : (place : ℕ) (is : Bool) → Differs (roll-Formula (Flag place is))
flag_rolled place is = rolled (Flag place is)

every_rolled : (parts : List Formula) → list_all has_difference_rows parts ≡ true → Differs (roll-Formula (Every parts))
every_rolled parts e = rolled (Every parts) ∙ parts_differ parts ∙ e

some_rolled : (parts : List Formula) → list_all has_difference_rows parts ≡ true → Differs (roll-Formula (Some_of parts))
some_rolled parts e = rolled (Some_of parts) ∙ parts_differ parts ∙ e

-- a change of formulas, layer by layer, that keeps difference rows where those of the parts stay
record KeepsLayers (step : Formula-F Formula → Formula) : Type 0 where
  row : (form : Linear) → is_difference form ≡ true → Differs (step (Row form))
  flag : (place : ℕ) (is : Bool) → Differs (step (Flag place is))
  every : (parts : List Formula) → list_all has_difference_rows parts ≡ true → Differs (step (Every parts))
  some : (parts : List Formula) → list_all has_difference_rows parts ≡ true → Differs (step (Some_of parts))

abbrev Kept : (Formula-F Formula → Formula) → Formula → Type 0
Kept step formula = Differs formula → Differs (fold-Formula Formula step formula)

parts_kept : (step : Formula-F Formula → Formula) (parts : List ((formula : Formula) × Kept step formula)) → list_all has_difference_rows (map (λ part. part.0) parts) ≡ true
    → list_all has_difference_rows (map (fold-Formula Formula step) (map (λ part. part.0) parts)) ≡ true
parts_kept step [] e = refl
parts_kept step (part ∷ parts) e =
    let both = and_parts (has_difference_rows part.0) (list_all has_difference_rows (map (λ one. one.0) parts)) e in
    and_from (has_difference_rows (fold-Formula Formula step part.0)) (list_all has_difference_rows (map (fold-Formula Formula step) (map (λ one. one.0) parts))) (part.1 both.0) (parts_kept step parts both.1)

abbrev LayerKept : (Formula-F Formula → Formula) → Formula-F Formula → Type 0
LayerKept step layer =
    list_all is_difference (rows_layer (map-Formula _ (List Linear) rows_of layer)) ≡ true → Differs (step (map-Formula _ Formula (fold-Formula Formula step) layer))

layer_kept : (step : Formula-F Formula → Formula) → KeepsLayers step → (layer : Formula-F ((formula : Formula) × Kept step formula)) → LayerKept step (map-Formula _ Formula (λ part. part.0) layer)
layer_kept step keeps (Row form) e = keeps.row form (and_parts (is_difference form) true e).0
layer_kept step keeps (Flag place is) e = keeps.flag place is
layer_kept step keeps (Every parts) e =
    keeps.every (map (fold-Formula Formula step) (map (λ part. part.0) parts)) (parts_kept step parts (sym (parts_differ (map (λ part. part.0) parts)) ∙ e))
layer_kept step keeps (Some_of parts) e =
    keeps.some (map (fold-Formula Formula step) (map (λ part. part.0) parts)) (parts_kept step parts (sym (parts_differ (map (λ part. part.0) parts)) ∙ e))

kept : (step : Formula-F Formula → Formula) → KeepsLayers step → (formula : Formula) → Kept step formula
kept step keeps = ind-Formula (Kept step) (λ layer parts is. whole layer (subst (LayerKept step) is (layer_kept step keeps parts)))
  where
    whole : (layer : Formula-F Formula) → LayerKept step layer → Kept step (roll-Formula layer)
    whole layer stays e = ap has_difference_rows (fold-roll-Formula Formula step layer) ∙ stays (sym (rolled layer) ∙ e)

negation_differs : (formula : Formula) → Differs formula → Differs (negation formula)
negation_differs = kept layer_negation (record {
  row = λ form e. row_rolled _ (negated_row form e);
  flag = λ place is. flag_rolled place _;
  every = some_rolled;
  some = every_rolled;
})

waiting_differs : (formula : Formula) → Differs formula → Differs (for_waiting formula)
waiting_differs = kept waiting_step (record {
  row = λ form e. row_rolled _ (waiting_row form e);
  flag = λ place is. flag_rolled _ is;
  every = every_rolled;
  some = some_rolled;
})

-- ---- assignments

abbrev IsSimplePut : Put → Type 0
IsSimplePut put = is_simple_put put ≡ true

put_keeps : (put : Put) → IsSimplePut put → KeepsLayers (put_in_layer put)
put_keeps (Number place by) simple = record {
  row = λ form e. row_rolled _ (replaced_row place by form simple e);
  flag = flag_rolled;
  every = every_rolled;
  some = some_rolled;
}
put_keeps (Truth place by) simple = record {
  row = row_rolled;
  flag = λ at is. by_tests at is (at == place) is;
  every = every_rolled;
  some = some_rolled;
}
  where
    by_tests : (at : ℕ) (is same test : Bool) → Differs (cond same (cond test by (negation by)) (roll-Formula (Flag at is)))
    by_tests at is true true = simple
    by_tests at is true false = negation_differs by simple
    by_tests at is false test = flag_rolled at is

-- ---- paths

abbrev IsSimpleStep : Step → Type 0
IsSimpleStep (Assign put) = IsSimplePut put
IsSimpleStep (Assume formula) = Differs formula

abbrev IsSimplePath : List Step → Type 0
IsSimplePath [] = Unit {0}
IsSimplePath (step ∷ steps) = IsSimpleStep step × IsSimplePath steps

abbrev AreSimple : List (List Step) → Type 0
AreSimple [] = Unit {0}
AreSimple (path ∷ paths) = IsSimplePath path × AreSimple paths

path_append : (path rest : List Step) → IsSimplePath path → IsSimplePath rest → IsSimplePath (path ++ rest)
path_append [] rest one other = other
path_append (step ∷ path) rest one other = (one.0, path_append path rest one.1 other)

paths_append : (paths rests : List (List Step)) → AreSimple paths → AreSimple rests → AreSimple (paths ++ rests)
paths_append [] rests one other = other
paths_append (path ∷ paths) rests one other = (one.0, paths_append paths rests one.1 other)

continued_simple : (rests : List (List Step)) (path : List Step) → AreSimple rests → IsSimplePath path → AreSimple (continued rests path)
continued_simple [] path are is = tt
continued_simple (rest ∷ rests) path are is = (path_append path rest is are.0, continued_simple rests path are.1 is)

joined_with : (rests firsts : List (List Step)) → AreSimple rests → AreSimple firsts → AreSimple (flat_map (continued rests) firsts)
joined_with rests [] are is = tt
joined_with rests (path ∷ firsts) are is = paths_append (continued rests path) (flat_map (continued rests) firsts) (continued_simple rests path are is.0) (joined_with rests firsts are is.1)

assuming_simple : (formula : Formula) (paths : List (List Step)) → Differs formula → AreSimple paths → AreSimple (assuming formula paths)
assuming_simple formula [] e are = tt
assuming_simple formula (path ∷ paths) e are = ((e, are.0), assuming_simple formula paths e are.1)

paths_simple : (body : List Stmt) → list_all is_simple_statement body ≡ true → AreSimple (body_paths body)
paths_simple = by_bodies Simple (λ e. (tt, tt)) assigns chooses
  where
    Simple : List Stmt → Type 0
    Simple body = list_all is_simple_statement body ≡ true → AreSimple (body_paths body)

    assigns : (put : Put) (rest : List Stmt) → Simple rest → Simple (statements.Put put ∷ rest)
    assigns put rest later e =
        let both = put_passes is_simple_put has_difference_rows put rest e in
        joined_with (body_paths rest) (statement_paths (statements.Put put)) (later both.1) (subst AreSimple (sym (put_paths put)) ((both.0, tt), tt))

    chooses : (when : Formula) (body other rest : List Stmt) → Simple body → Simple other → Simple rest → Simple (statements.If when body other ∷ rest)
    chooses when body other rest first second later e =
        let has = if_passes is_simple_put has_difference_rows when body other rest e in
        let against = negation_differs when has.when_passes in
        joined_with (body_paths rest) (statement_paths (statements.If when body other)) (later has.rest_passes)
        (subst AreSimple (sym (if_paths when body other))
        (paths_append (assuming when (body_paths body)) (assuming (negation when) (body_paths other)) (assuming_simple when (body_paths body) has.when_passes (first has.body_passes))
        (assuming_simple (negation when) (body_paths other) against (second has.other_passes))))

part_differs : (post : Formula) (path : List Step) → Differs post → IsSimplePath path → Differs (path_part post path)
part_differs post [] e is = negation_differs post e
part_differs post (Assign put ∷ path) e is = kept (put_in_layer put) (put_keeps put is.0) (path_part post path) (part_differs post path e is.1)
part_differs post (Assume formula ∷ path) e is =
    every_rolled (formula ∷ path_part post path ∷ []) (and_from (has_difference_rows formula) (has_difference_rows (path_part post path) && true) is.0
    (and_from (has_difference_rows (path_part post path)) true (part_differs post path e is.1) refl))

parts_of_paths : (post : Formula) (paths : List (List Step)) → Differs post → AreSimple paths → list_all has_difference_rows (map (path_part post) paths) ≡ true
parts_of_paths post [] e are = refl
parts_of_paths post (path ∷ paths) e are =
    and_from (has_difference_rows (path_part post path)) (list_all has_difference_rows (map (path_part post) paths)) (part_differs post path e are.0) (parts_of_paths post paths e are.1)

-- ---- queries

candidate_differs : (candidate : Candidate) → Differs (candidate_formula candidate)
candidate_differs (candidates.AtMost field bound) = row_differs _
candidate_differs (candidates.AtLeast field bound) = row_differs _
candidate_differs (candidates.Flag field is) = flag_differs field is
candidate_differs (candidates.Below left right) = row_differs _ ∙ by_test (nat_lt left right)
  where
    by_test : (less : Bool) → is_difference (record { terms = cond less (once left ∷ minus_once right ∷ []) (minus_once right ∷ once left ∷ []); constant = pos 0 }) ≡ true
    by_test true = refl
    by_test false = refl

all_with : (kept : List Candidate) (more : List Formula) → list_all has_difference_rows more ≡ true → list_all has_difference_rows (hypotheses kept more) ≡ true
all_with [] more e = e
all_with (candidate ∷ kept) more e =
    and_from (has_difference_rows (candidate_formula candidate)) (list_all has_difference_rows (hypotheses kept more)) (candidate_differs candidate) (all_with kept more e)

one_alone : (formula : Formula) → Differs formula → list_all has_difference_rows (formula ∷ []) ≡ true
one_alone formula e = and_from (has_difference_rows formula) true e refl

two_alone : (formula other : Formula) → Differs formula → Differs other → list_all has_difference_rows (formula ∷ other ∷ []) ≡ true
two_alone formula other e f = and_from (has_difference_rows formula) (list_all has_difference_rows (other ∷ [])) e (one_alone other f)

at_index : (blocks : List Block) (block : ℕ) (held : Block) → list_all is_simple_block blocks ≡ true → slice_get blocks block ≡ Some held → is_simple_block held ≡ true
at_index [] block held e is = absurd cc
at_index (first ∷ blocks) zero held e is =
    let same : first ≡ held = cc in ap is_simple_block (sym same) ∙ (and_parts (is_simple_block first) (list_all is_simple_block blocks) e).0
at_index (first ∷ blocks) (suc block) held e is = at_index blocks block held (and_parts (is_simple_block first) (list_all is_simple_block blocks) e).1 is

module _ (monitor : MonitorParts) (rule : IsMonitor monitor) (simple : list_all is_simple_block monitor.blocks ≡ true) where
  simple_at : (block : ℕ) (held : Block) → slice_get monitor.blocks block ≡ Some held → (has_difference_rows held.guard ≡ true) × (list_all is_simple_statement held.body ≡ true)
  simple_at block held is = and_parts (has_difference_rows held.guard) (list_all is_simple_statement held.body) (at_index monitor.blocks block held simple is)

  guard_differs : (block : ℕ) → Differs (block_guard monitor block)
  guard_differs block = found (slice_get monitor.blocks block) refl
    where
      found : (held : Option Block) → slice_get monitor.blocks block ≡ held → Differs (guard_in_block held)
      found None is = all_differs []
      found (Some held) is = (simple_at block held is).0

  body_differs : (block : ℕ) → list_all is_simple_statement (block_body monitor block) ≡ true
  body_differs block = found (slice_get monitor.blocks block) refl
    where
      found : (held : Option Block) → slice_get monitor.blocks block ≡ held → list_all is_simple_statement (body_in held) ≡ true
      found None is = refl
      found (Some held) is = (simple_at block held is).1

  condition_differs : (condition : ℕ) → IsConditionNumber monitor condition → Differs (guard_in_condition (slice_get monitor.conditions (condition - 1)))
  condition_differs condition number = of_first (slice_get monitor.blocks first.index) refl first.has
    where
      first : HasFirstBlock monitor.blocks condition
      first = rule.in_order condition number.0 number.1

      same_guard : (held : Block) (found : Option Condition) → IsSomeAnd found (λ one. one.guard ≡ held.guard) → Differs held.guard → Differs (guard_in_condition found)
      same_guard held None is e = absurd is
      same_guard held (Some one) is e = ap has_difference_rows is ∙ e

      of_first : (found : Option Block) → slice_get monitor.blocks first.index ≡ found → IsSomeAnd found (λ block. block.condition ≡ condition) → Differs (guard_in_condition (slice_get monitor.conditions (condition - 1)))
      of_first None is has = absurd has
      of_first (Some held) is has =
          let of_block = All-contains (HasCondition monitor.conditions) monitor.blocks held rule.conditions (contained monitor.blocks first.index held is) in
          let low = number.0 in
          same_guard held (slice_get monitor.conditions (condition - 1))
          (subst (λ (number : ℕ). IsSomeAnd (slice_get monitor.conditions (number - 1)) (λ one. one.guard ≡ held.guard)) has (of_block (omega (arith, has, low)))) (simple_at first.index held is).0

  waiting_guard_differs : (condition : ℕ) → IsConditionNumber monitor condition → Differs (waiting_guard monitor condition)
  waiting_guard_differs condition number = waiting_differs _ (condition_differs condition number)

  triple_differs : (kept : List Candidate) (more : List Formula) (block : ℕ) (post : Formula) → list_all has_difference_rows more ≡ true → Differs post
      → Differs (negated_query monitor (record { hyps = hypotheses kept more; block = block; post = post }))
  triple_differs kept more block post e f =
      let parts = map (path_part post) (body_paths (block_body monitor block)) in
      every_rolled (hypotheses kept more ++ some_part parts ∷ []) (list_all-append has_difference_rows (hypotheses kept more) (some_part parts ∷ [])
      ∙ and_from (list_all has_difference_rows (hypotheses kept more)) (list_all has_difference_rows (some_part parts ∷ [])) (all_with kept more e)
      (one_alone (some_part parts) (some_rolled parts (parts_of_paths post (body_paths (block_body monitor block)) f (paths_simple (block_body monitor block) (body_differs block))))))

  query_differs : (kept : List Candidate) (claim : Claim) → IsClaimOf monitor claim → Differs (negated_query monitor (query_of monitor kept claim))
  query_differs kept (claims.Keeps candidate block) is =
      triple_differs kept (block_guard monitor block ∷ []) block (candidate_formula candidate) (one_alone _ (guard_differs block)) (candidate_differs candidate)
  query_differs kept (claims.NoNote block condition) is =
      let guard = waiting_guard_differs condition is.1 in
      let against = negation_differs _ guard in
      triple_differs kept (block_guard monitor block ∷ negation (waiting_guard monitor condition) ∷ []) block _ (two_alone _ _ (guard_differs block) against) against
  query_differs kept (claims.One condition block) is =
      let guard = waiting_guard_differs condition (number_of_kind monitor condition is.0) in
      triple_differs kept (waiting_guard monitor condition ∷ []) block _ (one_alone _ guard) (negation_differs _ guard)
  query_differs kept (claims.NoTest block condition) is =
      let guard = waiting_guard_differs condition (number_of_kind monitor condition is.1) in
      triple_differs kept (block_guard monitor block ∷ negation (waiting_guard monitor condition) ∷ []) block _ (two_alone _ _ (guard_differs block) (negation_differs _ guard)) guard

-- ---- the monitor

pub small_plain : (monitor : MonitorParts) → IsMonitor monitor → IsSmall monitor → IsPlain monitor
small_plain monitor rule small = record { simple = small.simple; claims = plain }
  where
    within : (claim : Claim) → IsClaimOf monitor claim → (test : Bool) → is_within_limits monitor (query_of monitor (candidates_of monitor) claim) ≡ test → test ≡ true
    within claim is true told = refl
    within claim is false told = absurd (small.easy claim is (beyond_limits told))

    plain : (claim : Claim) → IsClaimOf monitor claim → IsPlainClaim monitor claim
    plain claim is =
        let query = query_of monitor (candidates_of monitor) claim in
        and_from (is_within_limits monitor query) (has_difference_rows (negated_query monitor query)) (within claim is (is_within_limits monitor query) refl)
        (query_differs monitor rule small.simple (candidates_of monitor) claim is)
