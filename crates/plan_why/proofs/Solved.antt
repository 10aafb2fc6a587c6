-- What a solution of a negated query says, and what it says that there is none.
use Rattle.std.proofs.Common.{◌≡◌, ℕ, ◌<◌, ◌≤◌, Bool, true, false, not, ◌&&◌, List, length, get_or, Option, Some, None, sym, subst, arith, ap, refl, ◌∙◌}
use Rattle.std.specs.Prelude.{nat_le, slice_get}
use Rattle.std.specs.List.{list_all}
use Rattle.std.specs.Option.{IsSomeAnd}
use Rattle.std.proofs.lemmas.Option.{slice_get-get_or}
use Rattle.logic_linear.specs.declared.formula.Formula.{Formula}
use Rattle.logic_linear.specs.Differences.{has_difference_rows}
use Rattle.logic_linear.specs.Measures.{cubes_of}
use Rattle.logic_linear.specs.Truth.{Valuation, truth_of}
use Rattle.lang_monitor.specs.declared.monitor.Block.{Block}
use Rattle.lang_monitor.specs.declared.monitor.Stmt.{Stmt}
use Rattle.lang_monitor.specs.declared.query.Query.{Query}
use Rattle.lang_monitor.specs.Bodies.{valuation_after}
use Rattle.lang_monitor.specs.MonitorParts.{MonitorParts, IsMonitor}
use Rattle.lang_monitor.specs.Triples.{places_of, IsValidQuery}
use Rattle.logic_solve.specs.declared.valuation.Solution.{Solution}
use Rattle.logic_solve.specs.Refutation.{IsDecidable}
use Rattle.logic_solve.specs.Solutions.{valuation_of, IsSolution}
use Rattle.logic_wp.specs.Limits.{is_query_within, query_within, value_if}
use Rattle.logic_wp.specs.NegatedQueries.{negated_query, query_fails, fails_in}
use Rattle.logic_wp.specs.PlainClaims.{is_plain, has_few_cubes}
use Rattle.logic_wp.proofs.BodyStates.{body_reaches_memory}
use Rattle.logic_wp.proofs.Fitting.{block_fits}
use Rattle.logic_wp.proofs.QueryLaws.{all_truth}
use Rattle.plan_why.specs.Failures.{Breaks, IsAfter, IsFailure, IsFailureOf}
use Rattle.plan_why.specs.WideNumbers.{IsWideBody}
use Rattle.plan_why.specs.inner.Running.{IsRun}

-- ---- a solution of a negated query

pub block_there : (monitor : MonitorParts) (blocks : List Block) (block : ℕ) (held : Block) → blocks ≡ monitor.blocks → block < length monitor.blocks → held ≡ get_or blocks block held → slice_get monitor.blocks block ≡ Some held
block_there monitor blocks block held same within is =
    let here : held ≡ get_or monitor.blocks block held = is ∙ ap (λ (some : List Block). get_or some block held) same in
    slice_get-get_or monitor.blocks block held within ∙ ap Some (sym here)

both_of : (a b : Bool) → (a && not b) ≡ true → (a ≡ true) × (b ≡ false)
both_of true false e = (refl, refl)
both_of true true e = absurd cc
both_of false b e = absurd cc

pub breaks_at : (monitor : MonitorParts) (query : Query) (v : Valuation) → query_fails monitor query v ≡ true → Breaks monitor query v
breaks_at monitor query v e = by (slice_get monitor.blocks query.block) refl e
  where
    by : (found : Option Block) → slice_get monitor.blocks query.block ≡ found → fails_in monitor query v found ≡ true → Breaks monitor query v
    by None is e = absurd cc
    by (Some held) is e =
        let parts = both_of (list_all (truth_of v) query.hyps) (truth_of (valuation_after (places_of monitor held) held.body v) query.post) e in
        record { held = held; is = is; before = all_truth v query.hyps ∙ parts.0; after = parts.1 }

within_value : (held : Bool) (formula other : Formula) → value_if held formula ≡ Some other → other ≡ formula
within_value true formula other e = let same : formula ≡ other = cc in sym same
within_value false formula other e = absurd cc

beyond_value : (held : Bool) (formula : Formula) → value_if held formula ≡ None → held ≡ false
beyond_value true formula e = absurd cc
beyond_value false formula e = refl

pub is_negated : (monitor : MonitorParts) (query : Query) (formula : Formula) → Some formula ≡ query_within monitor query → formula ≡ negated_query monitor query
is_negated monitor query formula e = within_value (is_query_within monitor query) (negated_query monitor query) formula (sym e)

-- the law that a negated query is exact
abbrev pub NegatedIsExact : Type 0
NegatedIsExact = (monitor : MonitorParts) (query : Query) (v : Valuation) → IsMonitor monitor → query.block < length monitor.blocks → truth_of v (negated_query monitor query) ≡ query_fails monitor query v

-- ---- what a body reaches

ends_at : (monitor : MonitorParts) (block : ℕ) (held : Block) (before : Valuation) (after : Option Solution) → IsMonitor monitor → slice_get monitor.blocks block ≡ Some held → IsRun held.body before after → IsAfter monitor block before after
ends_at monitor block held before None rule is wide = subst (λ (found : Option Block). IsSomeAnd found (λ one. IsWideBody one.body before)) (sym is) wide
ends_at monitor block held before (Some last) rule is ran =
    subst (λ (found : Option Block). IsSomeAnd found (λ one. valuation_of last ≡ valuation_after (places_of monitor one) one.body before)) (sym is)
    (ran ∙ sym (body_reaches_memory (places_of monitor held) before held.body (block_fits monitor block held rule is).body))

pub failed_at : (monitor : MonitorParts) (query : Query) (formula : Formula) (before : Solution) (after : Option Solution) (held : Block) (body : List Stmt) → NegatedIsExact → IsMonitor monitor → query.block < length monitor.blocks
    → formula ≡ negated_query monitor query → truth_of (valuation_of before) formula ≡ true → slice_get monitor.blocks query.block ≡ Some held → body ≡ held.body
    → IsRun body (valuation_of before) after → IsFailure monitor query (record { before = before; after = after })
failed_at monitor query formula before after held body exact rule within negated solves there same ran =
    let v = valuation_of before in
    let fails : query_fails monitor query v ≡ true = sym (exact monitor query v rule within) ∙ ap (truth_of v) (sym negated) ∙ solves in
    record {
      breaks = breaks_at monitor query v fails;
      ends = ends_at monitor query.block held v after rule there (subst (λ (some : List Stmt). IsRun some v after) same ran);
    }

-- ---- a negated query without a solution

first_true : (a b : Bool) → (a && b) ≡ true → a ≡ true
first_true true b e = refl
first_true false b e = absurd cc

last_true : (a b : Bool) → (a && b) ≡ true → b ≡ true
last_true true b e = e
last_true false b e = absurd cc

plain_within : (monitor : MonitorParts) (query : Query) → is_plain monitor query ≡ true → is_query_within monitor query ≡ true
plain_within monitor query e =
    first_true (is_query_within monitor query) (has_few_cubes (negated_query monitor query))
    (first_true (is_query_within monitor query && has_few_cubes (negated_query monitor query)) (has_difference_rows (negated_query monitor query)) e)

plain_decidable : (monitor : MonitorParts) (query : Query) → is_plain monitor query ≡ true → IsDecidable (negated_query monitor query)
plain_decidable monitor query e =
    let few = last_true (is_query_within monitor query) (has_few_cubes (negated_query monitor query))
    (first_true (is_query_within monitor query && has_few_cubes (negated_query monitor query)) (has_difference_rows (negated_query monitor query)) e) in
    record {
      differences = last_true (is_query_within monitor query && has_few_cubes (negated_query monitor query)) (has_difference_rows (negated_query monitor query)) e;
      few_cubes = few_enough (cubes_of (negated_query monitor query)) few;
    }
  where
    few_enough : (n : ℕ) → nat_le n 1024 ≡ true → n ≤ 1024
    few_enough n h = grind arith

pub beyond_limits : (monitor : MonitorParts) (query : Query) → None ≡ query_within monitor query → IsFailureOf monitor query None
beyond_limits monitor query beyond plain =
    let within = plain_within monitor query plain in
    let not_within = beyond_value (is_query_within monitor query) (negated_query monitor query) (sym beyond) in
    let clash : true ≡ false = sym within ∙ not_within in
    absurd cc

-- the law that a refuted query is valid
abbrev pub RefutedIsValid : Type 0
RefutedIsValid = (monitor : MonitorParts) (query : Query) → IsMonitor monitor → query.block < length monitor.blocks → ((v : Valuation) → truth_of v (negated_query monitor query) ≡ false) → IsValidQuery monitor query

pub unsolved : (monitor : MonitorParts) (query : Query) (formula : Formula) → RefutedIsValid → IsMonitor monitor → query.block < length monitor.blocks → formula ≡ negated_query monitor query
    → IsSolution formula None → IsFailureOf monitor query None
unsolved monitor query formula valid rule within negated none plain =
    let easy : IsDecidable formula = subst IsDecidable (sym negated) (plain_decidable monitor query plain) in
    valid monitor query rule within (λ v. ap (truth_of v) (sym negated) ∙ none easy v)
