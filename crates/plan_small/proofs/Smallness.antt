-- Which claims are plain, one after the other.
use Rattle.std.proofs.Common.{◌≡◌, ◌↔◌, ◌⊎◌, inl, inr, ℕ, ◌+◌, ◌<◌, ◌≤◌, Bool, true, false, ◌&&◌, List, length, take, get_or, Option, Some, None, sym, subst, arith, ap, refl, ◌∙◌}
use Rattle.std.specs.Prelude.{IsTrue, IfOk, Result, slice_get, IsSomeAnd, ◌-◌}
use Rattle.std.specs.List.{list_all, Contains}
use Rattle.std.proofs.lemmas.Bool.{cases_order}
use Rattle.std.proofs.lemmas.List.Elements.{All-contains, All-more, All-contains_itself, All-weaker}
use Rattle.std.proofs.lemmas.List.{take_all}
use Rattle.std.proofs.lemmas.Option.{slice_get_within}
use Rattle.std.proofs.lemmas.Result.{IfOk-weaker}
use Rattle.logic_linear.specs.declared.formula.Formula.{Formula}
use Rattle.logic_linear.specs.Differences.{has_difference_rows}
use Rattle.lang_monitor.specs.declared.candidate.Candidate.{Candidate}
use Rattle.lang_monitor.specs.declared.claim.Claim.{Claim}
use Rattle.lang_monitor.specs.declared.claim.Claim.TheVariants as claims
use Rattle.lang_monitor.specs.declared.monitor.Block.{Block}
use Rattle.lang_monitor.specs.declared.monitor.Condition.{Condition}
use Rattle.lang_monitor.specs.declared.query.Query.{Query}
use Rattle.lang_monitor.specs.Candidates.{candidates_of}
use Rattle.lang_monitor.specs.MonitorParts.{MonitorParts}
use Rattle.lang_monitor.specs.Queries.{query_of}
use Rattle.logic_wp.specs.PlainClaims.{IsClaimOf, ReadsNone, WaitsAt, has_few_cubes, is_plain, is_simple_block}
use Rattle.logic_wp.specs.Limits.{is_query_within, query_within, value_if}
use Rattle.logic_wp.specs.NegatedQueries.{negated_query}
use Rattle.plan_prune.specs.Hardness.{IsHard, IsSmall}
use Rattle.plan_small.specs.Plain.{IsPlain, IsPlainClaim}
use Rattle.plan_small.specs.inner.Smallness.{AreCandidates, ArePlainBelow, ArePlainToKeep, ArePlainUpTo, IsPlainBlock, IsPlainPair}

-- ---- tests and facts

pub told_yes : {P : Type 0} (answer : Bool) → answer ≡ true → P → IsTrue answer ↔ P
told_yes answer is fact = ((λ told. fact), (λ held. is))

pub told_no : {P : Type 0} (answer : Bool) → answer ≡ false → (P → ⊥) → IsTrue answer ↔ P
told_no {P} answer is never = ((λ told. absurd cc), (λ held. absurd (never held)))

-- ---- one query

not_negated : (monitor : MonitorParts) (query : Query) → None ≡ query_within monitor query → false ≡ is_plain monitor query
not_negated monitor query none = beyond (is_query_within monitor query) (negated_query monitor query) none
  where
    beyond : (test : Bool) (formula : Formula) → None ≡ value_if test formula → false ≡ ((test && has_few_cubes formula) && has_difference_rows formula)
    beyond true formula e = absurd cc
    beyond false formula e = refl

negated_plain : (monitor : MonitorParts) (query : Query) (formula : Formula) (answer : Bool) → Some formula ≡ query_within monitor query
    → answer ≡ (has_few_cubes formula && has_difference_rows formula) → answer ≡ is_plain monitor query
negated_plain monitor query formula answer some told = within (is_query_within monitor query) (negated_query monitor query) some
  where
    within : (test : Bool) (made : Formula) → Some formula ≡ value_if test made → answer ≡ ((test && has_few_cubes made) && has_difference_rows made)
    within true made e = let same : formula ≡ made = cc in told ∙ ap (λ (some : Formula). has_few_cubes some && has_difference_rows some) same
    within false made e = absurd cc

of_claim : (monitor : MonitorParts) (all : List Candidate) (claim : Claim) (query : Query) (answer : Bool) → AreCandidates monitor all → query ≡ query_of monitor all claim
    → answer ≡ is_plain monitor query → answer ≡ is_plain monitor (query_of monitor (candidates_of monitor) claim)
of_claim monitor all claim query answer are made told =
    told ∙ ap (is_plain monitor) made ∙ ap (λ (kept : List Candidate). is_plain monitor (query_of monitor kept claim)) are.each

pub claim_beyond : (monitor : MonitorParts) (all : List Candidate) (claim : Claim) (query : Query) → AreCandidates monitor all → query ≡ query_of monitor all claim
    → None ≡ query_within monitor query → false ≡ is_plain monitor (query_of monitor (candidates_of monitor) claim)
claim_beyond monitor all claim query are made none = of_claim monitor all claim query false are made (not_negated monitor query none)

pub claim_within : (monitor : MonitorParts) (all : List Candidate) (claim : Claim) (query : Query) (formula : Formula) (answer : Bool) → AreCandidates monitor all
    → query ≡ query_of monitor all claim → Some formula ≡ query_within monitor query → answer ≡ (has_few_cubes formula && has_difference_rows formula)
    → answer ≡ is_plain monitor (query_of monitor (candidates_of monitor) claim)
claim_within monitor all claim query formula answer are made some told = of_claim monitor all claim query answer are made (negated_plain monitor query formula answer some told)

-- ---- numbers

found_in : {X : Type 0} (found : Option X) (P : X → Type 0) → IsSomeAnd found P → (held : X) × (found ≡ Some held)
found_in None P is = absurd is
found_in (Some held) P is = (held, refl)

is_number : (monitor : MonitorParts) (condition : ℕ) → ReadsNone monitor condition → (1 ≤ condition) × (condition ≤ length monitor.conditions)
is_number monitor condition reads =
    let found = found_in (slice_get monitor.conditions (condition - 1)) (λ (held : Condition). held.reads_inputs ≡ false) reads.1 in
    let first = reads.0 in
    let within = slice_get_within monitor.conditions (condition - 1) found.0 found.1 in
    (reads.0, omega arith)

is_block : (monitor : MonitorParts) (block condition : ℕ) → WaitsAt monitor block condition → block < length monitor.blocks
is_block monitor block condition waits =
    let found = found_in (slice_get monitor.blocks block) (λ (held : Block). held.condition ≡ condition) waits in
    slice_get_within monitor.blocks block found.0 found.1

-- what is known of the claim that is asked is what is known of the answer
abbrev Asked : Bool → MonitorParts → Claim → Type 0
Asked answer monitor claim = answer ≡ is_plain monitor (query_of monitor (candidates_of monitor) claim)

-- ---- loops

pub kept_apart : (monitor : MonitorParts) (block : ℕ) (all : List Candidate) (index : ℕ) (d : Candidate) (plain : Bool) → index < length all → Asked plain monitor (claims.Keeps (get_or all index d) block)
    → plain ≡ false → IsTrue false ↔ ArePlainToKeep monitor block all
kept_apart monitor block all index d plain low told is = told_no false refl (λ each. let yes_it_is = each index d low in absurd cc)

pub kept_more : (monitor : MonitorParts) (block : ℕ) (all : List Candidate) (index : ℕ) (d : Candidate) (plain : Bool) → index < length all → Asked plain monitor (claims.Keeps (get_or all index d) block)
    → plain ≡ true → ArePlainToKeep monitor block (take index all) → ArePlainToKeep monitor block (take (index + 1) all)
kept_more monitor block all index d plain low told is before =
    All-more (λ (one : Candidate). IsPlainClaim monitor (claims.Keeps one block)) all index d low before (sym told ∙ is)

pub kept_all : (monitor : MonitorParts) (block : ℕ) (all : List Candidate) (index : ℕ) → length all ≤ index → ArePlainToKeep monitor block (take index all) → IsTrue true ↔ ArePlainToKeep monitor block all
kept_all monitor block all index past before = told_yes true refl (subst (ArePlainToKeep monitor block) (take_all index all past) before)

pub block_unkept : (monitor : MonitorParts) (block : ℕ) (all : List Candidate) (kept : Bool) → AreCandidates monitor all → IsTrue kept ↔ ArePlainToKeep monitor block all → kept ≡ false
    → IsTrue false ↔ IsPlainBlock monitor block
block_unkept monitor block all kept are exact is =
    told_no false refl (λ whole. let yes_it_is : IsTrue kept = exact.1 (subst (ArePlainToKeep monitor block) (sym are.each) whole.keeps) in absurd cc)

pub block_apart : (monitor : MonitorParts) (block index next : ℕ) (plain : Bool) → next ≡ index + 1 → index < length monitor.conditions → IsTrue plain ↔ IsPlainPair monitor block next → plain ≡ false
    → IsTrue false ↔ IsPlainBlock monitor block
block_apart monitor block index next plain step low exact is =
    told_no false refl (λ whole. let yes_it_is : IsTrue plain = exact.1 (whole.pairs next (omega arith) (omega arith)) in absurd cc)

pub block_whole : (monitor : MonitorParts) (block : ℕ) (all : List Candidate) (kept : Bool) (count : ℕ) → AreCandidates monitor all → IsTrue kept ↔ ArePlainToKeep monitor block all → kept ≡ true
    → length monitor.conditions ≤ count → ArePlainUpTo monitor block count → IsTrue true ↔ IsPlainBlock monitor block
block_whole monitor block all kept count are exact is past pairs = told_yes true refl (record {
  keeps = subst (ArePlainToKeep monitor block) are.each (exact.0 is);
  pairs = λ condition first last. pairs condition first (omega arith);
})

pub blocks_apart : (monitor : MonitorParts) (block : ℕ) (plain : Bool) → block < length monitor.blocks → IsTrue plain ↔ IsPlainBlock monitor block → plain ≡ false
    → IsTrue false ↔ ArePlainBelow monitor (length monitor.blocks)
blocks_apart monitor block plain low exact is = told_no false refl (λ each. let yes_it_is : IsTrue plain = exact.1 (each block low) in absurd cc)

pub blocks_whole : (monitor : MonitorParts) (count : ℕ) → length monitor.blocks ≤ count → ArePlainBelow monitor count → IsTrue true ↔ ArePlainBelow monitor (length monitor.blocks)
blocks_whole monitor count past each = told_yes true refl (λ block low. each block (omega arith))

pub more_up_to : (monitor : MonitorParts) (block count next : ℕ) → next ≡ count + 1 → ArePlainUpTo monitor block count → IsPlainPair monitor block next → ArePlainUpTo monitor block next
more_up_to monitor block count next is before here = λ condition first last. by_order condition first last (cases_order condition next)
  where
    by_order : (condition : ℕ) → 1 ≤ condition → condition ≤ next → (condition ≡ next) ⊎ ((condition < next) ⊎ (next < condition)) → IsPlainPair monitor block condition
    by_order condition first last (inl same) = subst (IsPlainPair monitor block) (sym same) here
    by_order condition first last (inr (inl less)) = before condition first (omega arith)
    by_order condition first last (inr (inr more)) = absurd (omega arith)

pub more_blocks : (monitor : MonitorParts) (count next : ℕ) → next ≡ count + 1 → ArePlainBelow monitor count → IsPlainBlock monitor count → ArePlainBelow monitor next
more_blocks monitor count next is before here = λ block low. by_order block low (cases_order block count)
  where
    by_order : (block : ℕ) → block < next → (block ≡ count) ⊎ ((block < count) ⊎ (count < block)) → IsPlainBlock monitor block
    by_order block low (inl same) = subst (IsPlainBlock monitor) (sym same) here
    by_order block low (inr (inl less)) = before block less
    by_order block low (inr (inr more)) = absurd (omega arith)

-- ---- the whole

pub all_plain : (monitor : MonitorParts) → list_all is_simple_block monitor.blocks ≡ true → ArePlainBelow monitor (length monitor.blocks) → IsPlain monitor
all_plain monitor simple blocks = record {
  simple = simple;
  claims = each;
}
  where
    each : (claim : Claim) → IsClaimOf monitor claim → IsPlainClaim monitor claim
    each (claims.Keeps candidate block) is =
        All-contains (λ (one : Candidate). IsPlainClaim monitor (claims.Keeps one block)) (candidates_of monitor) candidate (blocks block is.1).keeps is.0
    each (claims.NoNote block condition) is = ((blocks block is.0).pairs condition is.1.0 is.1.1).none_needed
    each (claims.One condition block) is =
        let number = is_number monitor condition is.0 in
        ((blocks block (is_block monitor block condition is.1)).pairs condition number.0 number.1).one_enough is.0 is.1
    each (claims.NoTest block condition) is = let number = is_number monitor condition is.1 in ((blocks block is.0).pairs condition number.0 number.1).no_test is.1

pub plain_blocks : (monitor : MonitorParts) → IsPlain monitor → ArePlainBelow monitor (length monitor.blocks)
plain_blocks monitor plain = λ block low. record {
  keeps = All-weaker (Contains (candidates_of monitor)) (λ (one : Candidate). IsPlainClaim monitor (claims.Keeps one block)) (λ candidate among. plain.claims (claims.Keeps candidate block) (among, low)) (candidates_of monitor)
      (All-contains_itself (candidates_of monitor));
  pairs = λ condition first last. record {
    none_needed = plain.claims (claims.NoNote block condition) (low, (first, last));
    no_test = λ none. plain.claims (claims.NoTest block condition) (low, none);
    one_enough = λ none waits. plain.claims (claims.One condition block) (none, waits);
  };
}

pub plain_told : {E : Type 0} (monitor : MonitorParts) (simple : Bool) (result : Result Bool E) → simple ≡ list_all is_simple_block monitor.blocks → simple ≡ true
    → IfOk result (λ answer. IsTrue answer ↔ ArePlainBelow monitor (length monitor.blocks)) → IfOk result (λ answer. IsTrue answer ↔ IsPlain monitor)
plain_told monitor simple result told is =
    IfOk-weaker result (λ answer. IsTrue answer ↔ ArePlainBelow monitor (length monitor.blocks)) (λ answer. IsTrue answer ↔ IsPlain monitor)
    (λ answer exact. ((λ yes_it_is. all_plain monitor (sym told ∙ is) (exact.0 yes_it_is)), (λ plain. exact.1 (plain_blocks monitor plain))))

pub not_simple : (monitor : MonitorParts) (simple : Bool) → simple ≡ list_all is_simple_block monitor.blocks → simple ≡ false → IsTrue false ↔ IsPlain monitor
not_simple monitor simple told is = told_no false refl (λ plain. let yes_it_is = plain.simple in absurd cc)

small_if_plain : (monitor : MonitorParts) → ((claim : Claim) → IsPlainClaim monitor claim → IsHard monitor claim → ⊥) → IsPlain monitor → IsSmall monitor
small_if_plain monitor law plain = record {
  simple = plain.simple;
  easy = λ claim is hard. law claim (plain.claims claim is) hard;
}

pub small_told : {E : Type 0} (monitor : MonitorParts) (result : Result Bool E) → ((claim : Claim) → IsPlainClaim monitor claim → IsHard monitor claim → ⊥)
    → IfOk result (λ answer. IsTrue answer ↔ IsPlain monitor) → IfOk result (λ answer. IsTrue answer → IsSmall monitor)
small_told monitor result law =
    IfOk-weaker result (λ answer. IsTrue answer ↔ IsPlain monitor) (λ answer. IsTrue answer → IsSmall monitor) (λ answer exact yes_it_is. small_if_plain monitor law (exact.0 yes_it_is))
