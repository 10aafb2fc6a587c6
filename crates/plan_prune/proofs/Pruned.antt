-- What is left after rounds, and that it is an invariant, with few limits the greatest.
use Rattle.std.proofs.Common.{◌≡◌, ◌⊎◌, inl, inr, ◌∙◌, ℕ, ◌<◌, true, List, length, get_or, sym, subst}
use Rattle.std.specs.List.{All, Contains, remove}
use Rattle.std.proofs.lemmas.List.{get_or_default}
use Rattle.std.proofs.lemmas.Bool.{true≢false}
use Rattle.std.proofs.lemmas.List.Elements.{All-contains, Contains-get_or}
use Rattle.lang_monitor.specs.declared.candidate.Candidate.{Candidate}
use Rattle.lang_monitor.specs.declared.claim.Claim.TheVariants as claims
use Rattle.lang_monitor.specs.Candidates.{AreSomeOf, candidate_truth, candidates_of}
use Rattle.lang_monitor.specs.MonitorParts.{MonitorParts}
use Rattle.lang_monitor.specs.Triples.{IsFalseAtStart, IsTrueAtStart, Keeps}
use Rattle.logic_wp.proofs.FewerKept.{more_keep_valid, some_contained}
use Rattle.plan_prune.specs.declared.kept.Kept.{Kept}
use Rattle.plan_prune.specs.Hardness.{HasNoHardClaim, MayBeKept}
use Rattle.plan_prune.specs.Invariants.{ContainsEasy, IsGreatest, IsInvariant, NoneMayStayOpen}
use Rattle.plan_prune.specs.inner.Asking.{MustStay}
use Rattle.plan_prune.specs.inner.Pruning.{IsLeft, IsRoundOf}
use Rattle.plan_prune.proofs.HardClaims.{none_open}
use Rattle.plan_candidates.specs.TrueAtStart.{AreTrueAtStart}
use Rattle.plan_candidates.proofs.SomeOf.{remove_contains, some_hold, some_remove, some_same, some_trans}

-- ---- at the start

kept_at_start : (monitor : MonitorParts) (kept : List Candidate) (one : Candidate) → IsTrueAtStart monitor one → Contains kept one ⊎ IsFalseAtStart monitor one → Contains kept one
kept_at_start monitor kept one holds (inl is) = is
kept_at_start monitor kept one holds (inr fails) = absurd (true≢false (sym (holds fails.0 fails.1) ∙ fails.2))

pub left_first : (monitor : MonitorParts) (kept : List Candidate) → AreTrueAtStart monitor (candidates_of monitor) kept → IsLeft monitor kept
left_first monitor kept are = record {
  candidates = are.in_order;
  starts = are.starts;
  easy = λ other invariant none k d low.
      kept_at_start monitor kept (get_or other k d) (λ start is. invariant.inductive.starts start is k d low)
      (All-contains (λ (one : Candidate). Contains kept one ⊎ IsFalseAtStart monitor one) (candidates_of monitor) (get_or other k d) are.each
      (some_contained other (candidates_of monitor) invariant.candidates k d low));
}

-- ---- after a round

may_be_kept : (monitor : MonitorParts) (kept : List Candidate) → IsLeft monitor kept → MayBeKept monitor kept
may_be_kept monitor kept left = record { candidates = left.candidates; starts = left.starts }

-- a candidate of an invariant that is contained in what was left, and none of whose queries may stay
-- open, has to stay
stays : (monitor : MonitorParts) (kept other : List Candidate) (one : Candidate)
    → MayBeKept monitor kept → IsInvariant monitor other → NoneMayStayOpen monitor other → All (Contains kept) other → Contains other one
    → MustStay monitor kept one
stays monitor kept other one may invariant none within is = record {
  keep = λ block low.
      more_keep_valid monitor (claims.Keeps one block) other kept within
      (All-contains (λ candidate. Keeps monitor other candidate block) other one (invariant.inductive.keeps block low) is);
  easy = λ block low. record { closed = λ open_query. none kept may within one block is low open_query };
}

pub left_some : (monitor : MonitorParts) (kept next : List Candidate)
    → IsLeft monitor kept → AreSomeOf next kept → All (λ candidate. MustStay monitor kept candidate → Contains next candidate) kept → IsLeft monitor next
left_some monitor kept next left some stay = record {
  candidates = some_trans next kept (candidates_of monitor) some left.candidates;
  starts = λ start is. some_hold (λ candidate. candidate_truth start candidate ≡ true) next kept some (left.starts start is);
  easy = λ other invariant none k d low.
      let within = left.easy other invariant none in
      All-contains (λ candidate. MustStay monitor kept candidate → Contains next candidate) kept (get_or other k d) stay (within k d low)
      (stays monitor kept other (get_or other k d) (may_be_kept monitor kept left) invariant none within (Contains-get_or other k d low));
}

pub left_after : (monitor : MonitorParts) (kept next : List Candidate) (proofs : List Kept)
    → IsLeft monitor kept → IsRoundOf monitor kept kept next proofs → IsLeft monitor next
left_after monitor kept next proofs left round = left_some monitor kept next left round.candidates round.stay

-- one that need not stay is dropped
pub left_without : (monitor : MonitorParts) (kept : List Candidate) (i : ℕ) (candidate : Candidate)
    → i < length kept → candidate ≡ get_or kept i candidate → IsLeft monitor kept → (MustStay monitor kept candidate → ⊥)
    → IsLeft monitor (remove kept i)
left_without monitor kept i candidate low is left none =
    left_some monitor kept (remove kept i) left (some_remove kept i)
    (λ k d within must. remove_contains kept i (get_or kept k d) (Contains-get_or kept k d within)
    (λ same. none (subst (MustStay monitor kept) (sym (is ∙ get_or_default kept i candidate (get_or kept k d) low ∙ same)) must)))

-- a round that drops none
pub none_dropped : (monitor : MonitorParts) (kept next : List Candidate) (proofs : List Kept)
    → IsRoundOf monitor kept kept next proofs → length next ≡ length kept → IsRoundOf monitor next next next proofs
none_dropped monitor kept next proofs round same =
    subst (λ (before : List Candidate). IsRoundOf monitor before before next proofs) (sym (some_same next kept round.candidates same)) round

-- ---- at the end

pub invariant_left : (monitor : MonitorParts) (kept : List Candidate) (proofs : List Kept)
    → IsLeft monitor kept → IsRoundOf monitor kept kept kept proofs → IsInvariant monitor kept
invariant_left monitor kept proofs left round = record {
  candidates = left.candidates;
  inductive = record {
    starts = left.starts;
    keeps = λ block low k d within. round.keep k d within block low;
  };
}

pub greatest_left : (monitor : MonitorParts) (kept : List Candidate)
    → IsInvariant monitor kept → ContainsEasy monitor kept → HasNoHardClaim monitor → IsGreatest monitor kept
greatest_left monitor kept invariant easy none = record {
  invariant = invariant;
  exactly = λ candidate. (
    (λ is. record { kept = kept; invariant = invariant; contains = is }),
    (λ some. All-contains (Contains kept) some.kept candidate (easy some.kept some.invariant (none_stays_open some.kept some.invariant)) some.contains),
  );
}
  where
    none_stays_open : (other : List Candidate) → IsInvariant monitor other → NoneMayStayOpen monitor other
    none_stays_open other known = λ more may others candidate block is low.
        none_open monitor more may none (claims.Keeps candidate block)
        (All-contains (Contains (candidates_of monitor)) other candidate (some_contained other (candidates_of monitor) known.candidates) is, low)
