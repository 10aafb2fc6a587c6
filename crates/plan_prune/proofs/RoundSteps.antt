-- Proofs of kept candidates, found one after the other, and rounds.
use Rattle.std.proofs.Common.{◌≡◌, ◌⊎◌, inl, inr, ℕ, zero, suc, ◌+◌, ◌<◌, List, [], ◌∷◌, ◌++◌, map, length, get_or, Option, Some, None, sym, subst, arith, ap, refl, ◌∙◌}
use Rattle.std.specs.List.{Contains, list_all, range_with_len}
use Rattle.std.proofs.lemmas.Bool.{cases_order}
use Rattle.std.proofs.lemmas.List.{append-nil, map-append}
use Rattle.std.proofs.lemmas.List.Concat.{flat_map-append}
use Rattle.std.proofs.lemmas.List.Recursion.{and_at}
use Rattle.std.proofs.lemmas.List.Elements.{All-append, All-push, All-weaker, Contains-append_left, Contains-push}
use Rattle.lang_monitor.specs.declared.candidate.Candidate.{Candidate}
use Rattle.lang_monitor.specs.declared.claim.Claim.{Claim}
use Rattle.lang_monitor.specs.declared.claim.Claim.TheVariants as claims
use Rattle.lang_monitor.specs.declared.query.Query.{Query}
use Rattle.lang_monitor.specs.Candidates.{AreSomeOf}
use Rattle.lang_monitor.specs.MonitorParts.{MonitorParts}
use Rattle.lang_monitor.specs.Queries.{keeps_query}
use Rattle.lang_monitor.specs.Triples.{Keeps}
use Rattle.plan_prune.specs.declared.kept.Kept.{Kept}
use Rattle.logic_cert.specs.declared.cert.Cert.{Cert}
use Rattle.plan_candidates.specs.Claims.{keeps_claims}
use Rattle.plan_prune.specs.Invariants.{IsDecision, Proves, claim_of}
use Rattle.logic_wp.specs.Expressible.{is_expressible}
use Rattle.plan_prune.specs.inner.Asking.{AllKeep, AreAskable, IsAskable, AreProofsBelow, IsFoundAt, IsProofAt, MustStay}
use Rattle.plan_prune.specs.inner.Pruning.{IsRoundOf}
use Rattle.plan_candidates.proofs.SomeOf.{some_more, some_pass, some_push}

-- ---- one block

pub found_none : (monitor : MonitorParts) (hyps : List Candidate) (candidate : Candidate) (block : ℕ) (query : Query) (found : Option Cert)
    → query ≡ keeps_query monitor hyps candidate block → found ≡ None → IsDecision monitor query found → IsFoundAt monitor hyps candidate block None
found_none monitor hyps candidate block query found made none decided =
    let told = subst (λ (asked : Query). IsDecision monitor asked None) made (subst (IsDecision monitor query) none decided) in
    λ easy keeps. easy.closed (told keeps)

pub found_some : (monitor : MonitorParts) (hyps : List Candidate) (candidate : Candidate) (block : ℕ) (found : Option Kept) (proof : Kept)
    → found ≡ Some proof → IsFoundAt monitor hyps candidate block found → IsProofAt monitor hyps candidate block proof
found_some monitor hyps candidate block found proof is made = subst (IsFoundAt monitor hyps candidate block) is made

-- ---- what may be asked

pub askable_at : (hyps : List Candidate) (i : ℕ) (d : Candidate) → i < length hyps → AreAskable hyps → IsAskable (get_or hyps i d)
askable_at hyps i d low are = record {
  expressible = and_at (list_all is_expressible) is_expressible refl (λ one more. refl) hyps i d low are.expressible;
}

pub askable_one : (candidate : Candidate) → IsAskable candidate → AreAskable (candidate ∷ [])
askable_one candidate is = record { expressible = rw is.expressible refl }

pub askable_some : (kept all : List Candidate) → AreSomeOf kept all → AreAskable all → AreAskable kept
askable_some kept all some are = record {
  expressible = some_pass is_expressible kept all some are.expressible;
}

-- ---- the blocks of one candidate

last_of : (first count : ℕ) → range_with_len first (suc count) ≡ range_with_len first count ++ (first + count) ∷ []
last_of first zero = let same : first ≡ first + 0 = omega arith in ap (λ n. n ∷ []) same
last_of first (suc count) =
    let rest = last_of (first + 1) count in
    let same : first + 1 + count ≡ first + suc count = omega arith in
    ap (λ xs. first ∷ xs) (rest ∙ ap (λ n. range_with_len (first + 1) count ++ n ∷ []) same)

last_number : (count : ℕ) → range_with_len 0 (count + 1) ≡ range_with_len 0 count ++ count ∷ []
last_number count =
    let one : count + 1 ≡ suc count = omega arith in
    let same : 0 + count ≡ count = omega arith in
    ap (range_with_len 0) one ∙ last_of 0 count ∙ ap (λ n. range_with_len 0 count ++ n ∷ []) same

pub more_below : (monitor : MonitorParts) (hyps : List Candidate) (candidate : Candidate) (count : ℕ) (proofs : List Kept) (proof : Kept)
    → AreProofsBelow monitor hyps candidate count proofs → IsProofAt monitor hyps candidate count proof
    → AreProofsBelow monitor hyps candidate (count + 1) (proofs ++ proof ∷ [])
more_below monitor hyps candidate count proofs proof before found = record {
  claims =
      map-append claim_of proofs (proof ∷ [])
      ∙ ap (λ made. made ++ claim_of proof ∷ []) before.claims
      ∙ ap (λ claim. map (claims.Keeps candidate) (range_with_len 0 count) ++ claim ∷ []) found.claim
      ∙ sym (ap (map (claims.Keeps candidate)) (last_number count) ∙ map-append (claims.Keeps candidate) (range_with_len 0 count) (count ∷ []));
  each = All-push (Proves monitor hyps) proofs proof before.each found.proves;
  keep = λ block low. by_order block low (cases_order block count);
}
  where
    by_order : (block : ℕ) → block < count + 1 → (block ≡ count) ⊎ ((block < count) ⊎ (count < block)) → Keeps monitor hyps candidate block
    by_order block low (inl same) = subst (Keeps monitor hyps candidate) (sym same) found.keeps
    by_order block low (inr (inl less)) = before.keep block less
    by_order block low (inr (inr more)) = absurd (omega arith)

-- ---- a round

-- the candidate is dropped
pub turn_drops : (monitor : MonitorParts) (hyps before kept : List Candidate) (proofs : List Kept) (candidate : Candidate)
    → (MustStay monitor hyps candidate → ⊥) → IsRoundOf monitor hyps before kept proofs → IsRoundOf monitor hyps (before ++ candidate ∷ []) kept proofs
turn_drops monitor hyps before kept proofs candidate none round = record {
  candidates = some_more candidate kept before round.candidates;
  proven = round.proven;
  keep = round.keep;
  stay = All-push (λ one. MustStay monitor hyps one → Contains kept one) before candidate round.stay (λ must. absurd (none must));
}

one_more_claims : (monitor : MonitorParts) (kept : List Candidate) (candidate : Candidate)
    → keeps_claims monitor kept ++ map (claims.Keeps candidate) (range_with_len 0 (length monitor.blocks)) ≡ keeps_claims monitor (kept ++ candidate ∷ [])
one_more_claims monitor kept candidate =
    let each = λ (one : Candidate). map (claims.Keeps one) (range_with_len 0 (length monitor.blocks)) in
    sym (flat_map-append each kept (candidate ∷ []) ∙ ap (λ (last : List Claim). keeps_claims monitor kept ++ last) (append-nil (each candidate)))

-- the candidate stays
pub turn_keeps : (monitor : MonitorParts) (hyps before kept : List Candidate) (proofs found : List Kept) (candidate : Candidate)
    → AreProofsBelow monitor hyps candidate (length monitor.blocks) found → IsRoundOf monitor hyps before kept proofs
    → IsRoundOf monitor hyps (before ++ candidate ∷ []) (kept ++ candidate ∷ []) (proofs ++ found)
turn_keeps monitor hyps before kept proofs found candidate below round = record {
  candidates = some_push candidate kept before round.candidates;
  proven = record {
    claims =
        map-append claim_of proofs found
        ∙ ap (λ (made : List Claim). made ++ map claim_of found) round.proven.claims
        ∙ ap (λ (made : List Claim). keeps_claims monitor kept ++ made) below.claims
        ∙ one_more_claims monitor kept candidate;
    each = All-append (Proves monitor hyps) proofs found round.proven.each below.each;
  };
  keep = All-push (AllKeep monitor hyps) kept candidate round.keep below.keep;
  stay = All-push (λ one. MustStay monitor hyps one → Contains (kept ++ candidate ∷ []) one) before candidate
      (All-weaker (λ one. MustStay monitor hyps one → Contains kept one) (λ one. MustStay monitor hyps one → Contains (kept ++ candidate ∷ []) one)
      (λ one stays must. Contains-append_left kept (candidate ∷ []) one (stays must)) before round.stay)
      (λ must. Contains-push kept candidate);
}
