-- The report of a placed plan is accepted where no claim of the monitor is hard.
use Rattle.std.proofs.Common.{◌≡◌, ◌==◌, ℕ, suc, ◌+◌, ◌-◌, Bool, true, false, not, cond, ◌&&◌, List, [], ◌∷◌, ◌++◌, map, length, Option, Some, None, inl, inr, eqb-true, refl, sym, ap, subst, ◌∙◌, arith}
use Rattle.std.specs.Prelude.{All, IsSomeAnd, slice_get}
use Rattle.std.specs.List.{Contains, filter, flat_map, enumerate_from, zip}
use Rattle.std.specs.Option.{option_map_or}
use Rattle.std.proofs.lemmas.Bool.{and_parts, cases_Bool, not-true, true≢false}
use Rattle.std.proofs.lemmas.List.{length-map}
use Rattle.std.proofs.lemmas.Option.{slice_get_within}
use Rattle.std.proofs.lemmas.List.Elements.{All-nil, All-cons, All-head, All-tail, All-append, All-map}
use Rattle.logic_cert.specs.declared.cert.Cert.{Cert}
use Rattle.lang_monitor.specs.declared.candidate.Candidate.{Candidate}
use Rattle.lang_monitor.specs.declared.claim.Claim.{Claim}
use Rattle.lang_monitor.specs.declared.claim.Claim.TheVariants as claims
use Rattle.lang_monitor.specs.declared.monitor.Block.{Block}
use Rattle.lang_monitor.specs.declared.monitor.Condition.{Condition}
use Rattle.lang_monitor.specs.Candidates.{AreSomeOf, candidates_of}
use Rattle.lang_monitor.specs.Conditions.{IsDescribed}
use Rattle.lang_monitor.specs.MonitorParts.{MonitorParts, IsMonitor}
use Rattle.lang_monitor.specs.Queries.{query_of}
use Rattle.machine_events.specs.declared.plan.CondKind.{CondKind}
use Rattle.machine_events.specs.declared.plan.CondKind.TheVariants as kinds
use Rattle.machine_events.specs.declared.plan.Note.{Note}
use Rattle.machine_events.specs.declared.plan.Plan.{Plan}
use Rattle.machine_events.specs.Plans.{FitsNote, FitsNotes, FitsPlan, IsLawful, has_note}
use Rattle.logic_wp.specs.PlainClaims.{IsClaimOf, ReadsNone, is_within_limits, has_few_cubes}
use Rattle.logic_wp.specs.Limits.{is_query_within}
use Rattle.logic_wp.specs.NegatedQueries.{negated_query}
use Rattle.plan_prune.specs.Hardness.{HasNoHardClaim}
use Rattle.plan_prune.specs.Hardness.IsHard.{beyond_limits}
use Rattle.plan_candidates.specs.Claims.{keeps_claims}
use Rattle.plan_claims.specs.declared.placed.PlacedPlan.{PlacedPlan}
use Rattle.plan_claims.specs.declared.placed.Proof.{Proof}
use Rattle.plan_claims.specs.Backing.{AreProofs, backed_claims, block_numbers, condition_numbers, kind_claims, reads_none, unnoted_claims, untested_claims, waits_at}
use Rattle.plan_claims.proofs.Lists.{all_mapped}
use Rattle.report_verdict.specs.declared.report.Verdict.{Verdict}
use Rattle.report_verdict.specs.declared.report.Verdict.TheVariants as verdicts
use Rattle.report_verdict.specs.Reports.{proofs_of, report_of}
use Rattle.report_verdict.specs.Verdicts.{IsLawfulAtSight, IsOpen, IsProof, IsVerdict}
use Rattle.report_verdict.proofs.Askable.{flat_all, numbered_all, range_all}
use Rattle.report_verdict.proofs.Pairs.{all_at, at_place, from_places}

-- ---- what passes a test

passing : {X : Type 0} (test : X → Bool) (P : X → Type 0) (xs : List X)
    → All (λ x. test x ≡ true → P x) xs → All P (filter test xs)
passing test P [] all = All-nil P
passing {X} test P (x ∷ xs) all = by_test (test x) refl (passing test P xs (All-tail (λ (x : X). test x ≡ true → P x) x xs all))
  where
    by_test : (passes : Bool) → test x ≡ passes → All P (filter test xs)
        → All P (cond passes (x ∷ filter test xs) (filter test xs))
    by_test true is rest = All-cons P x (filter test xs) (All-head (λ (x : X). test x ≡ true → P x) x xs all is) rest
    by_test false is rest = rest

pub waits_of_test : (found : Option Block) (condition : ℕ)
    → option_map_or (λ held. held.condition == condition) found false ≡ true
    → IsSomeAnd found (λ held. held.condition ≡ condition)
waits_of_test None condition is = absurd (true≢false (sym is))
waits_of_test (Some held) condition is = eqb-true held.condition condition is

reads_of_test : (found : Option Condition)
    → option_map_or (λ held. not held.reads_inputs) found false ≡ true
    → IsSomeAnd found (λ held. held.reads_inputs ≡ false)
reads_of_test None is = absurd (true≢false (sym is))
reads_of_test (Some held) is = not-true held.reads_inputs is

-- ---- the claims of a plan are claims of its monitor

pub some_contained : (kept all : List Candidate) → AreSomeOf kept all → All (Contains all) kept
some_contained [] all are = All-nil (Contains all)
some_contained (one ∷ kept) [] are = absurd are
some_contained (one ∷ kept) (first ∷ all) (inl both) =
    All-cons (Contains (first ∷ all)) one kept (0, omega arith, sym both.0)
    (λ i other low. let is = some_contained kept all both.1 i other low in (suc is.0, omega (arith, is.1), is.2))
some_contained (one ∷ kept) (first ∷ all) (inr are) =
    λ i other low. let is = some_contained (one ∷ kept) all are i other low in (suc is.0, omega (arith, is.1), is.2)

keeps_of : (monitor : MonitorParts) (plan : Plan) → FitsPlan monitor plan
    → All (IsClaimOf monitor) (keeps_claims monitor plan.kept)
keeps_of monitor plan fits =
    flat_all (IsClaimOf monitor) (λ candidate. map (claims.Keeps candidate) (block_numbers monitor)) plan.kept (λ k candidate is.
    All-map (IsClaimOf monitor) (claims.Keeps candidate) (block_numbers monitor)
    (range_all (λ block. IsClaimOf monitor (claims.Keeps candidate block)) 0 (length monitor.blocks)
    (λ block low high. (all_at (Contains (candidates_of monitor)) plan.kept k candidate is (some_contained plan.kept (candidates_of monitor) fits.kept), omega arith))))

unnoted_of : (monitor : MonitorParts) (plan : Plan) → FitsPlan monitor plan
    → All (IsClaimOf monitor)
    (flat_map (λ (one : ℕ × List Note). unnoted_claims monitor one.0 one.1) (enumerate_from 0 plan.notes))
unnoted_of monitor plan fits =
    numbered_all (IsClaimOf monitor) (λ (one : ℕ × List Note). unnoted_claims monitor one.0 one.1) 0 plan.notes (λ k notes is.
    let low = slice_get_within plan.notes k notes is in
    let test : ℕ → Bool = λ condition. not (has_note notes condition) in
    All-map (IsClaimOf monitor) (claims.NoNote (0 + k)) (filter test (condition_numbers monitor))
    (passing test (λ condition. IsClaimOf monitor (claims.NoNote (0 + k) condition)) (condition_numbers monitor)
    (range_all (λ condition. test condition ≡ true → IsClaimOf monitor (claims.NoNote (0 + k) condition)) 1 (length monitor.conditions)
    (λ condition first last passes. (omega (arith, low, fits.notes), (first, omega arith))))))

untested_of : (monitor : MonitorParts) (plan : Plan) → FitsPlan monitor plan
    → All (IsClaimOf monitor)
    (flat_map (λ (one : ℕ × List Note). untested_claims monitor one.0 one.1) (enumerate_from 0 plan.notes))
untested_of monitor plan fits =
    numbered_all (IsClaimOf monitor) (λ (one : ℕ × List Note). untested_claims monitor one.0 one.1) 0 plan.notes (λ k notes is.
    let low = slice_get_within plan.notes k notes is in
    let own : FitsNotes monitor notes = all_at (FitsNotes monitor) plan.notes k notes is fits.each in
    let claim : Note → Claim = λ note. claims.NoTest (0 + k) note.condition in
    let test : Note → Bool = λ note. not note.tested && reads_none monitor note.condition in
    All-map (IsClaimOf monitor) claim (filter test notes)
    (passing test (λ note. IsClaimOf monitor (claim note)) notes
    (from_places (λ note. test note ≡ true → IsClaimOf monitor (claim note)) notes (λ i note here passes.
    let one : FitsNote monitor note = all_at (FitsNote monitor) notes i note here own.each in
    let reads = (and_parts (not note.tested) (reads_none monitor note.condition) passes).1 in
    (omega (arith, low, fits.notes), (one.0, reads_of_test (slice_get monitor.conditions (note.condition - 1)) reads))))))

-- a condition of kind signal reads no inputs
pub signal_reads_none : (monitor : MonitorParts) (plan : Plan) (k : ℕ) → IsMonitor monitor
    → length plan.kinds ≡ length monitor.conditions → IsLawfulAtSight monitor plan
    → slice_get plan.kinds k ≡ Some kinds.Signal
    → ReadsNone monitor (1 + k)
signal_reads_none monitor plan k rule many sight is =
    let low = slice_get_within plan.kinds k kinds.Signal is in
    let held = at_place monitor.conditions k (omega (arith, low, many)) in
    let at : slice_get monitor.conditions (1 + k - 1) ≡ Some held.0 = ap (slice_get monitor.conditions) {x = 1 + k - 1} {y = k} (omega arith) ∙ held.1 in
    let described = all_at IsDescribed monitor.conditions k held.0 held.1 rule.described in
    let none : held.0.reads_inputs ≡ false = elim (cases_Bool held.0.reads_inputs) [
      | inl reads ↦ absurd (no_signal (sym is ∙ ap (slice_get plan.kinds) {x = k} {y = 1 + k - 1} (omega arith)
          ∙ (sight.reading (1 + k) held.0 (record { numbered = omega arith; there = at }) (sym described.inputs ∙ reads)).kind))
      | inr none ↦ none
    ] in
    (omega arith, subst (λ (o : Option Condition). IsSomeAnd o (λ one. one.reads_inputs ≡ false)) (sym at) none)
  where
    is_signal : Option CondKind → Bool
    is_signal None = false
    is_signal (Some kinds.Signal) = true
    is_signal (Some kinds.Broadcast) = false

    no_signal : Some kinds.Signal ≡ Some kinds.Broadcast → ⊥
    no_signal same = true≢false (ap is_signal same)

kinds_of : (monitor : MonitorParts) (plan : Plan) → IsMonitor monitor → FitsPlan monitor plan
    → IsLawfulAtSight monitor plan
    → All (IsClaimOf monitor)
    (flat_map (λ (one : ℕ × CondKind). kind_claims monitor one.0 one.1) (enumerate_from 1 plan.kinds))
kinds_of monitor plan rule fits sight =
    numbered_all (IsClaimOf monitor) (λ (one : ℕ × CondKind). kind_claims monitor one.0 one.1) 1 plan.kinds (λ k kind is. by_kind kind k is)
  where
    by_kind : (kind : CondKind) (k : ℕ) → slice_get plan.kinds k ≡ Some kind
        → All (IsClaimOf monitor) (kind_claims monitor (1 + k) kind)
    by_kind kinds.Signal k is =
        let test : ℕ → Bool = waits_at monitor (1 + k) in
        All-map (IsClaimOf monitor) (claims.One (1 + k)) (filter test (block_numbers monitor))
        (passing test (λ block. IsClaimOf monitor (claims.One (1 + k) block)) (block_numbers monitor)
        (range_all (λ block. test block ≡ true → IsClaimOf monitor (claims.One (1 + k) block)) 0 (length monitor.blocks)
        (λ block first last passes. (signal_reads_none monitor plan k rule fits.kinds sight is, waits_of_test (slice_get monitor.blocks block) (1 + k) passes))))
    by_kind kinds.Broadcast k is = All-nil (IsClaimOf monitor)

pub claims_are : (monitor : MonitorParts) (plan : Plan) → IsMonitor monitor → FitsPlan monitor plan
    → IsLawfulAtSight monitor plan → All (IsClaimOf monitor) (backed_claims monitor plan)
claims_are monitor plan rule fits sight =
    let a = keeps_claims monitor plan.kept in
    let b = flat_map (λ (one : ℕ × List Note). unnoted_claims monitor one.0 one.1) (enumerate_from 0 plan.notes) in
    let c = flat_map (λ (one : ℕ × CondKind). kind_claims monitor one.0 one.1) (enumerate_from 1 plan.kinds) in
    let d = flat_map (λ (one : ℕ × List Note). untested_claims monitor one.0 one.1) (enumerate_from 0 plan.notes) in
    All-append (IsClaimOf monitor) a (b ++ (c ++ d)) (keeps_of monitor plan fits)
    (All-append (IsClaimOf monitor) b (c ++ d) (unnoted_of monitor plan fits) (All-append (IsClaimOf monitor) c d (kinds_of monitor plan rule fits sight) (untested_of monitor plan fits)))

-- ---- the verdict

-- under fewer candidates a query that is within the limits stays so
abbrev pub FewerWithin : Type 0
FewerWithin = (monitor : MonitorParts) (claim : Claim) (kept all : List Candidate) → AreSomeOf kept all
    → is_within_limits monitor (query_of monitor all claim) ≡ true → is_within_limits monitor (query_of monitor kept claim) ≡ true

claim_within : FewerWithin → (monitor : MonitorParts) (kept : List Candidate) (claim : Claim)
    → AreSomeOf kept (candidates_of monitor) → HasNoHardClaim monitor → IsClaimOf monitor claim
    → is_query_within monitor (query_of monitor kept claim) ≡ true
claim_within fewer monitor kept claim some none is =
    let all : is_within_limits monitor (query_of monitor (candidates_of monitor) claim) ≡ true = elim (cases_Bool (is_within_limits monitor (query_of monitor (candidates_of monitor) claim))) [
      | inl within ↦ within
      | inr beyond ↦ absurd (none claim is (beyond_limits beyond))
    ] in
    (and_parts (is_query_within monitor (query_of monitor kept claim)) (has_few_cubes (negated_query monitor (query_of monitor kept claim))) (fewer monitor claim kept (candidates_of monitor) some all)).0

abbrev pair : Claim → Cert → Claim × Cert
pair claim cert = (claim, cert)

zipped : (P : Claim × Cert → Type 0) (proofs : List Proof)
    → All (λ proof. P (pair proof.claim proof.cert)) proofs
    → All P (zip (map (λ proof. proof.claim) proofs) (map (λ proof. proof.cert) proofs))
zipped P [] all = All-nil P
zipped P (proof ∷ proofs) all =
    All-cons P (pair proof.claim proof.cert) (zip (map (λ proof. proof.claim) proofs) (map (λ proof. proof.cert) proofs))
    (All-head (λ (one : Proof). P (pair one.claim one.cert)) proof proofs all) (zipped P proofs (All-tail (λ (one : Proof). P (pair one.claim one.cert)) proof proofs all))

abbrev Checked : MonitorParts → List Candidate → Claim × Cert → Type 0
Checked monitor kept one = IsProof monitor kept one × (is_query_within monitor (query_of monitor kept one.0) ≡ true)

all_checked : FewerWithin → (monitor : MonitorParts) (placed : PlacedPlan) → IsMonitor monitor
    → FitsPlan monitor placed.plan → IsLawfulAtSight monitor placed.plan
    → AreProofs monitor placed.plan.kept (backed_claims monitor placed.plan) placed.proofs
    → HasNoHardClaim monitor
    → All (Checked monitor placed.plan.kept) (proofs_of monitor (report_of placed))
all_checked fewer monitor placed rule fits sight are none =
    let kept = placed.plan.kept in
    let named : All (IsClaimOf monitor) (map (λ proof. proof.claim) placed.proofs) = subst (All (IsClaimOf monitor)) (sym are.claims) (claims_are monitor placed.plan rule fits sight) in
    let each = all_mapped (IsClaimOf monitor) (λ (proof : Proof). proof.claim) placed.proofs named in
    subst (λ (wanted : List Claim). All (Checked monitor kept) (zip wanted (map (λ proof. proof.cert) placed.proofs))) are.claims
    (zipped (Checked monitor kept) placed.proofs (λ i other low.
    (are.certificates i other low, claim_within fewer monitor kept _ fits.kept none (each i other low))))

no_open : (monitor : MonitorParts) (kept : List Candidate) (proofs : List (Claim × Cert))
    (place : ℕ) → All (Checked monitor kept) proofs
    → IsSomeAnd (slice_get proofs place) (IsOpen monitor kept) → ⊥
no_open monitor kept proofs place all here = by_found (slice_get proofs place) refl here
  where
    by_found : (found : Option (Claim × Cert)) → slice_get proofs place ≡ found
        → IsSomeAnd found (IsOpen monitor kept) → ⊥
    by_found None is here = here
    by_found (Some one) is (inl unproved) = unproved (all_at (Checked monitor kept) proofs place one is all).0
    by_found (Some one) is (inr beyond) = true≢false (sym (all_at (Checked monitor kept) proofs place one is all).1 ∙ beyond)

pub small_accepted : FewerWithin → (monitor : MonitorParts) (placed : PlacedPlan)
    (verdict : Verdict) → IsMonitor monitor → FitsPlan monitor placed.plan
    → IsLawful monitor placed.plan
    → AreProofs monitor placed.plan.kept (backed_claims monitor placed.plan) placed.proofs
    → HasNoHardClaim monitor → IsVerdict monitor (report_of placed) verdict
    → verdict ≡ verdicts.Accepted (length placed.proofs)
small_accepted fewer monitor placed (verdicts.Accepted claims) rule fits lawful are none is = ap verdicts.Accepted (is.1 ∙ length-map placed.proofs (λ (proof : Proof). proof.cert))
small_accepted fewer monitor placed verdicts.Unlawful rule fits lawful are none is =
    absurd (is (record { starts = lawful.inductive.starts; reading = lawful.reading; broadcasts = lawful.broadcasts }))
small_accepted fewer monitor placed (verdicts.Unproved line) rule fits lawful are none is =
    absurd (no_open monitor placed.plan.kept (proofs_of monitor (report_of placed)) is.place
    (all_checked fewer monitor placed rule fits (record { starts = lawful.inductive.starts; reading = lawful.reading; broadcasts = lawful.broadcasts }) are none) is.here)
