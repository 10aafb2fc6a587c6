-- Where no query of a claim may stay open under what a lawful plan keeps, nothing else than that it
-- is lawful is found of it.
use Rattle.std.proofs.Common.{◌≡◌, inl, inr, ℕ, ◌+◌, ◌-◌, ◌<◌, ◌≤◌, Bool, true, false, not, ◌&&◌, List, [], ◌++◌, map, length, Option, Some, None, refl, sym, ap, subst, ◌∙◌, arith}
use Rattle.std.specs.Prelude.{All, IsSomeAnd, slice_get, unwrap_or}
use Rattle.std.specs.List.{Contains, filter, flat_map, enumerate_from}
use Rattle.std.proofs.lemmas.Bool.{true≢false, not-true}
use Rattle.std.proofs.lemmas.Option.{slice_get_within}
use Rattle.std.proofs.lemmas.List.Elements.{All-nil, All-append, All-map}
use Rattle.lang_monitor.specs.declared.candidate.Candidate.{Candidate}
use Rattle.lang_monitor.specs.declared.claim.Claim.{Claim}
use Rattle.lang_monitor.specs.declared.claim.Claim.TheVariants as claims
use Rattle.lang_monitor.specs.declared.monitor.Block.{Block}
use Rattle.lang_monitor.specs.Candidates.{candidate_truth, candidates_of}
use Rattle.lang_monitor.specs.MonitorParts.{MonitorParts, IsMonitor}
use Rattle.lang_monitor.specs.Triples.{HoldAtStart, Holds, IsFalseAtStart, IsInductive, Keeps, OneEnough}
use Rattle.machine_events.specs.declared.plan.CondKind.{CondKind}
use Rattle.machine_events.specs.declared.plan.CondKind.TheVariants as kinds
use Rattle.machine_events.specs.declared.plan.Note.{Note}
use Rattle.machine_events.specs.declared.plan.Plan.{Plan}
use Rattle.machine_events.specs.CountClaims.{AreNoted}
use Rattle.machine_events.specs.Plans.{IsLawful, condition_kind, has_note, notes_at}
use Rattle.logic_wp.specs.PlainClaims.{IsClaimOf}
use Rattle.plan_prune.specs.Hardness.{HasNoOpenClaim, MayBeKept}
use Rattle.plan_candidates.specs.Claims.{keeps_claims}
use Rattle.plan_claims.specs.Backing.{backed_claims, block_numbers, condition_numbers, kind_claims, reads_none, unnoted_claims, untested_claims, waits_at}
use Rattle.report_verdict.specs.Reports.{IsPlanOf}
use Rattle.report_verdict.specs.Verdicts.{IsLawfulAtSight}
use Rattle.report_verdict.proofs.Askable.{flat_all, numbered_all, range_all}
use Rattle.report_verdict.proofs.Pairs.{all_at}
use Rattle.report_proofs.proofs.SmallReports.{signal_reads_none, some_contained, waits_of_test}
use Rattle.report_audit.specs.declared.finding.Finding.{Finding}
use Rattle.report_audit.specs.declared.finding.Finding.TheVariants as findings
use Rattle.report_audit.specs.Findings.{IsFinding, asked_claims, is_asked}
use Rattle.report_audit.proofs.Asked.{passing}

-- ---- each claim that is asked of a lawful plan is one of the monitor, and holds

abbrev pub IsTold : MonitorParts → Plan → Claim → Type 0
IsTold monitor plan claim = IsClaimOf monitor claim × Holds monitor plan.kept claim

-- if the claim passes a test, as that it is asked
abbrev pub IsToldIf : (Claim → Bool) → MonitorParts → Plan → Claim → Type 0
IsToldIf test monitor plan claim = test claim ≡ true → IsTold monitor plan claim

pub keeps_told : (test : Claim → Bool) (monitor : MonitorParts) (plan : Plan) → IsPlanOf monitor plan → IsInductive monitor plan.kept
    → All (IsToldIf test monitor plan) (keeps_claims monitor plan.kept)
keeps_told test monitor plan of inductive =
    let P = IsToldIf test monitor plan in
    flat_all P (λ candidate. map (claims.Keeps candidate) (block_numbers monitor)) plan.kept (λ k candidate is.
    All-map P (claims.Keeps candidate) (block_numbers monitor)
    (range_all (λ block. P (claims.Keeps candidate block)) 0 (length monitor.blocks) (λ block low high asked.
    let within : block < length monitor.blocks = omega arith in (
      (all_at (Contains (candidates_of monitor)) plan.kept k candidate is (some_contained plan.kept (candidates_of monitor) of.kept), within),
      all_at (λ (one : Candidate). Keeps monitor plan.kept one block) plan.kept k candidate is (inductive.keeps block within),
    ))))

pub unnoted_told : (test : Claim → Bool) (monitor : MonitorParts) (plan : Plan) → IsPlanOf monitor plan → AreNoted monitor plan
    → All (IsToldIf test monitor plan) (flat_map (λ (one : ℕ × List Note). unnoted_claims monitor one.0 one.1) (enumerate_from 0 plan.notes))
unnoted_told which monitor plan of noted =
    let P = IsToldIf which monitor plan in
    numbered_all P (λ (one : ℕ × List Note). unnoted_claims monitor one.0 one.1) 0 plan.notes (λ k notes is.
    let low = slice_get_within plan.notes k notes is in
    let within : 0 + k < length monitor.blocks = omega (arith, low, of.notes) in
    let here : 0 + k ≡ k = omega arith in
    let same : notes_at plan (0 + k) ≡ notes = ap (notes_at plan) here ∙ ap (λ (o : Option (List Note)). unwrap_or o []) is in
    let test : ℕ → Bool = λ condition. not (has_note notes condition) in
    All-map P (claims.NoNote (0 + k)) (filter test (condition_numbers monitor))
    (passing test (λ condition. P (claims.NoNote (0 + k) condition)) (condition_numbers monitor)
    (range_all (λ condition. test condition ≡ true → P (claims.NoNote (0 + k) condition)) 1 (length monitor.conditions) (λ condition first high passes asked.
    let last : condition ≤ length monitor.conditions = omega arith in (
      (within, (first, last)),
      noted (0 + k) condition within first last (ap (λ (own : List Note). has_note own condition) same ∙ not-true (has_note notes condition) passes),
    )))))

one_told : (monitor : MonitorParts) (plan : Plan) (condition block : ℕ) → IsLawful monitor plan → 1 ≤ condition → condition_kind plan condition ≡ Some kinds.Signal
    → not (has_note (notes_at plan block) condition) ≡ true → (found : Option Block) → slice_get monitor.blocks block ≡ found
    → IsSomeAnd found (λ held. held.condition ≡ condition) → OneEnough monitor plan.kept condition block
one_told monitor plan condition block lawful first kind unnoted None is waits = absurd waits
one_told monitor plan condition block lawful first kind unnoted (Some held) is waits =
    elim (lawful.signals block held is (omega (arith, waits, first)) (ap (condition_kind plan) waits ∙ kind)) [
      | inl enough ↦ subst (λ (one : ℕ). OneEnough monitor plan.kept one block) waits enough
      | inr has ↦ absurd (true≢false (sym has ∙ ap (has_note (notes_at plan block)) waits ∙ not-true (has_note (notes_at plan block) condition) unnoted))
    ]

kinds_told : (monitor : MonitorParts) (plan : Plan) → IsMonitor monitor → IsPlanOf monitor plan → IsLawful monitor plan → IsLawfulAtSight monitor plan
    → All (IsToldIf (is_asked plan) monitor plan) (flat_map (λ (one : ℕ × CondKind). kind_claims monitor one.0 one.1) (enumerate_from 1 plan.kinds))
kinds_told monitor plan rule of lawful sight =
    numbered_all (IsToldIf (is_asked plan) monitor plan) (λ (one : ℕ × CondKind). kind_claims monitor one.0 one.1) 1 plan.kinds (λ k kind is. by_kind kind k is)
  where
    by_kind : (kind : CondKind) (k : ℕ) → slice_get plan.kinds k ≡ Some kind → All (IsToldIf (is_asked plan) monitor plan) (kind_claims monitor (1 + k) kind)
    by_kind kinds.Signal k is =
        let P = IsToldIf (is_asked plan) monitor plan in
        let here : 1 + k - 1 ≡ k = omega arith in
        let kind : condition_kind plan (1 + k) ≡ Some kinds.Signal = ap (slice_get plan.kinds) here ∙ is in
        let test : ℕ → Bool = waits_at monitor (1 + k) in
        All-map P (claims.One (1 + k)) (filter test (block_numbers monitor))
        (passing test (λ block. P (claims.One (1 + k) block)) (block_numbers monitor)
        (range_all (λ block. test block ≡ true → P (claims.One (1 + k) block)) 0 (length monitor.blocks) (λ block first last passes asked.
        let waits = waits_of_test (slice_get monitor.blocks block) (1 + k) passes in
        ((signal_reads_none monitor plan k rule of.kinds sight is, waits), one_told monitor plan (1 + k) block lawful (omega arith) kind asked (slice_get monitor.blocks block) refl waits))))
    by_kind kinds.Broadcast k is = All-nil (IsToldIf (is_asked plan) monitor plan)

-- a test that no claim of an untested note passes
pub untested_told : (which : Claim → Bool) (monitor : MonitorParts) (plan : Plan) → ((block condition : ℕ) → which (claims.NoTest block condition) ≡ false)
    → All (IsToldIf which monitor plan) (flat_map (λ (one : ℕ × List Note). untested_claims monitor one.0 one.1) (enumerate_from 0 plan.notes))
untested_told which monitor plan none =
    let P = IsToldIf which monitor plan in
    numbered_all P (λ (one : ℕ × List Note). untested_claims monitor one.0 one.1) 0 plan.notes (λ k notes is.
    let claim : Note → Claim = λ note. claims.NoTest (0 + k) note.condition in
    let test : Note → Bool = λ note. not note.tested && reads_none monitor note.condition in
    All-map P claim (filter test notes) (λ place other within asked. absurd (true≢false (sym asked ∙ none _ _))))

asked_told : (monitor : MonitorParts) (plan : Plan) → IsMonitor monitor → IsPlanOf monitor plan → IsLawful monitor plan → IsLawfulAtSight monitor plan
    → All (IsTold monitor plan) (asked_claims monitor plan)
asked_told monitor plan rule of lawful sight =
    let P = IsToldIf (is_asked plan) monitor plan in
    let a = keeps_claims monitor plan.kept in
    let b = flat_map (λ (one : ℕ × List Note). unnoted_claims monitor one.0 one.1) (enumerate_from 0 plan.notes) in
    let c = flat_map (λ (one : ℕ × CondKind). kind_claims monitor one.0 one.1) (enumerate_from 1 plan.kinds) in
    let d = flat_map (λ (one : ℕ × List Note). untested_claims monitor one.0 one.1) (enumerate_from 0 plan.notes) in
    passing (is_asked plan) (IsTold monitor plan) (backed_claims monitor plan)
    (All-append P a (b ++ (c ++ d)) (keeps_told (is_asked plan) monitor plan of lawful.inductive)
    (All-append P b (c ++ d) (unnoted_told (is_asked plan) monitor plan of lawful.noted)
    (All-append P c d (kinds_told monitor plan rule of lawful sight) (untested_told (is_asked plan) monitor plan (λ block condition. refl)))))

-- ---- what is found of a lawful plan

pub false_nowhere : (monitor : MonitorParts) (kept : List Candidate) (place : ℕ) → HoldAtStart monitor kept
    → IsSomeAnd (slice_get kept place) (IsFalseAtStart monitor) → ⊥
false_nowhere monitor kept place all here = by_found (slice_get kept place) refl here
  where
    by_found : (found : Option Candidate) → slice_get kept place ≡ found → IsSomeAnd found (IsFalseAtStart monitor) → ⊥
    by_found None is none = none
    by_found (Some candidate) is fails =
        true≢false (sym (all_at (λ (one : Candidate). candidate_truth fails.0 one ≡ true) kept place candidate is (all fails.0 fails.1)) ∙ fails.2)

pub found_of_lawful : (monitor : MonitorParts) (plan : Plan) (finding : Finding) → IsMonitor monitor → IsPlanOf monitor plan → HasNoOpenClaim monitor plan.kept
    → IsLawful monitor plan → IsFinding monitor plan finding → finding ≡ findings.Lawful
found_of_lawful monitor plan findings.Lawful rule of none lawful is = refl
found_of_lawful monitor plan (findings.Start kept) rule of none lawful is = absurd (false_nowhere monitor plan.kept kept lawful.inductive.starts is.here)
found_of_lawful monitor plan (findings.Kind condition) rule of none lawful is =
    absurd (is.here (record { reading = λ which there reads. lawful.reading condition which there reads; broadcasts = lawful.broadcasts condition }))
found_of_lawful monitor plan (findings.Unproved claim) rule of none lawful is =
    let told = all_at (IsTold monitor plan) (asked_claims monitor plan) is.place claim is.here (asked_told monitor plan rule of lawful is.sight) in
    absurd (none claim told.0 (is.unproved told.1))
found_of_lawful monitor plan (findings.Uncounted question) rule of none lawful is = absurd is

-- what a lawful plan keeps may be kept
pub may_be_kept : (monitor : MonitorParts) (plan : Plan) → IsPlanOf monitor plan → IsLawful monitor plan → MayBeKept monitor plan.kept
may_be_kept monitor plan of lawful = record { candidates = of.kept; starts = lawful.inductive.starts }
