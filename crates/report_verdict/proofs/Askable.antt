-- The claims that a plan rests on may be asked.
use Rattle.std.proofs.Common.{◌≡◌, ℕ, zero, suc, ◌+◌, ◌<◌, ◌≤◌, Bool, true, not, ◌&&◌, List, [], ◌∷◌, ◌++◌, map, length, Option, Some, refl, sym, ap, subst, ◌∙◌, arith}
use Rattle.std.specs.Prelude.{All, IsSomeAnd, slice_get, unwrap_or}
use Rattle.std.specs.List.{filter, flat_map, enumerate_from, list_all, range_with_len}
use Rattle.std.proofs.lemmas.Bool.{and_parts}
use Rattle.std.proofs.lemmas.Option.{slice_get_within}
use Rattle.std.proofs.lemmas.List.Elements.{All-nil, All-cons, All-append, All-filter, All-map}
use Rattle.lang_monitor.specs.declared.candidate.Candidate.{Candidate}
use Rattle.lang_monitor.specs.declared.claim.Claim.{Claim}
use Rattle.lang_monitor.specs.declared.claim.Claim.TheVariants as claims
use Rattle.lang_monitor.specs.declared.monitor.Condition.{Condition}
use Rattle.lang_monitor.specs.MonitorParts.{MonitorParts}
use Rattle.machine_events.specs.declared.plan.CondKind.{CondKind}
use Rattle.machine_events.specs.declared.plan.CondKind.TheVariants as kinds
use Rattle.machine_events.specs.declared.plan.Note.{Note}
use Rattle.machine_events.specs.declared.plan.Plan.{Plan}
use Rattle.machine_events.specs.Plans.{has_note}
use Rattle.logic_wp.specs.Expressible.{is_expressible}
use Rattle.plan_candidates.specs.Claims.{keeps_claims}
use Rattle.plan_claims.specs.Backing.{backed_claims, block_numbers, condition_numbers, kind_claims, reads_none, unnoted_claims, untested_claims, waits_at}
use Rattle.report_verdict.specs.Reports.{AreNotesOf, IsOnCondition, IsPlanOf}
use Rattle.logic_wp.specs.PlainClaims.{MayAsk}
use Rattle.report_verdict.proofs.Pairs.{all_at, from_places}

-- ---- all of a list that is made of others

pub flat_all : {X Y : Type 0} (P : Y → Type 0) (f : X → List Y) (xs : List X)
    → ((k : ℕ) (x : X) → slice_get xs k ≡ Some x → All P (f x)) → All P (flat_map f xs)
flat_all P f [] each = All-nil P
flat_all P f (x ∷ xs) each = All-append P (f x) (flat_map f xs) (each 0 x refl) (flat_all P f xs (λ k one is. each (suc k) one is))

pub range_all : (P : ℕ → Type 0) (first count : ℕ)
    → ((number : ℕ) → first ≤ number → number < first + count → P number)
    → All P (range_with_len first count)
range_all P first zero each = All-nil P
range_all P first (suc count) each =
    All-cons P first (range_with_len (first + 1) count) (each first (omega arith) (omega arith)) (range_all P (first + 1) count (λ number low high. each number (omega arith) (omega arith)))

pub numbered_all : {X Y : Type 0} (P : Y → Type 0) (f : ℕ × X → List Y) (first : ℕ) (xs : List X)
    → ((k : ℕ) (x : X) → slice_get xs k ≡ Some x → All P (f (first + k, x)))
    → All P (flat_map f (enumerate_from first xs))
numbered_all P f first [] each = All-nil P
numbered_all {X} P f first (x ∷ xs) each =
    let here : first + 0 ≡ first = omega arith in
    All-append P (f (first, x)) (flat_map f (enumerate_from (first + 1) xs)) (subst (λ (n : ℕ). All P (f (n, x))) here (each 0 x refl))
    (numbered_all P f (first + 1) xs (λ k one is.
    let there : first + suc k ≡ first + 1 + k = omega arith in
    subst (λ (n : ℕ). All P (f (n, one))) there (each (suc k) one is)))

passes_at : {X : Type 0} (test : X → Bool) (xs : List X) (k : ℕ) (x : X) → list_all test xs ≡ true
    → slice_get xs k ≡ Some x → test x ≡ true
passes_at test [] k x all is = absurd (omega (arith, slice_get_within [] k x is))
passes_at {X} test (one ∷ xs) zero x all is =
    ap test (ap (λ (o : Option X). unwrap_or o x) (sym is)) ∙ (and_parts (test one) (list_all test xs) all).0
passes_at test (one ∷ xs) (suc k) x all is = passes_at test xs k x (and_parts (test one) (list_all test xs) all).1 is

-- ---- the claims

pub within_some : (conditions : List Condition) (k : ℕ) (P : Condition → Type 0)
    → IsSomeAnd (slice_get conditions k) P → k < length conditions
within_some [] k P some = absurd some
within_some (condition ∷ conditions) zero P some = omega arith
within_some (condition ∷ conditions) (suc k) P some = omega (arith, within_some conditions k P some)

keeps_askable : (monitor : MonitorParts) (kept : List Candidate)
    → list_all is_expressible kept ≡ true → All (MayAsk monitor) (keeps_claims monitor kept)
keeps_askable monitor kept passes =
    flat_all (MayAsk monitor) (λ candidate. map (claims.Keeps candidate) (block_numbers monitor)) kept (λ k candidate is.
    All-map (MayAsk monitor) (claims.Keeps candidate) (block_numbers monitor)
    (range_all (λ block. MayAsk monitor (claims.Keeps candidate block)) 0 (length monitor.blocks) (λ block low high. (omega arith, passes_at is_expressible kept k candidate passes is))))

unnoted_askable : (monitor : MonitorParts) (plan : Plan) → IsPlanOf monitor plan
    → All (MayAsk monitor)
    (flat_map (λ (one : ℕ × List Note). unnoted_claims monitor one.0 one.1) (enumerate_from 0 plan.notes))
unnoted_askable monitor plan fits =
    numbered_all (MayAsk monitor) (λ (one : ℕ × List Note). unnoted_claims monitor one.0 one.1) 0 plan.notes (λ k notes is.
    let low = slice_get_within plan.notes k notes is in
    let test : ℕ → Bool = λ condition. not (has_note notes condition) in
    All-map (MayAsk monitor) (claims.NoNote (0 + k)) (filter test (condition_numbers monitor))
    (All-filter test (λ condition. MayAsk monitor (claims.NoNote (0 + k) condition)) (condition_numbers monitor)
    (range_all (λ condition. MayAsk monitor (claims.NoNote (0 + k) condition)) 1 (length monitor.conditions) (λ condition first last. (omega (arith, low, fits.notes), (first, omega arith))))))

kinds_askable : (monitor : MonitorParts) (plan : Plan) → IsPlanOf monitor plan
    → All (MayAsk monitor)
    (flat_map (λ (one : ℕ × CondKind). kind_claims monitor one.0 one.1) (enumerate_from 1 plan.kinds))
kinds_askable monitor plan fits =
    numbered_all (MayAsk monitor) (λ (one : ℕ × CondKind). kind_claims monitor one.0 one.1) 1 plan.kinds (λ k kind is.
    by_kind kind k (omega (arith, slice_get_within plan.kinds k kind is, fits.kinds)))
  where
    by_kind : (kind : CondKind) (k : ℕ) → k < length monitor.conditions
        → All (MayAsk monitor) (kind_claims monitor (1 + k) kind)
    by_kind kinds.Signal k low =
        let test : ℕ → Bool = waits_at monitor (1 + k) in
        All-map (MayAsk monitor) (claims.One (1 + k)) (filter test (block_numbers monitor))
        (All-filter test (λ block. MayAsk monitor (claims.One (1 + k) block)) (block_numbers monitor)
        (range_all (λ block. MayAsk monitor (claims.One (1 + k) block)) 0 (length monitor.blocks) (λ block first last. (omega arith, (omega arith, omega arith)))))
    by_kind kinds.Broadcast k low = All-nil (MayAsk monitor)

untested_askable : (monitor : MonitorParts) (plan : Plan) → IsPlanOf monitor plan
    → All (MayAsk monitor)
    (flat_map (λ (one : ℕ × List Note). untested_claims monitor one.0 one.1) (enumerate_from 0 plan.notes))
untested_askable monitor plan fits =
    numbered_all (MayAsk monitor) (λ (one : ℕ × List Note). untested_claims monitor one.0 one.1) 0 plan.notes (λ k notes is.
    let low = slice_get_within plan.notes k notes is in
    let own : AreNotesOf monitor notes = all_at (AreNotesOf monitor) plan.notes k notes is fits.each in
    let claim : Note → Claim = λ note. claims.NoTest (0 + k) note.condition in
    let test : Note → Bool = λ note. not note.tested && reads_none monitor note.condition in
    All-map (MayAsk monitor) claim (filter test notes)
    (All-filter test (λ note. MayAsk monitor (claim note)) notes
    (from_places (λ note. MayAsk monitor (claim note)) notes (λ i note here.
    (omega (arith, low, fits.notes), all_at (IsOnCondition monitor) notes i note here own.each)))))

pub claims_askable : (monitor : MonitorParts) (plan : Plan) → IsPlanOf monitor plan
    → list_all is_expressible plan.kept ≡ true → All (MayAsk monitor) (backed_claims monitor plan)
claims_askable monitor plan fits passes =
    let a = keeps_claims monitor plan.kept in
    let b = flat_map (λ (one : ℕ × List Note). unnoted_claims monitor one.0 one.1) (enumerate_from 0 plan.notes) in
    let c = flat_map (λ (one : ℕ × CondKind). kind_claims monitor one.0 one.1) (enumerate_from 1 plan.kinds) in
    let d = flat_map (λ (one : ℕ × List Note). untested_claims monitor one.0 one.1) (enumerate_from 0 plan.notes) in
    All-append (MayAsk monitor) a (b ++ (c ++ d)) (keeps_askable monitor plan.kept passes)
    (All-append (MayAsk monitor) b (c ++ d) (unnoted_askable monitor plan fits) (All-append (MayAsk monitor) c d (kinds_askable monitor plan fits) (untested_askable monitor plan fits)))
