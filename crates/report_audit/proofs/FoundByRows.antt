-- Where no query may stay open, nothing else than that it is lawful is found of a plan that is
-- lawful by rows of its guards that are tried.
use Rattle.std.proofs.Common.{◌≡◌, ◌==◌, inl, inr, ℕ, ◌+◌, ◌-◌, ◌≤◌, Bool, true, false, not, List, ◌++◌, length, Option, Some, None, refl, sym, ap, subst, ◌∙◌, arith}
use Rattle.std.specs.Prelude.{All, IsSomeAnd, slice_get}
use Rattle.std.specs.List.{filter, flat_map, enumerate_from}
use Rattle.std.proofs.lemmas.Bool.{and_parts, eqb-true, not-true, true≢false}
use Rattle.std.proofs.lemmas.List.Elements.{All-nil, All-append, All-map}
use Rattle.lang_monitor.specs.declared.claim.Claim.{Claim}
use Rattle.lang_monitor.specs.declared.claim.Claim.TheVariants as claims
use Rattle.lang_monitor.specs.declared.monitor.Block.{Block}
use Rattle.lang_monitor.specs.declared.monitor.Condition.{Condition}
use Rattle.lang_monitor.specs.Inputs.{reads_inputs}
use Rattle.lang_monitor.specs.MonitorParts.{MonitorParts, IsMonitor}
use Rattle.lang_monitor.specs.Triples.{OneEnough}
use Rattle.machine_events.specs.declared.plan.CondKind.{CondKind}
use Rattle.machine_events.specs.declared.plan.CondKind.TheVariants as kinds
use Rattle.machine_events.specs.declared.plan.Note.{Note}
use Rattle.machine_events.specs.declared.plan.Plan.{Plan}
use Rattle.machine_events.specs.Plans.{EachNoteOn, IsCondition, IsLawful, WakesAll, condition_kind, has_broadcast, has_note, notes_at}
use Rattle.machine_events.specs.Counts.{IsPassedOn}
use Rattle.logic_wp.specs.PlainClaims.{ReadsNone}
use Rattle.plan_prune.specs.Hardness.{HasNoOpenClaim}
use Rattle.plan_candidates.specs.Claims.{keeps_claims}
use Rattle.plan_claims.specs.Backing.{backed_claims, block_numbers, kind_claims, unnoted_claims, untested_claims, waits_at}
use Rattle.plan_count.specs.declared.question.Question.{Question}
use Rattle.plan_count.specs.Questions.{AreToldRight, CountsWithNone, CountsWithOne, HasRowAt, IsSo, IsToldRight, MayAskQuestion, MayBeAsked}
use Rattle.plan_counted.specs.Exact.{HasNoOpenQuestion}
use Rattle.report_verdict.specs.Reports.{IsPlanOf}
use Rattle.report_verdict.specs.Verdicts.{IsLawfulAtSight}
use Rattle.report_verdict.proofs.Askable.{numbered_all, range_all}
use Rattle.report_verdict.proofs.Pairs.{all_at, at_place}
use Rattle.report_proofs.proofs.SmallReports.{signal_reads_none, waits_of_test}
use Rattle.report_audit.specs.declared.finding.Finding.{Finding}
use Rattle.report_audit.specs.declared.finding.Finding.TheVariants as findings
use Rattle.report_audit.specs.CountedFindings.{IsCountedByTried, IsCountedFinding, IsFirstUncounted, IsLawfulByRows, IsNotPassedOn}
use Rattle.report_audit.specs.CountedFindings.{common_claims, counting_questions, is_common, is_passing, passing_claims}
use Rattle.report_audit.proofs.Asked.{passing}
use Rattle.report_audit.proofs.CountAsked.{each_block, each_question}
use Rattle.report_audit.proofs.Uncounted.{signal_reads}
use Rattle.report_audit.proofs.Found.{IsCommonLawful}
use Rattle.report_audit.proofs.FoundLawful.{IsTold, IsToldIf, false_nowhere, keeps_told, unnoted_told, untested_told}

-- ---- claims

-- all claims, where those of kinds are told
told_by_kinds : (test : Claim → Bool) (monitor : MonitorParts) (plan : Plan) → IsPlanOf monitor plan → IsCommonLawful monitor plan
    → ((block condition : ℕ) → test (claims.NoTest block condition) ≡ false)
    → All (IsToldIf test monitor plan) (flat_map (λ (one : ℕ × CondKind). kind_claims monitor one.0 one.1) (enumerate_from 1 plan.kinds))
    → All (IsTold monitor plan) (filter test (backed_claims monitor plan))
told_by_kinds test monitor plan of own untested told =
    let P = IsToldIf test monitor plan in
    let a = keeps_claims monitor plan.kept in
    let b = flat_map (λ (one : ℕ × List Note). unnoted_claims monitor one.0 one.1) (enumerate_from 0 plan.notes) in
    let c = flat_map (λ (one : ℕ × CondKind). kind_claims monitor one.0 one.1) (enumerate_from 1 plan.kinds) in
    let d = flat_map (λ (one : ℕ × List Note). untested_claims monitor one.0 one.1) (enumerate_from 0 plan.notes) in
    passing test (IsTold monitor plan) (backed_claims monitor plan)
    (All-append P a (b ++ (c ++ d)) (keeps_told test monitor plan of own.inductive)
    (All-append P b (c ++ d) (unnoted_told test monitor plan of own.noted)
    (All-append P c d told (untested_told test monitor plan untested))))

common_told : (monitor : MonitorParts) (plan : Plan) → IsPlanOf monitor plan → IsCommonLawful monitor plan
    → All (IsTold monitor plan) (common_claims monitor plan)
common_told monitor plan of own = told_by_kinds is_common monitor plan of own (λ block condition. refl)
    (numbered_all (IsToldIf is_common monitor plan) (λ (one : ℕ × CondKind). kind_claims monitor one.0 one.1) 1 plan.kinds (λ k kind is. by_kind kind k))
  where
    by_kind : (kind : CondKind) (k : ℕ) → All (IsToldIf is_common monitor plan) (kind_claims monitor (1 + k) kind)
    by_kind kinds.Signal k =
        All-map (IsToldIf is_common monitor plan) (claims.One (1 + k)) (filter (waits_at monitor (1 + k)) (block_numbers monitor))
        (λ place other within asked. absurd (true≢false (sym asked)))
    by_kind kinds.Broadcast k = All-nil (IsToldIf is_common monitor plan)

enough_of : (monitor : MonitorParts) (plan : Plan) (condition block : ℕ) → IsPassedOn monitor plan condition
    → has_note (notes_at plan block) condition ≡ false → (found : Option Block) → slice_get monitor.blocks block ≡ found
    → IsSomeAnd found (λ held. held.condition ≡ condition) → OneEnough monitor plan.kept condition block
enough_of monitor plan condition block passed none None is waits = absurd waits
enough_of monitor plan condition block passed none (Some held) is waits = elim (passed block held is waits) [
  | inl enough ↦ enough
  | inr has ↦ absurd (true≢false (sym has ∙ none))
]

passing_told : (monitor : MonitorParts) (plan : Plan) (condition : ℕ) → IsMonitor monitor → IsPlanOf monitor plan → IsCommonLawful monitor plan
    → IsLawfulAtSight monitor plan → IsPassedOn monitor plan condition → All (IsTold monitor plan) (passing_claims monitor plan condition)
passing_told monitor plan condition rule of own sight passed = told_by_kinds (is_passing plan condition) monitor plan of own (λ block other. refl)
    (numbered_all (IsToldIf (is_passing plan condition) monitor plan) (λ (one : ℕ × CondKind). kind_claims monitor one.0 one.1) 1 plan.kinds (λ k kind is. by_kind kind k is))
  where
    P : Claim → Type 0
    P = IsToldIf (is_passing plan condition) monitor plan

    by_kind : (kind : CondKind) (k : ℕ) → slice_get plan.kinds k ≡ Some kind → All P (kind_claims monitor (1 + k) kind)
    by_kind kinds.Signal k is =
        let test : ℕ → Bool = waits_at monitor (1 + k) in
        All-map P (claims.One (1 + k)) (filter test (block_numbers monitor))
        (passing test (λ block. P (claims.One (1 + k) block)) (block_numbers monitor)
        (range_all (λ block. test block ≡ true → P (claims.One (1 + k) block)) 0 (length monitor.blocks) (λ block first last passes asked.
        let waits = waits_of_test (slice_get monitor.blocks block) (1 + k) passes in
        let both = and_parts (1 + k == condition) (not (has_note (notes_at plan block) condition)) asked in
        let same : 1 + k ≡ condition = eqb-true (1 + k) condition both.0 in (
          (signal_reads_none monitor plan k rule of.kinds sight is, waits),
          subst (λ (one : ℕ). OneEnough monitor plan.kept one block) (sym same)
              (enough_of monitor plan condition block passed (not-true (has_note (notes_at plan block) condition) both.1) (slice_get monitor.blocks block) refl
              (subst (λ (one : ℕ). IsSomeAnd (slice_get monitor.blocks block) (λ held. held.condition ≡ one)) same waits)),
        ))))
    by_kind kinds.Broadcast k is = All-nil P

-- ---- questions

abbrev IsAnswered : MonitorParts → Plan → Question → Type 0
IsAnswered monitor plan question = MayAskQuestion monitor question × IsSo monitor plan.kept question

questions_told : (monitor : MonitorParts) (plan : Plan) (condition row : ℕ) → ReadsNone monitor condition → HasRowAt monitor condition row
    → AreToldRight monitor plan condition row → All (IsAnswered monitor plan) (counting_questions monitor plan condition row)
questions_told monitor plan condition row reads has told = each_block P monitor plan condition row (λ block within.
    let may : MayBeAsked monitor condition row block = record { is_block = within; reads_none = reads; has_row = has } in
    each_question P monitor plan condition row block
    (λ cast noted. (may, (noted_so block cast noted (told block within)).gives))
    (λ cast noted other. (may, (noted_so block cast noted (told block within)).first other))
    (λ cast none. (may, (unnoted_so block cast none (told block within)).counts)))
  where
    P : Question → Type 0
    P = IsAnswered monitor plan

    noted_so : (block : ℕ) → has_broadcast (notes_at plan block) condition ≡ false → has_note (notes_at plan block) condition ≡ true
        → IsToldRight monitor plan condition row block → CountsWithOne monitor plan condition row block
    noted_so block cast noted (inl all) = absurd (true≢false (sym all ∙ cast))
    noted_so block cast noted (inr (inl none)) = absurd (true≢false (sym noted ∙ none.none))
    noted_so block cast noted (inr (inr one)) = one

    unnoted_so : (block : ℕ) → has_broadcast (notes_at plan block) condition ≡ false → has_note (notes_at plan block) condition ≡ false
        → IsToldRight monitor plan condition row block → CountsWithNone monitor plan condition row block
    unnoted_so block cast none (inl all) = absurd (true≢false (sym all ∙ cast))
    unnoted_so block cast none (inr (inl unnoted)) = unnoted
    unnoted_so block cast none (inr (inr one)) = absurd (true≢false (sym one.one ∙ none))

-- ---- what is found of a lawful plan

-- a condition that is passed on is not found to be uncounted
passed_found : (monitor : MonitorParts) (plan : Plan) (condition : ℕ) (claim : Claim) → IsMonitor monitor → IsPlanOf monitor plan → IsCommonLawful monitor plan → IsLawfulAtSight monitor plan
    → HasNoOpenClaim monitor plan.kept → IsPassedOn monitor plan condition → IsNotPassedOn monitor plan condition claim → ⊥
passed_found monitor plan condition claim rule of own sight none passed is =
    let told = all_at (IsTold monitor plan) (passing_claims monitor plan condition) is.place claim is.here (passing_told monitor plan condition rule of own sight passed) in
    none claim told.0 (is.unproved told.1)

-- a condition that is counted by a row that is tried is not
counted_found : (monitor : MonitorParts) (plan : Plan) (question : Question) → IsMonitor monitor → IsPlanOf monitor plan
    → HasNoOpenQuestion monitor plan.kept → (is : IsFirstUncounted monitor plan question) → IsCountedByTried monitor plan is.condition → ⊥
counted_found monitor plan question rule of none is counted =
    let reads = signal_reads monitor plan is.condition rule of is.sight is.there is.kind in
    let found = is.uncounted counted.row counted.tried in
    let told = all_at (IsAnswered monitor plan) (counting_questions monitor plan is.condition counted.row) found.1.place found.0 found.1.here
    (questions_told monitor plan is.condition counted.row reads counted.tried.has counted.told) in
    none found.0 told.0 (found.1.unproved told.1)

found_of_common : (monitor : MonitorParts) (plan : Plan) (finding : Finding) → IsPlanOf monitor plan → HasNoOpenClaim monitor plan.kept
    → IsCommonLawful monitor plan
    → ((number : ℕ) (condition : Condition) → IsCondition monitor number condition → reads_inputs condition.guard ≡ true → WakesAll plan number)
    → ((condition : ℕ) → condition_kind plan condition ≡ Some kinds.Broadcast → EachNoteOn plan condition (λ note. note.all ≡ true))
    → ((question : Question) → IsFirstUncounted monitor plan question → ⊥)
    → IsCountedFinding monitor plan finding → finding ≡ findings.Lawful
found_of_common monitor plan findings.Lawful of none own reading broadcasts counted is = refl
found_of_common monitor plan (findings.Start kept) of none own reading broadcasts counted is =
    absurd (false_nowhere monitor plan.kept kept own.inductive.starts is.here)
found_of_common monitor plan (findings.Kind condition) of none own reading broadcasts counted is =
    absurd (is.here (record { reading = λ which there reads. reading condition which there reads; broadcasts = broadcasts condition }))
found_of_common monitor plan (findings.Unproved claim) of none own reading broadcasts counted is =
    let told = all_at (IsTold monitor plan) (common_claims monitor plan) is.place claim is.here (common_told monitor plan of own) in
    absurd (none claim told.0 (is.unproved told.1))
found_of_common monitor plan (findings.Uncounted question) of none own reading broadcasts counted is = absurd (counted question is)

pub found_by_rows : (monitor : MonitorParts) (plan : Plan) (finding : Finding) → IsMonitor monitor → IsPlanOf monitor plan → HasNoOpenClaim monitor plan.kept
    → HasNoOpenQuestion monitor plan.kept → IsLawfulByRows monitor plan → IsCountedFinding monitor plan finding → finding ≡ findings.Lawful
found_by_rows monitor plan finding rule of none no_question lawful =
    let own : IsCommonLawful monitor plan = record { inductive = lawful.inductive; noted = lawful.noted } in
    found_of_common monitor plan finding of none own lawful.reading lawful.broadcasts (λ question is.
    let which = at_place monitor.conditions (is.condition - 1) (omega (arith, is.there.0, is.there.1)) in
    let at : IsCondition monitor is.condition which.0 = record { numbered = is.there.0; there = which.1 } in
    elim (lawful.signals is.condition which.0 at is.kind) [
      | inl passed ↦ passed_found monitor plan is.condition is.claim rule of own is.sight none passed is.other_way
      | inr counted ↦ counted_found monitor plan question rule of no_question is counted
    ])

-- each block of a condition of kind signal of a lawful plan passes on
passes_on : (monitor : MonitorParts) (plan : Plan) (condition : ℕ) → IsLawful monitor plan → 1 ≤ condition → condition_kind plan condition ≡ Some kinds.Signal → IsPassedOn monitor plan condition
passes_on monitor plan condition lawful first kind block held there waits = elim (lawful.signals block held there (omega (arith, waits, first)) (ap (condition_kind plan) waits ∙ kind)) [
  | inl enough ↦ inl (subst (λ (one : ℕ). OneEnough monitor plan.kept one block) waits enough)
  | inr has ↦ inr (ap (has_note (notes_at plan block)) (sym waits) ∙ has)
]

pub counted_found_of_lawful : (monitor : MonitorParts) (plan : Plan) (finding : Finding) → IsMonitor monitor → IsPlanOf monitor plan → HasNoOpenClaim monitor plan.kept
    → IsLawful monitor plan → IsCountedFinding monitor plan finding → finding ≡ findings.Lawful
counted_found_of_lawful monitor plan finding rule of none lawful =
    let own : IsCommonLawful monitor plan = record { inductive = lawful.inductive; noted = lawful.noted } in
    found_of_common monitor plan finding of none own lawful.reading lawful.broadcasts (λ question is.
    passed_found monitor plan is.condition is.claim rule of own is.sight none (passes_on monitor plan is.condition lawful is.there.0 is.kind) is.other_way)
