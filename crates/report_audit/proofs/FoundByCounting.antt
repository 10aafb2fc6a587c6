-- A plan with which nothing is wrong at sight, whose common claims have certificates, and each of
-- whose conditions of kind signal is passed on or counted by certificates, is lawful by counting.
use Rattle.std.proofs.Common.{◌≡◌, ◌==◌, ◌⊎◌, inl, inr, ℕ, ◌-◌, ◌<◌, ◌≤◌, Bool, true, false, not, cond, List, [], ◌∷◌, length, Option, Some, None, refl, sym, subst, arith}
use Rattle.std.specs.Prelude.{All, IfOk, IsSomeAnd, Result}
use Rattle.std.specs.declared.alloc.AllocError.{AllocError}
use Rattle.std.proofs.lemmas.Bool.{and_from, cases_Bool, eq-eqb, not_from_false}
use Rattle.std.proofs.lemmas.List.Elements.{All-head, All-tail}
use Rattle.std.proofs.lemmas.Option.{slice_get_within}
use Rattle.lang_monitor.specs.declared.candidate.Candidate.{Candidate}
use Rattle.lang_monitor.specs.declared.claim.Claim.{Claim}
use Rattle.lang_monitor.specs.declared.claim.Claim.TheVariants as claims
use Rattle.lang_monitor.specs.declared.monitor.Block.{Block}
use Rattle.lang_monitor.specs.declared.monitor.Condition.{Condition}
use Rattle.lang_monitor.specs.Inputs.{reads_inputs}
use Rattle.lang_monitor.specs.MonitorParts.{MonitorParts, IsMonitor}
use Rattle.machine_events.specs.declared.plan.CondKind.{CondKind}
use Rattle.machine_events.specs.declared.plan.CondKind.TheVariants as kinds
use Rattle.machine_events.specs.declared.plan.Plan.{Plan}
use Rattle.machine_events.specs.Plans.{IsCondition, condition_kind, has_broadcast}
use Rattle.machine_events.specs.Plans.{has_note, notes_at}
use Rattle.machine_events.specs.Counts.{IsPassedOn}
use Rattle.machine_events.specs.CountClaims.{GuardsCount, IsLawfulByGuards}
use Rattle.logic_wp.specs.NegatedQueries.{negated_query}
use Rattle.plan_claims.specs.Backing.{HasCertificate, backed_claims, block_numbers, waits_at}
use Rattle.plan_claims.proofs.Backed.{Laws, held, of_signal}
use Rattle.plan_claims.proofs.Lists.{all_filtered, all_flat, in_range}
use Rattle.plan_count.specs.declared.question.Question.{Question}
use Rattle.plan_count.specs.declared.question.Question.TheVariants as questions
use Rattle.plan_count.specs.Questions.{AnswersCount, AreToldRight, IsSo, IsToldRight, question_query}
use Rattle.report_verdict.specs.Reports.{IsPlanOf}
use Rattle.report_verdict.specs.Verdicts.{IsLawfulAtSight}
use Rattle.report_audit.specs.declared.finding.Finding.{Finding}
use Rattle.report_audit.specs.declared.finding.Finding.TheVariants as findings
use Rattle.report_audit.specs.Findings.{IsFirstFalse, IsFirstUnsuited}
use Rattle.report_audit.specs.CountedFindings.{IsCertified, IsCountedByTried, IsFindingBy, IsFirstCommon, IsFirstUncounted, IsLawfulByRows, IsProvedByCounting, IsSignalProved}
use Rattle.report_audit.specs.CountedFindings.{block_questions, common_claims, counting_questions, is_common, is_passing, note_questions, passing_claims}
use Rattle.report_audit.specs.inner.Asked.{IsFirstOpen}
use Rattle.report_audit.specs.inner.Counted.{IsFirstFound}
use Rattle.report_audit.proofs.Found.{common_lawful}

-- ---- certificates of questions

so : Laws → (monitor : MonitorParts) (kept : List Candidate) (question : Question) → IsMonitor monitor
    → (question_query monitor kept question).block < length monitor.blocks → IsCertified monitor kept question → IsSo monitor kept question
so laws monitor kept question rule within cert =
    laws.refuted_is_valid monitor (question_query monitor kept question) rule within
    (λ v. laws.refuted_is_false (negated_query monitor (question_query monitor kept question)) cert.0 v cert.1)

-- each block is told right whose questions have certificates
told_right : Laws → (monitor : MonitorParts) (plan : Plan) (condition row block : ℕ) → IsMonitor monitor → block < length monitor.blocks
    → All (IsCertified monitor plan.kept) (block_questions monitor plan condition row block) → IsToldRight monitor plan condition row block
told_right laws monitor plan condition row block rule within = by_cast (has_broadcast (notes_at plan block) condition) refl
  where
    P : Question → Type 0
    P = IsCertified monitor plan.kept

    rest : List Question
    rest = cond (waits_at monitor condition block) [] (questions.First condition row block ∷ [])

    by_note : (has : Bool) → has_note (notes_at plan block) condition ≡ has
        → All P (cond has (note_questions monitor condition row block) (questions.Counts condition row block ∷ [])) → IsToldRight monitor plan condition row block
    by_note true is all = inr (inr (record {
      one = is;
      gives = so laws monitor plan.kept (questions.Gives condition row block) rule within (All-head P (questions.Gives condition row block) rest all);
      first = λ other. so laws monitor plan.kept (questions.First condition row block) rule within
          (All-head P (questions.First condition row block) []
          (subst (λ (waits : Bool). All P (cond waits [] (questions.First condition row block ∷ []))) other (All-tail P (questions.Gives condition row block) rest all)));
    }))
    by_note false is all = inr (inl (record {
      none = is;
      counts = so laws monitor plan.kept (questions.Counts condition row block) rule within (All-head P (questions.Counts condition row block) [] all);
    }))

    by_cast : (cast : Bool) → has_broadcast (notes_at plan block) condition ≡ cast
        → All P (cond cast [] (cond (has_note (notes_at plan block) condition) (note_questions monitor condition row block) (questions.Counts condition row block ∷ [])))
        → IsToldRight monitor plan condition row block
    by_cast true is all = inl is
    by_cast false is all = by_note (has_note (notes_at plan block) condition) refl all

-- ---- one condition of kind signal

two_kinds : (o : Option CondKind) → o ≡ Some kinds.Broadcast → o ≡ Some kinds.Signal → ⊥
two_kinds o is also = cc

reads_none_at : (monitor : MonitorParts) (plan : Plan) (number : ℕ) (which : Condition) → IsLawfulAtSight monitor plan → IsCondition monitor number which
    → condition_kind plan number ≡ Some kinds.Signal → reads_inputs which.guard ≡ false
reads_none_at monitor plan number which sight is kind = elim (cases_Bool (reads_inputs which.guard)) [
  | inl reads ↦ absurd (two_kinds (condition_kind plan number) (sight.reading number which is reads).kind kind)
  | inr none ↦ none
]

passed_on : Laws → (monitor : MonitorParts) (plan : Plan) (number : ℕ) → IsMonitor monitor → 1 ≤ number → condition_kind plan number ≡ Some kinds.Signal
    → All (HasCertificate monitor plan.kept) (passing_claims monitor plan number) → IsPassedOn monitor plan number
passed_on laws monitor plan number rule first kind certified block held_block there waits =
    elim (cases_Bool (has_note (notes_at plan block) number)) [
      | inl has ↦ inr has
      | inr none ↦
          let P : Claim → Type 0 = λ claim. is_passing plan number claim ≡ true → HasCertificate monitor plan.kept claim in
          let all : All P (backed_claims monitor plan) =
          all_filtered (is_passing plan number) (HasCertificate monitor plan.kept) (backed_claims monitor plan) certified in
          let low = slice_get_within monitor.blocks block held_block there in
          let at = subst (λ (o : Option Block). IsSomeAnd o (λ held. held.condition ≡ number)) (sym there) waits in
          inl (held laws monitor plan.kept (claims.One number block) rule low
          (of_signal P monitor plan block number all kind first at low
          (and_from (number == number) (not (has_note (notes_at plan block) number)) (eq-eqb number number refl) (not_from_false (has_note (notes_at plan block) number) none))))
    ]

told_on : Laws → (monitor : MonitorParts) (plan : Plan) (number row : ℕ) → IsMonitor monitor
    → All (IsCertified monitor plan.kept) (counting_questions monitor plan number row) → AreToldRight monitor plan number row
told_on laws monitor plan number row rule all block within =
    let P : ℕ → Type 0 = λ by. All (IsCertified monitor plan.kept) (block_questions monitor plan number row by) in
    told_right laws monitor plan number row block rule within
    (in_range P 0 (length monitor.blocks) block (omega arith) (omega (arith, within))
    (all_flat (IsCertified monitor plan.kept) (block_questions monitor plan number row) (block_numbers monitor) all))

-- ---- the plan

lawful_by_rows : Laws → (monitor : MonitorParts) (plan : Plan) → IsMonitor monitor → IsPlanOf monitor plan → IsLawfulAtSight monitor plan
    → All (HasCertificate monitor plan.kept) (common_claims monitor plan) → IsFirstFound monitor plan None → IsLawfulByRows monitor plan
lawful_by_rows laws monitor plan rule of sight common signals =
    let own = common_lawful laws monitor plan rule of sight (all_filtered is_common (HasCertificate monitor plan.kept) (backed_claims monitor plan) common) in
    record {
      inductive = own.inductive;
      noted = own.noted;
      reading = sight.reading;
      broadcasts = sight.broadcasts;
      signals = λ number which is kind.
          let low = slice_get_within monitor.conditions (number - 1) which is.there in
          by_proof number which is kind (signals number (is.numbered, omega (arith, low, is.numbered)) kind);
    }
  where
    by_proof : (number : ℕ) (which : Condition) → IsCondition monitor number which → condition_kind plan number ≡ Some kinds.Signal → IsSignalProved monitor plan number
        → IsPassedOn monitor plan number ⊎ IsCountedByTried monitor plan number
    by_proof number which is kind (inl passing) = inl (passed_on laws monitor plan number rule is.numbered kind passing)
    by_proof number which is kind (inr counted) =
        inr (record { row = counted.row; tried = counted.tried; told = told_on laws monitor plan number counted.row rule counted.certified })

lawful_by_guards : AnswersCount → (monitor : MonitorParts) (plan : Plan) → IsMonitor monitor → IsLawfulAtSight monitor plan → IsLawfulByRows monitor plan → IsLawfulByGuards monitor plan
lawful_by_guards answers monitor plan rule sight lawful = record {
  inductive = lawful.inductive;
  noted = lawful.noted;
  reading = lawful.reading;
  broadcasts = lawful.broadcasts;
  signals = λ number which is kind. elim (lawful.signals number which is kind) [
    | inl passed ↦ inl passed
    | inr counted ↦ inr (answers monitor plan number counted.row which rule is (reads_none_at monitor plan number which sight is kind) counted.tried.has counted.told)
  ];
}

pub proved_by_counting : Laws → AnswersCount → GuardsCount → (monitor : MonitorParts) (plan : Plan) → IsMonitor monitor → IsPlanOf monitor plan → IsLawfulAtSight monitor plan
    → All (HasCertificate monitor plan.kept) (common_claims monitor plan) → IsFirstFound monitor plan None → IsProvedByCounting monitor plan
proved_by_counting laws answers guards monitor plan rule of sight common signals =
    let lawful = lawful_by_rows laws monitor plan rule of sight common signals in
    record { lawful = lawful; counting = guards monitor plan (lawful_by_guards answers monitor plan rule sight lawful); common = common; signals = signals }

-- ---- what was found of claims is found of the plan

pub first_common_of : (monitor : MonitorParts) (plan : Plan) (kept : List Candidate) (wanted : List Claim) (claim : Claim) → kept ≡ plan.kept
    → wanted ≡ common_claims monitor plan → IsLawfulAtSight monitor plan → IsFirstOpen monitor kept wanted (Some claim) → IsFirstCommon monitor plan claim
first_common_of monitor plan kept wanted claim is are sight first =
    let own = subst (λ (one : List Candidate). IsFirstOpen monitor one (common_claims monitor plan) (Some claim)) is
    (subst (λ (all : List Claim). IsFirstOpen monitor kept all (Some claim)) are first) in record {
      sight = sight;
      place = own.place;
      here = own.here;
      before = own.before;
      unproved = own.unproved;
    }

-- the common claims have certificates
pub common_proved : (monitor : MonitorParts) (plan : Plan) (kept : List Candidate) (wanted : List Claim) (found : Option Claim) → kept ≡ plan.kept
    → wanted ≡ common_claims monitor plan → found ≡ None → IsFirstOpen monitor kept wanted found → All (HasCertificate monitor plan.kept) (common_claims monitor plan)
common_proved monitor plan kept wanted found is are none first =
    subst (λ (one : List Candidate). All (HasCertificate monitor one) (common_claims monitor plan)) is
    (subst (All (HasCertificate monitor kept)) are (subst (IsFirstOpen monitor kept wanted) none first))

pub first_uncounted_of : (monitor : MonitorParts) (plan : Plan) (question : Question) → IsLawfulAtSight monitor plan
    → All (HasCertificate monitor plan.kept) (common_claims monitor plan) → IsFirstFound monitor plan (Some question) → IsFirstUncounted monitor plan question
first_uncounted_of monitor plan question sight common own = record {
  sight = sight;
  common = common;
  condition = own.condition;
  there = own.there;
  kind = own.here.kind;
  earlier = own.earlier;
  claim = own.here.claim;
  other_way = own.here.other_way;
  uncounted = own.here.uncounted;
  named = own.here.named;
}

-- ---- whether signals may be counted or not

pub start_found : (count : Bool) (monitor : MonitorParts) (plan : Plan) (place : ℕ) → IsFirstFalse monitor plan place → IsFindingBy count monitor plan (findings.Start place)
start_found false monitor plan place is = is
start_found true monitor plan place is = is

pub kind_found : (count : Bool) (monitor : MonitorParts) (plan : Plan) (condition : ℕ) → IsFirstUnsuited monitor plan condition → IsFindingBy count monitor plan (findings.Kind condition)
kind_found false monitor plan condition is = is
kind_found true monitor plan condition is = is

pub found_by : (count same : Bool) (monitor : MonitorParts) (plan : Plan) (result : Result Finding AllocError) → count ≡ same
    → IfOk result (IsFindingBy same monitor plan) → IfOk result (IsFindingBy count monitor plan)
found_by count same monitor plan result is found = subst (λ (one : Bool). IfOk result (IsFindingBy one monitor plan)) (sym is) found
