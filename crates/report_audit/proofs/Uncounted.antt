-- Conditions of kind signal, one after the other: which is neither passed on nor counted.
use Rattle.std.proofs.Common.{◌≡◌, ◌⊎◌, inl, inr, ℕ, zero, suc, ◌+◌, ◌-◌, ◌<◌, ◌≤◌, Bool, true, false, List, Option, Some, None, refl, sym, ap, subst, ◌∙◌, arith}
use Rattle.std.specs.Prelude.{All, IfOk, Result, Ok, Err, slice_get, if◌then◌else◌}
use Rattle.std.specs.declared.alloc.AllocError.{AllocError}
use Rattle.std.specs.List.{list_all}
use Rattle.std.proofs.lemmas.Bool.{cases_eq, true≢false}
use Rattle.lang_monitor.specs.declared.candidate.Candidate.{Candidate}
use Rattle.lang_monitor.specs.declared.claim.Claim.{Claim}
use Rattle.lang_monitor.specs.MonitorParts.{MonitorParts, IsMonitor}
use Rattle.machine_events.specs.declared.plan.CondKind.{CondKind}
use Rattle.machine_events.specs.declared.plan.CondKind.TheVariants as kinds
use Rattle.machine_events.specs.declared.plan.Plan.{Plan}
use Rattle.machine_events.specs.Plans.{condition_kind}
use Rattle.logic_wp.specs.Expressible.{is_expressible}
use Rattle.logic_wp.specs.PlainClaims.{IsConditionNumber, MayAsk, ReadsNone}
use Rattle.plan_claims.specs.Backing.{HasCertificate, backed_claims}
use Rattle.plan_place.specs.Relayed.{is_broadcast}
use Rattle.plan_count.specs.declared.question.Question.{Question}
use Rattle.plan_count.specs.declared.question.Question.TheVariants as questions
use Rattle.plan_count.specs.Questions.{HasRowAt}
use Rattle.plan_counted.specs.Counted.{ROWS_TRIED}
use Rattle.report_verdict.specs.Reports.{IsPlanOf}
use Rattle.report_verdict.specs.Verdicts.{IsLawfulAtSight}
use Rattle.report_verdict.proofs.Askable.{claims_askable}
use Rattle.report_verdict.proofs.Pairs.{at_place}
use Rattle.report_proofs.proofs.SmallReports.{signal_reads_none}
use Rattle.report_audit.specs.CountedFindings.{IsNotCountedBy, IsProvedCounted, IsSignalProved, block_of, counting_questions, is_passing, passing_claims}
use Rattle.report_audit.specs.inner.Asked.{IsFirstOpen}
use Rattle.report_audit.specs.inner.Counted.{AreSignalsProved, IsByOthers, IsByRow, IsByRows, IsFirstUnanswered, IsUncountedAt}
use Rattle.report_audit.proofs.Asked.{passing}

-- ---- a condition of kind signal

pub signal_at : (monitor : MonitorParts) (plan : Plan) (condition : ℕ) (all : List CondKind) (result : Bool) → IsPlanOf monitor plan → IsConditionNumber monitor condition
    → all ≡ plan.kinds → result ≡ is_broadcast (slice_get all (condition - 1)) → result ≡ false → condition_kind plan condition ≡ Some kinds.Signal
signal_at monitor plan condition all result of is are told none =
    let found = at_place plan.kinds (condition - 1) (omega (arith, is.0, is.1, of.kinds)) in
    found.1 ∙ ap {B = Option CondKind} (λ (kind : CondKind). Some kind)
    (by_kind found.0 (ap is_broadcast (sym found.1) ∙ ap (λ (some : List CondKind). is_broadcast (slice_get some (condition - 1))) (sym are) ∙ sym told ∙ none))
  where
    by_kind : (kind : CondKind) → is_broadcast (Some kind) ≡ false → kind ≡ kinds.Signal
    by_kind kinds.Signal is = refl
    by_kind kinds.Broadcast is = absurd (true≢false is)

-- it reads no inputs
pub signal_reads : (monitor : MonitorParts) (plan : Plan) (condition : ℕ) → IsMonitor monitor → IsPlanOf monitor plan → IsLawfulAtSight monitor plan
    → IsConditionNumber monitor condition → condition_kind plan condition ≡ Some kinds.Signal → ReadsNone monitor condition
signal_reads monitor plan condition rule of sight is kind =
    let same : 1 + (condition - 1) ≡ condition = omega (arith, is.0) in
    subst (ReadsNone monitor) same (signal_reads_none monitor plan (condition - 1) rule of.kinds sight kind)

-- ---- by which it is passed on

pub passing_askable : (monitor : MonitorParts) (plan : Plan) (condition : ℕ) → IsPlanOf monitor plan → list_all is_expressible plan.kept ≡ true
    → All (MayAsk monitor) (passing_claims monitor plan condition)
passing_askable monitor plan condition of passes =
    let every : All (MayAsk monitor) (backed_claims monitor plan) = claims_askable monitor plan of passes in
    passing (is_passing plan condition) (MayAsk monitor) (backed_claims monitor plan) (λ place other within asked. every place other within)

pub passed_at : (monitor : MonitorParts) (plan : Plan) (condition : ℕ) (kept : List Candidate) (wanted : List Claim) (found : Option Claim) → kept ≡ plan.kept
    → wanted ≡ passing_claims monitor plan condition → found ≡ None → IsFirstOpen monitor kept wanted found → IsUncountedAt monitor plan condition None
passed_at monitor plan condition kept wanted found is are none first = λ kind.
    inl (subst (λ (one : List Candidate). All (HasCertificate monitor one) (passing_claims monitor plan condition)) is
    (subst (λ (all : List Claim). All (HasCertificate monitor kept) all) are (subst (IsFirstOpen monitor kept wanted) none first)))

-- ---- which question is named of it where it is not

pub uncounted_of : (monitor : MonitorParts) (plan : Plan) (condition : ℕ) (kept : List Candidate) (wanted : List Claim) (found : Option Claim) (claim : Claim)
    (result : Result (Option Question) AllocError) → kept ≡ plan.kept → wanted ≡ passing_claims monitor plan condition
    → condition_kind plan condition ≡ Some kinds.Signal → found ≡ Some claim → IsFirstOpen monitor kept wanted found
    → IfOk result (IsByRows monitor plan condition claim) → IfOk result (IsUncountedAt monitor plan condition)
uncounted_of monitor plan condition kept wanted found claim result is are kind some first by_rows = by_result result by_rows
  where
    own : IsFirstOpen monitor plan.kept (passing_claims monitor plan condition) (Some claim)
    own = subst (λ (one : List Candidate). IsFirstOpen monitor one (passing_claims monitor plan condition) (Some claim)) is
        (subst (λ (all : List Claim). IsFirstOpen monitor kept all (Some claim)) are (subst (IsFirstOpen monitor kept wanted) some first))

    by_result : (outcome : Result (Option Question) AllocError) → IfOk outcome (IsByRows monitor plan condition claim)
        → IfOk outcome (IsUncountedAt monitor plan condition)
    by_result (Ok None) counted = λ signal. inr counted
    by_result (Ok (Some question)) named = record {
      kind = kind;
      claim = claim;
      other_way = record { place = own.place; here = own.here; before = own.before; unproved = own.unproved };
      uncounted = named.0;
      named = named.1;
    }
    by_result (Err error) none = tt

-- ---- rows that are tried

-- what was found of the first question that is unanswered is found by the row
pub by_row : (monitor : MonitorParts) (plan : Plan) (condition row : ℕ) (kept : List Candidate) (asked : List Question) (result : Result (Option Question) AllocError)
    → kept ≡ plan.kept → asked ≡ counting_questions monitor plan condition row
    → IfOk result (IsFirstUnanswered monitor kept asked) → IfOk result (IsByRow monitor plan condition row)
by_row monitor plan condition row kept asked result is are first =
    by_result result (subst (λ (one : List Candidate). IfOk result (IsFirstUnanswered monitor one (counting_questions monitor plan condition row))) is
    (subst (λ (all : List Question). IfOk result (IsFirstUnanswered monitor kept all)) are first))
  where
    by_result : (outcome : Result (Option Question) AllocError) → IfOk outcome (IsFirstUnanswered monitor plan.kept (counting_questions monitor plan condition row))
        → IfOk outcome (IsByRow monitor plan condition row)
    by_result (Ok None) all = all
    by_result (Ok (Some question)) own = record { place = own.place; here = own.here; before = own.before; unproved = own.unproved }
    by_result (Err error) none = tt

-- by none of these rows after the first it is counted
abbrev pub NoneOfRows : MonitorParts → Plan → ℕ → ℕ → Type 0
NoneOfRows monitor plan condition end = (row : ℕ) → 1 < row → row ≤ end → (question : Question) × IsNotCountedBy monitor plan condition row question

pub rows_start : (monitor : MonitorParts) (plan : Plan) (condition : ℕ) → NoneOfRows monitor plan condition 1
rows_start monitor plan condition row after last = absurd (omega (arith, after, last))

pub rows_more : (monitor : MonitorParts) (plan : Plan) (condition before : ℕ) (found : Option Question) (question : Question) → found ≡ Some question
    → IsByRow monitor plan condition (before + 1) found → NoneOfRows monitor plan condition before → NoneOfRows monitor plan condition (before + 1)
rows_more monitor plan condition before found question some first none row after last = elim (cases_eq row (before + 1)) [
  | inl same ↦
      let own : IsNotCountedBy monitor plan condition (before + 1) question = subst (IsByRow monitor plan condition (before + 1)) some first in
      (question, subst (λ (one : ℕ). IsNotCountedBy monitor plan condition one question) (sym same) own)
  | inr differs ↦ none row after (omega (arith, last, differs))
]

-- a row that the guard has comes before one that it hasn't
order : (left right : ℕ) → (left ≤ right) ⊎ (right < left)
order zero right = inl (omega arith)
order (suc left) zero = inr (omega arith)
order (suc left) (suc right) = elim (order left right) [
  | inl below ↦ inl (omega (arith, below))
  | inr above ↦ inr (omega (arith, above))
]

has_below : (monitor : MonitorParts) (condition row missing : ℕ) → HasRowAt monitor condition row → 1 ≤ missing → (HasRowAt monitor condition missing → ⊥) → row < missing
has_below monitor condition row missing has first none = elim (order missing row) [
  | inl over ↦ absurd (none (record { first = first; last = omega (arith, over, has.last) }))
  | inr under ↦ under
]

pub rows_missing : (monitor : MonitorParts) (plan : Plan) (condition before : ℕ) → (HasRowAt monitor condition (before + 1) → ⊥) → NoneOfRows monitor plan condition before
    → IsByOthers monitor plan condition false
rows_missing monitor plan condition before none rows row after tried =
    rows row after (omega (arith, has_below monitor condition row (before + 1) tried.has (omega arith) none))

pub rows_end : (monitor : MonitorParts) (plan : Plan) (condition end : ℕ) → ROWS_TRIED ≤ end → NoneOfRows monitor plan condition end → IsByOthers monitor plan condition false
rows_end monitor plan condition end over rows row after tried = rows row after (omega (arith, tried.limit, over))

-- by this row it is counted
pub counted_by : (monitor : MonitorParts) (plan : Plan) (condition row : ℕ) (found : Option Question) → found ≡ None → HasRowAt monitor condition row → row ≤ ROWS_TRIED
    → IsByRow monitor plan condition row found → IsProvedCounted monitor plan condition
counted_by monitor plan condition row found none has limit first = record {
  row = row;
  tried = record { has = has; limit = limit };
  certified = subst (IsByRow monitor plan condition row) none first;
}

pub counted_first : (monitor : MonitorParts) (plan : Plan) (condition : ℕ) (found : Option Question) → found ≡ None → HasRowAt monitor condition 1
    → IsByRow monitor plan condition 1 found → IsProvedCounted monitor plan condition
counted_first monitor plan condition found none has first = counted_by monitor plan condition 1 found none has (omega arith) first

-- the guard has no row
pub rowless : (monitor : MonitorParts) (plan : Plan) (condition : ℕ) (claim : Claim) (question : Question) → (HasRowAt monitor condition 1 → ⊥)
    → question ≡ questions.Counts condition 1 (block_of claim) → IsByRows monitor plan condition claim (Some question)
rowless monitor plan condition claim question none is = (
  (λ row tried. absurd (none (record { first = omega arith; last = omega (arith, tried.has.first, tried.has.last) }))),
  inr (none, is),
)

-- the first row and the others
pub by_both : (monitor : MonitorParts) (plan : Plan) (condition : ℕ) (claim : Claim) (found : Option Question) (question : Question) (counted : Bool) (result : Option Question)
    → found ≡ Some question → HasRowAt monitor condition 1 → IsByRow monitor plan condition 1 found → IsByOthers monitor plan condition counted
    → result ≡ (if counted then None else Some question) → IsByRows monitor plan condition claim result
by_both monitor plan condition claim found question true result some has first others is = subst (IsByRows monitor plan condition claim) (sym is) others
by_both monitor plan condition claim found question false result some has first others is = subst (IsByRows monitor plan condition claim) (sym is) (
  (λ row tried. elim (cases_eq row 1) [
    | inl same ↦ (question, subst (λ (one : ℕ). IsNotCountedBy monitor plan condition one question) (sym same) own)
    | inr differs ↦ others row (omega (arith, tried.has.first, differs)) tried
  ]),
  inl (has, own),
)
  where
    own : IsNotCountedBy monitor plan condition 1 question
    own = subst (IsByRow monitor plan condition 1) some first

-- ---- one more condition

pub signals_more : (monitor : MonitorParts) (plan : Plan) (index : ℕ) (found : Option Question) → found ≡ None → IsUncountedAt monitor plan (index + 1) found
    → AreSignalsProved monitor plan (index + 1) → AreSignalsProved monitor plan (index + 1 + 1)
signals_more monitor plan index found none here before = λ condition first low kind. elim (cases_eq condition (index + 1)) [
  | inl same ↦ subst (IsSignalProved monitor plan) (sym same)
      (subst (IsUncountedAt monitor plan (index + 1)) none here (ap (condition_kind plan) (sym same) ∙ kind))
  | inr differs ↦ before condition first (less condition index low differs) kind
]
  where
    less : (one bound : ℕ) → one < bound + 1 + 1 → (one ≡ bound + 1 → ⊥) → one < bound + 1
    less one bound low differs = omega arith
