-- Questions that are asked of a condition, and what a certificate or none says of one.
use Rattle.std.proofs.Common.{◌≡◌, ℕ, ◌+◌, ◌<◌, ◌≤◌, Bool, true, false, cond, List, [], ◌∷◌, ◌++◌, length, take, get_or, Option, Some, None, refl, sym, ap, subst, ◌∙◌, append-nil, arith}
use Rattle.std.specs.Prelude.{All, slice_get}
use Rattle.std.specs.List.{flat_map, range_with_len}
use Rattle.std.proofs.lemmas.List.Concat.{flat_map-append}
use Rattle.std.proofs.lemmas.List.Elements.{All-nil, All-cons}
use Rattle.std.proofs.lemmas.Option.{slice_get-get_or}
use Rattle.logic_cert.specs.declared.cert.Cert.{Cert}
use Rattle.logic_cert.specs.Refutes.{Refutes}
use Rattle.lang_monitor.specs.declared.candidate.Candidate.{Candidate}
use Rattle.lang_monitor.specs.declared.query.Query.{Query}
use Rattle.lang_monitor.specs.MonitorParts.{MonitorParts}
use Rattle.lang_monitor.specs.Triples.{IsValidQuery}
use Rattle.machine_events.specs.declared.plan.Plan.{Plan}
use Rattle.machine_events.specs.Plans.{has_broadcast, has_note, notes_at}
use Rattle.logic_wp.specs.NegatedQueries.{negated_query}
use Rattle.logic_wp.specs.PlainClaims.{ReadsNone}
use Rattle.plan_prune.specs.Hardness.{MayStayOpen}
use Rattle.plan_prune.specs.Invariants.{IsDecision}
use Rattle.plan_claims.specs.Backing.{block_numbers, waits_at}
use Rattle.plan_claims.proofs.Lists.{range_more}
use Rattle.plan_count.specs.declared.question.Question.{Question}
use Rattle.plan_count.specs.declared.question.Question.TheVariants as questions
use Rattle.plan_count.specs.Questions.{HasRowAt, MayAskQuestion, MayBeAsked, question_query}
use Rattle.report_verdict.proofs.Askable.{flat_all, range_all}
use Rattle.report_verdict.proofs.Pairs.{all_at, all_taken, one_more_at}
use Rattle.report_audit.specs.CountedFindings.{IsCertified, block_questions, counting_questions, note_questions}
use Rattle.report_audit.specs.inner.Counted.{IsFirstUnanswered, IsReply}

-- ---- all questions of a condition

-- what holds of each kind of question holds of all that a block is asked
pub each_question : (P : Question → Type 0) (monitor : MonitorParts) (plan : Plan) (condition row block : ℕ)
    → (has_broadcast (notes_at plan block) condition ≡ false → has_note (notes_at plan block) condition ≡ true → P (questions.Gives condition row block))
    → (has_broadcast (notes_at plan block) condition ≡ false → has_note (notes_at plan block) condition ≡ true
    → waits_at monitor condition block ≡ false → P (questions.First condition row block))
    → (has_broadcast (notes_at plan block) condition ≡ false → has_note (notes_at plan block) condition ≡ false → P (questions.Counts condition row block))
    → All P (block_questions monitor plan condition row block)
each_question P monitor plan condition row block gives before counts = by_cast (has_broadcast (notes_at plan block) condition) refl
  where
    by_waits : has_broadcast (notes_at plan block) condition ≡ false → has_note (notes_at plan block) condition ≡ true
        → (waits : Bool) → waits_at monitor condition block ≡ waits → All P (cond waits [] (questions.First condition row block ∷ []))
    by_waits cast has true is = All-nil P
    by_waits cast has false is = All-cons P (questions.First condition row block) [] (before cast has is) (All-nil P)

    by_note : has_broadcast (notes_at plan block) condition ≡ false → (has : Bool) → has_note (notes_at plan block) condition ≡ has
        → All P (cond has (note_questions monitor condition row block) (questions.Counts condition row block ∷ []))
    by_note cast true is =
        All-cons P (questions.Gives condition row block) (cond (waits_at monitor condition block) [] (questions.First condition row block ∷ [])) (gives cast is)
        (by_waits cast is (waits_at monitor condition block) refl)
    by_note cast false is = All-cons P (questions.Counts condition row block) [] (counts cast is) (All-nil P)

    by_cast : (cast : Bool) → has_broadcast (notes_at plan block) condition ≡ cast
        → All P (cond cast [] (cond (has_note (notes_at plan block) condition) (note_questions monitor condition row block) (questions.Counts condition row block ∷ [])))
    by_cast true is = All-nil P
    by_cast false is = by_note is (has_note (notes_at plan block) condition) refl

pub each_block : (P : Question → Type 0) (monitor : MonitorParts) (plan : Plan) (condition row : ℕ)
    → ((block : ℕ) → block < length monitor.blocks → All P (block_questions monitor plan condition row block))
    → All P (counting_questions monitor plan condition row)
each_block P monitor plan condition row each =
    let Q : ℕ → Type 0 = λ block. All P (block_questions monitor plan condition row block) in
    flat_all P (block_questions monitor plan condition row) (block_numbers monitor) (λ k block is.
    all_at Q (block_numbers monitor) k block is (range_all Q 0 (length monitor.blocks) (λ block low high. each block (omega arith))))

pub questions_askable : (monitor : MonitorParts) (plan : Plan) (condition row : ℕ) → ReadsNone monitor condition → HasRowAt monitor condition row
    → All (MayAskQuestion monitor) (counting_questions monitor plan condition row)
questions_askable monitor plan condition row reads has = each_block (MayAskQuestion monitor) monitor plan condition row (λ block within.
    let may : MayBeAsked monitor condition row block = record { is_block = within; reads_none = reads; has_row = has } in
    each_question (MayAskQuestion monitor) monitor plan condition row block (λ cast noted. may) (λ cast noted other. may) (λ cast none. may))

-- one more block
pub ranged_more : {Y : Type 0} (f : ℕ → List Y) (index : ℕ) (before after : List Y) → before ≡ flat_map f (range_with_len 0 index)
    → after ≡ before ++ f index → after ≡ flat_map f (range_with_len 0 (index + 1))
ranged_more {Y} f index before after had made =
    made ∙ ap (λ (some : List Y). some ++ f index) had
    ∙ ap (λ (one : List Y). flat_map f (range_with_len 0 index) ++ one) (sym (append-nil (f index)))
    ∙ sym (flat_map-append f (range_with_len 0 index) (index ∷ []))
    ∙ ap (flat_map f) (sym (range_more 0 index index (omega arith)))

-- ---- one question

pub reply_of : (monitor : MonitorParts) (kept : List Candidate) (question : Question) (query : Query) (found : Option Cert) → query ≡ question_query monitor kept question
    → IsDecision monitor query found → (result : Bool) → ((cert : Cert) → found ≡ Some cert → result ≡ true) → (found ≡ None → result ≡ false)
    → IsReply monitor kept question result
reply_of monitor kept question query None made decided result some none =
    subst (IsReply monitor kept question) (sym (none refl)) (subst (λ (one : Query). IsValidQuery monitor one → MayStayOpen monitor one) made decided)
reply_of monitor kept question query (Some cert) made decided result some none =
    subst (IsReply monitor kept question) (sym (some cert refl)) (cert, subst (λ (one : Query). Refutes (negated_query monitor one) cert) made decided)

-- ---- the first without a certificate

there : (asked : List Question) (place : ℕ) (question d : Question) → place < length asked → question ≡ get_or asked place d → slice_get asked place ≡ Some question
there asked place question d low is = slice_get-get_or asked place d low ∙ ap {B = Option Question} (λ (one : Question). Some one) (sym is)

pub unanswered_here : (monitor : MonitorParts) (kept : List Candidate) (asked : List Question) (place : ℕ) (question d : Question) (result : Bool) → place < length asked
    → question ≡ get_or asked place d → IsReply monitor kept question result → result ≡ false → All (IsCertified monitor kept) (take place asked)
    → IsFirstUnanswered monitor kept asked (Some question)
unanswered_here monitor kept asked place question d result low is told fails before = record {
  place = place;
  here = there asked place question d low is;
  before = before;
  unproved = subst (IsReply monitor kept question) fails told;
}

pub certified_more : (monitor : MonitorParts) (kept : List Candidate) (asked : List Question) (place : ℕ) (question d : Question) (result : Bool) → place < length asked
    → question ≡ get_or asked place d → IsReply monitor kept question result → result ≡ true → All (IsCertified monitor kept) (take place asked)
    → All (IsCertified monitor kept) (take (place + 1) asked)
certified_more monitor kept asked place question d result low is told passes before =
    one_more_at (IsCertified monitor kept) asked place question (there asked place question d low is) before (subst (IsReply monitor kept question) passes told)

pub all_certified : (monitor : MonitorParts) (kept : List Candidate) (asked : List Question) (place : ℕ) → length asked ≤ place
    → All (IsCertified monitor kept) (take place asked) → All (IsCertified monitor kept) asked
all_certified monitor kept asked place end before = all_taken (IsCertified monitor kept) asked place end before
