-- What the answers make of a column, and of the table.
use Rattle.std.proofs.Common.{◌≡◌, ◌==◌, inl, inr, ℕ, ◌-◌, ◌<◌, ◌≤◌, Bool, true, false, not, ◌&&◌, List, [], ◌∷◌, length, get_or, Option, Some, None, refl, sym, ap, subst, ◌∙◌}
use Rattle.std.specs.Prelude.{slice_get, IsSomeAnd, unwrap_or, IfOk, IfSome, Result, Ok, Err}
use Rattle.std.specs.declared.alloc.AllocError.{AllocError}
use Rattle.std.proofs.lemmas.Option.{none-some, slice_get-get_or}
use Rattle.std.specs.List.{enumerate_from, list_all}
use Rattle.std.specs.Option.{option_map_or}
use Rattle.std.proofs.lemmas.Bool.{true≢false, and_parts, and_from, eqb-true, not-true}
use Rattle.std.proofs.lemmas.List.Elements.{All-weaker}
use Rattle.logic_cert.specs.declared.cert.Cert.{Cert}
use Rattle.logic_cert.specs.Refutes.{Refutes}
use Rattle.lang_monitor.specs.declared.candidate.Candidate.{Candidate}
use Rattle.lang_monitor.specs.declared.monitor.Block.{Block}
use Rattle.lang_monitor.specs.declared.monitor.Condition.{Condition}
use Rattle.lang_monitor.specs.declared.query.Query.{Query}
use Rattle.lang_monitor.specs.Candidates.{AreSomeOf}
use Rattle.lang_monitor.specs.MonitorParts.{MonitorParts}
use Rattle.lang_monitor.specs.Triples.{IsValidQuery}
use Rattle.machine_events.specs.declared.plan.CondKind.{CondKind}
use Rattle.machine_events.specs.declared.plan.CondKind.TheVariants as kinds
use Rattle.machine_events.specs.declared.plan.Note.{Note}
use Rattle.machine_events.specs.declared.plan.Plan.{Plan}
use Rattle.machine_events.specs.Plans.{condition_kind, has_note, notes_at}
use Rattle.logic_wp.specs.NegatedQueries.{negated_query}
use Rattle.logic_wp.specs.PlainClaims.{ReadsNone, WaitsAt}
use Rattle.plan_prune.specs.Hardness.{MayStayOpen}
use Rattle.plan_prune.specs.Invariants.{IsDecision}
use Rattle.plan_claims.specs.Backing.{reads_none, waits_at}
use Rattle.plan_place.specs.Relayed.{is_broadcast}
use Rattle.plan_count.specs.declared.question.Question.{Question}
use Rattle.plan_count.specs.Questions.{question_query}
use Rattle.plan_counted.specs.declared.counted.Column.{Column}
use Rattle.plan_counted.specs.declared.counted.Told.{Told}
use Rattle.plan_counted.specs.declared.counted.Told.TheVariants as telling
use Rattle.plan_counted.specs.Counted.{AreBacked, IsBacked, IsColumnBacked}
use Rattle.plan_counted.specs.inner.Answers.{AreColumns, IsAnswerTo, IsChained, IsColumn, IsOneAnswer, IsRowAnswer, IsToldAt, IsToldOf, NeedsNote}
use Rattle.plan_counted.proofs.Table.{has_if}

-- ---- answers

pub answer_is : (monitor : MonitorParts) (kept : List Candidate) (question : Question) (query : Query) (found : Option Cert)
    → query ≡ question_query monitor kept question → IsDecision monitor query found
    → ((cert : Cert) → found ≡ Some cert → IsValidQuery monitor query) → IsAnswerTo monitor kept question found
answer_is monitor kept question query None made decided valid =
    subst (λ (one : Query). IsValidQuery monitor one → MayStayOpen monitor one) made decided
answer_is monitor kept question query (Some cert) made decided valid = record {
  certified = subst (λ (one : Query). Refutes (negated_query monitor one) cert) made decided;
  so = subst (IsValidQuery monitor) made (valid cert refl);
}

pub answered : (monitor : MonitorParts) (kept : List Candidate) (question : Question) (query : Query) (answer : Result (Option Cert) AllocError)
    → query ≡ question_query monitor kept question → IfOk answer (IsDecision monitor query)
    → IfOk answer (λ it. IfSome it (λ cert. IsValidQuery monitor query)) → IfOk answer (IsAnswerTo monitor kept question)
answered monitor kept question query (Ok None) made decided valid = answer_is monitor kept question query None made decided (λ cert is. absurd (none-some cert is))
answered monitor kept question query (Ok (Some cert)) made decided valid = answer_is monitor kept question query (Some cert) made decided (λ one is. valid)
answered monitor kept question query (Err error) made decided valid = tt

-- ---- candidates

pub some_pass : (test : Candidate → Bool) (kept all : List Candidate) → AreSomeOf kept all → list_all test all ≡ true → list_all test kept ≡ true
some_pass test [] all are pass = refl
some_pass test (one ∷ kept) [] are pass = absurd are
some_pass test (one ∷ kept) (first ∷ all) (inl both) pass =
    let parts = and_parts (test first) (list_all test all) pass in
    and_from (test one) (list_all test kept) (ap test both.0 ∙ parts.0) (some_pass test kept all both.1 parts.1)
some_pass test (one ∷ kept) (first ∷ all) (inr are) pass =
    some_pass test (one ∷ kept) all are (and_parts (test first) (list_all test all) pass).1

-- ---- conditions and blocks

pub reads_from : (monitor : MonitorParts) (condition : ℕ) → 1 ≤ condition → reads_none monitor condition ≡ true → ReadsNone monitor condition
reads_from monitor condition first is = (first, by_found (slice_get monitor.conditions (condition - 1)) is)
  where
    by_found : (found : Option Condition) → option_map_or (λ held. not held.reads_inputs) found false ≡ true → IsSomeAnd found (λ held. held.reads_inputs ≡ false)
    by_found None is = absurd (true≢false (sym is))
    by_found (Some held) is = not-true held.reads_inputs is

pub waits_from : (monitor : MonitorParts) (condition block : ℕ) → waits_at monitor condition block ≡ true → WaitsAt monitor block condition
waits_from monitor condition block = by_found (slice_get monitor.blocks block)
  where
    by_found : (found : Option Block) → option_map_or (λ held. held.condition == condition) found false ≡ true → IsSomeAnd found (λ held. held.condition ≡ condition)
    by_found None is = absurd (true≢false (sym is))
    by_found (Some held) is = eqb-true held.condition condition is

pub broadcast_from : (found : Option CondKind) → is_broadcast found ≡ true → found ≡ Some kinds.Broadcast
broadcast_from None is = absurd (true≢false (sym is))
broadcast_from (Some kinds.Signal) is = absurd (true≢false (sym is))
broadcast_from (Some kinds.Broadcast) is = refl

pub notes_of : (plan : Plan) (block : ℕ) (notes : List Note) → slice_get plan.notes block ≡ Some notes → notes_at plan block ≡ notes
notes_of plan block notes is = ap (λ (found : Option (List Note)). unwrap_or found []) is

-- ---- columns

-- a block that needs a note of its own bars the row
pub chained : (monitor : MonitorParts) (plan : Plan) (condition row block : ℕ) (is_noted : Bool) → is_noted ≡ has_note (notes_at plan block) condition
    → IsChained monitor plan.kept condition row block is_noted → IsRowAnswer monitor plan condition row None
chained monitor plan condition row block is_noted same chain = λ may.
    let waits = waits_from monitor condition block chain.waits in record {
      block = block;
      waits = waits;
      may = chain.needed (same ∙ has_if (notes_at plan block) condition None (may.unnoted block waits)) (may.counts block waits);
    }

-- a condition that reads inputs, or is not of kind broadcast, is left
pub left : (monitor : MonitorParts) (plan : Plan) (condition : ℕ) → (reads_none monitor condition && is_broadcast (condition_kind plan condition)) ≡ false
    → IsColumn monitor plan condition None
left monitor plan condition is = λ kind row tried may. absurd (true≢false (sym (and_from (reads_none monitor condition) (is_broadcast (condition_kind plan condition))
    (reads_to may.reads_none) (ap is_broadcast kind)) ∙ is))
  where
    reads_to : ReadsNone monitor condition → reads_none monitor condition ≡ true
    reads_to reads = by_found (slice_get monitor.conditions (condition - 1)) reads.1
      where
        by_found : (found : Option Condition) → IsSomeAnd found (λ held. held.reads_inputs ≡ false) → option_map_or (λ held. not held.reads_inputs) found false ≡ true
        by_found None some = absurd some
        by_found (Some held) some = ap not some

-- ---- what the answers back

backed_told : (monitor : MonitorParts) (kept : List Candidate) (condition row block : ℕ) (is_noted : Bool) (told : Told)
    → IsToldOf monitor kept condition row block is_noted told → IsBacked monitor kept condition row block told
backed_told monitor kept condition row block is_noted (telling.Nothing counts) is = is.1.certified
backed_told monitor kept condition row block is_noted (telling.Signal gives before) is = (is.one.0.certified, is.one.1.certified)
backed_told monitor kept condition row block is_noted telling.Broadcast is = tt

backed_column : (monitor : MonitorParts) (plan : Plan) (condition : ℕ) (column : Option Column) → IsColumn monitor plan condition column
    → IsColumnBacked monitor plan.kept condition column
backed_column monitor plan condition None is = tt
backed_column monitor plan condition (Some column) is = record {
  reads_none = is.reads_none;
  has_row = is.tried.has;
  many = is.told.many;
  each = All-weaker (IsToldAt monitor plan condition column.row) (λ (one : ℕ × Told). IsBacked monitor plan.kept condition column.row one.0 one.1)
      (λ one known. backed_told monitor plan.kept condition column.row one.0 (has_note (notes_at plan one.0) condition) one.1 known) (enumerate_from 0 column.told) is.told.each;
}

pub backed : (monitor : MonitorParts) (plan : Plan) (columns : List (Option Column)) → AreColumns monitor plan columns → AreBacked monitor plan columns
backed monitor plan columns are = record {
  many = are.many;
  each = All-weaker (λ (one : ℕ × Option Column). IsColumn monitor plan one.0 one.1) (λ (one : ℕ × Option Column). IsColumnBacked monitor plan.kept one.0 one.1)
      (λ one known. backed_column monitor plan one.0 one.1 known) (enumerate_from 1 columns) are.each;
}

-- ---- one block

pub told_of : (monitor : MonitorParts) (kept : List Candidate) (condition row block : ℕ) (is_noted : Bool) (told : Told) → waits_at monitor condition block ≡ false
    → NeedsNote monitor kept condition row block is_noted → IsOneAnswer monitor kept condition row block told → IsToldOf monitor kept condition row block is_noted told
told_of monitor kept condition row block is_noted (telling.Nothing counts) other needed one = absurd one
told_of monitor kept condition row block is_noted (telling.Signal gives before) other needed one = record { other = other; needed = needed; one = one }
told_of monitor kept condition row block is_noted telling.Broadcast other needed one = record { other = other; needed = needed; one = one }

pub none_needed_where_noted : (monitor : MonitorParts) (kept : List Candidate) (condition row block : ℕ) (is_noted : Bool) → is_noted ≡ true
    → NeedsNote monitor kept condition row block is_noted
none_needed_where_noted monitor kept condition row block is_noted noted none = absurd (true≢false (sym noted ∙ none))

-- the notes of a block, by its index
pub notes_by_index : (plan : Plan) (lists : List (List Note)) (index : ℕ) (d found : List Note) → lists ≡ plan.notes → index < length lists
    → found ≡ get_or lists index d → notes_at plan index ≡ found
notes_by_index plan lists index d found same low is =
    ap (λ (held : Option (List Note)). unwrap_or held []) (ap (λ (all : List (List Note)). slice_get all index) (sym same) ∙ slice_get-get_or lists index d low) ∙ sym is
