-- The lines of the questions on conditions, read one condition after the other.
use Rattle.std.proofs.Common.{◌≡◌, ℕ, ◌+◌, ◌-◌, ◌<◌, ◌≤◌, Bool, true, false, not, List, [], ◌∷◌, ◌++◌, map, length, drop, get_or, Option, Some, None, Result, Ok, Err, codes, refl, sym, ap, subst, ◌∙◌, append_assoc, append-nil, arith}
use Rattle.std.specs.Prelude.{IfOk, IsSomeAnd, MatchOption, is_some, slice_get}
use Rattle.std.specs.declared.alloc.AllocError.{AllocError}
use Rattle.std.specs.Option.{option_map_or}
use Rattle.std.proofs.lemmas.Bool.{true≢false, not-true}
use Rattle.std.proofs.lemmas.List.{map-append, length-map, get_or-map, drop_more, drop_all}
use Rattle.std.proofs.lemmas.List.Concat.{flat_map-append}
use Rattle.std.proofs.lemmas.List.Elements.{All-nil}
use Rattle.std.proofs.lemmas.Option.{none-some, same_Some, slice_get-get_or}
use Rattle.logic_cert.specs.declared.cert.Cert.{Cert}
use Rattle.logic_cert.specs.CertText.{cert_text}
use Rattle.lang_monitor.specs.declared.monitor.Condition.{Condition}
use Rattle.lang_monitor.specs.MonitorParts.{MonitorParts}
use Rattle.machine_events.specs.declared.plan.CondKind.TheVariants as kinds
use Rattle.machine_events.specs.declared.plan.Plan.{Plan}
use Rattle.logic_wp.specs.PlainClaims.{ReadsNone}
use Rattle.plan_claims.specs.Backing.{reads_none}
use Rattle.plan_count.specs.declared.question.Question.{Question}
use Rattle.plan_count.specs.Questions.{HasRowAt}
use Rattle.report_proofs.specs.Fronts.{Anything, AreFor, IsFront, IsNoFront}
use Rattle.report_proofs.specs.Readings.{IsReadable}
use Rattle.report_proofs.proofs.ReportParts.{cert_line}
use Rattle.report_tally.specs.CountedReports.{answer_text, answers_text, block_questions}
use Rattle.report_tally.specs.inner.Lines.{Answers, AreAllAnswers, AreAnswers, AreRead, AreSignals, IsConditionFront, IsNamedRow, IsNoConditionFront, IsNoRestFront, IsRestFront, IsShownRow, all_text, answer_certs, answer_rows, answers_with, by_row, condition_text, head_text}
use Rattle.report_tally.proofs.NamedRows.{blocks_by}

-- ---- the line of a question

pub answer_line : (monitor : MonitorParts) (question : Question) (cert : Cert) → answer_text monitor question cert ≡ head_text monitor question ++ cert_line cert
answer_line monitor question cert = append_assoc (head_text monitor question) (cert_text cert) (codes "\n")

-- ---- the row by which a condition is counted

pub reads_from : (monitor : MonitorParts) (condition : ℕ) → 1 ≤ condition → reads_none monitor condition ≡ true → ReadsNone monitor condition
reads_from monitor condition first is = (first, by_found (slice_get monitor.conditions (condition - 1)) is)
  where
    by_found : (found : Option Condition) → option_map_or (λ held. not held.reads_inputs) found false ≡ true → IsSomeAnd found (λ held. held.reads_inputs ≡ false)
    by_found None is = true≢false (sym is)
    by_found (Some held) is = not-true held.reads_inputs is

reads_to : (monitor : MonitorParts) (condition : ℕ) → ReadsNone monitor condition → reads_none monitor condition ≡ true
reads_to monitor condition reads = by_found (slice_get monitor.conditions (condition - 1)) reads.1
  where
    by_found : (found : Option Condition) → IsSomeAnd found (λ held. held.reads_inputs ≡ false) → option_map_or (λ held. not held.reads_inputs) found false ≡ true
    by_found None none = absurd none
    by_found (Some held) none = ap not none

-- a condition that reads inputs isn't counted
pub none_reading : (monitor : MonitorParts) (plan : Plan) (condition : ℕ) (bytes : List ℕ) → reads_none monitor condition ≡ false → IsShownRow monitor plan condition bytes None
none_reading monitor plan condition bytes reads other certs more is are same = true≢false (sym (reads_to monitor condition is.may.reads_none) ∙ reads)

-- where nothing is asked the row is the first
pub unnamed_none : (monitor : MonitorParts) (plan : Plan) (condition : ℕ) (bytes : List ℕ) → block_questions monitor plan condition 1 ≡ []
    → (HasRowAt monitor condition 1 → ⊥) → IsShownRow monitor plan condition bytes None
unnamed_none monitor plan condition bytes nothing none other certs more is are same =
    none (subst (HasRowAt monitor condition) (is.may.named (nothing_by other)) is.may.has)
  where
    nothing_by : (row : ℕ) → block_questions monitor plan condition row ≡ []
    nothing_by row = blocks_by monitor plan condition row ∙ ap (map (by_row row)) nothing

pub unnamed_some : (monitor : MonitorParts) (plan : Plan) (condition row : ℕ) (bytes : List ℕ) → slice_get plan.kinds (condition - 1) ≡ Some kinds.Signal
    → ReadsNone monitor condition → block_questions monitor plan condition 1 ≡ []
    → HasRowAt monitor condition 1 → row ≡ 1 → IsShownRow monitor plan condition bytes (Some row)
unnamed_some monitor plan condition row bytes kind reads nothing has is = subst (λ (one : ℕ). IsShownRow monitor plan condition bytes (Some one)) (sym is) (
  record { may = record { kind = kind; reads_none = reads; has = has; named = λ none. refl }; typed = omega arith },
  λ other certs more own are same. own.may.named (blocks_by monitor plan condition other ∙ ap (map (by_row other)) nothing),
)

-- the line of the first question begins what the questions say
first_head : (monitor : MonitorParts) (plan : Plan) (condition row : ℕ) (question : Question) (later : List Question) (certs : List Cert) (more bytes : List ℕ)
    → block_questions monitor plan condition 1 ≡ question ∷ later
    → AreFor (block_questions monitor plan condition row) IsReadable certs
    → answers_text monitor (block_questions monitor plan condition row) certs ++ more ≡ bytes
    → (end : List ℕ) × (head_text monitor (by_row row question) ++ end ≡ bytes)
first_head monitor plan condition row question later certs more bytes asked are same =
    by_certs certs (subst (λ (all : List Question). AreFor all IsReadable certs) own are) (ap (λ (all : List Question). answers_text monitor all certs ++ more) (sym own) ∙ same)
  where
    own : block_questions monitor plan condition row ≡ by_row row question ∷ map (by_row row) later
    own = blocks_by monitor plan condition row ∙ ap (map (by_row row)) asked

    rest : List Question
    rest = map (by_row row) later

    by_certs : (certs : List Cert) → AreFor (by_row row question ∷ rest) IsReadable certs → answers_text monitor (by_row row question ∷ rest) certs ++ more ≡ bytes
        → (end : List ℕ) × (head_text monitor (by_row row question) ++ end ≡ bytes)
    by_certs [] are same = absurd (omega (arith, are.count))
    by_certs (cert ∷ certs) are same =
        let text : List ℕ = answer_text monitor (by_row row question) cert in
        let tail : List ℕ = answers_text monitor rest certs in
        let line : List ℕ = cert_line cert in (
          line ++ (tail ++ more),
          sym (append_assoc (head_text monitor (by_row row question)) line (tail ++ more))
              ∙ ap (λ (front : List ℕ). front ++ (tail ++ more)) (sym (answer_line monitor (by_row row question) cert))
              ∙ sym (append_assoc text tail more) ∙ same,
        )

-- the row that this line names
pub shown_named : (monitor : MonitorParts) (plan : Plan) (condition : ℕ) (question : Question) (later : List Question) (bytes : List ℕ) (found : Option ℕ)
    → slice_get plan.kinds (condition - 1) ≡ Some kinds.Signal → ReadsNone monitor condition
    → block_questions monitor plan condition 1 ≡ question ∷ later → IsNamedRow monitor condition question bytes found → IsShownRow monitor plan condition bytes found
shown_named monitor plan condition question later bytes None kind reads asked none = λ other certs more is are same.
    let head = first_head monitor plan condition other question later certs more bytes asked are same in
    none other head.0 is.may.has is.typed head.1
shown_named monitor plan condition question later bytes (Some row) kind reads asked named = (
  record {
    may = record {
      kind = kind;
      reads_none = reads;
      has = named.0;
      named = λ nothing. absurd (some_asked (sym (blocks_by monitor plan condition row ∙ ap (map (by_row row)) asked) ∙ nothing));
    };
    typed = named.1;
  },
  λ other certs more is are same.
      let head = first_head monitor plan condition other question later certs more bytes asked are same in
      named.2 other head.0 is.may.has is.typed head.1,
)
  where
    some_asked : by_row row question ∷ map (by_row row) later ≡ [] → ⊥
    some_asked same = omega (arith, ap {B = ℕ} length same)

-- ---- the question that is asked first, if any is

nothing_first : (asked : List Question) → slice_get asked 0 ≡ None → asked ≡ []
nothing_first [] none = refl
nothing_first (question ∷ asked) none = absurd (none-some question (sym none))

first_there : (asked : List Question) (question : Question) → slice_get asked 0 ≡ Some question → (later : List Question) × (asked ≡ question ∷ later)
first_there [] question there = absurd (none-some question there)
first_there (one ∷ asked) question there = (asked, ap (λ (first : Question). first ∷ asked) (same_Some one question there))

pub unnamed_shown : (monitor : MonitorParts) (plan : Plan) (condition : ℕ) (bytes : List ℕ) (asked : List Question) (found : Option ℕ) → slice_get plan.kinds (condition - 1) ≡ Some kinds.Signal
    → ReadsNone monitor condition → asked ≡ block_questions monitor plan condition 1 → slice_get asked 0 ≡ None
    → MatchOption found (HasRowAt monitor condition 1 → ⊥) (λ row. HasRowAt monitor condition 1 × (row ≡ 1)) → IsShownRow monitor plan condition bytes found
unnamed_shown monitor plan condition bytes asked None kind reads are none row =
    unnamed_none monitor plan condition bytes (sym are ∙ nothing_first asked none) row
unnamed_shown monitor plan condition bytes asked (Some found) kind reads are none row =
    unnamed_some monitor plan condition found bytes kind reads (sym are ∙ nothing_first asked none) row.0 row.1

pub named_shown : (monitor : MonitorParts) (plan : Plan) (condition : ℕ) (bytes : List ℕ) (asked : List Question) (question : Question) (result : Result (Option ℕ) AllocError)
    → slice_get plan.kinds (condition - 1) ≡ Some kinds.Signal → ReadsNone monitor condition → asked ≡ block_questions monitor plan condition 1
    → slice_get asked 0 ≡ Some question → IfOk result (IsNamedRow monitor condition question bytes) → IfOk result (IsShownRow monitor plan condition bytes)
named_shown monitor plan condition bytes asked question (Err fault) kind reads are there named = tt
named_shown monitor plan condition bytes asked question (Ok found) kind reads are there named =
    let first = first_there asked question there in
    shown_named monitor plan condition question first.0 bytes found kind reads (sym are ∙ first.1) named

-- ---- the lines of one condition

pub uncounted_front : (monitor : MonitorParts) (plan : Plan) (condition : ℕ) (bytes : List ℕ) → IsConditionFront monitor plan condition false bytes (answers_with None []) bytes
uncounted_front monitor plan condition bytes = record {
  holds = record { row = tt; certs = record { count = refl; each = All-nil IsReadable } };
  begins = refl;
  only = λ other more is ends same. by_shown other.row other.certs more is same;
}
  where
    by_shown : (row : Option ℕ) (certs : List Cert) (more : List ℕ) → AreAnswers monitor plan condition false (answers_with row certs)
        → condition_text monitor plan condition (answers_with row certs) ++ more ≡ bytes → (answers_with row certs ≡ answers_with None []) × (more ≡ bytes)
    by_shown None [] more is same = (refl, same)
    by_shown None (cert ∷ certs) more is same = absurd (omega (arith, is.certs.count))
    by_shown (Some row) certs more is same = absurd is.row

-- no row is shown
pub none_shown : (monitor : MonitorParts) (plan : Plan) (condition : ℕ) (bytes : List ℕ) → IsShownRow monitor plan condition bytes None
    → IsNoConditionFront monitor plan condition true bytes
none_shown monitor plan condition bytes none other more is ends same = by_shown other.row other.certs is same
  where
    by_shown : (row : Option ℕ) (certs : List Cert) → AreAnswers monitor plan condition true (answers_with row certs)
        → condition_text monitor plan condition (answers_with row certs) ++ more ≡ bytes → ⊥
    by_shown None certs is same = is.row
    by_shown (Some row) certs is same = none row certs more is.row is.certs same

-- no certificates stand there
pub none_answered : (monitor : MonitorParts) (plan : Plan) (condition row : ℕ) (asked : List Question) (bytes : List ℕ) → IsShownRow monitor plan condition bytes (Some row)
    → asked ≡ block_questions monitor plan condition row
    → IsNoFront (List Cert) (AreFor asked IsReadable) Anything (answers_text monitor asked) bytes → IsNoConditionFront monitor plan condition true bytes
none_answered monitor plan condition row asked bytes shown are none other more is ends same = by_shown other.row other.certs is same
  where
    by_shown : (one : Option ℕ) (certs : List Cert) → AreAnswers monitor plan condition true (answers_with one certs)
        → condition_text monitor plan condition (answers_with one certs) ++ more ≡ bytes → ⊥
    by_shown None certs is same = is.row
    by_shown (Some one) certs is same =
        let own : block_questions monitor plan condition one ≡ asked = ap (block_questions monitor plan condition) (shown.1 one certs more is.row is.certs same) ∙ sym are in
        none certs more (subst (λ (all : List Question). AreFor all IsReadable certs) own is.certs) tt
        (ap (λ (all : List Question). answers_text monitor all certs ++ more) (sym own) ∙ same)

pub counted_front : (monitor : MonitorParts) (plan : Plan) (condition row : ℕ) (asked : List Question) (bytes : List ℕ) (certs : List Cert) (rest : List ℕ)
    → IsShownRow monitor plan condition bytes (Some row) → asked ≡ block_questions monitor plan condition row
    → IsFront (List Cert) (AreFor asked IsReadable) Anything (answers_text monitor asked) bytes certs rest
    → IsConditionFront monitor plan condition true bytes (answers_with (Some row) certs) rest
counted_front monitor plan condition row asked bytes certs rest shown are front = record {
  holds = record { row = shown.0; certs = subst (λ (all : List Question). AreFor all IsReadable certs) are front.holds };
  begins = ap (λ (all : List Question). answers_text monitor all certs ++ rest) (sym are) ∙ front.begins;
  only = λ other more is ends same. by_shown other.row other.certs more is same;
}
  where
    by_shown : (one : Option ℕ) (others : List Cert) (more : List ℕ) → AreAnswers monitor plan condition true (answers_with one others)
        → condition_text monitor plan condition (answers_with one others) ++ more ≡ bytes → (answers_with one others ≡ answers_with (Some row) certs) × (more ≡ rest)
    by_shown None others more is same = absurd is.row
    by_shown (Some one) others more is same =
        let row_is : one ≡ row = shown.1 one others more is.row is.certs same in
        let own : block_questions monitor plan condition one ≡ asked = ap (block_questions monitor plan condition) row_is ∙ sym are in
        let found = front.only others more (subst (λ (all : List Question). AreFor all IsReadable others) own is.certs) tt
        (ap (λ (all : List Question). answers_text monitor all others ++ more) (sym own) ∙ same) in
        ((λ i. answers_with (Some (row_is i)) (found.0 i)), found.1)

-- ---- one condition, and then the others

pub last_front : (monitor : MonitorParts) (plan : Plan) (number : ℕ) (bytes : List ℕ) → IsRestFront monitor plan number [] bytes [] bytes
last_front monitor plan number bytes = record { holds = tt; begins = refl; only = λ others more are ends same. by_others others more are same }
  where
    by_others : (others : List Answers) (more : List ℕ) → AreAllAnswers monitor plan number [] others → all_text monitor plan number others ++ more ≡ bytes
        → (others ≡ []) × (more ≡ bytes)
    by_others [] more are same = (refl, same)
    by_others (other ∷ others) more are same = absurd are

next_front : (monitor : MonitorParts) (plan : Plan) (number : ℕ) (mark : Bool) (marks : List Bool) (bytes : List ℕ) (one : Answers) (next : List ℕ) (later : List Answers) (end : List ℕ)
    → IsConditionFront monitor plan number mark bytes one next → IsRestFront monitor plan (number + 1) marks next later end
    → IsRestFront monitor plan number (mark ∷ marks) bytes (one ∷ later) end
next_front monitor plan number mark marks bytes one next later end here front = record {
  holds = (here.holds, front.holds);
  begins = append_assoc (condition_text monitor plan number one) (all_text monitor plan (number + 1) later) end
      ∙ ap (λ (text : List ℕ). condition_text monitor plan number one ++ text) front.begins ∙ here.begins;
  only = λ others more are ends same. by_others others more are same;
}
  where
    by_others : (others : List Answers) (more : List ℕ) → AreAllAnswers monitor plan number (mark ∷ marks) others → all_text monitor plan number others ++ more ≡ bytes
        → (others ≡ one ∷ later) × (more ≡ end)
    by_others [] more are same = absurd are
    by_others (other ∷ others) more are same =
        let text : List ℕ = all_text monitor plan (number + 1) others in
        let first = here.only other (text ++ more) are.0 tt (sym (append_assoc (condition_text monitor plan number other) text more) ∙ same) in
        let rest = front.only others more are.1 tt first.1 in
        ((λ i. first.0 i ∷ rest.0 i), rest.1)

none_here : (monitor : MonitorParts) (plan : Plan) (number : ℕ) (mark : Bool) (marks : List Bool) (bytes : List ℕ)
    → IsNoConditionFront monitor plan number mark bytes → IsNoRestFront monitor plan number (mark ∷ marks) bytes
none_here monitor plan number mark marks bytes none others more are ends same = by_others others are same
  where
    by_others : (others : List Answers) → AreAllAnswers monitor plan number (mark ∷ marks) others → all_text monitor plan number others ++ more ≡ bytes → ⊥
    by_others [] are same = are
    by_others (other ∷ others) are same =
        let text : List ℕ = all_text monitor plan (number + 1) others in
        none other (text ++ more) are.0 tt (sym (append_assoc (condition_text monitor plan number other) text more) ∙ same)

none_later : (monitor : MonitorParts) (plan : Plan) (number : ℕ) (mark : Bool) (marks : List Bool) (bytes : List ℕ) (one : Answers) (next : List ℕ)
    → IsConditionFront monitor plan number mark bytes one next → IsNoRestFront monitor plan (number + 1) marks next
    → IsNoRestFront monitor plan number (mark ∷ marks) bytes
none_later monitor plan number mark marks bytes one next here none others more are ends same = by_others others are same
  where
    by_others : (others : List Answers) → AreAllAnswers monitor plan number (mark ∷ marks) others → all_text monitor plan number others ++ more ≡ bytes → ⊥
    by_others [] are same = are
    by_others (other ∷ others) are same =
        let text : List ℕ = all_text monitor plan (number + 1) others in
        let first = here.only other (text ++ more) are.0 tt (sym (append_assoc (condition_text monitor plan number other) text more) ∙ same) in
        none others more are.1 tt first.1

-- ---- the conditions that were read so far

-- the lines from here on go as those of all conditions do
pub record IsReading (monitor : MonitorParts) (plan : Plan) (marks : List Bool) (bytes : List ℕ) (i : ℕ) (counted : List (Option ℕ)) (certs : List Cert) (rest : List ℕ) : Type 0 where
  pub all : List Answers
  pub rows_are : counted ≡ answer_rows all
  pub certs_are : certs ≡ answer_certs all
  pub goes : (later : List Answers) (end : List ℕ) → IsRestFront monitor plan (i + 1) (drop i marks) rest later end
      → IsRestFront monitor plan 1 marks bytes (all ++ later) end
  pub stops : IsNoRestFront monitor plan (i + 1) (drop i marks) rest → IsNoRestFront monitor plan 1 marks bytes

pub reading_start : (monitor : MonitorParts) (plan : Plan) (marks : List Bool) (bytes : List ℕ) → IsReading monitor plan marks bytes 0 [] [] bytes
reading_start monitor plan marks bytes = record {
  all = [];
  rows_are = refl;
  certs_are = refl;
  goes = λ later end front. front;
  stops = λ none. none;
}

marks_from : (marked : List (Option ℕ)) (i : ℕ) (row d : Option ℕ) → i < length marked → row ≡ get_or marked i d
    → drop i (map is_some marked) ≡ is_some row ∷ drop (i + 1) (map is_some marked)
marks_from marked i row d low is =
    drop_more (map is_some marked) i (is_some d) (omega (arith, low, length-map marked is_some))
    ∙ ap (λ (mark : Bool). mark ∷ drop (i + 1) (map is_some marked)) (get_or-map is_some marked i d (is_some d) low ∙ ap is_some (sym is))

pub reading_more : (monitor : MonitorParts) (plan : Plan) (marked : List (Option ℕ)) (bytes : List ℕ) (i : ℕ) (counted now : List (Option ℕ)) (certs answers : List Cert) (rest next : List ℕ)
    (mark d row : Option ℕ) (more : List Cert) → i < length marked → mark ≡ get_or marked i d → now ≡ counted ++ row ∷ [] → answers ≡ certs ++ more
    → IsConditionFront monitor plan (i + 1) (is_some mark) rest (answers_with row more) next
    → IsReading monitor plan (map is_some marked) bytes i counted certs rest → IsReading monitor plan (map is_some marked) bytes (i + 1) now answers next
reading_more monitor plan marked bytes i counted now certs answers rest next mark d row more low is pushed joined here reading = record {
  all = reading.all ++ one ∷ [];
  rows_are = pushed ∙ ap (λ (rows : List (Option ℕ)). rows ++ row ∷ []) reading.rows_are ∙ sym (map-append (λ (answers : Answers). answers.row) reading.all (one ∷ []));
  certs_are = joined ∙ ap (λ (before : List Cert). before ++ more) reading.certs_are
      ∙ ap (λ (after : List Cert). answer_certs reading.all ++ after) (sym (append-nil more))
      ∙ sym (flat_map-append (λ (answers : Answers). answers.certs) reading.all (one ∷ []));
  goes = λ later end front.
      subst (λ (all : List Answers). IsRestFront monitor plan 1 (map is_some marked) bytes all end) (sym (append_assoc reading.all (one ∷ []) later))
      (reading.goes (one ∷ later) end
      (subst (λ (marks : List Bool). IsRestFront monitor plan (i + 1) marks rest (one ∷ later) end) (sym marks)
      (next_front monitor plan (i + 1) (is_some mark) (drop (i + 1) (map is_some marked)) rest one next later end here front)));
  stops = λ none.
      reading.stops (subst (λ (marks : List Bool). IsNoRestFront monitor plan (i + 1) marks rest) (sym marks)
      (none_later monitor plan (i + 1) (is_some mark) (drop (i + 1) (map is_some marked)) rest one next here none));
}
  where
    one : Answers
    one = answers_with row more

    marks : drop i (map is_some marked) ≡ is_some mark ∷ drop (i + 1) (map is_some marked)
    marks = marks_from marked i mark d low is

pub reading_none : (monitor : MonitorParts) (plan : Plan) (marked : List (Option ℕ)) (bytes : List ℕ) (i : ℕ) (counted : List (Option ℕ)) (certs : List Cert) (rest : List ℕ)
    (mark d : Option ℕ) → i < length marked → mark ≡ get_or marked i d → IsNoConditionFront monitor plan (i + 1) (is_some mark) rest
    → IsReading monitor plan (map is_some marked) bytes i counted certs rest → IsNoRestFront monitor plan 1 (map is_some marked) bytes
reading_none monitor plan marked bytes i counted certs rest mark d low is none reading =
    reading.stops (subst (λ (marks : List Bool). IsNoRestFront monitor plan (i + 1) marks rest) (sym (marks_from marked i mark d low is))
    (none_here monitor plan (i + 1) (is_some mark) (drop (i + 1) (map is_some marked)) rest none))

pub reading_end : (monitor : MonitorParts) (plan : Plan) (marked : List (Option ℕ)) (bytes : List ℕ) (i : ℕ) (counted : List (Option ℕ)) (certs : List Cert) (rest : List ℕ)
    → length marked ≤ i → IsReading monitor plan (map is_some marked) bytes i counted certs rest → AreRead monitor plan (map is_some marked) bytes counted certs rest
reading_end monitor plan marked bytes i counted certs rest end reading = record {
  all = reading.all;
  rows_are = reading.rows_are;
  certs_are = reading.certs_are;
  front =
      let over : drop i (map is_some marked) ≡ [] = drop_all i (map is_some marked) (omega (arith, end, length-map marked is_some)) in
      subst (λ (all : List Answers). IsRestFront monitor plan 1 (map is_some marked) bytes all rest) (append-nil reading.all)
      (reading.goes [] rest (subst (λ (marks : List Bool). IsRestFront monitor plan (i + 1) marks rest [] rest) (sym over) (last_front monitor plan (i + 1) rest)));
}

-- a condition that is marked is of kind signal
pub marked_signal : (plan : Plan) (marked : List (Option ℕ)) (i : ℕ) (row d : Option ℕ) → AreSignals plan marked → i < length marked → row ≡ get_or marked i d
    → is_some row ≡ true → slice_get plan.kinds (i + 1 - 1) ≡ Some kinds.Signal
marked_signal plan marked i row d are low is counts =
    let here : i + 1 - 1 ≡ i = omega arith in
    ap (slice_get plan.kinds) here ∙ are.signals i row (slice_get-get_or marked i d low ∙ ap {B = Option (Option ℕ)} (λ (one : Option ℕ). Some one) (sym is)) counts
