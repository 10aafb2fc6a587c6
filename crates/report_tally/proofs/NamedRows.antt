-- The row that the line of a question names. Bytes: 40 is `(`, 41 `)`.
use Rattle.std.proofs.Common.{◌≡◌, ◌==◌, ◌⊎◌, ℕ, zero, suc, ◌+◌, ◌-◌, ◌^◌, ◌<◌, ◌≤◌, Bool, true, false, cond, List, [], ◌∷◌, ◌++◌, map, Option, Some, None, codes, decimal, inl, inr, refl, sym, ap, ap₂, subst, ◌∙◌, append_assoc, eqb-true, arith}
use Rattle.std.specs.Prelude.{slice_get, nat_le}
use Rattle.std.specs.List.{flat_map, list_all}
use Rattle.std.specs.Option.{option_map_or}
use Rattle.std.proofs.lemmas.Bool.{and_parts, cases_Bool, cases_eq, true≢false}
use Rattle.std.proofs.lemmas.List.{append_cancel_left, map-append}
use Rattle.lang_base.specs.Identifiers.{is_digit, is_word_byte}
use Rattle.lang_base.proofs.Cuts.{cut}
use Rattle.lang_base.proofs.Numerals.{decimal_digits, same_number}
use Rattle.lang_monitor.specs.declared.monitor.Block.{Block}
use Rattle.lang_monitor.specs.declared.monitor.Method.{Method}
use Rattle.lang_monitor.specs.MonitorParts.{MonitorParts, IsMonitor, count_in, first_in}
use Rattle.machine_events.specs.declared.plan.Note.{Note}
use Rattle.machine_events.specs.declared.plan.Plan.{Plan}
use Rattle.machine_events.specs.Plans.{notes_at}
use Rattle.machine_events.specs.PlanText.{block_mark, block_name, method_name, name_in}
use Rattle.plan_claims.specs.Backing.{block_numbers}
use Rattle.plan_place.specs.Relayed.{note_on}
use Rattle.plan_count.specs.declared.question.Question.{Question}
use Rattle.plan_count.specs.declared.question.Question.TheVariants as questions
use Rattle.plan_count.specs.Questions.{HasRowAt}
use Rattle.report_questions.specs.QuestionText.{row_mark}
use Rattle.report_text.proofs.Names.{method_words}
use Rattle.report_tally.specs.CountedReports.{block_questions, given_questions, note_questions}
use Rattle.report_tally.specs.inner.Lines.{IsNamedRow, by_row, head_text}

-- ---- a block's name doesn't begin as the mark of a row does

abbrev is_open : List ℕ → Bool
is_open [] = false
is_open (byte ∷ text) = byte == 40

not_open : (byte : ℕ) → is_word_byte byte ≡ true → (byte == 40) ≡ false
not_open byte word = elim (cases_Bool (byte == 40)) [
  | inl same ↦ absurd (true≢false (sym word ∙ ap is_word_byte (eqb-true byte 40 same)))
  | inr differs ↦ differs
]

word_first : (text more : List ℕ) → list_all is_word_byte text ≡ true → is_open more ≡ false → is_open (text ++ more) ≡ false
word_first [] more words end = end
word_first (byte ∷ text) more words end = not_open byte (and_parts (is_word_byte byte) (list_all is_word_byte text) words).0

mark_first : (count number : ℕ) (more : List ℕ) → is_open more ≡ false → is_open (block_mark count number ++ more) ≡ false
mark_first count number more end = by_count (nat_le count 1)
  where
    by_count : (few : Bool) → is_open (cond few [] (codes "." ++ decimal number) ++ more) ≡ false
    by_count true = end
    by_count false = refl

name_first : (monitor : MonitorParts) (block : ℕ) (more : List ℕ) → IsMonitor monitor → is_open more ≡ false → is_open (block_name monitor block ++ more) ≡ false
name_first monitor block more rule end = by_held (slice_get monitor.blocks block)
  where
    by_held : (held : Option Block) → is_open (option_map_or (λ one. name_in (slice_get monitor.methods one.method) block) held [] ++ more) ≡ false
    by_held None = end
    by_held (Some one) =
        let method : Option Method = slice_get monitor.methods one.method in
        let mark : List ℕ = block_mark (count_in method) (block - first_in method + 1) in
        ap is_open (append_assoc (method_name method) mark more)
        ∙ word_first (method_name method) (mark ++ more) (method_words monitor one.method rule) (mark_first (count_in method) (block - first_in method + 1) more end)

-- ---- marks of rows

regrouped : (a b c d : List ℕ) → ((a ++ b) ++ c) ++ d ≡ a ++ (b ++ (c ++ d))
regrouped a b c d = append_assoc (a ++ b) c d ∙ append_assoc a b (c ++ d)

same_mark : (row other : ℕ) (left right : List ℕ) → row < 10 ^ 64 → other < 10 ^ 64 → is_open left ≡ false → is_open right ≡ false
    → row_mark row ++ left ≡ row_mark other ++ right → row ≡ other
same_mark row other left right short low plain also same = by_first (row == 1) (other == 1) refl refl same
  where
    shown : ℕ → Bool → List ℕ
    shown number first = cond first [] (codes "(row " ++ decimal number ++ codes ") ")

    by_first : (one two : Bool) → (row == 1) ≡ one → (other == 1) ≡ two → shown row one ++ left ≡ shown other two ++ right → row ≡ other
    by_first true true is that both = eqb-true row 1 is ∙ sym (eqb-true other 1 that)
    by_first true false is that both = absurd (true≢false (sym (ap is_open both) ∙ plain))
    by_first false true is that both = absurd (true≢false (ap is_open both ∙ also))
    by_first false false is that both =
        let tails : decimal row ++ (codes ") " ++ left) ≡ decimal other ++ (codes ") " ++ right) =
        append_cancel_left (codes "(row ") (decimal row ++ (codes ") " ++ left)) (decimal other ++ (codes ") " ++ right))
        (sym (regrouped (codes "(row ") (decimal row) (codes ") ") left) ∙ both ∙ regrouped (codes "(row ") (decimal other) (codes ") ") right) in
        same_number row other short low
        (cut is_digit (decimal row) (decimal other) (codes ") " ++ left) (codes ") " ++ right) (decimal_digits row) (decimal_digits other) refl refl tails).0

-- ---- heads of lines

abbrev word_of : Question → List ℕ
word_of (questions.Counts condition row block) = codes "counts "
word_of (questions.Gives condition row block) = codes "gives "
word_of (questions.First condition row block) = codes "first "

abbrev condition_of : Question → ℕ
condition_of (questions.Counts condition row block) = condition
condition_of (questions.Gives condition row block) = condition
condition_of (questions.First condition row block) = condition

abbrev block_of : Question → ℕ
block_of (questions.Counts condition row block) = block
block_of (questions.Gives condition row block) = block
block_of (questions.First condition row block) = block

-- what stands before the mark of a row
abbrev front_text : Question → List ℕ
front_text question = codes "proof " ++ (word_of question ++ decimal (condition_of question) ++ codes " ")

parted : (p a m n e : List ℕ) → (p ++ ((a ++ m) ++ n)) ++ e ≡ (p ++ a) ++ (m ++ (n ++ e))
parted p a m n e =
    append_assoc p ((a ++ m) ++ n) e ∙ ap (λ (text : List ℕ). p ++ text) (append_assoc (a ++ m) n e ∙ append_assoc a m (n ++ e))
    ∙ sym (append_assoc p a (m ++ (n ++ e)))

head_parts : (monitor : MonitorParts) (question : Question) (row : ℕ)
    → head_text monitor (by_row row question) ≡ front_text question ++ (row_mark row ++ (block_name monitor (block_of question) ++ codes ": "))
head_parts monitor (questions.Counts condition other block) row =
    parted (codes "proof ") (codes "counts " ++ decimal condition ++ codes " ") (row_mark row) (block_name monitor block) (codes ": ")
head_parts monitor (questions.Gives condition other block) row =
    parted (codes "proof ") (codes "gives " ++ decimal condition ++ codes " ") (row_mark row) (block_name monitor block) (codes ": ")
head_parts monitor (questions.First condition other block) row =
    parted (codes "proof ") (codes "first " ++ decimal condition ++ codes " ") (row_mark row) (block_name monitor block) (codes ": ")

-- two heads at the front of the same bytes name the same row
pub same_named : (monitor : MonitorParts) (question : Question) (row other : ℕ) (bytes left right : List ℕ) → IsMonitor monitor
    → row < 2 ^ 32 → other < 2 ^ 32
    → head_text monitor (by_row row question) ++ left ≡ bytes → head_text monitor (by_row other question) ++ right ≡ bytes → row ≡ other
same_named monitor question row other bytes left right rule short low here there =
    same_mark row other (name ++ (codes ": " ++ left)) (name ++ (codes ": " ++ right)) (omega (arith, short)) (omega (arith, low))
    (name_first monitor (block_of question) (codes ": " ++ left) rule refl) (name_first monitor (block_of question) (codes ": " ++ right) rule refl)
    (append_cancel_left (front_text question) (row_mark row ++ (name ++ (codes ": " ++ left))) (row_mark other ++ (name ++ (codes ": " ++ right)))
    (sym (apart row left) ∙ here ∙ sym there ∙ apart other right))
  where
    name : List ℕ
    name = block_name monitor (block_of question)

    apart : (number : ℕ) (more : List ℕ) → head_text monitor (by_row number question) ++ more ≡ front_text question ++ (row_mark number ++ (name ++ (codes ": " ++ more)))
    apart number more =
        ap (λ (text : List ℕ). text ++ more) (head_parts monitor question number)
        ∙ append_assoc (front_text question) (row_mark number ++ (name ++ codes ": ")) more
        ∙ ap (λ (text : List ℕ). front_text question ++ text) (append_assoc (row_mark number) (name ++ codes ": ") more
        ∙ ap (λ (text : List ℕ). row_mark number ++ text) (append_assoc name (codes ": ") more))

-- ---- the questions by another row

given_by : (condition row block : ℕ) (all : Bool) → given_questions condition row block all ≡ map (by_row row) (given_questions condition 1 block all)
given_by condition row block true = refl
given_by condition row block false = refl

note_by : (condition row block : ℕ) (note : Option Note) → note_questions condition row block note ≡ map (by_row row) (note_questions condition 1 block note)
note_by condition row block None = refl
note_by condition row block (Some note) = given_by condition row block note.all

pub blocks_by : (monitor : MonitorParts) (plan : Plan) (condition row : ℕ)
    → block_questions monitor plan condition row ≡ map (by_row row) (block_questions monitor plan condition 1)
blocks_by monitor plan condition row = by_blocks (block_numbers monitor)
  where
    each : ℕ → ℕ → List Question
    each number block = note_questions condition number block (note_on (notes_at plan block) condition)

    by_blocks : (blocks : List ℕ) → flat_map (each row) blocks ≡ map (by_row row) (flat_map (each 1) blocks)
    by_blocks [] = refl
    by_blocks (block ∷ blocks) =
        let own = note_by condition row block (note_on (notes_at plan block) condition) in
        ap₂ (λ (a b : List Question). a ++ b) own (by_blocks blocks) ∙ sym (map-append (by_row row) (each 1 block) (flat_map (each 1) blocks))

-- ---- rows that were tried

-- none of the rows up to this number stands there
abbrev pub NoneNamed : MonitorParts → Question → List ℕ → ℕ → Type 0
NoneNamed monitor question bytes end =
    (other : ℕ) (more : List ℕ) → 1 ≤ other → other ≤ end → head_text monitor (by_row other question) ++ more ≡ bytes → ⊥

pub none_start : (monitor : MonitorParts) (question : Question) (bytes : List ℕ) → NoneNamed monitor question bytes 0
none_start monitor question bytes other more first last same = absurd (omega (arith, first, last))

pub none_more : (monitor : MonitorParts) (question : Question) (bytes : List ℕ) (before : ℕ) → ((rest : List ℕ) → head_text monitor (by_row (before + 1) question) ++ rest ≡ bytes → ⊥)
    → NoneNamed monitor question bytes before → NoneNamed monitor question bytes (before + 1)
none_more monitor question bytes before here none other more first last same = elim (cases_eq other (before + 1)) [
  | inl own ↦ here more (subst (λ (row : ℕ). head_text monitor (by_row row question) ++ more ≡ bytes) own same)
  | inr differs ↦ none other more first (omega (arith, last, differs)) same
]

-- a row that the guard has comes before one that it hasn't
order : (left right : ℕ) → (left ≤ right) ⊎ (right < left)
order zero right = inl (omega arith)
order (suc left) zero = inr (omega arith)
order (suc left) (suc right) = elim (order left right) [
  | inl below ↦ inl (omega (arith, below))
  | inr above ↦ inr (omega (arith, above))
]

has_below : (monitor : MonitorParts) (condition row missing : ℕ) → HasRowAt monitor condition row → 1 ≤ missing → (HasRowAt monitor condition missing → ⊥) → row < missing
has_below monitor condition row missing has first none = elim (order missing row) [
  | inl over ↦ absurd (none (record { first = first; last = omega (arith, over, has.last) }))
  | inr under ↦ under
]

-- no row is named of those that there are
pub none_named : (monitor : MonitorParts) (condition : ℕ) (question : Question) (bytes : List ℕ) (before : ℕ) → (HasRowAt monitor condition (before + 1) → ⊥)
    → NoneNamed monitor question bytes before → IsNamedRow monitor condition question bytes None
none_named monitor condition question bytes before missing none other more has typed same =
    none other more has.first (omega (arith, has_below monitor condition other (before + 1) has (omega arith) missing)) same

pub none_typed : (monitor : MonitorParts) (condition : ℕ) (question : Question) (bytes : List ℕ) (end : ℕ) → 2 ^ 32 ≤ end + 1
    → NoneNamed monitor question bytes end → IsNamedRow monitor condition question bytes None
none_typed monitor condition question bytes end last none other more has typed same = none other more has.first (omega (arith, typed, last)) same

-- this row is
pub named_here : (monitor : MonitorParts) (condition row : ℕ) (question : Question) (bytes rest : List ℕ) → IsMonitor monitor → HasRowAt monitor condition row → row < 2 ^ 32
    → head_text monitor (by_row row question) ++ rest ≡ bytes → IsNamedRow monitor condition question bytes (Some row)
named_here monitor condition row question bytes rest rule has typed here =
    (has, typed, λ other more also low same. same_named monitor question other row bytes more rest rule low typed same here)
