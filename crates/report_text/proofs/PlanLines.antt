-- The lines of a plan: each ends in its only line feed, and names one candidate, one kind, or one
-- list of notes. Bytes: 32 is a blank, 33 `!`, 44 a comma, 62 `>`, 98 `b`, 115 `s`.
use Rattle.std.proofs.Common.{◌≡◌, ◌==◌, ℕ, suc, zero, ◌+◌, ◌-◌, ◌<◌, Bool, true, false, not, List, [], ◌∷◌, ◌++◌, length, map, drop, codes, decimal, ap, sym, refl, subst, ◌∙◌, append_assoc, append-nil, arith, ltb-true}
use Rattle.std.specs.Prelude.{nat_lt, slice_get, Option, Some, None, IsSomeAnd, if◌then◌else◌}
use Rattle.std.specs.Option.{option_map_or}
use Rattle.std.specs.Fmt.{signed_decimal}
use Rattle.std.specs.List.{list_all, flat_map, AllByRecursion as Each}
use Rattle.std.proofs.lemmas.Bool.{and_parts, true≢false, false≢true}
use Rattle.std.proofs.lemmas.List.{append_cancel_left, append_cancel_right}
use Rattle.lang_base.specs.Identifiers.{IsIdentifier, is_letter, is_digit, is_word_byte}
use Rattle.lang_monitor.specs.declared.candidate.Candidate.{Candidate}
use Rattle.lang_monitor.specs.declared.candidate.Candidate.TheVariants as candidates
use Rattle.lang_monitor.specs.declared.monitor.Block.{Block}
use Rattle.lang_monitor.specs.declared.monitor.Condition.{Condition}
use Rattle.lang_monitor.specs.Conditions.{IsDescribed}
use Rattle.lang_monitor.specs.declared.monitor.Method.{Method}
use Rattle.lang_monitor.specs.MonitorParts.{MonitorParts, IsMonitor, first_in, count_in}
use Rattle.machine_events.specs.declared.plan.CondKind.{CondKind}
use Rattle.machine_events.specs.declared.plan.CondKind.TheVariants as kinds
use Rattle.machine_events.specs.declared.plan.Note.{Note}
use Rattle.machine_events.specs.Plans.{FitsNote}
use Rattle.machine_events.specs.PlanText.{field_name, method_name, block_mark, name_in, block_name, flag_mark, candidate_text, kept_text, kind_text, condition_text, note_kind, tested_text, note_text, notes_text, block_text}
use Rattle.machine_events.proofs.CandidatePlaces.{is_low}
use Rattle.lang_base.proofs.Cuts.{same_first, same_rest, stops, cut, all_append, all_weaker}
use Rattle.lang_base.proofs.Numerals.{IsShort, is_figure, decimal_digits, signed_figures, same_number, same_near}
use Rattle.lang_base.proofs.Lines.{HasNoLineFeed, IsLine, words_in_line, decimal_in_line, signed_in_line, both_in_line, joined_in_line}
use Rattle.report_text.proofs.Lines.{block_mark_in_line}
use Rattle.report_text.proofs.Names.{field_is_named, same_field, method_words}
use Rattle.lang_base.proofs.Words.{begins_with_letter, name_words, name_begins}
use Rattle.report_text.proofs.CandidateBounds.{start_at, IsNearStart}

-- ---- a candidate: a mark, the name of its first field, and the rest

-- about fields of the monitor, with bounds that are told apart
pub record IsKnown (monitor : MonitorParts) (candidate : Candidate) : Type 0 where
  pub low : is_low (length monitor.fields) candidate ≡ true
  pub near : IsNearStart (start_at monitor.fields) candidate

abbrev name_at : MonitorParts → ℕ → List ℕ
name_at monitor field = field_name (slice_get monitor.fields field)

-- the first field
abbrev about : Candidate → ℕ
about (candidates.AtMost field bound) = field
about (candidates.AtLeast field bound) = field
about (candidates.Flag field is) = field
about (candidates.Below left right) = left

-- false where a `!` stands before the name
abbrev mark : Candidate → Bool
mark (candidates.AtMost field bound) = true
mark (candidates.AtLeast field bound) = true
mark (candidates.Flag field is) = is
mark (candidates.Below left right) = true

-- what stands after the name
abbrev tail : MonitorParts → Candidate → List ℕ
tail monitor (candidates.AtMost field bound) = codes " <= " ++ signed_decimal bound
tail monitor (candidates.AtLeast field bound) = codes " >= " ++ signed_decimal bound
tail monitor (candidates.Flag field is) = []
tail monitor (candidates.Below left right) = codes " <= " ++ name_at monitor right

flag_parts : (is : Bool) (name : List ℕ) → flag_mark is ++ name ≡ flag_mark is ++ (name ++ [])
flag_parts is name = ap (λ one. flag_mark is ++ one) (sym (append-nil name))

candidate_parts : (monitor : MonitorParts) (candidate : Candidate)
    → candidate_text monitor.fields candidate
    ≡ flag_mark (mark candidate) ++ (name_at monitor (about candidate) ++ tail monitor candidate)
candidate_parts monitor (candidates.AtMost field bound) = append_assoc (name_at monitor field) (codes " <= ") (signed_decimal bound)
candidate_parts monitor (candidates.AtLeast field bound) = append_assoc (name_at monitor field) (codes " >= ") (signed_decimal bound)
candidate_parts monitor (candidates.Flag field is) = flag_parts is (name_at monitor field)
candidate_parts monitor (candidates.Below left right) = append_assoc (name_at monitor left) (codes " <= ") (name_at monitor right)

about_within : (fields : ℕ) (candidate : Candidate) → is_low fields candidate ≡ true
    → about candidate < fields
about_within fields (candidates.AtMost field bound) low = ltb-true field fields low
about_within fields (candidates.AtLeast field bound) low = ltb-true field fields low
about_within fields (candidates.Flag field is) low = ltb-true field fields low
about_within fields (candidates.Below left right) low = ltb-true left fields (and_parts (nat_lt left fields) (nat_lt right fields) low).0

right_within : (fields left right : ℕ) → is_low fields (candidates.Below left right) ≡ true
    → right < fields
right_within fields left right low = ltb-true right fields (and_parts (nat_lt left fields) (nat_lt right fields) low).1

about_named : (monitor : MonitorParts) (candidate : Candidate) → IsMonitor monitor
    → IsKnown monitor candidate → IsIdentifier (name_at monitor (about candidate))
about_named monitor candidate rule known = field_is_named monitor (about candidate) rule (about_within (length monitor.fields) candidate known.low)

tail_stops : (monitor : MonitorParts) (candidate : Candidate)
    → stops is_word_byte (tail monitor candidate) ≡ true
tail_stops monitor (candidates.AtMost field bound) = refl
tail_stops monitor (candidates.AtLeast field bound) = refl
tail_stops monitor (candidates.Flag field is) = refl
tail_stops monitor (candidates.Below left right) = refl

-- ---- its line holds no line feed but the last

mark_in_line : (is : Bool) → HasNoLineFeed (flag_mark is)
mark_in_line true = refl
mark_in_line false = refl

tail_in_line : (monitor : MonitorParts) (candidate : Candidate) → IsMonitor monitor
    → IsKnown monitor candidate → HasNoLineFeed (tail monitor candidate)
tail_in_line monitor (candidates.AtMost field bound) rule known = both_in_line (codes " <= ") (signed_decimal bound) refl (signed_in_line bound)
tail_in_line monitor (candidates.AtLeast field bound) rule known = both_in_line (codes " >= ") (signed_decimal bound) refl (signed_in_line bound)
tail_in_line monitor (candidates.Flag field is) rule known = refl
tail_in_line monitor (candidates.Below left right) rule known =
    let name = name_at monitor right in
    both_in_line (codes " <= ") name refl (words_in_line name (name_words name (field_is_named monitor right rule (right_within (length monitor.fields) left right known.low))))

pub kept_is_line : (monitor : MonitorParts) (candidate : Candidate) → IsMonitor monitor
    → IsKnown monitor candidate → IsLine (kept_text monitor.fields candidate)
kept_is_line monitor candidate rule known =
    let name : List ℕ = name_at monitor (about candidate) in
    let plain : HasNoLineFeed (flag_mark (mark candidate) ++ (name ++ tail monitor candidate)) =
    both_in_line (flag_mark (mark candidate)) (name ++ tail monitor candidate) (mark_in_line (mark candidate))
    (both_in_line name (tail monitor candidate) (words_in_line name (name_words name (about_named monitor candidate rule known))) (tail_in_line monitor candidate rule known)) in
    record {
      body = codes "keep " ++ candidate_text monitor.fields candidate;
      plain = both_in_line (codes "keep ") (candidate_text monitor.fields candidate) refl (subst HasNoLineFeed (sym (candidate_parts monitor candidate)) plain);
      is = refl;
    }

-- ---- its line names one candidate

-- a name after its mark, and what follows it
marked : (is also : Bool) (name other rest others : List ℕ) → IsIdentifier name → IsIdentifier other
    → stops is_word_byte rest ≡ true → stops is_word_byte others ≡ true
    → flag_mark is ++ (name ++ rest) ≡ flag_mark also ++ (other ++ others)
    → (is ≡ also) × (name ≡ other) × (rest ≡ others)
marked true true name other rest others one two end ends same =
    let parts = cut is_word_byte name other rest others (name_words name one) (name_words other two) end ends same in (refl, parts.0, parts.1)
marked false false name other rest others one two end ends same =
    let parts = cut is_word_byte name other rest others (name_words name one) (name_words other two) end ends (same_rest 33 33 (name ++ rest) (other ++ others) same) in (refl, parts.0, parts.1)
marked true false name other rest others one two end ends same = absurd (false≢true (ap begins_with_letter (sym same) ∙ name_begins name rest one))
marked false true name other rest others one two end ends same = absurd (false≢true (ap begins_with_letter same ∙ name_begins other others two))

no_letter : (byte : ℕ) → is_figure byte ≡ true → is_letter byte ≡ false
no_letter byte is = grind arith

pub figures_begin : (text rest : List ℕ) → list_all is_figure text ≡ true
    → begins_with_letter rest ≡ false → begins_with_letter (text ++ rest) ≡ false
figures_begin [] rest all other = other
figures_begin (byte ∷ text) rest all other = no_letter byte (and_parts (is_figure byte) (list_all is_figure text) all).0

-- which candidate it is, by what stands after the name
abbrev tail_kind : List ℕ → ℕ
tail_kind [] = 2
tail_kind (blank ∷ []) = 2
tail_kind (blank ∷ sign ∷ rest) = if sign == 62 then 1 else if begins_with_letter (drop 2 rest) then 3 else 0

abbrev kind_of : Candidate → ℕ
kind_of (candidates.AtMost field bound) = 0
kind_of (candidates.AtLeast field bound) = 1
kind_of (candidates.Flag field is) = 2
kind_of (candidates.Below left right) = 3

tail_is : (monitor : MonitorParts) (candidate : Candidate) → IsMonitor monitor
    → IsKnown monitor candidate → tail_kind (tail monitor candidate) ≡ kind_of candidate
tail_is monitor (candidates.AtMost field bound) rule known =
    let number : begins_with_letter (signed_decimal bound) ≡ false = ap begins_with_letter (sym (append-nil (signed_decimal bound))) ∙ figures_begin (signed_decimal bound) [] (signed_figures bound) refl in
    ap {B = ℕ} (λ test. if test then 3 else 0) number
tail_is monitor (candidates.AtLeast field bound) rule known = refl
tail_is monitor (candidates.Flag field is) rule known = refl
tail_is monitor (candidates.Below left right) rule known =
    let name : List ℕ = name_at monitor right in
    let letter : begins_with_letter name ≡ true = ap begins_with_letter (sym (append-nil name)) ∙ name_begins name [] (field_is_named monitor right rule (right_within (length monitor.fields) left right known.low)) in
    ap {B = ℕ} (λ test. if test then 3 else 0) letter

from_parts : (monitor : MonitorParts) (candidate other : Candidate) → IsMonitor monitor
    → IsKnown monitor candidate → IsKnown monitor other → kind_of candidate ≡ kind_of other
    → mark candidate ≡ mark other → about candidate ≡ about other
    → tail monitor candidate ≡ tail monitor other → candidate ≡ other
from_parts monitor (candidates.AtMost field bound) (candidates.AtMost other limit) rule known also kinds marks abouts tails =
    let near = subst (λ one. IsNearStart (start_at monitor.fields) (candidates.AtMost one limit)) (sym abouts) also.near in
    let bounds = same_near (start_at monitor.fields field) bound limit known.near near (append_cancel_left (codes " <= ") (signed_decimal bound) (signed_decimal limit) tails) in
    λ i. candidates.AtMost (abouts i) (bounds i)
from_parts monitor (candidates.AtLeast field bound) (candidates.AtLeast other limit) rule known also kinds marks abouts tails =
    let near = subst (λ one. IsNearStart (start_at monitor.fields) (candidates.AtLeast one limit)) (sym abouts) also.near in
    let bounds = same_near (start_at monitor.fields field) bound limit known.near near (append_cancel_left (codes " >= ") (signed_decimal bound) (signed_decimal limit) tails) in
    λ i. candidates.AtLeast (abouts i) (bounds i)
from_parts monitor (candidates.Flag field is) (candidates.Flag other truth) rule known also kinds marks abouts tails = λ i. candidates.Flag (abouts i) (marks i)
from_parts monitor (candidates.Below left right) (candidates.Below other more) rule known also kinds marks abouts tails =
    let fields = length monitor.fields in
    let rights =
    same_field monitor right more rule (right_within fields left right known.low) (right_within fields other more also.low)
    (append_cancel_left (codes " <= ") (name_at monitor right) (name_at monitor more) tails) in
    λ i. candidates.Below (abouts i) (rights i)
from_parts monitor candidate other rule known also kinds marks abouts tails = absurd (omega (arith, kinds))

pub kept_line_names : (monitor : MonitorParts) (candidate other : Candidate) → IsMonitor monitor
    → IsKnown monitor candidate → IsKnown monitor other
    → kept_text monitor.fields candidate ≡ kept_text monitor.fields other → candidate ≡ other
kept_line_names monitor candidate other rule known also same =
    let one : List ℕ = candidate_text monitor.fields candidate in
    let two : List ℕ = candidate_text monitor.fields other in
    let texts : one ≡ two = append_cancel_left (codes "keep ") one two (append_cancel_right (codes "keep " ++ one) (codes "keep " ++ two) (codes "\n") same) in
    let fields = length monitor.fields in
    let parts =
    marked (mark candidate) (mark other) (name_at monitor (about candidate)) (name_at monitor (about other)) (tail monitor candidate) (tail monitor other)
    (about_named monitor candidate rule known) (about_named monitor other rule also) (tail_stops monitor candidate) (tail_stops monitor other)
    (sym (candidate_parts monitor candidate) ∙ texts ∙ candidate_parts monitor other) in
    from_parts monitor candidate other rule known also
    (sym (tail_is monitor candidate rule known) ∙ ap tail_kind parts.2 ∙ tail_is monitor other rule also) parts.0
    (same_field monitor (about candidate) (about other) rule (about_within fields candidate known.low) (about_within fields other also.low) parts.1) parts.2

-- ---- a condition's line names its kind

kind_in_line : (kind : CondKind) → HasNoLineFeed (kind_text kind)
kind_in_line kinds.Signal = refl
kind_in_line kinds.Broadcast = refl

pub condition_is_line : (number : ℕ) (condition : Condition) (kind : CondKind)
    → IsDescribed condition → IsLine (condition_text number condition kind)
condition_is_line number condition kind described =
    let first : List ℕ = codes "condition " ++ decimal number in
    let second : List ℕ = first ++ codes " " ++ kind_text kind in
    let numbered : HasNoLineFeed first = both_in_line (codes "condition ") (decimal number) refl (decimal_in_line number) in
    let front : HasNoLineFeed second = both_in_line (first ++ codes " ") (kind_text kind) (both_in_line first (codes " ") numbered refl) (kind_in_line kind) in
    record {
      body = second ++ codes ": " ++ condition.shown;
      plain = both_in_line (second ++ codes ": ") condition.shown (both_in_line second (codes ": ") front refl) described.line;
      is = refl;
    }

same_kind : (kind other : CondKind) → kind_text kind ≡ kind_text other → kind ≡ other
same_kind kinds.Signal kinds.Signal same = refl
same_kind kinds.Broadcast kinds.Broadcast same = refl
same_kind kind other same = absurd (omega (arith, ap {B = ℕ} length same))

pub condition_line_names : (number : ℕ) (condition : Condition) (kind other : CondKind)
    → condition_text number condition kind ≡ condition_text number condition other → kind ≡ other
condition_line_names number condition kind other same =
    let first : List ℕ = codes "condition " ++ decimal number ++ codes " " in
    let shown : List ℕ = condition.shown in
    let one : List ℕ = first ++ kind_text kind in
    let two : List ℕ = first ++ kind_text other in
    let guards = append_cancel_right (one ++ codes ": " ++ shown) (two ++ codes ": " ++ shown) (codes "\n") same in
    let signs = append_cancel_right (one ++ codes ": ") (two ++ codes ": ") shown guards in
    same_kind kind other (append_cancel_left first (kind_text kind) (kind_text other) (append_cancel_right one two (codes ": ") signs))

-- ---- a block's line names its notes

abbrev is_no_comma : ℕ → Bool
is_no_comma byte = not (byte == 44)

digit_no_comma : (byte : ℕ) → is_digit byte ≡ true → is_no_comma byte ≡ true
digit_no_comma byte is = grind arith

-- what stands after the number of a note's condition
abbrev marks : Bool → Bool → List ℕ
marks all tested = kind_text (note_kind all) ++ tested_text tested

marks_plain : (all tested : Bool)
    → (list_all is_no_comma (marks all tested) ≡ true) × HasNoLineFeed (marks all tested)
marks_plain true true = (refl, refl)
marks_plain true false = (refl, refl)
marks_plain false true = (refl, refl)
marks_plain false false = (refl, refl)

same_tested : (tested also : Bool) → tested_text tested ≡ tested_text also → tested ≡ also
same_tested true true same = refl
same_tested false false same = refl
same_tested tested also same = absurd (omega (arith, ap {B = ℕ} length same))

same_marks : (all tested other also : Bool) → marks all tested ≡ marks other also
    → (all ≡ other) × (tested ≡ also)
same_marks true tested true also same = (refl, same_tested tested also (append_cancel_left (codes "broadcast") (tested_text tested) (tested_text also) same))
same_marks false tested false also same = (refl, same_tested tested also (append_cancel_left (codes "signal") (tested_text tested) (tested_text also) same))
same_marks true tested false also same = absurd (omega (arith, same_first 98 115 (codes "roadcast" ++ tested_text tested) (codes "ignal" ++ tested_text also) same))
same_marks false tested true also same = absurd (omega (arith, same_first 115 98 (codes "ignal" ++ tested_text tested) (codes "roadcast" ++ tested_text also) same))

note_parts : (note : Note)
    → note_text note ≡ decimal note.condition ++ (codes " " ++ marks note.all note.tested)
note_parts note =
    append_assoc (decimal note.condition ++ codes " ") (kind_text (note_kind note.all)) (tested_text note.tested)
    ∙ append_assoc (decimal note.condition) (codes " ") (marks note.all note.tested)

note_no_comma : (note : Note) → list_all is_no_comma (note_text note) ≡ true
note_no_comma note =
    subst (λ text. list_all is_no_comma text ≡ true) (sym (note_parts note))
    (all_append is_no_comma (decimal note.condition) (codes " " ++ marks note.all note.tested)
    (all_weaker is_digit is_no_comma digit_no_comma (decimal note.condition) (decimal_digits note.condition)) (marks_plain note.all note.tested).0)

note_in_line : (note : Note) → HasNoLineFeed (note_text note)
note_in_line note =
    subst HasNoLineFeed (sym (note_parts note))
    (both_in_line (decimal note.condition) (codes " " ++ marks note.all note.tested) (decimal_in_line note.condition) (marks_plain note.all note.tested).1)

some_within : {X : Type 0} (xs : List X) (i : ℕ) (P : X → Type 0) → IsSomeAnd (slice_get xs i) P
    → i < length xs
some_within [] i P some = absurd some
some_within (x ∷ xs) zero P some = omega arith
some_within (x ∷ xs) (suc i) P some = omega (arith, some_within xs i P some)

-- the number of a condition is short
note_short : (monitor : MonitorParts) (note : Note) → IsMonitor monitor → FitsNote monitor note
    → IsShort note.condition
note_short monitor note rule fits =
    omega (arith, fits.0, some_within monitor.conditions (note.condition - 1) (λ which. note.tested ≡ true → _) fits.1, rule.few_conditions)

same_note : (monitor : MonitorParts) (note other : Note) → IsMonitor monitor → FitsNote monitor note
    → FitsNote monitor other → note_text note ≡ note_text other → note ≡ other
same_note monitor note other rule fits also same =
    let parts =
    cut is_digit (decimal note.condition) (decimal other.condition) (codes " " ++ marks note.all note.tested) (codes " " ++ marks other.all other.tested)
    (decimal_digits note.condition) (decimal_digits other.condition) refl refl (sym (note_parts note) ∙ same ∙ note_parts other) in
    let condition = same_number note.condition other.condition (note_short monitor note rule fits) (note_short monitor other rule also) parts.0 in
    let after = same_marks note.all note.tested other.all other.tested (same_rest 32 32 (marks note.all note.tested) (marks other.all other.tested) parts.1) in
    λ i. record { condition = condition i; all = after.0 i; tested = after.1 i }

abbrev later : List Note → List ℕ
later notes = flat_map (λ text. codes ", " ++ text) (map note_text notes)

later_stops : (notes : List Note) → stops is_no_comma (later notes) ≡ true
later_stops [] = refl
later_stops (note ∷ notes) = refl

-- two lists whose texts, each after a separator, are the same
same_later : (monitor : MonitorParts) → IsMonitor monitor → (notes others : List Note)
    → Each (FitsNote monitor) notes → Each (FitsNote monitor) others → later notes ≡ later others
    → notes ≡ others
same_later monitor rule [] [] fit also same = refl
same_later monitor rule [] (other ∷ others) fit also same = absurd (omega (arith, ap {B = ℕ} length same))
same_later monitor rule (note ∷ notes) [] fit also same = absurd (omega (arith, ap {B = ℕ} length same))
same_later monitor rule (note ∷ notes) (other ∷ others) fit also same =
    let parts =
    cut is_no_comma (note_text note) (note_text other) (later notes) (later others) (note_no_comma note) (note_no_comma other) (later_stops notes) (later_stops others)
    (append_cancel_left (codes ", ") (note_text note ++ later notes) (note_text other ++ later others) same) in
    λ i. same_note monitor note other rule fit.0 also.0 parts.0 i ∷ same_later monitor rule notes others fit.1 also.1 parts.1 i

no_none : (note : Note) (notes : List Note) → codes "none" ≡ note_text note ++ later notes → ⊥
no_none note notes same =
    let begins : begins_with_letter (decimal note.condition ++ (codes " " ++ marks note.all note.tested ++ later notes)) ≡ false =
    figures_begin (decimal note.condition) _ (all_weaker is_digit is_figure digit_figure (decimal note.condition) (decimal_digits note.condition)) refl in
    let text : note_text note ++ later notes ≡ decimal note.condition ++ (codes " " ++ marks note.all note.tested ++ later notes) =
    ap (λ one. one ++ later notes) (note_parts note) ∙ append_assoc (decimal note.condition) (codes " " ++ marks note.all note.tested) (later notes) in
    true≢false (ap begins_with_letter (same ∙ text) ∙ begins)
  where
    digit_figure : (byte : ℕ) → is_digit byte ≡ true → is_figure byte ≡ true
    digit_figure byte is = grind arith

same_notes : (monitor : MonitorParts) → IsMonitor monitor → (notes others : List Note)
    → Each (FitsNote monitor) notes → Each (FitsNote monitor) others
    → notes_text notes ≡ notes_text others → notes ≡ others
same_notes monitor rule [] [] fit also same = refl
same_notes monitor rule [] (other ∷ others) fit also same = absurd (no_none other others same)
same_notes monitor rule (note ∷ notes) [] fit also same = absurd (no_none note notes (sym same))
same_notes monitor rule (note ∷ notes) (other ∷ others) fit also same =
    let parts =
    cut is_no_comma (note_text note) (note_text other) (later notes) (later others) (note_no_comma note) (note_no_comma other) (later_stops notes) (later_stops others) same in
    λ i. same_note monitor note other rule fit.0 also.0 parts.0 i ∷ same_later monitor rule notes others fit.1 also.1 parts.1 i

notes_in_line : (notes : List Note) → HasNoLineFeed (notes_text notes)
notes_in_line [] = refl
notes_in_line (note ∷ notes) = joined_in_line (codes ", ") note_text refl note_in_line (note ∷ notes)

block_name_in_line : (monitor : MonitorParts) (block : ℕ) → IsMonitor monitor
    → HasNoLineFeed (block_name monitor block)
block_name_in_line monitor block rule = by_held (slice_get monitor.blocks block)
  where
    by_held : (held : Option Block)
        → HasNoLineFeed
        (option_map_or (λ one. name_in (slice_get monitor.methods one.method) block) held [])
    by_held None = refl
    by_held (Some one) =
        let method : Option Method = slice_get monitor.methods one.method in
        let mark : List ℕ = block_mark (count_in method) (block - first_in method + 1) in
        both_in_line (method_name method) mark (words_in_line (method_name method) (method_words monitor one.method rule)) (block_mark_in_line (count_in method) (block - first_in method + 1))

pub block_is_line : (monitor : MonitorParts) (block : ℕ) (notes : List Note) → IsMonitor monitor
    → IsLine (block_text monitor block notes)
block_is_line monitor block notes rule =
    let name : List ℕ = block_name monitor block in
    let front : HasNoLineFeed (codes "block " ++ name ++ codes ": ") =
    both_in_line (codes "block " ++ name) (codes ": ") (both_in_line (codes "block ") name refl (block_name_in_line monitor block rule)) refl in
    record {
      body = codes "block " ++ name ++ codes ": " ++ notes_text notes;
      plain = both_in_line (codes "block " ++ name ++ codes ": ") (notes_text notes) front (notes_in_line notes);
      is = refl;
    }

pub block_line_names : (monitor : MonitorParts) (block : ℕ) (notes others : List Note)
    → IsMonitor monitor → Each (FitsNote monitor) notes → Each (FitsNote monitor) others
    → block_text monitor block notes ≡ block_text monitor block others → notes ≡ others
block_line_names monitor block notes others rule fit also same =
    let front : List ℕ = codes "block " ++ block_name monitor block ++ codes ": " in
    same_notes monitor rule notes others fit also
    (append_cancel_left front (notes_text notes) (notes_text others) (append_cancel_right (front ++ notes_text notes) (front ++ notes_text others) (codes "\n") same))
