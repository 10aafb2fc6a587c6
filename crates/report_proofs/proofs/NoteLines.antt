-- The notes in the lines of blocks, which are looked for by rising condition. Bytes: 10 is a line
-- feed, 32 a blank, 44 a comma, 98 `b`, 110 `n`, 115 `s`.
use Rattle.std.proofs.Common.{◌≡◌, ℕ, zero, suc, ◌+◌, ◌^◌, ◌<◌, ◌≤◌, Bool, true, false, not, List, [], ◌∷◌, ◌++◌, length, map, inl, inr, Option, Some, None, Result, Ok, Err, codes, decimal, refl, sym, ap, subst, ◌∙◌, append_assoc, append-nil, arith}
use Rattle.std.specs.Prelude.{All, AllPairs, IfOk, MatchOption, slice_index}
use Rattle.std.specs.Borrow.{Bor}
use Rattle.std.specs.declared.alloc.AllocError.{AllocError}
use Rattle.std.specs.List.{flat_map}
use Rattle.std.proofs.lemmas.Bool.{cases_order}
use Rattle.std.proofs.lemmas.List.{append_cancel_left}
use Rattle.std.proofs.lemmas.List.Elements.{All-nil, All-cons, All-head, All-tail}
use Rattle.std.proofs.lemmas.List.Kept.{AllPairs-from_increasing}
use Rattle.lang_base.specs.Identifiers.{is_digit}
use Rattle.lang_monitor.specs.MonitorParts.{MonitorParts}
use Rattle.machine_events.specs.declared.plan.Note.{Note}
use Rattle.machine_events.specs.PlanText.{kind_text, note_kind, note_text, notes_text, tested_text}
use Rattle.machine_events.specs.Rising.{AreRising}
use Rattle.lang_base.proofs.Cuts.{same_first, cut}
use Rattle.lang_base.proofs.Numerals.{IsShort, decimal_digits, decimal_some, same_number}
use Rattle.report_verdict.specs.Reports.{AreNotesOf, IsOnCondition}
use Rattle.report_proofs.specs.Fronts.{Anything, IsFront, IsNoFront}
use Rattle.report_proofs.specs.inner.Reading.{AreFrom, AreSomeNotesOf, IsAfterMarks, IsLineEnd, IsNoteTurn, marks_text, notes_after, sign_after}

-- ---- rising conditions

abbrev starts : ℕ → List Note → Type 0
starts first [] = Unit {0}
starts first (note ∷ notes) = first ≤ note.condition

from_pairs : (monitor : MonitorParts) (first : ℕ) (notes : List Note)
    → AllPairs (λ x y. x < y) (map (λ note. note.condition) notes)
    → All (IsOnCondition monitor) notes → starts first notes
    → AreFrom monitor first notes
from_pairs monitor first [] pairs on start = tt
from_pairs monitor first (note ∷ []) pairs on start = (start, (All-head (IsOnCondition monitor) note [] on).1, tt)
from_pairs monitor first (note ∷ other ∷ notes) pairs on start =
    let next : note.condition < other.condition = pairs 0 1 0 (omega arith) (omega arith) in (
      start,
      (All-head (IsOnCondition monitor) note (other ∷ notes) on).1,
      from_pairs monitor (note.condition + 1) (other ∷ notes) (λ i j d less within. pairs (suc i) (suc j) d (omega (arith, less)) (omega (arith, within)))
          (All-tail (IsOnCondition monitor) note (other ∷ notes) on) (omega (arith, next)),
    )

pub from_notes : (monitor : MonitorParts) (notes : List Note) → AreNotesOf monitor notes
    → AreFrom monitor 1 notes
from_notes monitor notes are =
    from_pairs monitor 1 notes (AllPairs-from_increasing (map (λ note. note.condition) notes) are.rising) are.each (by_first notes are.each)
  where
    by_first : (notes : List Note) → All (IsOnCondition monitor) notes → starts 1 notes
    by_first [] on = tt
    by_first (note ∷ notes) on = (All-head (IsOnCondition monitor) note notes on).0

rises_next : (monitor : MonitorParts) (first : ℕ) (notes : List Note) → AreFrom monitor first notes
    → (k : ℕ) → suc k < length (map (λ note. note.condition) notes)
    → slice_index (map (λ note. note.condition) notes) k < slice_index
    (map (λ note. note.condition) notes) (suc k)
rises_next monitor first [] from k within = absurd (omega (arith, within))
rises_next monitor first (note ∷ []) from k within = absurd (omega (arith, within))
rises_next monitor first (note ∷ other ∷ notes) from zero within =
    let next : note.condition + 1 ≤ other.condition = from.2.0 in omega (arith, next)
rises_next monitor first (note ∷ other ∷ notes) from (suc k) within = rises_next monitor (note.condition + 1) (other ∷ notes) from.2 k (omega (arith, within))

rises : (monitor : MonitorParts) (first : ℕ) (notes : List Note) → AreFrom monitor first notes
    → AreRising notes
rises monitor first notes from k within =
    let next : suc k ≡ k + 1 = omega arith in
    subst (λ (n : ℕ). slice_index (map (λ note. note.condition) notes) k < slice_index (map (λ note. note.condition) notes) n) next (rises_next monitor first notes from k (omega (arith, within)))

on_conditions : (monitor : MonitorParts) (first : ℕ) (notes : List Note) → 1 ≤ first
    → AreFrom monitor first notes → All (IsOnCondition monitor) notes
on_conditions monitor first [] low from = All-nil (IsOnCondition monitor)
on_conditions monitor first (note ∷ notes) low from =
    All-cons (IsOnCondition monitor) note notes (omega (arith, low, from.0), from.1) (on_conditions monitor (note.condition + 1) notes (omega arith) from.2)

to_notes : (monitor : MonitorParts) (notes : List Note) → AreFrom monitor 1 notes
    → AreNotesOf monitor notes
to_notes monitor notes from = record { rising = rises monitor 1 notes from; each = on_conditions monitor 1 notes (omega arith) from }

later_from : (monitor : MonitorParts) (first : ℕ) (notes : List Note)
    → AreFrom monitor (first + 1) notes → AreFrom monitor first notes
later_from monitor first [] from = tt
later_from monitor first (note ∷ notes) from = (omega (arith, from.0), from.1, from.2)

none_from : (monitor : MonitorParts) (first : ℕ) (notes : List Note)
    → length monitor.conditions < first → AreFrom monitor first notes → notes ≡ []
none_from monitor first [] past from = refl
none_from monitor first (note ∷ notes) past from = absurd (omega (arith, past, from.0, from.1))

-- ---- the marks of a note

pub way_signal : (bytes rest : List ℕ) → codes "signal" ++ rest ≡ bytes
    → IsFront Bool Anything Anything (λ all. kind_text (note_kind all)) bytes false rest
way_signal bytes rest here = record {
  holds = tt;
  begins = here;
  only = only;
}
  where
    only : (other : Bool) (more : List ℕ) → Anything other → Anything more
        → kind_text (note_kind other) ++ more ≡ bytes → (other ≡ false) × (more ≡ rest)
    only false more is ends same = (refl, append_cancel_left (codes "signal") more rest (same ∙ sym here))
    only true more is ends same = absurd (omega (arith, same_first 98 115 (codes "roadcast" ++ more) (codes "ignal" ++ rest) (same ∙ sym here)))

pub way_broadcast : (bytes rest : List ℕ) → codes "broadcast" ++ rest ≡ bytes
    → IsFront Bool Anything Anything (λ all. kind_text (note_kind all)) bytes true rest
way_broadcast bytes rest here = record {
  holds = tt;
  begins = here;
  only = only;
}
  where
    only : (other : Bool) (more : List ℕ) → Anything other → Anything more
        → kind_text (note_kind other) ++ more ≡ bytes → (other ≡ true) × (more ≡ rest)
    only true more is ends same = (refl, append_cancel_left (codes "broadcast") more rest (same ∙ sym here))
    only false more is ends same = absurd (omega (arith, same_first 115 98 (codes "ignal" ++ more) (codes "roadcast" ++ rest) (same ∙ sym here)))

pub way_none : (bytes : List ℕ) → ((rest : List ℕ) → codes "signal" ++ rest ≡ bytes → ⊥)
    → ((rest : List ℕ) → codes "broadcast" ++ rest ≡ bytes → ⊥)
    → IsNoFront Bool Anything Anything (λ all. kind_text (note_kind all)) bytes
way_none bytes signal broadcast false more is ends same = signal more same
way_none bytes signal broadcast true more is ends same = broadcast more same

pub tested_yes : (bytes rest : List ℕ) → codes " tested" ++ rest ≡ bytes
    → IsFront Bool Anything IsAfterMarks tested_text bytes true rest
tested_yes bytes rest here = record {
  holds = tt;
  begins = here;
  only = only;
}
  where
    only : (other : Bool) (more : List ℕ) → Anything other → IsAfterMarks more
        → tested_text other ++ more ≡ bytes → (other ≡ true) × (more ≡ rest)
    only true more is ends same = (refl, append_cancel_left (codes " tested") more rest (same ∙ sym here))
    only false more is ends same = absurd (ends (codes "tested" ++ rest) (same ∙ sym here))

pub tested_no : (bytes : List ℕ) → ((rest : List ℕ) → codes " tested" ++ rest ≡ bytes → ⊥)
    → IsFront Bool Anything IsAfterMarks tested_text bytes false bytes
tested_no bytes none = record {
  holds = tt;
  begins = refl;
  only = only;
}
  where
    only : (other : Bool) (more : List ℕ) → Anything other → IsAfterMarks more
        → tested_text other ++ more ≡ bytes → (other ≡ false) × (more ≡ bytes)
    only true more is ends same = absurd (none more same)
    only false more is ends same = (refl, same)

abbrev both : Bool → Bool → Bool × Bool
both all tested = (all, tested)

pub marks_front : (bytes rest left : List ℕ) (all tested : Bool)
    → IsFront Bool Anything Anything (λ all. kind_text (note_kind all)) bytes all rest
    → IsFront Bool Anything IsAfterMarks tested_text rest tested left
    → IsFront (Bool × Bool) Anything IsAfterMarks marks_text bytes (both all tested) left
marks_front bytes rest left all tested way test = record {
  holds = tt;
  begins = append_assoc (kind_text (note_kind all)) (tested_text tested) left ∙ ap (λ one. kind_text (note_kind all) ++ one) test.begins ∙ way.begins;
  only = λ other more is ends same.
      let one = way.only other.0 (tested_text other.1 ++ more) tt tt (sym (append_assoc (kind_text (note_kind other.0)) (tested_text other.1) more) ∙ same) in
      let two = test.only other.1 more tt ends one.1 in
      (λ i. both (one.0 i) (two.0 i), two.1);
}

pub marks_none : (bytes : List ℕ)
    → IsNoFront Bool Anything Anything (λ all. kind_text (note_kind all)) bytes
    → IsNoFront (Bool × Bool) Anything IsAfterMarks marks_text bytes
marks_none bytes none other more is ends same =
    none other.0 (tested_text other.1 ++ more) tt tt (sym (append_assoc (kind_text (note_kind other.0)) (tested_text other.1) more) ∙ same)

-- ---- a note

abbrev noted : ℕ → Bool × Bool → Note
noted number marks = record { condition = number; all = marks.0; tested = marks.1 }

note_parts : (sign : List ℕ) (note : Note)
    → sign ++ note_text note
    ≡ (sign ++ decimal note.condition ++ codes " ") ++ marks_text (both note.all note.tested)
note_parts sign note =
    let number : List ℕ = decimal note.condition in
    let kind : List ℕ = kind_text (note_kind note.all) in
    let tested : List ℕ = tested_text note.tested in
    ap (λ text. sign ++ text) (append_assoc (number ++ codes " ") kind tested ∙ append_assoc number (codes " ") (kind ++ tested))
    ∙ sym (append_assoc sign number (codes " " ++ (kind ++ tested))) ∙ sym (append_assoc (sign ++ number) (codes " ") (kind ++ tested))

note_front : (number : ℕ) (sign bytes rest left : List ℕ) (marks : Bool × Bool)
    → (sign ++ decimal number ++ codes " ") ++ rest ≡ bytes
    → IsFront (Bool × Bool) Anything IsAfterMarks marks_text rest marks left
    → IsFront Note (λ note. note.condition ≡ number) IsAfterMarks
    (λ note. sign ++ note_text note) bytes (noted number marks) left
note_front number sign bytes rest left marks here front = record {
  holds = refl;
  begins =
      ap (λ text. text ++ left) (note_parts sign (noted number marks)) ∙ append_assoc head (marks_text marks) left ∙ ap (λ text. head ++ text) front.begins ∙ here;
  only = λ other more is ends same.
      let own : List ℕ = sign ++ decimal other.condition ++ codes " " in
      let found = front.only (both other.all other.tested) more tt ends
      (append_cancel_left head (marks_text (both other.all other.tested) ++ more) rest
      (ap (λ (one : ℕ). (sign ++ decimal one ++ codes " ") ++ (marks_text (both other.all other.tested) ++ more)) (sym is)
      ∙ sym (append_assoc own (marks_text (both other.all other.tested)) more) ∙ ap (λ text. text ++ more) (sym (note_parts sign other)) ∙ same ∙ sym here)) in
      (λ i. record { condition = is i; all = (found.0 i).0; tested = (found.0 i).1 }, found.1);
}
  where
    head : List ℕ
    head = sign ++ decimal number ++ codes " "

pub note_found : (number : ℕ) (sign bytes rest left last : List ℕ) (marks : Bool × Bool)
    (note : Note) → (sign ++ decimal number ++ codes " ") ++ rest ≡ bytes
    → IsFront (Bool × Bool) Anything IsAfterMarks marks_text rest marks left
    → note ≡ noted number marks → last ≡ left
    → IsFront Note (λ one. one.condition ≡ number) IsAfterMarks
    (λ one. sign ++ note_text one) bytes note last
note_found number sign bytes rest left last marks note here front is same =
    subst (λ (one : Note). IsFront Note (λ one. one.condition ≡ number) IsAfterMarks (λ one. sign ++ note_text one) bytes one last) (sym is)
    (subst (λ (end : List ℕ). IsFront Note (λ one. one.condition ≡ number) IsAfterMarks (λ one. sign ++ note_text one) bytes (noted number marks) end) (sym same)
    (note_front number sign bytes rest left marks here front))

pub note_unmarked : (number : ℕ) (sign bytes rest : List ℕ)
    → (sign ++ decimal number ++ codes " ") ++ rest ≡ bytes
    → IsNoFront (Bool × Bool) Anything IsAfterMarks marks_text rest
    → IsNoFront Note (λ note. note.condition ≡ number) IsAfterMarks
    (λ note. sign ++ note_text note) bytes
note_unmarked number sign bytes rest here none other more is ends same =
    let head : List ℕ = sign ++ decimal number ++ codes " " in
    let own : List ℕ = sign ++ decimal other.condition ++ codes " " in
    none (both other.all other.tested) more tt ends
    (append_cancel_left head (marks_text (both other.all other.tested) ++ more) rest
    (ap (λ (one : ℕ). (sign ++ decimal one ++ codes " ") ++ (marks_text (both other.all other.tested) ++ more)) (sym is)
    ∙ sym (append_assoc own (marks_text (both other.all other.tested)) more) ∙ ap (λ text. text ++ more) (sym (note_parts sign other)) ∙ same ∙ sym here))

pub note_unnumbered : (number : ℕ) (sign bytes : List ℕ)
    → ((rest : List ℕ) → (sign ++ decimal number ++ codes " ") ++ rest ≡ bytes → ⊥)
    → IsNoFront Note (λ note. note.condition ≡ number) IsAfterMarks
    (λ note. sign ++ note_text note) bytes
note_unnumbered number sign bytes none other more is ends same =
    let own : List ℕ = sign ++ decimal other.condition ++ codes " " in
    none (marks_text (both other.all other.tested) ++ more)
    (ap (λ (one : ℕ). (sign ++ decimal one ++ codes " ") ++ (marks_text (both other.all other.tested) ++ more)) (sym is)
    ∙ sym (append_assoc own (marks_text (both other.all other.tested)) more) ∙ ap (λ text. text ++ more) (sym (note_parts sign other)) ∙ same)

-- a note's text, from its number on
from_number : (note : Note) (more : List ℕ)
    → note_text note ++ more
    ≡ decimal note.condition ++ (codes " " ++ (marks_text (both note.all note.tested) ++ more))
from_number note more =
    let number : List ℕ = decimal note.condition in
    let marks : List ℕ = marks_text (both note.all note.tested) in
    ap (λ text. text ++ more) (note_parts [] note) ∙ append_assoc (number ++ codes " ") marks more ∙ append_assoc number (codes " ") (marks ++ more)

-- two notes at one place are on one condition
same_condition : (note other : Note) (more after : List ℕ) → IsShort note.condition
    → IsShort other.condition → note_text note ++ more ≡ note_text other ++ after
    → note.condition ≡ other.condition
same_condition note other more after short also same =
    same_number note.condition other.condition short also
    (cut is_digit (decimal note.condition) (decimal other.condition) (codes " " ++ (marks_text (both note.all note.tested) ++ more)) (codes " " ++ (marks_text (both other.all other.tested) ++ after))
    (decimal_digits note.condition) (decimal_digits other.condition) refl refl (sym (from_number note more) ∙ same ∙ from_number other after)).0

-- a note begins with a digit
no_digit : (note : Note) (more : List ℕ) (byte : ℕ) (after : List ℕ) → is_digit byte ≡ false
    → note_text note ++ more ≡ byte ∷ after → ⊥
no_digit note more byte after other same =
    let parts =
    cut is_digit (decimal note.condition) [] (codes " " ++ (marks_text (both note.all note.tested) ++ more)) (byte ∷ after) (decimal_digits note.condition) refl refl
    (ap not other) (sym (from_number note more) ∙ same) in
    omega (arith, ap {B = ℕ} length parts.0, decimal_some note.condition)

no_end : (done : List Note) (note : Note) (more after : List ℕ)
    → sign_after done ++ note_text note ++ more ≡ codes "\n" ++ after → ⊥
no_end [] note more after same = no_digit note more 10 after refl same
no_end (one ∷ done) note more after same = omega (arith, same_first 44 10 (codes " " ++ note_text note ++ more) after same)

-- ---- the notes so far

abbrev sign_or : List ℕ → List Note → List ℕ
sign_or sign [] = sign
sign_or sign (note ∷ notes) = codes ", "

sign_is : (done : List Note) → sign_or [] done ≡ sign_after done
sign_is [] = refl
sign_is (note ∷ done) = refl

comma_is : (done : List Note) → sign_or (codes ", ") done ≡ codes ", "
comma_is [] = refl
comma_is (note ∷ done) = refl

notes_push : (sign : List ℕ) (done : List Note) (note : Note)
    → notes_after sign (done ++ note ∷ [])
    ≡ notes_after sign done ++ (sign_or sign done ++ note_text note)
notes_push sign [] note = append-nil (sign ++ note_text note)
notes_push sign (one ∷ done) note =
    ap (λ text. sign ++ note_text one ++ text)
    (notes_push (codes ", ") done note ∙ ap (λ text. notes_after (codes ", ") done ++ (text ++ note_text note)) (comma_is done))
    ∙ sym (append_assoc (sign ++ note_text one) (notes_after (codes ", ") done) (codes ", " ++ note_text note))

sign_next : (done : List Note) (note : Note) → sign_after (done ++ note ∷ []) ≡ codes ", "
sign_next [] note = refl
sign_next (one ∷ done) note = refl

-- what other notes are left
abbrev Left : MonitorParts → ℕ → List Note → List Note → List ℕ → List ℕ → Type 0
Left monitor first others done more rest =
    (left : List Note) × AreFrom monitor first left × (others ≡ done ++ left) × (notes_after (sign_after done) left ++ more ≡ rest)

pub record IsGoing (monitor : MonitorParts) (bytes : List ℕ) (i : ℕ) (done : List Note) (rest : List ℕ) : Type 0 where
  pub fits : (left : List Note) → AreFrom monitor (i + 1) left → AreFrom monitor 1 (done ++ left)
  pub front : notes_after [] done ++ rest ≡ bytes
  pub only : (others : List Note) (more : List ℕ) → AreFrom monitor 1 others → IsLineEnd more
      → notes_after [] others ++ more ≡ bytes → Left monitor (i + 1) others done more rest

pub going_start : (monitor : MonitorParts) (bytes : List ℕ) → IsGoing monitor bytes 0 [] bytes
going_start monitor bytes = record {
  fits = λ left from. from;
  front = refl;
  only = λ others more from ends same. (others, from, refl, same);
}

-- what follows a note's marks
after_marks : (notes : List Note) (more : List ℕ) → IsLineEnd more
    → IsAfterMarks (notes_after (codes ", ") notes ++ more)
after_marks [] more ends text same = omega (arith, same_first 10 32 ends.0 text (sym ends.1 ∙ same))
after_marks (note ∷ notes) more ends text same =
    omega (arith, same_first 44 32 (codes " " ++ note_text note ++ notes_after (codes ", ") notes ++ more) text same)

note_first : (sign : List ℕ) (note : Note) (notes : List Note) (more : List ℕ)
    → notes_after sign (note ∷ notes) ++ more
    ≡ sign ++ note_text note ++ (notes_after (codes ", ") notes ++ more)
note_first sign note notes more = append_assoc (sign ++ note_text note) (notes_after (codes ", ") notes) more

taken_left : (monitor : MonitorParts) (i : ℕ) (others done : List Note) (note : Note)
    (more rest next : List ℕ) → length monitor.conditions < 2 ^ 32 → i < length monitor.conditions
    → IsLineEnd more
    → IsFront Note (λ note. note.condition ≡ i + 1) IsAfterMarks
    (λ note. sign_after done ++ note_text note) rest note next
    → Left monitor (i + 1) others done more rest
    → Left monitor (i + 1 + 1) others (done ++ note ∷ []) more next
taken_left monitor i others done note more rest next few low ends found ([], from, are, same) =
    absurd (no_end done note next ends.0 (found.begins ∙ sym same ∙ ends.1))
taken_left monitor i others done note more rest next few low ends found (first ∷ left, from, are, same) =
    let after : List ℕ = notes_after (codes ", ") left ++ more in
    let here : sign_after done ++ note_text first ++ after ≡ rest = sym (note_first (sign_after done) first left more) ∙ same in
    let number : first.condition ≡ i + 1 =
    same_condition first note after next (short first.condition (omega (arith, from.1, few))) (short note.condition (omega (arith, found.holds, few, low)))
    (append_cancel_left (sign_after done) (note_text first ++ after) (note_text note ++ next)
    (sym (append_assoc (sign_after done) (note_text first) after) ∙ here ∙ sym found.begins ∙ append_assoc (sign_after done) (note_text note) next)) ∙ found.holds in
    let is = found.only first after number (after_marks left more ends) here in (
      left,
      subst (λ (n : ℕ). AreFrom monitor (n + 1) left) number from.2,
      are ∙ ap (λ (one : Note). done ++ one ∷ left) is.0 ∙ sym (append_assoc done (note ∷ []) left),
      ap (λ sign. notes_after sign left ++ more) (sign_next done note) ∙ is.1,
    )
  where
    short : (number : ℕ) → number < 2 ^ 33 → IsShort number
    short number less = omega (arith, less)

passed_left : (monitor : MonitorParts) (i : ℕ) (others done : List Note) (more rest : List ℕ)
    → IsLineEnd more
    → IsNoFront Note (λ note. note.condition ≡ i + 1) IsAfterMarks
    (λ note. sign_after done ++ note_text note) rest
    → Left monitor (i + 1) others done more rest → Left monitor (i + 1 + 1) others done more rest
passed_left monitor i others done more rest ends none ([], from, are, same) = ([], tt, are, same)
passed_left monitor i others done more rest ends none (first ∷ left, from, are, same) =
    let here : sign_after done ++ note_text first ++ (notes_after (codes ", ") left ++ more) ≡ rest = sym (note_first (sign_after done) first left more) ∙ same in
    let differs : first.condition ≡ i + 1 → ⊥ = λ is. none first (notes_after (codes ", ") left ++ more) is (after_marks left more ends) here in
    (first ∷ left, (above first.condition from.0 differs, from.1, from.2), are, same)
  where
    above : (number : ℕ) → i + 1 ≤ number → (number ≡ i + 1 → ⊥) → i + 1 + 1 ≤ number
    above number low differs = elim (cases_order number (i + 1)) [
      | inl same ↦ absurd (differs same)
      | inr (inl less) ↦ absurd (omega (arith, less, low))
      | inr (inr more) ↦ omega (arith, more)
    ]

going_taken : (monitor : MonitorParts) (bytes : List ℕ) (i : ℕ) (done : List Note) (note : Note)
    (rest next : List ℕ) → length monitor.conditions < 2 ^ 32 → i < length monitor.conditions
    → IsFront Note (λ note. note.condition ≡ i + 1) IsAfterMarks
    (λ note. sign_after done ++ note_text note) rest note next → IsGoing monitor bytes i done rest
    → IsGoing monitor bytes (i + 1) (done ++ note ∷ []) next
going_taken monitor bytes i done note rest next few low found going = record {
  fits = λ left from.
      subst (AreFrom monitor 1) (sym (append_assoc done (note ∷ []) left))
      (going.fits (note ∷ left)
      (omega (arith, found.holds), omega (arith, found.holds, low), subst (λ (n : ℕ). AreFrom monitor (n + 1) left) (sym found.holds) from));
  front =
      ap (λ text. text ++ next) (notes_push [] done note ∙ ap (λ sign. notes_after [] done ++ (sign ++ note_text note)) (sign_is done))
      ∙ append_assoc (notes_after [] done) (sign_after done ++ note_text note) next ∙ ap (λ text. notes_after [] done ++ text) found.begins ∙ going.front;
  only = λ others more from ends same. taken_left monitor i others done note more rest next few low ends found (going.only others more from ends same);
}

going_passed : (monitor : MonitorParts) (bytes : List ℕ) (i : ℕ) (done : List Note) (rest : List ℕ)
    → IsNoFront Note (λ note. note.condition ≡ i + 1) IsAfterMarks
    (λ note. sign_after done ++ note_text note) rest → IsGoing monitor bytes i done rest
    → IsGoing monitor bytes (i + 1) done rest
going_passed monitor bytes i done rest none going = record {
  fits = λ left from. going.fits left (later_from monitor (i + 1) left from);
  front = going.front;
  only = λ others more from ends same. passed_left monitor i others done more rest ends none (going.only others more from ends same);
}

pub going_turn : (monitor : MonitorParts) (bytes : List ℕ) (i : ℕ) (before now : List Note)
    (rest next : List ℕ) → length monitor.conditions < 2 ^ 32 → i < length monitor.conditions
    → IsNoteTurn (i + 1) rest next before now → IsGoing monitor bytes i before rest
    → IsGoing monitor bytes (i + 1) now next
going_turn monitor bytes i before now rest next few low (inl (note, found, is)) going =
    subst (λ (done : List Note). IsGoing monitor bytes (i + 1) done next) (sym is) (going_taken monitor bytes i before note rest next few low found going)
going_turn monitor bytes i before now rest next few low (inr (none, same, is)) going =
    subst (λ (done : List Note). IsGoing monitor bytes (i + 1) done next) (sym is)
    (subst (λ text. IsGoing monitor bytes (i + 1) before text) (sym same) (going_passed monitor bytes i before rest none going))

end_left : (monitor : MonitorParts) (first : ℕ) (others done : List Note) (more rest : List ℕ)
    → length monitor.conditions < first → Left monitor first others done more rest
    → (others ≡ done) × (more ≡ rest)
end_left monitor first others done more rest past ([], from, are, same) = (are ∙ append-nil done, same)
end_left monitor first others done more rest past (note ∷ left, from, are, same) = absurd (omega (arith, past, from.0, from.1))

pub going_end : (monitor : MonitorParts) (bytes : List ℕ) (i : ℕ) (done : List Note) (rest : List ℕ)
    → length monitor.conditions ≤ i → IsGoing monitor bytes i done rest
    → IsFront (List Note) (AreNotesOf monitor) IsLineEnd (notes_after []) bytes done rest
going_end monitor bytes i done rest end going = record {
  holds = to_notes monitor done (subst (AreFrom monitor 1) (append-nil done) (going.fits [] tt));
  begins = going.front;
  only = λ others more are ends same. end_left monitor (i + 1) others done more rest (omega (arith, end)) (going.only others more (from_notes monitor others are) ends same);
}

-- ---- a whole list

abbrev some_line : List Note → List ℕ
some_line notes = notes_after [] notes ++ codes "\n"

abbrev notes_line : List Note → List ℕ
notes_line notes = notes_text notes ++ codes "\n"

pub some_front : (monitor : MonitorParts) (bytes rest left : List ℕ) (notes : List Note)
    → IsFront (List Note) (AreNotesOf monitor) IsLineEnd (notes_after []) bytes notes rest
    → 0 < length notes → codes "\n" ++ left ≡ rest
    → IsFront (List Note) (AreSomeNotesOf monitor) Anything some_line bytes notes left
some_front monitor bytes rest left notes front some here = record {
  holds = (front.holds, some);
  begins = append_assoc (notes_after [] notes) (codes "\n") left ∙ ap (λ text. notes_after [] notes ++ text) here ∙ front.begins;
  only = λ others more are ends same.
      let found = front.only others (codes "\n" ++ more) are.0 (more, refl) (sym (append_assoc (notes_after [] others) (codes "\n") more) ∙ same) in
      (found.0, append_cancel_left (codes "\n") more left (found.1 ∙ sym here));
}

pub some_unended : (monitor : MonitorParts) (bytes rest : List ℕ) (notes : List Note)
    → IsFront (List Note) (AreNotesOf monitor) IsLineEnd (notes_after []) bytes notes rest
    → ((left : List ℕ) → codes "\n" ++ left ≡ rest → ⊥)
    → IsNoFront (List Note) (AreSomeNotesOf monitor) Anything some_line bytes
some_unended monitor bytes rest notes front none others more are ends same =
    none more (front.only others (codes "\n" ++ more) are.0 (more, refl) (sym (append_assoc (notes_after [] others) (codes "\n") more) ∙ same)).1

pub some_empty : (monitor : MonitorParts) (bytes rest : List ℕ) (notes : List Note)
    → IsFront (List Note) (AreNotesOf monitor) IsLineEnd (notes_after []) bytes notes rest
    → length notes ≡ 0 → IsNoFront (List Note) (AreSomeNotesOf monitor) Anything some_line bytes
some_empty monitor bytes rest notes front empty others more are ends same =
    let found = front.only others (codes "\n" ++ more) are.0 (more, refl) (sym (append_assoc (notes_after [] others) (codes "\n") more) ∙ same) in
    omega (arith, ap {B = ℕ} length found.0, empty, are.1)

later_text : (notes : List Note)
    → flat_map (λ text. codes ", " ++ text) (map note_text notes) ≡ notes_after (codes ", ") notes
later_text [] = refl
later_text (note ∷ notes) = ap (λ text. codes ", " ++ note_text note ++ text) (later_text notes)

line_same : (note : Note) (notes : List Note) → notes_line (note ∷ notes) ≡ some_line (note ∷ notes)
line_same note notes = ap (λ text. note_text note ++ text ++ codes "\n") (later_text notes)

pub notes_none : (monitor : MonitorParts) (bytes rest : List ℕ) → codes "none\n" ++ rest ≡ bytes
    → IsFront (List Note) (AreNotesOf monitor) Anything notes_line bytes [] rest
notes_none monitor bytes rest here = record {
  holds = to_notes monitor [] tt;
  begins = here;
  only = only;
}
  where
    only : (others : List Note) (more : List ℕ) → AreNotesOf monitor others → Anything more
        → notes_line others ++ more ≡ bytes → (others ≡ []) × (more ≡ rest)
    only [] more are ends same = (refl, append_cancel_left (codes "none\n") more rest (same ∙ sym here))
    only (note ∷ notes) more are ends same =
        let later : List ℕ = flat_map (λ text. codes ", " ++ text) (map note_text notes) in
        absurd (no_digit note (later ++ (codes "\n" ++ more)) 110 (codes "one\n" ++ rest) refl
        (sym (append_assoc (note_text note) later (codes "\n" ++ more)) ∙ sym (append_assoc (note_text note ++ later) (codes "\n") more) ∙ same ∙ sym here))

pub notes_some : (monitor : MonitorParts) (bytes rest : List ℕ) (notes : List Note)
    → ((left : List ℕ) → codes "none\n" ++ left ≡ bytes → ⊥)
    → IsFront (List Note) (AreSomeNotesOf monitor) Anything some_line bytes notes rest
    → IsFront (List Note) (AreNotesOf monitor) Anything notes_line bytes notes rest
notes_some monitor bytes rest notes none front = record {
  holds = front.holds.0;
  begins = by_notes notes front.holds.1 front.begins;
  only = only;
}
  where
    by_notes : (notes : List Note) → 0 < length notes → some_line notes ++ rest ≡ bytes
        → notes_line notes ++ rest ≡ bytes
    by_notes [] some begins = absurd (omega (arith, some))
    by_notes (note ∷ notes) some begins = ap (λ text. text ++ rest) (line_same note notes) ∙ begins

    only : (others : List Note) (more : List ℕ) → AreNotesOf monitor others → Anything more
        → notes_line others ++ more ≡ bytes → (others ≡ notes) × (more ≡ rest)
    only [] more are ends same = absurd (none more same)
    only (note ∷ others) more are ends same = front.only (note ∷ others) more (are, omega arith) tt (ap (λ text. text ++ more) (sym (line_same note others)) ∙ same)

pub notes_neither : (monitor : MonitorParts) (bytes : List ℕ)
    → ((left : List ℕ) → codes "none\n" ++ left ≡ bytes → ⊥)
    → IsNoFront (List Note) (AreSomeNotesOf monitor) Anything some_line bytes
    → IsNoFront (List Note) (AreNotesOf monitor) Anything notes_line bytes
notes_neither monitor bytes none neither [] more are ends same = none more same
notes_neither monitor bytes none neither (note ∷ others) more are ends same =
    neither (note ∷ others) more (are, omega arith) tt (ap (λ text. text ++ more) (sym (line_same note others)) ∙ same)

pub notes_either : (monitor : MonitorParts) (bytes : List ℕ)
    (answer : Result (Option (List Note × Bor (List ℕ))) AllocError)
    → ((left : List ℕ) → codes "none\n" ++ left ≡ bytes → ⊥)
    → IfOk answer
    (λ found. MatchOption found (IsNoFront (List Note) (AreSomeNotesOf monitor) Anything some_line bytes)
    (λ read. IsFront (List Note) (AreSomeNotesOf monitor) Anything some_line bytes read.0 read.1.now))
    → IfOk answer
    (λ found. MatchOption found (IsNoFront (List Note) (AreNotesOf monitor) Anything notes_line bytes)
    (λ read. IsFront (List Note) (AreNotesOf monitor) Anything notes_line bytes read.0 read.1.now))
notes_either monitor bytes (Ok None) none told = notes_neither monitor bytes none told
notes_either monitor bytes (Ok (Some read)) none told = notes_some monitor bytes read.1.now read.0 none told
notes_either monitor bytes (Err fault) none told = tt
