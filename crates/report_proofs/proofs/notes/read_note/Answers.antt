use Rattle.std.proofs.Common.{◌≡◌, ℕ, List, ◌++◌, Option, Bor, rules, codes, decimal, sym, ap, subst, ◌∙◌}
use Rattle.std.specs.Prelude.{Bool, MatchOption}
use Rattle.report_proofs.specs.Fronts.{Anything, IsAfter, IsFront, IsNoFront}
use Rattle.report_proofs.specs.inner.Reading.{IsAfterMarks, marks_text}
use Rattle.report_proofs.proofs.NoteLines.{note_found, note_unmarked}
use Rattle.report_proofs.proofs.notes.read_note.Goals as goal

pub returns-in-Some-read_marks : goal.returns-in-Some-read_marks
returns-in-Some-read_marks c =
    let sign = c.args.sign.now in
    let digits : c.as_bytes-digits.result.now ≡ decimal c.args.number = search rules in
    let here = subst (IsAfter c.args.bytes.now (sign ++ c.as_bytes-digits.result.now ++ codes " ")) c.in-Some.is c.after_number.ensures in
    let number : (sign ++ decimal c.args.number ++ codes " ") ++ c.in-Some.rest.now ≡ c.args.bytes.now = ap (λ text. (sign ++ text ++ codes " ") ++ c.in-Some.rest.now) (sym digits) ∙ here in
    let marks =
    subst (λ (found : Option ((Bool × Bool) × Bor (List ℕ))). MatchOption found (IsNoFront (Bool × Bool) Anything IsAfterMarks marks_text c.in-Some.rest.now)
    (λ read. IsFront (Bool × Bool) Anything IsAfterMarks marks_text c.in-Some.rest.now read.0 read.1.now)) c.in-Some-read_marks.is c.read_marks.ensures in
    note_found c.args.number sign c.args.bytes.now c.in-Some.rest.now c.in-Some-read_marks.left.now c.noted.result.1.now c.in-Some-read_marks.marks c.noted.result.0 number marks c.noted.ensures.note
    c.noted.ensures.rest

pub returns-in-None-read_marks : goal.returns-in-None-read_marks
returns-in-None-read_marks c =
    let sign = c.args.sign.now in
    let digits : c.as_bytes-digits.result.now ≡ decimal c.args.number = search rules in
    let here = subst (IsAfter c.args.bytes.now (sign ++ c.as_bytes-digits.result.now ++ codes " ")) c.in-Some.is c.after_number.ensures in
    let number : (sign ++ decimal c.args.number ++ codes " ") ++ c.in-Some.rest.now ≡ c.args.bytes.now = ap (λ text. (sign ++ text ++ codes " ") ++ c.in-Some.rest.now) (sym digits) ∙ here in
    note_unmarked c.args.number sign c.args.bytes.now c.in-Some.rest.now number
    (subst (λ (found : Option ((Bool × Bool) × Bor (List ℕ))). MatchOption found (IsNoFront (Bool × Bool) Anything IsAfterMarks marks_text c.in-Some.rest.now)
    (λ read. IsFront (Bool × Bool) Anything IsAfterMarks marks_text c.in-Some.rest.now read.0 read.1.now)) c.in-None-read_marks.is c.read_marks.ensures)
