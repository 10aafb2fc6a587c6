-- The lines of what blocks have on counted conditions are those of the questions that the counted
-- plan rests on.
use Rattle.std.proofs.Common.{◌≡◌, ℕ, suc, ◌+◌, List, [], ◌∷◌, ◌++◌, map, length, Option, Some, None, refl, sym, ap, ap₂, subst, ◌∙◌, append_assoc, append-nil, length-append, arith}
use Rattle.std.specs.Prelude.{All, slice_get}
use Rattle.std.specs.List.{enumerate_from, flat_map, range_with_len}
use Rattle.std.proofs.lemmas.List.Elements.{All-head, All-tail}
use Rattle.logic_cert.specs.declared.cert.Cert.{Cert}
use Rattle.lang_monitor.specs.MonitorParts.{MonitorParts}
use Rattle.machine_events.specs.declared.plan.Note.{Note}
use Rattle.machine_events.specs.declared.plan.Plan.{Plan}
use Rattle.machine_events.specs.Plans.{notes_at}
use Rattle.plan_place.specs.Relayed.{note_on}
use Rattle.plan_count.specs.declared.question.Question.{Question}
use Rattle.plan_count.specs.declared.question.Question.TheVariants as questions
use Rattle.plan_counted.specs.declared.counted.Column.{Column}
use Rattle.plan_counted.specs.declared.counted.Told.{Told}
use Rattle.plan_counted.specs.declared.counted.Told.TheVariants as telling
use Rattle.plan_counted.specs.Counted.{told_note}
use Rattle.report_tally.specs.CountedReports.{answer_text, answers_text, condition_questions, note_questions}
use Rattle.report_tally.specs.CountedTexts.{column_certs, column_row, column_text, told_certs, told_text}

-- ---- the questions that what a block has answers

abbrev pub told_questions : ℕ → ℕ → ℕ → Told → List Question
told_questions condition row block (telling.Nothing counts) = questions.Counts condition row block ∷ []
told_questions condition row block (telling.Signal gives first) = questions.Gives condition row block ∷ questions.First condition row block ∷ []
told_questions condition row block telling.Broadcast = []

abbrev pub column_questions : ℕ → Option Column → List Question
column_questions condition None = []
column_questions condition (Some column) = flat_map (λ one. told_questions condition column.row one.0 one.1) (enumerate_from 0 column.told)

noted : (condition row block : ℕ) (told : Told) (placed : Option Note) → note_questions condition row block (told_note condition told placed) ≡ told_questions condition row block told
noted condition row block (telling.Nothing counts) placed = refl
noted condition row block (telling.Signal gives first) placed = refl
noted condition row block telling.Broadcast placed = refl

-- ---- they are those of the plan

-- of each block of a column the note is as it is told
abbrev pub IsTold : Plan → ℕ → ℕ → Told → Type 0
IsTold plan condition block told = (placed : Option Note) × (note_on (notes_at plan block) condition ≡ told_note condition told placed)

column_asked : (plan : Plan) (condition row first : ℕ) (column : List Told)
    → ((k : ℕ) (told : Told) → slice_get column k ≡ Some told → IsTold plan condition (first + k) told)
    → flat_map (λ block. note_questions condition row block (note_on (notes_at plan block) condition)) (range_with_len first (length column))
    ≡ flat_map (λ one. told_questions condition row one.0 one.1) (enumerate_from first column)
column_asked plan condition row first [] each = refl
column_asked plan condition row first (told ∷ column) each =
    let start : first + 0 ≡ first = omega arith in
    let own = subst (λ (block : ℕ). IsTold plan condition block told) start (each 0 told refl) in
    ap₂ (λ (a b : List Question). a ++ b) (ap (note_questions condition row first) own.1 ∙ noted condition row first told own.0)
    (column_asked plan condition row (first + 1) column (λ k one there.
    let far : first + suc k ≡ first + 1 + k = omega arith in
    subst (λ (block : ℕ). IsTold plan condition block one) far (each (suc k) one there)))

-- of each counted condition, what each block has is told
abbrev pub AreTold : MonitorParts → Plan → ℕ → Option Column → Type 0
AreTold monitor plan condition None = Unit {0}
AreTold monitor plan condition (Some column) =
    (length column.told ≡ length monitor.blocks) × ((k : ℕ) (told : Told) → slice_get column.told k ≡ Some told → IsTold plan condition k told)

condition_asked : (monitor : MonitorParts) (plan : Plan) (condition : ℕ) (column : Option Column) → AreTold monitor plan condition column
    → condition_questions monitor plan condition (column_row column) ≡ column_questions condition column
condition_asked monitor plan condition None are = refl
condition_asked monitor plan condition (Some column) are =
    ap (λ (many : ℕ). flat_map (λ block. note_questions condition column.row block (note_on (notes_at plan block) condition)) (range_with_len 0 many)) (sym are.0)
    ∙ column_asked plan condition column.row 0 column.told (λ k told there.
    let same : k ≡ 0 + k = omega arith in
    subst (λ (block : ℕ). IsTold plan condition block told) same (are.1 k told there))

pub asked_of : (monitor : MonitorParts) (plan : Plan) (first : ℕ) (columns : List (Option Column))
    → All (λ one. AreTold monitor plan one.0 one.1) (enumerate_from first columns)
    → flat_map (λ one. condition_questions monitor plan one.0 one.1) (enumerate_from first (map column_row columns))
    ≡ flat_map (λ one. column_questions one.0 one.1) (enumerate_from first columns)
asked_of monitor plan first [] each = refl
asked_of monitor plan first (column ∷ columns) each =
    let P : ℕ × Option Column → Type 0 = λ one. AreTold monitor plan one.0 one.1 in
    ap₂ (λ (a b : List Question). a ++ b) (condition_asked monitor plan first column (All-head P (first, column) (enumerate_from (first + 1) columns) each))
    (asked_of monitor plan (first + 1) columns (All-tail P (first, column) (enumerate_from (first + 1) columns) each))

-- ---- their lines

pub zipped : (monitor : MonitorParts) (asked more : List Question) (certs later : List Cert) → length asked ≡ length certs
    → answers_text monitor (asked ++ more) (certs ++ later) ≡ answers_text monitor asked certs ++ answers_text monitor more later
zipped monitor [] more [] later same = refl
zipped monitor [] more (cert ∷ certs) later same = absurd (omega (arith, same))
zipped monitor (question ∷ asked) more [] later same = absurd (omega (arith, same))
zipped monitor (question ∷ asked) more (cert ∷ certs) later same =
    ap (λ text. answer_text monitor question cert ++ text) (zipped monitor asked more certs later (omega (arith, same)))
    ∙ sym (append_assoc (answer_text monitor question cert) (answers_text monitor asked certs) (answers_text monitor more later))

pub told_many : (condition row block : ℕ) (told : Told) → length (told_questions condition row block told) ≡ length (told_certs told)
told_many condition row block (telling.Nothing counts) = refl
told_many condition row block (telling.Signal gives first) = refl
told_many condition row block telling.Broadcast = refl

told_line : (monitor : MonitorParts) (condition row block : ℕ) (told : Told)
    → answers_text monitor (told_questions condition row block told) (told_certs told) ≡ told_text monitor condition row block told
told_line monitor condition row block (telling.Nothing counts) = append-nil (answer_text monitor (questions.Counts condition row block) counts)
told_line monitor condition row block (telling.Signal gives first) =
    ap (λ text. answer_text monitor (questions.Gives condition row block) gives ++ text) (append-nil (answer_text monitor (questions.First condition row block) first))
told_line monitor condition row block telling.Broadcast = refl

column_lines : (monitor : MonitorParts) (condition row first : ℕ) (column : List Told)
    → answers_text monitor (flat_map (λ one. told_questions condition row one.0 one.1) (enumerate_from first column)) (flat_map told_certs column)
    ≡ flat_map (λ one. told_text monitor condition row one.0 one.1) (enumerate_from first column)
column_lines monitor condition row first [] = refl
column_lines monitor condition row first (told ∷ column) =
    zipped monitor (told_questions condition row first told) (flat_map (λ one. told_questions condition row one.0 one.1) (enumerate_from (first + 1) column)) (told_certs told) (flat_map told_certs column) (told_many condition row first told)
    ∙ ap₂ (λ (a b : List ℕ). a ++ b) (told_line monitor condition row first told) (column_lines monitor condition row (first + 1) column)

column_many : (condition row first : ℕ) (column : List Told)
    → length (flat_map (λ one. told_questions condition row one.0 one.1) (enumerate_from first column)) ≡ length (flat_map told_certs column)
column_many condition row first [] = refl
column_many condition row first (told ∷ column) =
    let more = flat_map (λ one. told_questions condition row one.0 one.1) (enumerate_from (first + 1) column) in
    omega (arith, length-append (told_questions condition row first told) more, length-append (told_certs told) (flat_map told_certs column), told_many condition row first told, column_many condition row (first + 1) column)

pub condition_many : (condition : ℕ) (column : Option Column) → length (column_questions condition column) ≡ length (column_certs column)
condition_many condition None = refl
condition_many condition (Some column) = column_many condition column.row 0 column.told

condition_lines : (monitor : MonitorParts) (condition : ℕ) (column : Option Column)
    → answers_text monitor (column_questions condition column) (column_certs column) ≡ column_text monitor condition column
condition_lines monitor condition None = refl
condition_lines monitor condition (Some column) = column_lines monitor condition column.row 0 column.told

pub columns_lines : (monitor : MonitorParts) (first : ℕ) (columns : List (Option Column))
    → answers_text monitor (flat_map (λ one. column_questions one.0 one.1) (enumerate_from first columns)) (flat_map column_certs columns)
    ≡ flat_map (λ one. column_text monitor one.0 one.1) (enumerate_from first columns)
columns_lines monitor first [] = refl
columns_lines monitor first (column ∷ columns) =
    zipped monitor (column_questions first column) (flat_map (λ one. column_questions one.0 one.1) (enumerate_from (first + 1) columns)) (column_certs column) (flat_map column_certs columns) (condition_many first column)
    ∙ ap₂ (λ (a b : List ℕ). a ++ b) (condition_lines monitor first column) (columns_lines monitor (first + 1) columns)

pub columns_many : (first : ℕ) (columns : List (Option Column))
    → length (flat_map (λ one. column_questions one.0 one.1) (enumerate_from first columns)) ≡ length (flat_map column_certs columns)
columns_many first [] = refl
columns_many first (column ∷ columns) =
    let more = flat_map (λ one. column_questions one.0 one.1) (enumerate_from (first + 1) columns) in
    omega (arith, length-append (column_questions first column) more, length-append (column_certs column) (flat_map column_certs columns), condition_many first column, columns_many (first + 1) columns)
