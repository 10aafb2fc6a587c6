-- For private contracts: what stands at the front of a text, and what is left after it.
use Rattle.std.specs.Prelude.{◌≡◌, ◌⊎◌, ℕ, ◌+◌, ◌<◌, ◌≤◌, Bool, List, [], ◌∷◌, ◌++◌, length}
use Rattle.std.specs.Prelude.{Option, Some, None, codes, decimal}
use Rattle.std.specs.List.{flat_map}
use Rattle.lang_monitor.specs.MonitorParts.{MonitorParts}
use Rattle.machine_events.specs.declared.plan.CondKind.{CondKind}
use Rattle.machine_events.specs.declared.plan.Note.{Note}
use Rattle.machine_events.specs.declared.plan.Plan.{Plan}
use Rattle.machine_events.specs.PlanText.{blocks_text, conditions_text, kept_text, kind_text}
use Rattle.machine_events.specs.PlanText.{note_kind, note_text, tested_text}
use Rattle.logic_cert.specs.declared.cert.Cert.{Cert}
use Rattle.plan_claims.specs.Backing.{backed_claims}
use Rattle.report_verdict.specs.declared.report.Report.{Report}
use Rattle.report_proofs.specs.Readings.{IsReadable}
use Rattle.report_proofs.specs.ReportTexts.{proofs_text}
use Rattle.report_verdict.specs.Reports.{AreNotesOf}
use Rattle.report_proofs.specs.Fronts.{AreFor, IsFront, IsNoFront}

-- The thing was added to those before, since its text stands at the front of the bytes; or nothing
-- was, since it doesn't.
abbrev pub IsTurn : {X : Type 0} → List ℕ → X → List ℕ → List ℕ → List X → List X → Type 0
IsTurn text x bytes rest before now =
    ((text ++ rest ≡ bytes) × (now ≡ before ++ x ∷ []))
    ⊎ (((more : List ℕ) → text ++ more ≡ bytes → ⊥) × (rest ≡ bytes) × (now ≡ before))

-- ---- notes

-- of which kind a note is, and whether it is tested
abbrev pub marks_text : Bool × Bool → List ℕ
marks_text marks = kind_text (note_kind marks.0) ++ tested_text marks.1

-- the bytes don't go on with a blank
abbrev pub IsAfterMarks : List ℕ → Type 0
IsAfterMarks text = (more : List ℕ) → text ≡ codes " " ++ more → ⊥

-- the line of a block's notes ends
abbrev pub IsLineEnd : List ℕ → Type 0
IsLineEnd text = (more : List ℕ) × (text ≡ codes "\n" ++ more)

-- each note after what separates it from the one before, the first after this
abbrev pub notes_after : List ℕ → List Note → List ℕ
notes_after sign [] = []
notes_after sign (note ∷ notes) = sign ++ note_text note ++ notes_after (codes ", ") notes

-- what separates the next note from these
abbrev pub sign_after : List Note → List ℕ
sign_after [] = []
sign_after (note ∷ notes) = codes ", "

-- the notes of a block that has some
abbrev pub AreSomeNotesOf : MonitorParts → List Note → Type 0
AreSomeNotesOf monitor notes = AreNotesOf monitor notes × (0 < length notes)

-- the note on a condition, after what separates it from those before
abbrev pub IsNote : ℕ → List Note → List ℕ → Note → List ℕ → Type 0
IsNote number before = IsFront Note (λ note. note.condition ≡ number) IsAfterMarks
    (λ note. sign_after before ++ note_text note)

-- the note on a condition was added to those before, or there was none
abbrev pub IsNoteTurn : ℕ → List ℕ → List ℕ → List Note → List Note → Type 0
IsNoteTurn number bytes rest before now =
    ((note : Note) × IsNote number before bytes note rest × (now ≡ before ++ note ∷ []))
    ⊎ (IsNoFront Note (λ note. note.condition ≡ number) IsAfterMarks
    (λ note. sign_after before ++ note_text note) bytes × (rest ≡ bytes) × (now ≡ before))

-- the conditions of the notes rise, from `first` on
abbrev pub AreFrom : MonitorParts → ℕ → List Note → Type 0
AreFrom monitor first [] = Unit {0}
AreFrom monitor first (note ∷ notes) =
    (first ≤ note.condition) × (note.condition ≤ length monitor.conditions)
    × AreFrom monitor (note.condition + 1) notes

-- ---- conditions

-- a condition's line, which shows its guard so
abbrev pub line_of_kind : ℕ → List ℕ → CondKind → List ℕ
line_of_kind number shown kind =
    codes "condition " ++ decimal number ++ codes " " ++ kind_text kind ++ codes ": " ++ shown
    ++ codes "\n"

-- ---- plans

-- the text of a plan but for its first line
abbrev pub parts_text : MonitorParts → Plan → List ℕ
parts_text monitor plan =
    flat_map (kept_text monitor.fields) plan.kept
    ++ (conditions_text monitor.conditions plan.kinds ++ blocks_text monitor plan.notes)

-- ---- reports

-- the report of the plan with readable certificates whose lines the bytes are, and those of no
-- others; there is none
abbrev pub IsWithProofs : MonitorParts → Plan → List ℕ → Option Report → Type 0
IsWithProofs monitor plan bytes (Some report) =
    (report.plan ≡ plan) × AreFor (backed_claims monitor plan) IsReadable report.proofs
    × (proofs_text monitor (backed_claims monitor plan) report.proofs ≡ bytes)
    × ((others : List Cert) → AreFor (backed_claims monitor plan) IsReadable others
    → proofs_text monitor (backed_claims monitor plan) others ≡ bytes → others ≡ report.proofs)
IsWithProofs monitor plan bytes None =
    (proofs : List Cert) → AreFor (backed_claims monitor plan) IsReadable proofs
    → proofs_text monitor (backed_claims monitor plan) proofs ≡ bytes → ⊥
