-- What is written of a plan that was placed and then counted is the text of its report.
use Rattle.std.proofs.Common.{◌≡◌, ◌==◌, inl, inr, ℕ, zero, suc, ◌+◌, ◌-◌, ◌<◌, ◌≤◌, Bool, true, false, cond, List, [], ◌∷◌, ◌++◌, map, length, Option, Some, None, refl, sym, ap, ap₂, subst, ◌∙◌, append_assoc, length-append, arith}
use Rattle.std.specs.Prelude.{All, IsSomeAnd, is_some, slice_get, unwrap_or}
use Rattle.std.specs.List.{enumerate_from, filter, flat_map, range_with_len}
use Rattle.std.specs.Option.{option_map_or}
use Rattle.std.proofs.lemmas.List.{length-map, nil_from_length}
use Rattle.std.proofs.lemmas.List.Elements.{All-nil, All-cons}
use Rattle.std.proofs.lemmas.Bool.{cases_eq, eq-eqb, true≢false}
use Rattle.std.proofs.lemmas.Option.{none-some, same_Some, slice_get_within}
use Rattle.lang_monitor.specs.declared.claim.Claim.{Claim}
use Rattle.lang_monitor.specs.declared.monitor.Block.{Block}
use Rattle.lang_monitor.specs.MonitorParts.{MonitorParts}
use Rattle.machine_events.specs.declared.plan.CondKind.{CondKind}
use Rattle.machine_events.specs.declared.plan.CondKind.TheVariants as kinds
use Rattle.machine_events.specs.declared.plan.Note.{Note}
use Rattle.machine_events.specs.declared.plan.Plan.{Plan}
use Rattle.machine_events.specs.Plans.{condition_kind, notes_at}
use Rattle.machine_events.specs.PlanText.{plan_text}
use Rattle.plan_claims.specs.declared.placed.PlacedPlan.{PlacedPlan}
use Rattle.plan_claims.specs.declared.placed.Proof.{Proof}
use Rattle.logic_wp.specs.PlainClaims.{IsConditionNumber}
use Rattle.plan_claims.specs.Backing.{waits_at}
use Rattle.plan_place.specs.Relayed.{note_on}
use Rattle.plan_counted.specs.declared.counted.CountedPlan.{CountedPlan}
use Rattle.plan_counted.specs.declared.counted.Column.{Column}
use Rattle.plan_counted.specs.declared.counted.Told.{Told}
use Rattle.plan_counted.specs.Counted.{IsColumnBacked, IsCountedFrom, IsMadeSignal, IsTold as IsToldFrom, IsWholeColumn, column_at, counted_kind, counted_kinds, counted_of, told_by, told_on}
use Rattle.plan_counted.proofs.Table.{length_numbered, note_is, numbered_at}
use Rattle.plan_claims.proofs.Lists.{in_numbered}
use Rattle.plan_count.specs.declared.question.Question.{Question}
use Rattle.plan_count.specs.Questions.{HasRowAt}
use Rattle.report_proofs.specs.ReportTexts.{proof_text, proofs_text}
use Rattle.report_verdict.proofs.Pairs.{at_place}
use Rattle.report_proofs.proofs.PlacedTexts.{plan_of}
use Rattle.report_tally.specs.CountedReports.{AreCounted, IsCountedReport, MayBeCounted, answers_text, block_questions, counted_report_text, note_questions, owed_claims, owed_questions}
use Rattle.report_tally.specs.CountedTexts.{IsCountingOf, column_certs, column_row, columns_text, counted_report_of, counted_text, is_still_owed, still_owed_proofs, still_owed_text}
use Rattle.report_tally.proofs.AnswerLines.{AreTold, asked_of, column_questions, columns_lines, columns_many}
use Rattle.report_tally.proofs.StillOwed.{KeepsNotes, claims_still_owed}

-- ---- the lines of the proofs

still_owed_lines : (monitor : MonitorParts) (columns : List (Option Column)) (proofs : List Proof)
    → flat_map (still_owed_text monitor columns) proofs
    ≡ proofs_text monitor (filter (is_still_owed columns) (map (λ proof. proof.claim) proofs)) (map (λ proof. proof.cert) (still_owed_proofs columns proofs))
still_owed_lines monitor columns [] = refl
still_owed_lines monitor columns (proof ∷ proofs) = by_owed (is_still_owed columns proof.claim) (still_owed_lines monitor columns proofs)
  where
    wanted : List Claim
    wanted = filter (is_still_owed columns) (map (λ proof. proof.claim) proofs)

    some : List Proof
    some = still_owed_proofs columns proofs

    by_owed : (owed : Bool) → flat_map (still_owed_text monitor columns) proofs ≡ proofs_text monitor wanted (map (λ proof. proof.cert) some)
        → cond owed (proof_text monitor proof.claim proof.cert) [] ++ flat_map (still_owed_text monitor columns) proofs
        ≡ proofs_text monitor (cond owed (proof.claim ∷ wanted) wanted) (map (λ proof. proof.cert) (cond owed (proof ∷ some) some))
    by_owed true rest = ap (λ text. proof_text monitor proof.claim proof.cert ++ text) rest
    by_owed false rest = rest

still_owed_many : (columns : List (Option Column)) (proofs : List Proof)
    → length (still_owed_proofs columns proofs) ≡ length (filter (is_still_owed columns) (map (λ proof. proof.claim) proofs))
still_owed_many columns [] = refl
still_owed_many columns (proof ∷ proofs) = by_owed (is_still_owed columns proof.claim) (still_owed_many columns proofs)
  where
    by_owed : (owed : Bool) → length (still_owed_proofs columns proofs) ≡ length (filter (is_still_owed columns) (map (λ proof. proof.claim) proofs))
        → length (cond owed (proof ∷ still_owed_proofs columns proofs) (still_owed_proofs columns proofs))
        ≡ length (cond owed (proof.claim ∷ filter (is_still_owed columns) (map (λ proof. proof.claim) proofs)) (filter (is_still_owed columns) (map (λ proof. proof.claim) proofs)))
    by_owed true rest = ap (λ (n : ℕ). suc n) rest
    by_owed false rest = rest

-- ---- what is known of the counted plan

-- the conditions of columns, of which the first has number 1
at_columns : (columns : List (Option Column)) (k : ℕ) (column : Option Column) → slice_get columns k ≡ Some column
    → column_at columns (1 + k) ≡ column
at_columns columns k column there =
    ap (λ (found : Option (Option Column)). unwrap_or found None) (ap (slice_get columns) {x = 1 + k - 1} {y = k} (omega arith) ∙ there)

-- what holds of each, with its number
numbered_each : {X : Type 0} (P : ℕ × X → Type 0) (first : ℕ) (xs : List X) → ((k : ℕ) (x : X) → slice_get xs k ≡ Some x → P (first + k, x))
    → All P (enumerate_from first xs)
numbered_each P first [] each = All-nil P
numbered_each {X} P first (x ∷ xs) each =
    let start : first + 0 ≡ first = omega arith in
    All-cons P (first, x) (enumerate_from (first + 1) xs) (subst (λ (n : ℕ). P (n, x)) start (each 0 x refl))
    (numbered_each P (first + 1) xs (λ k one there.
    let far : first + suc k ≡ first + 1 + k = omega arith in
    subst (λ (n : ℕ). P (n, one)) far (each (suc k) one there)))

-- the note of a block, as its column says
note_there : (monitor : MonitorParts) (placed : PlacedPlan) (counted : CountedPlan) → IsCountingOf monitor placed counted → (block condition : ℕ)
    → block < length monitor.blocks → 1 ≤ condition → condition ≤ length monitor.conditions
    → note_on (notes_at (counted_of placed.plan counted.columns) block) condition
    ≡ told_on condition block (column_at counted.columns condition) (note_on (notes_at placed.plan block) condition)
note_there monitor placed counted is block condition within first last =
    let notes = at_place placed.plan.notes block (omega (arith, within, is.fits.notes)) in
    note_is placed.plan counted.columns block condition notes.0 notes.1 first (omega (arith, last, is.backed.many))

from : (monitor : MonitorParts) (placed : PlacedPlan) (counted : CountedPlan) → IsCountingOf monitor placed counted
    → IsCountedFrom monitor placed.plan (counted_of placed.plan counted.columns)
from monitor placed counted is = subst (λ (one : Plan). IsCountedFrom monitor placed.plan one) is.plan is.from

keeps_notes : (monitor : MonitorParts) (placed : PlacedPlan) (counted : CountedPlan) → IsCountingOf monitor placed counted → (block condition : ℕ)
    → block < length monitor.blocks → 1 ≤ condition → condition ≤ length monitor.conditions
    → KeepsNotes condition block (column_at counted.columns condition) (note_on (notes_at placed.plan block) condition)
keeps_notes monitor placed counted is block condition within first last none = elim ((from monitor placed counted is).each condition (first, last)) [
  | inl left ↦ sym (left.notes block) ∙ there
  | inr signal ↦ (subst (IsToldFrom monitor placed.plan condition signal.row block) there (signal.told block within)).none
]
  where
    there : note_on (notes_at (counted_of placed.plan counted.columns) block) condition ≡ None
    there = note_there monitor placed counted is block condition within first last ∙ none

told : (monitor : MonitorParts) (placed : PlacedPlan) (counted : CountedPlan) → IsCountingOf monitor placed counted
    → All (λ one. AreTold monitor (counted_of placed.plan counted.columns) one.0 one.1) (enumerate_from 1 counted.columns)
told monitor placed counted is = numbered_each (λ one. AreTold monitor made one.0 one.1) 1 columns (λ k column there. by_column k column there)
  where
    columns : List (Option Column)
    columns = counted.columns

    made : Plan
    made = counted_of placed.plan columns

    whole : (k : ℕ) (column : Option Column) → slice_get columns k ≡ Some column → IsColumnBacked monitor placed.plan.kept (1 + k) column
    whole k column there = in_numbered (λ (one : ℕ × Option Column). IsColumnBacked monitor placed.plan.kept one.0 one.1) 1 columns k column (1 + k) there refl is.backed.each

    by_column : (k : ℕ) (column : Option Column) → slice_get columns k ≡ Some column → AreTold monitor made (1 + k) column
    by_column k None there = tt
    by_column k (Some column) there =
        let low = slice_get_within columns k (Some column) there in
        let many = (whole k (Some column) there).many in (
          many,
          λ block one at. (
            note_on (notes_at placed.plan block) (1 + k),
            note_there monitor placed counted is block (1 + k) (omega (arith, slice_get_within column.told block one at, many)) (omega arith) (omega (arith, low, is.backed.many))
                ∙ ap (λ (found : Option Column). told_on (1 + k) block found (note_on (notes_at placed.plan block) (1 + k))) (at_columns columns k (Some column) there)
                ∙ ap (λ (found : Option Told). told_by (1 + k) found (note_on (notes_at placed.plan block) (1 + k))) at,
          ),
        )

-- a condition that is counted was of kind broadcast, and is of kind signal
kind_there : (monitor : MonitorParts) (placed : PlacedPlan) (counted : CountedPlan) → IsCountingOf monitor placed counted → (k : ℕ) (column : Column)
    → slice_get counted.columns k ≡ Some (Some column) → condition_kind (counted_of placed.plan counted.columns) (1 + k) ≡ Some kinds.Signal
kind_there monitor placed counted is k column there =
    let columns = counted.columns in
    let here : 1 + k - 1 ≡ k = omega arith in
    let low = slice_get_within columns k (Some column) there in
    let kind = at_place placed.plan.kinds k (omega (arith, low, is.backed.many, is.fits.kinds)) in
    ap (slice_get (counted_kinds placed.plan.kinds columns)) here
    ∙ numbered_at (λ (one : ℕ × CondKind). counted_kind one.1 (column_at columns one.0)) 1 placed.plan.kinds k kind.0 kind.1
    ∙ ap {B = Option CondKind} (λ (found : Option Column). Some (counted_kind kind.0 found)) (at_columns columns k (Some column) there)

abbrev is_signal : Option CondKind → Bool
is_signal None = false
is_signal (Some kinds.Signal) = true
is_signal (Some kinds.Broadcast) = false

made_signal : (monitor : MonitorParts) (placed : PlacedPlan) (counted : CountedPlan) → IsCountingOf monitor placed counted → (k : ℕ) (column : Column)
    → slice_get counted.columns k ≡ Some (Some column) → IsMadeSignal monitor placed.plan (counted_of placed.plan counted.columns) (1 + k)
made_signal monitor placed counted is k column there =
    let low = slice_get_within counted.columns k (Some column) there in
    let number : IsConditionNumber monitor (1 + k) = (omega arith, omega (arith, low, is.backed.many)) in
    let was = is.broadcasts (1 + k) number (ap is_some (at_columns counted.columns k (Some column) there)) in
    elim ((from monitor placed counted is).each (1 + k) number) [
      | inl left ↦ absurd (true≢false (ap is_signal (sym (kind_there monitor placed counted is k column there) ∙ left.kind ∙ was)))
      | inr signal ↦ signal
    ]

-- where no block is asked anything, none has no note
nothing_at : {X : Type 0} (f : ℕ → List X) (first count n : ℕ) → first ≤ n → n < first + count → flat_map f (range_with_len first count) ≡ [] → f n ≡ []
nothing_at f first zero n low high nothing = absurd (omega (arith, low, high))
nothing_at {X} f first (suc count) n low high nothing = elim (cases_eq n first) [
  | inl same ↦ ap f same ∙ nil_from_length (f first) (omega (arith, many))
  | inr differs ↦ nothing_at f (first + 1) count n (omega (arith, low, differs)) (omega (arith, high)) (nil_from_length (flat_map f (range_with_len (first + 1) count)) (omega (arith, many)))
]
  where
    many : length (f first) + length (flat_map f (range_with_len (first + 1) count)) ≡ 0
    many = sym (length-append (f first) (flat_map f (range_with_len (first + 1) count))) ∙ ap {B = ℕ} length nothing

waits_test : (found : Option Block) (number : ℕ) → IsSomeAnd found (λ held. held.condition ≡ number) → option_map_or (λ held. held.condition == number) found false ≡ true
waits_test None number waits = absurd waits
waits_test (Some held) number waits = eq-eqb held.condition number waits

waits_within : (blocks : List Block) (index number : ℕ) → IsSomeAnd (slice_get blocks index) (λ held. held.condition ≡ number) → index < length blocks
waits_within blocks index number waits = by_found (slice_get blocks index) refl waits
  where
    by_found : (found : Option Block) → slice_get blocks index ≡ found → IsSomeAnd found (λ held. held.condition ≡ number) → index < length blocks
    by_found None is waits = absurd waits
    by_found (Some held) is waits = slice_get_within blocks index held is

-- a block that waits at a condition that was made a signal has no note on it
waits_unnoted : (monitor : MonitorParts) (placed : Plan) (condition row block : ℕ) (note : Option Note) → waits_at monitor condition block ≡ true
    → IsToldFrom monitor placed condition row block note → note ≡ None
waits_unnoted monitor placed condition row block None waits told = refl
waits_unnoted monitor placed condition row block (Some note) waits told = absurd (true≢false (sym waits ∙ told.other))

-- so it is asked something
something_asked : (monitor : MonitorParts) (placed : PlacedPlan) (counted : CountedPlan) → IsCountingOf monitor placed counted → (k row : ℕ) (column : Column)
    → slice_get counted.columns k ≡ Some (Some column) → block_questions monitor (counted_of placed.plan counted.columns) (1 + k) row ≡ [] → ⊥
something_asked monitor placed counted is k row column there nothing =
    let made = counted_of placed.plan counted.columns in
    let low = slice_get_within counted.columns k (Some column) there in
    let first = is.is.in_order (1 + k) (omega arith) (omega (arith, low, is.backed.many)) in
    let within = waits_within monitor.blocks first.index (1 + k) first.has in
    let signal = made_signal monitor placed counted is k column there in
    let none : note_on (notes_at made first.index) (1 + k) ≡ None =
    waits_unnoted monitor placed.plan (1 + k) signal.row first.index (note_on (notes_at made first.index) (1 + k)) (waits_test (slice_get monitor.blocks first.index) (1 + k) first.has) (signal.told first.index within) in
    let own : note_questions (1 + k) row first.index (note_on (notes_at made first.index) (1 + k)) ≡ [] =
    nothing_at (λ block. note_questions (1 + k) row block (note_on (notes_at made block) (1 + k))) 0 (length monitor.blocks) first.index (omega arith) (omega (arith, within)) nothing in
    absurd (omega (arith, ap {B = ℕ} length (sym (ap (note_questions (1 + k) row first.index) none) ∙ own)))

column_there : (columns : List (Option Column)) (k row : ℕ) → slice_get (map column_row columns) k ≡ Some (Some row)
    → (column : Column) × (slice_get columns k ≡ Some (Some column)) × (column.row ≡ row)
column_there [] k row there = absurd (none-some (Some row) there)
column_there (None ∷ columns) zero row there = absurd (none-some row (same_Some None (Some row) there))
column_there (Some column ∷ columns) zero row there = (column, refl, same_Some column.row row (same_Some (Some column.row) (Some row) there))
column_there (column ∷ columns) (suc k) row there = column_there columns k row there

counts : (monitor : MonitorParts) (placed : PlacedPlan) (counted : CountedPlan) → IsCountingOf monitor placed counted
    → AreCounted monitor (counted_of placed.plan counted.columns) (map column_row counted.columns)
counts monitor placed counted is = record {
  many =
      length-map columns column_row ∙ is.backed.many ∙ sym is.fits.kinds
      ∙ sym (length_numbered (λ (one : ℕ × CondKind). counted_kind one.1 (column_at columns one.0)) 1 placed.plan.kinds);
  each = λ k row there. by_column k row (column_there columns k row there);
}
  where
    columns : List (Option Column)
    columns = counted.columns

    made : Plan
    made = counted_of placed.plan columns

    whole : (k : ℕ) (column : Column) → slice_get columns k ≡ Some (Some column) → IsWholeColumn monitor placed.plan.kept (1 + k) column
    whole k column there = in_numbered (λ (one : ℕ × Option Column). IsColumnBacked monitor placed.plan.kept one.0 one.1) 1 columns k (Some column) (1 + k) there refl is.backed.each

    by_column : (k row : ℕ) → (column : Column) × (slice_get columns k ≡ Some (Some column)) × (column.row ≡ row) → MayBeCounted monitor made (1 + k) row
    by_column k row (column, there, same) = record {
      kind = kind_there monitor placed counted is k column there;
      reads_none = (made_signal monitor placed counted is k column there).reads_none;
      has = subst (HasRowAt monitor (1 + k)) same (whole k column there).has_row;
      named = λ nothing. absurd (something_asked monitor placed counted is k row column there nothing);
    }

-- ---- the text and the report

pub same_claims : (monitor : MonitorParts) (placed : PlacedPlan) (counted : CountedPlan) → IsCountingOf monitor placed counted
    → filter (is_still_owed counted.columns) (map (λ proof. proof.claim) placed.proofs) ≡ owed_claims monitor counted.plan (map column_row counted.columns)
same_claims monitor placed counted is =
    ap (filter (is_still_owed counted.columns)) is.proofs
    ∙ claims_still_owed monitor placed.plan counted.columns (plan_of monitor placed.plan is.fits) is.backed.many (keeps_notes monitor placed counted is)
    ∙ ap (λ (one : Plan). owed_claims monitor one (map column_row counted.columns)) (sym is.plan)

pub same_questions : (monitor : MonitorParts) (placed : PlacedPlan) (counted : CountedPlan) → IsCountingOf monitor placed counted
    → flat_map (λ one. column_questions one.0 one.1) (enumerate_from 1 counted.columns) ≡ owed_questions monitor counted.plan (map column_row counted.columns)
same_questions monitor placed counted is =
    sym (asked_of monitor (counted_of placed.plan counted.columns) 1 counted.columns (told monitor placed counted is))
    ∙ ap (λ (one : Plan). owed_questions monitor one (map column_row counted.columns)) (sym is.plan)

pub text_of : (monitor : MonitorParts) (placed : PlacedPlan) (counted : CountedPlan) → IsCountingOf monitor placed counted
    → counted_text monitor placed counted ≡ counted_report_text monitor (counted_report_of placed counted)
text_of monitor placed counted is =
    append_assoc (plan_text monitor counted.plan) (flat_map (still_owed_text monitor counted.columns) placed.proofs) (columns_text monitor counted.columns)
    ∙ ap (λ text. plan_text monitor counted.plan ++ text) (ap₂ (λ (a b : List ℕ). a ++ b)
    (still_owed_lines monitor counted.columns placed.proofs
    ∙ ap (λ (wanted : List Claim). proofs_text monitor wanted (map (λ proof. proof.cert) (still_owed_proofs counted.columns placed.proofs))) (same_claims monitor placed counted is))
    (sym (columns_lines monitor 1 counted.columns)
    ∙ ap (λ (asked : List Question). answers_text monitor asked (flat_map column_certs counted.columns)) (same_questions monitor placed counted is)))

pub report_of : (monitor : MonitorParts) (placed : PlacedPlan) (counted : CountedPlan) → IsCountingOf monitor placed counted
    → IsCountedReport monitor (counted_report_of placed counted)
report_of monitor placed counted is = record {
  plan = plan_of monitor counted.plan is.counted_fits;
  counted = subst (λ (one : Plan). AreCounted monitor one (map column_row counted.columns)) (sym is.plan) (counts monitor placed counted is);
  proofs =
      length-map (still_owed_proofs counted.columns placed.proofs) (λ (proof : Proof). proof.cert) ∙ still_owed_many counted.columns placed.proofs
      ∙ ap {B = ℕ} length (same_claims monitor placed counted is);
  answers = sym (columns_many 1 counted.columns) ∙ ap {B = ℕ} length (same_questions monitor placed counted is);
}
