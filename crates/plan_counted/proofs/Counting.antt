-- The plan that the answers make fits, is lawful by counting, and is the placed plan, counted.
use Rattle.std.proofs.Common.{◌≡◌, inl, inr, ℕ, zero, suc, ◌+◌, ◌-◌, ◌<◌, ◌≤◌, Bool, true, false, List, [], ◌∷◌, map, length, count_by, Option, Some, None, refl, sym, ap, subst, ◌∙◌, arith}
use Rattle.std.specs.Prelude.{All, slice_get, unwrap_or, IsSomeAnd, IfSome, is_some}
use Rattle.std.specs.List.{enumerate_from, range_with_len}
use Rattle.std.proofs.lemmas.Bool.{true≢false, cases_eq}
use Rattle.std.proofs.lemmas.List.Elements.{All-nil, All-cons, All-head, All-tail}
use Rattle.std.proofs.lemmas.Option.{slice_get_within}
use Rattle.lang_monitor.specs.declared.monitor.Condition.{Condition}
use Rattle.lang_monitor.specs.Conditions.{IsDescribed}
use Rattle.lang_monitor.specs.Inputs.{reads_inputs}
use Rattle.lang_monitor.specs.MonitorParts.{MonitorParts, IsMonitor}
use Rattle.lang_monitor.specs.Triples.{OneEnough}
use Rattle.machine_events.specs.declared.plan.CondKind.{CondKind}
use Rattle.machine_events.specs.declared.plan.CondKind.TheVariants as kinds
use Rattle.machine_events.specs.declared.plan.Note.{Note}
use Rattle.machine_events.specs.declared.plan.Plan.{Plan}
use Rattle.machine_events.specs.Plans.{EachNoteOn, FitsNote, FitsNotes, FitsPlan, IsCondition, IsLawful, IsUntestedBroadcast, condition_kind, has_note, notes_at}
use Rattle.machine_events.specs.Counts.{IsPassedOn}
use Rattle.machine_events.specs.CountClaims.{GuardsCount, IsLawfulByGuards}
use Rattle.machine_events.proofs.Facing.{at_index, all_at}
use Rattle.logic_wp.specs.PlainClaims.{ReadsNone}
use Rattle.plan_place.specs.Relayed.{note_on}
use Rattle.plan_claims.proofs.Lists.{in_numbered}
use Rattle.plan_place.proofs.NotesOn.{all_made, made_rise, on_found}
use Rattle.plan_count.specs.Questions.{AnswersCount, IsToldRight}
use Rattle.plan_counted.specs.declared.counted.Column.{Column}
use Rattle.plan_counted.specs.declared.counted.Told.{Told}
use Rattle.plan_counted.specs.declared.counted.Told.TheVariants as telling
use Rattle.plan_counted.specs.Counted.{HasNoFewer, IsTold, broadcasts_on, column_at, counted_kind, counted_notes, counted_of, told_by, told_note, told_on, is_for_all, is_tested}
use Rattle.plan_counted.specs.CountedAndRelayed.{CountsBroadcasts}
use Rattle.plan_counted.specs.Rows.{NamesBestRows}
use Rattle.plan_counted.specs.inner.Answers.{AnsweredColumnsCount, AnsweredColumnsFit, AnsweredColumnsLicense, AreColumns, IsColumn, IsColumnOf, IsToldAt, IsToldOf, broadcasts_told, gives_all}
use Rattle.plan_counted.proofs.Best.{counted_list}
use Rattle.plan_counted.proofs.Table.{has_if, kind_at, kind_missing, length_numbered, made_on, none_if, note_is, note_left, notes_missing, notes_there, on_theirs, broadcast_found}

-- ---- what is known of a condition

abbrev columns_type : Type 0
columns_type = List (Option Column)

pub column_known : (monitor : MonitorParts) (plan : Plan) (columns : columns_type) (condition : ℕ) → AreColumns monitor plan columns
    → 1 ≤ condition → condition ≤ length monitor.conditions → IsColumn monitor plan condition (column_at columns condition)
column_known monitor plan columns condition are first last =
    let many = are.many in
    let found = at_index columns (condition - 1) (omega arith) in
    subst (IsColumn monitor plan condition) (sym (ap (λ (held : Option (Option Column)). unwrap_or held None) found.1))
    (in_numbered (λ (one : ℕ × Option Column). IsColumn monitor plan one.0 one.1) 1 columns (condition - 1) found.0 condition found.1 (omega arith) are.each)

-- a column, or none
by_column : (P : Type 0) (monitor : MonitorParts) (plan : Plan) (columns : columns_type) (condition : ℕ) → AreColumns monitor plan columns
    → 1 ≤ condition → condition ≤ length monitor.conditions
    → (column_at columns condition ≡ None → IsColumn monitor plan condition None → P)
    → ((column : Column) → column_at columns condition ≡ Some column → IsColumnOf monitor plan condition column → P)
    → P
by_column P monitor plan columns condition are first last left made = by_found (column_at columns condition) refl
  where
    by_found : (found : Option Column) → column_at columns condition ≡ found → P
    by_found None is = left is (subst (IsColumn monitor plan condition) is (column_known monitor plan columns condition are first last))
    by_found (Some column) is = made column is (subst (IsColumn monitor plan condition) is (column_known monitor plan columns condition are first last))

-- what a block has on a condition that is counted by a row
record IsThere (monitor : MonitorParts) (plan : Plan) (columns : columns_type) (condition row block : ℕ) : Type 0 where
  told : Told
  note : note_on (notes_at (counted_of plan columns) block) condition ≡ told_note condition told (note_on (notes_at plan block) condition)
  is : IsToldOf monitor plan.kept condition row block (has_note (notes_at plan block) condition) told

told_there : (monitor : MonitorParts) (plan : Plan) (columns : columns_type) (condition block : ℕ) (column : Column)
    → FitsPlan monitor plan → AreColumns monitor plan columns → 1 ≤ condition → condition ≤ length monitor.conditions
    → column_at columns condition ≡ Some column → IsColumnOf monitor plan condition column → block < length monitor.blocks
    → IsThere monitor plan columns condition column.row block
told_there monitor plan columns condition block column fits are first last is known within =
    let many = known.told.many in
    let found = at_index column.told block (omega arith) in
    let own = at_index plan.notes block (omega (arith, fits.notes)) in record {
      told = found.0;
      note = note_is plan columns block condition own.0 own.1 first (omega (arith, are.many))
          ∙ ap (λ (held : Option Column). told_on condition block held (note_on (notes_at plan block) condition)) is
          ∙ ap (λ (held : Option Told). told_by condition held (note_on (notes_at plan block) condition)) found.1;
      is = in_numbered (IsToldAt monitor plan condition column.row) 0 column.told block found.0 block found.1 (omega arith) known.told.each;
    }

last_of : (monitor : MonitorParts) (number : ℕ) (which : Condition) → IsCondition monitor number which → number ≤ length monitor.conditions
last_of monitor number which is = omega (arith, is.numbered, slice_get_within monitor.conditions (number - 1) which is.there)

not_read : (monitor : MonitorParts) (number : ℕ) (which : Condition) → IsMonitor monitor → IsCondition monitor number which
    → ReadsNone monitor number → reads_inputs which.guard ≡ false
not_read monitor number which rule is reads =
    let described = all_at IsDescribed monitor.conditions (number - 1) which is.there rule.described in
    let none = subst (λ (one : Option Condition). IsSomeAnd one (λ held. held.reads_inputs ≡ false)) is.there reads.1 in
    sym described.inputs ∙ none

-- ---- a note that is left out was left out, and needs none

was_out : (monitor : MonitorParts) (plan : Plan) (columns : columns_type) (block condition : ℕ) → FitsPlan monitor plan → AreColumns monitor plan columns
    → block < length monitor.blocks → 1 ≤ condition → condition ≤ length monitor.conditions
    → has_note (notes_at (counted_of plan columns) block) condition ≡ false → has_note (notes_at plan block) condition ≡ false
was_out monitor plan columns block condition fits are within first last none =
    by_column (has_note (notes_at plan block) condition ≡ false) monitor plan columns condition are first last
    (λ is known. has_if (notes_at plan block) condition None (sym (note_left plan columns block condition first (omega (arith, are.many)) is) ∙ out))
    (λ column is known. let there = told_there monitor plan columns condition block column fits are first last is known within in
    by_told column.row there.told (sym there.note ∙ out) there.is)
  where
    out : note_on (notes_at (counted_of plan columns) block) condition ≡ None
    out = none_if (notes_at (counted_of plan columns) block) condition none

    by_told : (row : ℕ) (told : Told) → told_note condition told (note_on (notes_at plan block) condition) ≡ None
        → IsToldOf monitor plan.kept condition row block (has_note (notes_at plan block) condition) told → has_note (notes_at plan block) condition ≡ false
    by_told row (telling.Nothing counts) is known = known.0
    by_told row (telling.Signal gives before) is known = absurd (cc is)
    by_told row telling.Broadcast is known = absurd (cc is)

-- ---- each block is told as the answers say

told_right : (monitor : MonitorParts) (plan : Plan) (columns : columns_type) (condition row block : ℕ)
    → IsThere monitor plan columns condition row block → IsToldRight monitor (counted_of plan columns) condition row block
told_right monitor plan columns condition row block there = by_told there.told there.note there.is
  where
    notes : List Note
    notes = notes_at (counted_of plan columns) block

    by_told : (told : Told) → note_on notes condition ≡ told_note condition told (note_on (notes_at plan block) condition)
        → IsToldOf monitor plan.kept condition row block (has_note (notes_at plan block) condition) told
        → IsToldRight monitor (counted_of plan columns) condition row block
    by_told (telling.Nothing counts) is known = inr (inl (record { none = has_if notes condition None is; counts = known.1.so }))
    by_told (telling.Signal gives before) is known =
        inr (inr (record { one = has_if notes condition (Some _) is; gives = known.one.0.so; first = λ other. known.one.1.so }))
    by_told telling.Broadcast is known = inl (broadcast_found notes condition _ is refl)

-- ---- the notes on a condition that is left

-- what each placed note on it is, each note is
still_each : (P : Note → Type 0) (monitor : MonitorParts) (plan : Plan) (columns : columns_type) (number : ℕ) → column_at columns number ≡ None
    → EachNoteOn plan number P → EachNoteOn (counted_of plan columns) number P
still_each P monitor plan columns number none keeps block = by_notes (slice_get plan.notes block) refl
  where
    Q : Note → Type 0
    Q note = note.condition ≡ number → P note

    by_placed : (notes : List Note) → All Q notes → (found : Option Note) → note_on notes number ≡ found → IfSome found Q
    by_placed notes all None is = tt
    by_placed notes all (Some note) is = (on_found Q notes number note is all).1

    elsewhere : (condition : ℕ) (differs : condition ≡ number → ⊥) (found : Option Note) → IfSome found (λ note. note.condition ≡ condition) → IfSome found Q
    elsewhere condition differs None on = tt
    elsewhere condition differs (Some note) on = λ here. absurd (differs (sym on ∙ here))

    each : (notes : List Note) → All Q notes → (condition : ℕ) → IfSome (made_on columns block notes condition) Q
    each notes all condition = elim (cases_eq condition number) [
      | inl same ↦ subst (λ (n : ℕ). IfSome (made_on columns block notes n) Q) (sym same)
          (subst (λ (column : Option Column). IfSome (told_on number block column (note_on notes number)) Q) (sym none)
          (by_placed notes all (note_on notes number) refl))
      | inr differs ↦ elsewhere condition differs (made_on columns block notes condition) (on_theirs columns block notes condition)
    ]

    by_notes : (found : Option (List Note)) → slice_get plan.notes block ≡ found → All Q (notes_at (counted_of plan columns) block)
    by_notes None is = subst (All Q) (sym (notes_missing plan columns block is)) (All-nil Q)
    by_notes (Some notes) is = subst (All Q) (sym (notes_there plan columns block notes is))
        (all_made Q (made_on columns block notes) 1 (length columns)
        (λ condition low high. each notes (subst (All Q) (ap (λ (found : Option (List Note)). unwrap_or found []) is) (keeps block)) condition))

-- no note is on the condition of number 0, which there is not
none_on_zero : (P : Note → Type 0) (plan : Plan) (columns : columns_type) → EachNoteOn (counted_of plan columns) 0 P
none_on_zero P plan columns block = by_notes (slice_get plan.notes block) refl
  where
    Q : Note → Type 0
    Q note = note.condition ≡ 0 → P note

    by_found : (condition : ℕ) → 1 ≤ condition → (found : Option Note) → IfSome found (λ note. note.condition ≡ condition) → IfSome found Q
    by_found condition low None on = tt
    by_found condition low (Some note) on = λ here. absurd (omega (arith, low, on, here))

    by_notes : (found : Option (List Note)) → slice_get plan.notes block ≡ found → All Q (notes_at (counted_of plan columns) block)
    by_notes None is = subst (All Q) (sym (notes_missing plan columns block is)) (All-nil Q)
    by_notes (Some notes) is = subst (All Q) (sym (notes_there plan columns block notes is))
        (all_made Q (made_on columns block notes) 1 (length columns)
        (λ condition low high. by_found condition low (made_on columns block notes condition) (on_theirs columns block notes condition)))

-- ---- the plan is lawful by counting

pub kind_left : (plan : Plan) (columns : columns_type) (condition : ℕ) → 1 ≤ condition → column_at columns condition ≡ None
    → condition_kind (counted_of plan columns) condition ≡ condition_kind plan condition
kind_left plan columns condition first none = by_kind (condition_kind plan condition) refl
  where
    by_kind : (found : Option CondKind) → condition_kind plan condition ≡ found → condition_kind (counted_of plan columns) condition ≡ condition_kind plan condition
    by_kind None is = kind_missing plan columns condition is ∙ sym is
    by_kind (Some kind) is =
        kind_at plan columns condition kind first is ∙ ap (λ (column : Option Column). Some (counted_kind kind column)) none ∙ sym is

pub kind_made : (plan : Plan) (columns : columns_type) (condition : ℕ) (column : Column) (was : CondKind) → 1 ≤ condition
    → column_at columns condition ≡ Some column → condition_kind plan condition ≡ Some was
    → condition_kind (counted_of plan columns) condition ≡ Some kinds.Signal
kind_made plan columns condition column was first is there =
    kind_at plan columns condition was first there ∙ ap (λ (held : Option Column). Some (counted_kind was held)) is

pub two_kinds : (o : Option CondKind) → o ≡ Some kinds.Broadcast → o ≡ Some kinds.Signal → ⊥
two_kinds o is also = cc

kind_within : (monitor : MonitorParts) (plan : Plan) (columns : columns_type) (condition : ℕ) (kind : CondKind) → FitsPlan monitor plan
    → condition_kind (counted_of plan columns) condition ≡ Some kind → condition - 1 < length monitor.conditions
kind_within monitor plan columns condition kind fits is =
    omega (
      arith,
      fits.kinds,
      length_numbered (λ (one : ℕ × CondKind). counted_kind one.1 (column_at columns one.0)) 1 plan.kinds,
      slice_get_within (counted_of plan columns).kinds (condition - 1) kind is,
    )

broadcasts_stay : (monitor : MonitorParts) (plan : Plan) (columns : columns_type) → FitsPlan monitor plan → IsLawful monitor plan
    → AreColumns monitor plan columns → (condition : ℕ) → condition_kind (counted_of plan columns) condition ≡ Some kinds.Broadcast
    → EachNoteOn (counted_of plan columns) condition (λ note. note.all ≡ true)
broadcasts_stay monitor plan columns fits lawful are zero = λ kind. none_on_zero (λ (note : Note). note.all ≡ true) plan columns
broadcasts_stay monitor plan columns fits lawful are (suc before) = λ kind.
    let low = kind_within monitor plan columns (suc before) kinds.Broadcast fits kind in
    by_column (EachNoteOn (counted_of plan columns) (suc before) (λ note. note.all ≡ true)) monitor plan columns (suc before) are (omega arith) (omega arith)
    (λ is known. still_each (λ (note : Note). note.all ≡ true) monitor plan columns (suc before) is
    (lawful.broadcasts (suc before) (sym (kind_left plan columns (suc before) (omega arith) is) ∙ kind)))
    (λ column is known. absurd (two_kinds _ kind (kind_made plan columns (suc before) column kinds.Broadcast (omega arith) is known.was)))

-- a condition of kind signal that is left is passed on as it was
passed_on : (monitor : MonitorParts) (plan : Plan) (columns : columns_type) (number : ℕ) → FitsPlan monitor plan → IsLawful monitor plan
    → AreColumns monitor plan columns → 1 ≤ number → number ≤ length monitor.conditions → column_at columns number ≡ None
    → condition_kind plan number ≡ Some kinds.Signal → IsPassedOn monitor (counted_of plan columns) number
passed_on monitor plan columns number fits lawful are first last none kind index block there same =
    elim (lawful.signals index block there (omega (arith, same, first)) (ap (condition_kind plan) same ∙ kind)) [
      | inl enough ↦ inl (subst (λ (n : ℕ). OneEnough monitor plan.kept n index) same enough)
      | inr has ↦ inr (still (ap (has_note (notes_at plan index)) (sym same) ∙ has))
    ]
  where
    still : has_note (notes_at plan index) number ≡ true → has_note (notes_at (counted_of plan columns) index) number ≡ true
    still has =
        has_if (notes_at (counted_of plan columns) index) number (note_on (notes_at plan index) number) (note_left plan columns index number first (omega (arith, are.many)) none)
        ∙ sym (has_if (notes_at plan index) number (note_on (notes_at plan index) number) refl) ∙ has

pub by_guards : AnswersCount → (monitor : MonitorParts) (plan : Plan) (columns : columns_type) → IsMonitor monitor → FitsPlan monitor plan
    → IsLawful monitor plan → AreColumns monitor plan columns → IsLawfulByGuards monitor (counted_of plan columns)
by_guards answers monitor plan columns rule fits lawful are = record {
  inductive = lawful.inductive;
  noted = λ block condition within first last none.
      lawful.noted block condition within first last (was_out monitor plan columns block condition fits are within first last none);
  reading = λ number which is reads.
      by_column _ monitor plan columns number are is.numbered (last_of monitor number which is)
      (λ none known. let wakes = lawful.reading number which is reads in record {
        kind = kind_left plan columns number is.numbered none ∙ wakes.kind;
        notes = still_each IsUntestedBroadcast monitor plan columns number none wakes.notes;
      })
      (λ column there known. absurd (true≢false (sym reads ∙ not_read monitor number which rule is known.reads_none)));
  broadcasts = broadcasts_stay monitor plan columns fits lawful are;
  signals = λ number which is kind.
      by_column _ monitor plan columns number are is.numbered (last_of monitor number which is)
      (λ none known. inl (passed_on monitor plan columns number fits lawful are is.numbered (last_of monitor number which is) none
      (sym (kind_left plan columns number is.numbered none) ∙ kind)))
      (λ column there known. inr (answers monitor (counted_of plan columns) number column.row which rule is (not_read monitor number which rule is known.reads_none) known.tried.has
      (λ block within. told_right monitor plan columns number column.row block
      (told_there monitor plan columns number block column fits are is.numbered (last_of monitor number which is) there known within))));
}

pub lawful_by_counting : AnswersCount → GuardsCount → AnsweredColumnsCount
lawful_by_counting answers guards monitor plan columns rule fits lawful are =
    guards monitor (counted_of plan columns) (by_guards answers monitor plan columns rule fits lawful are)

-- ---- the plan is the placed one, counted

noted_as : (monitor : MonitorParts) (plan : Plan) (columns : columns_type) (condition row block : ℕ)
    → IsThere monitor plan columns condition row block
    → IsTold monitor plan condition row block (note_on (notes_at (counted_of plan columns) block) condition)
noted_as monitor plan columns condition row block there =
    subst (IsTold monitor plan condition row block) (sym there.note) (by_told there.told there.is)
  where
    placed : Option Note
    placed = note_on (notes_at plan block) condition

    none_placed : placed ≡ None → has_note (notes_at plan block) condition ≡ false
    none_placed is = has_if (notes_at plan block) condition None is

    by_told : (told : Told) → IsToldOf monitor plan.kept condition row block (has_note (notes_at plan block) condition) told
        → IsTold monitor plan condition row block (told_note condition told placed)
    by_told (telling.Nothing counts) known = record { none = none_if (notes_at plan block) condition known.0; counts = known.1.so }
    by_told (telling.Signal gives before) known = record {
      on = refl;
      other = known.other;
      needed = λ none so. known.needed (none_placed none) so;
      tested = refl;
      gives = λ all. known.one.0.so;
      first = λ all. known.one.1.so;
      all = λ all. absurd (true≢false (sym all));
    }
    by_told telling.Broadcast known = record {
      on = refl;
      other = known.other;
      needed = λ none so. known.needed (none_placed none) so;
      tested = refl;
      gives = λ all. absurd (true≢false all);
      first = λ all. absurd (true≢false all);
      all = λ all gives before. elim known.one [
        | inl missing ↦ inl (missing gives)
        | inr missing ↦ inr (missing before)
      ];
    }

-- the plan has as many broadcasts on the condition as its column
broadcasts_same : (monitor : MonitorParts) (plan : Plan) (columns : columns_type) (condition : ℕ) (column : Column) → FitsPlan monitor plan
    → AreColumns monitor plan columns → 1 ≤ condition → condition ≤ length monitor.conditions → column_at columns condition ≡ Some column
    → IsColumnOf monitor plan condition column → broadcasts_on monitor (counted_of plan columns) condition ≡ broadcasts_told column.told
broadcasts_same monitor plan columns condition column fits are first last is known =
    ap (λ (count : ℕ). count_by has (range_with_len 0 count)) (sym known.told.many)
    ∙ counted_list gives_all has 0 column.told (λ block told there.
    let same : 0 + block ≡ block = omega arith in
    ap has same ∙ by_block block told there)
  where
    has : ℕ → Bool
    has block = is_for_all (note_on (notes_at (counted_of plan columns) block) condition)

    by_told : (told : Told) (placed : Option Note) → is_for_all (told_note condition told placed) ≡ gives_all told
    by_told (telling.Nothing counts) placed = refl
    by_told (telling.Signal gives before) placed = refl
    by_told telling.Broadcast placed = refl

    by_block : (block : ℕ) (told : Told) → slice_get column.told block ≡ Some told → has block ≡ gives_all told
    by_block block told there =
        let low = slice_get_within column.told block told there in
        let many = known.told.many in
        let own = at_index plan.notes block (omega (arith, fits.notes, low, many)) in
        let placed = note_on (notes_at plan block) condition in
        ap is_for_all (note_is plan columns block condition own.0 own.1 first (omega (arith, are.many))
        ∙ ap (λ (held : Option Column). told_on condition block held placed) is
        ∙ ap (λ (held : Option Told). told_by condition held placed) there)
        ∙ by_told told placed

pub counted_from : AnsweredColumnsLicense
counted_from monitor plan columns rule fits are = record {
  kept = refl;
  each = λ condition is. by_column _ monitor plan columns condition are is.0 is.1
      (λ none known. inl (record {
        kind = kind_left plan columns condition is.0 none;
        notes = λ block. let last = is.1 in note_left plan columns block condition is.0 (omega (arith, are.many)) none;
        uncounted = known;
      }))
      (λ column there known. inr (record {
        was = known.was;
        kind = kind_made plan columns condition column kinds.Broadcast is.0 there known.was;
        reads_none = known.reads_none;
        row = column.row;
        tried = known.tried;
        told = λ block within. noted_as monitor plan columns condition column.row block
            (told_there monitor plan columns condition block column fits are is.0 is.1 there known within);
        fewest = λ other tried. subst (HasNoFewer monitor plan condition other)
            (sym (broadcasts_same monitor plan columns condition column fits are is.0 is.1 there known)) (known.fewest other tried);
        first = λ earlier low less. subst (λ (many : ℕ). HasNoFewer monitor plan condition earlier (many + 1))
            (sym (broadcasts_same monitor plan columns condition column fits are is.0 is.1 there known)) (known.first earlier low less);
      }));
}

-- the table names the rows by which it is
pub best_named : (monitor : MonitorParts) (plan : Plan) (columns : columns_type) → FitsPlan monitor plan → AreColumns monitor plan columns
    → NamesBestRows monitor plan (counted_of plan columns) columns
best_named monitor plan columns fits are condition column is there =
    let known : IsColumnOf monitor plan condition column = subst (IsColumn monitor plan condition) there (column_known monitor plan columns condition are is.0 is.1) in
    let same = broadcasts_same monitor plan columns condition column fits are is.0 is.1 there known in record {
      tried = known.tried;
      told = λ block within. noted_as monitor plan columns condition column.row block
          (told_there monitor plan columns condition block column fits are is.0 is.1 there known within);
      fewest = λ other tried. subst (HasNoFewer monitor plan condition other) (sym same) (known.fewest other tried);
      first = λ earlier low less. subst (λ (many : ℕ). HasNoFewer monitor plan condition earlier (many + 1)) (sym same) (known.first earlier low less);
    }

-- ---- the plan fits

fits_notes : (monitor : MonitorParts) (plan : Plan) (columns : columns_type) (block : ℕ) (notes : List Note) → IsMonitor monitor
    → AreColumns monitor plan columns → FitsNotes monitor notes → FitsNotes monitor (counted_notes columns block notes)
fits_notes monitor plan columns block notes rule are fits = record {
  rising = (made_rise (made_on columns block notes) (on_theirs columns block notes) (length columns)).rising;
  each = all_made (FitsNote monitor) (made_on columns block notes) 1 (length columns) (λ condition low high.
      by_column _ monitor plan columns condition are low (omega (arith, are.many, high))
      (λ none known. subst (λ (column : Option Column). IfSome (told_on condition block column (note_on notes condition)) (FitsNote monitor)) (sym none)
      (placed condition (note_on notes condition) refl))
      (λ column there known. subst (λ (column : Option Column). IfSome (told_on condition block column (note_on notes condition)) (FitsNote monitor)) (sym there)
      (by_told condition (slice_get column.told block) low known.reads_none)));
}
  where
    placed : (condition : ℕ) (found : Option Note) → note_on notes condition ≡ found → IfSome found (FitsNote monitor)
    placed condition None is = tt
    placed condition (Some note) is = (on_found (FitsNote monitor) notes condition note is fits.each).1

    one : (condition : ℕ) (all tested : Bool) → 1 ≤ condition → ReadsNone monitor condition
        → FitsNote monitor (record { condition = condition; all = all; tested = tested })
    one condition all tested low reads = (low, by_which (slice_get monitor.conditions (condition - 1)) refl reads.1)
      where
        by_which : (found : Option Condition) → slice_get monitor.conditions (condition - 1) ≡ found
            → IsSomeAnd found (λ held. held.reads_inputs ≡ false)
            → IsSomeAnd found (λ which. tested ≡ true → reads_inputs which.guard ≡ false)
        by_which None is some = absurd some
        by_which (Some which) is some = λ test.
            not_read monitor condition which rule (record { numbered = low; there = is }) reads

    by_told : (condition : ℕ) (told : Option Told) → 1 ≤ condition → ReadsNone monitor condition
        → IfSome (told_by condition told (note_on notes condition)) (FitsNote monitor)
    by_told condition None low reads = tt
    by_told condition (Some (telling.Nothing counts)) low reads = tt
    by_told condition (Some (telling.Signal gives before)) low reads = one condition false (is_tested (note_on notes condition)) low reads
    by_told condition (Some telling.Broadcast) low reads = one condition true (is_tested (note_on notes condition)) low reads

from_numbered : {X Y : Type 0} (P : X → Type 0) (Q : Y → Type 0) (f : ℕ × X → Y) → ((number : ℕ) (x : X) → P x → Q (f (number, x)))
    → (first : ℕ) (xs : List X) → All P xs → All Q (map f (enumerate_from first xs))
from_numbered P Q f each first [] all = All-nil Q
from_numbered P Q f each first (x ∷ xs) all =
    All-cons Q (f (first, x)) (map f (enumerate_from (first + 1) xs)) (each first x (All-head P x xs all))
    (from_numbered P Q f each (first + 1) xs (All-tail P x xs all))

pub counted_fits : AnsweredColumnsFit
counted_fits monitor plan columns rule fits are = record {
  kept = fits.kept;
  kinds = length_numbered (λ (one : ℕ × CondKind). counted_kind one.1 (column_at columns one.0)) 1 plan.kinds ∙ fits.kinds;
  notes = length_numbered (λ (one : ℕ × List Note). counted_notes columns one.0 one.1) 0 plan.notes ∙ fits.notes;
  each = from_numbered (FitsNotes monitor) (FitsNotes monitor) (λ (one : ℕ × List Note). counted_notes columns one.0 one.1)
      (λ block notes own. fits_notes monitor plan columns block notes rule are own) 0 plan.notes fits.each;
}

pub broadcasts_counted : (monitor : MonitorParts) (plan : Plan) (columns : columns_type) → AreColumns monitor plan columns → CountsBroadcasts monitor plan columns
broadcasts_counted monitor plan columns are condition within some =
    by_column (condition_kind plan condition ≡ Some kinds.Broadcast) monitor plan columns condition are within.0 within.1
    (λ none known. absurd (true≢false (sym some ∙ ap is_some none)))
    (λ column there known. known.was)
