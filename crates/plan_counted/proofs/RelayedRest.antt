-- The relayed plan with what a table says of each counted condition: each condition is as in the
-- counted plan or as in the relayed one.
use Rattle.std.proofs.Common.{◌≡◌, ◌⊎◌, inl, inr, ℕ, suc, ◌+◌, ◌-◌, ◌<◌, ◌≤◌, Bool, true, false, cond, List, [], ◌∷◌, map, length, Option, Some, None, is_some, refl, sym, ap, subst, ◌∙◌, arith}
use Rattle.std.specs.Prelude.{All, slice_get, unwrap_or, IfSome, IsSomeAnd}
use Rattle.std.specs.List.{enumerate_from}
use Rattle.std.proofs.lemmas.Bool.{true≢false, cases_Bool}
use Rattle.std.proofs.lemmas.List.Elements.{All-nil, All-cons}
use Rattle.std.proofs.lemmas.Option.{none-some, slice_get_within}
use Rattle.lang_monitor.specs.declared.monitor.Condition.{Condition}
use Rattle.lang_monitor.specs.Inputs.{reads_inputs}
use Rattle.lang_monitor.specs.MonitorParts.{MonitorParts, IsMonitor}
use Rattle.machine_events.specs.declared.plan.CondKind.{CondKind}
use Rattle.machine_events.specs.declared.plan.CondKind.TheVariants as kinds
use Rattle.machine_events.specs.declared.plan.Note.{Note}
use Rattle.machine_events.specs.declared.plan.Plan.{Plan}
use Rattle.machine_events.specs.Plans.{FitsNote, FitsNotes, FitsPlan, IsLawful, condition_kind, has_note, notes_at}
use Rattle.machine_events.specs.Laws.{LawfulIsByCounting}
use Rattle.machine_events.specs.Counts.{IsLawfulByCounting}
use Rattle.machine_events.proofs.Facing.{at_index, all_at}
use Rattle.logic_wp.specs.PlainClaims.{IsConditionNumber}
use Rattle.plan_place.specs.Relayed.{RelayedPlansAreLawful, RelayedPlansOmitNoMore, hands_on, note_on, relay_of, relayed_notes, relayed_on, tested_signal}
use Rattle.plan_place.proofs.NotesOn.{all_made, is_some as is_found, made_rise, on_found, on_is}
use Rattle.plan_place.proofs.RelayedPlans.{made_on as relayed_made, on_theirs as relayed_theirs}
use Rattle.plan_counted.specs.declared.counted.Column.{Column}
use Rattle.plan_counted.specs.declared.counted.Told.{Told}
use Rattle.plan_counted.specs.declared.counted.Told.TheVariants as telling
use Rattle.plan_counted.specs.Counted.{IsTold, column_at, counted_kind, counted_notes, counted_of, is_tested, told_by, told_on}
use Rattle.plan_counted.specs.CountedAndRelayed.{CountedPlansOmitNoMore, CountsBroadcasts, IsCountedAndRelayed, IsCountedIn, OmitsNoMore, counted_and_relayed}
use Rattle.plan_counted.specs.Mixed.{HasAsIn, IsMixedOf, MixedPlansAreLawful}
use Rattle.plan_counted.proofs.Counting.{kind_left, kind_made, two_kinds}
use Rattle.plan_counted.proofs.Mixing.{has_as}
use Rattle.plan_counted.proofs.Table.{has_if, length_numbered, made_on, none_if, note_is, note_left, note_made, notes_missing, numbered_at, none_numbered, on_theirs}

abbrev columns_type : Type 0
columns_type = List (Option Column)

-- ---- a note that was relayed is tested where the placed one is

still_tested : (monitor : MonitorParts) (all_kinds : List CondKind) (block condition : ℕ) (placed : Option Note)
    → is_tested (relayed_on monitor all_kinds block condition placed) ≡ is_tested placed
still_tested monitor all_kinds block condition (Some note) = refl
still_tested monitor all_kinds block condition None = by_test (hands_on monitor all_kinds block condition)
  where
    by_test : (test : Bool) → is_tested (cond test (Some (tested_signal condition)) None) ≡ true
    by_test true = refl
    by_test false = refl

same_told : (condition block : ℕ) (column : Column) (placed other : Option Note) → is_tested other ≡ is_tested placed
    → told_on condition block (Some column) other ≡ told_on condition block (Some column) placed
same_told condition block column placed other same = by_told (slice_get column.told block)
  where
    by_told : (told : Option Told) → told_by condition told other ≡ told_by condition told placed
    by_told None = refl
    by_told (Some (telling.Nothing counts)) = refl
    by_told (Some (telling.Signal gives first)) = ap {B = Option Note} (λ (tested : Bool). Some (record { condition = condition; all = false; tested = tested })) same
    by_told (Some telling.Broadcast) = ap {B = Option Note} (λ (tested : Bool). Some (record { condition = condition; all = true; tested = tested })) same

-- ---- the notes of the relayed plan

lists_relayed : (monitor : MonitorParts) (placed : Plan) (block : ℕ) (notes : List Note) → slice_get placed.notes block ≡ Some notes
    → slice_get (relay_of monitor placed).notes block ≡ Some (relayed_notes monitor placed.kinds block notes)
lists_relayed monitor placed block notes is =
    let same : 0 + block ≡ block = omega arith in
    numbered_at (λ (one : ℕ × List Note). relayed_notes monitor placed.kinds one.0 one.1) 0 placed.notes block notes is
    ∙ ap {B = Option (List Note)} (λ (number : ℕ). Some (relayed_notes monitor placed.kinds number notes)) same

relayed_note_is : (monitor : MonitorParts) (placed : Plan) (block condition : ℕ) (notes : List Note) → slice_get placed.notes block ≡ Some notes
    → IsConditionNumber monitor condition
    → note_on (notes_at (relay_of monitor placed) block) condition
    ≡ relayed_on monitor placed.kinds block condition (note_on (notes_at placed block) condition)
relayed_note_is monitor placed block condition notes is within =
    let first = within.0 in
    let last = within.1 in
    ap (λ (found : Option (List Note)). note_on (unwrap_or found []) condition) (lists_relayed monitor placed block notes is)
    ∙ note_made (relayed_made monitor placed.kinds block notes) (relayed_theirs monitor placed.kinds block notes) 1 (length monitor.conditions) condition first (omega arith)
    ∙ ap (λ (found : Option (List Note)). relayed_on monitor placed.kinds block condition (note_on (unwrap_or found []) condition)) (sym is)

-- ---- one condition

as_relayed : (monitor : MonitorParts) (placed : Plan) (columns : columns_type) (condition : ℕ) → length columns ≡ length monitor.conditions
    → IsConditionNumber monitor condition → column_at columns condition ≡ None
    → HasAsIn (counted_and_relayed monitor placed columns) (relay_of monitor placed) condition
as_relayed monitor placed columns condition many within none = record {
  kind = kind_left (relay_of monitor placed) columns condition within.0 none;
  notes = λ block. let last = within.1 in note_left (relay_of monitor placed) columns block condition within.0 (omega arith) none;
}

as_counted : (monitor : MonitorParts) (placed : Plan) (columns : columns_type) (condition : ℕ) (column : Column) → FitsPlan monitor placed
    → length columns ≡ length monitor.conditions → IsConditionNumber monitor condition → column_at columns condition ≡ Some column
    → HasAsIn (counted_and_relayed monitor placed columns) (counted_of placed columns) condition
as_counted monitor placed columns condition column fits many within is = record {
  kind =
      kind_made (relay_of monitor placed) columns condition column there.0 within.0 is there.1
      ∙ sym (kind_made placed columns condition column was.0 within.0 is was.1);
  notes = λ block. by_notes block (slice_get placed.notes block) refl;
}
  where
    was : (kind : CondKind) × (condition_kind placed condition ≡ Some kind)
    was =
        let first = within.0 in
        let last = within.1 in
        let all = fits.kinds in
        at_index placed.kinds (condition - 1) (omega arith)

    there : (kind : CondKind) × (condition_kind (relay_of monitor placed) condition ≡ Some kind)
    there = (_, numbered_at _ 1 placed.kinds (condition - 1) was.0 was.1)

    by_notes : (block : ℕ) (found : Option (List Note)) → slice_get placed.notes block ≡ found
        → note_on (notes_at (counted_and_relayed monitor placed columns) block) condition ≡ note_on (notes_at (counted_of placed columns) block) condition
    by_notes block None none =
        ap (λ (own : List Note). note_on own condition)
        (notes_missing (relay_of monitor placed) columns block (none_numbered (λ (one : ℕ × List Note). relayed_notes monitor placed.kinds one.0 one.1) 0 placed.notes block none)
        ∙ sym (notes_missing placed columns block none))
    by_notes block (Some notes) some =
        let last : condition ≤ length columns = (let end = within.1 in omega arith) in
        note_is (relay_of monitor placed) columns block condition (relayed_notes monitor placed.kinds block notes) (lists_relayed monitor placed block notes some) within.0 last
        ∙ ap (λ (held : Option Column). told_on condition block held (note_on (notes_at (relay_of monitor placed) block) condition)) is
        ∙ same_told condition block column (note_on (notes_at placed block) condition) (note_on (notes_at (relay_of monitor placed) block) condition)
        (ap is_tested (relayed_note_is monitor placed block condition notes some within)
        ∙ still_tested monitor placed.kinds block condition (note_on (notes_at placed block) condition))
        ∙ sym (note_is placed columns block condition notes some within.0 last
        ∙ ap (λ (held : Option Column). told_on condition block held (note_on (notes_at placed block) condition)) is)

-- ---- all conditions

pub relayed_rest_mixed : (monitor : MonitorParts) (placed : Plan) (columns : columns_type) → FitsPlan monitor placed → length columns ≡ length monitor.conditions
    → IsMixedOf monitor (counted_of placed columns) (relay_of monitor placed) (counted_and_relayed monitor placed columns)
relayed_rest_mixed monitor placed columns fits many = record {
  kept_by_one = refl;
  kept_by_other = refl;
  each = λ condition within. by_column condition within (column_at columns condition) refl;
}
  where
    by_column : (condition : ℕ) → IsConditionNumber monitor condition → (found : Option Column) → column_at columns condition ≡ found
        → HasAsIn (counted_and_relayed monitor placed columns) (counted_of placed columns) condition ⊎ HasAsIn (counted_and_relayed monitor placed columns) (relay_of monitor placed) condition
    by_column condition within None is = inr (as_relayed monitor placed columns condition many within is)
    by_column condition within (Some column) is = inl (as_counted monitor placed columns condition column fits many within is)

pub counted_and_relayed_is : (monitor : MonitorParts) (placed : Plan) (columns : columns_type) → FitsPlan monitor placed → length columns ≡ length monitor.conditions
    → CountsBroadcasts monitor placed columns → IsCountedAndRelayed monitor placed (counted_of placed columns) (counted_and_relayed monitor placed columns)
counted_and_relayed_is monitor placed columns fits many broadcasts = record {
  kept = refl;
  counts = λ condition within counted. counts condition within counted (column_at columns condition) refl;
  relays = λ condition within others. relays condition within others (column_at columns condition) refl;
}
  where
    counts : (condition : ℕ) → IsConditionNumber monitor condition → IsCountedIn placed (counted_of placed columns) condition → (found : Option Column) → column_at columns condition ≡ found
        → HasAsIn (counted_and_relayed monitor placed columns) (counted_of placed columns) condition
    counts condition within counted None is = absurd (two_kinds (condition_kind placed condition) counted.was (sym (kind_left placed columns condition within.0 is) ∙ counted.kind))
    counts condition within counted (Some column) is = as_counted monitor placed columns condition column fits many within is

    relays : (condition : ℕ) → IsConditionNumber monitor condition → (IsCountedIn placed (counted_of placed columns) condition → ⊥) → (found : Option Column) → column_at columns condition ≡ found
        → HasAsIn (counted_and_relayed monitor placed columns) (relay_of monitor placed) condition
    relays condition within others None is = as_relayed monitor placed columns condition many within is
    relays condition within others (Some column) is =
        let was = broadcasts condition within (ap is_some is) in
        absurd (others (record { was = was; kind = kind_made placed columns condition column kinds.Broadcast within.0 is was }))

-- ---- the plan fits

-- each note of the plan is one of the counted plan or one of the relayed plan
fits_rest : (monitor : MonitorParts) (placed : Plan) (columns : columns_type) → FitsPlan monitor placed → FitsPlan monitor (counted_of placed columns)
    → FitsPlan monitor (relay_of monitor placed) → length columns ≡ length monitor.conditions → (block : ℕ) (notes : List Note)
    → slice_get (relay_of monitor placed).notes block ≡ Some notes → FitsNotes monitor (counted_notes columns block notes)
fits_rest monitor placed columns fits counted relayed many block notes there = record {
  rising = (made_rise (made_on columns block notes) (on_theirs columns block notes) (length columns)).rising;
  each = all_made (FitsNote monitor) (made_on columns block notes) 1 (length columns) (λ condition low high.
      by_found condition (low, omega (arith, many, high)) (made_on columns block notes condition) (made_is condition low (omega arith)));
}
  where
    plan : Plan
    plan = counted_and_relayed monitor placed columns

    made_is : (condition : ℕ) → 1 ≤ condition → condition ≤ length columns → note_on (notes_at plan block) condition ≡ made_on columns block notes condition
    made_is condition low high =
        note_is (relay_of monitor placed) columns block condition notes there low high
        ∙ ap (λ (found : Option (List Note)). told_on condition block (column_at columns condition) (note_on (unwrap_or found []) condition)) there

    of_plan : (other : Plan) (condition : ℕ) (note : Note) → FitsPlan monitor other → note_on (notes_at other block) condition ≡ Some note → FitsNote monitor note
    of_plan other condition note fit is = by_notes (slice_get other.notes block) refl is
      where
        by_notes : (found : Option (List Note)) → slice_get other.notes block ≡ found → note_on (unwrap_or found []) condition ≡ Some note → FitsNote monitor note
        by_notes None none is = absurd (none-some note is)
        by_notes (Some own) some is = (on_found (FitsNote monitor) own condition note is (all_at (FitsNotes monitor) other.notes block own some fit.each).each).1

    by_found : (condition : ℕ) → IsConditionNumber monitor condition → (found : Option Note) → note_on (notes_at plan block) condition ≡ found → IfSome found (FitsNote monitor)
    by_found condition within None is = tt
    by_found condition within (Some note) is = elim ((relayed_rest_mixed monitor placed columns fits many).each condition within) [
      | inl as_is ↦ of_plan (counted_of placed columns) condition note counted (sym (as_is.notes block) ∙ is)
      | inr as_is ↦ of_plan (relay_of monitor placed) condition note relayed (sym (as_is.notes block) ∙ is)
    ]

-- a fact of each element with its number
each_numbered : {X Y : Type 0} (Q : Y → Type 0) (f : ℕ × X → Y) (first : ℕ) (xs : List X) → ((k : ℕ) (x : X) → slice_get xs k ≡ Some x → Q (f (first + k, x)))
    → All Q (map f (enumerate_from first xs))
each_numbered Q f first [] each = All-nil Q
each_numbered {X} {Y} Q f first (x ∷ xs) each =
    let here : first + 0 ≡ first = omega arith in
    All-cons Q (f (first, x)) (map f (enumerate_from (first + 1) xs)) (subst (λ (n : ℕ). Q (f (n, x))) here (each 0 x refl))
    (each_numbered Q f (first + 1) xs (λ k one is.
    let there : first + suc k ≡ first + 1 + k = omega arith in
    subst (λ (n : ℕ). Q (f (n, one))) there (each (suc k) one is)))

pub relayed_rest_fits : (monitor : MonitorParts) (placed : Plan) (columns : columns_type) → FitsPlan monitor placed → FitsPlan monitor (counted_of placed columns)
    → FitsPlan monitor (relay_of monitor placed) → length columns ≡ length monitor.conditions → FitsPlan monitor (counted_and_relayed monitor placed columns)
relayed_rest_fits monitor placed columns fits counted relayed many = record {
  kept = fits.kept;
  kinds = length_numbered (λ (one : ℕ × CondKind). counted_kind one.1 (column_at columns one.0)) 1 (relay_of monitor placed).kinds ∙ relayed.kinds;
  notes = length_numbered (λ (one : ℕ × List Note). counted_notes columns one.0 one.1) 0 (relay_of monitor placed).notes ∙ relayed.notes;
  each = each_numbered (FitsNotes monitor) (λ (one : ℕ × List Note). counted_notes columns one.0 one.1) 0 (relay_of monitor placed).notes
      (λ block notes is.
      let same : block ≡ 0 + block = omega arith in
      subst (λ (n : ℕ). FitsNotes monitor (counted_notes columns n notes)) same (fits_rest monitor placed columns fits counted relayed many block notes is));
}

-- ---- a note that is left out was left out

-- a note is on a condition of the monitor, and of a block that it has
record IsWithin (monitor : MonitorParts) (block condition : ℕ) : Type 0 where
  block_is : block < length monitor.blocks
  condition_is : IsConditionNumber monitor condition

note_within : (monitor : MonitorParts) (placed : Plan) (block condition : ℕ) → FitsPlan monitor placed → has_note (notes_at placed block) condition ≡ true
    → IsWithin monitor block condition
note_within monitor placed block condition fits has = by_notes (slice_get placed.notes block) refl has
  where
    low_of : (which : Option Condition) (Q : Condition → Type 0) (k : ℕ) → slice_get monitor.conditions k ≡ which → IsSomeAnd which Q → k < length monitor.conditions
    low_of None Q k is some = absurd some
    low_of (Some one) Q k is some = slice_get_within monitor.conditions k one is

    by_found : (notes : List Note) → All (FitsNote monitor) notes → (found : Option Note) → note_on notes condition ≡ found → is_found found ≡ true → IsConditionNumber monitor condition
    by_found notes each None is some = absurd (true≢false (sym some))
    by_found notes each (Some note) is some =
        let on = on_found (FitsNote monitor) notes condition note is each in
        let same = on.0 in
        let first = on.1.0 in
        let low = low_of (slice_get monitor.conditions (note.condition - 1)) (λ which. note.tested ≡ true → reads_inputs which.guard ≡ false) (note.condition - 1) refl on.1.1 in
        (omega (arith, same, first), omega (arith, same, first, low))

    by_notes : (found : Option (List Note)) → slice_get placed.notes block ≡ found → has_note (unwrap_or found []) condition ≡ true → IsWithin monitor block condition
    by_notes None is has = absurd (true≢false (sym has))
    by_notes (Some notes) is has = record {
      block_is = (let low = slice_get_within placed.notes block notes is in let many = fits.notes in omega arith);
      condition_is = by_found notes (all_at (FitsNotes monitor) placed.notes block notes is fits.each).each (note_on notes condition) refl (sym (on_is notes condition) ∙ has);
    }

-- what is left out where the condition is one of the monitor
if_within : (monitor : MonitorParts) (placed plan : Plan) → FitsPlan monitor placed
    → ((block condition : ℕ) → block < length monitor.blocks → IsConditionNumber monitor condition → has_note (notes_at plan block) condition ≡ false
    → has_note (notes_at placed block) condition ≡ false) → OmitsNoMore placed plan
if_within monitor placed plan fits each block condition none = elim (cases_Bool (has_note (notes_at placed block) condition)) [
  | inl has ↦ let within = note_within monitor placed block condition fits has in each block condition within.block_is within.condition_is none
  | inr out ↦ out
]

pub counted_omits : CountedPlansOmitNoMore
counted_omits monitor placed counted fits from = if_within monitor placed counted fits (λ block condition low within none.
    has_if (notes_at placed block) condition None (elim (from.each condition within) [
      | inl left ↦ sym (left.notes block) ∙ none_if (notes_at counted block) condition none
      | inr made ↦ by_told block condition made.row (note_on (notes_at counted block) condition) (none_if (notes_at counted block) condition none) (made.told block low)
    ]))
  where
    by_told : (block condition row : ℕ) (found : Option Note) → found ≡ None → IsTold monitor placed condition row block found → note_on (notes_at placed block) condition ≡ None
    by_told block condition row None is told = told.none
    by_told block condition row (Some note) is told = absurd (none-some note (sym is))

pub relayed_rest_omits : RelayedPlansOmitNoMore → (monitor : MonitorParts) (placed : Plan) (columns : columns_type) → FitsPlan monitor placed
    → length columns ≡ length monitor.conditions → OmitsNoMore placed (counted_of placed columns) → OmitsNoMore placed (counted_and_relayed monitor placed columns)
relayed_rest_omits relays monitor placed columns fits many counted = if_within monitor placed (counted_and_relayed monitor placed columns) fits (λ block condition low within none.
    elim ((relayed_rest_mixed monitor placed columns fits many).each condition within) [
      | inl as_is ↦ counted block condition (sym (has_as (counted_and_relayed monitor placed columns) (counted_of placed columns) condition block as_is) ∙ none)
      | inr as_is ↦ relay_left block condition (sym (has_as (counted_and_relayed monitor placed columns) (relay_of monitor placed) condition block as_is) ∙ none)
    ])
  where
    relay_left : (block condition : ℕ) → has_note (notes_at (relay_of monitor placed) block) condition ≡ false → has_note (notes_at placed block) condition ≡ false
    relay_left block condition none = elim (cases_Bool (has_note (notes_at placed block) condition)) [
      | inl has ↦ absurd (true≢false (sym (relays monitor placed block condition fits has) ∙ none))
      | inr out ↦ out
    ]

-- ---- all that is promised

pub record RestFacts (monitor : MonitorParts) (placed counted plan : Plan) (columns : columns_type) : Type 0 where
  pub fits : FitsPlan monitor plan
  pub lawful : IsLawfulByCounting monitor plan
  pub made : plan ≡ counted_and_relayed monitor placed columns
  pub relayed : IsCountedAndRelayed monitor placed counted plan
  pub omits : OmitsNoMore placed plan

pub rest_facts : MixedPlansAreLawful → LawfulIsByCounting → RelayedPlansAreLawful → RelayedPlansOmitNoMore → (monitor : MonitorParts) (placed counted relayed plan : Plan) (columns own : columns_type)
    → IsMonitor monitor → FitsPlan monitor placed → IsLawful monitor placed → FitsPlan monitor counted → IsLawfulByCounting monitor counted → counted ≡ counted_of placed columns
    → OmitsNoMore placed counted → CountsBroadcasts monitor placed columns → length columns ≡ length monitor.conditions
    → relayed ≡ relay_of monitor placed → FitsPlan monitor relayed → own ≡ columns → plan ≡ counted_of relayed own → RestFacts monitor placed counted plan columns
rest_facts mix wider relays omits monitor placed counted relayed plan columns own rule fits lawful counted_fits counted_lawful counted_is counted_omits broadcasts many relayed_is relayed_fits same made = record {
  fits = subst (FitsPlan monitor) (sym is) own_fits;
  lawful = subst (IsLawfulByCounting monitor) (sym is)
      (mix monitor (counted_of placed columns) (relay_of monitor placed) (counted_and_relayed monitor placed columns) theirs relays_fit own_fits
      (subst (IsLawfulByCounting monitor) counted_is counted_lawful)
      (wider monitor (relay_of monitor placed) (relays monitor placed rule fits lawful)) (relayed_rest_mixed monitor placed columns fits many));
  made = is;
  relayed = subst (λ (one : Plan). IsCountedAndRelayed monitor placed counted one) (sym is)
      (subst (λ (one : Plan). IsCountedAndRelayed monitor placed one (counted_and_relayed monitor placed columns)) (sym counted_is)
      (counted_and_relayed_is monitor placed columns fits many broadcasts));
  omits = subst (OmitsNoMore placed) (sym is) (relayed_rest_omits omits monitor placed columns fits many (subst (OmitsNoMore placed) counted_is counted_omits));
}
  where
    is : plan ≡ counted_and_relayed monitor placed columns
    is = made ∙ (λ i. counted_of (relayed_is i) (same i))

    theirs : FitsPlan monitor (counted_of placed columns)
    theirs = subst (FitsPlan monitor) counted_is counted_fits

    relays_fit : FitsPlan monitor (relay_of monitor placed)
    relays_fit = subst (FitsPlan monitor) relayed_is relayed_fits

    own_fits : FitsPlan monitor (counted_and_relayed monitor placed columns)
    own_fits = relayed_rest_fits monitor placed columns fits theirs relays_fit many
