-- Broadcasts of blocks on counted conditions, one after the other.
use Rattle.std.proofs.Common.{◌≡◌, ℕ, ◌+◌, ◌<◌, ◌≤◌, Bool, true, false, cond, ◌&&◌, List, [], ◌∷◌, ◌++◌, length, map, take, get_or, Option, sym, ap, subst, arith, append-nil, ◌∙◌}
use Rattle.std.specs.Prelude.{All, IfSome, is_some}
use Rattle.std.specs.List.{filter, flat_map, enumerate_from}
use Rattle.std.proofs.lemmas.List.Elements.{All-nil, All-cons, All-head, All-tail, All-contains, Contains-get_or}
use Rattle.lang_monitor.specs.MonitorParts.{MonitorParts}
use Rattle.machine_events.specs.declared.plan.Note.{Note}
use Rattle.machine_events.specs.declared.plan.Plan.{Plan}
use Rattle.machine_events.specs.Plans.{FitsNote, FitsNotes, FitsPlan}
use Rattle.plan_count.specs.Questions.{MayBeAsked}
use Rattle.plan_counted.specs.declared.counted.Column.{Column}
use Rattle.plan_counted.specs.declared.counted.CountedPlan.{CountedPlan}
use Rattle.plan_counted.specs.Counted.{AreBacked}
use Rattle.plan_why.proofs.Things.{all_append, note_there, picked_more}
use Rattle.plan_needs.specs.declared.broadcasts.BlockBroadcast.{BlockBroadcast}
use Rattle.plan_needs.specs.Needs.{broadcasts_of, broadcasts_of_block, counted_row}
use Rattle.plan_needs.specs.inner.Asked.{IsAskable}
use Rattle.plan_needs.proofs.ByRows.{row_asked}

-- ---- one note after the other

abbrev columns_type : Type 0
columns_type = List (Option Column)

abbrev broadcasts : columns_type → Note → Bool
broadcasts columns note = note.all && is_some (counted_row columns note.condition)

abbrev broadcast_at : ℕ → Note → BlockBroadcast
broadcast_at block note = record { block = block; condition = note.condition }

pub broadcasts_more : (columns : columns_type) (block i : ℕ) (notes : List Note) (note : Note) (old before after : List BlockBroadcast) → i < length notes → note ≡ get_or notes i note
    → before ≡ old ++ broadcasts_of_block columns block (take i notes) → after ≡ before ++ broadcasts_of_block columns block (note ∷ []) → after ≡ old ++ broadcasts_of_block columns block (take (i + 1) notes)
broadcasts_more columns block i notes note old before after = picked_more (broadcasts columns) (broadcast_at block) i notes note old before after

pub broadcasts_none : (columns : columns_type) (block : ℕ) (notes : List Note) (old : List BlockBroadcast) → old ≡ old ++ broadcasts_of_block columns block (take 0 notes)
broadcasts_none columns block [] old = sym (append-nil old)
broadcasts_none columns block (note ∷ notes) old = sym (append-nil old)

-- ---- questions can be asked of each

block_askable : (monitor : MonitorParts) (plan : Plan) (columns : columns_type) (block : ℕ) (notes : List Note) → AreBacked monitor plan columns → block < length monitor.blocks → All (FitsNote monitor) notes → All (IsAskable monitor columns) (broadcasts_of_block columns block notes)
block_askable monitor plan columns block [] backed within fits = All-nil (IsAskable monitor columns)
block_askable monitor plan columns block (note ∷ notes) backed within fits =
    by (broadcasts columns note) (block_askable monitor plan columns block notes backed within (All-tail (FitsNote monitor) note notes fits))
  where
    by : (test : Bool) → All (IsAskable monitor columns) (broadcasts_of_block columns block notes)
        → All (IsAskable monitor columns) (map (broadcast_at block) (cond test (note ∷ filter (broadcasts columns) notes) (filter (broadcasts columns) notes)))
    by true more =
        All-cons (IsAskable monitor columns) (broadcast_at block note) (broadcasts_of_block columns block notes)
        (row_asked monitor plan columns note.condition block backed (note_there monitor note (All-head (FitsNote monitor) note notes fits)).0 within) more
    by false more = more

lists_askable : (monitor : MonitorParts) (plan : Plan) (columns : columns_type) (first : ℕ) (lists : List (List Note)) → AreBacked monitor plan columns → first + length lists ≤ length monitor.blocks → All (FitsNotes monitor) lists
    → All (IsAskable monitor columns) (flat_map (λ one. broadcasts_of_block columns one.0 one.1) (enumerate_from first lists))
lists_askable monitor plan columns first [] backed within fits = All-nil (IsAskable monitor columns)
lists_askable monitor plan columns first (notes ∷ lists) backed within fits =
    all_append (IsAskable monitor columns) (broadcasts_of_block columns first notes) (flat_map (λ one. broadcasts_of_block columns one.0 one.1) (enumerate_from (first + 1) lists))
    (block_askable monitor plan columns first notes backed (omega arith) (All-head (FitsNotes monitor) notes lists fits).each)
    (lists_askable monitor plan columns (first + 1) lists backed (omega arith) (All-tail (FitsNotes monitor) notes lists fits))

pub broadcasts_askable : (monitor : MonitorParts) (counted : CountedPlan) → FitsPlan monitor counted.plan → AreBacked monitor counted.plan counted.columns → All (IsAskable monitor counted.columns) (broadcasts_of counted)
broadcasts_askable monitor counted fits backed = let many = fits.notes in lists_askable monitor counted.plan counted.columns 0 counted.plan.notes backed (omega arith) fits.each

pub askable_at : (monitor : MonitorParts) (counted : CountedPlan) (all : List BlockBroadcast) (i : ℕ) (broadcast : BlockBroadcast) → FitsPlan monitor counted.plan → AreBacked monitor counted.plan counted.columns → all ≡ broadcasts_of counted → i < length all
    → broadcast ≡ get_or all i broadcast → IsAskable monitor counted.columns broadcast
askable_at monitor counted all i broadcast fits backed listed low is =
    let each : All (IsAskable monitor counted.columns) all = subst (All (IsAskable monitor counted.columns)) (sym listed) (broadcasts_askable monitor counted fits backed) in
    subst (IsAskable monitor counted.columns) (sym is) (All-contains (IsAskable monitor counted.columns) all (get_or all i broadcast) each (Contains-get_or all i broadcast low))

-- by the row that was found
pub askable_by : (monitor : MonitorParts) (columns own : columns_type) (broadcast : BlockBroadcast) (row : Option ℕ) → IsAskable monitor columns broadcast → own ≡ columns
    → row ≡ counted_row own broadcast.condition → IfSome row (λ row. MayBeAsked monitor broadcast.condition row broadcast.block)
askable_by monitor columns own broadcast row askable same is =
    subst (λ (held : Option ℕ). IfSome held (λ row. MayBeAsked monitor broadcast.condition row broadcast.block)) (sym (is ∙ ap (λ (all : columns_type). counted_row all broadcast.condition) same)) askable
