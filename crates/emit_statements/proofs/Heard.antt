-- The notes of a block that nobody hears.
use Rattle.std.proofs.Common.{◌≡◌, Bool, true, false, cond, ◌||◌, List, [], ◌∷◌, refl}
use Rattle.std.specs.List.{list_any}
use Rattle.std.proofs.lemmas.Bool.{true≢false}
use Rattle.machine_events.specs.declared.plan.Note.{Note}
use Rattle.emit_code.specs.Code.{is_waited_on}
use Rattle.emit_code.specs.LivePlans.{heard_notes}
use Rattle.emit_statements.specs.Sources.{SourceParts}

module _ (source : SourceParts) where
  abbrev pub hears : Note → Bool
  hears note = is_waited_on source.monitor note.condition

  pub none_heard : (notes : List Note) → list_any hears notes ≡ false → [] ≡ heard_notes source.monitor notes
  none_heard [] none = refl
  none_heard (note ∷ notes) none = by (hears note) none (none_heard notes)
    where
      by : (one : Bool) → (one || list_any hears notes) ≡ false → (list_any hears notes ≡ false → [] ≡ heard_notes source.monitor notes) → [] ≡ cond one (note ∷ heard_notes source.monitor notes) (heard_notes source.monitor notes)
      by true lacks more = absurd (true≢false lacks)
      by false lacks more = more lacks
