-- Notes of the machine as the code keeps it.
use Rattle.std.proofs.Common.{◌≡◌, ℕ, zero, suc, ◌+◌, ◌-◌, ◌<◌, ◌≤◌, Bool, true, false, not, ◌||◌, List, [], ◌∷◌, ◌++◌, map, set, take, drop, length, get_or, Option, Some, None, refl, sym, ap, subst, ◌∙◌, arith, add-one}
use Rattle.std.specs.Prelude.{slice_get, unwrap_or, IsSomeAnd, MatchOption}
use Rattle.std.proofs.lemmas.List.{drop_all, length-append, length-take, length-drop, length-map}
use Rattle.std.proofs.lemmas.List.Elements.{All-head, All-tail}
use Rattle.std.specs.List.{All}
use Rattle.std.proofs.lemmas.Option.{none-some, same_Some, slice_get_read, slice_get_past}
use Rattle.std.proofs.lemmas.Bool.{true≢false}
use Rattle.lang_base.specs.declared.value.Value.{Value}
use Rattle.lang_monitor.specs.declared.monitor.Condition.{Condition}
use Rattle.lang_monitor.specs.MonitorParts.{MonitorParts, IsMonitor}
use Rattle.lang_monitor.specs.Conditions.{IsDescribed}
use Rattle.lang_monitor.specs.Inputs.{reads_inputs}
use Rattle.machine_implicit.specs.Steps.{condition_truth}
use Rattle.machine_events.specs.declared.plan.Note.{Note}
use Rattle.machine_events.specs.declared.plan.Plan.{Plan}
use Rattle.machine_explicit.specs.declared.position.ToCome.{ToCome}
use Rattle.machine_explicit.specs.declared.position.ToCome.TheVariants as comings
use Rattle.machine_events.specs.declared.event.Stage.TheVariants.{Notifying}
use Rattle.machine_implicit.specs.declared.place.Place.{Place}
use Rattle.machine_explicit.specs.declared.position.Position.{Position}
use Rattle.machine_explicit.specs.declared.notes.Next.{Next}
use Rattle.machine_events.specs.Plans.{notes_at, FitsNote, FitsNotes, FitsPlan}
use Rattle.machine_explicit.specs.inner.Positions.{coming_notes, PositionAt, HasNoNext, IsFirstNote, IsNext, IsNoteOf, CanTest, fires_in}
use Rattle.machine_events.proofs.Facing.{all_at, is_some_and}

-- ---- a walk that writes each element

walked : {X : Type 0} (f : X → X) (xs : List X) (i : ℕ) (d : X) → i < length xs
    → set (map f (take i xs) ++ drop i xs) i (f (get_or (map f (take i xs) ++ drop i xs) i d)) ≡ map f (take (suc i) xs) ++ drop (suc i) xs
walked f [] i d within = absurd (omega arith)
walked f (x ∷ xs) zero d within = refl
walked {X} f (x ∷ xs) (suc i) d within = ap (λ (rest : List X). f x ∷ rest) (walked f xs i d (omega arith))

pub walk_length : {X : Type 0} (f : X → X) (xs positions : List X) (i : ℕ) → positions ≡ map f (take i xs) ++ drop i xs → i < length xs → i < length positions
walk_length f xs positions i is within = omega (arith, ap length is, length-append (map f (take i xs)) (drop i xs), length-map (take i xs) f, length-take i xs, length-drop i xs, within)

pub walk_step : {X : Type 0} (f : X → X) (xs positions : List X) (i : ℕ) (y d : X) → positions ≡ map f (take i xs) ++ drop i xs → i < length xs → y ≡ f (get_or positions i d)
    → set positions i y ≡ map f (take (i + 1) xs) ++ drop (i + 1) xs
walk_step f xs positions i y d is within same = rw (same, is, add-one) (walked f xs i d within)

-- ---- a note

-- a tested note that fits is on a condition that there is, and which reads no inputs
can_test : (monitor : MonitorParts) (note : Note) → IsMonitor monitor → FitsNote monitor note → note.tested ≡ true → CanTest monitor note
can_test monitor note rule fits tested =
    let found = is_some_and (slice_get monitor.conditions (note.condition - 1)) (λ (which : Condition). note.tested ≡ true → reads_inputs which.guard ≡ false) fits.1 in
    let described = all_at IsDescribed monitor.conditions (note.condition - 1) found.0 found.1 rule.described in
    (fits.0, subst (λ (one : Option Condition). IsSomeAnd one (λ which. which.reads_inputs ≡ false)) (sym found.1) (described.inputs ∙ found.2 tested))

pub fires_tested : (monitor : MonitorParts) (state : List Value) (note : Note) → note.tested ≡ true → condition_truth monitor state note.condition ≡ fires_in monitor state note
fires_tested monitor state note tested = sym (ap (λ (test : Bool). not test || condition_truth monitor state note.condition) tested)

-- ---- the first note to come

first_dropped : (notes : List Note) (from : ℕ) (note : Note) → slice_get notes from ≡ Some note → drop from notes ≡ note ∷ drop (suc from) notes
first_dropped [] from note is = absurd (none-some note is)
first_dropped (first ∷ notes) zero note is = ap (λ (one : Note). one ∷ notes) (same_Some first note is)
first_dropped (first ∷ notes) (suc from) note is = first_dropped notes from note is

made_found : (positions : List Position) (client : ℕ) (one : Position) → client < length positions → one ≡ get_or positions client one → slice_get positions client ≡ Some one
made_found positions client one within is = slice_get_read positions (length positions) client one refl within is

pub own_first : (plan : Plan) (to_come : ToCome) (block from : ℕ) → to_come ≡ comings.Block block from → (found : Option Next) → MatchOption found (length (notes_at plan block) ≤ from) (λ next. IsNoteOf plan block from next)
    → MatchOption found (coming_notes plan to_come ≡ []) (λ next. IsFirstNote plan to_come next)
own_first plan to_come block from is None over = ap (coming_notes plan) is ∙ drop_all from (notes_at plan block) over
own_first plan to_come block from is (Some next) told = record {
  more = drop (suc from) (notes_at plan block);
  notes = ap (coming_notes plan) is ∙ first_dropped (notes_at plan block) from next.note told.note;
  then_more = ap (coming_notes plan) told.rest ∙ ap (λ (at : ℕ). drop at (notes_at plan block)) (add-one from);
  source = λ tested. (block, from, told.note);
}

pub signal_first : (plan : Plan) (to_come : ToCome) (condition : ℕ) → to_come ≡ comings.Signal condition → IsFirstNote plan to_come (record { note = record { condition = condition; all = false; tested = false }; rest = comings.Nothing })
signal_first plan to_come condition is = record {
  more = [];
  notes = ap (coming_notes plan) is;
  then_more = refl;
  source = λ tested. absurd (true≢false (sym tested));
}

-- ---- a client that is notifying

pub same_coming : (positions : List Position) (client : ℕ) (one : Position) (to_come others : ToCome) (place : Place) → client < length positions → one ≡ get_or positions client one → one.stage ≡ Notifying to_come
    → PositionAt positions client place (Notifying others) → others ≡ to_come
same_coming positions client one to_come others place within is notifying at =
    inner (ap (λ (m : Position). m.stage) (same_Some (record { place = place; stage = Notifying others }) one (sym at ∙ made_found positions client one within is)) ∙ notifying)
  where
    inner : Notifying others ≡ Notifying to_come → others ≡ to_come
    inner same = cc same

pub not_notifying : (positions : List Position) (client : ℕ) (one : Position) (others : ToCome) (place : Place) → client < length positions → one ≡ get_or positions client one → ((to_come : ToCome) → one.stage ≡ Notifying to_come → ⊥)
    → PositionAt positions client place (Notifying others) → ⊥
not_notifying positions client one others place within is never at =
    never others (sym (ap (λ (m : Position). m.stage) (same_Some (record { place = place; stage = Notifying others }) one (sym at ∙ made_found positions client one within is))))

pub next_of : (plan : Plan) (positions : List Position) (client : ℕ) (one : Position) (to_come : ToCome) → client < length positions → one ≡ get_or positions client one → one.stage ≡ Notifying to_come
    → (found : Option Next) → MatchOption found (coming_notes plan to_come ≡ []) (λ next. IsFirstNote plan to_come next)
    → MatchOption found (HasNoNext plan positions client) (λ next. IsNext plan positions client next)
next_of plan positions client one to_come within is notifying None none = λ place others at. ap (coming_notes plan) (same_coming positions client one to_come others place within is notifying at) ∙ none
next_of plan positions client one to_come within is notifying (Some next) first =
    record { place = one.place; to_come = to_come; at = made_found positions client one within is ∙ (λ i. Some (record { place = one.place; stage = notifying i })); first = first }

pub next_none : (plan : Plan) (positions : List Position) (client : ℕ) (one : Position) → client < length positions → one ≡ get_or positions client one → ((to_come : ToCome) → one.stage ≡ Notifying to_come → ⊥)
    → HasNoNext plan positions client
next_none plan positions client one within is never place others at = absurd (not_notifying positions client one others place within is never at)

pub next_beyond : (plan : Plan) (positions : List Position) (client : ℕ) → length positions ≤ client → HasNoNext plan positions client
next_beyond plan positions client beyond place others at = absurd (none-some (record { place = place; stage = Notifying others }) (sym (slice_get_past positions client beyond) ∙ at))

-- ---- a note of a plan

-- a note of a block fits, since the plan does
some_note : (monitor : MonitorParts) (all : List (List Note)) (block from : ℕ) (note : Note) → All (FitsNotes monitor) all → slice_get (unwrap_or (slice_get all block) []) from ≡ Some note → FitsNote monitor note
some_note monitor [] block from note fits is = absurd (none-some note is)
some_note monitor (notes ∷ all) zero from note fits is = all_at (FitsNote monitor) notes from note is (All-head (FitsNotes monitor) notes all fits).each
some_note monitor (notes ∷ all) (suc block) from note fits is = some_note monitor all block from note (All-tail (FitsNotes monitor) notes all fits) is

pub next_fits : (monitor : MonitorParts) (plan : Plan) (positions : List Position) (client : ℕ) (next : Next) → IsMonitor monitor → FitsPlan monitor plan → IsNext plan positions client next → next.note.tested ≡ true → CanTest monitor next.note
next_fits monitor plan positions client next rule fits is tested =
    let source = is.first.source tested in
    can_test monitor next.note rule (some_note monitor plan.notes source.0 source.1 next.note fits.each source.2) tested
