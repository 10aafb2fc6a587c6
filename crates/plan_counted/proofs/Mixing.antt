-- A plan that is mixed of two that are lawful by counting is so too.
use Rattle.std.proofs.Common.{◌≡◌, ◌==◌, inl, inr, ℕ, zero, suc, ◌+◌, ◌-◌, ◌<◌, ◌≤◌, Bool, true, false, cond, ◌&&◌, List, [], ◌∷◌, map, Option, Some, None, refl, sym, ap, subst, ◌∙◌, arith}
use Rattle.std.specs.Prelude.{All, slice_get, unwrap_or, ◌||◌}
use Rattle.std.specs.List.{AllPairs, Contains}
use Rattle.std.proofs.lemmas.Bool.{true≢false, cases_eq, eq-eqb}
use Rattle.std.proofs.lemmas.List.Elements.{All-nil, All-cons, All-weaker}
use Rattle.std.proofs.lemmas.List.Kept.{AllPairs-from_increasing}
use Rattle.std.proofs.lemmas.Option.{slice_get_within}
use Rattle.lang_base.proofs.Members.{contains_head, contains_tail, in_map}
use Rattle.lang_monitor.specs.declared.candidate.Candidate.{Candidate}
use Rattle.lang_monitor.specs.declared.monitor.Condition.{Condition}
use Rattle.lang_monitor.specs.MonitorParts.{MonitorParts}
use Rattle.lang_monitor.specs.Bodies.{after}
use Rattle.lang_monitor.specs.Triples.{IsInductive, NoneNeeded, OneEnough}
use Rattle.machine_events.specs.declared.plan.CondKind.TheVariants as kinds
use Rattle.machine_events.specs.declared.plan.Note.{Note}
use Rattle.machine_events.specs.declared.plan.Plan.{Plan}
use Rattle.machine_events.specs.Plans.{EachNoteOn, FitsNote, FitsNotes, FitsPlan, IsCondition, IsUntestedBroadcast, condition_kind, has_broadcast, has_note, notes_at}
use Rattle.machine_events.specs.Rising.{AreRising}
use Rattle.machine_events.specs.Running.{MayRun}
use Rattle.machine_events.specs.Counts.{IsLawfulByCounting, one_if, slack}
use Rattle.machine_events.proofs.Facing.{all_at}
use Rattle.logic_wp.specs.PlainClaims.{IsConditionNumber}
use Rattle.plan_place.specs.Relayed.{note_on}
use Rattle.plan_place.proofs.NotesOn.{NoneOn, OnceOn, is_some, on_found, on_is}
use Rattle.plan_counted.specs.Mixed.{HasAsIn, MixedPlansAreLawful}
use Rattle.plan_counted.proofs.Table.{broadcast_found}

-- ---- notes that rise are on a condition once

-- each is below those that follow
abbrev Rise : List Note → Type 0
Rise [] = Unit {0}
Rise (note ∷ notes) = ((other : Note) → Contains notes other → note.condition < other.condition) × Rise notes

first_below : (first : ℕ) (numbers : List ℕ) → AllPairs (λ x y. x < y) (first ∷ numbers) → (number : ℕ) → Contains numbers number → first < number
first_below first numbers pairs number (k, less, is) = subst (λ (other : ℕ). first < other) is (pairs 0 (suc k) number (omega arith) (omega (arith, less)))

pairs_rise : (notes : List Note) → AllPairs (λ x y. x < y) (map (λ note. note.condition) notes) → Rise notes
pairs_rise [] pairs = tt
pairs_rise (note ∷ notes) pairs = (
  λ other within. first_below note.condition (map (λ one. one.condition) notes) pairs other.condition (in_map (λ one. one.condition) notes other within),
  pairs_rise notes (λ i j d less within. pairs (suc i) (suc j) d (omega (arith, less)) (omega (arith, within))),
)

none_after : (q first : ℕ) (notes : List Note) → first ≡ q → ((other : Note) → Contains notes other → first < other.condition) → NoneOn q notes
none_after q first [] on above = tt
none_after q first (note ∷ notes) on above = (
  (λ same. let low = above note (contains_head note notes) in absurd (omega (arith, on, same, low))),
  none_after q first notes on (λ other within. above other (contains_tail note other notes within)),
)

once : (q : ℕ) (notes : List Note) → Rise notes → OnceOn q notes
once q [] rises = tt
once q (note ∷ notes) rises = ((λ on. none_after q note.condition notes on rises.0), once q notes rises.1)

pub rising_once : (q : ℕ) (notes : List Note) → AreRising notes → OnceOn q notes
rising_once q notes rising = once q notes (pairs_rise notes (AllPairs-from_increasing (map (λ note. note.condition) notes) rising))

once_at : (monitor : MonitorParts) (plan : Plan) (q block : ℕ) → FitsPlan monitor plan → OnceOn q (notes_at plan block)
once_at monitor plan q block fits = by_found (slice_get plan.notes block) refl
  where
    by_found : (found : Option (List Note)) → slice_get plan.notes block ≡ found → OnceOn q (unwrap_or found [])
    by_found None is = tt
    by_found (Some notes) is = rising_once q notes (all_at (FitsNotes monitor) plan.notes block notes is fits.each).rising

-- ---- what holds of the note that is found holds of each on the condition

none_all : (P : Note → Type 0) (q : ℕ) (notes : List Note) → NoneOn q notes → All (λ (note : Note). note.condition ≡ q → P note) notes
none_all P q [] none = All-nil (λ (note : Note). note.condition ≡ q → P note)
none_all P q (note ∷ notes) none =
    All-cons (λ (note : Note). note.condition ≡ q → P note) note notes (λ here. absurd (none.0 here)) (none_all P q notes none.1)

unlike : (n q : ℕ) → (n ≡ q → ⊥) → (n == q) ≡ false
unlike n q differs = grind (arith, differs)

all_found : (P : Note → Type 0) (q : ℕ) (notes : List Note) → OnceOn q notes → ((note : Note) → note_on notes q ≡ Some note → P note)
    → All (λ (note : Note). note.condition ≡ q → P note) notes
all_found P q [] once each = All-nil (λ (note : Note). note.condition ≡ q → P note)
all_found P q (note ∷ notes) once each = elim (cases_eq note.condition q) [
  | inl on ↦ All-cons (λ (note : Note). note.condition ≡ q → P note) note notes
      (λ here. each note (ap (λ (test : Bool). cond test (Some note) (note_on notes q)) (eq-eqb note.condition q on)))
      (none_all P q notes (once.0 on))
  | inr off ↦ All-cons (λ (note : Note). note.condition ≡ q → P note) note notes (λ here. absurd (off here))
      (all_found P q notes once.1
      (λ one is. each one (ap (λ (test : Bool). cond test (Some note) (note_on notes q)) (unlike note.condition q off) ∙ is)))
]

-- ---- the broadcast that is found

record FoundAll (notes : List Note) (q : ℕ) : Type 0 where
  note : Note
  is : note_on notes q ≡ Some note
  all : note.all ≡ true

no_broadcast : (q : ℕ) (notes : List Note) → NoneOn q notes → has_broadcast notes q ≡ true → ⊥
no_broadcast q [] none has = true≢false (sym has)
no_broadcast q (note ∷ notes) none has =
    no_broadcast q notes none.1 (sym (ap (λ (test : Bool). (test && note.all) || has_broadcast notes q) (unlike note.condition q none.0)) ∙ has)

found_all : (q : ℕ) (notes : List Note) → OnceOn q notes → has_broadcast notes q ≡ true → FoundAll notes q
found_all q [] once has = absurd (true≢false (sym has))
found_all q (note ∷ notes) once has = elim (cases_eq note.condition q) [
  | inl on ↦
      let here = eq-eqb note.condition q on in record {
        note = note;
        is = ap (λ (test : Bool). cond test (Some note) (note_on notes q)) here;
        all = by_all note.all refl (no_broadcast q notes (once.0 on)) (sym (ap (λ (test : Bool). (test && note.all) || has_broadcast notes q) here) ∙ has);
      }
  | inr off ↦
      let there = unlike note.condition q off in
      let more = found_all q notes once.1 (sym (ap (λ (test : Bool). (test && note.all) || has_broadcast notes q) there) ∙ has) in record {
        note = more.note;
        is = ap (λ (test : Bool). cond test (Some note) (note_on notes q)) there ∙ more.is;
        all = more.all;
      }
]
  where
    by_all : (all : Bool) → note.all ≡ all → (has_broadcast notes q ≡ true → ⊥) → (all || has_broadcast notes q) ≡ true → all ≡ true
    by_all true is none has = refl
    by_all false is none has = absurd (none has)

-- ---- one condition

pub has_as : (plan other : Plan) (condition block : ℕ) → HasAsIn plan other condition
    → has_note (notes_at plan block) condition ≡ has_note (notes_at other block) condition
has_as plan other condition block as_is =
    on_is (notes_at plan block) condition ∙ ap is_some (as_is.notes block) ∙ sym (on_is (notes_at other block) condition)

each_as : (P : Note → Type 0) (monitor : MonitorParts) (plan other : Plan) (condition : ℕ) → FitsPlan monitor plan → HasAsIn plan other condition
    → EachNoteOn other condition P → EachNoteOn plan condition P
each_as P monitor plan other condition fits as_is each block =
    all_found P condition (notes_at plan block) (once_at monitor plan condition block fits) (λ note is.
    let found = on_found (λ (note : Note). note.condition ≡ condition → P note) (notes_at other block) condition note (sym (as_is.notes block) ∙ is) (each block) in
    found.1 found.0)

all_as : (monitor : MonitorParts) (plan other : Plan) (condition block : ℕ) → FitsPlan monitor other → HasAsIn plan other condition
    → has_broadcast (notes_at other block) condition ≡ true → has_broadcast (notes_at plan block) condition ≡ true
all_as monitor plan other condition block fits as_is has =
    let found = found_all condition (notes_at other block) (once_at monitor other condition block fits) has in
    broadcast_found (notes_at plan block) condition found.note (as_is.notes block ∙ found.is) found.all

-- ---- the plan that a condition is taken from

record Source (monitor : MonitorParts) (plan : Plan) (condition : ℕ) : Type 0 where
  other : Plan
  fits : FitsPlan monitor other
  lawful : IsLawfulByCounting monitor other
  kept : plan.kept ≡ other.kept
  as_is : HasAsIn plan other condition

none_on_zero : (P : Note → Type 0) (monitor : MonitorParts) (plan : Plan) → FitsPlan monitor plan → EachNoteOn plan 0 P
none_on_zero P monitor plan fits block = by_found (slice_get plan.notes block) refl
  where
    by_found : (found : Option (List Note)) → slice_get plan.notes block ≡ found → All (λ (note : Note). note.condition ≡ 0 → P note) (unwrap_or found [])
    by_found None is = All-nil (λ (note : Note). note.condition ≡ 0 → P note)
    by_found (Some notes) is =
        All-weaker (FitsNote monitor) (λ (note : Note). note.condition ≡ 0 → P note)
        (λ note fits here. let low = fits.0 in absurd (omega (arith, low, here))) notes (all_at (FitsNotes monitor) plan.notes block notes is fits.each).each

pub mixed_lawful : MixedPlansAreLawful
mixed_lawful monitor one other plan fits_one fits_other fits lawful_one lawful_other mixed = record {
  inductive = subst (IsInductive monitor) (sym mixed.kept_by_one) lawful_one.inductive;
  noted = λ block condition within first last none.
      let s = source condition (first, last) in
      subst (λ (kept : List Candidate). NoneNeeded monitor kept block condition) (sym s.kept)
      (s.lawful.noted block condition within first last (sym (has_as plan s.other condition block s.as_is) ∙ none));
  reading = λ number which is reads.
      let s = source number (numbered number which is) in
      let wakes = s.lawful.reading number which is reads in
      record { kind = s.as_is.kind ∙ wakes.kind; notes = each_as IsUntestedBroadcast monitor plan s.other number fits s.as_is wakes.notes };
  broadcasts = broadcasts;
  signals = λ number which is kind.
      let s = source number (numbered number which is) in
      elim (s.lawful.signals number which is (sym s.as_is.kind ∙ kind)) [
        | inl passed ↦ inl (λ index block there same. elim (passed index block there same) [
          | inl enough ↦ inl (subst (λ (kept : List Candidate). OneEnough monitor kept number index) (sym s.kept) enough)
          | inr has ↦ inr (has_as plan s.other number index s.as_is ∙ has)
        ])
        | inr counted ↦ inr (
          counted.0,
          λ index block there. elim (counted.1 index block there) [
            | inl all ↦ inl (all_as monitor plan s.other number index s.fits s.as_is all)
            | inr leaves ↦ inr (λ inputs state may bounded.
                let left = leaves inputs state (subst (λ (kept : List Candidate). MayRun monitor kept index block inputs state) s.kept may) bounded in record {
                  bounded = left.bounded;
                  many = subst (λ (has : Bool). slack monitor counted.0 (after inputs block.body state).state number + one_if (block.condition == number) ≤ slack monitor counted.0 state number + one_if has) (sym (has_as plan s.other number index s.as_is)) left.many;
                })
          ],
        )
      ];
}
  where
    numbered : (number : ℕ) (which : Condition) → IsCondition monitor number which → IsConditionNumber monitor number
    numbered number which is =
        let first = is.numbered in
        let low = slice_get_within monitor.conditions (number - 1) which is.there in
        (first, omega (arith, first, low))

    source : (condition : ℕ) → IsConditionNumber monitor condition → Source monitor plan condition
    source condition is = elim (mixed.each condition is) [
      | inl as_is ↦ record { other = one; fits = fits_one; lawful = lawful_one; kept = mixed.kept_by_one; as_is = as_is }
      | inr as_is ↦ record { other = other; fits = fits_other; lawful = lawful_other; kept = mixed.kept_by_other; as_is = as_is }
    ]

    broadcasts : (condition : ℕ) → condition_kind plan condition ≡ Some kinds.Broadcast → EachNoteOn plan condition (λ note. note.all ≡ true)
    broadcasts zero kind = none_on_zero (λ (note : Note). note.all ≡ true) monitor plan fits
    broadcasts (suc before) kind =
        let low = slice_get_within plan.kinds (suc before - 1) kinds.Broadcast kind in
        let many = fits.kinds in
        let s = source (suc before) (omega arith, omega (arith, low, many)) in
        each_as (λ (note : Note). note.all ≡ true) monitor plan s.other (suc before) fits s.as_is (s.lawful.broadcasts (suc before) (sym s.as_is.kind ∙ kind))
