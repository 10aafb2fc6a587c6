-- A monitor has one exact plan.
use Rattle.std.proofs.Common.{◌≡◌, ℕ, suc, ◌+◌, ◌-◌, ◌<◌, ◌≤◌, ◌↔◌, ◌==◌, Bool, true, false, List, [], ◌∷◌, map, length, get_or, Option, Some, None, refl, sym, ap, subst, ◌∙◌, arith, inl, inr}
use Rattle.std.specs.Prelude.{IsSomeAnd, slice_get}
use Rattle.std.specs.List.{AllPairs, Contains}
use Rattle.std.proofs.lemmas.Bool.{eq-eqb, eqb-true}
use Rattle.std.proofs.lemmas.List.Elements.{All-contains, Contains-get_or}
use Rattle.std.proofs.lemmas.List.Folds.{Any-from_list_any, list_any-from_Any}
use Rattle.std.proofs.lemmas.List.Kept.{AllPairs-from_increasing}
use Rattle.std.proofs.lemmas.Option.{same_Some, slice_get-get_or, slice_get_within, unwrap_or-slice_get}
use Rattle.lang_base.proofs.Members.{contains_head, contains_tail, first_or_later, in_map, none_in}
use Rattle.lang_monitor.specs.declared.candidate.Candidate.{Candidate}
use Rattle.lang_monitor.specs.declared.monitor.Condition.{Condition}
use Rattle.lang_monitor.specs.MonitorParts.{MonitorParts}
use Rattle.lang_monitor.specs.Inputs.{reads_inputs}
use Rattle.machine_events.specs.declared.plan.CondKind.{CondKind}
use Rattle.machine_events.specs.declared.plan.CondKind.TheVariants as kinds
use Rattle.machine_events.specs.declared.plan.Note.{Note}
use Rattle.machine_events.specs.declared.plan.Plan.{Plan}
use Rattle.machine_events.specs.PlanText.{note_kind}
use Rattle.machine_events.specs.Plans.{FitsNote, FitsNotes, FitsPlan, condition_kind, has_note, notes_at}
use Rattle.machine_events.specs.Rising.{AreRising}
use Rattle.lang_monitor.specs.Triples.{NoneNeeded, NoTestNeeded, OneEnough}
use Rattle.logic_wp.specs.PlainClaims.{IsConditionNumber, ReadsNone}
use Rattle.plan_place.specs.Exact.{IsExact, MaySignal, NeedsTest}
use Rattle.plan_place.proofs.ApartCandidates.{same_kept}

-- ---- lists

cons_same : {X : Type 0} (a b : X) (some others : List X) → a ≡ b → some ≡ others → a ∷ some ≡ b ∷ others
cons_same a b some others head rest = λ i. head i ∷ rest i

same_list : {X : Type 0} (xs ys : List X) → length xs ≡ length ys → ((i : ℕ) → i < length xs → slice_get xs i ≡ slice_get ys i) → xs ≡ ys
same_list [] [] long at = refl
same_list [] (y ∷ ys) long at = absurd (omega (arith, long))
same_list (x ∷ xs) [] long at = absurd (omega (arith, long))
same_list (x ∷ xs) (y ∷ ys) long at =
    cons_same x y xs ys (same_Some x y (at 0 (omega arith))) (same_list xs ys (omega (arith, long)) (λ i less. at (suc i) (omega (arith, less))))

-- ---- kinds

same_kind : (one other : CondKind) → (one ≡ kinds.Signal → other ≡ kinds.Signal) → (other ≡ kinds.Signal → one ≡ kinds.Signal) → one ≡ other
same_kind kinds.Signal other there back = sym (there refl)
same_kind kinds.Broadcast kinds.Signal there back = back refl
same_kind kinds.Broadcast kinds.Broadcast there back = refl

same_found : (one other : Option CondKind) (a b : CondKind) → one ≡ Some a → other ≡ Some b → (one ≡ Some kinds.Signal → other ≡ Some kinds.Signal) → (other ≡ Some kinds.Signal → one ≡ Some kinds.Signal) → one ≡ other
same_found one other a b is also there back =
    is
    ∙ ap Some (same_kind a b (λ signal. same_Some b kinds.Signal (sym also ∙ there (is ∙ ap Some signal))) (λ signal. same_Some a kinds.Signal (sym is ∙ back (also ∙ ap Some signal))))
    ∙ sym also

-- ---- notes

-- each is below those that follow
abbrev Rise : List Note → Type 0
Rise [] = Unit {0}
Rise (note ∷ notes) = ((other : Note) → Contains notes other → note.condition < other.condition) × Rise notes

first_below : (first : ℕ) (numbers : List ℕ) → AllPairs (λ x y. x < y) (first ∷ numbers) → (number : ℕ) → Contains numbers number → first < number
first_below first numbers pairs number (k, less, is) = subst (λ (other : ℕ). first < other) is (pairs 0 (suc k) number (omega arith) (omega (arith, less)))

pairs_rise : (notes : List Note) → AllPairs (λ x y. x < y) (map (λ note. note.condition) notes) → Rise notes
pairs_rise [] pairs = tt
pairs_rise (note ∷ notes) pairs = (
  λ other within. first_below note.condition (map (λ one. one.condition) notes) pairs other.condition (in_map (λ one. one.condition) notes other within),
  pairs_rise notes (λ i j d less within. pairs (suc i) (suc j) d (omega (arith, less)) (omega (arith, within))),
)

rise : (notes : List Note) → AreRising notes → Rise notes
rise notes rising = pairs_rise notes (AllPairs-from_increasing (map (λ note. note.condition) notes) rising)

rest_within : (note other : Note) (notes others : List Note) → note ≡ other → ((one : Note) → Contains notes one → note.condition < one.condition)
    → ((one : Note) → Contains (note ∷ notes) one → Contains (other ∷ others) one) → (one : Note) → Contains notes one → Contains others one
rest_within note other notes others same below there one within = elim (first_or_later other one others (there one (contains_tail note one notes within))) [
  | inl is ↦ absurd (let above = below one within in let level = ap (λ (which : Note). which.condition) (same ∙ is) in omega (arith, above, level))
  | inr more ↦ more
]

heads_same : (note other : Note) (notes others : List Note) → Rise (note ∷ notes) → Rise (other ∷ others) → Contains (other ∷ others) note → Contains (note ∷ notes) other → note ≡ other
heads_same note other notes others ones twos there back = elim (first_or_later other note others there) [
  | inl is ↦ sym is
  | inr later ↦ elim (first_or_later note other notes back) [
    | inl is ↦ is
    | inr also ↦ absurd (omega (arith, ones.0 other also, twos.0 note later))
  ]
]

same_notes : (notes others : List Note) → Rise notes → Rise others → ((one : Note) → Contains notes one → Contains others one) → ((one : Note) → Contains others one → Contains notes one) → notes ≡ others
same_notes [] [] ones twos there back = refl
same_notes [] (other ∷ others) ones twos there back = none_in other (back other (contains_head other others))
same_notes (note ∷ notes) [] ones twos there back = none_in note (there note (contains_head note notes))
same_notes (note ∷ notes) (other ∷ others) ones twos there back =
    let same = heads_same note other notes others ones twos (there note (contains_head note notes)) (back other (contains_head other others)) in
    cons_same note other notes others same
    (same_notes notes others ones.1 twos.1 (rest_within note other notes others same ones.0 there) (rest_within other note others notes (sym same) twos.0 back))

same_bool : (a b : Bool) → (a ≡ true → b ≡ true) → (b ≡ true → a ≡ true) → a ≡ b
same_bool true b there back = sym (there refl)
same_bool false true there back = back refl
same_bool false false there back = refl

same_all : (a b : Bool) → note_kind a ≡ note_kind b → a ≡ b
same_all true true same = refl
same_all true false same = absurd (cc same)
same_all false true same = absurd (cc same)
same_all false false same = refl

made_note : ℕ → Bool → Bool → Note
made_note condition all tested = record { condition = condition; all = all; tested = tested }

same_note : (one other : Note) → one.condition ≡ other.condition → one.all ≡ other.all → one.tested ≡ other.tested → one ≡ other
same_note one other conditions alls tests = λ i. record { condition = conditions i; all = alls i; tested = tests i }

-- some note is on the condition
record IsOn (notes : List Note) (condition : ℕ) : Type 0 where
  note : Note
  one : Contains notes note
  on : note.condition ≡ condition

on_condition : (notes : List Note) (condition : ℕ) → has_note notes condition ≡ true → IsOn notes condition
on_condition notes condition has =
    let found = Any-from_list_any (λ (note : Note). note.condition == condition) notes has in
    record { note = found.1; one = (found.0, found.2, found.3); on = eqb-true found.1.condition condition found.4 }

has_one : (notes : List Note) (note : Note) → Contains notes note → has_note notes note.condition ≡ true
has_one notes note (k, less, is) =
    list_any-from_Any (λ (one : Note). one.condition == note.condition) notes (k, note, less, is, eq-eqb note.condition note.condition refl)

-- ---- plans

some_within : (conditions : List Condition) (number : ℕ) (P : Condition → Type 0) → (found : Option Condition) → slice_get conditions (number - 1) ≡ found → IsSomeAnd found P → number - 1 < length conditions
some_within conditions number P None is there = absurd there
some_within conditions number P (Some condition) is there = slice_get_within conditions (number - 1) condition is

-- the notes of a block fit
fitting : (monitor : MonitorParts) (plan : Plan) → FitsPlan monitor plan → (block : ℕ) → block < length monitor.blocks → FitsNotes monitor (notes_at plan block)
fitting monitor plan fits block within =
    let there : block < length plan.notes = omega (arith, within, fits.notes) in
    subst (FitsNotes monitor) (sym (unwrap_or-slice_get plan.notes block [])) (All-contains (FitsNotes monitor) plan.notes (get_or plan.notes block []) fits.each (Contains-get_or plan.notes block [] there))

numbered : (monitor : MonitorParts) (note : Note) → FitsNote monitor note → IsConditionNumber monitor note.condition
numbered monitor note fits =
    let low = fits.0 in
    let within =
    some_within monitor.conditions note.condition (λ which. note.tested ≡ true → reads_inputs which.guard ≡ false) (slice_get monitor.conditions (note.condition - 1)) refl fits.1 in
    (low, omega (arith, low, within))

needs : (monitor : MonitorParts) (plan other : Plan) (block : ℕ) (note one : Note) → plan.kept ≡ other.kept → note.condition ≡ one.condition → NeedsTest monitor plan block note → NeedsTest monitor other block one
needs monitor plan other block note one kept condition test = record {
  reads_none = subst (ReadsNone monitor) condition test.reads_none;
  needed = λ none. test.needed
      (subst (λ (some : List Candidate). NoTestNeeded monitor some block note.condition) (sym kept) (subst (λ (number : ℕ). NoTestNeeded monitor other.kept block number) (sym condition) none));
}

abbrev SameKinds : MonitorParts → Plan → Plan → Type 0
SameKinds monitor plan other = (condition : ℕ) → 1 ≤ condition → condition ≤ length monitor.conditions → condition_kind plan condition ≡ condition_kind other condition

-- a note of the one plan is one of the other's
note_in : (monitor : MonitorParts) (plan other : Plan) → FitsPlan monitor plan → IsExact monitor plan → IsExact monitor other → plan.kept ≡ other.kept → SameKinds monitor plan other
    → (block : ℕ) → block < length monitor.blocks → (note : Note) → Contains (notes_at plan block) note → Contains (notes_at other block) note
note_in monitor plan other fits exact also kept kind block within note there =
    let number = numbered monitor note (All-contains (FitsNote monitor) (notes_at plan block) note (fitting monitor plan fits block within).each there) in
    let needed = (exact.noted block note.condition within number).0 (has_one (notes_at plan block) note there) in
    let on =
    on_condition (notes_at other block) note.condition
    ((also.noted block note.condition within number).1 (λ none. needed (subst (λ (some : List Candidate). NoneNeeded monitor some block note.condition) (sym kept) none))) in
    let own_kind = All-contains (λ one. condition_kind plan one.condition ≡ Some (note_kind one.all)) (notes_at plan block) note (exact.kinds block) there in
    let other_kind = All-contains (λ one. condition_kind other one.condition ≡ Some (note_kind one.all)) (notes_at other block) on.note (also.kinds block) on.one in
    let alls =
    same_all note.all on.note.all (same_Some (note_kind note.all) (note_kind on.note.all)
    (sym own_kind ∙ kind note.condition number.0 number.1 ∙ ap (condition_kind other) (sym on.on) ∙ other_kind)) in
    let own_test = All-contains (λ one. (one.tested ≡ true) ↔ NeedsTest monitor plan block one) (notes_at plan block) note (exact.tested block) there in
    let other_test = All-contains (λ one. (one.tested ≡ true) ↔ NeedsTest monitor other block one) (notes_at other block) on.note (also.tested block) on.one in
    let tests =
    same_bool note.tested on.note.tested (λ is. other_test.1 (needs monitor plan other block note on.note kept (sym on.on) (own_test.0 is)))
    (λ is. own_test.1 (needs monitor other plan block on.note note (sym kept) on.on (other_test.0 is))) in
    subst (Contains (notes_at other block)) (sym (same_note note on.note (sym on.on) alls tests)) on.one

module _ (monitor : MonitorParts) (plan other : Plan) (fits : FitsPlan monitor plan) (fits_also : FitsPlan monitor other) (exact : IsExact monitor plan) (also : IsExact monitor other) where
  kept_same : plan.kept ≡ other.kept
  kept_same =
      same_kept monitor plan.kept other.kept exact.greatest.invariant.candidates also.greatest.invariant.candidates
      (λ one within. (also.greatest.exactly one).1 ((exact.greatest.exactly one).0 within))
      (λ one within. (exact.greatest.exactly one).1 ((also.greatest.exactly one).0 within))

  may_signal : (condition : ℕ) → MaySignal monitor plan condition → MaySignal monitor other condition
  may_signal condition may = record {
    reads_none = may.reads_none;
    enough = λ block waits. subst (λ (kept : List Candidate). OneEnough monitor kept condition block) kept_same (may.enough block waits);
  }

  might_signal : (condition : ℕ) → MaySignal monitor other condition → MaySignal monitor plan condition
  might_signal condition may = record {
    reads_none = may.reads_none;
    enough = λ block waits. subst (λ (kept : List Candidate). OneEnough monitor kept condition block) (sym kept_same) (may.enough block waits);
  }

  kind_at : (condition : ℕ) → 1 ≤ condition → condition ≤ length monitor.conditions → condition_kind plan condition ≡ condition_kind other condition
  kind_at condition low high =
      let within : condition - 1 < length plan.kinds = omega (arith, low, high, fits.kinds) in
      let within_also : condition - 1 < length other.kinds = omega (arith, low, high, fits_also.kinds) in
      same_found (condition_kind plan condition) (condition_kind other condition) (get_or plan.kinds (condition - 1) kinds.Signal) (get_or other.kinds (condition - 1) kinds.Signal)
      (slice_get-get_or plan.kinds (condition - 1) kinds.Signal within) (slice_get-get_or other.kinds (condition - 1) kinds.Signal within_also)
      (λ is. (also.signals condition (low, high)).1 (may_signal condition ((exact.signals condition (low, high)).0 is)))
      (λ is. (exact.signals condition (low, high)).1 (might_signal condition ((also.signals condition (low, high)).0 is)))

  kinds_same : plan.kinds ≡ other.kinds
  kinds_same = same_list plan.kinds other.kinds (fits.kinds ∙ sym fits_also.kinds) (λ i less.
      let here : (i + 1) - 1 ≡ i = omega arith in
      subst (λ (k : ℕ). slice_get plan.kinds k ≡ slice_get other.kinds k) here (kind_at (i + 1) (omega arith) (omega (arith, less, fits.kinds))))

  notes_same : (block : ℕ) → block < length monitor.blocks → notes_at plan block ≡ notes_at other block
  notes_same block within =
      same_notes (notes_at plan block) (notes_at other block) (rise (notes_at plan block) (fitting monitor plan fits block within).rising)
      (rise (notes_at other block) (fitting monitor other fits_also block within).rising)
      (note_in monitor plan other fits exact also kept_same kind_at block within)
      (note_in monitor other plan fits_also also exact (sym kept_same) (λ condition low high. sym (kind_at condition low high)) block within)

  all_notes_same : plan.notes ≡ other.notes
  all_notes_same = same_list plan.notes other.notes (fits.notes ∙ sym fits_also.notes) (λ i less.
      let there : i < length other.notes = omega (arith, less, fits.notes, fits_also.notes) in
      slice_get-get_or plan.notes i [] less
      ∙ ap Some (sym (unwrap_or-slice_get plan.notes i []) ∙ notes_same i (omega (arith, less, fits.notes)) ∙ unwrap_or-slice_get other.notes i [])
      ∙ sym (slice_get-get_or other.notes i [] there))

  pub one_plan : plan ≡ other
  one_plan = λ i. record { kept = kept_same i; kinds = kinds_same i; notes = all_notes_same i }
