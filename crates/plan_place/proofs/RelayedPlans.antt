-- A relayed plan fits, is lawful where the plan is, and leaves out no more notes.
use Rattle.std.proofs.Common.{◌≡◌, ◌==◌, ◌⊎◌, inl, inr, ℕ, ◌+◌, ◌-◌, ◌<◌, ◌≤◌, Bool, true, false, not, cond, ◌&&◌, List, [], ◌∷◌, map, length, zero, suc, Option, Some, None, refl, sym, ap, subst, ◌∙◌, arith}
use Rattle.std.specs.Prelude.{All, slice_get, unwrap_or, IsSomeAnd, IfSome}
use Rattle.std.specs.List.{enumerate_from}
use Rattle.std.specs.Option.{option_map_or}
use Rattle.std.proofs.lemmas.Bool.{true≢false, cases_Bool, and_parts, and_from, not-true, eq-eqb}
use Rattle.std.proofs.lemmas.List.{length-map}
use Rattle.std.proofs.lemmas.List.FromFn.{length-enumerate_from}
use Rattle.std.proofs.lemmas.List.Elements.{All-nil, All-cons, All-head, All-tail}
use Rattle.std.proofs.lemmas.Option.{none-some, same_Some, slice_get_within}
use Rattle.lang_monitor.specs.declared.monitor.Block.{Block}
use Rattle.lang_monitor.specs.declared.monitor.Condition.{Condition}
use Rattle.lang_monitor.specs.Conditions.{HasCondition, IsDescribed}
use Rattle.lang_monitor.specs.Inputs.{reads_inputs}
use Rattle.lang_monitor.specs.MonitorParts.{MonitorParts, IsMonitor}
use Rattle.lang_monitor.specs.Triples.{OneEnough}
use Rattle.machine_events.specs.declared.plan.CondKind.{CondKind}
use Rattle.machine_events.specs.declared.plan.CondKind.TheVariants as kinds
use Rattle.machine_events.specs.declared.plan.Note.{Note}
use Rattle.machine_events.specs.declared.plan.Plan.{Plan}
use Rattle.machine_events.specs.Plans.{EachNoteOn, FitsNote, FitsNotes, FitsPlan, IsCondition, IsLawful, IsUntestedBroadcast, condition_kind, has_note, notes_at}
use Rattle.machine_events.proofs.Facing.{at_index, all_at}
use Rattle.plan_claims.specs.Backing.{reads_none, waits_at}
use Rattle.plan_place.specs.Relayed.{hands_on, is_broadcast, note_on, relay_of, relayed_kind, relayed_note, relayed_notes, relayed_on, tested_signal}
use Rattle.plan_place.proofs.NotesOn.{AreOnTheirs, RiseTo, all_made, is_some, made_rise, not_made, on_found, on_is}

-- ---- elements with their numbers

numbered_at : {X Y : Type 0} (f : ℕ × X → Y) (first : ℕ) (xs : List X) (k : ℕ) (x : X) → slice_get xs k ≡ Some x
    → slice_get (map f (enumerate_from first xs)) k ≡ Some (f (first + k, x))
numbered_at f first [] k x is = absurd (omega (arith, slice_get_within [] k x is))
numbered_at {X} {Y} f first (one ∷ xs) zero x is =
    let here : first ≡ first + 0 = omega arith in
    let same : one ≡ x = same_Some one x is in
    λ i. Some (f (here i, same i))
numbered_at {X} {Y} f first (one ∷ xs) (suc k) x is =
    let there : first + 1 + k ≡ first + suc k = omega arith in
    numbered_at f (first + 1) xs k x is ∙ ap {B = Option Y} (λ (n : ℕ). Some (f (n, x))) there

none_numbered : {X Y : Type 0} (f : ℕ × X → Y) (first : ℕ) (xs : List X) (k : ℕ) → slice_get xs k ≡ None
    → slice_get (map f (enumerate_from first xs)) k ≡ None
none_numbered f first [] k is = refl
none_numbered f first (x ∷ xs) zero is = absurd (none-some x (sym is))
none_numbered f first (x ∷ xs) (suc k) is = none_numbered f (first + 1) xs k is

length_numbered : {X Y : Type 0} (f : ℕ × X → Y) (first : ℕ) (xs : List X) → length (map f (enumerate_from first xs)) ≡ length xs
length_numbered f first xs = length-map (enumerate_from first xs) f ∙ length-enumerate_from first xs

-- ---- the notes of a block

-- what is made for a condition
abbrev pub made_on : MonitorParts → List CondKind → ℕ → List Note → ℕ → Option Note
made_on monitor all_kinds block notes condition = relayed_on monitor all_kinds block condition (note_on notes condition)

anything : (notes : List Note) → All (λ (note : Note). Unit {0}) notes
anything notes = λ place other within. tt

-- what is made: of a note that was there, or a tested signal
pub by_made : (P : Note → Type 0) (monitor : MonitorParts) (all_kinds : List CondKind) (block : ℕ) (notes : List Note) (condition : ℕ)
    → ((note : Note) → note_on notes condition ≡ Some note → P (relayed_note monitor note))
    → (hands_on monitor all_kinds block condition ≡ true → P (tested_signal condition))
    → IfSome (made_on monitor all_kinds block notes condition) P
by_made P monitor all_kinds block notes condition of_note of_none = by_found (note_on notes condition) refl
  where
    by_test : (test : Bool) → hands_on monitor all_kinds block condition ≡ test → IfSome (cond test (Some (tested_signal condition)) None) P
    by_test true is = of_none is
    by_test false is = tt

    by_found : (found : Option Note) → note_on notes condition ≡ found → IfSome (relayed_on monitor all_kinds block condition found) P
    by_found None is = by_test (hands_on monitor all_kinds block condition) refl
    by_found (Some note) is = of_note note is

pub on_theirs : (monitor : MonitorParts) (all_kinds : List CondKind) (block : ℕ) (notes : List Note) → AreOnTheirs (made_on monitor all_kinds block notes)
on_theirs monitor all_kinds block notes condition =
    by_made (λ (note : Note). note.condition ≡ condition) monitor all_kinds block notes condition
    (λ note is. (on_found (λ (one : Note). Unit {0}) notes condition note is (anything notes)).0) (λ hands. refl)

-- what each note is
pub each_made : (P : Note → Type 0) (monitor : MonitorParts) (all_kinds : List CondKind) (block : ℕ) (notes : List Note)
    → ((condition : ℕ) (note : Note) → 1 ≤ condition → condition ≤ length monitor.conditions → note.condition ≡ condition
    → note_on notes condition ≡ Some note → P (relayed_note monitor note))
    → ((condition : ℕ) → 1 ≤ condition → condition ≤ length monitor.conditions → hands_on monitor all_kinds block condition ≡ true → P (tested_signal condition))
    → All P (relayed_notes monitor all_kinds block notes)
each_made P monitor all_kinds block notes of_note of_none =
    all_made P (made_on monitor all_kinds block notes) 1 (length monitor.conditions) (λ condition low high.
    by_made P monitor all_kinds block notes condition
    (λ note is. of_note condition note low (omega arith) (on_found (λ (one : Note). Unit {0}) notes condition note is (anything notes)).0 is)
    (λ hands. of_none condition low (omega arith) hands))

pub relayed_rise : (monitor : MonitorParts) (all_kinds : List CondKind) (block : ℕ) (notes : List Note)
    → RiseTo (length monitor.conditions) (relayed_notes monitor all_kinds block notes)
relayed_rise monitor all_kinds block notes = made_rise (made_on monitor all_kinds block notes) (on_theirs monitor all_kinds block notes) (length monitor.conditions)

-- ---- the parts of a relayed plan

pub relayed_at : (monitor : MonitorParts) (plan : Plan) (block : ℕ) (notes : List Note) → slice_get plan.notes block ≡ Some notes
    → notes_at (relay_of monitor plan) block ≡ relayed_notes monitor plan.kinds block notes
relayed_at monitor plan block notes is =
    let same : 0 + block ≡ block = omega arith in
    ap (λ (found : Option (List Note)). unwrap_or found [])
    (numbered_at (λ (one : ℕ × List Note). relayed_notes monitor plan.kinds one.0 one.1) 0 plan.notes block notes is)
    ∙ ap (λ (number : ℕ). relayed_notes monitor plan.kinds number notes) same

-- a fact of the notes of each block, and of none
pub of_each : (P : List Note → Type 0) (monitor : MonitorParts) (plan : Plan) (block : ℕ) → P []
    → ((notes : List Note) → slice_get plan.notes block ≡ Some notes → P (relayed_notes monitor plan.kinds block notes))
    → P (notes_at (relay_of monitor plan) block)
of_each P monitor plan block none some = by_found (slice_get plan.notes block) refl
  where
    by_found : (found : Option (List Note)) → slice_get plan.notes block ≡ found → P (notes_at (relay_of monitor plan) block)
    by_found None is =
        subst P (sym (ap (λ (found : Option (List Note)). unwrap_or found [])
        (none_numbered (λ (one : ℕ × List Note). relayed_notes monitor plan.kinds one.0 one.1) 0 plan.notes block is))) none
    by_found (Some notes) is = subst P (sym (relayed_at monitor plan block notes is)) (some notes is)

-- the kind of a condition, and what it was
pub record WasKind (monitor : MonitorParts) (plan : Plan) (condition : ℕ) (kind : CondKind) : Type 0 where
  pub was : CondKind
  pub there : condition_kind plan condition ≡ Some was
  pub becomes : relayed_kind monitor condition was ≡ kind

kind_at : (monitor : MonitorParts) (plan : Plan) (condition : ℕ) (was : CondKind) → 1 ≤ condition → condition_kind plan condition ≡ Some was
    → condition_kind (relay_of monitor plan) condition ≡ Some (relayed_kind monitor condition was)
kind_at monitor plan condition was first is =
    let same : 1 + (condition - 1) ≡ condition = omega arith in
    numbered_at (λ (one : ℕ × CondKind). relayed_kind monitor one.0 one.1) 1 plan.kinds (condition - 1) was is
    ∙ ap (λ (number : ℕ). Some (relayed_kind monitor number was)) same

kind_was : (monitor : MonitorParts) (plan : Plan) (condition : ℕ) (kind : CondKind) → 1 ≤ condition
    → condition_kind (relay_of monitor plan) condition ≡ Some kind → WasKind monitor plan condition kind
kind_was monitor plan condition kind first is = by_found (condition_kind plan condition) refl
  where
    by_found : (found : Option CondKind) → condition_kind plan condition ≡ found → WasKind monitor plan condition kind
    by_found None none =
        absurd (none-some kind (sym (none_numbered (λ (one : ℕ × CondKind). relayed_kind monitor one.0 one.1) 1 plan.kinds (condition - 1) none) ∙ is))
    by_found (Some was) there = record {
      was = was;
      there = there;
      becomes = same_Some (relayed_kind monitor condition was) kind (sym (kind_at monitor plan condition was first there) ∙ is);
    }

-- ---- which conditions read inputs

described_at : (monitor : MonitorParts) (number : ℕ) (which : Condition) → IsMonitor monitor → IsCondition monitor number which
    → reads_none monitor number ≡ not (reads_inputs which.guard)
described_at monitor number which rule is =
    let described = all_at IsDescribed monitor.conditions (number - 1) which is.there rule.described in
    ap (λ (found : Option Condition). option_map_or (λ held. not held.reads_inputs) found false) is.there ∙ ap not described.inputs

stays_broadcast : (test : Bool) (was : CondKind) → cond test kinds.Signal was ≡ kinds.Broadcast → (test ≡ false) × (was ≡ kinds.Broadcast)
stays_broadcast true was is = absurd (cc is)
stays_broadcast false was is = (refl, is)

becomes_signal : (test : Bool) → cond test kinds.Signal kinds.Broadcast ≡ kinds.Signal → test ≡ true
becomes_signal true is = refl
becomes_signal false is = absurd (cc is)

-- ---- a note that is left out

left_out : (monitor : MonitorParts) (all_kinds : List CondKind) (block condition : ℕ) (notes : List Note) → 1 ≤ condition → condition ≤ length monitor.conditions
    → has_note (relayed_notes monitor all_kinds block notes) condition ≡ false
    → made_on monitor all_kinds block notes condition ≡ None
left_out monitor all_kinds block condition notes first last none =
    not_made (made_on monitor all_kinds block notes) (on_theirs monitor all_kinds block notes) (length monitor.conditions) condition first last none

no_note : (monitor : MonitorParts) (all_kinds : List CondKind) (block condition : ℕ) (found : Option Note) → relayed_on monitor all_kinds block condition found ≡ None
    → is_some found ≡ false
no_note monitor all_kinds block condition None is = refl
no_note monitor all_kinds block condition (Some note) is = absurd (none-some (relayed_note monitor note) (sym is))

no_duty : (monitor : MonitorParts) (all_kinds : List CondKind) (block condition : ℕ) (found : Option Note) → relayed_on monitor all_kinds block condition found ≡ None
    → hands_on monitor all_kinds block condition ≡ false
no_duty monitor all_kinds block condition (Some note) is = absurd (none-some (relayed_note monitor note) (sym is))
no_duty monitor all_kinds block condition None is = by_test (hands_on monitor all_kinds block condition) is
  where
    by_test : (test : Bool) → cond test (Some (tested_signal condition)) None ≡ None → test ≡ false
    by_test true is = absurd (none-some (tested_signal condition) (sym is))
    by_test false is = refl

was_out : (monitor : MonitorParts) (plan : Plan) (block condition : ℕ) → FitsPlan monitor plan → 1 ≤ condition → condition ≤ length monitor.conditions
    → has_note (notes_at (relay_of monitor plan) block) condition ≡ false → has_note (notes_at plan block) condition ≡ false
was_out monitor plan block condition fits first last = by_found (slice_get plan.notes block) refl
  where
    by_found : (found : Option (List Note)) → slice_get plan.notes block ≡ found
        → has_note (notes_at (relay_of monitor plan) block) condition ≡ false → has_note (notes_at plan block) condition ≡ false
    by_found None is none = ap (λ (found : Option (List Note)). has_note (unwrap_or found []) condition) is
    by_found (Some notes) is none =
        let out = left_out monitor plan.kinds block condition notes first last
        (ap (λ (own : List Note). has_note own condition) (sym (relayed_at monitor plan block notes is)) ∙ none) in
        ap (λ (found : Option (List Note)). has_note (unwrap_or found []) condition) is
        ∙ on_is notes condition ∙ no_note monitor plan.kinds block condition (note_on notes condition) out

-- the condition of a note is one of the monitor
note_within : (monitor : MonitorParts) (notes : List Note) (condition : ℕ) → All (FitsNote monitor) notes → has_note notes condition ≡ true
    → (1 ≤ condition) × (condition ≤ length monitor.conditions)
note_within monitor notes condition all has = by_found (note_on notes condition) refl (sym (on_is notes condition) ∙ has)
  where
    some_within : (found : Option Condition) (Q : Condition → Type 0) (k : ℕ) → slice_get monitor.conditions k ≡ found → IsSomeAnd found Q → k < length monitor.conditions
    some_within None Q k is some = absurd some
    some_within (Some one) Q k is some = slice_get_within monitor.conditions k one is

    by_found : (found : Option Note) → note_on notes condition ≡ found → is_some found ≡ true → (1 ≤ condition) × (condition ≤ length monitor.conditions)
    by_found None is some = absurd (true≢false (sym some))
    by_found (Some note) is some =
        let on = on_found (FitsNote monitor) notes condition note is all in
        let fits = on.1 in
        let first = fits.0 in
        let low = some_within (slice_get monitor.conditions (note.condition - 1)) (λ which. note.tested ≡ true → reads_inputs which.guard ≡ false) (note.condition - 1) refl fits.1 in
        (omega (arith, on.0, first), omega (arith, on.0, first, low))

pub omits_no_more : (monitor : MonitorParts) (plan : Plan) (block condition : ℕ) → FitsPlan monitor plan
    → has_note (notes_at plan block) condition ≡ true → has_note (notes_at (relay_of monitor plan) block) condition ≡ true
omits_no_more monitor plan block condition fits has = elim (cases_Bool (has_note (notes_at (relay_of monitor plan) block) condition)) [
  | inl still ↦ still
  | inr gone ↦
      let within = by_notes (slice_get plan.notes block) refl has in
      absurd (true≢false (sym has ∙ was_out monitor plan block condition fits within.0 within.1 gone))
]
  where
    by_notes : (found : Option (List Note)) → slice_get plan.notes block ≡ found → has_note (unwrap_or found []) condition ≡ true
        → (1 ≤ condition) × (condition ≤ length monitor.conditions)
    by_notes None is has = absurd (true≢false (sym has))
    by_notes (Some notes) is has = note_within monitor notes condition (all_at (FitsNotes monitor) plan.notes block notes is fits.each).each has

-- ---- the plan fits

fits_relayed : (monitor : MonitorParts) (plan : Plan) (block : ℕ) (notes : List Note) → IsMonitor monitor → FitsNotes monitor notes
    → FitsNotes monitor (relayed_notes monitor plan.kinds block notes)
fits_relayed monitor plan block notes rule fits = record {
  rising = (relayed_rise monitor plan.kinds block notes).rising;
  each = each_made (FitsNote monitor) monitor plan.kinds block notes
      (λ condition note first last on is. (on_found (FitsNote monitor) notes condition note is fits.each).1)
      (λ condition first last hands.
      let held = at_index monitor.conditions (condition - 1) (omega arith) in
      let there : IsCondition monitor condition held.0 = record { numbered = first; there = held.1 } in
      let reads = (and_parts (reads_none monitor condition) (is_broadcast (slice_get plan.kinds (condition - 1)) && waits_at monitor condition block) hands).0 in (
        first,
        subst (λ (one : Option Condition). IsSomeAnd one (λ which. true ≡ true → reads_inputs which.guard ≡ false)) (sym held.1)
            (λ tested. not-true (reads_inputs held.0.guard) (sym (described_at monitor condition held.0 rule there) ∙ reads)),
      ));
}

from_numbered : {X Y : Type 0} (P : X → Type 0) (Q : Y → Type 0) (f : ℕ × X → Y) → ((number : ℕ) (x : X) → P x → Q (f (number, x)))
    → (first : ℕ) (xs : List X) → All P xs → All Q (map f (enumerate_from first xs))
from_numbered P Q f each first [] all = All-nil Q
from_numbered P Q f each first (x ∷ xs) all =
    All-cons Q (f (first, x)) (map f (enumerate_from (first + 1) xs)) (each first x (All-head P x xs all))
    (from_numbered P Q f each (first + 1) xs (All-tail P x xs all))

pub relayed_fits : (monitor : MonitorParts) (plan : Plan) → IsMonitor monitor → FitsPlan monitor plan → FitsPlan monitor (relay_of monitor plan)
relayed_fits monitor plan rule fits = record {
  kept = fits.kept;
  kinds = length_numbered (λ (one : ℕ × CondKind). relayed_kind monitor one.0 one.1) 1 plan.kinds ∙ fits.kinds;
  notes = length_numbered (λ (one : ℕ × List Note). relayed_notes monitor plan.kinds one.0 one.1) 0 plan.notes ∙ fits.notes;
  each = from_numbered (FitsNotes monitor) (FitsNotes monitor) (λ (one : ℕ × List Note). relayed_notes monitor plan.kinds one.0 one.1)
      (λ block notes own. fits_relayed monitor plan block notes rule own) 0 plan.notes fits.each;
}

-- ---- the plan is lawful

-- what each note of the plan on a condition is, the relayed one is too
still_each : (P : Note → Type 0) (monitor : MonitorParts) (plan : Plan) (number : ℕ) → 1 ≤ number → reads_none monitor number ≡ false
    → ((note : Note) → note.condition ≡ number → P note → P (relayed_note monitor note))
    → EachNoteOn plan number P → EachNoteOn (relay_of monitor plan) number P
still_each P monitor plan number first reads keeps each block =
    of_each (λ (own : List Note). All (λ note. note.condition ≡ number → P note) own) monitor plan block (All-nil (λ (note : Note). note.condition ≡ number → P note)) (λ notes is.
    let own : All (λ note. note.condition ≡ number → P note) notes =
    subst (λ (own : List Note). All (λ note. note.condition ≡ number → P note) own) (ap (λ (found : Option (List Note)). unwrap_or found []) is) (each block) in
    each_made (λ (note : Note). note.condition ≡ number → P note) monitor plan.kinds block notes
    (λ condition note low high on there here. keeps note here ((on_found (λ (note : Note). note.condition ≡ number → P note) notes condition note there own).1 here))
    (λ condition low high hands here.
    let none = (and_parts (reads_none monitor condition) (is_broadcast (slice_get plan.kinds (condition - 1)) && waits_at monitor condition block) hands).0 in
    absurd (true≢false (sym none ∙ ap (reads_none monitor) here ∙ reads))))

still_all : (monitor : MonitorParts) (number : ℕ) → reads_none monitor number ≡ false → (note : Note) → note.condition ≡ number → note.all ≡ true
    → (note.all && not (reads_none monitor note.condition)) ≡ true
still_all monitor number reads note on all =
    and_from note.all (not (reads_none monitor note.condition)) all (ap (λ (condition : ℕ). not (reads_none monitor condition)) on ∙ ap not reads)

within_some : (conditions : List Condition) (k : ℕ) (Q : Condition → Type 0) → IsSomeAnd (slice_get conditions k) Q → k < length conditions
within_some [] k Q some = absurd some
within_some (condition ∷ conditions) zero Q some = omega arith
within_some (condition ∷ conditions) (suc k) Q some = omega (arith, within_some conditions k Q some)

-- no note is on the condition of number 0, which there is not
none_on_zero : (P : Note → Type 0) (monitor : MonitorParts) (plan : Plan) → EachNoteOn (relay_of monitor plan) 0 P
none_on_zero P monitor plan block =
    of_each (λ (own : List Note). All (λ note. note.condition ≡ 0 → P note) own) monitor plan block (All-nil (λ (note : Note). note.condition ≡ 0 → P note)) (λ notes is.
    each_made (λ (note : Note). note.condition ≡ 0 → P note) monitor plan.kinds block notes
    (λ condition note low high on there here. absurd (omega (arith, low, on, here)))
    (λ condition low high hands here. absurd (omega (arith, low, here))))

broadcasts_stay : (monitor : MonitorParts) (plan : Plan) → IsLawful monitor plan → (condition : ℕ)
    → condition_kind (relay_of monitor plan) condition ≡ Some kinds.Broadcast → EachNoteOn (relay_of monitor plan) condition (λ note. note.all ≡ true)
broadcasts_stay monitor plan lawful zero = λ kind. none_on_zero (λ (note : Note). note.all ≡ true) monitor plan
broadcasts_stay monitor plan lawful (suc before) = λ kind.
    let was = kind_was monitor plan (suc before) kinds.Broadcast (omega arith) kind in
    let stays = stays_broadcast (reads_none monitor (suc before)) was.was was.becomes in
    still_each (λ (note : Note). note.all ≡ true) monitor plan (suc before) (omega arith) stays.0 (still_all monitor (suc before) stays.0)
    (lawful.broadcasts (suc before) (was.there ∙ ap {B = Option CondKind} (λ (one : CondKind). Some one) stays.1))

-- a block of a condition that was of kind broadcast and is of kind signal has a note on it
handed_on : (monitor : MonitorParts) (plan : Plan) (number : ℕ) (block : Block) → FitsPlan monitor plan → slice_get monitor.blocks number ≡ Some block
    → 1 ≤ block.condition → block.condition ≤ length monitor.conditions → condition_kind plan block.condition ≡ Some kinds.Broadcast
    → reads_none monitor block.condition ≡ true → has_note (notes_at (relay_of monitor plan) number) block.condition ≡ true
handed_on monitor plan number block fits there first last kind reads = elim (cases_Bool (has_note (notes_at (relay_of monitor plan) number) block.condition)) [
  | inl has ↦ has
  | inr none ↦
      let low = slice_get_within monitor.blocks number block there in
      let own = at_index plan.notes number (omega (arith, low, fits.notes)) in
      let out = left_out monitor plan.kinds number block.condition own.0 first last
      (ap (λ (all : List Note). has_note all block.condition) (sym (relayed_at monitor plan number own.0 own.1)) ∙ none) in
      let duty = no_duty monitor plan.kinds number block.condition (note_on own.0 block.condition) out in
      let waits : waits_at monitor block.condition number ≡ true =
      ap (λ (found : Option Block). option_map_or (λ held. held.condition == block.condition) found false) there ∙ eq-eqb block.condition block.condition refl in
      absurd (true≢false (sym (and_from (reads_none monitor block.condition) (is_broadcast (slice_get plan.kinds (block.condition - 1)) && waits_at monitor block.condition number) reads
      (and_from (is_broadcast (slice_get plan.kinds (block.condition - 1))) (waits_at monitor block.condition number) (ap is_broadcast kind) waits)) ∙ duty))
]

signals_stay : (monitor : MonitorParts) (plan : Plan) (number : ℕ) (block : Block) → FitsPlan monitor plan → IsLawful monitor plan
    → slice_get monitor.blocks number ≡ Some block → 1 ≤ block.condition → block.condition ≤ length monitor.conditions
    → (was : CondKind) → condition_kind plan block.condition ≡ Some was → relayed_kind monitor block.condition was ≡ kinds.Signal
    → OneEnough monitor plan.kept block.condition number ⊎ (has_note (notes_at (relay_of monitor plan) number) block.condition ≡ true)
signals_stay monitor plan number block fits lawful there first last kinds.Signal was becomes = elim (lawful.signals number block there first was) [
  | inl enough ↦ inl enough
  | inr has ↦ inr (omits_no_more monitor plan number block.condition fits has)
]
signals_stay monitor plan number block fits lawful there first last kinds.Broadcast was becomes =
    inr (handed_on monitor plan number block fits there first last was (becomes_signal (reads_none monitor block.condition) becomes))

pub relayed_lawful : (monitor : MonitorParts) (plan : Plan) → IsMonitor monitor → FitsPlan monitor plan → IsLawful monitor plan → IsLawful monitor (relay_of monitor plan)
relayed_lawful monitor plan rule fits lawful = record {
  inductive = lawful.inductive;
  noted = λ block condition within first last none. lawful.noted block condition within first last (was_out monitor plan block condition fits first last none);
  reading = λ number which is reads.
      let inputs : reads_none monitor number ≡ false = described_at monitor number which rule is ∙ ap not reads in
      let wakes = lawful.reading number which is reads in
      record {
        kind = kind_at monitor plan number kinds.Broadcast is.numbered wakes.kind
            ∙ ap (λ (test : Bool). Some (cond test kinds.Signal kinds.Broadcast)) inputs;
        notes = still_each IsUntestedBroadcast monitor plan number is.numbered inputs
            (λ note on was. record { all = still_all monitor number inputs note on was.all; untested = was.untested }) wakes.notes;
      };
  broadcasts = broadcasts_stay monitor plan lawful;
  signals = λ number block there numbered kind.
      let has = all_at (HasCondition monitor.conditions) monitor.blocks number block there rule.conditions in
      let low = within_some monitor.conditions (block.condition - 1) (λ condition. condition.guard ≡ block.guard) (has numbered) in
      let was = kind_was monitor plan block.condition kinds.Signal numbered kind in
      signals_stay monitor plan number block fits lawful there numbered (omega (arith, low)) was.was was.there was.becomes;
}
