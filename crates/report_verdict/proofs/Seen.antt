-- What is seen of a plan without a proof, and the tests of it.
use Rattle.std.proofs.Common.{◌≡◌, ℕ, ◌+◌, ◌-◌, ◌<◌, Bool, true, false, not, ◌&&◌, ◌||◌, List, [], length, get_or, take, Option, Some, None, refl, sym, ap, subst, ◌∙◌, arith}
use Rattle.std.specs.Prelude.{All, slice_get, unwrap_or}
use Rattle.std.specs.Option.{option_map_or}
use Rattle.std.proofs.lemmas.Slice.Zip.{length-zip}
use Rattle.std.specs.List.{zip}
use Rattle.std.proofs.lemmas.Bool.{and_parts, true≢false}
use Rattle.std.proofs.lemmas.Option.{slice_get_within}
use Rattle.std.proofs.lemmas.List.Elements.{All-nil}
use Rattle.lang_monitor.specs.declared.monitor.Condition.{Condition}
use Rattle.lang_monitor.specs.Conditions.{IsDescribed}
use Rattle.lang_monitor.specs.Inputs.{reads_inputs}
use Rattle.lang_monitor.specs.MonitorParts.{MonitorParts, IsMonitor}
use Rattle.lang_monitor.specs.Triples.{HoldAtStart}
use Rattle.machine_events.specs.declared.plan.CondKind.{CondKind}
use Rattle.machine_events.specs.declared.plan.CondKind.TheVariants as kinds
use Rattle.machine_events.specs.declared.plan.Note.{Note}
use Rattle.machine_events.specs.declared.plan.Plan.{Plan}
use Rattle.machine_events.specs.Plans.{EachNoteOn, IsCondition, IsUntestedBroadcast, condition_kind, notes_at}
use Rattle.report_verdict.specs.Reports.{AreNotesOf, IsOnCondition, IsPlanOf}
use Rattle.report_verdict.specs.Verdicts.{IsLawfulAtSight}
use Rattle.report_verdict.specs.inner.Sight.{AreKindsSuited, AreListsSuited, AreNotesSuited, is_broadcast, is_broadcast_at, is_kind_suited, is_note_suited, is_test_suited, is_way_suited}
use Rattle.report_verdict.proofs.Pairs.{all_at, at_place, from_places}
use Rattle.report_verdict.proofs.Pairs.{one_more_at, pair_there, zip_at}

-- ---- kinds

broadcast_suits : (kind : CondKind) → is_broadcast kind ≡ true → kind ≡ kinds.Broadcast
broadcast_suits kinds.Signal is = absurd (true≢false (sym is))
broadcast_suits kinds.Broadcast is = refl

suits_broadcast : (reads : Bool) (kind : CondKind) → reads ≡ true
    → (not reads || is_broadcast kind) ≡ true → is_broadcast kind ≡ true
suits_broadcast true kind is suits = suits
suits_broadcast false kind is suits = absurd (true≢false (sym is))

made_suited : (reads : Bool) (kind : CondKind) → (reads ≡ true → kind ≡ kinds.Broadcast)
    → (not reads || is_broadcast kind) ≡ true
made_suited true kind so = ap is_broadcast (so refl)
made_suited false kind so = refl

-- ---- notes

suits_all : (all : Bool) (kind : Option CondKind) → kind ≡ Some kinds.Broadcast
    → (all || not (is_broadcast_at kind)) ≡ true → all ≡ true
suits_all true kind is suits = refl
suits_all false kind is suits = absurd (true≢false (sym suits ∙ ap (λ one. not (is_broadcast_at one)) is))

made_all : (all : Bool) (kind : Option CondKind) → (kind ≡ Some kinds.Broadcast → all ≡ true)
    → (all || not (is_broadcast_at kind)) ≡ true
made_all true kind so = refl
made_all false None so = refl
made_all false (Some kinds.Signal) so = refl
made_all false (Some kinds.Broadcast) so = absurd (true≢false (sym (so refl)))

suits_untested : (tested : Bool) (found : Option Condition) (condition : Condition)
    → found ≡ Some condition → condition.reads_inputs ≡ true
    → (not tested || option_map_or (λ held. not held.reads_inputs) found false) ≡ true
    → tested ≡ false
suits_untested false found condition is reads suits = refl
suits_untested true found condition is reads suits =
    absurd (true≢false (sym suits ∙ ap (λ (one : Option Condition). option_map_or (λ held. not held.reads_inputs) one false) is ∙ ap not reads))

made_untested : (tested : Bool) (found : Option Condition) (condition : Condition)
    → found ≡ Some condition → (condition.reads_inputs ≡ true → tested ≡ false)
    → (not tested || option_map_or (λ held. not held.reads_inputs) found false) ≡ true
made_untested false found condition is so = refl
made_untested true found condition is so = ap (λ (one : Option Condition). option_map_or (λ held. not held.reads_inputs) one false) is ∙ by_reads condition.reads_inputs so
  where
    by_reads : (reads : Bool) → (reads ≡ true → true ≡ false) → not reads ≡ true
    by_reads true so = absurd (true≢false (so refl))
    by_reads false so = refl

both_true : (one other : Bool) → one ≡ true → other ≡ true → (one && other) ≡ true
both_true true other is also = also
both_true false other is also = is

-- each note of each block
note_suited : (monitor : MonitorParts) (plan : Plan) → AreListsSuited monitor plan.kinds plan.notes
    → (k i : ℕ) (notes : List Note) (note : Note) → slice_get plan.notes k ≡ Some notes
    → slice_get notes i ≡ Some note
    → (is_way_suited plan.kinds note ≡ true) × (is_test_suited monitor note ≡ true)
note_suited monitor plan suited k i notes note is here =
    and_parts (is_way_suited plan.kinds note) (is_test_suited monitor note)
    (all_at (λ (one : Note). is_note_suited monitor plan.kinds one ≡ true) notes i note here (all_at (AreNotesSuited monitor plan.kinds) plan.notes k notes is suited))

-- the notes of a block that there is, or none
pub of_block : (P : List Note → Type 0) → P [] → (plan : Plan) (block : ℕ) → All P plan.notes
    → P (notes_at plan block)
of_block P none plan block all = by_found (slice_get plan.notes block) refl
  where
    by_found : (found : Option (List Note)) → slice_get plan.notes block ≡ found
        → P (unwrap_or found [])
    by_found None is = none
    by_found (Some notes) is = all_at P plan.notes block notes is all

broadcasts_seen : (monitor : MonitorParts) (plan : Plan)
    → AreListsSuited monitor plan.kinds plan.notes → (condition : ℕ)
    → condition_kind plan condition ≡ Some kinds.Broadcast
    → EachNoteOn plan condition (λ note. note.all ≡ true)
broadcasts_seen monitor plan suited condition kind block =
    let P : List Note → Type 0 = λ notes. All (λ note. note.condition ≡ condition → note.all ≡ true) notes in
    of_block P (All-nil (λ (note : Note). note.condition ≡ condition → note.all ≡ true)) plan block
    (from_places P plan.notes (λ k notes is.
    from_places (λ (note : Note). note.condition ≡ condition → note.all ≡ true) notes (λ i note here on.
    suits_all note.all (slice_get plan.kinds (note.condition - 1)) (ap (λ (number : ℕ). slice_get plan.kinds (number - 1)) on ∙ kind)
    (note_suited monitor plan suited k i notes note is here).0)))

-- a note that is suited and on a condition that reads inputs is untested
suited_untested : (monitor : MonitorParts) (note : Note) (number : ℕ) (condition : Condition)
    → IsMonitor monitor → is_test_suited monitor note ≡ true → IsCondition monitor number condition
    → reads_inputs condition.guard ≡ true → note.condition ≡ number → note.tested ≡ false
suited_untested monitor note number condition rule suits is reads on =
    let described = all_at IsDescribed monitor.conditions (number - 1) condition is.there rule.described in
    suits_untested note.tested (slice_get monitor.conditions (note.condition - 1)) condition (ap (λ (one : ℕ). slice_get monitor.conditions (one - 1)) on ∙ is.there) (described.inputs ∙ reads) suits

kind_at_number : (monitor : MonitorParts) (plan : Plan) (number : ℕ) (condition : Condition)
    → IsMonitor monitor → IsPlanOf monitor plan → AreKindsSuited monitor.conditions plan.kinds
    → IsCondition monitor number condition → reads_inputs condition.guard ≡ true
    → condition_kind plan number ≡ Some kinds.Broadcast
kind_at_number monitor plan number condition rule fits suited is reads =
    let low = slice_get_within monitor.conditions (number - 1) condition is.there in
    let kind = at_place plan.kinds (number - 1) (omega (arith, low, fits.kinds)) in
    let suits = all_at (λ (one : Condition × CondKind). is_kind_suited one.0 one.1 ≡ true) (zip monitor.conditions plan.kinds) (number - 1) (condition, kind.0)
    (zip_at monitor.conditions plan.kinds (number - 1) condition kind.0 is.there kind.1) suited in
    let described = all_at IsDescribed monitor.conditions (number - 1) condition is.there rule.described in
    kind.1 ∙ ap Some (broadcast_suits kind.0 (suits_broadcast condition.reads_inputs kind.0 (described.inputs ∙ reads) suits))

pub seen : (monitor : MonitorParts) (plan : Plan) → IsMonitor monitor → IsPlanOf monitor plan
    → HoldAtStart monitor plan.kept → AreKindsSuited monitor.conditions plan.kinds
    → AreListsSuited monitor plan.kinds plan.notes → IsLawfulAtSight monitor plan
seen monitor plan rule fits starts suited lists = record {
  starts = starts;
  reading = λ number condition is reads.
      let kind = kind_at_number monitor plan number condition rule fits suited is reads in
      let P : List Note → Type 0 = λ notes. All (λ note. note.condition ≡ number → IsUntestedBroadcast note) notes in
      record {
        kind = kind;
        notes = λ block.
            of_block P (All-nil (λ (note : Note). note.condition ≡ number → IsUntestedBroadcast note)) plan block
            (from_places P plan.notes (λ k notes there.
            from_places (λ (note : Note). note.condition ≡ number → IsUntestedBroadcast note) notes (λ i note here on. record {
              all = suits_all note.all (slice_get plan.kinds (note.condition - 1)) (ap (λ (one : ℕ). slice_get plan.kinds (one - 1)) on ∙ kind)
                  (note_suited monitor plan lists k i notes note there here).0;
              untested = suited_untested monitor note number condition rule (note_suited monitor plan lists k i notes note there here).1 is reads on;
            })));
      };
  broadcasts = broadcasts_seen monitor plan lists;
}

-- ---- and back

pub kinds_seen : (monitor : MonitorParts) (plan : Plan) → IsMonitor monitor → IsPlanOf monitor plan
    → IsLawfulAtSight monitor plan → AreKindsSuited monitor.conditions plan.kinds
kinds_seen monitor plan rule fits sight =
    from_places (λ (one : Condition × CondKind). is_kind_suited one.0 one.1 ≡ true) (zip monitor.conditions plan.kinds) by_place
  where
    by_place : (k : ℕ) (one : Condition × CondKind)
        → slice_get (zip monitor.conditions plan.kinds) k ≡ Some one
        → is_kind_suited one.0 one.1 ≡ true
    by_place k one is =
        let low = slice_get_within (zip monitor.conditions plan.kinds) k one is in
        let long = length-zip monitor.conditions plan.kinds in
        let condition = at_place monitor.conditions k (omega (arith, low, long)) in
        let kind = at_place plan.kinds k (omega (arith, low, long)) in
        let described = all_at IsDescribed monitor.conditions k condition.0 condition.1 rule.described in
        let there : IsCondition monitor (k + 1) condition.0 =
        record { numbered = omega arith; there = ap (slice_get monitor.conditions) {x = k + 1 - 1} {y = k} (omega arith) ∙ condition.1 } in
        let whole : Some (condition.0, kind.0) ≡ Some one = sym (zip_at monitor.conditions plan.kinds k condition.0 kind.0 condition.1 kind.1) ∙ is in
        subst (λ (pair : Condition × CondKind). is_kind_suited pair.0 pair.1 ≡ true) (ap (λ (o : Option (Condition × CondKind)). unwrap_or o one) whole)
        (made_suited condition.0.reads_inputs kind.0 (λ reads.
        let wakes = sight.reading (k + 1) condition.0 there (sym described.inputs ∙ reads) in
        ap (λ (o : Option CondKind). unwrap_or o kind.0) (sym kind.1 ∙ ap (slice_get plan.kinds) {x = k} {y = k + 1 - 1} (omega arith) ∙ wakes.kind)))

-- what all notes on a condition are, a note of a block is
pub note_at : (P : Note → Type 0) (plan : Plan) (k i : ℕ) (notes : List Note) (note : Note)
    → slice_get plan.notes k ≡ Some notes → slice_get notes i ≡ Some note
    → EachNoteOn plan note.condition P → P note
note_at P plan k i notes note there here each =
    all_at (λ (one : Note). one.condition ≡ note.condition → P one) notes i note here
    (subst (λ (own : List Note). All (λ one. one.condition ≡ note.condition → P one) own) (ap (λ (o : Option (List Note)). unwrap_or o []) there) (each k)) refl

way_seen : (monitor : MonitorParts) (plan : Plan) → IsLawfulAtSight monitor plan → (k i : ℕ)
    (notes : List Note) (note : Note) → slice_get plan.notes k ≡ Some notes
    → slice_get notes i ≡ Some note → is_way_suited plan.kinds note ≡ true
way_seen monitor plan sight k i notes note there here =
    made_all note.all (slice_get plan.kinds (note.condition - 1)) (λ kind.
    note_at (λ (one : Note). one.all ≡ true) plan k i notes note there here (sight.broadcasts note.condition kind))

test_seen : (monitor : MonitorParts) (plan : Plan) → IsMonitor monitor → IsPlanOf monitor plan
    → IsLawfulAtSight monitor plan → (k i : ℕ) (notes : List Note) (note : Note)
    → slice_get plan.notes k ≡ Some notes → slice_get notes i ≡ Some note
    → is_test_suited monitor note ≡ true
test_seen monitor plan rule of sight k i notes note there here =
    let on = all_at (IsOnCondition monitor) notes i note here (all_at (AreNotesOf monitor) plan.notes k notes there of.each).each in
    let held = at_place monitor.conditions (note.condition - 1) (omega (arith, on.0, on.1)) in
    let described = all_at IsDescribed monitor.conditions (note.condition - 1) held.0 held.1 rule.described in
    made_untested note.tested (slice_get monitor.conditions (note.condition - 1)) held.0 held.1 (λ reads.
    (note_at IsUntestedBroadcast plan k i notes note there here
    (sight.reading note.condition held.0 (record { numbered = on.0; there = held.1 }) (sym described.inputs ∙ reads)).notes).untested)

pub lists_seen : (monitor : MonitorParts) (plan : Plan) → IsMonitor monitor → IsPlanOf monitor plan
    → IsLawfulAtSight monitor plan → AreListsSuited monitor plan.kinds plan.notes
lists_seen monitor plan rule of sight =
    from_places (AreNotesSuited monitor plan.kinds) plan.notes (λ k notes there.
    from_places (λ (note : Note). is_note_suited monitor plan.kinds note ≡ true) notes (λ i note here.
    both_true (is_way_suited plan.kinds note) (is_test_suited monitor note) (way_seen monitor plan sight k i notes note there here)
    (test_seen monitor plan rule of sight k i notes note there here)))

-- ---- the test of the kinds

abbrev Suits : Condition × CondKind → Type 0
Suits one = is_kind_suited one.0 one.1 ≡ true

pub suits_more : (conditions : List Condition) (all_kinds : List CondKind) (index : ℕ)
    (condition d : Condition) (e : CondKind) (result : Bool) → index < length conditions
    → length all_kinds ≡ length conditions → condition ≡ get_or conditions index d
    → result ≡ is_kind_suited condition (get_or all_kinds index e) → result ≡ true
    → All Suits (take index (zip conditions all_kinds))
    → All Suits (take (index + 1) (zip conditions all_kinds))
suits_more conditions all_kinds index condition d e result low same is told passes before =
    one_more_at Suits (zip conditions all_kinds) index (condition, get_or all_kinds index e) (pair_there conditions all_kinds index condition d e low same is) before (sym told ∙ passes)

pub suits_fail : (conditions : List Condition) (all_kinds : List CondKind) (index : ℕ)
    (condition d : Condition) (e : CondKind) (result : Bool) → index < length conditions
    → length all_kinds ≡ length conditions → condition ≡ get_or conditions index d
    → result ≡ is_kind_suited condition (get_or all_kinds index e) → result ≡ false
    → AreKindsSuited conditions all_kinds → ⊥
suits_fail conditions all_kinds index condition d e result low same is told fails all =
    true≢false (sym (all_at Suits (zip conditions all_kinds) index (condition, get_or all_kinds index e) (pair_there conditions all_kinds index condition d e low same is) all) ∙ sym told ∙ fails)
