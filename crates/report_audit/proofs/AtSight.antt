-- What is seen of a plan without a proof, and the tests of it.
use Rattle.std.proofs.Common.{◌≡◌, ◌==◌, ◌↔◌, inl, inr, ℕ, zero, suc, ◌+◌, ◌-◌, ◌<◌, ◌≤◌, Bool, true, false, not, ◌&&◌, ◌||◌, IsTrue, List, length, take, get_or, Option, Some, None, refl, sym, ap, ap₂, subst, ◌∙◌, arith}
use Rattle.std.specs.Prelude.{All, IsSomeAnd, slice_get}
use Rattle.std.specs.Option.{option_map_or}
use Rattle.std.proofs.lemmas.Bool.{and_parts, cases_eq, eq-eqb, eqb-true, true≢false}
use Rattle.std.proofs.lemmas.Option.{slice_get-get_or, slice_get_within}
use Rattle.std.proofs.lemmas.List.Elements.{All-nil}
use Rattle.lang_monitor.specs.declared.candidate.Candidate.{Candidate}
use Rattle.lang_monitor.specs.declared.monitor.Condition.{Condition}
use Rattle.lang_monitor.specs.Candidates.{candidate_truth}
use Rattle.lang_monitor.specs.Conditions.{IsDescribed}
use Rattle.lang_monitor.specs.Inputs.{reads_inputs}
use Rattle.lang_monitor.specs.MonitorParts.{MonitorParts, IsMonitor}
use Rattle.lang_monitor.specs.Triples.{HoldAtStart, IsFalseAtStart, IsTrueAtStart}
use Rattle.machine_events.specs.declared.plan.CondKind.{CondKind}
use Rattle.machine_events.specs.declared.plan.CondKind.TheVariants as kinds
use Rattle.machine_events.specs.declared.plan.Note.{Note}
use Rattle.machine_events.specs.declared.plan.Plan.{Plan}
use Rattle.machine_events.specs.Plans.{EachNoteOn, IsCondition, IsUntestedBroadcast, condition_kind}
use Rattle.logic_wp.specs.PlainClaims.{IsConditionNumber}
use Rattle.plan_claims.specs.Backing.{reads_none}
use Rattle.plan_place.specs.Relayed.{is_broadcast}
use Rattle.report_verdict.specs.Reports.{AreNotesOf, IsOnCondition, IsPlanOf}
use Rattle.report_verdict.specs.Verdicts.{IsLawfulAtSight}
use Rattle.report_verdict.proofs.Pairs.{all_at, at_place, from_places, one_more_at}
use Rattle.report_verdict.proofs.Seen.{note_at, of_block}
use Rattle.report_audit.specs.Findings.{IsSuited}
use Rattle.report_audit.specs.inner.Seen.{AreListsSuited, AreNotesSuited, IsFalseAt, IsUnsuitedAt, SuitsAs, is_wide, suits_on}

-- ---- the start

there : (kept : List Candidate) (place : ℕ) (candidate d : Candidate) → place < length kept → candidate ≡ get_or kept place d
    → slice_get kept place ≡ Some candidate
there kept place candidate d low is = slice_get-get_or kept place d low ∙ ap {B = Option Candidate} (λ (one : Candidate). Some one) (sym is)

pub false_here : (monitor : MonitorParts) (kept : List Candidate) (place : ℕ) (candidate d : Candidate) (result : Bool) → place < length kept
    → candidate ≡ get_or kept place d → (result ≡ false → IsFalseAtStart monitor candidate) → result ≡ false
    → HoldAtStart monitor (take place kept) → IsFalseAt monitor kept (Some place)
false_here monitor kept place candidate d result low is told fails before =
    (subst (λ (o : Option Candidate). IsSomeAnd o (IsFalseAtStart monitor)) (sym (there kept place candidate d low is)) (told fails), before)

pub true_more : (monitor : MonitorParts) (kept : List Candidate) (place : ℕ) (candidate d : Candidate) (result : Bool) → place < length kept
    → candidate ≡ get_or kept place d → (IsTrue result ↔ IsTrueAtStart monitor candidate) → result ≡ true
    → HoldAtStart monitor (take place kept) → HoldAtStart monitor (take (place + 1) kept)
true_more monitor kept place candidate d result low is told holds before = λ start admitted.
    one_more_at (λ (one : Candidate). candidate_truth start one ≡ true) kept place candidate (there kept place candidate d low is) (before start admitted) (told.0 holds start admitted)

-- ---- tests of one condition

broadcast_of : (found : Option CondKind) → is_broadcast found ≡ true → found ≡ Some kinds.Broadcast
broadcast_of None is = absurd (true≢false (sym is))
broadcast_of (Some kinds.Signal) is = absurd (true≢false (sym is))
broadcast_of (Some kinds.Broadcast) is = refl

first_true : (one other : Bool) → (one || other) ≡ true → other ≡ false → one ≡ true
first_true true other is none = refl
first_true false other is none = absurd (true≢false (sym is ∙ none))

second_true : (one other : Bool) → (one || other) ≡ true → one ≡ false → other ≡ true
second_true true other is none = absurd (true≢false none)
second_true false other is none = is

untested_of : (tested none : Bool) → (not tested || none) ≡ true → none ≡ false → tested ≡ false
untested_of true none is reads = absurd (true≢false (sym is ∙ reads))
untested_of false none is reads = refl

-- the condition reads no inputs exactly where the test says so
none_is : (monitor : MonitorParts) (number : ℕ) (which : Condition) → IsMonitor monitor → IsCondition monitor number which
    → reads_none monitor number ≡ not (reads_inputs which.guard)
none_is monitor number which rule is =
    let described = all_at IsDescribed monitor.conditions (number - 1) which is.there rule.described in
    ap (λ (found : Option Condition). option_map_or (λ held. not held.reads_inputs) found false) is.there ∙ ap not described.inputs

-- what the tests say of a note on the condition
on_note : (number : ℕ) (none wide : Bool) (note : Note) → suits_on number none wide note ≡ true → note.condition ≡ number
    → ((note.all || not wide) ≡ true) × ((not note.tested || none) ≡ true)
on_note number none wide note suits on =
    and_parts (note.all || not wide) (not note.tested || none)
    (second_true (not (note.condition == number)) ((note.all || not wide) && (not note.tested || none)) suits (ap not (eq-eqb note.condition number on)))

-- what all notes on the condition are, where each passes the test
each_note : (P : Note → Type 0) (plan : Plan) (number : ℕ) (none wide : Bool)
    → ((note : Note) → note.condition ≡ number → suits_on number none wide note ≡ true → P note)
    → AreListsSuited number none wide plan.notes → EachNoteOn plan number P
each_note P plan number none wide each lists block =
    let Q : List Note → Type 0 = λ notes. All (λ note. note.condition ≡ number → P note) notes in
    of_block Q (All-nil (λ (note : Note). note.condition ≡ number → P note)) plan block
    (from_places Q plan.notes (λ k notes is.
    from_places (λ (note : Note). note.condition ≡ number → P note) notes (λ i note here on.
    each note on (all_at (λ (one : Note). suits_on number none wide one ≡ true) notes i note here (all_at (AreNotesSuited number none wide) plan.notes k notes is lists)))))

pub suited : (monitor : MonitorParts) (plan : Plan) (number : ℕ) → IsMonitor monitor → SuitsAs monitor plan number → IsSuited monitor plan number
suited monitor plan number rule suits = record {
  reading = λ condition is reads.
      let none : reads_none monitor number ≡ false = none_is monitor number condition rule is ∙ ap not reads in
      let wide = second_true (reads_none monitor number) (is_wide plan number) suits.0 none in
      record {
        kind = broadcast_of (condition_kind plan number) wide;
        notes = each_note IsUntestedBroadcast plan number (reads_none monitor number) (is_wide plan number) (λ note on passes.
            let both = on_note number (reads_none monitor number) (is_wide plan number) note passes on in
            record {
              all = first_true note.all (not (is_wide plan number)) both.0 (ap not wide);
              untested = untested_of note.tested (reads_none monitor number) both.1 none;
            }) suits.1;
      };
  broadcasts = λ kind. each_note (λ (note : Note). note.all ≡ true) plan number (reads_none monitor number) (is_wide plan number) (λ note on passes.
      let both = on_note number (reads_none monitor number) (is_wide plan number) note passes on in
      first_true note.all (not (is_wide plan number)) both.0 (ap (λ (found : Option CondKind). not (is_broadcast found)) kind)) suits.1;
}

-- ---- and back

held_at : (monitor : MonitorParts) (number : ℕ) → IsConditionNumber monitor number → (which : Condition) × IsCondition monitor number which
held_at monitor number is =
    let found = at_place monitor.conditions (number - 1) (omega (arith, is.0, is.1)) in
    (found.0, record { numbered = is.0; there = found.1 })

either_true : (one other : Bool) → (one ≡ false → other ≡ true) → (one || other) ≡ true
either_true true other so = refl
either_true false other so = so refl

all_so : (all wide : Bool) → (wide ≡ true → all ≡ true) → (all || not wide) ≡ true
all_so true wide so = refl
all_so false true so = absurd (true≢false (sym (so refl)))
all_so false false so = refl

untested_so : (tested none : Bool) → (none ≡ false → tested ≡ false) → (not tested || none) ≡ true
untested_so false none so = refl
untested_so true true so = refl
untested_so true false so = absurd (true≢false (so refl))

reads_so : (monitor : MonitorParts) (number : ℕ) (which : Condition) → IsMonitor monitor → IsCondition monitor number which
    → reads_none monitor number ≡ false → reads_inputs which.guard ≡ true
reads_so monitor number which rule is none = by_reads (reads_inputs which.guard) (sym (none_is monitor number which rule is) ∙ none)
  where
    by_reads : (reads : Bool) → not reads ≡ false → reads ≡ true
    by_reads true same = refl
    by_reads false same = absurd (true≢false same)

both_so : (one other : Bool) → one ≡ true → other ≡ true → (one && other) ≡ true
both_so true other is also = also
both_so false other is also = is

pub suits : (monitor : MonitorParts) (plan : Plan) (number : ℕ) → IsMonitor monitor → IsConditionNumber monitor number
    → IsSuited monitor plan number → SuitsAs monitor plan number
suits monitor plan number rule is own =
    let held = held_at monitor number is in
    let reading = λ (none : reads_none monitor number ≡ false). own.reading held.0 held.1 (reads_so monitor number held.0 rule held.1 none) in (
      either_true (reads_none monitor number) (is_wide plan number) (λ none. ap is_broadcast (reading none).kind),
      from_places (AreNotesSuited number (reads_none monitor number) (is_wide plan number)) plan.notes (λ k notes at.
          from_places (λ (note : Note). suits_on number (reads_none monitor number) (is_wide plan number) note ≡ true) notes (λ i note here.
          by_test note k i notes at here (note.condition == number) refl)),
    )
  where
    by_test : (note : Note) (k i : ℕ) (notes : List Note) → slice_get plan.notes k ≡ Some notes → slice_get notes i ≡ Some note → (test : Bool) → (note.condition == number) ≡ test
        → (not test || ((note.all || not (is_wide plan number)) && (not note.tested || reads_none monitor number))) ≡ true
    by_test note k i notes at here false on = refl
    by_test note k i notes at here true on =
        let same : note.condition ≡ number = eqb-true note.condition number on in
        let held = held_at monitor number is in
        let own_note = λ (P : Note → Type 0) (each : EachNoteOn plan number P).
        note_at P plan k i notes note at here (subst (λ (one : ℕ). EachNoteOn plan one P) (sym same) each) in
        both_so (note.all || not (is_wide plan number)) (not note.tested || reads_none monitor number)
        (all_so note.all (is_wide plan number) (λ wide. own_note (λ (one : Note). one.all ≡ true) (own.broadcasts (broadcast_of (condition_kind plan number) wide))))
        (untested_so note.tested (reads_none monitor number) (λ none.
        (own_note IsUntestedBroadcast (own.reading held.0 held.1 (reads_so monitor number held.0 rule held.1 none)).notes).untested))

-- ---- the tests, joined

pub joined : (monitor : MonitorParts) (plan : Plan) (number : ℕ) (result none wide kind notes : Bool) (all_kinds : List CondKind) (lists : List (List Note))
    → none ≡ reads_none monitor number → wide ≡ is_broadcast (slice_get all_kinds (number - 1)) → all_kinds ≡ plan.kinds → kind ≡ (none || wide)
    → lists ≡ plan.notes → (IsTrue notes ↔ AreListsSuited number none wide lists) → (IsTrue result ↔ (IsTrue kind × IsTrue notes))
    → IsTrue result ↔ SuitsAs monitor plan number
joined monitor plan number result none wide kind notes all_kinds lists none_told wide_told kinds_are kind_told lists_are told both =
    let wide_is : wide ≡ is_wide plan number = wide_told ∙ ap (λ (all : List CondKind). is_broadcast (slice_get all (number - 1))) kinds_are in
    let own : IsTrue notes ↔ AreListsSuited number (reads_none monitor number) (is_wide plan number) plan.notes =
    subst (λ (all : List (List Note)). IsTrue notes ↔ AreListsSuited number (reads_none monitor number) (is_wide plan number) all) lists_are
    (subst (λ (one : Bool). IsTrue notes ↔ AreListsSuited number (reads_none monitor number) one lists) wide_is
    (subst (λ (one : Bool). IsTrue notes ↔ AreListsSuited number one wide lists) none_told told)) in
    let kind_is : kind ≡ (reads_none monitor number || is_wide plan number) = kind_told ∙ ap₂ (λ (one other : Bool). one || other) none_told wide_is in
    (λ held. (sym kind_is ∙ (both.0 held).0, own.0 (both.0 held).1), λ suits. both.1 (kind_is ∙ suits.0, own.1 suits.1))

-- ---- all conditions

pub unsuited_here : (monitor : MonitorParts) (plan : Plan) (index : ℕ) (result : Bool) → IsMonitor monitor → index < length monitor.conditions
    → (IsTrue result ↔ SuitsAs monitor plan (index + 1)) → result ≡ false
    → ((other : ℕ) → 1 ≤ other → other ≤ index → IsSuited monitor plan other) → IsUnsuitedAt monitor plan (Some (index + 1))
unsuited_here monitor plan index result rule low told fails before =
    let is : IsConditionNumber monitor (index + 1) = (omega arith, omega arith) in
    (is, λ own. true≢false (sym (told.1 (suits monitor plan (index + 1) rule is own)) ∙ fails), λ other first last. before other first (omega arith))

pub suited_more : (monitor : MonitorParts) (plan : Plan) (index : ℕ) (result : Bool) → IsMonitor monitor
    → (IsTrue result ↔ SuitsAs monitor plan (index + 1)) → result ≡ true
    → ((other : ℕ) → 1 ≤ other → other ≤ index → IsSuited monitor plan other)
    → (other : ℕ) → 1 ≤ other → other ≤ index + 1 → IsSuited monitor plan other
suited_more monitor plan index result rule told holds before other first last = elim (cases_eq other (index + 1)) [
  | inl same ↦ subst (IsSuited monitor plan) (sym same) (suited monitor plan (index + 1) rule (told.0 holds))
  | inr differs ↦ before other first (omega (arith, last, no_less other index last differs))
]
  where
    no_less : (one bound : ℕ) → one ≤ bound + 1 → (one ≡ bound + 1 → ⊥) → one ≤ bound
    no_less one bound low differs = omega arith

-- nothing is wrong at sight
pub at_sight : (monitor : MonitorParts) (plan : Plan) → IsPlanOf monitor plan → HoldAtStart monitor plan.kept
    → ((number : ℕ) → IsConditionNumber monitor number → IsSuited monitor plan number) → IsLawfulAtSight monitor plan
at_sight monitor plan of starts each = record {
  starts = starts;
  reading = λ number condition is reads.
      let low = slice_get_within monitor.conditions (number - 1) condition is.there in
      (each number (is.numbered, omega (arith, low, is.numbered))).reading condition is reads;
  broadcasts = by_number;
}
  where
    none_on_zero : EachNoteOn plan 0 (λ note. note.all ≡ true)
    none_on_zero block =
        let Q : List Note → Type 0 = λ notes. All (λ note. note.condition ≡ 0 → note.all ≡ true) notes in
        of_block Q (All-nil (λ (note : Note). note.condition ≡ 0 → note.all ≡ true)) plan block
        (from_places Q plan.notes (λ k notes there.
        from_places (λ (note : Note). note.condition ≡ 0 → note.all ≡ true) notes (λ i note here on.
        let own = all_at (IsOnCondition monitor) notes i note here (all_at (AreNotesOf monitor) plan.notes k notes there of.each).each in
        absurd (omega (arith, own.0, on)))))

    by_number : (condition : ℕ) → condition_kind plan condition ≡ Some kinds.Broadcast → EachNoteOn plan condition (λ note. note.all ≡ true)
    by_number zero = λ kind. none_on_zero
    by_number (suc before) = λ kind.
        let low = slice_get_within plan.kinds (suc before - 1) kinds.Broadcast kind in
        (each (suc before) (omega arith, omega (arith, low, of.kinds))).broadcasts kind
