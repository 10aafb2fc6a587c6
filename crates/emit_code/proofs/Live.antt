-- The plan without the notes that nobody hears fits, and is lawful, where the plan does and is.
use Rattle.std.proofs.Common.{◌≡◌, ◌==◌, ◌⊎◌, ℕ, zero, suc, ◌+◌, ◌-◌, ◌<◌, ◌≤◌, Bool, true, false, cond, not, ◌&&◌, ◌||◌, List, [], ◌∷◌, ◌++◌, map, length, Option, Some, None, IsSomeAnd, refl, sym, ap, subst, ◌∙◌, arith, inl, inr}
use Rattle.std.specs.Prelude.{All, slice_get, option_map, unwrap_or}
use Rattle.std.proofs.Math.Dec.{eqb-suc-zero}
use Rattle.std.specs.List.{list_all}
use Rattle.std.specs.List.Sorted.{IsStrictlyIncreasing}
use native.Mathlib.Numerals.{unary_clauses}
use Rattle.std.specs.Option.{option_map_or}
use Rattle.std.proofs.lemmas.Option.{none-some, same_Some, slice_get-map}
use Rattle.std.proofs.lemmas.List.{length-map}
use Rattle.std.proofs.lemmas.List.Elements.{All-nil, All-cons, All-head, All-tail}
use Rattle.std.proofs.lemmas.Bool.{true≢false, eqb-true, and_parts, cases_Bool}
use Rattle.logic_linear.specs.Truth.{Valuation, truth_of}
use Rattle.logic_linear.specs.Negation.{negation}
use Rattle.logic_linear.specs.declared.formula.Formula.{Formula}
use Rattle.logic_linear.specs.declared.formula.Formula.TheVariants as formulas
use Rattle.logic_linear.proofs.NegationLemmas.{negation_flips}
use Rattle.lang_monitor.specs.declared.monitor.Block.{Block}
use Rattle.lang_monitor.specs.declared.monitor.Condition.{Condition}
use Rattle.lang_monitor.specs.MonitorParts.{MonitorParts}
use Rattle.lang_monitor.specs.Candidates.{candidate_formula}
use Rattle.lang_monitor.specs.declared.candidate.Candidate.{Candidate}
use Rattle.lang_monitor.specs.Queries.{for_waiting, guard_in_condition, block_guard, waiting_guard, hypotheses}
use Rattle.lang_monitor.specs.Bodies.{after, IsValid}
use Rattle.lang_monitor.specs.Triples.{places_of, NoneNeeded, OneEnough}
use Rattle.machine_implicit.proofs.Fitting.{at_index}
use Rattle.machine_events.specs.declared.plan.CondKind.{CondKind}
use Rattle.machine_events.specs.declared.plan.CondKind.TheVariants as kinds
use Rattle.machine_events.specs.declared.plan.Note.{Note}
use Rattle.machine_events.specs.declared.plan.Plan.{Plan}
use Rattle.machine_events.specs.Counts.{Measure, slack, one_if, IsCounted, IsLawfulByCounting}
use Rattle.machine_events.specs.Plans.{notes_at, condition_kind, has_note, has_broadcast, FitsNote, FitsNotes, FitsPlan, EachNoteOn, IsUntestedBroadcast, IsLawful}
use Rattle.machine_events.specs.Rising.{AreRising}
use Rattle.machine_events.proofs.Places.{at_waiting, moves_to_waiting, truth_all}
use Rattle.emit_code.specs.Code.{is_always, is_waited_on}
use Rattle.emit_code.specs.LivePlans.{heard_notes, heard_kinds, live_plan}
use Rattle.emit_code.proofs.Parts.{holds_always, not_false, waited_numbered}

-- ---- notes that are left

abbrev RisesFrom : ℕ → List Note → Type 0
RisesFrom low [] = Unit {0}
RisesFrom low (note ∷ notes) = (low ≤ note.condition) × RisesFrom (note.condition + 1) notes

increasing_tail : (x : ℕ) (xs : List ℕ) → IsStrictlyIncreasing (x ∷ xs) → IsStrictlyIncreasing xs
increasing_tail x xs h k l = let e = h (suc k) (omega arith) in simp unary_clauses (simp unary_clauses at e)

increasing_cons : (x y : ℕ) (xs : List ℕ) → x < y → IsStrictlyIncreasing (y ∷ xs) → IsStrictlyIncreasing (x ∷ y ∷ xs)
increasing_cons x y xs l h zero b = l
increasing_cons x y xs l h (suc k) b = let e = h k (omega arith) in simp unary_clauses (simp unary_clauses at e)

rises_more : (low : ℕ) (note : Note) (notes : List Note) → low ≤ note.condition → AreRising (note ∷ notes) → RisesFrom low (note ∷ notes)
rises_more low note [] least rising = (least, tt)
rises_more low note (next ∷ notes) least rising =
    let below : note.condition < next.condition = rising zero (omega arith) in
    (least, rises_more (note.condition + 1) next notes (omega (arith, below)) (increasing_tail note.condition (map (λ one. one.condition) (next ∷ notes)) rising))

rises : (notes : List Note) → AreRising notes → RisesFrom 0 notes
rises [] rising = tt
rises (note ∷ notes) rising = rises_more 0 note notes (omega arith) rising

rising_again : (low : ℕ) (notes : List Note) → RisesFrom low notes → AreRising notes
rising_again low [] h = λ k l. absurd (omega arith)
rising_again low (note ∷ []) h = λ k l. absurd (omega arith)
rising_again low (note ∷ next ∷ notes) h =
    let below = h.1.0 in
    increasing_cons note.condition next.condition (map (λ one. one.condition) notes) (omega (arith, below)) (rising_again (note.condition + 1) (next ∷ notes) h.1)

lower : (low high : ℕ) (notes : List Note) → low ≤ high → RisesFrom high notes → RisesFrom low notes
lower low high [] less h = tt
lower low high (note ∷ notes) less h = let here = h.0 in (omega (arith, here, less), h.1)

heard_rises : (monitor : MonitorParts) (low : ℕ) (notes : List Note) → RisesFrom low notes → RisesFrom low (heard_notes monitor notes)
heard_rises monitor low [] h = tt
heard_rises monitor low (note ∷ notes) h = by (is_waited_on monitor note.condition) (heard_rises monitor (note.condition + 1) notes h.1)
  where
    by : (test : Bool) → RisesFrom (note.condition + 1) (heard_notes monitor notes) → RisesFrom low (cond test (note ∷ heard_notes monitor notes) (heard_notes monitor notes))
    by true more = (h.0, more)
    by false more = let here = h.0 in lower low (note.condition + 1) (heard_notes monitor notes) (omega (arith, here)) more

all_heard : (monitor : MonitorParts) (P : Note → Type 0) (notes : List Note) → All P notes → All P (heard_notes monitor notes)
all_heard monitor P [] all = All-nil P
all_heard monitor P (note ∷ notes) all = by (is_waited_on monitor note.condition) (all_heard monitor P notes (All-tail P note notes all))
  where
    by : (test : Bool) → All P (heard_notes monitor notes) → All P (cond test (note ∷ heard_notes monitor notes) (heard_notes monitor notes))
    by true more = All-cons P note (heard_notes monitor notes) (All-head P note notes all) more
    by false more = more

fits_heard : (monitor : MonitorParts) (notes : List Note) → FitsNotes monitor notes → FitsNotes monitor (heard_notes monitor notes)
fits_heard monitor notes fits = record {
  rising = rising_again 0 (heard_notes monitor notes) (heard_rises monitor 0 notes (rises notes fits.rising));
  each = all_heard monitor (FitsNote monitor) notes fits.each;
}

fits_each : (monitor : MonitorParts) (all : List (List Note)) → All (FitsNotes monitor) all → All (FitsNotes monitor) (map (heard_notes monitor) all)
fits_each monitor [] fits = All-nil (FitsNotes monitor)
fits_each monitor (notes ∷ all) fits =
    All-cons (FitsNotes monitor) (heard_notes monitor notes) (map (heard_notes monitor) all) (fits_heard monitor notes (All-head (FitsNotes monitor) notes all fits))
    (fits_each monitor all (All-tail (FitsNotes monitor) notes all fits))

-- ---- the notes of a block

pub notes_live : (monitor : MonitorParts) (plan : Plan) (block : ℕ) → notes_at (live_plan monitor plan) block ≡ heard_notes monitor (notes_at plan block)
notes_live monitor plan block = ap (λ (found : Option (List Note)). unwrap_or found []) (slice_get-map (heard_notes monitor) plan.notes block) ∙ by (slice_get plan.notes block)
  where
    by : (found : Option (List Note)) → unwrap_or (option_map (heard_notes monitor) found) [] ≡ heard_notes monitor (unwrap_or found [])
    by None = refl
    by (Some notes) = refl

each_live : (monitor : MonitorParts) (plan : Plan) (condition : ℕ) (P : Note → Type 0) → EachNoteOn plan condition P → EachNoteOn (live_plan monitor plan) condition P
each_live monitor plan condition P each block =
    subst (All (λ note. note.condition ≡ condition → P note)) (sym (notes_live monitor plan block)) (all_heard monitor (λ note. note.condition ≡ condition → P note) (notes_at plan block) (each block))

none_heard : (monitor : MonitorParts) (condition : ℕ) (P : Note → Type 0) (notes : List Note) → is_waited_on monitor condition ≡ false → All (λ note. note.condition ≡ condition → P note) (heard_notes monitor notes)
none_heard monitor condition P [] unwaited = All-nil (λ note. note.condition ≡ condition → P note)
none_heard monitor condition P (note ∷ notes) unwaited = by (is_waited_on monitor note.condition) refl (none_heard monitor condition P notes unwaited)
  where
    by : (test : Bool) → is_waited_on monitor note.condition ≡ test → All (λ note. note.condition ≡ condition → P note) (heard_notes monitor notes)
        → All (λ note. note.condition ≡ condition → P note) (cond test (note ∷ heard_notes monitor notes) (heard_notes monitor notes))
    by true is more =
        All-cons (λ note. note.condition ≡ condition → P note) note (heard_notes monitor notes) (λ same. absurd (true≢false (sym is ∙ ap (is_waited_on monitor) same ∙ unwaited))) more
    by false is more = more

none_live : (monitor : MonitorParts) (plan : Plan) (condition : ℕ) (P : Note → Type 0) → is_waited_on monitor condition ≡ false → EachNoteOn (live_plan monitor plan) condition P
none_live monitor plan condition P unwaited block =
    subst (All (λ note. note.condition ≡ condition → P note)) (sym (notes_live monitor plan block)) (none_heard monitor condition P (notes_at plan block) unwaited)

has_heard : (monitor : MonitorParts) (condition : ℕ) (notes : List Note) → is_waited_on monitor condition ≡ true → has_note (heard_notes monitor notes) condition ≡ has_note notes condition
has_heard monitor condition [] waited = refl
has_heard monitor condition (note ∷ notes) waited = by (is_waited_on monitor note.condition) refl (has_heard monitor condition notes waited)
  where
    other : (test : Bool) → note.condition == condition ≡ test → is_waited_on monitor note.condition ≡ false → test ≡ false
    other true is unheard = absurd (true≢false (sym waited ∙ sym (ap (is_waited_on monitor) (eqb-true note.condition condition is)) ∙ unheard))
    other false is unheard = refl

    by : (test : Bool) → is_waited_on monitor note.condition ≡ test → has_note (heard_notes monitor notes) condition ≡ has_note notes condition
        → has_note (cond test (note ∷ heard_notes monitor notes) (heard_notes monitor notes)) condition ≡ has_note (note ∷ notes) condition
    by true is more = ap (λ (rest : Bool). (note.condition == condition) || rest) more
    by false is more = more ∙ sym (ap (λ (test : Bool). test || has_note notes condition) (other (note.condition == condition) refl is))

has_live : (monitor : MonitorParts) (plan : Plan) (block condition : ℕ) → is_waited_on monitor condition ≡ true → has_note (notes_at (live_plan monitor plan) block) condition ≡ has_note (notes_at plan block) condition
has_live monitor plan block condition waited = ap (λ (notes : List Note). has_note notes condition) (notes_live monitor plan block) ∙ has_heard monitor condition (notes_at plan block) waited

-- ---- the kinds

kinds_length : (monitor : MonitorParts) (number : ℕ) (some : List CondKind) → length (heard_kinds monitor number some) ≡ length some
kinds_length monitor number [] = refl
kinds_length monitor number (kind ∷ some) = omega (arith, kinds_length monitor (suc number) some)

abbrev heard_kind : MonitorParts → ℕ → CondKind → CondKind
heard_kind monitor condition kind = cond (is_waited_on monitor condition) kind kinds.Broadcast

kinds_get : (monitor : MonitorParts) (number : ℕ) (some : List CondKind) (k : ℕ) → slice_get (heard_kinds monitor number some) k ≡ option_map (heard_kind monitor (suc (number + k))) (slice_get some k)
kinds_get monitor number [] k = refl
kinds_get monitor number (kind ∷ some) zero =
    let same : suc number ≡ suc (number + zero) = omega arith in
    ap (λ (one : ℕ). Some (heard_kind monitor one kind)) same
kinds_get monitor number (kind ∷ some) (suc k) =
    let same : suc (suc number + k) ≡ suc (number + suc k) = omega arith in
    kinds_get monitor (suc number) some k ∙ ap (λ (one : ℕ). option_map (heard_kind monitor one) (slice_get some k)) same

kind_live : (monitor : MonitorParts) (plan : Plan) (condition : ℕ) → 1 ≤ condition → condition_kind (live_plan monitor plan) condition ≡ option_map (heard_kind monitor condition) (condition_kind plan condition)
kind_live monitor plan condition numbered =
    let same : suc (0 + (condition - 1)) ≡ condition = omega (arith, numbered) in
    kinds_get monitor 0 plan.kinds (condition - 1) ∙ ap (λ (one : ℕ). option_map (heard_kind monitor one) (condition_kind plan condition)) same

kind_heard : (monitor : MonitorParts) (plan : Plan) (condition : ℕ) → is_waited_on monitor condition ≡ true → condition_kind (live_plan monitor plan) condition ≡ condition_kind plan condition
kind_heard monitor plan condition waited =
    kind_live monitor plan condition (waited_numbered monitor condition waited) ∙ ap (λ (test : Bool). option_map (λ kind. cond test kind kinds.Broadcast) (condition_kind plan condition)) waited ∙ by (condition_kind plan condition)
  where
    by : (found : Option CondKind) → option_map (λ kind. kind) found ≡ found
    by None = refl
    by (Some kind) = refl

kind_unheard : (monitor : MonitorParts) (plan : Plan) (condition : ℕ) → 1 ≤ condition → is_waited_on monitor condition ≡ false → condition_kind (live_plan monitor plan) condition ≡ Some kinds.Signal → ⊥
kind_unheard monitor plan condition numbered unwaited is =
    by (condition_kind plan condition) (sym (kind_live monitor plan condition numbered ∙ ap (λ (test : Bool). option_map (λ kind. cond test kind kinds.Broadcast) (condition_kind plan condition)) unwaited) ∙ is)
  where
    by : (found : Option CondKind) → option_map (λ kind. kinds.Broadcast) found ≡ Some kinds.Signal → ⊥
    by None same = none-some kinds.Signal same
    by (Some kind) same = absurd (cc (same_Some kinds.Broadcast kinds.Signal same))

kind_broadcast : (monitor : MonitorParts) (plan : Plan) (condition : ℕ) → 1 ≤ condition → condition_kind plan condition ≡ Some kinds.Broadcast → condition_kind (live_plan monitor plan) condition ≡ Some kinds.Broadcast
kind_broadcast monitor plan condition numbered is = kind_live monitor plan condition numbered ∙ ap (option_map (heard_kind monitor condition)) is ∙ ap Some (by (is_waited_on monitor condition))
  where
    by : (test : Bool) → cond test kinds.Broadcast kinds.Broadcast ≡ kinds.Broadcast
    by true = refl
    by false = refl

-- ---- a guard that is always true needs no note

last_true : (v : Valuation) (some : List Formula) (one last : Formula) → list_all (λ part. part) (map (truth_of v) (some ++ one ∷ last ∷ [])) ≡ true → truth_of v last ≡ true
last_true v [] one last holds = (and_parts (truth_of v last) true (and_parts (truth_of v one) (truth_of v last && true) holds).1).0
last_true v (first ∷ some) one last holds =
    last_true v some one last (and_parts (truth_of v first) (list_all (λ part. part) (map (truth_of v) (some ++ one ∷ last ∷ []))) holds).1

waited_is : (monitor : MonitorParts) (condition : ℕ) → 1 ≤ condition → is_waited_on monitor condition ≡ option_map_or (λ which. not (is_always which.guard)) (slice_get monitor.conditions (condition - 1)) false
waited_is monitor zero numbered = absurd (omega (arith, numbered))
waited_is monitor (suc condition) numbered =
    ap (λ (none : Bool). not none && option_map_or (λ which. not (is_always which.guard)) (slice_get monitor.conditions (suc condition - 1)) false) (eqb-suc-zero condition)

unwaited_guard : (monitor : MonitorParts) (condition : ℕ) (which : Condition) → 1 ≤ condition → slice_get monitor.conditions (condition - 1) ≡ Some which → is_waited_on monitor condition ≡ false → is_always which.guard ≡ true
unwaited_guard monitor condition which numbered is unwaited =
    not_false (is_always which.guard) (sym (waited_is monitor condition numbered ∙ ap (λ (one : Option Condition). option_map_or (λ which. not (is_always which.guard)) one false) is) ∙ unwaited)

none_needed : (monitor : MonitorParts) (kept : List Candidate) (block condition : ℕ) → block < length monitor.blocks → 1 ≤ condition → condition ≤ length monitor.conditions
    → is_waited_on monitor condition ≡ false → NoneNeeded monitor kept block condition
none_needed monitor kept block condition within least most unwaited =
    let found = at_index monitor.blocks block within in
    let which = at_index monitor.conditions (condition - 1) (omega (arith, least, most)) in
    let always = unwaited_guard monitor condition which.0 least which.1 unwaited in
    subst (λ (one : Option Block). IsSomeAnd one (λ block_here. IsValid (places_of monitor block_here)
    (formulas.All (hypotheses kept (block_guard monitor block ∷ negation (waiting_guard monitor condition) ∷ []))) block_here.body (negation (waiting_guard monitor condition)))) (sym found.1)
    (λ v holds.
    let closed : truth_of v (negation (waiting_guard monitor condition)) ≡ true =
    last_true v (map candidate_formula kept) (block_guard monitor block) (negation (waiting_guard monitor condition))
    (sym (truth_all v (hypotheses kept (block_guard monitor block ∷ negation (waiting_guard monitor condition) ∷ []))) ∙ holds) in
    let open_so : truth_of v (waiting_guard monitor condition) ≡ true =
    ap (λ (one : Option Condition). truth_of v (for_waiting (guard_in_condition one))) which.1 ∙ moves_to_waiting v which.0.guard ∙ holds_always which.0.guard always (at_waiting v) in
    absurd (true≢false (sym closed ∙ negation_flips v (waiting_guard monitor condition) ∙ ap not open_so)))

-- ---- the plan

pub live_fits : (monitor : MonitorParts) (plan : Plan) → FitsPlan monitor plan → FitsPlan monitor (live_plan monitor plan)
live_fits monitor plan fits = record {
  kept = fits.kept;
  kinds = kinds_length monitor 0 plan.kinds ∙ fits.kinds;
  notes = length-map plan.notes (heard_notes monitor) ∙ fits.notes;
  each = fits_each monitor plan.notes fits.each;
}

has_cast_heard : (monitor : MonitorParts) (condition : ℕ) (notes : List Note) → is_waited_on monitor condition ≡ true → has_broadcast (heard_notes monitor notes) condition ≡ has_broadcast notes condition
has_cast_heard monitor condition [] waited = refl
has_cast_heard monitor condition (note ∷ notes) waited = by (is_waited_on monitor note.condition) refl (has_cast_heard monitor condition notes waited)
  where
    other : (test : Bool) → note.condition == condition ≡ test → is_waited_on monitor note.condition ≡ false → test ≡ false
    other true is unheard = absurd (true≢false (sym waited ∙ sym (ap (is_waited_on monitor) (eqb-true note.condition condition is)) ∙ unheard))
    other false is unheard = refl

    by : (test : Bool) → is_waited_on monitor note.condition ≡ test → has_broadcast (heard_notes monitor notes) condition ≡ has_broadcast notes condition
        → has_broadcast (cond test (note ∷ heard_notes monitor notes) (heard_notes monitor notes)) condition ≡ has_broadcast (note ∷ notes) condition
    by true is more = ap (λ (rest : Bool). (note.condition == condition && note.all) || rest) more
    by false is more = more ∙ sym (ap (λ (test : Bool). (test && note.all) || has_broadcast notes condition) (other (note.condition == condition) refl is))

has_cast_live : (monitor : MonitorParts) (plan : Plan) (block condition : ℕ) → is_waited_on monitor condition ≡ true
    → has_broadcast (notes_at (live_plan monitor plan) block) condition ≡ has_broadcast (notes_at plan block) condition
has_cast_live monitor plan block condition waited = ap (λ (notes : List Note). has_broadcast notes condition) (notes_live monitor plan block) ∙ has_cast_heard monitor condition (notes_at plan block) waited

-- a condition that is counted is so without the notes that nobody hears
counted_live : (monitor : MonitorParts) (plan : Plan) (condition : ℕ) (measure : Measure) → is_waited_on monitor condition ≡ true → IsCounted monitor plan condition measure
    → IsCounted monitor (live_plan monitor plan) condition measure
counted_live monitor plan condition measure waited counts number block is = elim (counts number block is) [
  | inl cast ↦ inl (has_cast_live monitor plan number condition waited ∙ cast)
  | inr each ↦
      inr (λ inputs state run free.
      let leaves = each inputs state run free in
      record {
        bounded = leaves.bounded;
        many = subst (λ (test : Bool). slack monitor measure (after inputs block.body state).state condition + one_if (block.condition == condition) ≤ slack monitor measure state condition + one_if test)
            (sym (has_live monitor plan number condition waited)) leaves.many;
      })
]

pub live_is_lawful_by_counting : (monitor : MonitorParts) (plan : Plan) → IsLawfulByCounting monitor plan → IsLawfulByCounting monitor (live_plan monitor plan)
live_is_lawful_by_counting monitor plan lawful = record {
  inductive = lawful.inductive;
  noted = λ block condition within least most missing. elim (cases_Bool (is_waited_on monitor condition)) [
    | inl waited ↦ lawful.noted block condition within least most (sym (has_live monitor plan block condition waited) ∙ missing)
    | inr unwaited ↦ none_needed monitor plan.kept block condition within least most unwaited
  ];
  reading = λ number condition is reads.
      let all = lawful.reading number condition is reads in
      record { kind = kind_broadcast monitor plan number is.numbered all.kind; notes = each_live monitor plan number IsUntestedBroadcast all.notes };
  broadcasts = λ condition kind. elim (cases_Bool (is_waited_on monitor condition)) [
    | inl waited ↦ each_live monitor plan condition (λ note. note.all ≡ true) (lawful.broadcasts condition (sym (kind_heard monitor plan condition waited) ∙ kind))
    | inr unwaited ↦ none_live monitor plan condition (λ note. note.all ≡ true) unwaited
  ];
  signals = λ number condition is kind. elim (cases_Bool (is_waited_on monitor number)) [
    | inl waited ↦ elim (lawful.signals number condition is (sym (kind_heard monitor plan number waited) ∙ kind)) [
      | inl passed ↦ inl (λ block_number block block_is same. by_signal number block_number waited (passed block_number block block_is same))
      | inr counted ↦ inr (counted.0, counted_live monitor plan number counted.0 waited counted.1)
    ]
    | inr unwaited ↦ absurd (kind_unheard monitor plan number is.numbered unwaited kind)
  ];
}
  where
    by_signal : (condition number : ℕ) → is_waited_on monitor condition ≡ true
        → OneEnough monitor plan.kept condition number ⊎ (has_note (notes_at plan number) condition ≡ true)
        → OneEnough monitor plan.kept condition number ⊎ (has_note (notes_at (live_plan monitor plan) number) condition ≡ true)
    by_signal condition number waited (inl enough) = inl enough
    by_signal condition number waited (inr noted) = inr (has_live monitor plan number condition waited ∙ noted)

pub live_is_lawful : (monitor : MonitorParts) (plan : Plan) → IsLawful monitor plan → IsLawful monitor (live_plan monitor plan)
live_is_lawful monitor plan lawful = record {
  inductive = lawful.inductive;
  noted = λ block condition within least most missing. elim (cases_Bool (is_waited_on monitor condition)) [
    | inl waited ↦ lawful.noted block condition within least most (sym (has_live monitor plan block condition waited) ∙ missing)
    | inr unwaited ↦ none_needed monitor plan.kept block condition within least most unwaited
  ];
  reading = λ number condition is reads.
      let all = lawful.reading number condition is reads in
      record { kind = kind_broadcast monitor plan number is.numbered all.kind; notes = each_live monitor plan number IsUntestedBroadcast all.notes };
  broadcasts = λ condition kind. elim (cases_Bool (is_waited_on monitor condition)) [
    | inl waited ↦ each_live monitor plan condition (λ note. note.all ≡ true) (lawful.broadcasts condition (sym (kind_heard monitor plan condition waited) ∙ kind))
    | inr unwaited ↦ none_live monitor plan condition (λ note. note.all ≡ true) unwaited
  ];
  signals = λ number block is numbered kind. elim (cases_Bool (is_waited_on monitor block.condition)) [
    | inl waited ↦ by_signal number block waited (lawful.signals number block is numbered (sym (kind_heard monitor plan block.condition waited) ∙ kind))
    | inr unwaited ↦ absurd (kind_unheard monitor plan block.condition numbered unwaited kind)
  ];
}
  where
    by_signal : (number : ℕ) (block : Block) → is_waited_on monitor block.condition ≡ true
        → OneEnough monitor plan.kept block.condition number ⊎ (has_note (notes_at plan number) block.condition ≡ true)
        → OneEnough monitor plan.kept block.condition number ⊎ (has_note (notes_at (live_plan monitor plan) number) block.condition ≡ true)
    by_signal number block waited (inl enough) = inl enough
    by_signal number block waited (inr noted) = inr (has_live monitor plan number block.condition waited ∙ noted)
