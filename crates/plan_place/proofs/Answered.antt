-- A plan that the prover's answers make fits, is lawful and licensed, and exact where it keeps the
-- greatest invariant, under which no query may stay open.
use Rattle.std.proofs.Common.{◌≡◌, ◌==◌, ◌↔◌, inl, ℕ, ◌-◌, ◌<◌, ◌≤◌, Bool, true, false, List, [], ◌∷◌, length, get_or, Option, Some, None, refl, sym, ap, subst, ◌∙◌, arith}
use Rattle.std.specs.Prelude.{All, slice_get, IsSomeAnd, unwrap_or, ◌||◌}
use Rattle.std.proofs.lemmas.Bool.{true≢false, eqb-true}
use Rattle.std.proofs.lemmas.List.Elements.{All-nil, All-head, All-tail, All-weaker}
use Rattle.std.proofs.lemmas.Option.{slice_get_within}
use Rattle.lang_monitor.specs.declared.candidate.Candidate.{Candidate}
use Rattle.lang_monitor.specs.declared.claim.Claim.{Claim}
use Rattle.lang_monitor.specs.declared.claim.Claim.TheVariants as claims
use Rattle.lang_monitor.specs.declared.monitor.Block.{Block}
use Rattle.lang_monitor.specs.declared.monitor.Condition.{Condition}
use Rattle.lang_monitor.specs.MonitorParts.{MonitorParts, IsMonitor}
use Rattle.lang_monitor.specs.Conditions.{IsDescribed}
use Rattle.lang_monitor.specs.Inputs.{reads_inputs}
use Rattle.lang_monitor.specs.Triples.{Holds, NoneNeeded, OneEnough, NoTestNeeded}
use Rattle.machine_events.specs.declared.plan.CondKind.{CondKind}
use Rattle.machine_events.specs.declared.plan.CondKind.TheVariants as kinds
use Rattle.machine_events.specs.declared.plan.Note.{Note}
use Rattle.machine_events.specs.declared.plan.Plan.{Plan}
use Rattle.machine_events.specs.PlanText.{note_kind}
use Rattle.machine_events.specs.Plans.{IsCondition as IsThere, FitsNote, FitsNotes, FitsPlan, IsLawful, IsUntestedBroadcast, condition_kind, has_note, notes_at}
use Rattle.machine_events.proofs.Facing.{at_index, all_at, is_some_and}
use Rattle.logic_wp.specs.PlainClaims.{IsBlockNumber, IsClaimOf, IsConditionNumber, ReadsNone, WaitsAt}
use Rattle.plan_prune.specs.Hardness.{HasNoOpenClaim, MayBeKept}
use Rattle.plan_prune.specs.Invariants.{IsGreatest}
use Rattle.plan_claims.specs.Backing.{HasCertificate}
use Rattle.plan_place.specs.Exact.{HasOpenBlock, HaveTheirKinds, IsExact, IsLicensed, IsOpenUnder, MaySignal, NeedsTest}
use Rattle.plan_place.specs.inner.Answers.{AreNotes, IsAnswered, IsKindOf, IsNote, IsUnproved}
use Rattle.plan_claims.proofs.Lists.{in_numbered, all_numbers}
use Rattle.plan_claims.proofs.Backed.{Laws, held, unnoted_backed, signals_backed, untested_backed}

-- ---- parts of a plan

pub kind_known : (monitor : MonitorParts) (plan : Plan) (condition : ℕ) (kind : CondKind) → IsAnswered monitor plan → 1 ≤ condition
    → condition_kind plan condition ≡ Some kind → IsKindOf monitor plan.kept condition kind
kind_known monitor plan condition kind answered first is =
    in_numbered (λ (one : ℕ × CondKind). IsKindOf monitor plan.kept one.0 one.1) 1 plan.kinds (condition - 1) kind condition is (omega arith) answered.kinds

notes_known : (monitor : MonitorParts) (plan : Plan) (block : ℕ) (notes : List Note) → IsAnswered monitor plan → slice_get plan.notes block ≡ Some notes
    → AreNotes monitor plan.kept plan.kinds block (length monitor.conditions) notes
notes_known monitor plan block notes answered there =
    in_numbered (λ (one : ℕ × List Note). AreNotes monitor plan.kept plan.kinds one.0 (length monitor.conditions) one.1) 0 plan.notes block notes block there (omega arith) answered.notes

-- the notes of a block, of which there are none where there is no such block
notes_there : (P : List Note → Type 0) (plan : Plan) (block : ℕ) → P [] → ((notes : List Note) → slice_get plan.notes block ≡ Some notes → P notes) → P (notes_at plan block)
notes_there P plan block none some = by_found (slice_get plan.notes block) refl
  where
    by_found : (found : Option (List Note)) → slice_get plan.notes block ≡ found → P (unwrap_or found [])
    by_found None is = none
    by_found (Some notes) is = some notes is

each_note : (Q : Note → Type 0) (monitor : MonitorParts) (plan : Plan) (block : ℕ) → IsAnswered monitor plan
    → ((note : Note) → IsNote monitor plan.kept plan.kinds block note → Q note) → All Q (notes_at plan block)
each_note Q monitor plan block answered each =
    notes_there (All Q) plan block (All-nil Q)
    (λ notes there. All-weaker (IsNote monitor plan.kept plan.kinds block) Q each notes (notes_known monitor plan block notes answered there).each)

-- a note on the condition
note_on : (Q : Note → Type 0) (notes : List Note) (condition : ℕ) → has_note notes condition ≡ true → All Q notes → (note : Note) × (note.condition ≡ condition) × Q note
note_on Q [] condition has all = absurd (true≢false (sym has))
note_on Q (note ∷ notes) condition has all = by_test (note.condition == condition) refl has (λ more. note_on Q notes condition more (All-tail Q note notes all))
  where
    by_test : (answer : Bool) → (note.condition == condition) ≡ answer → (answer || has_note notes condition) ≡ true
        → (has_note notes condition ≡ true → (one : Note) × (one.condition ≡ condition) × Q one) → (one : Note) × (one.condition ≡ condition) × Q one
    by_test true is has more = (note, eqb-true note.condition condition is, All-head Q note notes all)
    by_test false is has more = more has

-- ---- what is read

not_read : (monitor : MonitorParts) (number : ℕ) (which : Condition) → IsMonitor monitor → IsThere monitor number which → ReadsNone monitor number → reads_inputs which.guard ≡ false
not_read monitor number which rule is reads =
    let described = all_at IsDescribed monitor.conditions (number - 1) which is.there rule.described in
    let none = subst (λ (one : Option Condition). IsSomeAnd one (λ held. held.reads_inputs ≡ false)) is.there reads.1 in
    sym described.inputs ∙ none

is_condition : (monitor : MonitorParts) (condition : ℕ) → ReadsNone monitor condition → IsConditionNumber monitor condition
is_condition monitor condition reads =
    let found = is_some_and (slice_get monitor.conditions (condition - 1)) (λ (held : Condition). held.reads_inputs ≡ false) reads.1 in
    let first = reads.0 in
    let within = slice_get_within monitor.conditions (condition - 1) found.0 found.1 in
    (reads.0, omega arith)

is_block : (monitor : MonitorParts) (condition block : ℕ) → WaitsAt monitor block condition → block < length monitor.blocks
is_block monitor condition block waits =
    let found = is_some_and (slice_get monitor.blocks block) (λ (held : Block). held.condition ≡ condition) waits in
    slice_get_within monitor.blocks block found.0 found.1

wakes_all : (all : Bool) → note_kind all ≡ kinds.Broadcast → all ≡ true
wakes_all true is = refl
wakes_all false is = cc is

-- ---- the plan fits

fits_note : (monitor : MonitorParts) (kept : List Candidate) (all_kinds : List CondKind) (block : ℕ) (note : Note) → IsMonitor monitor
    → IsNote monitor kept all_kinds block note → FitsNote monitor note
fits_note monitor kept all_kinds block note rule is =
    let first = is.on.0 in
    let last = is.on.1 in
    let which = at_index monitor.conditions (note.condition - 1) (omega arith) in
    let there : IsThere monitor note.condition which.0 = record { numbered = is.on.0; there = which.1 } in (
      is.on.0,
      subst (λ (one : Option Condition). IsSomeAnd one (λ which. note.tested ≡ true → reads_inputs which.guard ≡ false)) (sym which.1)
          (λ tested. not_read monitor note.condition which.0 rule there (is.tests tested).reads_none),
    )

pub plan_fits : (monitor : MonitorParts) (plan : Plan) → IsMonitor monitor → IsAnswered monitor plan → FitsPlan monitor plan
plan_fits monitor plan rule answered = record {
  kept = answered.invariant.candidates;
  kinds = answered.many_kinds;
  notes = answered.many_notes;
  each = all_numbers (λ (one : ℕ × List Note). AreNotes monitor plan.kept plan.kinds one.0 (length monitor.conditions) one.1) (FitsNotes monitor)
      (λ block notes are. record {
        rising = are.rising;
        each = All-weaker (IsNote monitor plan.kept plan.kinds block) (FitsNote monitor) (λ note is. fits_note monitor plan.kept plan.kinds block note rule is) notes are.each;
      }) 0 plan.notes answered.notes;
}

-- ---- the plan is lawful

none_needed : Laws → (monitor : MonitorParts) (plan : Plan) (block condition : ℕ) → IsMonitor monitor → IsAnswered monitor plan → block < length monitor.blocks
    → 1 ≤ condition → condition ≤ length monitor.conditions → has_note (notes_at plan block) condition ≡ false → NoneNeeded monitor plan.kept block condition
none_needed laws monitor plan block condition rule answered within first last none =
    let many = answered.many_notes in
    let there = at_index plan.notes block (omega arith) in
    let are = ap (λ (found : Option (List Note)). has_note (unwrap_or found []) condition) there.1 in
    held laws monitor plan.kept (claims.NoNote block condition) rule within
    (unnoted_backed monitor plan block condition there.0 answered.backed there.1 first last (sym are ∙ none))

one_enough : Laws → (monitor : MonitorParts) (plan : Plan) (block condition : ℕ) → IsMonitor monitor → IsAnswered monitor plan
    → condition_kind plan condition ≡ Some kinds.Signal → 1 ≤ condition → WaitsAt monitor block condition → OneEnough monitor plan.kept condition block
one_enough laws monitor plan block condition rule answered kind first waits =
    let within = is_block monitor condition block waits in
    held laws monitor plan.kept (claims.One condition block) rule within (signals_backed monitor plan block condition answered.backed kind first waits within)

reads_broadcast : (monitor : MonitorParts) (plan : Plan) (number : ℕ) (which : Condition) → IsMonitor monitor → IsAnswered monitor plan → IsThere monitor number which
    → reads_inputs which.guard ≡ true → condition_kind plan number ≡ Some kinds.Broadcast
reads_broadcast monitor plan number which rule answered is reads =
    let many = answered.many_kinds in
    let first = is.numbered in
    let low = slice_get_within monitor.conditions (number - 1) which is.there in
    let found = at_index plan.kinds (number - 1) (omega arith) in
    by_kind found.0 found.1 (kind_known monitor plan number found.0 answered first found.1)
  where
    by_kind : (kind : CondKind) → slice_get plan.kinds (number - 1) ≡ Some kind → IsKindOf monitor plan.kept number kind → slice_get plan.kinds (number - 1) ≡ Some kinds.Broadcast
    by_kind kinds.Signal there known = absurd (true≢false (sym reads ∙ not_read monitor number which rule is known))
    by_kind kinds.Broadcast there known = there

untested_broadcast : (monitor : MonitorParts) (plan : Plan) (block number : ℕ) (which : Condition) (note : Note) → IsMonitor monitor → IsThere monitor number which
    → reads_inputs which.guard ≡ true → condition_kind plan number ≡ Some kinds.Broadcast → IsNote monitor plan.kept plan.kinds block note → note.condition ≡ number
    → IsUntestedBroadcast note
untested_broadcast monitor plan block number which note rule is reads kind known same = record {
  all = wakes_all note.all (same_kind (sym known.kind ∙ ap (condition_kind plan) same ∙ kind));
  untested = by_test note.tested refl;
}
  where
    same_kind : {one other : CondKind} → Some one ≡ Some other → one ≡ other
    same_kind is = cc is

    by_test : (tested : Bool) → note.tested ≡ tested → tested ≡ false
    by_test false told = refl
    by_test true told =
        absurd (true≢false (sym reads ∙ not_read monitor number which rule is (subst (ReadsNone monitor) same (known.tests told).reads_none)))

pub plan_lawful : Laws → (monitor : MonitorParts) (plan : Plan) → IsMonitor monitor → IsAnswered monitor plan → IsLawful monitor plan
plan_lawful laws monitor plan rule answered = record {
  inductive = answered.invariant.inductive;
  noted = λ block condition within first last none. none_needed laws monitor plan block condition rule answered within first last none;
  reading = λ number which is reads.
      let kind = reads_broadcast monitor plan number which rule answered is reads in
      record {
        kind = kind;
        notes = λ block. each_note (λ (note : Note). note.condition ≡ number → IsUntestedBroadcast note) monitor plan block answered
            (λ note known same. untested_broadcast monitor plan block number which note rule is reads kind known same);
      };
  broadcasts = λ condition kind block. each_note (λ (note : Note). note.condition ≡ condition → note.all ≡ true) monitor plan block answered
      (λ note known same. wakes_all note.all (same_kind (sym known.kind ∙ ap (condition_kind plan) same ∙ kind)));
  signals = λ number block there numbered kind.
      let waits : WaitsAt monitor number block.condition = subst (λ (one : Option Block). IsSomeAnd one (λ held. held.condition ≡ block.condition)) (sym there) refl in
      inl (one_enough laws monitor plan number block.condition rule answered kind numbered waits);
}
  where
    same_kind : {one other : CondKind} → Some one ≡ Some other → one ≡ other
    same_kind is = cc is

-- ---- the plan is licensed

unneeded_open : (monitor : MonitorParts) (plan : Plan) (block condition : ℕ) → IsAnswered monitor plan → has_note (notes_at plan block) condition ≡ true
    → NoneNeeded monitor plan.kept block condition → IsOpenUnder monitor plan (claims.NoNote block condition)
unneeded_open monitor plan block condition answered has needless =
    let Q = λ (note : Note). IsUnproved monitor plan.kept (claims.NoNote block note.condition) in
    let found = note_on Q (notes_at plan block) condition has (each_note Q monitor plan block answered (λ note known. known.needed)) in
    subst (λ (one : ℕ). IsUnproved monitor plan.kept (claims.NoNote block one)) found.1 found.2 needless

unsignalled_open : (monitor : MonitorParts) (plan : Plan) (condition : ℕ) → IsAnswered monitor plan → condition_kind plan condition ≡ Some kinds.Broadcast
    → MaySignal monitor plan condition → HasOpenBlock monitor plan condition
unsignalled_open monitor plan condition answered kind may =
    let left = kind_known monitor plan condition kinds.Broadcast answered may.reads_none.0 kind may.reads_none in
    record { block = left.block; waits = left.waits; stays_open = left.unproved (may.enough left.block left.waits) }

their_kinds : (monitor : MonitorParts) (plan : Plan) → IsAnswered monitor plan → HaveTheirKinds plan
their_kinds monitor plan answered = λ block.
    each_note (λ (note : Note). condition_kind plan note.condition ≡ Some (note_kind note.all)) monitor plan block answered (λ note known. known.kind)

pub plan_licensed : (monitor : MonitorParts) (plan : Plan) → IsAnswered monitor plan → IsLicensed monitor plan
plan_licensed monitor plan answered = record {
  easy_kept = answered.easy_kept;
  noted = λ block condition has needless. unneeded_open monitor plan block condition answered has needless;
  broadcasts = λ condition kind may. unsignalled_open monitor plan condition answered kind may;
  kinds = their_kinds monitor plan answered;
  tested = λ block.
      each_note (λ (note : Note). note.tested ≡ true → NoTestNeeded monitor plan.kept block note.condition → IsOpenUnder monitor plan (claims.NoTest block note.condition)) monitor plan block answered
      (λ note known tested needless. (known.tests tested).unproved needless);
}

-- ---- a plan that keeps the greatest invariant, under which no query may stay open, is exact

pub may_be_kept : (monitor : MonitorParts) (plan : Plan) → IsAnswered monitor plan → MayBeKept monitor plan.kept
may_be_kept monitor plan answered = record { candidates = answered.invariant.candidates; starts = answered.invariant.inductive.starts }

-- what isn't proved fails
fails : (monitor : MonitorParts) (plan : Plan) (claim : Claim) → HasNoOpenClaim monitor plan.kept → IsClaimOf monitor claim
    → IsUnproved monitor plan.kept claim → Holds monitor plan.kept claim → ⊥
fails monitor plan claim easy is_claim unproved holds = easy claim is_claim (unproved holds)

exactly_noted : Laws → (monitor : MonitorParts) (plan : Plan) (block condition : ℕ) → IsMonitor monitor → IsAnswered monitor plan → HasNoOpenClaim monitor plan.kept
    → IsBlockNumber monitor block → IsConditionNumber monitor condition → (has_note (notes_at plan block) condition ≡ true) ↔ (NoneNeeded monitor plan.kept block condition → ⊥)
exactly_noted laws monitor plan block condition rule answered easy within is = (
  λ has needless. easy (claims.NoNote block condition) (within, is) (unneeded_open monitor plan block condition answered has needless),
  λ needed. by_test (has_note (notes_at plan block) condition) refl (λ none. needed (none_needed laws monitor plan block condition rule answered within is.0 is.1 none)),
)
  where
    by_test : (has : Bool) → has_note (notes_at plan block) condition ≡ has → (has_note (notes_at plan block) condition ≡ false → ⊥) → has ≡ true
    by_test true told never = refl
    by_test false told never = absurd (never told)

exactly_signals : Laws → (monitor : MonitorParts) (plan : Plan) (condition : ℕ) → IsMonitor monitor → IsAnswered monitor plan → HasNoOpenClaim monitor plan.kept
    → IsConditionNumber monitor condition → (condition_kind plan condition ≡ Some kinds.Signal) ↔ MaySignal monitor plan condition
exactly_signals laws monitor plan condition rule answered easy is =
    let many = answered.many_kinds in
    let first = is.0 in
    let last = is.1 in
    let found = at_index plan.kinds (condition - 1) (omega arith) in (
      λ kind. record {
        reads_none = kind_known monitor plan condition kinds.Signal answered is.0 kind;
        enough = λ block waits. one_enough laws monitor plan block condition rule answered kind is.0 waits;
      },
      λ may. by_kind found.0 found.1 may,
    )
  where
    by_kind : (kind : CondKind) → slice_get plan.kinds (condition - 1) ≡ Some kind → MaySignal monitor plan condition → slice_get plan.kinds (condition - 1) ≡ Some kinds.Signal
    by_kind kinds.Signal there may = there
    by_kind kinds.Broadcast there may =
        let left = unsignalled_open monitor plan condition answered there may in
        absurd (easy (claims.One condition left.block) (may.reads_none, left.waits) left.stays_open)

exactly_tested : Laws → (monitor : MonitorParts) (plan : Plan) (block : ℕ) (notes : List Note) → IsMonitor monitor → IsAnswered monitor plan → HasNoOpenClaim monitor plan.kept
    → slice_get plan.notes block ≡ Some notes → All (λ note. (note.tested ≡ true) ↔ NeedsTest monitor plan block note) notes
exactly_tested laws monitor plan block notes rule answered easy there =
    let known = (notes_known monitor plan block notes answered there).each in
    let proved = untested_backed monitor plan block notes answered.backed there in
    let low = slice_get_within plan.notes block notes there in
    let many = answered.many_notes in
    let within : block < length monitor.blocks = omega arith in
    λ place other placed. one (get_or notes place other) within (known place other placed) (proved place other placed)
  where
    one : (note : Note) → block < length monitor.blocks → IsNote monitor plan.kept plan.kinds block note
        → (note.tested ≡ false → ReadsNone monitor note.condition → HasCertificate monitor plan.kept (claims.NoTest block note.condition))
        → (note.tested ≡ true) ↔ NeedsTest monitor plan block note
    one note within known proved = (
      λ tested.
          let test = known.tests tested in record {
            reads_none = test.reads_none;
            needed = λ needless. fails monitor plan (claims.NoTest block note.condition) easy (within, test.reads_none) test.unproved needless;
          },
      λ needs. by_test note.tested refl
          (λ untested. needs.needed (held laws monitor plan.kept (claims.NoTest block note.condition) rule within (proved untested needs.reads_none))),
    )
      where
        by_test : (tested : Bool) → note.tested ≡ tested → (note.tested ≡ false → ⊥) → tested ≡ true
        by_test true told never = refl
        by_test false told never = absurd (never told)

pub plan_exact : Laws → (monitor : MonitorParts) (plan : Plan) → IsMonitor monitor → IsAnswered monitor plan → HasNoOpenClaim monitor plan.kept → IsGreatest monitor plan.kept → IsExact monitor plan
plan_exact laws monitor plan rule answered easy greatest = record {
  greatest = greatest;
  noted = λ block condition within is. exactly_noted laws monitor plan block condition rule answered easy within is;
  signals = λ condition is. exactly_signals laws monitor plan condition rule answered easy is;
  kinds = their_kinds monitor plan answered;
  tested = λ block.
      notes_there (All (λ (note : Note). (note.tested ≡ true) ↔ NeedsTest monitor plan block note)) plan block
      (All-nil (λ (note : Note). (note.tested ≡ true) ↔ NeedsTest monitor plan block note))
      (λ notes there. exactly_tested laws monitor plan block notes rule answered easy there);
}
