-- The notes of a block, and what a run and a note keep under a lawful plan.
use Rattle.std.proofs.Common.{◌≡◌, ◌==◌, ◌⊎◌, ℕ, zero, suc, ◌-◌, ◌<◌, ◌≤◌, Bool, true, false, cond, not, ◌&&◌, List, [], ◌∷◌, ◌++◌, length, Option, Some, None, refl, sym, ap, subst, ◌∙◌, arith, inl, inr}
use Rattle.std.specs.Prelude.{All}
use Rattle.std.proofs.Math.Dec.{eqb-suc-zero}
use Rattle.std.proofs.lemmas.Option.{same_Some, slice_get_within}
use Rattle.std.proofs.lemmas.List.Elements.{All-head, All-tail}
use Rattle.std.proofs.lemmas.Bool.{true≢false, eqb-true, eq-eqb, and_from, or_cases, or_left, or_right, or_parts, cases_Bool, not-false}
use Rattle.logic_linear.specs.Truth.{truth_of}
use Rattle.lang_base.specs.declared.value.Value.{Value}
use Rattle.lang_monitor.specs.declared.monitor.Block.{Block}
use Rattle.lang_monitor.specs.declared.monitor.Condition.{Condition}
use Rattle.lang_monitor.specs.Inputs.{reads_inputs}
use Rattle.lang_monitor.specs.Bodies.{Inputs, valuation, after}
use Rattle.machine_implicit.specs.declared.commit.Reply.{Reply}
use Rattle.machine_implicit.specs.declared.script.Call.{Call}
use Rattle.machine_implicit.specs.declared.commit.Reply.TheVariants as replies
use Rattle.machine_implicit.specs.Steps.{condition_truth, start_of}
use Rattle.machine_implicit.specs.declared.place.Place.{Place}
use Rattle.machine_implicit.specs.Places.{block_at, inputs_at}
use Rattle.machine_implicit.specs.Runs.{start_at}
use Rattle.machine_events.specs.declared.plan.CondKind.TheVariants as kinds
use Rattle.machine_events.specs.declared.plan.Note.{Note}
use Rattle.machine_events.specs.declared.event.Event.{Event}
use Rattle.machine_events.specs.declared.event.Event.TheVariants as events
use Rattle.lang_monitor.specs.Candidates.{AllHold}
use Rattle.machine_events.specs.Plans.{notes_at, condition_kind, has_note, has_broadcast, IsCondition, IsUntestedBroadcast}
use Rattle.machine_events.specs.Laws.{HasCountingPlan}
use Rattle.machine_events.specs.declared.event.Stage.{Stage}
use Rattle.machine_events.specs.Configurations.{System, Standing, Configuration, StandsAt, put, initial, guard_of, waited_condition, block_condition}
use Rattle.machine_events.specs.declared.event.Stage.TheVariants.{Idle, Entering, Waiting, Woken, Inside, Notifying}
use Rattle.machine_events.specs.Events.{wake_all, fires, own_signal, own_notes, notes_after, NoneWaits, Locks, Waits, StepsInside, Wakes, Notifies, IsEvent}
use Rattle.machine_events.specs.Pending.{holds_lock, IsSuffix, IsSystem, IsSound, HasOneOwner, announces, SomeStands, IsPending, IsCovered}
use Rattle.machine_events.proofs.Standings.{one_stage, stands_within, came, mover_stands, unwoken_stays, none_waits}
use Rattle.machine_events.proofs.Facing.{Faces, faces, guard_is, condition_is, own_condition, has_condition, IsWaiter, waiter_in, waiter_guard}
use Rattle.machine_events.proofs.Sound.{Did, did, target_apart, some_idle}
use Rattle.machine_events.proofs.Applying.{none_needed_applies}
use Rattle.machine_events.proofs.Sound.Did.{ran, overflowed, refused}
use Rattle.machine_events.proofs.Seeing.{one_most}
use Rattle.machine_events.proofs.Covered.{MayStep, kept_next, condition_truth_is, signal_guard, not_both, pending_put, takes_announced, signals_counted, runs_counted, begins_pending, enters_pending, returns_pending, leaves_pending, unlocks_pending, wakes_pending, wakes_all_pending, takes_pending}

-- ---- a note to come that is tested is on a condition that reads no inputs

suffix_all : (P : Note → Type 0) (taken : List Note) (note : Note) (more whole : List Note)
    → taken ++ (note ∷ more) ≡ whole → All P whole → P note
suffix_all P [] note more whole is all = All-head P note more (subst (All P) (sym is) all)
suffix_all P (first ∷ taken) note more whole is all = suffix_all P taken note more (taken ++ (note ∷ more)) refl (All-tail P first (taken ++ (note ∷ more)) (subst (All P) (sym is) all))

suffix_one : (taken : List Note) (note : Note) (more : List Note) (only : Note)
    → taken ++ (note ∷ more) ≡ only ∷ [] → note ≡ only
suffix_one [] note more only is = cc
suffix_one (first ∷ []) note more only is = absurd (cc is)
suffix_one (first ∷ next ∷ taken) note more only is = absurd (cc is)

suffix_none : {P : Type 0} (taken : List Note) (note : Note) (more : List Note)
    → taken ++ (note ∷ more) ≡ [] → P
suffix_none [] note more is = absurd (cc is)
suffix_none (first ∷ taken) note more is = absurd (cc is)

-- after an overflow
suffix_own : (none : Bool) (taken : List Note) (note : Note) (more : List Note) (only : Note)
    → taken ++ (note ∷ more) ≡ cond none [] (only ∷ []) → note ≡ only
suffix_own true taken note more only is = suffix_none taken note more is
suffix_own false taken note more only is = suffix_one taken note more only is

-- which notes are to come: one of a block's, or the signal after an overflow
note_after : (system : System) (block : ℕ) (reply : Reply) (note : Note) (more : List Note)
    → IsSuffix (note ∷ more) (notes_after system block reply)
    → (P : Note → Type 0) → All P (notes_at system.plan block) → P note ⊎ (note.tested ≡ false)
note_after system block replies.Unit note more suffix P all = inl (suffix_all P suffix.0 note more (notes_at system.plan block) suffix.1 all)
note_after system block (replies.Int number) note more suffix P all = inl (suffix_all P suffix.0 note more (notes_at system.plan block) suffix.1 all)
note_after system block (replies.Bool truth) note more suffix P all = inl (suffix_all P suffix.0 note more (notes_at system.plan block) suffix.1 all)
note_after system block replies.Overflow note more suffix P all = inr (ap (λ (one : Note). one.tested) (suffix_own (block_condition system.monitor block == 0) suffix.0 note more (own_signal system block) suffix.1))
note_after system block replies.Refused note more suffix P all = suffix_none suffix.0 note more suffix.1

-- a note that does not fire is tested, and its condition's guard is false
idle_note : (system : System) (state : List Value) (note : Note) → fires system state note ≡ false
    → (note.tested ≡ true) × (condition_truth system.monitor state note.condition ≡ false)
idle_note system state note still =
    let both = or_parts (not note.tested) (condition_truth system.monitor state note.condition) still in
    (not-false note.tested both.0, both.1)

-- where it does not fire, no client waits on its condition with a true guard
nobody_true : (system : System) → HasCountingPlan system → (c : Configuration) → IsSound system c
    → (client : ℕ) (place : Place) (note : Note) (more : List Note)
    → StandsAt c.standings client place (Notifying (note ∷ more))
    → fires system c.state note ≡ false → (who : ℕ) (others_place : Place)
    → StandsAt c.standings who others_place (Waiting note.condition)
    → guard_of system c.state who others_place ≡ true → ⊥
nobody_true system set c sound client place note more at still who others_place waits holds =
    let tested = idle_note system c.state note still in
    let theirs = waiter_in system set.is c sound who others_place note.condition waits in
    let which = theirs.2 in
    let which_is : IsCondition system.monitor note.condition which = theirs.3.which_is in
    elim (cases_Bool (reads_inputs which.guard)) [
      | inl reads ↦
          let come = sound.notes client place (note ∷ more) at in
          let all = (set.lawful.reading note.condition which which_is reads).notes come.block in
          elim (note_after system come.block come.commit.reply note more come.rest (λ (one : Note). one.condition ≡ note.condition → IsUntestedBroadcast one) all) [
            | inl own ↦ not_both note.tested tested.0 (own refl).untested
            | inr signal ↦ not_both note.tested tested.0 signal
          ]
      | inr plain ↦
          not_both (guard_of system c.state who others_place) holds
          (waiter_guard system c.state who others_place note.condition theirs.0 theirs.1 which theirs.3
          ∙ sym (condition_truth_is system c.state (inputs_at theirs.0 others_place) note.condition which which_is plain) ∙ tested.1)
    ]

-- ---- the three rules of a note

passes_pending : (system : System) → HasCountingPlan system → (c : Configuration) → IsSound system c
    → (client : ℕ) (place : Place) (note : Note) (more : List Note)
    → StandsAt c.standings client place (Notifying (note ∷ more))
    → (fires system c.state note ≡ false)
    ⊎ ((note.all ≡ false) × NoneWaits c.standings note.condition)
    → IsPending system c.state c.standings
    → IsPending system c.state (put c.standings client place (Notifying more))
passes_pending system set c sound client place note more at (inl still) pending =
    takes_pending system c.state c.standings client place note more at pending
    (λ who others_place waits kind holds all. nobody_true system set c sound client place note more at still who others_place waits holds)
    (λ who others_place waits kind holds. absurd (not_both (condition_truth system.monitor c.state note.condition) holds (idle_note system c.state note still).1))
passes_pending system set c sound client place note more at (inr nobody) pending =
    takes_pending system c.state c.standings client place note more at pending
    (λ who others_place waits kind holds all. nobody.1 who others_place waits)
    (λ who others_place waits kind holds. absurd (nobody.1 who others_place waits))

broadcasts_pending : (system : System) (c : Configuration) (client : ℕ) (place : Place)
    (note : Note) (more : List Note) → StandsAt c.standings client place (Notifying (note ∷ more))
    → IsPending system c.state c.standings
    → IsPending system c.state (put (wake_all note.condition c.standings) client place
    (Notifying more))
broadcasts_pending system c client place note more at pending =
    let woken = wake_all note.condition c.standings in
    takes_pending system c.state woken client place note more (unwoken_stays c.standings note.condition client place (Notifying (note ∷ more)) at refl)
    (wakes_all_pending system c.state c.standings note.condition pending)
    (λ who others_place waits kind holds all. none_waits c.standings note.condition who others_place waits)
    (λ who others_place waits kind holds. absurd (none_waits c.standings note.condition who others_place waits))

signals_pending : (system : System) (c : Configuration) (client : ℕ) (place : Place) (note : Note)
    (more : List Note) (target : ℕ) (target_place : Place)
    → StandsAt c.standings client place (Notifying (note ∷ more))
    → note.all ≡ false → StandsAt c.standings target target_place (Waiting note.condition)
    → IsPending system c.state c.standings
    → IsPending system c.state (put (put c.standings target target_place (Woken note.condition))
    client place (Notifying more))
signals_pending system c client place note more target target_place at one waits pending =
    let woken = put c.standings target target_place (Woken note.condition) in
    let still = target_apart c.standings client place target target_place note.condition (note ∷ more) at waits in
    record {
      broadcasts = takes_announced system c.state woken client place note more still
          (wakes_pending system c.state c.standings target target_place note.condition waits pending).broadcasts
          (λ who others_place also kind holds all. not_both note.all all one);
      signals = signals_counted system c.state c.standings client place note more target target_place still one waits pending.signals;
    }

-- ---- a run

-- notes on a condition of kind broadcast are broadcasts
all_broadcasts : (condition : ℕ) (notes : List Note)
    → All (λ note. note.condition ≡ condition → note.all ≡ true) notes
    → has_note notes condition ≡ true → has_broadcast notes condition ≡ true
all_broadcasts condition [] all has = has
all_broadcasts condition (note ∷ notes) all has = elim (or_cases (note.condition == condition) (has_note notes condition) has) [
  | inl here ↦
      or_left (note.condition == condition && note.all) (has_broadcast notes condition)
      (and_from (note.condition == condition) note.all here (All-head (λ (one : Note). one.condition ≡ condition → one.all ≡ true) note notes all (eqb-true note.condition condition here)))
  | inr later ↦
      or_right (note.condition == condition && note.all) (has_broadcast notes condition)
      (all_broadcasts condition notes (All-tail (λ (one : Note). one.condition ≡ condition → one.all ≡ true) note notes all) later)
]

-- no other client has the lock where one is inside
alone_inside : (c : Configuration) (client : ℕ) (place : Place) (other : ℕ) (others_place : Place)
    (stage : Stage (List Note)) → HasOneOwner c.standings c.owner → StandsAt c.standings client place Inside
    → StandsAt c.standings other others_place stage
    → holds_lock stage ≡ true → (other ≡ client) × (stage ≡ Inside)
alone_inside c client place other others_place stage lock at others_at holds =
    let same : other ≡ client = same_Some other client (sym (lock.only other others_place stage others_at holds) ∙ lock.only client place Inside at refl) in
    (same, one_stage c.standings client others_place place stage Inside (subst (λ (who : ℕ). StandsAt c.standings who others_place stage) same others_at) at)

-- who announces a condition while one is inside
nobody_announces : (system : System) (c : Configuration) (client : ℕ) (place : Place)
    (condition : ℕ) → HasOneOwner c.standings c.owner → StandsAt c.standings client place Inside
    → SomeStands c.standings (λ other others_place stage. announces stage condition) → ⊥
nobody_announces system c client place condition lock at (other, others_place, Notifying notes, others_at, is) = absurd (cc (alone_inside c client place other others_place (Notifying notes) lock at others_at refl).1)
nobody_announces system c client place condition lock at (other, others_place, Idle, others_at, is) = true≢false (sym is)
nobody_announces system c client place condition lock at (other, others_place, Entering, others_at, is) = true≢false (sym is)
nobody_announces system c client place condition lock at (other, others_place, Waiting on, others_at, is) = true≢false (sym is)
nobody_announces system c client place condition lock at (other, others_place, Woken on, others_at, is) = true≢false (sym is)
nobody_announces system c client place condition lock at (other, others_place, Inside, others_at, is) = true≢false (sym is)

-- ---- a step

-- what is to come after an overflow or a refusal, where the state stays: a note on the client's own
-- condition, where its guard is true
stays_pending : (system : System) → IsSystem system → (c : Configuration) → IsSound system c
    → IsCovered system c → (client : ℕ) (place goes : Place) (notes : List Note) (next : List Value)
    → StandsAt c.standings client place Inside
    → next ≡ c.state
    → ((condition : ℕ) → 1 ≤ condition → waited_condition system client place ≡ condition
    → condition_kind system.plan condition ≡ Some kinds.Signal
    → condition_truth system.monitor c.state condition ≡ true → has_note notes condition ≡ true)
    → IsPending system next (put c.standings client goes (Notifying notes))
stays_pending system is_system c sound covered client place goes notes next at is seen =
    subst (λ (state : List Value). IsPending system state (put c.standings client goes (Notifying notes))) (sym is)
    (pending_put system c.state c.standings client place goes Inside (Notifying notes) at covered.pending
    (λ condition same. absurd (cc same)) (λ condition same. absurd (cc same))
    (λ who others_place condition waits kind holds same. absurd (true≢false (sym same)))
    (λ who others_place condition waits kind holds. record {
      told = λ same. absurd (true≢false (sym same));
      many = one_most (waited_condition system client place == condition) (has_note notes condition)
          (λ own. seen condition (waiter_in system is_system c sound who others_place condition waits).3.which_is.numbered (eqb-true (waited_condition system client place) condition own) kind holds);
    }))

ran_pending : (system : System) → HasCountingPlan system → (c : Configuration) → IsSound system c
    → IsCovered system c → (client : ℕ) (place goes : Place) (call : Call) (block : Block)
    → MayStep system client place call block c.state → (reply : Reply) (next : List Value)
    → StandsAt c.standings client place Inside
    → next ≡ (after (inputs_at call place) block.body c.state).state
    → notes_after system (block_at system.monitor call place) reply
    ≡ notes_at system.plan (block_at system.monitor call place)
    → IsPending system next (put c.standings client goes
    (Notifying (notes_after system (block_at system.monitor call place) reply)))
ran_pending system set c sound covered client place goes call block steps reply next at is notes = record {
  broadcasts = λ who others_place condition stands kind holds. elim (came c.standings client goes (Notifying (notes_after system (block_at system.monitor call place) reply)) who others_place (Waiting condition) within stands) [
    | inl mover ↦ absurd (cc mover.where_stage)
    | inr other ↦
        let theirs = waiter_in system set.is c sound who others_place condition other.stood in
        let noted = makes_true condition theirs.2 (inputs_at theirs.0 others_place) theirs.3.which_is
        (was_false who others_place condition theirs.0 theirs.1 theirs.2 theirs.3 other.stood kind)
        (sym (waiter_guard system next who others_place condition theirs.0 theirs.1 theirs.2 theirs.3) ∙ holds) in
        mover_stands c.standings client place goes Inside (Notifying (notes_after system (block_at system.monitor call place) reply)) (λ one ones_place stage. announces stage condition) at
        (ap (λ (some : List Note). has_broadcast some condition) notes
        ∙ all_broadcasts condition (notes_at system.plan (block_at system.monitor call place)) (set.lawful.broadcasts condition kind (block_at system.monitor call place)) noted)
  ];
  signals = runs_counted system c.state next c.standings client place goes call block (notes_after system (block_at system.monitor call place) reply) steps at
      (λ condition noted. ap (λ (some : List Note). has_note some condition) notes ∙ noted)
      (λ condition cast. ap (λ (some : List Note). has_broadcast some condition) notes ∙ cast) is covered.pending.signals;
}
  where
    within : client < length c.standings
    within = stands_within c.standings client place Inside at

    -- while one is inside, no guard is true of those that wait on a condition of kind broadcast
    was_false : (who : ℕ) (others_place : Place) (condition : ℕ) (one : Call) (their_block : Block)
        (their_which : Condition)
        → IsWaiter system who others_place condition one their_block their_which
        → StandsAt c.standings who others_place (Waiting condition)
        → condition_kind system.plan condition ≡ Some kinds.Broadcast
        → truth_of (valuation c.state (inputs_at one others_place)) their_which.guard ≡ false
    was_false who others_place condition one their_block their_which waits stood kind = elim (cases_Bool (truth_of (valuation c.state (inputs_at one others_place)) their_which.guard)) [
      | inl was ↦
          absurd (nobody_announces system c client place condition sound.lock at
          (covered.pending.broadcasts who others_place condition stood kind (waiter_guard system c.state who others_place condition one their_block their_which waits ∙ was)))
      | inr was ↦ was
    ]

    last_condition : (condition : ℕ) (theirs : Condition)
        → IsCondition system.monitor condition theirs → condition ≤ length system.monitor.conditions
    last_condition condition theirs theirs_is = omega (arith, theirs_is.numbered, slice_get_within system.monitor.conditions (condition - 1) theirs theirs_is.there)

    -- a guard that the body makes true has a note
    makes_true : (condition : ℕ) (theirs : Condition) (others : Inputs)
        → IsCondition system.monitor condition theirs
        → truth_of (valuation c.state others) theirs.guard ≡ false
        → truth_of (valuation next others) theirs.guard ≡ true
        → has_note (notes_at system.plan (block_at system.monitor call place)) condition ≡ true
    makes_true condition theirs others theirs_is was holds = elim (cases_Bool (has_note (notes_at system.plan (block_at system.monitor call place)) condition)) [
      | inl noted ↦ noted
      | inr missing ↦
          absurd (not_both (truth_of (valuation next others) theirs.guard) holds
          (ap (λ (state : List Value). truth_of (valuation state others) theirs.guard) is
          ∙ none_needed_applies system.monitor system.plan.kept (block_at system.monitor call place) block (inputs_at call place) c.state others condition theirs steps.run theirs_is
          (set.lawful.noted (block_at system.monitor call place) condition (slice_get_within system.monitor.blocks (block_at system.monitor call place) block steps.run.is) theirs_is.numbered (last_condition condition theirs theirs_is) missing) was))
    ]

-- a client whose guard is true may run its block
may_step_here : (system : System) → HasCountingPlan system → (c : Configuration) → IsSound system c
    → IsCovered system c → (client : ℕ) (place : Place) (call : Call) (block : Block)
    → Faces system client place call block → guard_of system c.state client place ≡ true
    → MayStep system client place call block c.state
may_step_here system set c sound covered client place call block faced guard = record {
  faced = faced;
  run = record {
    rule = set.is.rule;
    candidates = set.is.plan.kept;
    is = faced.block_is;
    fits = sound.fits;
    inputs_fit = faced.fits_inputs;
    guard = sym (guard_is system c.state client place call block faced) ∙ guard;
    kept_hold = covered.invariant;
  };
}

-- after an overflow a block that has a condition has a note on it
own_noted : (system : System) (block condition : ℕ) → 1 ≤ condition
    → block_condition system.monitor block ≡ condition
    → has_note (own_notes system block) condition ≡ true
own_noted system block condition numbered own =
    ap (λ (none : Bool). has_note (cond none [] (own_signal system block ∷ [])) condition) (some (block_condition system.monitor block) (omega (arith, numbered, own)))
    ∙ or_left (block_condition system.monitor block == condition) false (eq-eqb (block_condition system.monitor block) condition own)
  where
    some : (number : ℕ) → 1 ≤ number → (number == 0) ≡ false
    some zero numbered = absurd (omega (arith, numbered))
    some (suc number) numbered = eqb-suc-zero number

steps_pending : (system : System) → HasCountingPlan system → (c : Configuration) → IsSound system c
    → IsCovered system c → (client : ℕ) (place goes : Place) (call : Call) (block : Block)
    → Faces system client place call block → (reply : Reply) (next locals : List Value)
    → StandsAt c.standings client place Inside
    → Did system client place call block c.state reply next locals
    → IsPending system next (put c.standings client goes
    (Notifying (notes_after system (block_at system.monitor call place) reply)))
steps_pending system set c sound covered client place goes call block faced reply next locals at (ran guard is local notes) =
    ran_pending system set c sound covered client place goes call block (may_step_here system set c sound covered client place call block faced guard) reply next at is notes
steps_pending system set c sound covered client place goes call block faced reply next locals at (overflowed guard is local notes) =
    let number = block_at system.monitor call place in
    stays_pending system set.is c sound covered client place goes (notes_after system number reply) next at is
    (λ condition numbered own kind holds.
    ap (λ (some : List Note). has_note some condition) notes
    ∙ own_noted system number condition numbered (own_condition system client place call block faced ∙ sym (condition_is system client place call block faced) ∙ own))
steps_pending system set c sound covered client place goes call block faced reply next locals at (refused guard is local notes) =
    stays_pending system set.is c sound covered client place goes (notes_after system (block_at system.monitor call place) reply) next at is
    (λ condition numbered own kind holds.
    let same : condition ≡ block.condition = sym own ∙ condition_is system client place call block faced in
    let signal = subst (λ (one : ℕ). condition_kind system.plan one ≡ Some kinds.Signal) same kind in
    absurd (not_both (condition_truth system.monitor c.state condition) holds
    (ap (condition_truth system.monitor c.state) same ∙ signal_guard system set c.state client place call block faced (subst (λ (one : ℕ). 1 ≤ one) same numbered) signal ∙ guard)))

-- ---- any event

wakes_then_pending : (system : System) → HasCountingPlan system
    → (client : ℕ) (place : Place) (note : Note) (more : List Note) (target : Option ℕ)
    (c : Configuration) (woken : List Standing) → IsSound system c
    → StandsAt c.standings client place (Notifying (note ∷ more)) → Wakes system c note target woken
    → IsPending system c.state c.standings
    → IsPending system c.state (put woken client place (Notifying more))
wakes_then_pending system set client place note more None c woken sound at (inl each) pending =
    subst (λ (one : List Standing). IsPending system c.state (put one client place (Notifying more))) (sym each.becomes) (broadcasts_pending system c client place note more at pending)
wakes_then_pending system set client place note more None c woken sound at (inr nobody) pending =
    subst (λ (one : List Standing). IsPending system c.state (put one client place (Notifying more))) (sym nobody.becomes) (passes_pending system set c sound client place note more at nobody.nobody pending)
wakes_then_pending system set client place note more (Some target) c woken sound at (target_place, one) pending =
    subst (λ (some : List Standing). IsPending system c.state (put some client place (Notifying more))) (sym one.becomes)
    (signals_pending system c client place note more target target_place at one.one one.waits pending)

notifies_pending : (system : System) → HasCountingPlan system
    → (client : ℕ) (place : Place) (target : Option ℕ) (before next : Configuration)
    → IsSound system before → IsCovered system before
    → Notifies system client place target before next → IsCovered system next
notifies_pending system set client place target before next sound covered event =
    subst (IsCovered system) (sym event.becomes)
    (record { invariant = covered.invariant; pending = wakes_then_pending system set client place event.note event.more target before event.woken sound event.notifying event.wakes covered.pending })

next_invariant : (system : System) → HasCountingPlan system → (c : Configuration) → IsSound system c
    → IsCovered system c → (client : ℕ) (place : Place) (call : Call) (block : Block)
    → Faces system client place call block → (reply : Reply) (next locals : List Value)
    → Did system client place call block c.state reply next locals → AllHold next system.plan.kept
next_invariant system set c sound covered client place call block faced reply next locals (ran guard is local notes) =
    subst (λ (one : List Value). AllHold one system.plan.kept) (sym is)
    (kept_next system set client place call block c.state (may_step_here system set c sound covered client place call block faced guard))
next_invariant system set c sound covered client place call block faced reply next locals (overflowed guard is local notes) = subst (λ (one : List Value). AllHold one system.plan.kept) (sym is) covered.invariant
next_invariant system set c sound covered client place call block faced reply next locals (refused guard is local notes) = subst (λ (one : List Value). AllHold one system.plan.kept) (sym is) covered.invariant

steps_covered : (system : System) → HasCountingPlan system
    → (client : ℕ) (place goes : Place) (reply : Reply) (state : List Value)
    (before next : Configuration) → IsSound system before → IsCovered system before
    → StepsInside system client place goes reply state before next → IsCovered system next
steps_covered system set client place goes reply state before next sound covered event =
    let step = event.step in
    let faced = faces system client place set.is.rule set.is.scripts (sound.places client place Inside event.inside) (sound.begun client place Inside event.inside refl) in
    let same : faced.0 ≡ step.call = same_Some faced.0 step.call (sym faced.2.call_is ∙ step.at) in
    let mine : Faces system client place step.call faced.1 = subst (λ (call : Call). Faces system client place call faced.1) same faced.2 in
    let made = did system client place step.call faced.1 before.state reply step.memory state mine step.step step.state_is in
    subst (IsCovered system) (sym event.becomes) (record {
      invariant = next_invariant system set before sound covered client place step.call faced.1 mine reply state step.memory.locals made;
      pending = steps_pending system set before sound covered client place goes step.call faced.1 mine reply state step.memory.locals event.inside made;
    })

waits_covered : (system : System) → HasCountingPlan system
    → (client : ℕ) (place : Place) (before next : Configuration) → IsSound system before
    → IsCovered system before → Waits system client place before next → IsCovered system next
waits_covered system set client place before next sound covered event =
    let fits = sound.places client place Inside event.inside in
    let faced = faces system client place set.is.rule set.is.scripts fits (sound.begun client place Inside event.inside refl) in
    let numbered = has_condition system client place faced.0 faced.1 set.is.rule set.is.scripts fits faced.2 event.patient in
    subst (IsCovered system) (sym event.becomes)
    (record { invariant = covered.invariant; pending = leaves_pending system set before.state before.standings client place faced.0 faced.1 faced.2 numbered event.inside event.guard covered.pending })

locks_covered : (system : System) (client : ℕ) (place : Place) (before next : Configuration)
    → IsSound system before → IsCovered system before → Locks client place before next
    → IsCovered system next
locks_covered system client place before next sound covered event =
    subst (IsCovered system) (sym event.becomes) (elim event.wants [
      | inl entering ↦ record { invariant = covered.invariant; pending = enters_pending system before.state before.standings client place entering covered.pending }
      | inr woken ↦ record {
        invariant = covered.invariant;
        pending = returns_pending system before.state before.standings client place woken.0 woken.1 (sound.waits client place (Woken woken.0) woken.0 woken.1 refl).0 covered.pending;
      }
    ])

pub event_keeps_covered : (system : System) → HasCountingPlan system
    → (event : Event) (before next : Configuration) → IsSound system before
    → IsCovered system before → IsEvent system event before next → IsCovered system next
event_keeps_covered system set (events.Begin client) before next sound covered happens =
    subst (IsCovered system) (sym happens.1.becomes)
    (record { invariant = covered.invariant; pending = begins_pending system before.state before.standings client happens.0 happens.1.idle covered.pending })
event_keeps_covered system set (events.Lock client) before next sound covered happens = locks_covered system client happens.0 before next sound covered happens.1
event_keeps_covered system set (events.Wait client) before next sound covered happens = elim happens.1 [
  | inl waits ↦ waits_covered system set client happens.0 before next sound covered waits
  | inr refuses ↦ steps_covered system set client happens.0 refuses.0 refuses.1 refuses.2 before next sound covered refuses.3.steps
]
event_keeps_covered system set (events.Run client) before next sound covered happens = steps_covered system set client happens.0 happens.1 happens.2 happens.3 before next sound covered happens.4.steps
event_keeps_covered system set (events.Notify client target) before next sound covered happens = notifies_pending system set client happens.0 target before next sound covered happens.1
event_keeps_covered system set (events.Unlock client) before next sound covered happens =
    subst (IsCovered system) (sym happens.1.becomes)
    (record { invariant = covered.invariant; pending = unlocks_pending system before.state before.standings client happens.0 happens.1.notifying covered.pending })
event_keeps_covered system set (events.Spurious client) before next sound covered happens =
    subst (IsCovered system) (sym happens.2.becomes)
    (record { invariant = covered.invariant; pending = wakes_pending system before.state before.standings client happens.0 happens.1 happens.2.waits covered.pending })

-- ---- the start

pub start_is_covered : (system : System) → HasCountingPlan system → IsCovered system (initial system)
start_is_covered system set = record {
  invariant = set.lawful.inductive.starts (start_of system.monitor) set.is.rule.opens;
  pending = record {
    broadcasts = λ client place condition at kind holds. absurd (cc (some_idle (start_at system.monitor system.clients).places client place (Waiting condition) at).1);
    signals = λ client place condition at kind measure counts. absurd (cc (some_idle (start_at system.monitor system.clients).places client place (Waiting condition) at).1);
  };
}
