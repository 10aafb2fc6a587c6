-- What is pending after a step or a note, while others that gave the mutex back still have notes to
-- make.
use Rattle.std.proofs.Common.{◌≡◌, ◌==◌, ◌⊎◌, ℕ, ◌-◌, ◌<◌, ◌≤◌, true, false, not, ◌&&◌, List, [], ◌∷◌, length, Some, refl, sym, ap, subst, ◌∙◌, arith, inl, inr}
use Rattle.std.specs.Prelude.{All}
use Rattle.std.proofs.lemmas.Option.{slice_get_within}
use Rattle.std.proofs.lemmas.List.Elements.{All-head, All-tail}
use Rattle.std.proofs.lemmas.Bool.{eqb-true, and_from, or_cases, or_left, or_right, or_parts, not-false, cases_Bool}
use Rattle.logic_linear.specs.Truth.{truth_of}
use Rattle.lang_base.specs.declared.value.Value.{Value}
use Rattle.lang_monitor.specs.declared.monitor.Block.{Block}
use Rattle.lang_monitor.specs.declared.monitor.Condition.{Condition}
use Rattle.lang_monitor.specs.Bodies.{Inputs, valuation, after}
use Rattle.machine_implicit.specs.declared.script.Call.{Call}
use Rattle.machine_implicit.specs.declared.place.Place.{Place}
use Rattle.machine_implicit.specs.Steps.{condition_truth}
use Rattle.machine_implicit.specs.Scripted.{calls_of}
use Rattle.machine_implicit.specs.Places.{block_at, inputs_at, FitsPlace}
use Rattle.machine_events.specs.declared.plan.CondKind.TheVariants as kinds
use Rattle.machine_events.specs.declared.plan.Note.{Note}
use Rattle.machine_events.specs.Plans.{notes_at, condition_kind, has_note}
use Rattle.machine_events.specs.Plans.{has_broadcast, IsCondition}
use Rattle.machine_events.specs.Laws.{HasCountingPlan}
use Rattle.machine_events.specs.Configurations.{System, Standing, StandsAt, put, guard_of, waited_condition}
use Rattle.machine_events.specs.declared.event.Stage.TheVariants.{Waiting, Woken, Inside, Notifying}
use Rattle.machine_events.specs.Events.{NoneWaits, wake_all, fires}
use Rattle.machine_events.specs.Pending.{IsSystem, announces, IsPending}
use Rattle.machine_events.proofs.Facing.{Faces, faces, condition_is, own_guard, IsWaiter, waiter_guard}
use Rattle.machine_events.proofs.Applying.{none_needed_applies}
use Rattle.machine_events.proofs.Standings.{stands_within, came, mover_stands, someone_stays, unwoken_stays, none_waits}
use Rattle.machine_events.proofs.Covered.{MayStep, condition_truth_is, signal_guard, not_both, sees_still, pending_put, wakes_pending, wakes_all_pending, takes_announced, takes_pending, signals_counted, runs_counted}
use Rattle.machine_events.proofs.Seeing.{one_most}
use Rattle.machine_events.proofs.Sound.{target_apart}
use Rattle.emit_code.specs.Orders.{IsTestable, HasAllNotes}
use Rattle.emit_code.proofs.Parts.{never}

-- who waits is at a place that there is, has a call left, and waits on the condition of its block
pub record WaitWell (system : System) (standings : List Standing) : Type 0 where
  pub fits : (client : ℕ) (place : Place) (condition : ℕ) → StandsAt standings client place (Waiting condition) → FitsPlace system.monitor system.clients client place
  pub busy : (client : ℕ) (place : Place) (condition : ℕ) → StandsAt standings client place (Waiting condition) → place.past < length (calls_of system.clients client)
  pub waits : (client : ℕ) (place : Place) (condition : ℕ) → StandsAt standings client place (Waiting condition) → condition ≡ waited_condition system client place
  pub numbered : (client : ℕ) (place : Place) (condition : ℕ) → StandsAt standings client place (Waiting condition) → 1 ≤ condition

-- the block of one that waits
pub record Theirs (system : System) (client : ℕ) (place : Place) (condition : ℕ) : Type 0 where
  pub call : Call
  pub block : Block
  pub which : Condition
  pub waits : IsWaiter system client place condition call block which

theirs_at : (system : System) → IsSystem system → (standings : List Standing) → WaitWell system standings → (client : ℕ) (place : Place) (condition : ℕ) → StandsAt standings client place (Waiting condition)
    → Theirs system client place condition
theirs_at system is standings well client place condition at =
    let found = faces system client place is.rule is.scripts (well.fits client place condition at) (well.busy client place condition at) in
    let same : condition ≡ found.1.condition = well.waits client place condition at ∙ condition_is system client place found.0 found.1 found.2 in
    let own = own_guard system.monitor (block_at system.monitor found.0 place) found.1 is.rule found.2.block_is (subst (λ (one : ℕ). 1 ≤ one) same (well.numbered client place condition at)) in
    record {
      call = found.0;
      block = found.1;
      which = own.0;
      waits = record {
        faced = found.2;
        own = same;
        which_is = subst (λ (one : ℕ). IsCondition system.monitor one own.0) (sym same) own.1.is;
        guard = own.1.guard;
      };
    }

-- ---- one takes the mutex

pub enters_late : (system : System) (state : List Value) (standings : List Standing) (client : ℕ) (place : Place) → StandsAt standings client place (Notifying []) → IsPending system state standings
    → IsPending system state (put standings client place Inside)
enters_late system state standings client place at pending =
    pending_put system state standings client place place (Notifying []) Inside at pending
    (λ condition is. absurd (cc is)) (λ condition is. absurd (cc is))
    (λ who others_place condition waits kind holds is. never is)
    (λ who others_place condition waits kind holds. sees_still system client place place (Notifying []) Inside condition refl (λ is. never is))

-- ---- after an overflow or a refusal, where the state stays

-- who waits on the client's own condition with a true guard has a note on it
pub stays_late : (system : System) (state : List Value) (standings : List Standing) (client : ℕ) (place goes : Place) (notes : List Note) → StandsAt standings client place Inside → IsPending system state standings
    → ((who : ℕ) (others_place : Place) → StandsAt standings who others_place (Waiting (waited_condition system client place))
    → condition_kind system.plan (waited_condition system client place) ≡ Some kinds.Signal → condition_truth system.monitor state (waited_condition system client place) ≡ true
    → has_note notes (waited_condition system client place) ≡ true)
    → IsPending system state (put standings client goes (Notifying notes))
stays_late system state standings client place goes notes at pending own =
    pending_put system state standings client place goes Inside (Notifying notes) at pending
    (λ condition is. absurd (cc is)) (λ condition is. absurd (cc is))
    (λ who others_place condition waits kind holds is. never is)
    (λ who others_place condition waits kind holds.
    sees_still system client place goes Inside (Notifying notes) condition refl
    (λ is.
    let same : waited_condition system client place ≡ condition = eqb-true (waited_condition system client place) condition is in
    subst (λ (one : ℕ). has_note notes one ≡ true) same (own who others_place
    (subst (λ (one : ℕ). StandsAt standings who others_place (Waiting one)) (sym same) waits)
    (subst (λ (one : ℕ). condition_kind system.plan one ≡ Some kinds.Signal) (sym same) kind)
    (subst (λ (one : ℕ). condition_truth system.monitor state one ≡ true) (sym same) holds))))

-- a refusal: the client's own guard is false
pub refused_late : (system : System) → HasCountingPlan system → (state : List Value) (standings : List Standing) (client : ℕ) (place goes : Place) (call : Call) (block : Block)
    → Faces system client place call block → guard_of system state client place ≡ false → StandsAt standings client place Inside → IsPending system state standings → WaitWell system standings
    → IsPending system state (put standings client goes (Notifying []))
refused_late system set state standings client place goes call block faced guard at pending well =
    stays_late system state standings client place goes [] at pending (λ who others_place waits kind holds.
    let same : waited_condition system client place ≡ block.condition = condition_is system client place call block faced in
    let numbered = subst (λ (one : ℕ). 1 ≤ one) same (well.numbered who others_place (waited_condition system client place) waits) in
    let signal = subst (λ (one : ℕ). condition_kind system.plan one ≡ Some kinds.Signal) same kind in
    absurd (not_both (condition_truth system.monitor state (waited_condition system client place)) holds
    (ap (condition_truth system.monitor state) same ∙ signal_guard system set state client place call block faced numbered signal ∙ guard)))

-- ---- after a whole body

-- notes on a condition of kind broadcast are broadcasts
all_broadcasts : (condition : ℕ) (notes : List Note) → All (λ note. note.condition ≡ condition → note.all ≡ true) notes → has_note notes condition ≡ true → has_broadcast notes condition ≡ true
all_broadcasts condition [] all has = has
all_broadcasts condition (note ∷ notes) all has = elim (or_cases (note.condition == condition) (has_note notes condition) has) [
  | inl here ↦
      or_left (note.condition == condition && note.all) (has_broadcast notes condition)
      (and_from (note.condition == condition) note.all here (All-head (λ (one : Note). one.condition ≡ condition → one.all ≡ true) note notes all (eqb-true note.condition condition here)))
  | inr later ↦
      or_right (note.condition == condition && note.all) (has_broadcast notes condition)
      (all_broadcasts condition notes (All-tail (λ (one : Note). one.condition ≡ condition → one.all ≡ true) note notes all) later)
]

pub run_late : (system : System) → HasCountingPlan system → (state next : List Value) (standings : List Standing) (client : ℕ) (place goes : Place) (call : Call) (block : Block) (told : List Note)
    → MayStep system client place call block state → StandsAt standings client place Inside → IsPending system state standings → WaitWell system standings
    → HasAllNotes system (block_at system.monitor call place) told
    → next ≡ (after (inputs_at call place) block.body state).state → IsPending system next (put standings client goes (Notifying told))
run_late system set state next standings client place goes call block told steps at pending well all is = record {
  broadcasts = λ who others_place condition stands kind holds. elim (came standings client goes (Notifying told) who others_place (Waiting condition) within stands) [
    | inl mover ↦ absurd (cc mover.where_stage)
    | inr other ↦
        let theirs = theirs_at system set.is standings well who others_place condition other.stood in
        elim (cases_Bool (guard_of system state who others_place)) [
          | inl was ↦
              someone_stays standings client place goes Inside (Notifying told) (λ one ones_place stage. announces stage condition) at (λ is. never is) (pending.broadcasts who others_place condition other.stood kind was)
          | inr was ↦
              let noted = makes_true condition theirs.which (inputs_at theirs.call others_place) theirs.waits.which_is
              (sym (waiter_guard system state who others_place condition theirs.call theirs.block theirs.which theirs.waits) ∙ was)
              (sym (waiter_guard system next who others_place condition theirs.call theirs.block theirs.which theirs.waits) ∙ holds) in
              mover_stands standings client place goes Inside (Notifying told) (λ one ones_place stage. announces stage condition) at
              (all.broadcast condition (all_broadcasts condition (notes_at system.plan number) (set.lawful.broadcasts condition kind number) noted))
        ]
  ];
  signals = runs_counted system state next standings client place goes call block told steps at all.noted all.broadcast is pending.signals;
}
  where
    within : client < length standings
    within = stands_within standings client place Inside at

    number : ℕ
    number = block_at system.monitor call place

    last_condition : (condition : ℕ) (theirs : Condition) → IsCondition system.monitor condition theirs → condition ≤ length system.monitor.conditions
    last_condition condition theirs theirs_is = omega (arith, theirs_is.numbered, slice_get_within system.monitor.conditions (condition - 1) theirs theirs_is.there)

    -- a guard that the body makes true has a note
    makes_true : (condition : ℕ) (theirs : Condition) (others : Inputs) → IsCondition system.monitor condition theirs
        → truth_of (valuation state others) theirs.guard ≡ false → truth_of (valuation next others) theirs.guard ≡ true
        → has_note (notes_at system.plan (block_at system.monitor call place)) condition ≡ true
    makes_true condition theirs others theirs_is was holds = elim (cases_Bool (has_note (notes_at system.plan (block_at system.monitor call place)) condition)) [
      | inl noted ↦ noted
      | inr missing ↦
          absurd (not_both (truth_of (valuation next others) theirs.guard) holds
          (ap (λ (state : List Value). truth_of (valuation state others) theirs.guard) is
          ∙ none_needed_applies system.monitor system.plan.kept (block_at system.monitor call place) block (inputs_at call place) state others condition theirs steps.run theirs_is
          (set.lawful.noted (block_at system.monitor call place) condition (slice_get_within system.monitor.blocks (block_at system.monitor call place) block steps.run.is) theirs_is.numbered
          (last_condition condition theirs theirs_is) missing) was))
    ]

-- ---- a note is made

idle_note : (system : System) (state : List Value) (note : Note) → fires system state note ≡ false → (note.tested ≡ true) × (condition_truth system.monitor state note.condition ≡ false)
idle_note system state note still =
    let both = or_parts (not note.tested) (condition_truth system.monitor state note.condition) still in
    (not-false note.tested both.0, both.1)

-- where a note isn't made, nobody waits on its condition with a true guard
nobody_true : (system : System) → IsSystem system → (state : List Value) (standings : List Standing) → WaitWell system standings → (note : Note) → IsTestable system.monitor note → fires system state note ≡ false
    → (who : ℕ) (others_place : Place) → StandsAt standings who others_place (Waiting note.condition) → guard_of system state who others_place ≡ true → ⊥
nobody_true system is state standings well note plain still who others_place at holds =
    let tested = idle_note system state note still in
    let theirs = theirs_at system is standings well who others_place note.condition at in
    not_both (guard_of system state who others_place) holds
    (waiter_guard system state who others_place note.condition theirs.call theirs.block theirs.which theirs.waits
    ∙ sym (condition_truth_is system state (inputs_at theirs.call others_place) note.condition theirs.which theirs.waits.which_is (plain tested.0 theirs.which theirs.waits.which_is)) ∙ tested.1)

pub passes_late : (system : System) → IsSystem system → (state : List Value) (standings : List Standing) → WaitWell system standings → (client : ℕ) (place : Place) (note : Note) (more : List Note)
    → IsTestable system.monitor note → StandsAt standings client place (Notifying (note ∷ more)) → (fires system state note ≡ false) ⊎ ((note.all ≡ false) × NoneWaits standings note.condition)
    → IsPending system state standings → IsPending system state (put standings client place (Notifying more))
passes_late system is state standings well client place note more plain at (inl still) pending =
    takes_pending system state standings client place note more at pending
    (λ who others_place stands kind holds all. nobody_true system is state standings well note plain still who others_place stands holds)
    (λ who others_place stands kind holds. absurd (not_both (condition_truth system.monitor state note.condition) holds (idle_note system state note still).1))
passes_late system is state standings well client place note more plain at (inr nobody) pending =
    takes_pending system state standings client place note more at pending
    (λ who others_place stands kind holds all. nobody.1 who others_place stands)
    (λ who others_place stands kind holds. absurd (nobody.1 who others_place stands))

-- the mutex is given back: what someone may wait for is still to come
pub releases_late : (system : System) (state : List Value) (standings : List Standing) (client : ℕ) (place : Place) (notes next : List Note) → StandsAt standings client place (Notifying notes)
    → ((who : ℕ) (others_place : Place) (condition : ℕ) → StandsAt standings who others_place (Waiting condition) → (guard_of system state who others_place ≡ true) ⊎ (condition_truth system.monitor state condition ≡ true)
    → (has_note notes condition ≡ true → has_note next condition ≡ true) × (has_broadcast notes condition ≡ true → has_broadcast next condition ≡ true))
    → IsPending system state standings → IsPending system state (put standings client place (Notifying next))
releases_late system state standings client place notes next at keeps pending =
    pending_put system state standings client place place (Notifying notes) (Notifying next) at pending
    (λ condition is. absurd (cc is)) (λ condition is. absurd (cc is))
    (λ who others_place condition waits kind holds is.
    mover_stands standings client place place (Notifying notes) (Notifying next) (λ one ones_place stage. announces stage condition) at ((keeps who others_place condition waits (inl holds)).1 is))
    (λ who others_place condition waits kind holds.
    let both = keeps who others_place condition waits (inr holds) in
    record { told = both.1; many = one_most (has_note notes condition) (has_note next condition) both.0 })

-- a note that is left out by its test is on a condition whose guard is true for nobody who waits
pub made_where_true : (system : System) → IsSystem system → (state : List Value) (standings : List Standing) → WaitWell system standings → (note : Note) → IsTestable system.monitor note
    → (who : ℕ) (others_place : Place) → StandsAt standings who others_place (Waiting note.condition)
    → (guard_of system state who others_place ≡ true) ⊎ (condition_truth system.monitor state note.condition ≡ true) → fires system state note ≡ true
made_where_true system is state standings well note plain who others_place waits holds = elim (cases_Bool (fires system state note)) [
  | inl made ↦ made
  | inr still ↦ elim holds [
    | inl open_so ↦ absurd (nobody_true system is state standings well note plain still who others_place waits open_so)
    | inr truth ↦ absurd (not_both (condition_truth system.monitor state note.condition) truth (idle_note system state note still).1)
  ]
]

pub broadcasts_late : (system : System) (state : List Value) (standings : List Standing) (client : ℕ) (place : Place) (note : Note) (more : List Note) → StandsAt standings client place (Notifying (note ∷ more))
    → IsPending system state standings → IsPending system state (put (wake_all note.condition standings) client place (Notifying more))
broadcasts_late system state standings client place note more at pending =
    let woken = wake_all note.condition standings in
    takes_pending system state woken client place note more (unwoken_stays standings note.condition client place (Notifying (note ∷ more)) at refl)
    (wakes_all_pending system state standings note.condition pending)
    (λ who others_place waits kind holds all. none_waits standings note.condition who others_place waits)
    (λ who others_place waits kind holds. absurd (none_waits standings note.condition who others_place waits))

pub signals_late : (system : System) (state : List Value) (standings : List Standing) (client : ℕ) (place : Place) (note : Note) (more : List Note) (target : ℕ) (target_place : Place)
    → StandsAt standings client place (Notifying (note ∷ more)) → note.all ≡ false → StandsAt standings target target_place (Waiting note.condition)
    → IsPending system state standings → IsPending system state (put (put standings target target_place (Woken note.condition)) client place (Notifying more))
signals_late system state standings client place note more target target_place at one waits pending =
    let woken = put standings target target_place (Woken note.condition) in
    let still = target_apart standings client place target target_place note.condition (note ∷ more) at waits in
    record {
      broadcasts = takes_announced system state woken client place note more still
          (wakes_pending system state standings target target_place note.condition waits pending).broadcasts
          (λ who others_place also kind holds all. not_both note.all all one);
      signals = signals_counted system state standings client place note more target target_place still one waits pending.signals;
    }
