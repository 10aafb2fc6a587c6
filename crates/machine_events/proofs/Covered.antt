-- Under a lawful plan every event keeps the invariant, and that the wake-up of each client that
-- waits with a true guard is on its way.
use Rattle.std.proofs.Common.{◌≡◌, ◌==◌, ℕ, ◌+◌, ◌≤◌, Bool, true, false, cond, ◌&&◌, ◌||◌, List, [], ◌∷◌, Option, Some, refl, sym, ap, subst, ◌∙◌, arith, inl, inr}
use Rattle.std.proofs.lemmas.Option.{slice_get_within}
use Rattle.std.proofs.lemmas.Bool.{true≢false, eqb-true, eq-eqb, and_parts, or_cases, cases_Bool}
use Rattle.logic_linear.specs.Truth.{value_of, truth_of}
use Rattle.lang_base.specs.declared.value.Value.{Value}
use Rattle.lang_monitor.specs.declared.monitor.Block.{Block}
use Rattle.lang_monitor.specs.declared.monitor.Condition.{Condition}
use Rattle.lang_monitor.specs.Inputs.{reads_inputs}
use Rattle.lang_monitor.specs.Bodies.{Inputs, no_inputs, valuation, after}
use Rattle.machine_implicit.specs.declared.script.Call.{Call}
use Rattle.machine_implicit.specs.Steps.{condition_truth, condition_guard_truth}
use Rattle.machine_implicit.specs.declared.place.Place.{Place}
use Rattle.machine_implicit.specs.Places.{block_at, inputs_at}
use Rattle.machine_events.specs.declared.plan.CondKind.{CondKind}
use Rattle.machine_events.specs.declared.plan.CondKind.TheVariants as kinds
use Rattle.machine_events.specs.declared.plan.Note.{Note}
use Rattle.lang_monitor.specs.Candidates.{AllHold}
use Rattle.machine_events.specs.Plans.{notes_at, condition_kind, has_note}
use Rattle.machine_events.specs.Plans.{has_broadcast, IsCondition}
use Rattle.machine_events.specs.Running.{MayRun}
use Rattle.machine_events.specs.Counts.{Measure, LeavesCounted, below_zero, slack, is_free, one_if}
use Rattle.machine_events.specs.Laws.{HasCountingPlan}
use Rattle.machine_events.specs.declared.event.Stage.{Stage}
use Rattle.machine_events.specs.Configurations.{System, Standing, StandsAt, put, guard_of, waited_condition}
use Rattle.machine_events.specs.declared.event.Stage.TheVariants.{Idle, Entering, Waiting, Woken, Inside, Notifying}
use Rattle.machine_events.specs.Events.{wake_all, waits_on}
use Rattle.machine_events.specs.Pending.{announces, sees_to, SomeStands, seeing, IsEnough, AreAnnounced, AreCounted, IsPending}
use Rattle.machine_events.proofs.Standings.{stands_within, came, mover_stands, someone_stays, woken_from, unwoken_stays}
use Rattle.machine_events.proofs.Valuations.{without_inputs}
use Rattle.machine_events.proofs.Applying.{kept_applies}
use Rattle.machine_events.proofs.Facing.{Faces, guard_is, condition_is, own_guard}
use Rattle.machine_events.proofs.Seeing.{one_most, at_least_none, no_more, chain, still_enough, handed_on, takes_and_gives, many_put, many_woken}

-- ---- a step of a client's block

-- a client at this place may run its block in the state
pub record MayStep (system : System) (client : ℕ) (place : Place) (call : Call) (block : Block) (state : List Value) : Type 0 where
  pub faced : Faces system client place call block
  pub run : MayRun system.monitor system.plan.kept (block_at system.monitor call place) block
      (inputs_at call place) state

-- the kept candidates are true after it
pub kept_next : (system : System) → HasCountingPlan system
    → (client : ℕ) (place : Place) (call : Call) (block : Block) (state : List Value)
    → MayStep system client place call block state
    → AllHold (after (inputs_at call place) block.body state).state system.plan.kept
kept_next system set client place call block state steps =
    kept_applies system.monitor system.plan.kept system.plan.kept (block_at system.monitor call place) block (inputs_at call place) state steps.run set.is.plan.kept
    (set.lawful.inductive.keeps (block_at system.monitor call place) (slice_get_within system.monitor.blocks (block_at system.monitor call place) block steps.run.is))

-- ---- conditions of kind signal read no inputs

pub two_kinds : (o : Option CondKind) → o ≡ Some kinds.Broadcast → o ≡ Some kinds.Signal → ⊥
two_kinds o is also = cc

pub reads_not : (system : System) → HasCountingPlan system → (condition : ℕ) (which : Condition)
    → IsCondition system.monitor condition which
    → condition_kind system.plan condition ≡ Some kinds.Signal → reads_inputs which.guard ≡ false
reads_not system set condition which is signal = elim (cases_Bool (reads_inputs which.guard)) [
  | inl reads ↦ absurd (two_kinds (condition_kind system.plan condition) (set.lawful.reading condition which is reads).kind signal)
  | inr none ↦ none
]

pub condition_truth_is : (system : System) (state : List Value) (inputs : Inputs) (condition : ℕ)
    (which : Condition) → IsCondition system.monitor condition which
    → reads_inputs which.guard ≡ false → condition_truth system.monitor state condition
    ≡ truth_of (valuation state inputs) which.guard
condition_truth_is system state inputs condition which is none =
    ap (condition_guard_truth state) is.there ∙ without_inputs state no_inputs inputs which.guard none

-- the guard of a client at a block of such a condition is the condition's
pub signal_guard : (system : System) → HasCountingPlan system
    → (state : List Value) (client : ℕ) (place : Place) (call : Call) (block : Block)
    → Faces system client place call block → 1 ≤ block.condition
    → condition_kind system.plan block.condition ≡ Some kinds.Signal
    → condition_truth system.monitor state block.condition ≡ guard_of system state client place
signal_guard system set state client place call block faced numbered signal =
    let own = own_guard system.monitor (block_at system.monitor call place) block set.is.rule faced.block_is numbered in
    condition_truth_is system state (inputs_at call place) block.condition own.0 own.1.is (reads_not system set block.condition own.0 own.1.is signal)
    ∙ ap (truth_of (valuation state (inputs_at call place))) own.1.guard
    ∙ sym (guard_is system state client place call block faced)

-- ---- the state stays, and one client moves

pub not_both : (b : Bool) → b ≡ true → b ≡ false → ⊥
not_both b held fails = true≢false (sym held ∙ fails)

pub announced_put : (system : System) (state : List Value) (standings : List Standing) (client : ℕ)
    (place new_place : Place) (stage new_stage : Stage (List Note)) → StandsAt standings client place stage
    → AreAnnounced system state standings
    → ((condition : ℕ) → new_stage ≡ Waiting condition
    → guard_of system state client new_place ≡ false)
    → ((who : ℕ) (others_place : Place) (condition : ℕ)
    → StandsAt standings who others_place (Waiting condition)
    → condition_kind system.plan condition ≡ Some kinds.Broadcast
    → guard_of system state who others_place ≡ true
    → announces stage condition ≡ true → SomeStands (put standings client new_place new_stage)
    (λ other others_place others_stage. announces others_stage condition))
    → AreAnnounced system state (put standings client new_place new_stage)
announced_put system state standings client place new_place stage new_stage at announced fresh kept who others_place condition stands kind holds = elim (came standings client new_place new_stage who others_place (Waiting condition) (stands_within standings client place stage at) stands) [
  | inl mover ↦
      absurd (not_both (guard_of system state client new_place)
      (sym (ap (λ (one : ℕ). guard_of system state one others_place) mover.who ∙ ap (guard_of system state client) mover.where_place) ∙ holds)
      (fresh condition (sym mover.where_stage)))
  | inr other ↦ someone_stays standings client place new_place stage new_stage (λ one others_place others_stage. announces others_stage condition) at
      (kept who others_place condition other.stood kind holds) (announced who others_place condition other.stood kind holds)
]

-- the mover announces what it announced, and sees to as much
pub record SeesAsMuch (system : System) (client : ℕ) (place new_place : Place) (stage new_stage : Stage (List Note)) (condition : ℕ) : Type 0 where
  pub told : announces stage condition ≡ true → announces new_stage condition ≡ true
  pub many : one_if (sees_to system client place stage condition)
      ≤ one_if (sees_to system client new_place new_stage condition)

-- where a guard is false no client may pass
pub none_may : (system : System) (state : List Value) (standings : List Standing) (condition : ℕ)
    (measure : Measure) → condition_truth system.monitor state condition ≡ false
    → IsEnough system state standings condition measure
none_may system state standings condition measure fails = record {
  bounded = ap (λ (test : Bool). test && truth_of (valuation state no_inputs) measure.free) fails;
  many = none_at_all (slack system.monitor measure state condition) (seeing system condition standings)
      (ap (λ (test : Bool). cond test (1 + below_zero (value_of (valuation state no_inputs) measure.form)) 0) fails);
}
  where
    none_at_all : (a b : ℕ) → a ≡ 0 → a ≤ b
    none_at_all a b none = omega (arith, none)

-- how many see to a condition after one is put elsewhere
pub seeing_put : (system : System) (condition : ℕ) (standings : List Standing) (client : ℕ)
    (place new_place : Place) (stage new_stage : Stage (List Note)) → StandsAt standings client place stage
    → seeing system condition (put standings client new_place new_stage)
    + one_if (sees_to system client place stage condition)
    ≡ seeing system condition standings
    + one_if (sees_to system client new_place new_stage condition)
seeing_put system condition standings client place new_place stage new_stage at =
    many_put (λ one standing. sees_to system one standing.place standing.stage condition) standings 0 client client (record { place = place; stage = stage }) (record { place = new_place; stage = new_stage }) (omega arith) at

pub counted_put : (system : System) (state : List Value) (standings : List Standing) (client : ℕ)
    (place new_place : Place) (stage new_stage : Stage (List Note)) → StandsAt standings client place stage
    → AreCounted system state standings
    → ((condition : ℕ) → new_stage ≡ Waiting condition
    → condition_kind system.plan condition ≡ Some kinds.Signal
    → condition_truth system.monitor state condition ≡ false)
    → ((who : ℕ) (others_place : Place) (condition : ℕ)
    → StandsAt standings who others_place (Waiting condition)
    → condition_kind system.plan condition ≡ Some kinds.Signal
    → condition_truth system.monitor state condition ≡ true
    → SeesAsMuch system client place new_place stage new_stage condition)
    → AreCounted system state (put standings client new_place new_stage)
counted_put system state standings client place new_place stage new_stage at counted fresh kept who others_place condition stands kind measure counts = elim (cases_Bool (condition_truth system.monitor state condition)) [
  | inr fails ↦ inr (none_may system state (put standings client new_place new_stage) condition measure fails)
  | inl holds ↦ elim (came standings client new_place new_stage who others_place (Waiting condition) (stands_within standings client place stage at) stands) [
    | inl mover ↦ absurd (not_both (condition_truth system.monitor state condition) holds (fresh condition (sym mover.where_stage) kind))
    | inr other ↦
        let much = kept who others_place condition other.stood kind holds in
        elim (counted who others_place condition other.stood kind measure counts) [
          | inl told ↦
              inl (someone_stays standings client place new_place stage new_stage (λ one ones_place ones_stage. announces ones_stage condition) at
              (λ is. mover_stands standings client place new_place stage new_stage (λ one ones_place ones_stage. announces ones_stage condition) at (much.told is)) told)
          | inr enough ↦
              inr (record {
                bounded = enough.bounded;
                many = still_enough (slack system.monitor measure state condition) (seeing system condition standings) (seeing system condition (put standings client new_place new_stage))
                    (one_if (sees_to system client place stage condition)) (one_if (sees_to system client new_place new_stage condition))
                    enough.many much.many (seeing_put system condition standings client place new_place stage new_stage at);
              })
        ]
  ]
]

pub pending_put : (system : System) (state : List Value) (standings : List Standing) (client : ℕ)
    (place new_place : Place) (stage new_stage : Stage (List Note)) → StandsAt standings client place stage
    → IsPending system state standings
    → ((condition : ℕ) → new_stage ≡ Waiting condition
    → guard_of system state client new_place ≡ false)
    → ((condition : ℕ) → new_stage ≡ Waiting condition
    → condition_kind system.plan condition ≡ Some kinds.Signal
    → condition_truth system.monitor state condition ≡ false)
    → ((who : ℕ) (others_place : Place) (condition : ℕ)
    → StandsAt standings who others_place (Waiting condition)
    → condition_kind system.plan condition ≡ Some kinds.Broadcast
    → guard_of system state who others_place ≡ true
    → announces stage condition ≡ true → SomeStands (put standings client new_place new_stage)
    (λ other others_place others_stage. announces others_stage condition))
    → ((who : ℕ) (others_place : Place) (condition : ℕ)
    → StandsAt standings who others_place (Waiting condition)
    → condition_kind system.plan condition ≡ Some kinds.Signal
    → condition_truth system.monitor state condition ≡ true
    → SeesAsMuch system client place new_place stage new_stage condition)
    → IsPending system state (put standings client new_place new_stage)
pending_put system state standings client place new_place stage new_stage at pending fresh fresh_signal kept kept_signal = record {
  broadcasts = announced_put system state standings client place new_place stage new_stage at pending.broadcasts fresh kept;
  signals = counted_put system state standings client place new_place stage new_stage at pending.signals fresh_signal kept_signal;
}

never : {P : Type 0} → false ≡ true → P
never is = absurd (true≢false (sym is))

-- a mover that announced nothing, and saw to nothing that it does not see to now
pub sees_still : (system : System) (client : ℕ) (place new_place : Place) (stage new_stage : Stage (List Note))
    (condition : ℕ) → announces stage condition ≡ false
    → (sees_to system client place stage condition ≡ true
    → sees_to system client new_place new_stage condition ≡ true)
    → SeesAsMuch system client place new_place stage new_stage condition
sees_still system client place new_place stage new_stage condition silent follows = record {
  told = λ is. absurd (not_both (announces stage condition) is silent);
  many = one_most (sees_to system client place stage condition) (sees_to system client new_place new_stage condition) follows;
}

pub begins_pending : (system : System) (state : List Value) (standings : List Standing) (client : ℕ)
    (place : Place) → StandsAt standings client place Idle → IsPending system state standings
    → IsPending system state (put standings client place Entering)
begins_pending system state standings client place at pending =
    pending_put system state standings client place place Idle Entering at pending
    (λ condition is. absurd (cc is)) (λ condition is. absurd (cc is))
    (λ who others_place condition waits kind holds is. never is)
    (λ who others_place condition waits kind holds. sees_still system client place place Idle Entering condition refl (λ is. never is))

-- from entering
pub enters_pending : (system : System) (state : List Value) (standings : List Standing) (client : ℕ)
    (place : Place) → StandsAt standings client place Entering → IsPending system state standings
    → IsPending system state (put standings client place Inside)
enters_pending system state standings client place at pending =
    pending_put system state standings client place place Entering Inside at pending
    (λ condition is. absurd (cc is)) (λ condition is. absurd (cc is))
    (λ who others_place condition waits kind holds is. never is)
    (λ who others_place condition waits kind holds. sees_still system client place place Entering Inside condition refl (λ is. never is))

-- woken, the client sees to its own condition
pub returns_pending : (system : System) (state : List Value) (standings : List Standing)
    (client : ℕ) (place : Place) (woken : ℕ) → StandsAt standings client place (Woken woken)
    → woken ≡ waited_condition system client place
    → IsPending system state standings → IsPending system state (put standings client place Inside)
returns_pending system state standings client place woken at own pending =
    pending_put system state standings client place place (Woken woken) Inside at pending
    (λ condition is. absurd (cc is)) (λ condition is. absurd (cc is))
    (λ who others_place condition waits kind holds is. never is)
    (λ who others_place condition waits kind holds.
    sees_still system client place place (Woken woken) Inside condition refl
    (λ is. eq-eqb (waited_condition system client place) condition (sym own ∙ eqb-true woken condition is)))

-- a client whose guard is false waits
pub leaves_pending : (system : System) → HasCountingPlan system
    → (state : List Value) (standings : List Standing) (client : ℕ) (place : Place) (call : Call)
    (block : Block) → Faces system client place call block → 1 ≤ block.condition
    → StandsAt standings client place Inside
    → guard_of system state client place ≡ false
    → IsPending system state standings → IsPending system state
    (put standings client place (Waiting (waited_condition system client place)))
leaves_pending system set state standings client place call block faced numbered at guard pending =
    pending_put system state standings client place place Inside (Waiting own) at pending
    (λ condition is. guard)
    (λ condition is kind. false_at condition (cc is) kind)
    (λ who others_place condition waits kind holds is. never is)
    (λ who others_place condition waits kind holds.
    sees_still system client place place Inside (Waiting own) condition refl
    (λ is. absurd (not_both (condition_truth system.monitor state condition) holds (false_at condition (eqb-true own condition is) kind))))
  where
    own : ℕ
    own = waited_condition system client place

    false_at : (condition : ℕ) → waited_condition system client place ≡ condition
        → condition_kind system.plan condition ≡ Some kinds.Signal
        → condition_truth system.monitor state condition ≡ false
    false_at condition is kind =
        let same : condition ≡ block.condition = sym is ∙ condition_is system client place call block faced in
        ap (condition_truth system.monitor state) same
        ∙ signal_guard system set state client place call block faced numbered (subst (λ (one : ℕ). condition_kind system.plan one ≡ Some kinds.Signal) same kind)
        ∙ guard

pub unlocks_pending : (system : System) (state : List Value) (standings : List Standing)
    (client : ℕ) (place : Place) → StandsAt standings client place (Notifying [])
    → IsPending system state standings
    → IsPending system state (put standings client place Idle)
unlocks_pending system state standings client place at pending =
    pending_put system state standings client place place (Notifying []) Idle at pending
    (λ condition is. absurd (cc is)) (λ condition is. absurd (cc is))
    (λ who others_place condition waits kind holds is. never is)
    (λ who others_place condition waits kind holds. sees_still system client place place (Notifying []) Idle condition refl (λ is. never is))

pub wakes_pending : (system : System) (state : List Value) (standings : List Standing) (client : ℕ)
    (place : Place) (woken : ℕ) → StandsAt standings client place (Waiting woken)
    → IsPending system state standings
    → IsPending system state (put standings client place (Woken woken))
wakes_pending system state standings client place woken at pending =
    pending_put system state standings client place place (Waiting woken) (Woken woken) at pending
    (λ condition is. absurd (cc is)) (λ condition is. absurd (cc is))
    (λ who others_place condition waits kind holds is. never is)
    (λ who others_place condition waits kind holds. sees_still system client place place (Waiting woken) (Woken woken) condition refl (λ is. never is))

-- ---- all that wait on a condition are woken

-- who announces a condition does not wait
announcing_waits_not : (woken : ℕ) (stage : Stage (List Note)) (condition : ℕ)
    → announces stage condition ≡ true → waits_on woken stage ≡ false
announcing_waits_not woken Idle condition is = never is
announcing_waits_not woken Entering condition is = never is
announcing_waits_not woken (Waiting other) condition is = never is
announcing_waits_not woken (Woken other) condition is = never is
announcing_waits_not woken Inside condition is = never is
announcing_waits_not woken (Notifying notes) condition is = refl

-- who is woken saw to nothing, and all others stay
abbrev sees_in : System → ℕ → ℕ → Standing → Bool
sees_in system condition client standing = sees_to system client standing.place standing.stage condition

abbrev woken_if : Bool → ℕ → Place → Stage (List Note) → Standing
woken_if is woken place stage = cond is (record { place = place; stage = Woken woken }) (record { place = place; stage = stage })

sees_when_woken : (system : System) (client : ℕ) (place : Place) (woken condition : ℕ)
    (stage : Stage (List Note)) (is : Bool) → waits_on woken stage ≡ is
    → one_if (sees_in system condition client (record { place = place; stage = stage }))
    ≤ one_if (sees_in system condition client (woken_if is woken place stage))
sees_when_woken system client place woken condition Idle is waits = at_least_none (one_if (sees_in system condition client (woken_if is woken place Idle)))
sees_when_woken system client place woken condition Entering is waits = at_least_none (one_if (sees_in system condition client (woken_if is woken place Entering)))
sees_when_woken system client place woken condition (Waiting other) is waits = at_least_none (one_if (sees_in system condition client (woken_if is woken place (Waiting other))))
sees_when_woken system client place woken condition (Woken other) true waits = absurd (true≢false (sym waits))
sees_when_woken system client place woken condition (Woken other) false waits = no_more (one_if (other == condition)) (one_if (other == condition)) refl
sees_when_woken system client place woken condition Inside true waits = absurd (true≢false (sym waits))
sees_when_woken system client place woken condition Inside false waits = no_more (one_if (waited_condition system client place == condition)) (one_if (waited_condition system client place == condition)) refl
sees_when_woken system client place woken condition (Notifying notes) true waits = absurd (true≢false (sym waits))
sees_when_woken system client place woken condition (Notifying notes) false waits = no_more (one_if (has_note notes condition)) (one_if (has_note notes condition)) refl

waited : (standings : List Standing) (woken client : ℕ) (place : Place) (condition : ℕ)
    → StandsAt (wake_all woken standings) client place (Waiting condition)
    → StandsAt standings client place (Waiting condition)
waited standings woken client place condition at = elim (woken_from standings woken client place (Waiting condition) at) [
  | inl stayed ↦ stayed.0
  | inr was ↦ absurd (cc was.1)
]

told_when_woken : (standings : List Standing) (woken condition : ℕ)
    → SomeStands standings (λ other others_place stage. announces stage condition)
    → SomeStands (wake_all woken standings) (λ other others_place stage. announces stage condition)
told_when_woken standings woken condition some =
    (some.0, some.1, some.2, unwoken_stays standings woken some.0 some.1 some.2 some.3 (announcing_waits_not woken some.2 condition some.4), some.4)

pub wakes_all_pending : (system : System) (state : List Value) (standings : List Standing)
    (woken : ℕ) → IsPending system state standings
    → IsPending system state (wake_all woken standings)
wakes_all_pending system state standings woken pending = record {
  broadcasts = λ who others_place condition at kind holds.
      told_when_woken standings woken condition (pending.broadcasts who others_place condition (waited standings woken who others_place condition at) kind holds);
  signals = λ who others_place condition at kind measure counts.
      elim (pending.signals who others_place condition (waited standings woken who others_place condition at) kind measure counts) [
        | inl told ↦ inl (told_when_woken standings woken condition told)
        | inr enough ↦
            inr (record {
              bounded = enough.bounded;
              many = chain (slack system.monitor measure state condition) (seeing system condition standings) (seeing system condition (wake_all woken standings)) enough.many
                  (many_woken (sees_in system condition) woken
                  (λ one standing. sees_when_woken system one standing.place woken condition standing.stage (waits_on woken standing.stage) refl) standings 0);
            })
      ];
}

-- ---- a note is taken off

pub takes_announced : (system : System) (state : List Value) (standings : List Standing) (client : ℕ)
    (place : Place) (note : Note) (more : List Note)
    → StandsAt standings client place (Notifying (note ∷ more))
    → AreAnnounced system state standings
    → ((who : ℕ) (others_place : Place) → StandsAt standings who others_place
    (Waiting note.condition) → condition_kind system.plan note.condition ≡ Some kinds.Broadcast
    → guard_of system state who others_place ≡ true → note.all ≡ true → ⊥)
    → AreAnnounced system state (put standings client place (Notifying more))
takes_announced system state standings client place note more at announced broadcast =
    announced_put system state standings client place place (Notifying (note ∷ more)) (Notifying more) at announced
    (λ condition is. absurd (cc is))
    (λ who others_place condition waits kind holds is. elim (or_cases (note.condition == condition && note.all) (has_broadcast more condition) is) [
      | inl here ↦
          let both = and_parts (note.condition == condition) note.all here in
          let same = sym (eqb-true note.condition condition both.0) in
          absurd (broadcast who others_place (subst (λ (one : ℕ). StandsAt standings who others_place (Waiting one)) same waits) (subst (λ (one : ℕ). condition_kind system.plan one ≡ Some kinds.Broadcast) same kind) holds both.1)
      | inr later ↦ mover_stands standings client place place (Notifying (note ∷ more)) (Notifying more) (λ other others_place stage. announces stage condition) at later
    ])

pub takes_counted : (system : System) (state : List Value) (standings : List Standing) (client : ℕ)
    (place : Place) (note : Note) (more : List Note)
    → StandsAt standings client place (Notifying (note ∷ more))
    → AreCounted system state standings
    → ((who : ℕ) (others_place : Place) → StandsAt standings who others_place
    (Waiting note.condition) → condition_kind system.plan note.condition ≡ Some kinds.Signal
    → condition_truth system.monitor state note.condition ≡ true → ⊥)
    → AreCounted system state (put standings client place (Notifying more))
takes_counted system state standings client place note more at counted signal =
    counted_put system state standings client place place (Notifying (note ∷ more)) (Notifying more) at counted
    (λ condition is. absurd (cc is))
    (λ who others_place condition waits kind holds. elim (cases_Bool (note.condition == condition)) [
      | inl here ↦
          let same = sym (eqb-true note.condition condition here) in
          absurd (signal who others_place (subst (λ (one : ℕ). StandsAt standings who others_place (Waiting one)) same waits) (subst (λ (one : ℕ). condition_kind system.plan one ≡ Some kinds.Signal) same kind)
          (ap (condition_truth system.monitor state) (sym same) ∙ holds))
      | inr differs ↦ record {
        told = λ is. elim (or_cases (note.condition == condition && note.all) (has_broadcast more condition) is) [
          | inl all ↦ absurd (not_both (note.condition == condition) (and_parts (note.condition == condition) note.all all).0 differs)
          | inr later ↦ later
        ];
        many = no_more (one_if (has_note (note ∷ more) condition)) (one_if (has_note more condition)) (ap (λ (test : Bool). one_if (test || has_note more condition)) differs);
      }
    ])

pub takes_pending : (system : System) (state : List Value) (standings : List Standing) (client : ℕ)
    (place : Place) (note : Note) (more : List Note)
    → StandsAt standings client place (Notifying (note ∷ more))
    → IsPending system state standings
    → ((who : ℕ) (others_place : Place) → StandsAt standings who others_place
    (Waiting note.condition) → condition_kind system.plan note.condition ≡ Some kinds.Broadcast
    → guard_of system state who others_place ≡ true → note.all ≡ true → ⊥)
    → ((who : ℕ) (others_place : Place) → StandsAt standings who others_place
    (Waiting note.condition) → condition_kind system.plan note.condition ≡ Some kinds.Signal
    → condition_truth system.monitor state note.condition ≡ true → ⊥)
    → IsPending system state (put standings client place (Notifying more))
takes_pending system state standings client place note more at pending broadcast signal = record {
  broadcasts = takes_announced system state standings client place note more at pending.broadcasts broadcast;
  signals = takes_counted system state standings client place note more at pending.signals signal;
}

-- a signal is handed on to a client that waits
pub signals_counted : (system : System) (state : List Value) (standings : List Standing)
    (client : ℕ) (place : Place) (note : Note) (more : List Note) (target : ℕ) (target_place : Place)
    → StandsAt (put standings target target_place (Woken note.condition)) client place
    (Notifying (note ∷ more))
    → note.all ≡ false → StandsAt standings target target_place (Waiting note.condition)
    → AreCounted system state standings
    → AreCounted system state (put (put standings target target_place (Woken note.condition)) client
    place (Notifying more))
signals_counted system state standings client place note more target target_place still one waits counted who others_place condition stands kind measure counts =
    let woken = put standings target target_place (Woken note.condition) in
    let later = put woken client place (Notifying more) in
    elim (came woken client place (Notifying more) who others_place (Waiting condition) (stands_within woken client place (Notifying (note ∷ more)) still) stands) [
      | inl mover ↦ absurd (cc mover.where_stage)
      | inr other ↦ elim (came standings target target_place (Woken note.condition) who others_place (Waiting condition) (stands_within standings target target_place (Waiting note.condition) waits) other.stood) [
        | inl mover ↦ absurd (cc mover.where_stage)
        | inr stood ↦ elim (counted who others_place condition stood.stood kind measure counts) [
          | inl told ↦
              inl (someone_stays woken client place place (Notifying (note ∷ more)) (Notifying more) (λ some somes_place stage. announces stage condition) still
              (λ is. mover_stands woken client place place (Notifying (note ∷ more)) (Notifying more) (λ some somes_place stage. announces stage condition) still (told_later note more condition one is))
              (someone_stays standings target target_place target_place (Waiting note.condition) (Woken note.condition) (λ some somes_place stage. announces stage condition) waits
              (λ is. never is) told))
          | inr enough ↦
              inr (record {
                bounded = enough.bounded;
                many = handed_on (slack system.monitor measure state condition) (seeing system condition standings) (seeing system condition woken) (seeing system condition later)
                    (note.condition == condition) (has_note more condition) enough.many
                    (seeing_put system condition standings target target_place target_place (Waiting note.condition) (Woken note.condition) waits)
                    (seeing_put system condition woken client place place (Notifying (note ∷ more)) (Notifying more) still);
              })
        ]
      ]
    ]
  where
    told_later : (note : Note) (more : List Note) (condition : ℕ) → note.all ≡ false
        → has_broadcast (note ∷ more) condition ≡ true → has_broadcast more condition ≡ true
    told_later note more condition one is = elim (or_cases (note.condition == condition && note.all) (has_broadcast more condition) is) [
      | inl all ↦ absurd (not_both note.all (and_parts (note.condition == condition) note.all all).1 one)
      | inr later ↦ later
    ]

-- ---- a block runs

-- it takes one where it is of the condition, and gives one where it has a note on it
pub runs_counted : (system : System) (state next : List Value) (standings : List Standing)
    (client : ℕ) (place goes : Place) (call : Call) (block : Block) (told : List Note)
    → MayStep system client place call block state
    → StandsAt standings client place Inside
    → ((condition : ℕ) → has_note (notes_at system.plan (block_at system.monitor call place)) condition
    ≡ true → has_note told condition ≡ true)
    → ((condition : ℕ) → has_broadcast (notes_at system.plan (block_at system.monitor call place))
    condition ≡ true → has_broadcast told condition ≡ true)
    → next ≡ (after (inputs_at call place) block.body state).state
    → AreCounted system state standings
    → AreCounted system next (put standings client goes (Notifying told))
runs_counted system state next standings client place goes call block told steps at noted cast is counted who others_place condition stands kind measure counts = elim (came standings client goes (Notifying told) who others_place (Waiting condition) (stands_within standings client place Inside at) stands) [
  | inl mover ↦ absurd (cc mover.where_stage)
  | inr other ↦ elim (counted who others_place condition other.stood kind measure counts) [
    | inl announced ↦ inl (someone_stays standings client place goes Inside (Notifying told) (λ one ones_place stage. announces stage condition) at (λ same. never same) announced)
    | inr enough ↦ elim (counts number block steps.run.is) [
      | inl broadcast ↦ inl (mover_stands standings client place goes Inside (Notifying told) (λ one ones_place stage. announces stage condition) at (cast condition broadcast))
      | inr each ↦ inr (leaves_enough enough (each (inputs_at call place) state steps.run enough.bounded))
    ]
  ]
]
  where
    number : ℕ
    number = block_at system.monitor call place

    leaves_enough : IsEnough system state standings condition measure
        → LeavesCounted system.monitor system.plan measure condition number block state
        (after (inputs_at call place) block.body state).state
        → IsEnough system next (put standings client goes (Notifying told)) condition measure
    leaves_enough enough leaves =
        let later = put standings client goes (Notifying told) in
        let ran = (after (inputs_at call place) block.body state).state in
        record {
          bounded = ap (λ (state : List Value). is_free system.monitor measure state condition) is ∙ leaves.bounded;
          many = subst (λ (state : List Value). slack system.monitor measure state condition ≤ seeing system condition later) (sym is)
              (takes_and_gives (slack system.monitor measure state condition) (slack system.monitor measure ran condition)
              (seeing system condition standings) (seeing system condition later)
              (one_if (block.condition == condition)) (one_if (waited_condition system client place == condition))
              (one_if (has_note (notes_at system.plan number) condition)) (one_if (has_note told condition))
              leaves.many enough.many
              (ap (λ (one : ℕ). one_if (one == condition)) (condition_is system client place call block steps.faced))
              (one_most (has_note (notes_at system.plan number) condition) (has_note told condition) (noted condition))
              (seeing_put system condition standings client place goes Inside (Notifying told) at));
        }
