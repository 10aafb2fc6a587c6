-- Every event keeps what each configuration keeps, whatever the plan.
use Rattle.std.proofs.Common.{◌≡◌, ℕ, zero, suc, ◌+◌, ◌<◌, Bool, true, false, cond, List, [], ◌∷◌, ◌++◌, map, length, Option, Some, None, IsSomeAnd, refl, sym, ap, subst, ◌∙◌, arith, inl, inr, append_assoc}
use Rattle.std.specs.Prelude.{slice_get, slice_set}
use Rattle.std.specs.Option.{option_map_or}
use Rattle.std.proofs.lemmas.List.{length-map}
use Rattle.std.proofs.lemmas.Option.{none-some, same_Some}
use Rattle.std.proofs.lemmas.Bool.{true≢false, cases_eq}
use Rattle.lang_base.specs.declared.value.Value.{Value}
use Rattle.lang_monitor.specs.declared.monitor.Block.{Block}
use Rattle.lang_monitor.specs.MonitorParts.{MonitorParts, IsMonitor}
use Rattle.lang_monitor.specs.Bodies.{Memory, after, block_result}
use Rattle.lang_base.specs.declared.value.Value.TheVariants as values
use Rattle.machine_implicit.specs.declared.commit.Commit.{Commit}
use Rattle.machine_implicit.specs.declared.commit.Reply.{Reply}
use Rattle.machine_implicit.specs.declared.script.Call.{Call}
use Rattle.machine_implicit.specs.declared.script.Client.{Client}
use Rattle.machine_implicit.specs.Steps.{FitsState, BlockSteps, reply_of, start_of, guard_truth}
use Rattle.machine_implicit.specs.Scripted.{FitsScripts, calls_of}
use Rattle.machine_implicit.specs.declared.place.Place.{Place}
use Rattle.machine_implicit.specs.Places.{block_at, inputs_at, tries_at, IsCallStep, FitsPlace}
use Rattle.machine_implicit.specs.Runs.{Situation, first_places, IsRun, IsNextCommit}
use Rattle.machine_implicit.specs.Runs.IsRunBy.{begun, stepped}
use Rattle.machine_implicit.proofs.Held.{start_state_fits}
use Rattle.machine_events.specs.declared.plan.Note.{Note}
use Rattle.machine_events.specs.declared.event.Event.{Event}
use Rattle.machine_events.specs.declared.event.Event.TheVariants as events
use Rattle.machine_events.specs.Plans.{notes_at}
use Rattle.machine_events.specs.declared.event.Stage.{Stage}
use Rattle.machine_events.specs.Configurations.{System, Standing, Configuration, StandsAt, put, idle_at, initial, situation_of, guard_of, waited_condition}
use Rattle.machine_events.specs.declared.event.Stage.TheVariants.{Idle, Entering, Waiting, Woken, Inside, Notifying}
use Rattle.machine_events.specs.Events.{wake_all, waits_on, own_notes, notes_after, commit_at, Begins, Locks, Waits, StepsInside, Wakes, Notifies, Unlocks, IsEvent}
use Rattle.machine_events.specs.Pending.{has_begun, holds_lock, condition_named, IsSuffix, IsHeldBy, HasOneOwner, AreToCome, IsSound}
use Rattle.machine_events.proofs.Standings.{same_place, same_stage, one_stage, stands_within, put_length, put_same, stays, came, apart, woken_from, unwoken_stays, woken_length}
use Rattle.machine_implicit.proofs.Fitting.{first_fits, first_is, step_fits}
use Rattle.machine_events.proofs.Facing.{Faces}

-- ---- the owner

-- a client that holds the lock before and after, or neither
pub owner_kept : (standings : List Standing) (owner : Option ℕ) (client : ℕ)
    (place new_place : Place) (stage new_stage : Stage (List Note)) → StandsAt standings client place stage
    → HasOneOwner standings owner → holds_lock new_stage ≡ holds_lock stage
    → HasOneOwner (put standings client new_place new_stage) owner
owner_kept standings owner client place new_place stage new_stage at lock same = record {
  holds = λ who is. held who (lock.holds who is);
  only = λ who others_place others_stage stands holds. elim (came standings client new_place new_stage who others_place others_stage (stands_within standings client place stage at) stands) [
    | inl mover ↦
        lock.only who place stage (subst (λ (one : ℕ). StandsAt standings one place stage) (sym mover.who) at) (sym same ∙ ap holds_lock (sym mover.where_stage) ∙ holds)
    | inr other ↦ lock.only who others_place others_stage other.stood holds
  ];
}
  where
    held : (who : ℕ) → IsHeldBy standings who
        → IsHeldBy (put standings client new_place new_stage) who
    held who holder = elim (cases_eq who client) [
      | inl is ↦
          let own : StandsAt standings client holder.0 holder.1 = subst (λ (one : ℕ). StandsAt standings one holder.0 holder.1) is holder.2 in (
            new_place,
            new_stage,
            subst (λ (one : ℕ). StandsAt (put standings client new_place new_stage) one new_place new_stage) (sym is) (put_same standings client new_place new_stage (stands_within standings client place stage at)),
            same ∙ ap holds_lock (one_stage standings client place holder.0 stage holder.1 at own) ∙ holder.3,
          )
      | inr differs ↦ (holder.0, holder.1, stays standings client new_place new_stage who holder.0 holder.1 differs holder.2, holder.3)
    ]

-- a client that takes the free lock
pub owner_taken : (standings : List Standing) (client : ℕ) (place new_place : Place)
    (stage new_stage : Stage (List Note)) → StandsAt standings client place stage
    → HasOneOwner standings None → holds_lock new_stage ≡ true
    → HasOneOwner (put standings client new_place new_stage) (Some client)
owner_taken standings client place new_place stage new_stage at lock holding = record {
  holds = λ who is. (
    new_place,
    new_stage,
    subst (λ (one : ℕ). StandsAt (put standings client new_place new_stage) one new_place new_stage) (same_Some client who is) (put_same standings client new_place new_stage (stands_within standings client place stage at)),
    holding,
  );
  only = λ who others_place others_stage stands holds. elim (came standings client new_place new_stage who others_place others_stage (stands_within standings client place stage at) stands) [
    | inl mover ↦ ap Some (sym mover.who)
    | inr other ↦ absurd (none-some who (lock.only who others_place others_stage other.stood holds))
  ];
}

-- a client that gives the lock back
pub owner_gone : (standings : List Standing) (owner : Option ℕ) (client : ℕ)
    (place new_place : Place) (stage new_stage : Stage (List Note)) → StandsAt standings client place stage
    → HasOneOwner standings owner → holds_lock stage ≡ true → holds_lock new_stage ≡ false
    → HasOneOwner (put standings client new_place new_stage) None
owner_gone standings owner client place new_place stage new_stage at lock held free = record {
  holds = λ who is. absurd (none-some who is);
  only = λ who others_place others_stage stands holds. elim (came standings client new_place new_stage who others_place others_stage (stands_within standings client place stage at) stands) [
    | inl mover ↦ absurd (true≢false (sym holds ∙ ap holds_lock mover.where_stage ∙ free))
    | inr other ↦ absurd (other.differs (same_Some who client (sym (lock.only who others_place others_stage other.stood holds) ∙ lock.only client place stage at held)))
  ];
}

-- ---- the places in the scripts

abbrev place_of : Standing → Place
place_of standing = standing.place

places_put : (standings : List Standing) (client : ℕ) (place : Place) (stage : Stage (List Note))
    → map place_of (put standings client place stage)
    ≡ slice_set (map place_of standings) client place
places_put [] client place stage = refl
places_put (first ∷ standings) zero place stage = refl
places_put (first ∷ standings) (suc client) place stage = ap (λ (more : List Place). first.place ∷ more) (places_put standings client place stage)

-- a client that moves at its place
places_kept : (standings : List Standing) (client : ℕ) (place : Place) (stage new_stage : Stage (List Note))
    → StandsAt standings client place stage
    → map place_of standings ≡ map place_of (put standings client place new_stage)
places_kept [] client place stage new_stage at = absurd (none-some (record { place = place; stage = stage }) at)
places_kept (first ∷ standings) zero place stage new_stage at = ap (λ (one : Place). one ∷ map place_of standings) (ap place_of (same_Some first (record { place = place; stage = stage }) at))
places_kept (first ∷ standings) (suc client) place stage new_stage at = ap (λ (more : List Place). first.place ∷ more) (places_kept standings client place stage new_stage at)

places_woken : (condition : ℕ) (standings : List Standing)
    → map place_of standings ≡ map place_of (wake_all condition standings)
places_woken condition [] = refl
places_woken condition (first ∷ standings) =
    λ i. by first (waits_on condition first.stage) i ∷ places_woken condition standings i
  where
    by : (one : Standing) (test : Bool) → one.place
        ≡ place_of (cond test (record { place = one.place; stage = Woken condition }) one)
    by one true = refl
    by one false = refl

pub place_there : (standings : List Standing) (client : ℕ) (place : Place) (stage : Stage (List Note))
    → StandsAt standings client place stage → slice_get (map place_of standings) client ≡ Some place
place_there [] client place stage at = absurd (none-some (record { place = place; stage = stage }) at)
place_there (first ∷ standings) zero place stage at = ap Some (ap place_of (same_Some first (record { place = place; stage = stage }) at))
place_there (first ∷ standings) (suc client) place stage at = place_there standings client place stage at

abbrev there : List Value → List Place → Situation
there state places = record { state = state; places = places }

-- ---- one client moves

abbrev pub moved : List Value → Option ℕ → List Commit → List Standing → ℕ → Place → Stage (List Note)
    → Configuration
moved state owner commits standings client place stage = record { state = state; owner = owner; commits = commits; standings = put standings client place stage }

-- what is kept where one client moves, from what its new place must meet
pub record MovesWell (system : System) (state : List Value) (owner : Option ℕ) (commits : List Commit) (standings : List Standing) (client : ℕ) (place : Place) (stage : Stage (List Note)) : Type 0 where
  pub run : IsRun system.monitor system.clients commits
      (situation_of (moved state owner commits standings client place stage))
  pub fits : FitsState system.monitor state
  pub is_place : FitsPlace system.monitor system.clients client place
  pub begun : has_begun stage ≡ true → place.past < length (calls_of system.clients client)
  pub lock : HasOneOwner (put standings client place stage) owner
  pub notes : (notes : List Note) → stage ≡ Notifying notes → AreToCome system commits client notes
  pub others : (other : ℕ) (others_place : Place) (notes : List Note) → (other ≡ client → ⊥)
      → StandsAt standings other others_place (Notifying notes)
      → AreToCome system commits other notes
  pub waits : (condition : ℕ) → condition_named stage ≡ Some condition
      → (condition ≡ waited_condition system client place)
      × (tries_at system.clients client place ≡ false)

pub moves_soundly : (system : System) (before : Configuration) (state : List Value)
    (owner : Option ℕ) (commits : List Commit) (client : ℕ) (place : Place) (stage : Stage (List Note))
    → IsSound system before → client < length before.standings
    → MovesWell system state owner commits before.standings client place stage
    → IsSound system (moved state owner commits before.standings client place stage)
moves_soundly system before state owner commits client place stage sound within well = record {
  run = well.run;
  fits = well.fits;
  one_each = put_length before.standings client place stage ∙ sound.one_each;
  places = λ other others_place others_stage at. elim (came before.standings client place stage other others_place others_stage within at) [
    | inl mover ↦
        subst (λ (who : ℕ). FitsPlace system.monitor system.clients who others_place) (sym mover.who)
        (subst (λ (one : Place). FitsPlace system.monitor system.clients client one) (sym mover.where_place) well.is_place)
    | inr stood ↦ sound.places other others_place others_stage stood.stood
  ];
  begun = λ other others_place others_stage at begins. elim (came before.standings client place stage other others_place others_stage within at) [
    | inl mover ↦
        subst (λ (who : ℕ). others_place.past < length (calls_of system.clients who)) (sym mover.who)
        (subst (λ (one : Place). one.past < length (calls_of system.clients client)) (sym mover.where_place) (well.begun (ap has_begun (sym mover.where_stage) ∙ begins)))
    | inr stood ↦ sound.begun other others_place others_stage stood.stood begins
  ];
  lock = well.lock;
  notes = λ other others_place notes at. elim (came before.standings client place stage other others_place (Notifying notes) within at) [
    | inl mover ↦ subst (λ (who : ℕ). AreToCome system commits who notes) (sym mover.who) (well.notes notes (sym mover.where_stage))
    | inr stood ↦ well.others other others_place notes stood.differs stood.stood
  ];
  waits = λ other others_place others_stage condition at named. elim (came before.standings client place stage other others_place others_stage within at) [
    | inl mover ↦
        subst (λ (who : ℕ). (condition ≡ waited_condition system who others_place) × (tries_at system.clients who others_place ≡ false)) (sym mover.who)
        (subst (λ (one : Place). (condition ≡ waited_condition system client one) × (tries_at system.clients client one ≡ false)) (sym mover.where_place)
        (well.waits condition (ap condition_named (sym mover.where_stage) ∙ named)))
    | inr stood ↦ sound.waits other others_place others_stage condition stood.stood named
  ];
}

-- a client moves at its place, and the state and the commits stay
pub moves_here : (system : System) (before : Configuration) (owner : Option ℕ) (client : ℕ)
    (place : Place) (stage new_stage : Stage (List Note)) → IsSound system before
    → StandsAt before.standings client place stage
    → (has_begun new_stage ≡ true → place.past < length (calls_of system.clients client))
    → HasOneOwner (put before.standings client place new_stage) owner
    → ((notes : List Note) → new_stage ≡ Notifying notes
    → AreToCome system before.commits client notes)
    → ((condition : ℕ) → condition_named new_stage ≡ Some condition
    → (condition ≡ waited_condition system client place)
    × (tries_at system.clients client place ≡ false))
    → IsSound system (moved before.state owner before.commits before.standings client place
    new_stage)
moves_here system before owner client place stage new_stage sound at begins lock notes waits =
    moves_soundly system before before.state owner before.commits client place new_stage sound (stands_within before.standings client place stage at) (record {
      run = subst (λ (places : List Place). IsRun system.monitor system.clients before.commits (there before.state places)) (places_kept before.standings client place stage new_stage at) sound.run;
      fits = sound.fits;
      is_place = sound.places client place stage at;
      begun = begins;
      lock = lock;
      notes = notes;
      others = λ other others_place some differs stands. sound.notes other others_place some stands;
      waits = waits;
    })

-- ---- the events

pub begins_soundly : (system : System) (client : ℕ) (place : Place) (before next : Configuration)
    → IsSound system before → Begins system client place before next → IsSound system next
begins_soundly system client place before next sound event =
    subst (IsSound system) (sym event.becomes)
    (moves_here system before before.owner client place Idle Entering sound event.idle
    (λ begins. event.left)
    (owner_kept before.standings before.owner client place place Idle Entering event.idle sound.lock refl)
    (λ notes is. absurd (cc is))
    (λ condition named. absurd (none-some condition named)))

locks_from : (system : System) (client : ℕ) (place : Place) (stage : Stage (List Note)) (before : Configuration)
    → IsSound system before → before.owner ≡ None
    → StandsAt before.standings client place stage → has_begun stage ≡ true
    → IsSound system (moved before.state
    (Some client) before.commits before.standings client place Inside)
locks_from system client place stage before sound free at begins =
    moves_here system before (Some client) client place stage Inside sound at
    (λ inside. sound.begun client place stage at begins)
    (owner_taken before.standings client place place stage Inside at (subst (HasOneOwner before.standings) free sound.lock) refl)
    (λ notes is. absurd (cc is))
    (λ condition named. absurd (none-some condition named))

pub locks_soundly : (system : System) (client : ℕ) (place : Place) (before next : Configuration)
    → IsSound system before → Locks client place before next → IsSound system next
locks_soundly system client place before next sound event =
    subst (IsSound system) (sym event.becomes) (elim event.wants [
      | inl entering ↦ locks_from system client place Entering before sound event.free entering refl
      | inr woken ↦ locks_from system client place (Woken woken.0) before sound event.free woken.1 refl
    ])

pub waits_soundly : (system : System) (client : ℕ) (place : Place) (before next : Configuration)
    → IsSound system before → Waits system client place before next → IsSound system next
waits_soundly system client place before next sound event =
    let condition = waited_condition system client place in
    subst (IsSound system) (sym event.becomes)
    (moves_here system before None client place Inside (Waiting condition) sound event.inside
    (λ begins. sound.begun client place Inside event.inside refl)
    (owner_gone before.standings before.owner client place place Inside (Waiting condition) event.inside sound.lock refl refl)
    (λ notes is. absurd (cc is))
    (λ named is. (sym (same_Some condition named is), event.patient)))

pub unlocks_soundly : (system : System) (client : ℕ) (place : Place) (before next : Configuration)
    → IsSound system before → Unlocks client place before next → IsSound system next
unlocks_soundly system client place before next sound event =
    subst (IsSound system) (sym event.becomes)
    (moves_here system before None client place (Notifying []) Idle sound event.notifying
    (λ begins. absurd (true≢false (sym begins)))
    (owner_gone before.standings before.owner client place place (Notifying []) Idle event.notifying sound.lock refl refl)
    (λ notes is. absurd (cc is))
    (λ condition named. absurd (none-some condition named)))

-- one that waits is woken, by a signal or by nothing
pub wakes_soundly : (system : System) (client : ℕ) (place : Place) (condition : ℕ)
    (before : Configuration) → IsSound system before
    → StandsAt before.standings client place (Waiting condition)
    → IsSound system (moved before.state before.owner before.commits before.standings client place
    (Woken condition))
wakes_soundly system client place condition before sound waits =
    moves_here system before before.owner client place (Waiting condition) (Woken condition) sound waits
    (λ begins. sound.begun client place (Waiting condition) waits refl)
    (owner_kept before.standings before.owner client place place (Waiting condition) (Woken condition) waits sound.lock refl)
    (λ notes is. absurd (cc is))
    (λ named is. sound.waits client place (Waiting condition) named waits is)

-- ---- all that wait on a condition are woken

pub holding_waits_not : (condition : ℕ) (stage : Stage (List Note)) → holds_lock stage ≡ true
    → waits_on condition stage ≡ false
holding_waits_not condition Idle holds = refl
holding_waits_not condition Entering holds = refl
holding_waits_not condition (Waiting other) holds = absurd (true≢false (sym holds))
holding_waits_not condition (Woken other) holds = refl
holding_waits_not condition Inside holds = refl
holding_waits_not condition (Notifying notes) holds = refl

abbrev pub all_woken : ℕ → Configuration → Configuration
all_woken condition c = record { state = c.state; owner = c.owner; commits = c.commits; standings = wake_all condition c.standings }

pub wakes_all_soundly : (system : System) (condition : ℕ) (before : Configuration)
    → IsSound system before → IsSound system (all_woken condition before)
wakes_all_soundly system condition before sound = record {
  run = subst (λ (places : List Place). IsRun system.monitor system.clients before.commits (there before.state places)) (places_woken condition before.standings) sound.run;
  fits = sound.fits;
  one_each = woken_length before.standings condition ∙ sound.one_each;
  places = λ client place stage at. elim (woken_from before.standings condition client place stage at) [
    | inl stayed ↦ sound.places client place stage stayed.0
    | inr woken ↦ sound.places client place (Waiting condition) woken.0
  ];
  begun = λ client place stage at begins. elim (woken_from before.standings condition client place stage at) [
    | inl stayed ↦ sound.begun client place stage stayed.0 begins
    | inr woken ↦ sound.begun client place (Waiting condition) woken.0 refl
  ];
  lock = record {
    holds = λ who is.
        let holder = sound.lock.holds who is in
        (holder.0, holder.1, unwoken_stays before.standings condition who holder.0 holder.1 holder.2 (holding_waits_not condition holder.1 holder.3), holder.3);
    only = λ client place stage at holds. elim (woken_from before.standings condition client place stage at) [
      | inl stayed ↦ sound.lock.only client place stage stayed.0 holds
      | inr woken ↦ absurd (true≢false (sym holds ∙ ap holds_lock woken.1))
    ];
  };
  notes = λ client place notes at. elim (woken_from before.standings condition client place (Notifying notes) at) [
    | inl stayed ↦ sound.notes client place notes stayed.0
    | inr woken ↦ absurd (cc woken.1)
  ];
  waits = λ client place stage named at is. elim (woken_from before.standings condition client place stage at) [
    | inl stayed ↦ sound.waits client place stage named stayed.0 is
    | inr woken ↦ sound.waits client place (Waiting condition) named woken.0 (sym (ap condition_named woken.1) ∙ is)
  ];
}

-- ---- a note is taken off

rest_suffix : (note : Note) (more whole : List Note) → IsSuffix (note ∷ more) whole
    → IsSuffix more whole
rest_suffix note more whole suffix = (suffix.0 ++ note ∷ [], append_assoc suffix.0 (note ∷ []) more ∙ suffix.1)

rest_to_come : (system : System) (commits : List Commit) (client : ℕ) (note : Note)
    (more : List Note) → AreToCome system commits client (note ∷ more)
    → AreToCome system commits client more
rest_to_come system commits client note more come = record {
  earlier = come.earlier;
  block = come.block;
  commit = come.commit;
  last = come.last;
  own = come.own;
  named = come.named;
  rest = rest_suffix note more (notes_after system come.block come.commit.reply) come.rest;
}

pub takes_soundly : (system : System) (client : ℕ) (place : Place) (note : Note) (more : List Note)
    (before : Configuration) → IsSound system before
    → StandsAt before.standings client place (Notifying (note ∷ more))
    → IsSound system (moved before.state before.owner before.commits before.standings client place
    (Notifying more))
takes_soundly system client place note more before sound at =
    moves_here system before before.owner client place (Notifying (note ∷ more)) (Notifying more) sound at
    (λ begins. absurd (true≢false (sym begins)))
    (owner_kept before.standings before.owner client place place (Notifying (note ∷ more)) (Notifying more) at sound.lock refl)
    (λ notes is. subst (AreToCome system before.commits client) (cc is) (rest_to_come system before.commits client note more (sound.notes client place (note ∷ more) at)))
    (λ condition named. absurd (none-some condition named))

-- ---- a step

-- what the step of a client did: all of its block's body, with the block's notes to come, or
-- nothing, with what comes after an overflow to come, or nothing at all
pub data Did (system : System) (client : ℕ) (place : Place) (call : Call) (block : Block) (state : List Value) (reply : Reply) (next locals : List Value) : Type 0 where
  ran : guard_of system state client place ≡ true
      → next ≡ (after (inputs_at call place) block.body state).state
      → locals ≡ (after (inputs_at call place) block.body state).locals
      → notes_after system (block_at system.monitor call place) reply
      ≡ notes_at system.plan (block_at system.monitor call place)
      → Did system client place call block state reply next locals
  overflowed : guard_of system state client place ≡ true → next ≡ state → locals ≡ place.locals
      → notes_after system (block_at system.monitor call place) reply
      ≡ own_notes system (block_at system.monitor call place)
      → Did system client place call block state reply next locals
  refused : guard_of system state client place ≡ false → next ≡ state → locals ≡ place.locals
      → notes_after system (block_at system.monitor call place) reply ≡ []
      → Did system client place call block state reply next locals

notes_plain : (system : System) (block : ℕ) (answer : Option Value)
    → notes_after system block (reply_of answer) ≡ notes_at system.plan block
notes_plain system block None = refl
notes_plain system block (Some (values.Int number)) = refl
notes_plain system block (Some (values.Bool truth)) = refl

pub did : (system : System) (client : ℕ) (place : Place) (call : Call) (block : Block)
    (state : List Value) (reply : Reply) (memory : Memory) (next : List Value)
    → Faces system client place call block
    → IsCallStep system.monitor call place state reply memory → next ≡ memory.state
    → Did system client place call block state reply next memory.locals
did system client place call block state reply memory next faced (inl step) is =
    let inputs = inputs_at call place in
    let number = block_at system.monitor call place in
    let guard : guard_of system state client place ≡ true =
    ap (λ (one : Option Call). option_map_or (λ call. guard_truth system.monitor state (block_at system.monitor call place) (inputs_at call place)) one false) faced.call_is ∙ step.guard in
    let runs : BlockSteps block inputs state reply memory = subst (λ (one : Option Block). IsSomeAnd one (λ which. BlockSteps which inputs state reply memory)) faced.block_is step.runs in
    elim runs [
      | inl all ↦ ran guard (is ∙ ap (λ (m : Memory). m.state) all.2) (ap (λ (m : Memory). m.locals) all.2) (ap (notes_after system number) all.1 ∙ notes_plain system number (block_result inputs block state))
      | inr over ↦ overflowed guard (is ∙ ap (λ (m : Memory). m.state) over.2) (ap (λ (m : Memory). m.locals) over.2) (ap (notes_after system number) over.1)
    ]
did system client place call block state reply memory next faced (inr refusal) is =
    let guard : guard_of system state client place ≡ false =
    ap (λ (one : Option Call). option_map_or (λ call. guard_truth system.monitor state (block_at system.monitor call place) (inputs_at call place)) one false) faced.call_is ∙ refusal.guard in
    refused guard (is ∙ ap (λ (m : Memory). m.state) refusal.stays) (ap (λ (m : Memory). m.locals) refusal.stays) (ap (notes_after system (block_at system.monitor call place)) refusal.reply_is)

-- ---- a step is a step of the run

pub steps_soundly : (system : System) (client : ℕ) (place goes : Place) (reply : Reply)
    (state : List Value) (before next : Configuration) → IsMonitor system.monitor
    → FitsScripts system.monitor system.clients
    → IsSound system before → StepsInside system client place goes reply state before next
    → IsSound system next
steps_soundly system client place goes reply state before next rule scripts sound event =
    let monitor = system.monitor in
    let step = event.step in
    let fit = step_fits monitor system.clients client place goes before.state state reply rule scripts sound.fits (sound.places client place Inside event.inside) step in
    let notes = notes_after system (block_at monitor step.call place) reply in
    let commit = commit_at client place reply in
    let follows : IsNextCommit monitor system.clients (situation_of before) commit (situation_of (moved state before.owner (before.commits ++ commit ∷ []) before.standings client goes (Notifying notes))) = record {
      place = place;
      at = place_there before.standings client place Inside event.inside;
      call = refl;
      block = refl;
      state = state;
      goes = goes;
      step = step;
      becomes = ap (there state) (places_put before.standings client goes (Notifying notes));
    } in
    subst (IsSound system) (sym event.becomes)
    (moves_soundly system before state before.owner (before.commits ++ commit ∷ []) client goes (Notifying notes) sound (stands_within before.standings client place Inside event.inside) (record {
      run = stepped before.commits (situation_of before) commit _ sound.run tt follows;
      fits = fit.state_fits;
      is_place = fit.place_fits;
      begun = λ begins. absurd (true≢false (sym begins));
      lock = owner_kept before.standings before.owner client place goes Inside (Notifying notes) event.inside sound.lock refl;
      notes = λ some is. record {
        earlier = before.commits;
        block = block_at monitor step.call place;
        commit = commit;
        last = refl;
        own = refl;
        named = record { place = place; call = step.call; at = step.at; is = refl; numbered = refl };
        rest = subst (λ (these : List Note). IsSuffix these notes) (cc is) ([], refl);
      };
      others = λ other others_place some differs stands.
          absurd (differs (same_Some other client (sym (sound.lock.only other others_place (Notifying some) stands refl) ∙ sound.lock.only client place Inside event.inside refl)));
      waits = λ condition named. absurd (none-some condition named);
    }))

-- ---- any event

-- the configuration in which those that the note wakes are woken
pub target_apart : (standings : List Standing) (client : ℕ) (place : Place) (target : ℕ)
    (target_place : Place) (condition : ℕ) (notes : List Note)
    → StandsAt standings client place (Notifying notes)
    → StandsAt standings target target_place (Waiting condition)
    → StandsAt (put standings target target_place (Woken condition)) client place (Notifying notes)
target_apart standings client place target target_place condition notes at waits =
    stays standings target target_place (Woken condition) client place (Notifying notes)
    (apart standings target target_place client place (Waiting condition) (Notifying notes) waits at (λ is. cc is)) at

-- the note is taken off, where clients stand as it left them
taken_off : (system : System) (client : ℕ) (place : Place) (note : Note) (more : List Note)
    (before : Configuration) (woken standings : List Standing) → woken ≡ standings
    → IsSound system (record before { standings = standings })
    → StandsAt standings client place (Notifying (note ∷ more))
    → IsSound system (record before { standings = put woken client place (Notifying more) })
taken_off system client place note more before woken standings is sound at =
    subst (λ (one : List Standing). IsSound system (record before { standings = put one client place (Notifying more) })) (sym is)
    (takes_soundly system client place note more (record before { standings = standings }) sound at)

wakes_then : (system : System) (client : ℕ) (place : Place) (note : Note) (more : List Note)
    (target : Option ℕ) (before : Configuration) (woken : List Standing) → IsSound system before
    → StandsAt before.standings client place (Notifying (note ∷ more))
    → Wakes system before note target woken
    → IsSound system (record before { standings = put woken client place (Notifying more) })
wakes_then system client place note more None before woken sound at (inl each) =
    taken_off system client place note more before woken (wake_all note.condition before.standings) each.becomes
    (wakes_all_soundly system note.condition before sound) (unwoken_stays before.standings note.condition client place (Notifying (note ∷ more)) at refl)
wakes_then system client place note more None before woken sound at (inr nobody) =
    taken_off system client place note more before woken before.standings nobody.becomes sound at
wakes_then system client place note more (Some target) before woken sound at (target_place, one) =
    taken_off system client place note more before woken (put before.standings target target_place (Woken note.condition)) one.becomes
    (wakes_soundly system target target_place note.condition before sound one.waits)
    (target_apart before.standings client place target target_place note.condition (note ∷ more) at one.waits)

pub notifies_soundly : (system : System) (client : ℕ) (place : Place) (target : Option ℕ)
    (before next : Configuration) → IsSound system before
    → Notifies system client place target before next → IsSound system next
notifies_soundly system client place target before next sound event =
    subst (IsSound system) (sym event.becomes) (wakes_then system client place event.note event.more target before event.woken sound event.notifying event.wakes)

pub event_keeps_sound : (system : System) → IsMonitor system.monitor
    → FitsScripts system.monitor system.clients → (event : Event) (before next : Configuration)
    → IsSound system before → IsEvent system event before next → IsSound system next
event_keeps_sound system rule scripts (events.Begin client) before next sound happens = begins_soundly system client happens.0 before next sound happens.1
event_keeps_sound system rule scripts (events.Lock client) before next sound happens = locks_soundly system client happens.0 before next sound happens.1
event_keeps_sound system rule scripts (events.Wait client) before next sound happens = elim happens.1 [
  | inl waits ↦ waits_soundly system client happens.0 before next sound waits
  | inr refuses ↦ steps_soundly system client happens.0 refuses.0 refuses.1 refuses.2 before next rule scripts sound refuses.3.steps
]
event_keeps_sound system rule scripts (events.Run client) before next sound happens = steps_soundly system client happens.0 happens.1 happens.2 happens.3 before next rule scripts sound happens.4.steps
event_keeps_sound system rule scripts (events.Notify client target) before next sound happens = notifies_soundly system client happens.0 target before next sound happens.1
event_keeps_sound system rule scripts (events.Unlock client) before next sound happens = unlocks_soundly system client happens.0 before next sound happens.1
event_keeps_sound system rule scripts (events.Spurious client) before next sound happens =
    subst (IsSound system) (sym happens.2.becomes) (wakes_soundly system client happens.0 happens.1 before sound happens.2.waits)

-- ---- the start

pub some_idle : (places : List Place) (client : ℕ) (place : Place) (stage : Stage (List Note))
    → StandsAt (map idle_at places) client place stage
    → (slice_get places client ≡ Some place) × (stage ≡ Idle)
some_idle [] client place stage at = absurd (none-some (record { place = place; stage = stage }) at)
some_idle (first ∷ places) zero place stage at = (ap Some (same_place first place Idle stage at), sym (same_stage first place Idle stage at))
some_idle (first ∷ places) (suc client) place stage at = some_idle places client place stage at

places_idle : (places : List Place) → places ≡ map place_of (map idle_at places)
places_idle [] = refl
places_idle (first ∷ places) = ap (λ (more : List Place). first ∷ more) (places_idle places)

first_length : (monitor : MonitorParts) (clients more : List Client) (number : ℕ)
    → length (first_places monitor clients number more) ≡ length more
first_length monitor clients [] number = refl
first_length monitor clients (first ∷ more) number = omega (arith, first_length monitor clients more (number + 1))

pub start_is_sound : (system : System) → IsMonitor system.monitor
    → FitsScripts system.monitor system.clients → IsSound system (initial system)
start_is_sound system rule scripts =
    let places = first_places system.monitor system.clients 0 system.clients in
    record {
      run = subst (λ (some : List Place). IsRun system.monitor system.clients [] (there (start_of system.monitor) some)) (places_idle places) begun;
      fits = start_state_fits system.monitor (start_of system.monitor) rule refl;
      one_each = length-map places idle_at ∙ first_length system.monitor system.clients system.clients 0;
      places = λ client place stage at.
          subst (FitsPlace system.monitor system.clients client) (sym (first_is system.monitor system.clients client place (some_idle places client place stage at).0))
          (first_fits system.monitor system.clients client 0 rule scripts);
      begun = λ client place stage at begins. absurd (true≢false (sym begins ∙ ap has_begun (some_idle places client place stage at).1));
      lock = record {
        holds = λ client is. absurd (none-some client is);
        only = λ client place stage at holds. absurd (true≢false (sym holds ∙ ap holds_lock (some_idle places client place stage at).1));
      };
      notes = λ client place notes at. absurd (cc (some_idle places client place (Notifying notes) at).1);
      waits = λ client place stage condition at named. absurd (none-some condition (sym (ap condition_named (some_idle places client place stage at).1) ∙ named));
    }
