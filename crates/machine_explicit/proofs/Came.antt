-- Where the other clients stood before the events of one client.
use Rattle.std.proofs.Common.{◌≡◌, ◌⊎◌, ℕ, List, Option, Some, None, sym, ap, subst, ◌∙◌, inl, inr}
use Rattle.machine_events.specs.declared.plan.Note.{Note}
use Rattle.machine_events.specs.declared.log.Entry.{Entry}
use Rattle.machine_events.specs.declared.event.Stage.{Stage}
use Rattle.machine_events.specs.Configurations.{System, Standing}
use Rattle.machine_events.specs.Configurations.{Configuration, StandsAt, put}
use Rattle.machine_events.specs.declared.event.Stage.TheVariants.{Idle, Entering, Waiting, Woken, Inside, Notifying}
use Rattle.machine_events.specs.Events.{Locks, Wakes}
use Rattle.machine_events.specs.Logs.{IsNotified, IsBegun}
use Rattle.machine_events.specs.Logs.IsNotified.{all_made, one_made}
use Rattle.machine_events.proofs.Standings.{put_other, came, woken_from, stands_within}
use Rattle.machine_implicit.specs.declared.place.Place.{Place}

-- each other client stood where it stands, or waited on the condition on which it is woken
abbrev pub CameFrom : ℕ → List Standing → List Standing → Type 0
CameFrom client before next = (other : ℕ) (place : Place) (stage : Stage (List Note)) → (other ≡ client → ⊥) → StandsAt next other place stage
    → StandsAt before other place stage ⊎ ((condition : ℕ) × StandsAt before other place (Waiting condition) × (stage ≡ Woken condition))

pub came_trans : (client : ℕ) (first second third : List Standing) → CameFrom client first second → CameFrom client second third → CameFrom client first third
came_trans client first second third one two = λ other place stage differs at. elim (two other place stage differs at) [
  | inl stood ↦ one other place stage differs stood
  | inr woken ↦ elim (one other place (Waiting woken.0) differs woken.1) [
    | inl stood ↦ inr (woken.0, stood, woken.2)
    | inr again ↦ absurd (waiting_woken woken.0 again.0 again.2)
  ]
]
  where
    waiting_woken : (condition another : ℕ) → ◌≡◌ {A = Stage (List Note)} (Waiting condition) (Woken another) → ⊥
    waiting_woken condition another is = cc is

pub came_put : (client : ℕ) (place : Place) (stage : Stage (List Note)) (standings next : List Standing) → next ≡ put standings client place stage → CameFrom client standings next
came_put client place stage standings next is = λ other others_place others_stage differs at.
    inl (sym (put_other standings client place stage other differs) ∙ subst (λ (some : List Standing). StandsAt some other others_place others_stage) is at)

came_wakes : (system : System) (client : ℕ) (c : Configuration) (note : Note) (target : Option ℕ) (woken : List Standing) → Wakes system c note target woken → CameFrom client c.standings woken
came_wakes system client c note None woken (inl each) = λ other place stage differs at.
    elim (woken_from c.standings note.condition other place stage (subst (λ (some : List Standing). StandsAt some other place stage) each.becomes at)) [
      | inl stood ↦ inl stood.0
      | inr waiting ↦ inr (note.condition, waiting.0, waiting.1)
    ]
came_wakes system client c note None woken (inr nobody) = λ other place stage differs at. inl (subst (λ (some : List Standing). StandsAt some other place stage) nobody.becomes at)
came_wakes system client c note (Some target) woken (target_place, one) = λ other place stage differs at.
    elim (came c.standings target target_place (Woken note.condition) other place stage (stands_within c.standings target target_place (Waiting note.condition) one.waits)
    (subst (λ (some : List Standing). StandsAt some other place stage) one.becomes at)) [
      | inl mover ↦ inr (
        note.condition,
        subst (λ (who : ℕ). StandsAt c.standings who place (Waiting note.condition)) (sym mover.who) (subst (λ (at_place : Place). StandsAt c.standings target at_place (Waiting note.condition)) (sym mover.where_place) one.waits),
        mover.where_stage,
      )
      | inr stays ↦ inl stays.stood
    ]

pub came_notified : (system : System) (log : List Entry) (client : ℕ) (c last : Configuration) → IsNotified system log client c last → CameFrom client c.standings last.standings
came_notified system log client c last (all_made own place at) = λ other others_place stage differs stands. inl stands
came_notified system log client c last (one_made own next end target chosen happens more) =
    let notifies = happens.1 in
    let place = happens.0 in
    came_trans client own.standings next.standings end.standings
    (came_trans client own.standings notifies.woken next.standings (came_wakes system client own notifies.note target notifies.woken notifies.wakes)
    (came_put client place (Notifying notifies.more) notifies.woken next.standings (ap (λ (some : Configuration). some.standings) notifies.becomes)))
    (came_notified system log client next end more)

came_begun : (system : System) (client : ℕ) (place : Place) (before begun : Configuration) → IsBegun system client place before begun → CameFrom client before.standings begun.standings
came_begun system client place before begun (inl begins) = came_put client place Entering before.standings begun.standings (ap (λ (some : Configuration). some.standings) begins.becomes)
came_begun system client place before begun (inr stays) = λ other others_place stage differs at. inl (subst (λ (some : Configuration). StandsAt some.standings other others_place stage) stays.1 at)

came_locked : (system : System) (client : ℕ) (place : Place) (before begun locked : Configuration) → IsBegun system client place before begun → Locks client place begun locked → CameFrom client before.standings locked.standings
came_locked system client place before begun locked begins locks =
    came_trans client before.standings begun.standings locked.standings (came_begun system client place before begun begins)
    (came_put client place Inside begun.standings locked.standings (ap (λ (some : Configuration). some.standings) locks.becomes))

-- from the start of a section to its end
pub came_waited : (system : System) (client : ℕ) (place : Place) (condition : ℕ) (before begun locked next : Configuration) → IsBegun system client place before begun → Locks client place begun locked
    → next.standings ≡ put locked.standings client place (Waiting condition) → CameFrom client before.standings next.standings
came_waited system client place condition before begun locked next begins locks is =
    came_trans client before.standings locked.standings next.standings (came_locked system client place before begun locked begins locks)
    (came_put client place (Waiting condition) locked.standings next.standings is)

-- from the start of a section to the step of its client
pub came_stepped : (system : System) (client : ℕ) (place goes : Place) (notes : List Note) (before begun locked ran : Configuration) → IsBegun system client place before begun → Locks client place begun locked
    → ran.standings ≡ put locked.standings client goes (Notifying notes) → CameFrom client before.standings ran.standings
came_stepped system client place goes notes before begun locked ran begins locks is =
    came_trans client before.standings locked.standings ran.standings (came_locked system client place before begun locked begins locks)
    (came_put client goes (Notifying notes) locked.standings ran.standings is)
