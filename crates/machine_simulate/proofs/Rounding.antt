-- A schedule by rounds, one section longer.
use Rattle.std.proofs.Common.{◌≡◌, ℕ, ◌+◌, ◌-◌, ◌*◌, ◌<◌, Bool, false, cond, List, [], ◌∷◌, ◌++◌, length, refl, ap, ap₂, ◌∙◌, append_assoc, length-append, arith}
use Rattle.std.proofs.lemmas.Grind.{common_steps}
use Rattle.machine_implicit.specs.Scripted.{all_blocks}
use Rattle.machine_events.specs.declared.log.Entry.{Entry}
use Rattle.machine_events.specs.Configurations.{System, Configuration}
use Rattle.machine_events.specs.Logs.{IsSection, IsClosed, is_spurious_entry}
use Rattle.machine_events.specs.Logs.IsSection.{waited, refused, replied}
use Rattle.machine_explicit.specs.Sections.{FreeMachine, AddsEntry, HoldsAlways}
use Rattle.machine_explicit.specs.Sections.{spurious_in, room_of}
use Rattle.machine_simulate.specs.Schedules.{Acts, Extends, IsNextReady, IsByRounds}
use Rattle.machine_simulate.specs.Schedules.IsByRounds.{ended, acted}
use Rattle.machine_simulate.specs.inner.Turns.{RoundsSoFar}
use Rattle.machine_simulate.proofs.Closing.{none_ready_where_closed}

-- ---- one entry more

pub extends_itself : (machine : FreeMachine) → Extends machine machine
extends_itself machine = record { entries = ([], grind (arith, common_steps)); system = refl; extra = refl }

pub extends_more : (before now next : FreeMachine) (entry : Entry) → Extends before now → AddsEntry now entry next → Extends before next
extends_more before now next entry so_far more = record {
  entries = (so_far.entries.0 ++ entry ∷ [], more.log ∙ ap (λ (log : List Entry). log ++ entry ∷ []) so_far.entries.1 ∙ append_assoc before.log so_far.entries.0 (entry ∷ []));
  system = more.system ∙ so_far.system;
  extra = more.extra ∙ so_far.extra;
}

pub section_not_spurious : (system : System) (log : List Entry) (before : Configuration) (entry : Entry) (next : Configuration) → IsSection system log before entry next → is_spurious_entry entry ≡ false
section_not_spurious system log before entry next (waited client place begun locked last free begins locks waits) = refl
section_not_spurious system log before entry next (refused client place goes reply state begun locked ran last free begins locks refuses unlocks) = refl
section_not_spurious system log before entry next (replied client place goes bits reply state begun locked ran notified last free begins locks runs notes unlocks are) = refl

pub spurious_more : (log : List Entry) (entry : Entry) → spurious_in (log ++ entry ∷ []) ≡ spurious_in log + cond (is_spurious_entry entry) 1 0
spurious_more log entry = grind (arith, common_steps)

abbrev count_one : Bool → ℕ
count_one is = cond is 1 0

pub section_spurious : (client : ℕ) (now next : FreeMachine) → Acts client now next → spurious_in next.log ≡ spurious_in now.log
section_spurious client now next (section, made) =
    let isnt = section_not_spurious now.system now.log now.now section.entry next.now made.made in
    let more = spurious_more now.log section.entry in
    let none = ap count_one isnt in
    omega (arith, ap (λ (log : List Entry). spurious_in log) made.appends.log, more, none)

pub same_room : (before next : FreeMachine) (entry : Entry) → AddsEntry before entry next → room_of next ≡ room_of before
same_room before next entry more = ap₂ (λ (system : System) (extra : ℕ). all_blocks system.monitor system.clients * length system.clients + 2 * extra) more.system more.extra

-- the room that is left falls
pub room_falls : (now next : FreeMachine) (entry : Entry) → AddsEntry now entry next → HoldsAlways next → room_of next - length next.log < room_of now - length now.log
room_falls now next entry more always =
    omega (arith, same_room now next entry more, always.rule.bounded, ap (λ (log : List Entry). length log) more.log, length-append now.log (entry ∷ []))

-- ---- rounds

pub rounds_begin : (machine : FreeMachine) → RoundsSoFar 0 machine machine
rounds_begin machine = record { follows = λ last rest. rest; extends = extends_itself machine; spurious = refl; within = omega arith }

pub rounds_more : (asked client : ℕ) (before now next : FreeMachine) → RoundsSoFar asked before now → IsNextReady asked now client → Acts client now next → RoundsSoFar (client + 1) before next
rounds_more asked client before now next so_far actor acts = record {
  follows = λ last rest. so_far.follows last (acted asked client now next last actor acts rest);
  extends = extends_more before now next acts.0.entry so_far.extends acts.1.appends;
  spurious = section_spurious client now next acts ∙ so_far.spurious;
  within = omega (arith, actor.is, ap (λ (system : System). length system.clients) acts.1.appends.system);
}

pub rounds_end : (asked : ℕ) (before now : FreeMachine) → RoundsSoFar asked before now → IsClosed now.system now.now → IsByRounds 0 before now
rounds_end asked before now so_far closed = so_far.follows now (ended asked now (none_ready_where_closed now closed))
