-- A section, from the events of its client.
use Rattle.std.proofs.Common.{◌≡◌, ℕ, ◌+◌, ◌<◌, List, [], ◌∷◌, ◌++◌, length, set, Option, IsSomeAnd, refl, sym, ap, subst, ◌∙◌, arith, inl, inr}
use Rattle.std.specs.Prelude.{slice_get}
use Rattle.std.proofs.lemmas.Bool.{cases_eq}
use Rattle.lang_base.specs.declared.value.Value.{Value}
use Rattle.machine_implicit.specs.declared.commit.Reply.{Reply}
use Rattle.machine_implicit.specs.declared.commit.Reply.TheVariants as replies
use Rattle.machine_implicit.specs.Places.{block_at}
use Rattle.machine_events.specs.declared.event.Event.TheVariants as events
use Rattle.machine_events.specs.declared.log.Entry.{Entry}
use Rattle.machine_events.specs.declared.log.Outcome.{Outcome}
use Rattle.machine_events.specs.declared.log.Outcome.TheVariants as outcomes
use Rattle.machine_events.specs.declared.plan.Note.{Note}
use Rattle.machine_events.specs.declared.event.Stage.{Stage}
use Rattle.machine_events.specs.Configurations.{System, Standing, Configuration, StandsAt, put, waited_condition}
use Rattle.machine_events.specs.declared.event.Stage.TheVariants.{Idle, Entering, Waiting, Woken, Inside, Notifying}
use Rattle.machine_events.specs.Events.{Locks, Waits, StepsInside, Runs}
use Rattle.machine_events.specs.Events.{Refuses, Unlocks, notes_after}
use Rattle.machine_events.specs.Logs.{IsNotified, IsBegun, IsSection, entry_at}
use Rattle.machine_events.specs.Logs.IsSection.{waited, refused, replied}
use Rattle.machine_events.proofs.Standings.{put_same, put_length, one_place}
use Rattle.machine_events.proofs.Standings.{one_stage, stands_within}
use Rattle.machine_explicit.specs.Machines.{Machine, Happened}
use Rattle.machine_explicit.specs.inner.Waiting.{IsSettled, NoneEnters, Started, KeepsWaits, AreBits, WasWoken, WokeThese, HasReplied, HasGivenUp, HasWaited, WasRefused, CanUnlock, WentOn, MakesSection, IsNotifying, HasRun, MadeNotes, MadeNotesOf, MakesSectionOf, WaitsOn, WentOnOf}
use Rattle.machine_explicit.specs.inner.Rings.{line_of, AreLines, HaveLines, LinesAfter}
use Rattle.machine_explicit.proofs.Came.{CameFrom, came_waited, came_stepped, came_trans, came_put, came_notified}
use Rattle.machine_explicit.proofs.Waking.{idle_is_calm, notifying_is_calm, woke_put, woken_since}
use Rattle.machine_explicit.proofs.Lining.{WaitsAfter, Anyone, IsQuiet, idle_is_quiet, entering_is_quiet, woken_is_quiet, inside_is_quiet, notifying_is_quiet, same_waiting, nobody_left, quiet_put, lines_kept, lines_joined, line_is_short}
use Rattle.machine_implicit.specs.declared.place.Place.{Place}

abbrev standings_of : Configuration → List Standing
standings_of c = c.standings

-- ---- the section

inside_at : (client : ℕ) (place : Place) (begun locked : Configuration) → Locks client place begun locked → StandsAt locked.standings client place Inside
inside_at client place begun locked locks =
    subst (λ (c : Configuration). StandsAt c.standings client place Inside) (sym locks.becomes) (put_same begun.standings client place Inside within)
  where
    within : client < length begun.standings
    within = elim locks.wants [
      | inl entering ↦ stands_within begun.standings client place Entering entering
      | inr woken ↦ stands_within begun.standings client place (Woken woken.0) woken.1
    ]

pub place_read : (standings : List Standing) (client : ℕ) (place at : Place) (stage : Stage (List Note)) → StandsAt standings client place stage → IsSomeAnd (slice_get standings client) (λ standing. at ≡ standing.place) → place ≡ at
place_read standings client place at stage stands read =
    sym (subst (λ (o : Option Standing). IsSomeAnd o (λ standing. at ≡ standing.place)) stands read)

-- who waits stays the same while it begins, and takes the lock
waits_put : (client : ℕ) (place new_place : Place) (stage was : Stage (List Note)) (before next : List Standing) → next ≡ put before client new_place stage → StandsAt before client place was → IsQuiet was → IsQuiet stage → WaitsAfter Anyone before next
waits_put client place new_place stage was before next is stood quiet_before quiet = quiet_put Anyone client new_place place stage was before before next is stood quiet_before quiet (nobody_left before before refl)

begun_waits : (system : System) (client : ℕ) (place : Place) (before begun : Configuration) → IsBegun system client place before begun → WaitsAfter Anyone before.standings begun.standings
begun_waits system client place before begun (inl begins) = waits_put client place place Entering Idle before.standings begun.standings (ap standings_of begins.becomes) begins.idle idle_is_quiet entering_is_quiet
begun_waits system client place before begun (inr stays) = nobody_left before.standings begun.standings (ap standings_of stays.1)

locked_waits : (client : ℕ) (place : Place) (begun locked : Configuration) → Locks client place begun locked → WaitsAfter Anyone begun.standings locked.standings
locked_waits client place begun locked locks = elim locks.wants [
  | inl entering ↦ waits_put client place place Inside Entering begun.standings locked.standings (ap standings_of locks.becomes) entering entering_is_quiet inside_is_quiet
  | inr woken ↦ waits_put client place place Inside (Woken woken.0) begun.standings locked.standings (ap standings_of locks.becomes) woken.1 (woken_is_quiet woken.0) inside_is_quiet
]

-- a client inside made its step: its notes are to come
stepped_stands : (system : System) (client : ℕ) (place goes : Place) (reply : Reply) (state : List Value) (before ran : Configuration) → (steps : StepsInside system client place goes reply state before ran)
    → StandsAt ran.standings client goes (Notifying (notes_after system (block_at system.monitor steps.step.call place) reply))
stepped_stands system client place goes reply state before ran steps =
    let notes = notes_after system (block_at system.monitor steps.step.call place) reply in
    subst (λ (c : Configuration). StandsAt c.standings client goes (Notifying notes)) (sym steps.becomes)
    (put_same before.standings client goes (Notifying notes) (stands_within before.standings client place Inside steps.inside))

stepped_waits : (system : System) (client : ℕ) (place goes : Place) (reply : Reply) (state : List Value) (before ran : Configuration) → StepsInside system client place goes reply state before ran → WaitsAfter Anyone before.standings ran.standings
stepped_waits system client place goes reply state before ran steps =
    let notes = notes_after system (block_at system.monitor steps.step.call place) reply in
    waits_put client place goes (Notifying notes) Inside before.standings ran.standings (ap standings_of steps.becomes) steps.inside inside_is_quiet (notifying_is_quiet notes)

pub section_made : (since : List ℕ) (client : ℕ) (at : Place) (before locked next : Machine) (outcome : Outcome) → IsSettled before.now → Started before client locked
    → IsSomeAnd (slice_get locked.now.standings client) (λ standing. at ≡ standing.place) → WentOn since client locked next outcome
    → MakesSection since client before next (entry_at client at outcome)
section_made since client at before locked next outcomes.Waits settled started read went =
    let place = started.1.0 in
    let begun = started.1.1 in
    let locks = started.1.3 in
    let inside = inside_at client place begun locked.now locks in
    let waits = went.1.1 in
    let same = one_place locked.now.standings client went.1.0 place Inside Inside waits.inside inside in
    let waits_here : Waits before.system client place locked.now next.now = subst (λ (system : System). Waits system client place locked.now next.now) started.0
    (subst (λ (one : Place). Waits locked.system client one locked.now next.now) same waits) in
    record {
      system = went.0 ∙ started.0;
      who = refl;
      made = λ log keeps.
          subst (λ (one : Place). IsSection before.system log before.now (entry_at client one outcomes.Waits) next.now)
          (place_read locked.now.standings client place at Inside inside read)
          (waited client place begun locked.now next.now settled.free started.1.2 locks waits_here);
    }
section_made since client at before locked next (outcomes.Replies reply woken) settled started read (inl (went, bits)) =
    let place = started.1.0 in
    let begun = started.1.1 in
    let locks = started.1.3 in
    let inside = inside_at client place begun locked.now locks in
    let same = one_place locked.now.standings client went.place place Inside Inside went.runs.steps.inside inside in
    let runs : Runs before.system client place went.goes reply went.state locked.now went.ran = subst (λ (system : System). Runs system client place went.goes reply went.state locked.now went.ran) started.0
    (subst (λ (one : Place). Runs locked.system client one went.goes reply went.state locked.now went.ran) same went.runs) in
    record {
      system = went.system ∙ started.0;
      who = refl;
      made = λ log keeps.
          let notes : IsNotified before.system log client went.ran went.notified = subst (λ (system : System). IsNotified system log client went.ran went.notified) started.0
          (went.notes log (subst (λ (system : System). KeepsWaits log system.clients since) (sym started.0) keeps)) in
          let locked_woken = woken_since begun.standings locked.now.standings next.now.standings woken (locked_waits client place begun locked.now locks) bits in
          subst (λ (one : Place). IsSection before.system log before.now (entry_at client one (outcomes.Replies reply woken)) next.now)
          (place_read locked.now.standings client place at Inside inside read)
          (replied client place went.goes woken reply went.state begun locked.now went.ran went.notified next.now settled.free started.1.2 locks runs notes went.unlocks
          (woken_since before.now.standings begun.standings next.now.standings woken (begun_waits before.system client place before.now begun started.1.2) locked_woken));
    }
section_made since client at before locked next (outcomes.Replies reply woken) settled started read (inr (gave, refused_is, none)) =
    let place = started.1.0 in
    let begun = started.1.1 in
    let locks = started.1.3 in
    let inside = inside_at client place begun locked.now locks in
    let same = one_place locked.now.standings client gave.place place Inside Inside gave.refuses.steps.inside inside in
    let refuses : Refuses before.system client place gave.goes replies.Refused gave.state locked.now gave.ran = subst (λ (system : System). Refuses system client place gave.goes replies.Refused gave.state locked.now gave.ran) started.0
    (subst (λ (one : Place). Refuses locked.system client one gave.goes replies.Refused gave.state locked.now gave.ran) same gave.refuses) in
    record {
      system = gave.system ∙ started.0;
      who = refl;
      made = λ log keeps.
          subst (λ (one : Place). IsSection before.system log before.now (entry_at client one (outcomes.Replies reply woken)) next.now)
          (place_read locked.now.standings client place at Inside inside read)
          (subst (λ (bits : ℕ). IsSection before.system log before.now (entry_at client place (outcomes.Replies reply bits)) next.now) (sym none)
          (subst (λ (answer : Reply). IsSection before.system log before.now (entry_at client place (outcomes.Replies answer 0)) next.now) (sym refused_is)
          (refused client place gave.goes replies.Refused gave.state begun locked.now gave.ran next.now settled.free started.1.2 locks refuses gave.unlocks)));
    }
section_made since client at before locked next outcomes.Spurious settled started read went = elim went [ ]

-- ---- what came of a client inside

pub ran_event : (client : ℕ) (before ran : Machine) (reply : Reply) → HasRun client before ran reply → Happened (events.Run client) before ran
ran_event client before ran reply has = (has.0, (has.1.0, has.1.1, reply, has.1.2, has.1.3))

pub refused_event : (client : ℕ) (before ran : Machine) → WasRefused client before ran → Happened (events.Wait client) before ran
refused_event client before ran was = (was.0, (was.1.0, inr (was.1.1, replies.Refused, was.1.2, was.1.3)))

pub waited_event : (client : ℕ) (before next : Machine) → HasWaited client before next → Happened (events.Wait client) before next
waited_event client before next has = (has.0, (has.1.0, inl has.1.1))

pub ran_notifies : (client : ℕ) (before ran : Machine) (reply : Reply) → HasRun client before ran reply → IsNotifying ran client
ran_notifies client before ran reply has = (has.1.1, _, stepped_stands before.system client has.1.0 has.1.1 reply has.1.2 before.now ran.now has.1.3.steps)

pub refused_unlocks : (client : ℕ) (before ran : Machine) → WasRefused client before ran → CanUnlock ran client
refused_unlocks client before ran was = (was.1.1, stepped_stands before.system client was.1.0 was.1.1 replies.Refused was.1.2 before.now ran.now was.1.3.steps)

pub replied_of : (since : List ℕ) (client : ℕ) (before ran notified next : Machine) (reply : Reply) → HasRun client before ran reply → MadeNotes since client ran notified
    → Happened (events.Unlock client) notified next → HasReplied since client before next reply
unfolding ran_notifies
replied_of since client before ran notified next reply has made unlocked =
    let stands = ran_notifies client before ran reply has in
    let done = made.done has.1.1 stands.1 stands.2 in
    let same = one_place notified.now.standings client unlocked.1.0 has.1.1 (Notifying []) (Notifying []) unlocked.1.1.notifying done in
    record {
      system = unlocked.0 ∙ made.system ∙ has.0;
      place = has.1.0;
      goes = has.1.1;
      state = has.1.2;
      ran = ran.now;
      notified = notified.now;
      runs = has.1.3;
      notes = λ log keeps. subst (λ (system : System). IsNotified system log client ran.now notified.now) has.0
          (made.notified log (subst (λ (system : System). KeepsWaits log system.clients since) (sym has.0) keeps));
      unlocks = subst (λ (one : Place). Unlocks client one notified.now next.now) same unlocked.1.1;
    }

pub gave_up_of : (client : ℕ) (before ran next : Machine) → WasRefused client before ran → Happened (events.Unlock client) ran next → HasGivenUp client before next
unfolding refused_unlocks
gave_up_of client before ran next was unlocked =
    let stands = refused_unlocks client before ran was in
    let same = one_place ran.now.standings client unlocked.1.0 was.1.1 (Notifying []) (Notifying []) unlocked.1.1.notifying stands.1 in
    record {
      system = unlocked.0 ∙ was.0;
      place = was.1.0;
      goes = was.1.1;
      state = was.1.2;
      ran = ran.now;
      refuses = was.1.3;
      unlocks = subst (λ (one : Place). Unlocks client one ran.now next.now) same unlocked.1.1;
    }

-- ---- who waits, in order

lines_put : (since : List ℕ) (system next_system : System) (client : ℕ) (place new_place : Place) (stage was : Stage (List Note)) (before next : List Standing) (rings : List (List ℕ)) → next_system ≡ system → next ≡ put before client new_place stage
    → StandsAt before client place was → IsQuiet was → IsQuiet stage → AreLines since system before rings → AreLines since next_system next rings
lines_put since system next_system client place new_place stage was before next rings same is stood quiet_before quiet are =
    lines_kept since system next_system before next rings same (ap length is ∙ put_length before client new_place stage)
    (quiet_put Anyone client new_place place stage was before before next is stood quiet_before quiet (nobody_left before before refl)) are

begun_lines : (since : List ℕ) (system : System) (client : ℕ) (place : Place) (before begun : Configuration) (rings : List (List ℕ)) → IsBegun system client place before begun → AreLines since system before.standings rings → AreLines since system begun.standings rings
begun_lines since system client place before begun rings (inl begins) are =
    lines_put since system system client place place Entering Idle before.standings begun.standings rings refl (ap standings_of begins.becomes) begins.idle idle_is_quiet entering_is_quiet are
begun_lines since system client place before begun rings (inr stays) are = subst (λ (c : Configuration). AreLines since system c.standings rings) (sym stays.1) are

locked_lines : (since : List ℕ) (system next_system : System) (client : ℕ) (place : Place) (begun locked : Configuration) (rings : List (List ℕ)) → next_system ≡ system → Locks client place begun locked → AreLines since system begun.standings rings
    → AreLines since next_system locked.standings rings
locked_lines since system next_system client place begun locked rings same locks are = elim locks.wants [
  | inl entering ↦ lines_put since system next_system client place place Inside Entering begun.standings locked.standings rings same (ap standings_of locks.becomes) entering entering_is_quiet inside_is_quiet are
  | inr woken ↦ lines_put since system next_system client place place Inside (Woken woken.0) begun.standings locked.standings rings same (ap standings_of locks.becomes) woken.1 (woken_is_quiet woken.0) inside_is_quiet are
]

pub started_lines : (client : ℕ) (before locked : Machine) (rings : List (List ℕ)) → Started before client locked → (since : List ℕ) → AreLines since before.system before.now.standings rings → AreLines since locked.system locked.now.standings rings
started_lines client before locked rings started since are =
    locked_lines since before.system locked.system client started.1.0 started.1.1 locked.now rings started.0 started.1.3 (begun_lines since before.system client started.1.0 before.now started.1.1 rings started.1.2 are)

stepped_lines : (since : List ℕ) (system next_system : System) (client : ℕ) (place goes : Place) (reply : Reply) (state : List Value) (before ran : Configuration) (rings : List (List ℕ)) → next_system ≡ system
    → StepsInside system client place goes reply state before ran → AreLines since system before.standings rings → AreLines since next_system ran.standings rings
stepped_lines since system next_system client place goes reply state before ran rings same steps are =
    let notes = notes_after system (block_at system.monitor steps.step.call place) reply in
    lines_put since system next_system client place goes (Notifying notes) Inside before.standings ran.standings rings same (ap standings_of steps.becomes) steps.inside inside_is_quiet (notifying_is_quiet notes) are

pub ran_lines : (client : ℕ) (before ran : Machine) (rings : List (List ℕ)) (reply : Reply) → HasRun client before ran reply → (since : List ℕ) → AreLines since before.system before.now.standings rings → AreLines since ran.system ran.now.standings rings
ran_lines client before ran rings reply has since are = stepped_lines since before.system ran.system client has.1.0 has.1.1 reply has.1.2 before.now ran.now rings has.0 has.1.3.steps are

refused_lines : (client : ℕ) (before ran : Machine) (rings : List (List ℕ)) → WasRefused client before ran → (since : List ℕ) → AreLines since before.system before.now.standings rings → AreLines since ran.system ran.now.standings rings
refused_lines client before ran rings was since are = stepped_lines since before.system ran.system client was.1.0 was.1.1 replies.Refused was.1.2 before.now ran.now rings was.0 was.1.3.steps are

pub unlocked_lines : (client : ℕ) (before next : Machine) (rings : List (List ℕ)) → Happened (events.Unlock client) before next → (since : List ℕ) → AreLines since before.system before.now.standings rings → AreLines since next.system next.now.standings rings
unlocked_lines client before next rings happened since are =
    let place = happened.1.0 in
    lines_put since before.system next.system client place place Idle (Notifying []) before.now.standings next.now.standings rings happened.0 (ap standings_of happened.1.1.becomes) happened.1.1.notifying (notifying_is_quiet []) idle_is_quiet are

-- a client inside waited, and joined the line of its condition
pub waited_lines : (client condition : ℕ) (before next : Machine) (rings : List (List ℕ)) → HasWaited client before next → WaitsOn next client condition → (since : List ℕ) → AreLines since before.system before.now.standings rings
    → LinesAfter since next.system next.now.standings client outcomes.Waits (set rings condition (line_of rings condition ++ client ∷ []))
waited_lines client condition before next rings has on since are number early =
    let place = has.1.0 in
    let waits = has.1.1 in
    let its = waited_condition before.system client place in
    let is : next.now.standings ≡ put before.now.standings client place (Waiting its) = ap standings_of waits.becomes in
    let stands : StandsAt next.now.standings client place (Waiting its) = subst (λ (some : List Standing). StandsAt some client place (Waiting its)) (sym is)
    (put_same before.now.standings client place (Waiting its) (stands_within before.now.standings client place Inside waits.inside)) in
    let same : its ≡ condition = same_waiting its condition (one_stage next.now.standings client place on.0.0 (Waiting its) (Waiting condition) stands on.0.1) in
    lines_joined since before.system next.system before.now.standings next.now.standings rings client place condition number has.0 early
    (omega (arith, on.1, are.conditions, ap (λ (s : System). length s.monitor.conditions) has.0)) waits.inside
    (subst (λ (which : ℕ). next.now.standings ≡ put before.now.standings client place (Waiting which)) same is) are

pub room_to_wait : (client condition : ℕ) (place : Place) (machine : Machine) (rings : List (List ℕ)) → HaveLines machine.system machine.now.standings rings → StandsAt machine.now.standings client place Inside
    → length (line_of rings condition) < length machine.now.standings
room_to_wait client condition place machine rings lines inside =
    line_is_short lines.0 machine.now.standings condition client place Inside (line_of rings condition) (lines.1.each condition) inside inside_is_quiet

pub waited_length : (client : ℕ) (before next : Machine) → HasWaited client before next → length next.now.standings ≡ length before.now.standings
waited_length client before next has =
    ap (λ (c : Configuration). length c.standings) has.1.1.becomes ∙ put_length before.now.standings client has.1.0 (Waiting (waited_condition before.system client has.1.0))

pub waited_told : (client condition : ℕ) (before next : Machine) (rings next_rings : List (List ℕ)) → HasWaited client before next → WaitsOn next client condition
    → next_rings ≡ set rings condition (line_of rings condition ++ client ∷ []) → WentOnOf client before rings next next_rings outcomes.Waits
waited_told client condition before next rings next_rings has on is since are = (
  has,
  subst (λ (some : List (List ℕ)). LinesAfter since next.system next.now.standings client outcomes.Waits some) (sym is) (waited_lines client condition before next rings has on since are),
)

unlocked_woken : (client bits : ℕ) (before ran notified next : Machine) (reply : Reply) → HasRun client before ran reply → WokeThese ran.now.standings notified.now.standings bits → Happened (events.Unlock client) notified next
    → AreBits (λ other. WasWoken before.now.standings next.now.standings other) bits
unlocked_woken client bits before ran notified next reply has woke unlocked =
    let place = unlocked.1.0 in
    let unlocks = unlocked.1.1 in
    let these = woke_put client place place bits Idle (Notifying []) ran.now.standings notified.now.standings next.now.standings (ap standings_of unlocks.becomes) unlocks.notifying (notifying_is_calm []) idle_is_calm woke in
    woken_since before.now.standings ran.now.standings next.now.standings bits (stepped_waits before.system client has.1.0 has.1.1 reply has.1.2 before.now ran.now has.1.3.steps) these.woken

pub replied_told : (client bits : ℕ) (before ran notified next : Machine) (rings notified_rings : List (List ℕ)) (reply : Reply) → HasRun client before ran reply
    → MadeNotesOf client ran rings notified notified_rings bits → Happened (events.Unlock client) notified next → WentOnOf client before rings next notified_rings (outcomes.Replies reply bits)
replied_told client bits before ran notified next rings notified_rings reply has makes unlocked since are =
    let made = makes since (ran_lines client before ran rings reply has since are) in
    let woken = unlocked_woken client bits before ran notified next reply has made.2 unlocked in (
      inl (replied_of since client before ran notified next reply has made.0 unlocked, woken),
      (λ number early. unlocked_lines client notified next notified_rings unlocked since made.1),
    )

-- a client inside was refused, and gave the lock back: nobody waits or is woken for it
pub given_up_told : (client : ℕ) (before ran next : Machine) (rings : List (List ℕ)) → WasRefused client before ran → Happened (events.Unlock client) ran next → WentOnOf client before rings next rings (outcomes.Replies replies.Refused 0)
given_up_told client before ran next rings was unlocked since are = (
  inr (gave_up_of client before ran next was unlocked, refl, refl),
  (λ number early. unlocked_lines client ran next rings unlocked since (refused_lines client before ran rings was since are)),
)

pub section_told : (client : ℕ) (at : Place) (before locked next : Machine) (rings next_rings : List (List ℕ)) (outcome : Outcome) → IsSettled before.now → Started before client locked
    → IsSomeAnd (slice_get locked.now.standings client) (λ standing. at ≡ standing.place) → WentOnOf client locked rings next next_rings outcome
    → MakesSectionOf client before rings next next_rings (entry_at client at outcome)
section_told client at before locked next rings next_rings outcome settled started read went since are =
    let made = went since (started_lines client before locked rings started since are) in
    (section_made since client at before locked next outcome settled started read made.0, made.1)

-- ---- after a section no one enters

pub entering_woken : (condition : ℕ) → ◌≡◌ {A = Stage (List Note)} Entering (Woken condition) → ⊥
entering_woken condition is = cc is

pub none_enters : (client : ℕ) (place : Place) (stage : Stage (List Note)) (before next : Configuration) → NoneEnters before.standings → CameFrom client before.standings next.standings → StandsAt next.standings client place stage → (Entering ≡ stage → ⊥)
    → NoneEnters next.standings
none_enters client place stage before next none came at not_entering other others_place enters = elim (cases_eq other client) [
  | inl same ↦ not_entering (one_stage next.standings client others_place place Entering stage (subst (λ (who : ℕ). StandsAt next.standings who others_place Entering) same enters) at)
  | inr differs ↦ elim (came other others_place Entering differs enters) [
    | inl stood ↦ none other others_place stood
    | inr woken ↦ entering_woken woken.0 woken.2
  ]
]

unlocked_settles : (client : ℕ) (place : Place) (before ran next : Configuration) → NoneEnters before.standings → Unlocks client place ran next → CameFrom client before.standings ran.standings → IsSettled next
unlocked_settles client place before ran next none unlocks came = record {
  free = ap (λ (c : Configuration). c.owner) unlocks.becomes;
  none_enters =
      none_enters client place Idle before next none
      (came_trans client before.standings ran.standings next.standings came (came_put client place Idle ran.standings next.standings (ap standings_of unlocks.becomes)))
      (subst (λ (c : Configuration). StandsAt c.standings client place Idle) (sym unlocks.becomes) (put_same ran.standings client place Idle (stands_within ran.standings client place (Notifying []) unlocks.notifying)))
      (λ is. entering_idle is);
}
  where
    entering_idle : ◌≡◌ {A = Stage (List Note)} Entering Idle → ⊥
    entering_idle is = cc is

pub section_settles : (system : System) (log : List Entry) (before : Configuration) (entry : Entry) (next : Configuration) → NoneEnters before.standings → IsSection system log before entry next → IsSettled next
section_settles system log before entry next none (waited client place begun locked last free begins locks waits) = record {
  free = ap (λ (c : Configuration). c.owner) waits.becomes;
  none_enters =
      let condition = waited_condition system client place in
      let inside = inside_at client place begun locked locks in
      none_enters client place (Waiting condition) before last none
      (came_waited system client place condition before begun locked last begins locks (ap standings_of waits.becomes))
      (subst (λ (c : Configuration). StandsAt c.standings client place (Waiting condition)) (sym waits.becomes) (put_same locked.standings client place (Waiting condition) (stands_within locked.standings client place Inside inside)))
      (λ is. entering_waiting condition is);
}
  where
    entering_waiting : (condition : ℕ) → ◌≡◌ {A = Stage (List Note)} Entering (Waiting condition) → ⊥
    entering_waiting condition is = cc is
section_settles system log before entry next none (refused client place goes reply state begun locked ran last free begins locks refuses unlocks) =
    unlocked_settles client goes before ran last none unlocks
    (came_stepped system client place goes (notes_after system (block_at system.monitor refuses.steps.step.call place) reply) before begun locked ran begins locks (ap standings_of refuses.steps.becomes))
section_settles system log before entry next none (replied client place goes bits reply state begun locked ran notified last free begins locks runs notes unlocks are) =
    unlocked_settles client goes before notified last none unlocks
    (came_trans client before.standings ran.standings notified.standings
    (came_stepped system client place goes (notes_after system (block_at system.monitor runs.steps.step.call place) reply) before begun locked ran begins locks (ap standings_of runs.steps.becomes))
    (came_notified system log client ran notified notes))
