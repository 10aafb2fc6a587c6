-- A section of a client leads to one configuration, and has one entry.
use Rattle.std.proofs.Common.{◌≡◌, ℕ, zero, suc, ◌+◌, ◌<◌, ◌↔◌, ◌⊎◌, ◌==◌, ◌&&◌, Bool, true, false, List, [], ◌∷◌, ◌++◌, Option, Some, None, get_or, drop, refl, sym, ap, ap₂, subst, ◌∙◌, arith, inl, inr}
use Rattle.std.specs.Prelude.{IsBitSet}
use Rattle.std.specs.Int.{bit_at}
use Rattle.std.specs.Option.{option_map_or}
use Rattle.std.proofs.lemmas.Bool.{and_parts, eqb-true, true≢false}
use Rattle.std.proofs.lemmas.Nat.{bit_set_by_shift}
use Rattle.std.proofs.lemmas.Nat.Bits.{shr_and_one, bit_at-lt, same_from_bits}
use Rattle.std.proofs.lemmas.Option.{same_Some}
use Rattle.lang_base.specs.declared.value.Value.{Value}
use Rattle.lang_monitor.specs.Bodies.{Memory}
use Rattle.machine_implicit.specs.declared.commit.Reply.{Reply}
use Rattle.machine_implicit.specs.declared.script.Call.{Call}
use Rattle.machine_implicit.specs.declared.place.Place.{Place}
use Rattle.machine_implicit.specs.Places.{call_at, block_at, inputs_at}
use Rattle.machine_implicit.specs.Places.{tries_at, IsCallStep, IsStep}
use Rattle.machine_implicit.specs.Steps.{guard_truth}
use Rattle.machine_implicit.proofs.OneRun.{which}
use Rattle.machine_events.specs.declared.plan.Note.{Note}
use Rattle.machine_events.specs.declared.log.Entry.{Entry}
use Rattle.machine_events.specs.declared.log.Outcome.TheVariants as outcomes
use Rattle.machine_events.specs.declared.event.Stage.{Stage}
use Rattle.machine_events.specs.Configurations.{System, Standing, Configuration, StandsAt, put, guard_of, waited_condition}
use Rattle.machine_events.specs.declared.event.Stage.TheVariants.{Idle, Entering, Waiting, Woken, Inside, Notifying}
use Rattle.machine_events.specs.Events.{Locks, Waits, StepsInside, Runs, Refuses, Unlocks, Notifies, Wakes, WakesOne, WakesEach, WakesNobody, commit_at, notes_after}
use Rattle.machine_events.specs.Logs.{IsBegun, IsChosen, IsFirstWaiter, IsNotified, IsSection, AreWoken, WaitsSince, entry_at, says_waits}
use Rattle.machine_events.specs.Logs.IsNotified.{all_made, one_made}
use Rattle.machine_events.specs.Logs.IsSection.{waited, refused, replied}
use Rattle.machine_events.proofs.Standings.{one_place, one_stage}
use Rattle.machine_simulate.proofs.OneStep.{steps_once}

-- ---- it begins or goes on, and locks

record SameLocked (place also_place : Place) (locked taken : Configuration) : Type 0 where
  places : place ≡ also_place
  configurations : locked ≡ taken

abbrev entering : ℕ → Place → Configuration → Configuration
entering client place c = record c { standings = put c.standings client place Entering }

abbrev holding : ℕ → Place → Configuration → Configuration
holding client place c = record c { owner = Some client; standings = put c.standings client place Inside }

locks_once : (client : ℕ) (place also_place : Place) (begun start locked taken : Configuration)
    → place ≡ also_place → begun ≡ start → Locks client place begun locked
    → Locks client also_place start taken → SameLocked place also_place locked taken
locks_once client place also_place begun start locked taken places same one two = record { places = places; configurations = one.becomes ∙ ap₂ (holding client) places same ∙ sym two.becomes }

locked_once : (system : System) (client : ℕ) (place also_place : Place)
    (before begun start locked taken : Configuration) → IsBegun system client place before begun
    → Locks client place begun locked
    → IsBegun system client also_place before start → Locks client also_place start taken
    → SameLocked place also_place locked taken
locked_once system client place also_place before begun start locked taken begins one goes two = elim begins [
  | inl idle ↦ elim goes [
    | inl again ↦
        let places = one_place before.standings client place also_place Idle Idle idle.idle again.idle in
        locks_once client place also_place begun start locked taken places (idle.becomes ∙ ap (λ (one : Place). entering client one before) places ∙ sym again.becomes) one two
    | inr woken ↦ absurd (let wrong = one_stage before.standings client place also_place Idle (Woken woken.0.0) idle.idle woken.0.1 in cc)
  ]
  | inr woken ↦ elim goes [
    | inl idle ↦ absurd (let wrong = one_stage before.standings client place also_place (Woken woken.0.0) Idle woken.0.1 idle.idle in cc)
    | inr again ↦
        locks_once client place also_place begun start locked taken (one_place before.standings client place also_place (Woken woken.0.0) (Woken again.0.0) woken.0.1 again.0.1) (woken.1 ∙ sym again.1) one two
  ]
]

-- ---- it waits, or runs

abbrev given_back : System → ℕ → Place → Configuration → Configuration
given_back system client place c = record c { owner = None; standings = put c.standings client place (Waiting (waited_condition system client place)) }

waits_once : (system : System) (client : ℕ) (place also_place : Place)
    (locked taken next last : Configuration) → SameLocked place also_place locked taken
    → Waits system client place locked next → Waits system client also_place taken last
    → next ≡ last
waits_once system client place also_place locked taken next last same one two = one.becomes ∙ ap₂ (given_back system client) same.places same.configurations ∙ sym two.becomes

waits_or_runs : (system : System) (client : ℕ) (place also_place goes : Place)
    (locked taken next ran : Configuration) (reply : Reply) (state : List Value)
    → SameLocked place also_place locked taken
    → Waits system client place locked next
    → Runs system client also_place goes reply state taken ran → ⊥
waits_or_runs system client place also_place goes locked taken next ran reply state same waits runs =
    let alike = ap₂ (λ (at : Place) (c : Configuration). guard_of system c.state client at) same.places same.configurations in
    true≢false (sym runs.guard ∙ sym alike ∙ waits.guard)

refuses_or_runs : (system : System) (client : ℕ) (place also_place gone goes : Place)
    (locked taken given ran : Configuration) (reply other : Reply) (left state : List Value)
    → SameLocked place also_place locked taken
    → Refuses system client place gone reply left locked given
    → Runs system client also_place goes other state taken ran → ⊥
refuses_or_runs system client place also_place gone goes locked taken given ran reply other left state same refuses runs =
    let alike = ap₂ (λ (at : Place) (c : Configuration). guard_of system c.state client at) same.places same.configurations in
    true≢false (sym runs.guard ∙ sym alike ∙ refuses.guard)

-- a client whose guard is false steps where its call tries alone
steps_by_trying : (system : System) (state : List Value) (client : ℕ) (place : Place) (call : Call)
    (reply : Reply) (memory : Memory) → call_at system.clients client place ≡ Some call
    → guard_of system state client place ≡ false
    → IsCallStep system.monitor call place state reply memory
    → tries_at system.clients client place ≡ true
steps_by_trying system state client place call reply memory at fails (inl step) =
    let guard : guard_of system state client place ≡ true =
    ap (λ (one : Option Call). option_map_or (λ call. guard_truth system.monitor state (block_at system.monitor call place) (inputs_at call place)) one false) at ∙ step.guard in
    absurd (true≢false (sym guard ∙ fails))
steps_by_trying system state client place call reply memory at fails (inr refusal) =
    ap (λ (one : Option Call). option_map_or (λ call. call.tries && place.block == 0) one false) at
    ∙ ap (λ (tries : Bool). tries && place.block == 0) refusal.tries
    ∙ ap (λ (block : ℕ). block == 0) refusal.first

waits_or_refuses : (system : System) (client : ℕ) (place also_place goes : Place)
    (locked taken next given : Configuration) (reply : Reply) (state : List Value)
    → SameLocked place also_place locked taken
    → Waits system client place locked next
    → Refuses system client also_place goes reply state taken given → ⊥
waits_or_refuses system client place also_place goes locked taken next given reply state same waits refuses =
    let step = refuses.steps.step in
    let tries = steps_by_trying system taken.state client also_place step.call reply step.memory step.at refuses.guard step.step in
    true≢false (sym tries ∙ sym (ap (tries_at system.clients client) same.places) ∙ waits.patient)

record SameRun (reply other : Reply) (goes also_goes : Place)
    (ran done : Configuration) : Type 0 where
  replies : reply ≡ other
  places : goes ≡ also_goes
  configurations : ran ≡ done

abbrev ran_by : System → ℕ → Call → Place → Place → Configuration → Reply → List Value
    → Configuration
ran_by system client call place goes c reply state = record c {
  state = state;
  commits = c.commits ++ commit_at client place reply ∷ [];
  standings = put c.standings client goes (Notifying (notes_after system (block_at system.monitor call place) reply));
}

steps_alike : (system : System) (client : ℕ) (place also_place goes also_goes : Place)
    (locked taken ran done : Configuration) (reply other : Reply) (state after : List Value)
    → SameLocked place also_place locked taken
    → StepsInside system client place goes reply state locked ran
    → StepsInside system client also_place also_goes other after taken done
    → SameRun reply other goes also_goes ran done
steps_alike system client place also_place goes also_goes locked taken ran done reply other state after same one two =
    let Step = λ (at : Place) (c : Configuration). IsStep system.monitor system.clients client at c.state other after also_goes in
    let step : Step place locked = subst (λ (at : Place). Step at locked) (sym same.places) (subst (λ (c : Configuration). Step also_place c) (sym same.configurations) two.step) in
    let outcome = steps_once system.monitor system.clients client place locked.state reply other state after goes also_goes one.step step in
    let calls : one.step.call ≡ two.step.call = same_Some one.step.call two.step.call (sym one.step.at ∙ ap (call_at system.clients client) same.places ∙ two.step.at) in
    record {
      replies = outcome.replies;
      places = outcome.places;
      configurations = one.becomes
          ∙ (λ i. ran_by system client (calls i) (same.places i) (outcome.places i) (same.configurations i) (outcome.replies i) (outcome.states i))
          ∙ sym two.becomes;
    }

-- ---- who has waited longest is one

since_once : (log : List Entry) (client at later : ℕ) → WaitsSince log client at
    → WaitsSince log client later → at ≡ later
since_once log client at later one two = elim (which at later) [
  | inl same ↦ same
  | inr other ↦ elim other [
    | inl less ↦ absurd (true≢false (sym two.waits ∙ one.last later two.entry less two.there))
    | inr more ↦ absurd (true≢false (sym one.waits ∙ two.last at one.entry more one.there))
  ]
]

waiter_once : (log : List Entry) (client other at : ℕ) → WaitsSince log client at
    → WaitsSince log other at → client ≡ other
waiter_once log client other at one two =
    let entries = same_Some one.entry two.entry (sym one.there ∙ two.there) in
    let first = eqb-true one.entry.client client (and_parts (one.entry.client == client) (says_waits one.entry.outcome) one.waits).0 in
    let second = eqb-true two.entry.client other (and_parts (two.entry.client == other) (says_waits two.entry.outcome) two.waits).0 in
    sym first ∙ ap (λ (entry : Entry). entry.client) entries ∙ second

first_once : (log : List Entry) (standings : List Standing) (condition client other : ℕ)
    (place also_place : Place) → StandsAt standings client place (Waiting condition)
    → StandsAt standings other also_place (Waiting condition)
    → IsFirstWaiter log standings condition client → IsFirstWaiter log standings condition other
    → client ≡ other
first_once log standings condition client other place also_place here there one two =
    let after = one.2 other also_place there in
    let before = two.2 client place here in
    let theirs = since_once log other after.0 two.0 after.1 two.1 in
    let own = since_once log client before.0 one.0 before.1 one.1 in
    let above = after.2 in
    let below = before.2 in
    let same : one.0 ≡ two.0 = omega arith in
    waiter_once log client other two.0 (subst (WaitsSince log client) same one.1) two.1

-- ---- a note wakes the same

wakes_or_not : (system : System) (c : Configuration) (note : Note) (target : ℕ)
    (target_place : Place) (woken other : List Standing)
    → WakesOne system c note target target_place woken → Wakes system c note None other → ⊥
wakes_or_not system c note target target_place woken other one none = elim none [
  | inl each ↦ true≢false (sym each.each ∙ one.one)
  | inr nobody ↦ elim nobody.nobody [
    | inl silent ↦ true≢false (sym one.fired ∙ silent)
    | inr nowhere ↦ nowhere.1 target target_place one.waits
  ]
]

each_or_nobody : (system : System) (c : Configuration) (note : Note) (woken other : List Standing)
    → WakesEach system c note woken → WakesNobody system c note other → ⊥
each_or_nobody system c note woken other each none = elim none.nobody [
  | inl silent ↦ true≢false (sym each.fired ∙ silent)
  | inr nowhere ↦ true≢false (sym each.each ∙ nowhere.0)
]

wakes_once : (system : System) (log : List Entry) (c : Configuration) (note : Note)
    (target other : Option ℕ) (woken also : List Standing) → IsChosen log c target
    → Wakes system c note target woken
    → IsChosen log c other → Wakes system c note other also → woken ≡ also
wakes_once system log c note None None woken also chosen one named two = elim one [
  | inl each ↦ elim two [
    | inl again ↦ each.becomes ∙ sym again.becomes
    | inr nobody ↦ absurd (each_or_nobody system c note woken also each nobody)
  ]
  | inr nobody ↦ elim two [
    | inl each ↦ absurd (each_or_nobody system c note also woken each nobody)
    | inr again ↦ nobody.becomes ∙ sym again.becomes
  ]
]
wakes_once system log c note None (Some other) woken also chosen one named two = absurd (wakes_or_not system c note other two.0 also woken two.1 one)
wakes_once system log c note (Some target) None woken also chosen one named two = absurd (wakes_or_not system c note target one.0 woken also one.1 two)
wakes_once system log c note (Some target) (Some other) woken also chosen one named two =
    let same =
    first_once log c.standings note.condition target other one.0 two.0 one.1.waits two.1.waits (chosen one.0 note.condition one.1.waits) (named two.0 note.condition two.1.waits) in
    let moved = subst (λ (who : ℕ). StandsAt c.standings who two.0 (Waiting note.condition)) (sym same) two.1.waits in
    let places = one_place c.standings target one.0 two.0 (Waiting note.condition) (Waiting note.condition) one.1.waits moved in
    one.1.becomes ∙ ap₂ (λ (who : ℕ) (place : Place). put c.standings who place (Woken note.condition)) same places ∙ sym two.1.becomes

-- ---- it makes its notes

notes_in : Stage (List Note) → List Note
notes_in (Notifying notes) = notes
notes_in stage = []

same_notes : (notes others : List Note) → Notifying notes ≡ Notifying others → notes ≡ others
unfolding notes_in
same_notes notes others same = ap notes_in same

same_first : (note other : Note) (more others : List Note) → note ∷ more ≡ other ∷ others
    → note ≡ other
same_first note other more others same = ap (λ (notes : List Note). get_or notes 0 note) same

same_rest : (note other : Note) (more others : List Note) → note ∷ more ≡ other ∷ others
    → more ≡ others
same_rest note other more others same = ap (λ (notes : List Note). drop 1 notes) same

abbrev noted : Configuration → ℕ → Place → List Standing → List Note → Configuration
noted c client place woken more = record c { standings = put woken client place (Notifying more) }

note_once : (system : System) (log : List Entry) (client : ℕ) (place also_place : Place)
    (c next last : Configuration) (target other : Option ℕ) → IsChosen log c target
    → Notifies system client place target c next
    → IsChosen log c other → Notifies system client also_place other c last → next ≡ last
note_once system log client place also_place c next last target other chosen one named two =
    let places = one_place c.standings client place also_place (Notifying (one.note ∷ one.more)) (Notifying (two.note ∷ two.more)) one.notifying two.notifying in
    let notes =
    same_notes (one.note ∷ one.more) (two.note ∷ two.more)
    (one_stage c.standings client place also_place (Notifying (one.note ∷ one.more)) (Notifying (two.note ∷ two.more)) one.notifying two.notifying) in
    let first = same_first one.note two.note one.more two.more notes in
    let rest = same_rest one.note two.note one.more two.more notes in
    let woken =
    wakes_once system log c one.note target other one.woken two.woken chosen one.wakes named
    (subst (λ (note : Note). Wakes system c note other two.woken) (sym first) two.wakes) in
    one.becomes
    ∙ ap₂ (λ (at : Place) (standings : List Standing). noted c client at standings one.more) places woken
    ∙ ap (λ (more : List Note). noted c client also_place two.woken more) rest
    ∙ sym two.becomes

some_or_none : (standings : List Standing) (client : ℕ) (place also_place : Place) (note : Note)
    (more : List Note) → StandsAt standings client place (Notifying [])
    → StandsAt standings client also_place (Notifying (note ∷ more)) → ⊥
some_or_none standings client place also_place note more none some =
    let same = same_notes [] (note ∷ more) (one_stage standings client place also_place (Notifying []) (Notifying (note ∷ more)) none some) in cc

notified_once : (system : System) (log : List Entry) (client : ℕ) (c last end : Configuration)
    → IsNotified system log client c last → IsNotified system log client c end → last ≡ end
notified_once system log client c last end (all_made here place at) (all_made there also stands) = refl
notified_once system log client c last end (all_made here place at) (one_made there next final target chosen event more) =
    absurd (some_or_none here.standings client place event.0 event.1.note event.1.more at event.1.notifying)
notified_once system log client c last end (one_made here next final target chosen event more) (all_made there place at) =
    absurd (some_or_none here.standings client place event.0 event.1.note event.1.more at event.1.notifying)
notified_once system log client c last end (one_made here next final target chosen event more) (one_made there after ending other named notifies rest) =
    let same = note_once system log client event.0 notifies.0 here next after target other chosen event.1 named notifies.1 in
    notified_once system log client next final ending more (subst (λ (start : Configuration). IsNotified system log client start ending) (sym same) rest)

-- ---- whom it woke

bit_is : (n k : ℕ) → IsBitSet n k ↔ (bit_at n k ≡ 1)
bit_is n k = (
  (λ is. sym (shr_and_one n k) ∙ (bit_set_by_shift n k).1 is),
  (λ one. (bit_set_by_shift n k).0 (shr_and_one n k ∙ one)),
)

same_bit : (a b : ℕ) → a < 2 → b < 2 → (a ≡ 1 → b ≡ 1) → (b ≡ 1 → a ≡ 1) → a ≡ b
same_bit zero zero low high there back = refl
same_bit zero (suc b) low high there back = let set : suc b ≡ 1 = omega arith in let wrong = back set in absurd (omega arith)
same_bit (suc a) b low high there back = let set : suc a ≡ 1 = omega arith in set ∙ sym (there set)

woken_once : (before next last : Configuration) (woken other : ℕ) → next ≡ last
    → AreWoken before next woken → AreWoken before last other → woken ≡ other
woken_once before next last woken other same one two = same_from_bits woken other (λ client.
    let also = subst (λ (c : Configuration). AreWoken before c other) (sym same) two in
    same_bit (bit_at woken client) (bit_at other client) (bit_at-lt woken client) (bit_at-lt other client)
    (λ set. (bit_is other client).0 ((also client).1 ((one client).0 ((bit_is woken client).1 set))))
    (λ set. (bit_is woken client).0 ((one client).1 ((also client).0 ((bit_is other client).1 set)))))

-- ---- a section

record IsWaited (system : System) (before : Configuration) (client : ℕ) (entry : Entry)
    (next : Configuration) : Type 0 where
  place : Place
  begun : Configuration
  locked : Configuration
  begins : IsBegun system client place before begun
  locks : Locks client place begun locked
  waits : Waits system client place locked next
  is : entry ≡ entry_at client place outcomes.Waits

record WasRefused (system : System) (before : Configuration) (client : ℕ) (entry : Entry)
    (next : Configuration) : Type 0 where
  place : Place
  goes : Place
  reply : Reply
  state : List Value
  begun : Configuration
  locked : Configuration
  ran : Configuration
  begins : IsBegun system client place before begun
  locks : Locks client place begun locked
  refuses : Refuses system client place goes reply state locked ran
  unlocks : Unlocks client goes ran next
  is : entry ≡ entry_at client place (outcomes.Replies reply 0)

record IsReplied (system : System) (log : List Entry) (before : Configuration) (client : ℕ)
    (entry : Entry) (next : Configuration) : Type 0 where
  place : Place
  goes : Place
  woken : ℕ
  reply : Reply
  state : List Value
  begun : Configuration
  locked : Configuration
  ran : Configuration
  notified : Configuration
  begins : IsBegun system client place before begun
  locks : Locks client place begun locked
  runs : Runs system client place goes reply state locked ran
  notes : IsNotified system log client ran notified
  unlocks : Unlocks client goes notified next
  are : AreWoken before next woken
  is : entry ≡ entry_at client place (outcomes.Replies reply woken)

abbrev IsMade : System → List Entry → Configuration → ℕ → Entry → Configuration → Type 0
IsMade system log before client entry next = IsWaited system before client entry next ⊎ (WasRefused system before client entry next ⊎ IsReplied system log before client entry next)

made : (system : System) (log : List Entry) (before : Configuration) (entry : Entry)
    (next : Configuration) → IsSection system log before entry next
    → IsMade system log before entry.client entry next
made system log before entry next (waited client place begun locked last free begins locks waits) = inl (record { place = place; begun = begun; locked = locked; begins = begins; locks = locks; waits = waits; is = refl })
made system log before entry next (refused client place goes reply state begun locked ran last free begins locks refuses unlocks) =
    inr (inl (record {
      place = place;
      goes = goes;
      reply = reply;
      state = state;
      begun = begun;
      locked = locked;
      ran = ran;
      begins = begins;
      locks = locks;
      refuses = refuses;
      unlocks = unlocks;
      is = refl;
    }))
made system log before entry next (replied client place goes bits reply state begun locked ran notified last free begins locks runs notes unlocks are) =
    inr (inr (record {
      place = place;
      goes = goes;
      woken = bits;
      reply = reply;
      state = state;
      begun = begun;
      locked = locked;
      ran = ran;
      notified = notified;
      begins = begins;
      locks = locks;
      runs = runs;
      notes = notes;
      unlocks = unlocks;
      are = are;
      is = refl;
    }))

pub record SameSection (entry other : Entry) (next last : Configuration) : Type 0 where
  pub entries : entry ≡ other
  pub configurations : next ≡ last

both_wait : (system : System) (before : Configuration) (client : ℕ) (entry other : Entry)
    (next last : Configuration) → IsWaited system before client entry next
    → IsWaited system before client other last
    → SameSection entry other next last
both_wait system before client entry other next last one two =
    let same = locked_once system client one.place two.place before one.begun two.begun one.locked two.locked one.begins one.locks two.begins two.locks in
    record {
      entries = one.is ∙ ap (λ (place : Place). entry_at client place outcomes.Waits) same.places ∙ sym two.is;
      configurations = waits_once system client one.place two.place one.locked two.locked next last same one.waits two.waits;
    }

wait_or_give_up : (system : System) (before : Configuration) (client : ℕ) (entry other : Entry)
    (next last : Configuration) → IsWaited system before client entry next
    → WasRefused system before client other last → ⊥
wait_or_give_up system before client entry other next last one two =
    let same = locked_once system client one.place two.place before one.begun two.begun one.locked two.locked one.begins one.locks two.begins two.locks in
    waits_or_refuses system client one.place two.place two.goes one.locked two.locked next two.ran two.reply two.state same one.waits two.refuses

wait_or_reply : (system : System) (log : List Entry) (before : Configuration) (client : ℕ)
    (entry other : Entry) (next last : Configuration) → IsWaited system before client entry next
    → IsReplied system log before client other last → ⊥
wait_or_reply system log before client entry other next last one two =
    let same = locked_once system client one.place two.place before one.begun two.begun one.locked two.locked one.begins one.locks two.begins two.locks in
    waits_or_runs system client one.place two.place two.goes one.locked two.locked next two.ran two.reply two.state same one.waits two.runs

give_up_or_reply : (system : System) (log : List Entry) (before : Configuration) (client : ℕ)
    (entry other : Entry) (next last : Configuration) → WasRefused system before client entry next
    → IsReplied system log before client other last → ⊥
give_up_or_reply system log before client entry other next last one two =
    let same = locked_once system client one.place two.place before one.begun two.begun one.locked two.locked one.begins one.locks two.begins two.locks in
    refuses_or_runs system client one.place two.place one.goes two.goes one.locked two.locked one.ran two.ran one.reply two.reply one.state two.state same one.refuses two.runs

abbrev freed : ℕ → Place → Configuration → Configuration
freed client place c = record c { owner = None; standings = put c.standings client place Idle }

both_give_up : (system : System) (before : Configuration) (client : ℕ) (entry other : Entry)
    (next last : Configuration) → WasRefused system before client entry next
    → WasRefused system before client other last
    → SameSection entry other next last
both_give_up system before client entry other next last one two =
    let same = locked_once system client one.place two.place before one.begun two.begun one.locked two.locked one.begins one.locks two.begins two.locks in
    let ran = steps_alike system client one.place two.place one.goes two.goes one.locked two.locked one.ran two.ran one.reply two.reply one.state two.state same one.refuses.steps two.refuses.steps in
    record {
      entries = one.is ∙ (λ i. entry_at client (same.places i) (outcomes.Replies (ran.replies i) 0)) ∙ sym two.is;
      configurations = one.unlocks.becomes ∙ ap₂ (freed client) ran.places ran.configurations ∙ sym two.unlocks.becomes;
    }

both_reply : (system : System) (log : List Entry) (before : Configuration) (client : ℕ)
    (entry other : Entry) (next last : Configuration)
    → IsReplied system log before client entry next
    → IsReplied system log before client other last → SameSection entry other next last
both_reply system log before client entry other next last one two =
    let same = locked_once system client one.place two.place before one.begun two.begun one.locked two.locked one.begins one.locks two.begins two.locks in
    let ran = steps_alike system client one.place two.place one.goes two.goes one.locked two.locked one.ran two.ran one.reply two.reply one.state two.state same one.runs.steps two.runs.steps in
    let notes = subst (λ (start : Configuration). IsNotified system log client start two.notified) (sym ran.configurations) two.notes in
    let notified = notified_once system log client one.ran one.notified two.notified one.notes notes in
    let configurations : next ≡ last = one.unlocks.becomes ∙ ap₂ (freed client) ran.places notified ∙ sym two.unlocks.becomes in
    let woken = woken_once before next last one.woken two.woken configurations one.are two.are in
    record {
      entries = one.is ∙ (λ i. entry_at client (same.places i) (outcomes.Replies (ran.replies i) (woken i))) ∙ sym two.is;
      configurations = configurations;
    }

-- after one log and configuration a client makes one section
pub one_section : (system : System) (log : List Entry) (before : Configuration) (client : ℕ)
    (entry other : Entry) (next last : Configuration) → entry.client ≡ client
    → other.client ≡ client
    → IsSection system log before entry next → IsSection system log before other last
    → SameSection entry other next last
one_section system log before client entry other next last whose also one two =
    by (subst (λ (who : ℕ). IsMade system log before who entry next) whose (made system log before entry next one))
    (subst (λ (who : ℕ). IsMade system log before who other last) also (made system log before other last two))
  where
    by : IsMade system log before client entry next → IsMade system log before client other last
        → SameSection entry other next last
    by (inl waits) (inl again) = both_wait system before client entry other next last waits again
    by (inl waits) (inr (inl gives_up)) = absurd (wait_or_give_up system before client entry other next last waits gives_up)
    by (inl waits) (inr (inr replies)) = absurd (wait_or_reply system log before client entry other next last waits replies)
    by (inr (inl gives_up)) (inl waits) = absurd (wait_or_give_up system before client other entry last next waits gives_up)
    by (inr (inl gives_up)) (inr (inl again)) = both_give_up system before client entry other next last gives_up again
    by (inr (inl gives_up)) (inr (inr replies)) = absurd (give_up_or_reply system log before client entry other next last gives_up replies)
    by (inr (inr replies)) (inl waits) = absurd (wait_or_reply system log before client other entry last next waits replies)
    by (inr (inr replies)) (inr (inl gives_up)) = absurd (give_up_or_reply system log before client other entry last next gives_up replies)
    by (inr (inr replies)) (inr (inr again)) = both_reply system log before client entry other next last replies again
