-- The notes of a client, one by one.
use Rattle.std.proofs.Common.{◌≡◌, ℕ, zero, suc, ◌+◌, ◌-◌, ◌<◌, ◌≤◌, true, false, List, [], ◌∷◌, length, get_or, set, drop, Option, Some, None, refl, sym, ap, subst, ◌∙◌, arith, inl, inr}
use Rattle.std.specs.Prelude.{slice_get, All, Contains}
use Rattle.std.specs.Int.RustNames.{bit_or}
use Rattle.std.proofs.lemmas.List.Elements.{Contains-get_or}
use Rattle.lang_base.specs.Limits.{CLIENTS}
use Rattle.std.proofs.lemmas.Option.{none-some, same_Some}
use Rattle.std.proofs.lemmas.Bool.{true≢false}
use Rattle.machine_events.specs.declared.plan.Note.{Note}
use Rattle.machine_events.specs.declared.event.Event.TheVariants as events
use Rattle.machine_events.specs.declared.log.Entry.{Entry}
use Rattle.machine_events.specs.declared.event.Stage.{Stage}
use Rattle.machine_events.specs.Configurations.{System, Standing}
use Rattle.machine_events.specs.Configurations.{Configuration, StandsAt, put}
use Rattle.machine_events.specs.declared.event.Stage.TheVariants.{Waiting, Woken, Notifying}
use Rattle.machine_events.specs.Events.{Wakes, NoneWaits, IsEvent, fires, wake_all}
use Rattle.machine_events.specs.Logs.{IsChosen}
use Rattle.machine_events.specs.Logs.IsNotified.{all_made, one_made}
use Rattle.machine_events.proofs.Standings.{put_same, put_length, woken_length, one_place, one_stage, stands_within, apart, stays, unwoken_stays}
use Rattle.machine_explicit.specs.declared.notes.Next.{Next}
use Rattle.machine_explicit.specs.Machines.{Machine, Happened}
use Rattle.machine_explicit.specs.inner.Waiting.{KeepsWaits, HasNote, IsNotifying, IsFirst, IsFired, IsComing, IsTarget, Passes, IsChosenBy, MadeNote, MadeNoteOf, MadeNotesOf, MadeSome, AreMaking, CountsNotes, AreBits, WokeThese}
use Rattle.machine_explicit.specs.inner.Rings.{line_of, IsLine, AreLines, HaveLines}
use Rattle.machine_explicit.proofs.MakingWakes.{none_woken}
use Rattle.machine_explicit.proofs.Lining.{WaitsAfter, Anyone, ButOne, ButOn, notifying_is_quiet, nobody_left, one_left, each_left, quiet_put, lines_kept, lines_cleared, lines_left, without_first}
use Rattle.machine_explicit.proofs.Waking.{notifying_is_calm, woke_put, woke_nobody, woke_one, woke_each, woke_more}
use Rattle.machine_implicit.specs.declared.place.Place.{Place}

-- ---- whom a note names

chosen_of : (since : List ℕ) (machine : Machine) (note : Note) (target : Option ℕ) → IsTarget since machine note target → IsChosenBy since machine target
chosen_of since machine note None is = tt
chosen_of since machine note (Some target) names = (note.condition, names.first)

-- ---- who is chosen by what is kept has waited longest

condition_in : Stage (List Note) → ℕ
condition_in (Waiting condition) = condition
condition_in stage = 0

same_waiting : (condition another : ℕ) → ◌≡◌ {A = Stage (List Note)} (Waiting condition) (Waiting another) → condition ≡ another
unfolding condition_in
same_waiting condition another is = ap condition_in is

pub is_chosen : (since : List ℕ) (machine : Machine) (log : List Entry) (target : Option ℕ) → KeepsWaits log machine.system.clients since → IsChosenBy since machine target → IsChosen log machine.now target
is_chosen since machine log None keeps chosen = tt
is_chosen since machine log (Some target) keeps (condition, first) = λ place on at.
    let same = same_waiting on condition (one_stage machine.now.standings target place first.place (Waiting on) (Waiting condition) at first.waits) in
    let number = get_or since target 0 - 1 in (
      number,
      keeps.each target number first.within (omega (arith, first.numbered)),
      λ other others_place waits.
          let least = first.first other others_place (subst (λ (one : ℕ). StandsAt machine.now.standings other others_place (Waiting one)) same waits) in
          let later = get_or since other 0 - 1 in
          (later, keeps.each other later least.0 (omega (arith, least.1, first.numbered)), omega (arith, least.1)),
    )

-- ---- one note after the other

pub none_made : (since : List ℕ) (client : ℕ) (machine : Machine) → MadeSome since client machine machine
none_made since client machine = record { system = refl; so_far = λ log last keeps notified. notified }

pub one_more : (since : List ℕ) (client : ℕ) (before now next : Machine) → MadeSome since client before now → MadeNote since client now next → MadeSome since client before next
one_more since client before now next some made = record {
  system = made.2.0 ∙ some.system;
  so_far = λ log last keeps notified.
      let keeps_now : KeepsWaits log now.system.clients since = subst (λ (system : System). KeepsWaits log system.clients since) (sym some.system) keeps in
      let event : IsEvent before.system (events.Notify client made.0) now.now next.now = subst (λ (system : System). IsEvent system (events.Notify client made.0) now.now next.now) some.system made.2.1 in
      some.so_far log last keeps (one_made now.now next.now last made.0 (is_chosen since now log made.0 keeps_now made.1) event notified);
}

wakes_length : (system : System) (c : Configuration) (note : Note) (target : Option ℕ) (woken : List Standing) → Wakes system c note target woken → length woken ≡ length c.standings
wakes_length system c note None woken (inl each) = ap length each.becomes ∙ woken_length c.standings note.condition
wakes_length system c note None woken (inr nobody) = ap length nobody.becomes
wakes_length system c note (Some target) woken (place, one) = ap length one.becomes ∙ put_length c.standings target place (Woken note.condition)

notes_in : Stage (List Note) → List Note
notes_in (Notifying notes) = notes
notes_in stage = []

same_notes : (notes others : List Note) → Notifying notes ≡ Notifying others → notes ≡ others
unfolding notes_in
same_notes notes others is = ap notes_in is

-- one note is taken off
pub one_taken : (since : List ℕ) (client : ℕ) (now next : Machine) (place : Place) (notes : List Note) → MadeNote since client now next → StandsAt now.now.standings client place (Notifying notes)
    → (more : List Note) × StandsAt next.now.standings client place (Notifying more) × (length more + 1 ≡ length notes)
one_taken since client now next place notes made at =
    let own_beyond = made.2.1.0 in
    let notifies = made.2.1.1 in
    let within : client < length notifies.woken = omega (arith, wakes_length now.system now.now notifies.note made.0 notifies.woken notifies.wakes, stands_within now.now.standings client place (Notifying notes) at) in
    let stands : StandsAt next.now.standings client own_beyond (Notifying notifies.more) = subst (λ (c : Configuration). StandsAt c.standings client own_beyond (Notifying notifies.more)) (sym notifies.becomes)
    (put_same notifies.woken client own_beyond (Notifying notifies.more) within) in
    let same = one_place now.now.standings client place own_beyond (Notifying notes) (Notifying (notifies.note ∷ notifies.more)) at notifies.notifying in
    let whole = same_notes notes (notifies.note ∷ notifies.more) (one_stage now.now.standings client place own_beyond (Notifying notes) (Notifying (notifies.note ∷ notifies.more)) at notifies.notifying) in
    (notifies.more, subst (λ (one : Place). StandsAt next.now.standings client one (Notifying notifies.more)) (sym same) stands, omega (arith, ap length whole))

pub has_note : (machine : Machine) (client : ℕ) (place : Place) (notes : List Note) → StandsAt machine.now.standings client place (Notifying notes) → 0 < length notes → HasNote machine client
has_note machine client place [] at some = absurd (omega (arith, some))
has_note machine client place (note ∷ more) at some = (place, note, more, at)

-- ---- who waits after a note

note_in : Note → Stage (List Note) → Note
note_in other (Notifying (note ∷ more)) = note
note_in other (Notifying []) = other
note_in other stage = other

same_first : (note other : Note) (more others : List Note) → Notifying (note ∷ more) ≡ Notifying (other ∷ others) → note ≡ other
unfolding note_in
same_first note other more others is = ap (note_in other) is

-- what an event of the note to come says of this note
record WokeFor (machine next : Machine) (client : ℕ) (note : Note) (target : Option ℕ) : Type 0 where
  place : Place
  more : List Note
  woken : List Standing
  stood : StandsAt machine.now.standings client place (Notifying (note ∷ more))
  wakes : Wakes machine.system machine.now note target woken
  is : next.now.standings ≡ put woken client place (Notifying more)
  lengths : length next.now.standings ≡ length machine.now.standings

woke_for : (machine next : Machine) (client : ℕ) (place : Place) (note : Note) (more : List Note) (target : Option ℕ) → StandsAt machine.now.standings client place (Notifying (note ∷ more)) → Happened (events.Notify client target) machine next
    → WokeFor machine next client note target
woke_for machine next client place note more target at happened =
    let own_beyond = happened.1.0 in
    let notifies = happened.1.1 in
    let same = same_first notifies.note note notifies.more more (one_stage machine.now.standings client own_beyond place (Notifying (notifies.note ∷ notifies.more)) (Notifying (note ∷ more)) notifies.notifying at) in
    let is : next.now.standings ≡ put notifies.woken client own_beyond (Notifying notifies.more) = ap (λ (c : Configuration). c.standings) notifies.becomes in
    record {
      place = own_beyond;
      more = notifies.more;
      woken = notifies.woken;
      stood = subst (λ (one : Note). StandsAt machine.now.standings client own_beyond (Notifying (one ∷ notifies.more))) same notifies.notifying;
      wakes = subst (λ (one : Note). Wakes machine.system machine.now one target notifies.woken) same notifies.wakes;
      is = is;
      lengths = ap length is ∙ put_length notifies.woken client own_beyond (Notifying notifies.more) ∙ wakes_length machine.system machine.now notifies.note target notifies.woken notifies.wakes;
    }

after_note : (P : ℕ → ℕ → Type 0) (machine next : Machine) (client : ℕ) (note : Note) (target : Option ℕ) (woke : WokeFor machine next client note target) → WaitsAfter P machine.now.standings woke.woken
    → WaitsAfter P machine.now.standings next.now.standings
after_note P machine next client note target woke after =
    quiet_put P client woke.place woke.place (Notifying woke.more) (Notifying (note ∷ woke.more)) machine.now.standings woke.woken next.now.standings woke.is woke.stood (notifying_is_quiet (note ∷ woke.more)) (notifying_is_quiet woke.more) after

each_woken : (system : System) (c : Configuration) (note : Note) (woken : List Standing) → fires system c.state note ≡ true → note.all ≡ true → Wakes system c note None woken → woken ≡ wake_all note.condition c.standings
each_woken system c note woken fired all (inl each) = each.becomes
each_woken system c note woken fired all (inr nobody) = elim nobody.nobody [
  | inl not_fired ↦ absurd (true≢false (sym fired ∙ not_fired))
  | inr none ↦ absurd (true≢false (sym all ∙ none.0))
]

-- ---- whom a note woke

-- the client itself is notifying before and after
woke_note : (machine next : Machine) (client bits : ℕ) (note : Note) (target : Option ℕ) (woke : WokeFor machine next client note target) → StandsAt woke.woken client woke.place (Notifying (note ∷ woke.more))
    → WokeThese machine.now.standings woke.woken bits → WokeThese machine.now.standings next.now.standings bits
woke_note machine next client bits note target woke stands these =
    woke_put client woke.place woke.place bits (Notifying woke.more) (Notifying (note ∷ woke.more)) machine.now.standings woke.woken next.now.standings woke.is stands (notifying_is_calm (note ∷ woke.more)) (notifying_is_calm woke.more) these

nobody_woke : (machine next : Machine) (client : ℕ) (note : Note) (target : Option ℕ) (woke : WokeFor machine next client note target) → woke.woken ≡ machine.now.standings → WokeThese machine.now.standings next.now.standings 0
nobody_woke machine next client note target woke same =
    woke_note machine next client 0 note target woke (subst (λ (some : List Standing). StandsAt some client woke.place (Notifying (note ∷ woke.more))) (sym same) woke.stood)
    (woke_nobody machine.now.standings woke.woken same)

broadcast_woke : (since : List ℕ) (machine next : Machine) (client bits : ℕ) (line : List ℕ) (note : Note) (target : Option ℕ) (woke : WokeFor machine next client note target) → woke.woken ≡ wake_all note.condition machine.now.standings
    → IsLine since machine.now.standings note.condition line → AreBits (λ one. Contains line one) bits → WokeThese machine.now.standings next.now.standings bits
broadcast_woke since machine next client bits line note target woke each is listed =
    woke_note machine next client bits note target woke
    (subst (λ (some : List Standing). StandsAt some client woke.place (Notifying (note ∷ woke.more))) (sym each)
    (unwoken_stays machine.now.standings note.condition client woke.place (Notifying (note ∷ woke.more)) woke.stood refl))
    (woke_each note.condition bits line machine.now.standings woke.woken each is.all is.only listed)

notifying_waiting : (notes : List Note) (condition : ℕ) → Notifying notes ≡ Waiting condition → ⊥
notifying_waiting notes condition is = cc is

signal_woke : (machine next : Machine) (client : ℕ) (place : Place) (on bits who : ℕ) (note : Note) (target : Option ℕ) (woke : WokeFor machine next client note target) → StandsAt machine.now.standings who place (Waiting on)
    → woke.woken ≡ put machine.now.standings who place (Woken on) → AreBits (λ one. one ≡ who) bits → WokeThese machine.now.standings next.now.standings bits
signal_woke machine next client place on bits who note target woke waits one its =
    let notes = note ∷ woke.more in
    let differs = apart machine.now.standings who place client woke.place (Waiting on) (Notifying notes) waits woke.stood (notifying_waiting notes on) in
    woke_note machine next client bits note target woke
    (subst (λ (some : List Standing). StandsAt some client woke.place (Notifying notes)) (sym one) (stays machine.now.standings who place (Woken on) client woke.place (Notifying notes) differs woke.stood))
    (woke_one who place on bits machine.now.standings woke.woken waits one its)

-- ---- a note was made

made_note : (since : List ℕ) (client : ℕ) (before next : Machine) (note : Note) (target : Option ℕ) → IsTarget since before note target → Happened (events.Notify client target) before next → MadeNote since client before next
made_note since client before next note target names happened = (target, chosen_of since before note target names, happened)

-- the first note does not fire
pub unfired_made : (client : ℕ) (before next : Machine) (rings : List (List ℕ)) (one : Next) → IsComing before client one → fires before.system before.now.state one.note ≡ false → Happened (events.Notify client None) before next
    → MadeNoteOf client before rings next rings 0
unfired_made client before next rings one is not_fired happened = λ since are.
    let woke = woke_for before next client is.place one.note is.more None is.at happened in
    let same = none_woken before.system before.now one.note woke.woken (inl not_fired) woke.wakes in (
      made_note since client before next one.note None (inl not_fired) happened,
      lines_kept since before.system next.system before.now.standings next.now.standings rings happened.0 woke.lengths
          (after_note Anyone before next client one.note None woke (nobody_left before.now.standings woke.woken same)) are,
      nobody_woke before next client one.note None woke same,
    )

pub unfired_passes : (client : ℕ) (machine : Machine) (one : Next) → IsComing machine client one → fires machine.system machine.now.state one.note ≡ false → Passes machine client
unfired_passes client machine one is not_fired = (is.place, one.note, is.more, is.at, inl not_fired)

pub fired_of : (client : ℕ) (machine : Machine) (one : Next) → IsComing machine client one → fires machine.system machine.now.state one.note ≡ true → IsFired machine client one.note
fired_of client machine one is fired = (is.place, is.more, is.at, fired)

-- a broadcast that fires
pub broadcast_made : (client bits : ℕ) (before next : Machine) (rings : List (List ℕ)) (note : Note) → IsFired before client note → note.all ≡ true → AreBits (λ one. Contains (line_of rings note.condition) one) bits
    → Happened (events.Notify client None) before next → MadeNoteOf client before rings next (set rings note.condition []) bits
broadcast_made client bits before next rings note fired all listed happened = λ since are.
    let woke = woke_for before next client fired.0 note fired.1 None fired.2 happened in (
      made_note since client before next note None (inr (inl all)) happened,
      lines_cleared since before.system next.system before.now.standings next.now.standings rings note.condition happened.0 woke.lengths
          (after_note (ButOn note.condition) before next client note None woke
          (each_left note.condition before.now.standings woke.woken (each_woken before.system before.now note woke.woken fired.3 all woke.wakes))) are,
      broadcast_woke since before next client bits (line_of rings note.condition) note None woke (each_woken before.system before.now note woke.woken fired.3 all woke.wakes) (are.each note.condition) listed,
    )

-- a note that fires where no one waits
none_in : (since : List ℕ) (standings : List Standing) (condition : ℕ) (line : List ℕ) → IsLine since standings condition line → slice_get line 0 ≡ None → NoneWaits standings condition
none_in since standings condition [] is none client place at = absurd (omega (arith, (is.all client place at).1))
none_in since standings condition (first ∷ line) is none client place at = none-some first (sym none)

pub empty_passes : (client : ℕ) (machine : Machine) (rings : List (List ℕ)) (note : Note) → HaveLines machine.system machine.now.standings rings → IsFired machine client note → slice_get (line_of rings note.condition) 0 ≡ None
    → Passes machine client
empty_passes client machine rings note lines fired none = (fired.0, note, fired.1, fired.2, inr (none_in lines.0 machine.now.standings note.condition (line_of rings note.condition) (lines.1.each note.condition) none))

pub nobody_made : (client : ℕ) (before next : Machine) (rings : List (List ℕ)) (note : Note) → IsFired before client note → slice_get (line_of rings note.condition) 0 ≡ None → Happened (events.Notify client None) before next
    → MadeNoteOf client before rings next rings 0
nobody_made client before next rings note fired none happened = λ since are.
    let woke = woke_for before next client fired.0 note fired.1 None fired.2 happened in
    let none_waits = none_in since before.now.standings note.condition (line_of rings note.condition) (are.each note.condition) none in
    let same = none_woken before.system before.now note woke.woken (inr none_waits) woke.wakes in (
      made_note since client before next note None (inr (inr none_waits)) happened,
      lines_kept since before.system next.system before.now.standings next.now.standings rings happened.0 woke.lengths
          (after_note Anyone before next client note None woke (nobody_left before.now.standings woke.woken same)) are,
      nobody_woke before next client note None woke same,
    )

-- a signal that fires wakes the first of the ring, who is the first waiter
first_is_first : (since : List ℕ) (standings : List Standing) (condition target : ℕ) (line : List ℕ) → length since ≡ length standings → IsLine since standings condition line → slice_get line 0 ≡ Some target
    → IsFirst since standings condition target
first_is_first since standings condition target [] one_each is first = absurd (none-some target first)
first_is_first since standings condition target (head ∷ line) one_each is first =
    let same : head ≡ target = same_Some head target first in
    let stood = is.only target (0, omega arith, same) in
    record {
      place = stood.0;
      waits = stood.1;
      within = omega (arith, one_each, stands_within standings target stood.0 (Waiting condition) stood.1);
      numbered = is.numbered target (0, omega arith, same);
      first = λ other others_place at. (omega (arith, one_each, stands_within standings other others_place (Waiting condition) at), least other (is.all other others_place at) same);
    }
  where
    least : (other : ℕ) → Contains (head ∷ line) other → head ≡ target → get_or since target 0 ≤ get_or since other 0
    least other (zero, within, at) same = omega (arith, ap (λ (who : ℕ). get_or since who 0) (sym same ∙ at))
    least other (suc k, within, at) same = omega (arith, is.rising 0 (suc k) other (omega arith) within, ap (λ (who : ℕ). get_or since who 0) same, ap (λ (who : ℕ). get_or since who 0) at)

first_named : (since : List ℕ) (machine : Machine) (rings : List (List ℕ)) (note : Note) (target : ℕ) → AreLines since machine.system machine.now.standings rings → fires machine.system machine.now.state note ≡ true → note.all ≡ false
    → slice_get (line_of rings note.condition) 0 ≡ Some target → IsTarget since machine note (Some target)
first_named since machine rings note target are fired one first = record {
  fired = fired;
  one = one;
  first = first_is_first since machine.now.standings note.condition target (line_of rings note.condition) are.one_each (are.each note.condition) first;
}

-- it waits
pub first_waits : (machine : Machine) (rings : List (List ℕ)) (condition target : ℕ) → HaveLines machine.system machine.now.standings rings → slice_get (line_of rings condition) 0 ≡ Some target
    → (place : Place) × StandsAt machine.now.standings target place (Waiting condition)
first_waits machine rings condition target lines first =
    let is = first_is_first lines.0 machine.now.standings condition target (line_of rings condition) lines.1.one_each (lines.1.each condition) first in
    (is.place, is.waits)

pub signal_made : (client bits : ℕ) (before next : Machine) (rings : List (List ℕ)) (note : Note) (target : ℕ) → IsFired before client note → note.all ≡ false → slice_get (line_of rings note.condition) 0 ≡ Some target
    → Happened (events.Notify client (Some target)) before next → AreBits (λ other. other ≡ target) bits
    → MadeNoteOf client before rings next (set rings note.condition (drop 1 (line_of rings note.condition))) bits
signal_made client bits before next rings note target fired one first happened its = λ since are.
    let woke = woke_for before next client fired.0 note fired.1 (Some target) fired.2 happened in (
      made_note since client before next note (Some target) (first_named since before rings note target are fired.3 one first) happened,
      subst (λ (line : List ℕ). AreLines since next.system next.now.standings (set rings note.condition line))
          (without_first since before.now.standings note.condition target (line_of rings note.condition) (are.each note.condition) first)
          (lines_left since before.system next.system before.now.standings next.now.standings rings target woke.wakes.0 note.condition happened.0 woke.lengths woke.wakes.1.waits
          (after_note (ButOne target) before next client note (Some target) woke
          (one_left target woke.wakes.0 note.condition before.now.standings woke.woken woke.wakes.1.waits woke.wakes.1.becomes)) are),
      signal_woke before next client woke.wakes.0 note.condition bits target note (Some target) woke woke.wakes.1.waits woke.wakes.1.becomes its,
    )

-- ---- clients of a line have bits

pub line_few : (condition : ℕ) (machine : Machine) (rings : List (List ℕ)) → HaveLines machine.system machine.now.standings rings → length machine.now.standings ≤ CLIENTS → All (λ one. one < CLIENTS) (line_of rings condition)
line_few condition machine rings lines few i d within =
    let who = get_or (line_of rings condition) i d in
    let stood = (lines.1.each condition).only who (Contains-get_or (line_of rings condition) i d within) in
    omega (arith, few, stands_within machine.now.standings who stood.0 (Waiting condition) stood.1)

pub first_few : (condition target : ℕ) (machine : Machine) (rings : List (List ℕ)) → HaveLines machine.system machine.now.standings rings → length machine.now.standings ≤ CLIENTS → slice_get (line_of rings condition) 0 ≡ Some target → target < CLIENTS
first_few condition target machine rings lines few first =
    let is = first_is_first lines.0 machine.now.standings condition target (line_of rings condition) lines.1.one_each (lines.1.each condition) first in
    omega (arith, few, stands_within machine.now.standings target is.place (Waiting condition) is.waits)

-- ---- all of them

pub making_starts : (client : ℕ) (machine : Machine) (rings : List (List ℕ)) (end : ℕ) → CountsNotes machine.now.standings client end → AreMaking client machine rings machine rings 0 end 0
making_starts client machine rings end counts = record {
  some = λ since are. (none_made since client machine, are, woke_nobody machine.now.standings machine.now.standings refl);
  left = λ place notes at. (notes, at, omega (arith, counts place notes at));
}

pub making_lines : (client : ℕ) (before : Machine) (rings : List (List ℕ)) (now : Machine) (rings_now : List (List ℕ)) (count end bits : ℕ) → AreMaking client before rings now rings_now count end bits
    → HaveLines before.system before.now.standings rings → HaveLines now.system now.now.standings rings_now
making_lines client before rings now rings_now count end bits making lines = (lines.0, (making.some lines.0 lines.1).1)

pub making_goes_on : (client : ℕ) (before : Machine) (rings : List (List ℕ)) (now : Machine) (rings_now : List (List ℕ)) (next : Machine) (rings_next : List (List ℕ)) (count end bits more : ℕ)
    → AreMaking client before rings now rings_now count end bits → HaveLines now.system now.now.standings rings_now → MadeNoteOf client now rings_now next rings_next more
    → AreMaking client before rings next rings_next (count + 1) end (bit_or bits more)
making_goes_on client before rings now rings_now next rings_next count end bits more making lines made = record {
  some = λ since are.
      let some = making.some since are in
      let one = made since some.1 in
      (one_more since client before now next some.0 one.0, one.1, woke_more before.now.standings now.now.standings next.now.standings bits more some.2 one.2);
  left = λ place notes at.
      let rest = making.left place notes at in
      let taken = one_taken lines.0 client now next place rest.0 (made lines.0 lines.1).0 rest.1 in
      (taken.0, taken.1, omega (arith, taken.2, rest.2));
}

pub making_has_note : (client : ℕ) (before : Machine) (rings : List (List ℕ)) (now : Machine) (rings_now : List (List ℕ)) (count end bits : ℕ) → AreMaking client before rings now rings_now count end bits → IsNotifying before client → count < end
    → HasNote now client
making_has_note client before rings now rings_now count end bits making notifying below =
    let rest = making.left notifying.0 notifying.1 notifying.2 in
    has_note now client notifying.0 rest.0 rest.1 (omega (arith, rest.2, below))

no_notes : (standings : List Standing) (client : ℕ) (place : Place) (notes : List Note) → StandsAt standings client place (Notifying notes) → length notes ≡ 0 → StandsAt standings client place (Notifying [])
no_notes standings client place [] at none = at
no_notes standings client place (note ∷ notes) at none = absurd (omega (arith, none))

pub making_ends : (client : ℕ) (before : Machine) (rings : List (List ℕ)) (last : Machine) (rings_last : List (List ℕ)) (count end bits : ℕ) → AreMaking client before rings last rings_last count end bits → IsNotifying before client → end ≤ count
    → MadeNotesOf client before rings last rings_last bits
making_ends client before rings last rings_last count end bits making notifying over = λ since are.
    let some = making.some since are in
    let done = λ (place : Place) (notes : List Note) (at : StandsAt before.now.standings client place (Notifying notes)).
    let rest = making.left place notes at in
    no_notes last.now.standings client place rest.0 rest.1 (omega (arith, rest.2, over)) in (
      record {
        system = some.0.system;
        done = done;
        notified = λ log keeps. some.0.so_far log last.now keeps (all_made last.now notifying.0 (done notifying.0 notifying.1 notifying.2));
      },
      some.1,
      some.2,
    )
