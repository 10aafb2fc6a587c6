-- Under a relayed plan a section wakes, of the clients that wait on a condition that reads no
-- inputs, one at most.
use Rattle.std.proofs.Common.{◌≡◌, ◌==◌, ◌⊎◌, inl, inr, ℕ, ◌^◌, Bool, true, false, not, cond, ◌&&◌, List, [], ◌∷◌, Option, Some, None, refl, sym, ap, subst, ◌∙◌}
use Rattle.std.specs.Prelude.{All, IsBitSet}
use Rattle.std.specs.Int.Bits.{and_zero_l, bit_and}
use Rattle.std.proofs.lemmas.Bool.{true≢false, cases_eq, ne_eqb}
use Rattle.std.proofs.lemmas.List.Elements.{All-nil, All-cons, All-head, All-tail}
use Rattle.lang_base.specs.declared.value.Value.{Value}
use Rattle.lang_monitor.specs.MonitorParts.{MonitorParts}
use Rattle.machine_implicit.specs.declared.commit.Reply.{Reply}
use Rattle.machine_implicit.specs.declared.commit.Reply.TheVariants as replies
use Rattle.machine_implicit.specs.declared.place.Place.{Place}
use Rattle.machine_implicit.specs.declared.script.Client.{Client}
use Rattle.machine_implicit.specs.Places.{block_at}
use Rattle.machine_events.specs.declared.log.Entry.{Entry}
use Rattle.machine_events.specs.declared.log.Outcome.{Outcome}
use Rattle.machine_events.specs.declared.log.Outcome.TheVariants as outcomes
use Rattle.machine_events.specs.declared.plan.Note.{Note}
use Rattle.machine_events.specs.declared.plan.Plan.{Plan}
use Rattle.machine_events.specs.declared.event.Stage.{Stage}
use Rattle.machine_events.specs.Configurations.{System, Standing, Configuration, StandsAt, block_condition, system_under}
use Rattle.machine_events.specs.declared.event.Stage.TheVariants.{Idle, Entering, Waiting, Woken, Inside, Notifying}
use Rattle.machine_events.specs.Events.{Locks, Notifies, StepsInside, Unlocks, Wakes, notes_after, own_signal}
use Rattle.machine_events.specs.Logs.{AreWoken, IsBegun, IsNotified, IsSection}
use Rattle.machine_events.specs.Logs.IsNotified.{all_made, one_made}
use Rattle.machine_events.specs.Logs.IsSection.{waited, refused, replied}
use Rattle.machine_events.specs.Plans.{notes_at}
use Rattle.machine_events.proofs.Sound.{target_apart}
use Rattle.machine_events.proofs.Standings.{apart, one_stage, put_other, put_same, stands_within, stays, unwoken_stays}
use Rattle.logic_wp.specs.PlainClaims.{ReadsNone}
use Rattle.plan_claims.specs.Backing.{reads_none}
use Rattle.plan_place.specs.Relayed.{WakesAtMostOne, relay_of}
use Rattle.plan_claims.proofs.Backed.{reads_as_test}
use Rattle.plan_place.proofs.NotesOn.{NoneOn, OnceOn, once_made}
use Rattle.plan_place.proofs.RelayedPlans.{each_made, made_on, of_each, on_theirs}

-- ---- stages

named : Stage (List Note) → ℕ
named Idle = 0
named Entering = 0
named (Waiting condition) = condition
named (Woken condition) = condition
named Inside = 0
named (Notifying notes) = 0

to_come : Stage (List Note) → List Note
to_come Idle = []
to_come Entering = []
to_come (Waiting condition) = []
to_come (Woken condition) = []
to_come Inside = []
to_come (Notifying notes) = notes

same_condition : (condition other : ℕ) → ◌≡◌ {A = Stage (List Note)} (Waiting condition) (Waiting other) → condition ≡ other
unfolding named
same_condition condition other is = ap named is

same_notes : (notes other : List Note) → Notifying notes ≡ Notifying other → notes ≡ other
unfolding to_come
same_notes notes other is = ap to_come is

not_both : (standings : List Standing) (client : ℕ) (place other_place : Place) (condition : ℕ)
    → StandsAt standings client place (Waiting condition) → StandsAt standings client other_place (Woken condition) → ⊥
not_both standings client place other_place condition waits woken =
    let same = one_stage standings client place other_place (Waiting condition) (Woken condition) waits woken in cc same

-- ---- a client that waits on a condition, while another makes its notes

-- a note on another condition leaves it waiting
waits_through : (system : System) (c : Configuration) (note : Note) (target : Option ℕ) (woken : List Standing) (condition client : ℕ) (place : Place)
    → Wakes system c note target woken → (note.condition ≡ condition → ⊥) → StandsAt c.standings client place (Waiting condition)
    → StandsAt woken client place (Waiting condition)
waits_through system c note None woken condition client place (inl each) differs waits =
    subst (λ (one : List Standing). StandsAt one client place (Waiting condition)) (sym each.becomes)
    (unwoken_stays c.standings note.condition client place (Waiting condition) waits (ne_eqb condition note.condition (λ same. differs (sym same))))
waits_through system c note None woken condition client place (inr nobody) differs waits =
    subst (λ (one : List Standing). StandsAt one client place (Waiting condition)) (sym nobody.becomes) waits
waits_through system c note (Some target) woken condition client place (target_place, one) differs waits =
    subst (λ (some : List Standing). StandsAt some client place (Waiting condition)) (sym one.becomes)
    (stays c.standings target target_place (Woken note.condition) client place (Waiting condition)
    (apart c.standings target target_place client place (Waiting note.condition) (Waiting condition) one.waits waits (λ same. differs (sym (same_condition condition note.condition same)))) waits)

-- the client that makes the note stays where it is
maker_stays : (system : System) (c : Configuration) (note : Note) (target : Option ℕ) (woken : List Standing) (client : ℕ) (place : Place) (notes : List Note)
    → Wakes system c note target woken → StandsAt c.standings client place (Notifying notes) → StandsAt woken client place (Notifying notes)
maker_stays system c note None woken client place notes (inl each) at =
    subst (λ (one : List Standing). StandsAt one client place (Notifying notes)) (sym each.becomes) (unwoken_stays c.standings note.condition client place (Notifying notes) at refl)
maker_stays system c note None woken client place notes (inr nobody) at =
    subst (λ (one : List Standing). StandsAt one client place (Notifying notes)) (sym nobody.becomes) at
maker_stays system c note (Some target) woken client place notes (target_place, one) at =
    subst (λ (some : List Standing). StandsAt some client place (Notifying notes)) (sym one.becomes) (target_apart c.standings client place target target_place note.condition notes at one.waits)

-- after the note the maker has one note less to come
maker_then : (system : System) (client : ℕ) (place : Place) (target : Option ℕ) (c next : Configuration) (event : Notifies system client place target c next)
    → StandsAt next.standings client place (Notifying event.more)
maker_then system client place target c next event =
    let still = maker_stays system c event.note target event.woken client place (event.note ∷ event.more) event.wakes event.notifying in
    subst (λ (one : Configuration). StandsAt one.standings client place (Notifying event.more)) (sym event.becomes)
    (put_same event.woken client place (Notifying event.more) (stands_within event.woken client place (Notifying (event.note ∷ event.more)) still))

-- who waits beside the maker still waits, where the note leaves it waiting
waits_then : (system : System) (client : ℕ) (place : Place) (target : Option ℕ) (c next : Configuration) (event : Notifies system client place target c next)
    → (condition other : ℕ) (others_place : Place) → StandsAt event.woken other others_place (Waiting condition)
    → StandsAt next.standings other others_place (Waiting condition)
waits_then system client place target c next event condition other others_place waits =
    let still = maker_stays system c event.note target event.woken client place (event.note ∷ event.more) event.wakes event.notifying in
    subst (λ (one : Configuration). StandsAt one.standings other others_place (Waiting condition)) (sym event.becomes)
    (stays event.woken client place (Notifying event.more) other others_place (Waiting condition)
    (apart event.woken client place other others_place (Notifying (event.note ∷ event.more)) (Waiting condition) still waits (λ same. cc same)) waits)

-- the notes to come are those of the first event
come_first : (system : System) (client : ℕ) (place own : Place) (target : Option ℕ) (c next : Configuration) (notes : List Note)
    → StandsAt c.standings client place (Notifying notes) → (event : Notifies system client own target c next) → notes ≡ event.note ∷ event.more
come_first system client place own target c next notes at event =
    same_notes notes (event.note ∷ event.more) (one_stage c.standings client place own (Notifying notes) (Notifying (event.note ∷ event.more)) at event.notifying)

-- where no note is on its condition it waits to the end
still_waits : (system : System) (log : List Entry) (client : ℕ) (c last : Configuration) → IsNotified system log client c last
    → (place : Place) (notes : List Note) → StandsAt c.standings client place (Notifying notes) → (condition : ℕ) → NoneOn condition notes
    → (other : ℕ) (others_place : Place) → StandsAt c.standings other others_place (Waiting condition)
    → StandsAt last.standings other others_place (Waiting condition)
still_waits system log client c last (all_made own where_place at) place notes stands condition none other others_place waits = waits
still_waits system log client c last (one_made own next end target chosen happens more) place notes stands condition none other others_place waits =
    let event = happens.1 in
    let clear : NoneOn condition (event.note ∷ event.more) = subst (NoneOn condition) (come_first system client place happens.0 target own next notes stands event) none in
    still_waits system log client next end more happens.0 event.more (maker_then system client happens.0 target own next event) condition clear.1 other others_place
    (waits_then system client happens.0 target own next event condition other others_place
    (waits_through system own event.note target event.woken condition other others_place event.wakes clear.0 waits))

abbrev AreSignals : ℕ → List Note → Type 0
AreSignals condition notes = All (λ note. note.condition ≡ condition → note.all ≡ false) notes

-- whom a signal leaves waiting
left_waiting : (system : System) (c : Configuration) (note : Note) (target : Option ℕ) (woken : List Standing) (condition one other : ℕ) (place others_place : Place)
    → Wakes system c note target woken → note.all ≡ false
    → StandsAt c.standings one place (Waiting condition) → StandsAt c.standings other others_place (Waiting condition)
    → (one ≡ other) ⊎ (StandsAt woken one place (Waiting condition) ⊎ StandsAt woken other others_place (Waiting condition))
left_waiting system c note None woken condition one other place others_place (inl each) signal waits others_wait =
    absurd (true≢false (sym each.each ∙ signal))
left_waiting system c note None woken condition one other place others_place (inr nobody) signal waits others_wait =
    inr (inl (subst (λ (some : List Standing). StandsAt some one place (Waiting condition)) (sym nobody.becomes) waits))
left_waiting system c note (Some target) woken condition one other place others_place (target_place, wakes) signal waits others_wait =
    elim (cases_eq one target) [
      | inl same ↦ elim (cases_eq other target) [
        | inl too ↦ inl (same ∙ sym too)
        | inr differs ↦ inr (inr (subst (λ (some : List Standing). StandsAt some other others_place (Waiting condition)) (sym wakes.becomes)
            (stays c.standings target target_place (Woken note.condition) other others_place (Waiting condition) differs others_wait)))
      ]
      | inr differs ↦ inr (inl (subst (λ (some : List Standing). StandsAt some one place (Waiting condition)) (sym wakes.becomes)
          (stays c.standings target target_place (Woken note.condition) one place (Waiting condition) differs waits)))
    ]

-- two that wait on the condition and are woken by the notes are one
one_woken : (system : System) (log : List Entry) (client : ℕ) (c last : Configuration) → IsNotified system log client c last
    → (place : Place) (notes : List Note) → StandsAt c.standings client place (Notifying notes)
    → (condition : ℕ) → OnceOn condition notes → AreSignals condition notes
    → (one other : ℕ) (ones_place others_place end_place end_other : Place)
    → StandsAt c.standings one ones_place (Waiting condition) → StandsAt c.standings other others_place (Waiting condition)
    → StandsAt last.standings one end_place (Woken condition) → StandsAt last.standings other end_other (Woken condition) → one ≡ other
one_woken system log client c last (all_made own where_place at) place notes stands condition once signals one other ones_place others_place end_place end_other waits others_wait woken others_woken =
    absurd (not_both own.standings one ones_place end_place condition waits woken)
one_woken system log client c last (one_made own next end target chosen happens more) place notes stands condition once signals one other ones_place others_place end_place end_other waits others_wait woken others_woken =
    let event = happens.1 in
    let first = come_first system client place happens.0 target own next notes stands event in
    let unique : OnceOn condition (event.note ∷ event.more) = subst (OnceOn condition) first once in
    let all : AreSignals condition (event.note ∷ event.more) = subst (AreSignals condition) first signals in
    let maker = maker_then system client happens.0 target own next event in
    elim (cases_eq event.note.condition condition) [
      | inl same ↦
          let gone = still_waits system log client next end more happens.0 event.more maker condition (unique.0 same) in
          elim (left_waiting system own event.note target event.woken condition one other ones_place others_place event.wakes
          (All-head (λ (note : Note). note.condition ≡ condition → note.all ≡ false) event.note event.more all same) waits others_wait) [
            | inl is ↦ is
            | inr left ↦ elim left [
              | inl first_left ↦ absurd (not_both end.standings one ones_place end_place condition
                  (gone one ones_place (waits_then system client happens.0 target own next event condition one ones_place first_left)) woken)
              | inr other_left ↦ absurd (not_both end.standings other others_place end_other condition
                  (gone other others_place (waits_then system client happens.0 target own next event condition other others_place other_left)) others_woken)
            ]
          ]
      | inr differs ↦
          one_woken system log client next end more happens.0 event.more maker condition unique.1
          (All-tail (λ (note : Note). note.condition ≡ condition → note.all ≡ false) event.note event.more all) one other ones_place others_place end_place end_other
          (waits_then system client happens.0 target own next event condition one ones_place (waits_through system own event.note target event.woken condition one ones_place event.wakes differs waits))
          (waits_then system client happens.0 target own next event condition other others_place (waits_through system own event.note target event.woken condition other others_place event.wakes differs others_wait))
          woken others_woken
    ]

-- ---- the notes of a relayed plan

signal_after : (all test : Bool) → test ≡ true → (all && not test) ≡ false
signal_after true test is = ap not is
signal_after false test is = refl

relayed_signals : (monitor : MonitorParts) (plan : Plan) (condition block : ℕ) → reads_none monitor condition ≡ true
    → AreSignals condition (notes_at (relay_of monitor plan) block)
relayed_signals monitor plan condition block reads =
    of_each (AreSignals condition) monitor plan block (All-nil (λ (note : Note). note.condition ≡ condition → note.all ≡ false)) (λ notes is.
    each_made (λ (note : Note). note.condition ≡ condition → note.all ≡ false) monitor plan.kinds block notes
    (λ own note low high on there here. signal_after note.all (reads_none monitor note.condition) (ap (reads_none monitor) here ∙ reads))
    (λ own low high hands here. refl))

relayed_once : (monitor : MonitorParts) (plan : Plan) (condition block : ℕ) → OnceOn condition (notes_at (relay_of monitor plan) block)
relayed_once monitor plan condition block =
    of_each (OnceOn condition) monitor plan block tt (λ notes is.
    once_made condition (made_on monitor plan.kinds block notes) (on_theirs monitor plan.kinds block notes) 1 _)

-- after an overflow: the one signal, or none
once_own : (system : System) (condition block : ℕ) (none : Bool) → OnceOn condition (cond none [] (own_signal system block ∷ []))
once_own system condition block true = tt
once_own system condition block false = ((λ same. tt), tt)

signals_own : (system : System) (condition block : ℕ) (none : Bool) → AreSignals condition (cond none [] (own_signal system block ∷ []))
signals_own system condition block true = All-nil (λ (note : Note). note.condition ≡ condition → note.all ≡ false)
signals_own system condition block false =
    All-cons (λ (note : Note). note.condition ≡ condition → note.all ≡ false) (own_signal system block) [] (λ same. refl) (All-nil (λ (note : Note). note.condition ≡ condition → note.all ≡ false))

once_after : (system : System) (condition block : ℕ) (reply : Reply) → OnceOn condition (notes_at system.plan block) → OnceOn condition (notes_after system block reply)
once_after system condition block replies.Unit once = once
once_after system condition block (replies.Int number) once = once
once_after system condition block (replies.Bool truth) once = once
once_after system condition block replies.Overflow once = once_own system condition block (block_condition system.monitor block == 0)
once_after system condition block replies.Refused once = tt

signals_after : (system : System) (condition block : ℕ) (reply : Reply) → AreSignals condition (notes_at system.plan block) → AreSignals condition (notes_after system block reply)
signals_after system condition block replies.Unit signals = signals
signals_after system condition block (replies.Int number) signals = signals
signals_after system condition block (replies.Bool truth) signals = signals
signals_after system condition block replies.Overflow signals = signals_own system condition block (block_condition system.monitor block == 0)
signals_after system condition block replies.Refused signals = All-nil (λ (note : Note). note.condition ≡ condition → note.all ≡ false)

-- ---- sections

-- a client that waits is another than the one that makes the section, and waits on until that one
-- notifies
begins_apart : (system : System) (client : ℕ) (place : Place) (before begun : Configuration) → IsBegun system client place before begun
    → (condition other : ℕ) (others_place : Place) → StandsAt before.standings other others_place (Waiting condition)
    → (other ≡ client → ⊥) × StandsAt begun.standings other others_place (Waiting condition)
begins_apart system client place before begun (inl begins) condition other others_place waits =
    let differs = apart before.standings client place other others_place Idle (Waiting condition) begins.idle waits (λ same. cc same) in
    (differs, subst (λ (c : Configuration). StandsAt c.standings other others_place (Waiting condition)) (sym begins.becomes) (stays before.standings client place Entering other others_place (Waiting condition) differs waits))
begins_apart system client place before begun (inr goes_on) condition other others_place waits =
    let woken = goes_on.0 in (
      apart before.standings client place other others_place (Woken woken.0) (Waiting condition) woken.1 waits (λ same. cc same),
      subst (λ (c : Configuration). StandsAt c.standings other others_place (Waiting condition)) (sym goes_on.1) waits,
    )

waits_on_still : (system : System) (client : ℕ) (place goes : Place) (reply : Reply) (state : List Value) (before begun locked ran : Configuration)
    → IsBegun system client place before begun → Locks client place begun locked → StepsInside system client place goes reply state locked ran
    → (condition other : ℕ) (others_place : Place) → StandsAt before.standings other others_place (Waiting condition)
    → (other ≡ client → ⊥) × StandsAt ran.standings other others_place (Waiting condition)
waits_on_still system client place goes reply state before begun locked ran begins locks steps condition other others_place waits =
    let first = begins_apart system client place before begun begins condition other others_place waits in
    let second = subst (λ (c : Configuration). StandsAt c.standings other others_place (Waiting condition)) (sym locks.becomes) (stays begun.standings client place Inside other others_place (Waiting condition) first.0 first.1) in (
      first.0,
      subst (λ (c : Configuration). StandsAt c.standings other others_place (Waiting condition)) (sym steps.becomes)
          (stays locked.standings client goes _ other others_place (Waiting condition) first.0 second),
    )

-- the one that is woken at the end was woken by the notes
woken_then : (client : ℕ) (goes : Place) (notified next : Configuration) → Unlocks client goes notified next → (condition other : ℕ) (others_place : Place)
    → (other ≡ client → ⊥) → StandsAt next.standings other others_place (Woken condition) → StandsAt notified.standings other others_place (Woken condition)
woken_then client goes notified next unlocks condition other others_place differs woken =
    sym (put_other notified.standings client goes Idle other differs)
    ∙ subst (λ (c : Configuration). StandsAt c.standings other others_place (Woken condition)) unlocks.becomes woken

-- whose bit is set and who waited on the condition is woken on it
woken_on : (before next : Configuration) (woken : ℕ) → AreWoken before next woken → (condition client : ℕ) (place : Place)
    → IsBitSet woken client → StandsAt before.standings client place (Waiting condition)
    → (end_place : Place) × StandsAt next.standings client end_place (Woken condition)
woken_on before next woken are condition client place set waits =
    let known = (are client).0 set in
    let same = same_condition known.1 condition (one_stage before.standings client known.0 place (Waiting known.1) (Waiting condition) known.2 waits) in
    (known.0, subst (λ (on : ℕ). StandsAt next.standings client known.0 (Woken on)) same known.3)

bits_of : Outcome → ℕ
bits_of outcomes.Waits = 0
bits_of (outcomes.Replies reply woken) = woken
bits_of outcomes.Spurious = 0

same_bits : (reply other : Reply) (woken others : ℕ) → outcomes.Replies reply woken ≡ outcomes.Replies other others → woken ≡ others
unfolding bits_of
same_bits reply other woken others is = ap bits_of is

pub section_wakes_one : (monitor : MonitorParts) (plan : Plan) (clients : List Client) (log : List Entry) (before next : Configuration) (entry : Entry) (condition : ℕ)
    → ReadsNone monitor condition → IsSection (system_under monitor clients (relay_of monitor plan)) log before entry next
    → WakesAtMostOne before condition entry
section_wakes_one monitor plan clients log before next entry condition reads (waited client place begun locked last free begins locks waits) reply woken one other is first second = absurd (cc is)
section_wakes_one monitor plan clients log before next entry condition reads (refused client place goes own state begun locked ran last free begins locks refuses unlocks) reply woken one other is first second =
    absurd (first.0 (ap (λ (bits : ℕ). bit_and bits (2 ^ one)) (sym (same_bits own reply 0 woken is)) ∙ and_zero_l (2 ^ one)))
section_wakes_one monitor plan clients log before next entry condition reads (replied client place goes bits own state begun locked ran notified last free begins locks runs notes unlocks are) reply woken one other is first second =
    let system = system_under monitor clients (relay_of monitor plan) in
    let same = same_bits own reply bits woken is in
    let test = reads_as_test monitor condition reads in
    let steps = runs.steps in
    let block = block_at system.monitor steps.step.call place in
    let told = notes_after system block own in
    let stands : StandsAt ran.standings client goes (Notifying told) =
    subst (λ (c : Configuration). StandsAt c.standings client goes (Notifying told)) (sym steps.becomes)
    (put_same locked.standings client goes (Notifying told) (stands_within locked.standings client place Inside steps.inside)) in
    let one_first = waits_on_still system client place goes own state before begun locked ran begins locks steps condition one first.1.0 first.1.1 in
    let other_first = waits_on_still system client place goes own state before begun locked ran begins locks steps condition other second.1.0 second.1.1 in
    let one_end = woken_on before last bits are condition one first.1.0 (subst (λ (all : ℕ). IsBitSet all one) (sym same) first.0) first.1.1 in
    let other_end = woken_on before last bits are condition other second.1.0 (subst (λ (all : ℕ). IsBitSet all other) (sym same) second.0) second.1.1 in
    one_woken system log client ran notified notes goes told stands condition
    (once_after system condition block own (relayed_once monitor plan condition block)) (signals_after system condition block own (relayed_signals monitor plan condition block test))
    one other first.1.0 second.1.0 one_end.0 other_end.0 one_first.1 other_first.1
    (woken_then client goes notified last unlocks condition one one_end.0 one_first.0 one_end.1) (woken_then client goes notified last unlocks condition other other_end.0 other_first.0 other_end.1)
