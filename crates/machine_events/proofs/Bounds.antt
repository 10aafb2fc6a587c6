-- The bound of a log: each section begins a block or uses up a wake, and a commit wakes at most the
-- other clients.
use Rattle.std.proofs.Common.{◌≡◌, ◌==◌, ℕ, zero, suc, ◌+◌, ◌*◌, ◌≤◌, Bool, true, false, cond, List, [], ◌∷◌, ◌++◌, map, length, sum_by, count_by, Option, Some, None, refl, sym, ap, subst, ◌∙◌, arith, inl, inr}
use Rattle.std.specs.Prelude.{slice_get}
use Rattle.std.proofs.lemmas.List.{length_push}
use Rattle.std.proofs.lemmas.List.Sums.{sum_by-set, sum_by-cons}
use Rattle.std.proofs.lemmas.Option.{none-some, same_Some, get_or_from_slice_get}
use Rattle.std.proofs.lemmas.Grind.{common_steps}
use Rattle.machine_implicit.specs.declared.commit.Reply.{Reply}
use Rattle.lang_base.specs.declared.value.Value.{Value}
use Rattle.machine_implicit.specs.declared.script.Client.{Client}
use Rattle.machine_implicit.specs.Scripted.{calls_of, blocks_in, all_blocks}
use Rattle.machine_events.specs.declared.plan.Note.{Note}
use Rattle.machine_events.specs.declared.event.Event.TheVariants as events
use Rattle.machine_events.specs.declared.log.Entry.{Entry}
use Rattle.machine_events.specs.declared.log.Outcome.TheVariants as outcomes
use Rattle.machine_events.specs.declared.event.Stage.{Stage}
use Rattle.machine_events.specs.Configurations.{System, Standing, Configuration, StandsAt, put, idle_at, situation_of, waited_condition}
use Rattle.machine_events.specs.declared.event.Stage.TheVariants.{Idle, Entering, Waiting, Woken, Inside, Notifying}
use Rattle.machine_events.specs.Events.{waking, wake_all, Begins, Locks, Waits, Wakes as WakesBy}
use Rattle.machine_events.specs.Pending.{IsSystem, IsSound, has_begun}
use Rattle.machine_events.proofs.Legal.{section_keeps, sound_lasts}
use Rattle.machine_events.proofs.Facing.{at_index}
use Rattle.machine_events.specs.Logs.{IsNotified, IsBegun, IsSection, IsLegal, is_spurious_entry, entry_at, IsBounded}
use Rattle.machine_implicit.specs.declared.place.Place.{Place}
use Rattle.machine_implicit.specs.Places.{block_at, FitsPlaceAt}
use Rattle.machine_implicit.specs.Runs.{first_places}
use Rattle.lang_monitor.specs.MonitorParts.{MonitorParts}
use Rattle.std.proofs.Common.{mul-le-mul_left}
use Rattle.machine_implicit.proofs.Left.{left_in, left_of, some_left, run_counts}
use Rattle.machine_events.specs.Logs.IsNotified.{all_made, one_made}
use Rattle.machine_events.specs.Logs.IsSection.{waited, refused, replied}
use Rattle.machine_events.specs.Logs.IsLegal.{empty, sectioned, woken as woken_entry}
use Rattle.machine_events.specs.Events.{Notifies, StepsInside, Unlocks, notes_after}
use Rattle.machine_events.proofs.Sound.{event_keeps_sound, start_is_sound, target_apart}
use Rattle.machine_events.proofs.Standings.{put_same, stands_within, unwoken_stays}

-- ---- what is counted of each client

abbrev woken_in : Stage (List Note) → ℕ
woken_in (Woken condition) = 1
woken_in stage = 0

-- it has begun the block that it is at
abbrev begun_in : Stage (List Note) → ℕ
begun_in Idle = 0
begun_in (Notifying notes) = 0
begun_in stage = 1

abbrev woken_of : Standing → ℕ
woken_of standing = woken_in standing.stage

abbrev begun_of : Standing → ℕ
begun_of standing = begun_in standing.stage

-- a sum over the standings after one is put elsewhere
moved_sum : (f : Standing → ℕ) (standings : List Standing) (client : ℕ) (place new_place : Place)
    (stage new_stage : Stage (List Note)) → StandsAt standings client place stage
    → sum_by f (put standings client new_place new_stage)
    + f (record { place = place; stage = stage })
    ≡ sum_by f standings + f (record { place = new_place; stage = new_stage })
moved_sum f standings client place new_place stage new_stage at =
    let here : Standing = record { place = place; stage = stage } in
    let there : Standing = record { place = new_place; stage = new_stage } in
    ap (λ (one : Standing). sum_by f (put standings client new_place new_stage) + f one) (sym (get_or_from_slice_get standings client here here at))
    ∙ sum_by-set f standings client there here (stands_within standings client place stage at)

-- where one counts nothing, and each at most one, the sum is below the length
sum_below : (standings : List Standing) (client : ℕ) (place : Place)
    → StandsAt standings client place Idle → sum_by woken_of standings + 1 ≤ length standings
sum_below [] client place at = absurd (none-some (record { place = place; stage = Idle }) at)
sum_below (first ∷ standings) zero place at =
    let none : woken_of first ≡ 0 = ap woken_of (same_Some first (record { place = place; stage = Idle }) at) in
    omega (arith, sum_by-cons woken_of first standings, none, each_one standings)
  where
    at_most : (stage : Stage (List Note)) → woken_in stage ≤ 1
    at_most Idle = omega arith
    at_most Entering = omega arith
    at_most (Waiting condition) = omega arith
    at_most (Woken condition) = omega arith
    at_most Inside = omega arith
    at_most (Notifying notes) = omega arith

    each_one : (some : List Standing) → sum_by woken_of some ≤ length some
    each_one [] = omega arith
    each_one (one ∷ some) = omega (arith, sum_by-cons woken_of one some, at_most one.stage, each_one some)
sum_below (first ∷ standings) (suc client) place at = omega (arith, sum_by-cons woken_of first standings, at_most first.stage, sum_below standings client place at)
  where
    at_most : (stage : Stage (List Note)) → woken_in stage ≤ 1
    at_most Idle = omega arith
    at_most Entering = omega arith
    at_most (Waiting condition) = omega arith
    at_most (Woken condition) = omega arith
    at_most Inside = omega arith
    at_most (Notifying notes) = omega arith

-- ---- each client that has begun a block has one left

begun_left : (monitor : MonitorParts) (clients : List Client) (standings : List Standing)
    → length standings ≡ length clients
    → ((client : ℕ) (one : Standing) → slice_get standings client ≡ Some one
    → begun_of one ≤ left_in monitor (calls_of clients client) one.place)
    → sum_by begun_of standings ≤ left_of monitor clients
    (map (λ standing. standing.place) standings)
unfolding left_of
begun_left monitor [] [] same few = omega arith
begun_left monitor [] (one ∷ standings) same few = absurd (omega arith)
begun_left monitor (client ∷ clients) [] same few = absurd (omega arith)
begun_left monitor (client ∷ clients) (one ∷ standings) same few =
    omega (arith, sum_by-cons begun_of one standings, few 0 one refl, begun_left monitor clients standings (omega arith) (λ who another at. few (suc who) another at))

begun_few : (system : System) (c : Configuration) → IsSound system c
    → sum_by begun_of c.standings ≤ left_of system.monitor system.clients
    (map (λ standing. standing.place) c.standings)
begun_few system c sound = begun_left system.monitor system.clients c.standings sound.one_each (λ client one at. by client one.place one.stage at)
  where
    one_left : (client : ℕ) (place : Place) (stage : Stage (List Note))
        → StandsAt c.standings client place stage → has_begun stage ≡ true
        → 1 ≤ left_in system.monitor (calls_of system.clients client) place
    one_left client place stage at begins =
        let call = at_index (calls_of system.clients client) place.past (sound.begun client place stage at begins) in
        let here : FitsPlaceAt system.monitor place (Some call.0) = subst (FitsPlaceAt system.monitor place) call.1 (sound.places client place stage at) in
        some_left system.monitor (calls_of system.clients client) place call.0 call.1 here.0

    by : (client : ℕ) (place : Place) (stage : Stage (List Note)) → StandsAt c.standings client place stage
        → begun_in stage ≤ left_in system.monitor (calls_of system.clients client) place
    by client place Idle at = omega arith
    by client place Entering at = one_left client place Entering at refl
    by client place (Waiting on) at = one_left client place (Waiting on) at refl
    by client place (Woken on) at = one_left client place (Woken on) at refl
    by client place Inside at = one_left client place Inside at refl
    by client place (Notifying notes) at = omega arith

-- ---- what each event does to the sums

abbrev Wakes : Configuration → ℕ
Wakes c = sum_by woken_of c.standings

abbrev Begun : Configuration → ℕ
Begun c = sum_by begun_of c.standings

begins_sums : (system : System) (client : ℕ) (place : Place) (before next : Configuration)
    → Begins system client place before next
    → (Wakes next ≡ Wakes before) × (Begun next ≡ Begun before + 1)
    × (length next.commits ≡ length before.commits)
begins_sums system client place before next event = (
  omega (arith, ap Wakes event.becomes, moved_sum woken_of before.standings client place place Idle Entering event.idle),
  omega (arith, ap Begun event.becomes, moved_sum begun_of before.standings client place place Idle Entering event.idle),
  ap (λ (c : Configuration). length c.commits) event.becomes,
)

locks_sums : (client : ℕ) (place : Place) (before next : Configuration)
    → Locks client place before next → (Wakes next ≤ Wakes before) × (Begun next ≡ Begun before)
    × (length next.commits ≡ length before.commits)
locks_sums client place before next event = elim event.wants [
  | inl entering ↦ (
    omega (arith, ap Wakes event.becomes, moved_sum woken_of before.standings client place place Entering Inside entering),
    omega (arith, ap Begun event.becomes, moved_sum begun_of before.standings client place place Entering Inside entering),
    ap (λ (c : Configuration). length c.commits) event.becomes,
  )
  | inr woken ↦ (
    omega (arith, ap Wakes event.becomes, moved_sum woken_of before.standings client place place (Woken woken.0) Inside woken.1),
    omega (arith, ap Begun event.becomes, moved_sum begun_of before.standings client place place (Woken woken.0) Inside woken.1),
    ap (λ (c : Configuration). length c.commits) event.becomes,
  )
]

locks_woken : (client : ℕ) (place : Place) (condition : ℕ) (before next : Configuration)
    → Locks client place before next → StandsAt before.standings client place (Woken condition)
    → Wakes next + 1 ≡ Wakes before
locks_woken client place condition before next event woken = omega (arith, ap Wakes event.becomes, moved_sum woken_of before.standings client place place (Woken condition) Inside woken)

-- what the start of a section does: one more block is begun, or one wake is used up
started_sums : (system : System) (client : ℕ) (place : Place) (before begun locked : Configuration)
    → IsBegun system client place before begun → Locks client place begun locked
    → (Wakes locked + Begun before + 1 ≤ Wakes before + Begun locked)
    × (Begun before ≤ Begun locked) × (length locked.commits ≡ length before.commits)
started_sums system client place before begun locked (inl begins) locks =
    let one = begins_sums system client place before begun begins in
    let two = locks_sums client place begun locked locks in
    (omega (arith, one, two), omega (arith, one, two), omega (arith, one, two))
started_sums system client place before begun locked (inr stays) locks =
    let two = locks_sums client place begun locked locks in
    let woken = subst (λ (c : Configuration). StandsAt c.standings client place (Woken stays.0.0)) (sym stays.1) stays.0.1 in
    let used = locks_woken client place stays.0.0 begun locked locks woken in
    let wakes = ap Wakes stays.1 in
    let begun_same = ap Begun stays.1 in
    let commits = ap (λ (c : Configuration). length c.commits) stays.1 in
    (omega (arith, two, used, wakes, begun_same), omega (arith, two, begun_same), omega (arith, two, commits))

waits_sums : (system : System) (client : ℕ) (place : Place) (before next : Configuration)
    → Waits system client place before next
    → (Wakes next ≡ Wakes before) × (Begun next ≡ Begun before)
    × (length next.commits ≡ length before.commits)
waits_sums system client place before next event =
    let on = waited_condition system client place in (
      omega (arith, ap Wakes event.becomes, moved_sum woken_of before.standings client place place Inside (Waiting on) event.inside),
      omega (arith, ap Begun event.becomes, moved_sum begun_of before.standings client place place Inside (Waiting on) event.inside),
      ap (λ (c : Configuration). length c.commits) event.becomes,
    )

-- ---- notes

waking_begun : (condition : ℕ) (one : Standing) → begun_of (waking condition one) ≡ begun_of one
waking_begun condition one = by one.place one.stage
  where
    test : (place : Place) (on : ℕ) (b : Bool)
        → begun_of (cond b (record { place = place; stage = Woken condition })
        (record { place = place; stage = Waiting on })) ≡ 1
    test place on true = refl
    test place on false = refl

    by : (place : Place) (stage : Stage (List Note))
        → begun_of (waking condition (record { place = place; stage = stage }))
        ≡ begun_of (record { place = place; stage = stage })
    by place Idle = refl
    by place Entering = refl
    by place (Waiting on) = test place on (on == condition)
    by place (Woken on) = refl
    by place Inside = refl
    by place (Notifying notes) = refl

wake_all_begun : (condition : ℕ) (standings : List Standing)
    → sum_by begun_of (wake_all condition standings) ≡ sum_by begun_of standings
wake_all_begun condition [] = refl
wake_all_begun condition (one ∷ standings) =
    omega (arith, sum_by-cons begun_of one standings, sum_by-cons begun_of (waking condition one) (wake_all condition standings), waking_begun condition one, wake_all_begun condition standings)

-- what a note leaves of the sum, where the client that made it still notifies
wakes_sums : (system : System) (client : ℕ) (place : Place) (target : Option ℕ) (note : Note)
    (more : List Note) (c : Configuration) (woken : List Standing)
    → StandsAt c.standings client place (Notifying (note ∷ more))
    → WakesBy system c note target woken
    → (sum_by begun_of woken ≡ sum_by begun_of c.standings)
    × StandsAt woken client place (Notifying (note ∷ more))
wakes_sums system client place None note more c woken at (inl each) = (
  ap (sum_by begun_of) each.becomes ∙ wake_all_begun note.condition c.standings,
  subst (λ (one : List Standing). StandsAt one client place (Notifying (note ∷ more))) (sym each.becomes) (unwoken_stays c.standings note.condition client place (Notifying (note ∷ more)) at refl),
)
wakes_sums system client place None note more c woken at (inr nobody) =
    (ap (sum_by begun_of) nobody.becomes, subst (λ (one : List Standing). StandsAt one client place (Notifying (note ∷ more))) (sym nobody.becomes) at)
wakes_sums system client place (Some target) note more c woken at (target_place, one) = (
  ap (sum_by begun_of) one.becomes ∙ omega (arith, moved_sum begun_of c.standings target target_place target_place (Waiting note.condition) (Woken note.condition) one.waits),
  subst (λ (some : List Standing). StandsAt some client place (Notifying (note ∷ more))) (sym one.becomes) (target_apart c.standings client place target target_place note.condition (note ∷ more) at one.waits),
)

notify_sums : (system : System) (client : ℕ) (place : Place) (target : Option ℕ)
    (before next : Configuration) → Notifies system client place target before next
    → (Begun next ≡ Begun before) × (length next.commits ≡ length before.commits)
notify_sums system client place target before next event =
    let woken = wakes_sums system client place target event.note event.more before event.woken event.notifying event.wakes in (
      omega (arith, ap Begun event.becomes, moved_sum begun_of event.woken client place place (Notifying (event.note ∷ event.more)) (Notifying event.more) woken.1, woken.0),
      ap (λ (c : Configuration). length c.commits) event.becomes,
    )

notified_sums : (system : System) (log : List Entry) (client : ℕ) (c last : Configuration)
    → IsNotified system log client c last
    → (Begun last ≡ Begun c) × (length last.commits ≡ length c.commits)
notified_sums system log client c last (all_made own place at) = (refl, refl)
notified_sums system log client c last (one_made own next end target chosen happens more) =
    let first = notify_sums system client happens.0 target own next happens.1 in
    let rest = notified_sums system log client next end more in
    (omega (arith, first, rest), omega (arith, first, rest))

-- ---- the invariant of a legal log

record Kept (system : System) (log : List Entry) (c : Configuration) : Type 0 where
  sound : IsSound system c
  count : length log + Wakes c ≤ Begun c + length system.clients * length c.commits
      + 2 * count_by is_spurious_entry log

pub spurious_more : (log : List Entry) (entry : Entry)
    → count_by is_spurious_entry (log ++ entry ∷ [])
    ≡ count_by is_spurious_entry log + cond (is_spurious_entry entry) 1 0
spurious_more log entry = grind (arith, common_steps)

one_more_commit : (n d : ℕ) → n * (d + 1) ≡ n * d + n
one_more_commit n d = grind arith

counts_waited : (l l' wb wl wn bb bl bn x x' e e' : ℕ) → l + wb ≤ bb + x + 2 * e → l' ≡ l + 1
    → wl + bb + 1 ≤ wb + bl → wn ≡ wl → bn ≡ bl → x' ≡ x → e' ≡ e + 0 → l' + wn ≤ bn + x' + 2 * e'
counts_waited l l' wb wl wn bb bl bn x x' e e' a b c d f g h = omega arith

counts_replied : (l l' wb wl wn bb bl bn n x x' e e' : ℕ) → l + wb ≤ bb + x + 2 * e → l' ≡ l + 1
    → wl + bb + 1 ≤ wb + bl → wn + 1 ≤ n → bn + 1 ≡ bl → x' ≡ x + n → e' ≡ e + 0
    → l' + wn ≤ bn + x' + 2 * e'
counts_replied l l' wb wl wn bb bl bn n x x' e e' a b c d f g h = omega arith

-- a section that replies or is refused
after_step : (system : System) (log : List Entry) (before last : Configuration) (entry : Entry)
    (client : ℕ) (place goes : Place) (reply : Reply) (state : List Value)
    (now locked ran notified : Configuration)
    → Kept system log before → IsSound system last → IsBegun system client place before now
    → Locks client place now locked → StepsInside system client place goes reply state locked ran
    → (Begun notified ≡ Begun ran) × (length notified.commits ≡ length ran.commits)
    → Unlocks client goes notified last → is_spurious_entry entry ≡ false
    → Kept system (log ++ entry ∷ []) last
after_step system log before last entry client place goes reply state now locked ran notified kept five begins locks steps told unlocks plain =
    let first = started_sums system client place before now locked begins locks in
    let notes = notes_after system (block_at system.monitor steps.step.call place) reply in
    let ran_begun = ap Begun steps.becomes in
    let ran_moved = moved_sum begun_of locked.standings client place goes Inside (Notifying notes) steps.inside in
    let last_begun = ap Begun unlocks.becomes in
    let last_moved = moved_sum begun_of notified.standings client goes goes (Notifying []) Idle unlocks.notifying in
    let idle : StandsAt last.standings client goes Idle =
    subst (λ (c : Configuration). StandsAt c.standings client goes Idle) (sym unlocks.becomes)
    (put_same notified.standings client goes Idle (stands_within notified.standings client goes (Notifying []) unlocks.notifying)) in
    let below = sum_below last.standings client goes idle in
    let more : length last.commits ≡ length before.commits + 1 =
    ap (λ (c : Configuration). length c.commits) unlocks.becomes ∙ told.1 ∙ ap (λ (c : Configuration). length c.commits) steps.becomes ∙ length_push locked.commits _ ∙ ap (λ (d : ℕ). d + 1) first.2 in
    let product = ap {B = ℕ} (λ (d : ℕ). length system.clients * d) more ∙ one_more_commit (length system.clients) (length before.commits) in
    let plain_more : count_by is_spurious_entry (log ++ entry ∷ []) ≡ count_by is_spurious_entry log + 0 = spurious_more log entry ∙ ap {B = ℕ} (λ (test : Bool). count_by is_spurious_entry log + cond test 1 0) plain in
    record {
      sound = five;
      count = counts_replied (length log) (length (log ++ entry ∷ [])) (Wakes before) (Wakes locked) (Wakes last) (Begun before) (Begun locked) (Begun last) (length system.clients)
          (length system.clients * length before.commits) (length system.clients * length last.commits) (count_by is_spurious_entry log) (count_by is_spurious_entry (log ++ entry ∷ []))
          kept.count (length_push log entry) first.0 (omega (arith, below, five.one_each)) (omega (arith, ran_begun, ran_moved, told.0, last_begun, last_moved)) product plain_more;
    }

section_kept : (system : System) → IsSystem system
    → (log : List Entry) (before : Configuration) (entry : Entry) (next : Configuration)
    → Kept system log before → IsSection system log before entry next
    → Kept system (log ++ entry ∷ []) next
section_kept system is log before entry next kept (waited client place now locked last free begins locks waits) =
    let lasting = sound_lasts system is in
    let first = started_sums system client place before now locked begins locks in
    let then_waits = waits_sums system client place locked last waits in
    let commits = ap {B = ℕ} (λ (d : ℕ). length system.clients * d) (then_waits.2 ∙ first.2) in
    record {
      sound = section_keeps system (IsSound system) lasting log before _ last kept.sound (waited client place now locked last free begins locks waits);
      count = counts_waited (length log) (length (log ++ _ ∷ [])) (Wakes before) (Wakes locked) (Wakes last) (Begun before) (Begun locked) (Begun last)
          (length system.clients * length before.commits) (length system.clients * length last.commits) (count_by is_spurious_entry log) (count_by is_spurious_entry (log ++ _ ∷ []))
          kept.count (length_push log _) first.0 then_waits.0 then_waits.1 commits (spurious_more log _);
    }
section_kept system is log before entry next kept (refused client place goes reply state now locked ran last free begins locks refuses unlocks) =
    let five = section_keeps system (IsSound system) (sound_lasts system is) log before _ last kept.sound (refused client place goes reply state now locked ran last free begins locks refuses unlocks) in
    after_step system log before last (entry_at client place (outcomes.Replies reply 0)) client place goes reply state now locked ran ran kept five begins locks refuses.steps (refl, refl) unlocks refl
section_kept system is log before entry next kept (replied client place goes bits reply state now locked ran notified last free begins locks runs notes unlocks are) =
    let five = section_keeps system (IsSound system) (sound_lasts system is) log before _ last kept.sound (replied client place goes bits reply state now locked ran notified last free begins locks runs notes unlocks are) in
    after_step system log before last (entry_at client place (outcomes.Replies reply bits)) client place goes reply state now locked ran notified kept five begins locks runs.steps (notified_sums system log client ran notified notes) unlocks refl

legal_kept : (system : System) → IsSystem system → (log : List Entry) (c : Configuration)
    → IsLegal system log c → Kept system log c
legal_kept system is log c empty = record { sound = start_is_sound system is.rule is.scripts; count = omega (arith, nobody (first_places system.monitor system.clients 0 system.clients)) }
  where
    nobody : (places : List Place) → sum_by woken_of (map idle_at places) ≡ 0
    nobody [] = refl
    nobody (place ∷ places) = omega (arith, sum_by-cons woken_of (idle_at place) (map idle_at places), nobody places)
legal_kept system is log c (sectioned more before entry next legal section) = section_kept system is more before entry next (legal_kept system is more before legal) section
legal_kept system is log c (woken_entry more before client place condition next legal wakens) =
    let kept = legal_kept system is more before legal in
    let wakes = ap Wakes wakens.becomes in
    let wakes_moved = moved_sum woken_of before.standings client place place (Waiting condition) (Woken condition) wakens.waits in
    let begun_next = ap Begun wakens.becomes in
    let begun_moved = moved_sum begun_of before.standings client place place (Waiting condition) (Woken condition) wakens.waits in
    let product = ap {B = ℕ} (λ (c : Configuration). length system.clients * length c.commits) wakens.becomes in
    record {
      sound = event_keeps_sound system is.rule is.scripts (events.Spurious client) before next kept.sound (place, condition, wakens);
      count = counts_woken (length more) (length (more ++ _ ∷ [])) (Wakes before) (Wakes next) (Begun before) (Begun next)
          (length system.clients * length before.commits) (length system.clients * length next.commits) (count_by is_spurious_entry more) (count_by is_spurious_entry (more ++ _ ∷ []))
          kept.count (length_push more _) (omega (arith, wakes, wakes_moved)) (omega (arith, begun_next, begun_moved)) product (spurious_more more _);
    }
  where
    counts_woken : (l l' wb wn bb bn x x' e e' : ℕ) → l + wb ≤ bb + x + 2 * e → l' ≡ l + 1
        → wn ≡ wb + 1 → bn ≡ bb → x' ≡ x → e' ≡ e + 1 → l' + wn ≤ bn + x' + 2 * e'
    counts_woken l l' wb wn bb bn x x' e e' a b c d f g = omega arith

-- ---- the bound

whole : (l w b all n d e : ℕ) → l + w ≤ b + n * d + 2 * e → d + b ≤ all → (n ≡ 0 → all ≡ 0)
    → l ≤ all * n + 2 * e
whole l w b all zero d e count few none = grind (arith, none refl)
whole l w b all (suc n) d e count few none =
    let more : (suc n) * (d + b) ≤ (suc n) * all = mul-le-mul_left (suc n) few in
    let own : b + (suc n) * d ≤ (suc n) * (d + b) = grind arith in
    let turned : (suc n) * all ≡ all * (suc n) = grind arith in
    omega (arith, more, own, turned, count)

nobody_calls : (monitor : MonitorParts) (clients : List Client) → length clients ≡ 0
    → sum_by (λ client. sum_by (blocks_in monitor) client.calls) clients ≡ 0
nobody_calls monitor [] none = refl
nobody_calls monitor (client ∷ clients) none = absurd (omega arith)

pub log_bounded : (system : System) → IsSystem system → (log : List Entry) (c : Configuration)
    → IsLegal system log c → IsBounded system log
log_bounded system is log c legal =
    let kept = legal_kept system is log c legal in
    let counts = run_counts system.monitor system.clients c.commits (situation_of c) is.rule is.scripts kept.sound.run in
    whole (length log) (Wakes c) (Begun c) (all_blocks system.monitor system.clients) (length system.clients) (length c.commits) (count_by is_spurious_entry log) kept.count
    (omega (arith, counts, begun_few system c kept.sound)) (nobody_calls system.monitor system.clients)
