-- What is kept of the log.
use Rattle.std.proofs.Common.{◌≡◌, ◌==◌, ℕ, ◌⊎◌, zero, suc, ◌+◌, ◌*◌, ◌<◌, ◌≤◌, ◌&&◌, Bool, true, false, cond, List, [], ◌∷◌, ◌++◌, length, map, get_or, set, replicate, sum_by, Some, None, IsSomeAnd, refl, sym, ap, subst, ◌∙◌, arith, inl, inr, mul-le-mul}
use Rattle.std.specs.Prelude.{slice_get, nat_le}
use Rattle.std.proofs.lemmas.List.{length_push, length-set, length-replicate, get_or-set_same, get_or-set_other}
use Rattle.std.proofs.lemmas.Option.{none-some, same_Some, slice_get_within}
use Rattle.std.proofs.lemmas.Bool.{cases_eq, eq-eqb, ne_eqb, leb-true, leb-false}
use Rattle.lang_monitor.specs.MonitorParts.{MonitorParts, IsMonitor}
use Rattle.machine_implicit.specs.declared.commit.Commit.{Commit}
use Rattle.machine_implicit.specs.declared.script.Client.{Client}
use Rattle.machine_implicit.specs.Scripted.{all_blocks, calls_of, AreClients, FitsScripts}
use Rattle.machine_implicit.specs.Runs.{IsRun, Ends, first_places}
use Rattle.machine_events.specs.declared.plan.Plan.{Plan}
use Rattle.machine_events.specs.declared.event.Event.TheVariants as events
use Rattle.machine_events.specs.declared.plan.Note.{Note}
use Rattle.machine_events.specs.declared.event.Stage.{Stage}
use Rattle.machine_events.specs.declared.log.Entry.{Entry}
use Rattle.machine_events.specs.Plans.{FitsPlan}
use Rattle.machine_events.specs.Counts.{IsLawfulByCounting}
use Rattle.machine_events.specs.Configurations.{System, Standing, Configuration, StandsAt, put, idle_at, situation_of}
use Rattle.machine_events.specs.declared.event.Stage.TheVariants.{Idle, Entering, Waiting, Woken, Inside, Notifying}
use Rattle.machine_events.specs.Events.{WakesSpuriously}
use Rattle.machine_events.specs.Pending.{IsSystem, IsSound}
use Rattle.machine_events.specs.Laws.{HasCountingPlan}
use Rattle.machine_events.specs.Logs.{IsSection, IsLegal, IsClosed, WaitsSince, is_wait_of, says_waits, rests, is_spurious_entry}
use Rattle.machine_events.specs.Logs.IsSection.{waited, refused, replied}
use Rattle.machine_events.specs.Logs.IsLegal.{empty, sectioned, woken}
use Rattle.machine_events.proofs.Ending.{IsKept as IsKeptPending, wake_is_pending}
use Rattle.machine_events.proofs.Legal.{legal_keeps, sound_lasts, kept_lasts, closed_ends}
use Rattle.machine_events.proofs.Commits.{legal_commits}
use Rattle.machine_events.proofs.Bounds.{log_bounded, spurious_more}
use Rattle.machine_events.proofs.Facing.{at_index, is_some_and}
use Rattle.machine_events.proofs.Standings.{one_stage, stands_within, put_same, put_length}
use Rattle.machine_explicit.specs.Machines.{Machine, Happened, NotAllowed, opened, shown_stage}
use Rattle.machine_explicit.specs.Sections.{FreeMachine, HoldsAlways, HasEnded, is_between, MOST_SPURIOUS, room_of, spurious_in, spurious_entry, Rests, MadeSection, NotMade, WokenByNothing}
use Rattle.machine_explicit.specs.inner.Waiting.{CanStart, NotStarted, MakesSection, MakesSectionOf, KeepsWaits, IsSettled, IsKept, free_of, since_after, stage_condition}
use Rattle.machine_explicit.specs.inner.Rings.{line_of, without, IsLine, AreLines, AreBefore}
use Rattle.machine_events.proofs.Sound.{some_idle}
use Rattle.machine_explicit.proofs.Came.{came_put}
use Rattle.machine_explicit.proofs.Counting.{blocks_few}
use Rattle.machine_explicit.proofs.Lining.{one_left, no_line, lines_left}
use Rattle.machine_explicit.proofs.Sectioned.{section_settles, none_enters}
use Rattle.machine_explicit.proofs.Sectioned.{entering_woken, place_read}
use Rattle.machine_implicit.specs.declared.place.Place.{Place}

-- ---- what holds always

pub sound_of : (system : System) (log : List Entry) (c : Configuration) → IsSystem system → IsLegal system log c → IsSound system c
sound_of system log c is legal = legal_keeps system (IsSound system) (sound_lasts system is) log c legal

locked_not : (c : Configuration) (client : ℕ) → c.owner ≡ None → c.owner ≡ Some client → ⊥
locked_not c client none owns = none-some client (sym none ∙ owns)

-- no one owns the lock, and no client enters
between_sections : (system : System) (c : Configuration) → IsSound system c → IsSettled c → (client : ℕ) (place : Place) (stage : Stage (List Note)) → StandsAt c.standings client place stage → is_between stage ≡ true
between_sections system c sound settled client place Idle at = refl
between_sections system c sound settled client place Entering at = absurd (settled.none_enters client place at)
between_sections system c sound settled client place (Waiting condition) at = refl
between_sections system c sound settled client place (Woken condition) at = refl
between_sections system c sound settled client place Inside at = absurd (locked_not c client settled.free (sound.lock.only client place Inside at refl))
between_sections system c sound settled client place (Notifying notes) at = absurd (locked_not c client settled.free (sound.lock.only client place (Notifying notes) at refl))

pub always : (machine : FreeMachine) → IsSystem machine.system → AreClients machine.system.clients → IsLegal machine.system machine.log machine.now → IsSettled machine.now → spurious_in machine.log ≤ machine.extra → machine.extra ≤ MOST_SPURIOUS → HoldsAlways machine
always machine is clients legal settled few most =
    let system = machine.system in
    let sound = sound_of system machine.log machine.now is legal in
    let commits = legal_commits system machine.log machine.now legal in
    let bound : length machine.log ≤ room_of machine = omega (arith, log_bounded system is machine.log machine.now legal, few) in
    let kept = λ (lawful : IsLawfulByCounting system.monitor system.plan). legal_keeps system (IsKeptPending system) (kept_lasts system (record { is = is; lawful = lawful })) machine.log machine.now legal in
    let product : all_blocks system.monitor system.clients * length system.clients ≤ 65536 * 32 = mul-le-mul (blocks_few system.monitor system.clients is.rule clients) clients.few in
    record {
      rule = record { is = is; clients = clients; legal = legal; free = settled.free; commits = commits; spurious = few; extra = most; bounded = bound; covered = λ lawful. (kept lawful).covered };
      sound = sound;
      between = between_sections system machine.now sound settled;
      pending = λ lawful. wake_is_pending system machine.now (record { is = is; lawful = lawful }) sound (kept lawful).covered;
      run = subst (λ (some : List Commit). IsRun system.monitor system.clients some (situation_of machine.now)) commits sound.run;
      short = omega (arith, bound, product, most);
    }

pub ended : (machine : FreeMachine) → HoldsAlways machine → IsClosed machine.system machine.now → HasEnded machine
ended machine holds closed lawful =
    let system = machine.system in
    let set : HasCountingPlan system = record { is = holds.rule.is; lawful = lawful } in
    closed_ends system machine.now set (legal_keeps system (IsKeptPending system) (kept_lasts system set) machine.log machine.now holds.rule.legal) closed

-- ---- spurious entries

pub section_not_spurious : (system : System) (log : List Entry) (before : Configuration) (entry : Entry) (next : Configuration) → IsSection system log before entry next → is_spurious_entry entry ≡ false
section_not_spurious system log before entry next (waited client place begun locked last free begins locks waits) = refl
section_not_spurious system log before entry next (refused client place goes reply state begun locked ran last free begins locks refuses unlocks) = refl
section_not_spurious system log before entry next (replied client place goes bits reply state begun locked ran notified last free begins locks runs notes unlocks are) = refl

pub none_more : (log : List Entry) (entry : Entry) → is_spurious_entry entry ≡ false → spurious_in (log ++ entry ∷ []) ≡ spurious_in log
none_more log entry is = omega (arith, spurious_more log entry, ap {B = ℕ} (λ (test : Bool). cond test 1 0) is)

pub one_more : (log : List Entry) (entry : Entry) → is_spurious_entry entry ≡ true → spurious_in (log ++ entry ∷ []) ≡ spurious_in log + 1
one_more log entry is = omega (arith, spurious_more log entry, ap {B = ℕ} (λ (test : Bool). cond test 1 0) is)

-- ---- since when clients wait

pushed_get : (log : List Entry) (entry other : Entry) (place : ℕ) → slice_get (log ++ entry ∷ []) place ≡ Some other → (slice_get log place ≡ Some other) ⊎ ((place ≡ length log) × (entry ≡ other))
pushed_get [] entry other zero is = inr (refl, same_Some entry other is)
pushed_get [] entry other (suc place) is = absurd (none-some other is)
pushed_get (first ∷ log) entry other zero is = inl is
pushed_get (first ∷ log) entry other (suc place) is = elim (pushed_get log entry other place is) [
  | inl old ↦ inl old
  | inr new ↦ inr (ap suc new.0, new.1)
]

get_pushed : (log : List Entry) (entry other : Entry) (place : ℕ) → slice_get log place ≡ Some other → slice_get (log ++ entry ∷ []) place ≡ Some other
get_pushed [] entry other place is = absurd (none-some other is)
get_pushed (first ∷ log) entry other zero is = is
get_pushed (first ∷ log) entry other (suc place) is = get_pushed log entry other place is

get_last : (log : List Entry) (entry : Entry) → slice_get (log ++ entry ∷ []) (length log) ≡ Some entry
get_last [] entry = refl
get_last (first ∷ log) entry = get_last log entry

waits_longer : (log : List Entry) (entry : Entry) (client place : ℕ) → WaitsSince log client place → is_wait_of client entry ≡ false → WaitsSince (log ++ entry ∷ []) client place
waits_longer log entry client place since apart = record {
  entry = since.entry;
  there = get_pushed log entry since.entry place since.there;
  waits = since.waits;
  last = λ later other below at. elim (pushed_get log entry other later at) [
    | inl old ↦ since.last later other below old
    | inr new ↦ subst (λ (one : Entry). is_wait_of client one ≡ false) new.1 apart
  ];
}

waits_now : (log : List Entry) (entry : Entry) (client : ℕ) → is_wait_of client entry ≡ true → WaitsSince (log ++ entry ∷ []) client (length log)
waits_now log entry client is = record {
  entry = entry;
  there = get_last log entry;
  waits = is;
  last = λ later other below at. elim (pushed_get log entry other later at) [
    | inl old ↦ absurd (omega (arith, below, slice_get_within log later other old))
    | inr new ↦ absurd (omega (arith, below, new.0))
  ];
}

waits_apart : (entry : Entry) (client : ℕ) → says_waits entry.outcome ≡ false → is_wait_of client entry ≡ false
waits_apart entry client is = ap (λ (waits : Bool). (entry.client == client) && waits) is ∙ both_false (entry.client == client)
  where
    both_false : (test : Bool) → test && false ≡ false
    both_false true = refl
    both_false false = refl

waits_here : (entry : Entry) (client : ℕ) (test : Bool) → says_waits entry.outcome ≡ true → (entry.client == client) ≡ test → is_wait_of client entry ≡ test
waits_here entry client test is same = ap (λ (waits : Bool). (entry.client == client) && waits) is ∙ ap (λ (one : Bool). one && true) same ∙ and_true test
  where
    and_true : (one : Bool) → one && true ≡ one
    and_true true = refl
    and_true false = refl

keeps_by : (log : List Entry) (clients : List Client) (since : List ℕ) (entry : Entry) (waits : Bool) → says_waits entry.outcome ≡ waits → KeepsWaits log clients since → entry.client < length since
    → KeepsWaits (log ++ entry ∷ []) clients (cond waits (set since entry.client (length log + 1)) since)
keeps_by log clients since entry false is keeps within = record {
  one_each = keeps.one_each;
  each = λ client place below number. waits_longer log entry client place (keeps.each client place below number) (waits_apart entry client is);
}
keeps_by log clients since entry true is keeps within = record {
  one_each = length-set since entry.client (length log + 1) ∙ keeps.one_each;
  each = λ client place below number. elim (cases_eq entry.client client) [
    | inl same ↦
        let here : get_or (set since entry.client (length log + 1)) client 0 ≡ length log + 1 =
        ap (λ (who : ℕ). get_or (set since entry.client (length log + 1)) who 0) (sym same) ∙ get_or-set_same since entry.client (length log + 1) 0 within in
        let at : length log ≡ place = omega (arith, here, number) in
        subst (λ (one : ℕ). WaitsSince (log ++ entry ∷ []) client one) at (waits_now log entry client (waits_here entry client true is (eq-eqb entry.client client same)))
    | inr differs ↦ waits_longer log entry client place
        (keeps.each client place (omega (arith, below, length-set since entry.client (length log + 1)))
        (sym (get_or-set_other since entry.client client (length log + 1) 0 (λ same. differs (sym same))) ∙ number))
        (waits_here entry client false is (ne_eqb entry.client client differs))
  ];
}

pub keeps_after : (log : List Entry) (clients : List Client) (since : List ℕ) (entry : Entry) → KeepsWaits log clients since → entry.client < length since → KeepsWaits (log ++ entry ∷ []) clients (since_after since entry (length log))
keeps_after log clients since entry keeps within = keeps_by log clients since entry (says_waits entry.outcome) refl keeps within

pub keeps_none : (clients : List Client) → KeepsWaits [] clients (map (λ client. 0) clients)
keeps_none clients = record { one_each = same_length clients; each = λ client place below number. absurd (omega (arith, number, zero_at clients client)) }
  where
    same_length : (some : List Client) → ◌≡◌ {A = ℕ} (length {A = ℕ} (map (λ (client : Client). 0) some)) (length some)
    same_length [] = refl
    same_length (one ∷ some) = ap suc (same_length some)

    zero_at : (some : List Client) (client : ℕ) → ◌≡◌ {A = ℕ} (get_or {A = ℕ} (map (λ (client : Client). 0) some) client 0) 0
    zero_at [] client = refl
    zero_at (one ∷ some) zero = refl
    zero_at (one ∷ some) (suc client) = zero_at some client

-- ---- who can't make a section rests

stage_rests : (machine : Machine) (client : ℕ) (place : Place) (stage : Stage (List Note)) → IsSound machine.system machine.now → IsSettled machine.now → StandsAt machine.now.standings client place stage → (CanStart machine client → ⊥)
    → rests machine.system client place stage ≡ true
stage_rests machine client place Idle sound settled at never = by_test (nat_le (length (calls_of machine.system.clients client)) place.past) refl
  where
    by_test : (test : Bool) → nat_le (length (calls_of machine.system.clients client)) place.past ≡ test → nat_le (length (calls_of machine.system.clients client)) place.past ≡ true
    by_test true is = is
    by_test false is = absurd (never (inl (place, at, leb-false (length (calls_of machine.system.clients client)) place.past is)))
stage_rests machine client place Entering sound settled at never = absurd (settled.none_enters client place at)
stage_rests machine client place (Waiting condition) sound settled at never = refl
stage_rests machine client place (Woken condition) sound settled at never = absurd (never (inr (place, condition, at)))
stage_rests machine client place Inside sound settled at never = absurd (locked_not machine.now client settled.free (sound.lock.only client place Inside at refl))
stage_rests machine client place (Notifying notes) sound settled at never = absurd (locked_not machine.now client settled.free (sound.lock.only client place (Notifying notes) at refl))

pub rests_when : (machine : Machine) (log : List Entry) (extra client : ℕ) → IsSound machine.system machine.now → IsSettled machine.now → client < length machine.system.clients → (CanStart machine client → ⊥)
    → Rests (record { system = machine.system; now = machine.now; log = log; extra = extra }) client
rests_when machine log extra client sound settled within never =
    let standing = at_index machine.now.standings client (omega (arith, sound.one_each, within)) in
    (standing.0.place, standing.0.stage, standing.1, stage_rests machine client standing.0.place standing.0.stage sound settled standing.1 never)

-- ---- stages

waiting_stage : (stage : Stage (List Note)) (condition : ℕ) → stage_condition (shown_stage stage) ≡ Some condition → stage ≡ Waiting condition
waiting_stage Idle condition is = absurd (none-some condition is)
waiting_stage Entering condition is = absurd (none-some condition is)
waiting_stage (Waiting on) condition is = ap Waiting (same_Some on condition is)
waiting_stage (Woken on) condition is = absurd (none-some condition is)
waiting_stage Inside condition is = absurd (none-some condition is)
waiting_stage (Notifying notes) condition is = absurd (none-some condition is)

pub stage_tells : (standings : List Standing) (client condition : ℕ) (stage : Stage ℕ) → IsSomeAnd (slice_get standings client) (λ standing. stage ≡ shown_stage standing.stage) → stage_condition stage ≡ Some condition
    → (place : Place) × StandsAt standings client place (Waiting condition)
stage_tells standings client condition stage told waits =
    let found = is_some_and (slice_get standings client) (λ (standing : Standing). stage ≡ shown_stage standing.stage) told in
    let which = waiting_stage found.0.stage condition (ap stage_condition (sym found.2) ∙ waits) in
    (found.0.place, found.1 ∙ ap (λ (stage : Stage (List Note)). Some (record { place = found.0.place; stage = stage })) which)

pub stage_denies : (standings : List Standing) (client : ℕ) (stage : Stage ℕ) → IsSomeAnd (slice_get standings client) (λ standing. stage ≡ shown_stage standing.stage) → stage_condition stage ≡ None
    → (place : Place) (condition : ℕ) → StandsAt standings client place (Waiting condition) → ⊥
stage_denies standings client stage told waits place condition at =
    let found = is_some_and (slice_get standings client) (λ (standing : Standing). stage ≡ shown_stage standing.stage) told in
    let same = one_stage standings client place found.0.place (Waiting condition) found.0.stage at found.1 in
    none-some condition (sym waits ∙ ap stage_condition found.2 ∙ ap stage_condition (ap shown_stage (sym same)))

-- ---- what is kept, from call to call

no_number_beyond : (since : List ℕ) (client : ℕ) → length since ≤ client → get_or since client 0 ≡ 0
no_number_beyond [] client over = refl
no_number_beyond (first ∷ since) zero over = absurd (omega (arith, over))
no_number_beyond (first ∷ since) (suc client) over = no_number_beyond since client (omega (arith, over))

pub keeps_early : (log : List Entry) (clients : List Client) (since : List ℕ) → KeepsWaits log clients since → AreBefore since (length log)
keeps_early log clients since keeps client = by_test (nat_le (length since) client) refl
  where
    by_test : (over : Bool) → nat_le (length since) client ≡ over → get_or since client 0 ≤ length log
    by_test true is = omega (arith, no_number_beyond since client (leb-true (length since) client is))
    by_test false is = by_number (get_or since client 0) refl
      where
        by_number : (number : ℕ) → get_or since client 0 ≡ number → get_or since client 0 ≤ length log
        by_number zero at = omega (arith, at)
        by_number (suc place) at =
            let waits = keeps.each client place (leb-false (length since) client is) (omega (arith, at)) in
            omega (arith, at, slice_get_within log place waits.entry waits.there)

pub opened_kept : (monitor : MonitorParts) (plan : Plan) (clients : List Client) (extra : ℕ) (machine : Machine) (capacity : ℕ) (log : List Entry) (rings : List (List ℕ))
    → IsMonitor monitor → AreClients clients → FitsScripts monitor clients → FitsPlan monitor plan → extra ≤ MOST_SPURIOUS → machine ≡ opened monitor plan clients → log ≡ [] → rings ≡ replicate (length monitor.conditions + 1) []
    → all_blocks monitor clients * length clients + 2 * extra ≡ capacity → IsKept (free_of machine log extra) capacity rings 0
opened_kept monitor plan clients extra machine capacity log rings rule few scripts fits most is empty_log empty_rings room =
    subst (λ (one : Machine). IsKept (free_of one log extra) capacity rings 0) (sym is)
    (subst (λ (entries : List Entry). IsKept (free_of (opened monitor plan clients) entries extra) capacity rings 0) (sym empty_log)
    (subst (λ (all : List (List ℕ)). IsKept (free_of (opened monitor plan clients) [] extra) capacity all 0) (sym empty_rings) kept))
  where
    system : System
    system = record { monitor = monitor; plan = plan; clients = clients }

    standings : List Standing
    standings = map idle_at (first_places monitor clients 0 clients)

    idle_only : (stage : Stage (List Note)) → (Idle ≡ stage → ⊥) → (client : ℕ) (place : Place) → StandsAt standings client place stage → ⊥
    idle_only stage apart client place at = apart (sym (some_idle (first_places monitor clients 0 clients) client place stage at).1)

    idle_entering : ◌≡◌ {A = Stage (List Note)} Idle Entering → ⊥
    idle_entering same = cc same

    idle_waiting : (condition : ℕ) → ◌≡◌ {A = Stage (List Note)} Idle (Waiting condition) → ⊥
    idle_waiting condition same = cc same

    empty_line : (count condition : ℕ) → line_of (replicate count []) condition ≡ []
    empty_line zero condition = refl
    empty_line (suc count) zero = refl
    empty_line (suc count) (suc condition) = empty_line count condition

    as_many : (number : ℕ) (some : List Client) → ◌≡◌ {A = ℕ} (length {A = ℕ} (map (λ (client : Client). 0) some)) (length {A = Standing} (map idle_at (first_places monitor clients number some)))
    as_many number [] = refl
    as_many number (first ∷ some) = ap suc (as_many (number + 1) some)

    lines : AreLines (map (λ (client : Client). 0) clients) system standings (replicate (length monitor.conditions + 1) [])
    lines = record {
      one_each = as_many 0 clients;
      conditions = length-replicate (length monitor.conditions + 1) [];
      each = λ condition. subst (λ (line : List ℕ). IsLine (map (λ (client : Client). 0) clients) standings condition line) (sym (empty_line (length monitor.conditions + 1) condition))
          (no_line (map (λ (client : Client). 0) clients) standings condition (λ client place at. idle_only (Waiting condition) (idle_waiting condition) client place at));
    }

    settled : IsSettled (opened monitor plan clients).now
    settled = record { free = refl; none_enters = λ client place at. idle_only Entering idle_entering client place at }

    kept : IsKept (free_of (opened monitor plan clients) [] extra) capacity (replicate (length monitor.conditions + 1) []) 0
    kept = record {
      always = always (free_of (opened monitor plan clients) [] extra) (record { rule = rule; scripts = scripts; plan = fits }) few empty settled (omega arith) most;
      settled = settled.none_enters;
      room = room;
      since = map (λ (client : Client). 0) clients;
      waits = keeps_none clients;
      lines = lines;
      counted = refl;
    }

pub sectioned_kept : (before : Machine) (log : List Entry) (extra capacity client : ℕ) (rings : List (List ℕ)) (spurious : ℕ) (next : Machine) (next_rings : List (List ℕ)) (entry : Entry) → IsKept (free_of before log extra) capacity rings spurious
    → client < length before.system.clients → MakesSectionOf client before rings next next_rings entry → IsKept (free_of next (log ++ entry ∷ []) extra) capacity next_rings spurious
sectioned_kept before log extra capacity client rings spurious next next_rings entry kept within makes = record {
  always = always (free_of next (log ++ entry ∷ []) extra) (subst IsSystem (sym made.system) kept.always.rule.is) (subst (λ (system : System). AreClients system.clients) (sym made.system) kept.always.rule.clients) legal settled (omega (arith, none_more log entry not_spurious, kept.always.rule.spurious)) kept.always.rule.extra;
  settled = settled.none_enters;
  room = subst (λ (system : System). room_of (record { system = system; now = next.now; log = log ++ entry ∷ []; extra = extra }) ≡ capacity) (sym made.system) kept.room;
  since = since_after kept.since entry (length log);
  waits = subst (λ (system : System). KeepsWaits (log ++ entry ∷ []) system.clients (since_after kept.since entry (length log))) (sym made.system)
      (keeps_after log before.system.clients kept.since entry kept.waits (omega (arith, within, kept.waits.one_each, made.who)));
  lines = subst (λ (who : ℕ). AreLines (cond (says_waits entry.outcome) (set kept.since who (length log + 1)) kept.since) next.system next.now.standings next_rings) (sym made.who)
      ((makes kept.since kept.lines).1 (length log) (keeps_early log before.system.clients kept.since kept.waits));
  counted = omega (arith, kept.counted, none_more log entry not_spurious);
}
  where
    made : MakesSection kept.since client before next entry
    made = (makes kept.since kept.lines).0

    section : IsSection before.system log before.now entry next.now
    section = made.made log kept.waits

    settled : IsSettled next.now
    settled = section_settles before.system log before.now entry next.now kept.settled section

    not_spurious : is_spurious_entry entry ≡ false
    not_spurious = section_not_spurious before.system log before.now entry next.now section

    legal : IsLegal next.system (log ++ entry ∷ []) next.now
    legal = subst (λ (system : System). IsLegal system (log ++ entry ∷ []) next.now) (sym made.system) (sectioned log before.now entry next.now kept.always.rule.legal section)

-- there is room for one more entry
pub section_room : (before : Machine) (log : List Entry) (extra capacity client : ℕ) (rings : List (List ℕ)) (spurious : ℕ) (next : Machine) (next_rings : List (List ℕ)) (entry : Entry) → IsKept (free_of before log extra) capacity rings spurious
    → client < length before.system.clients → MakesSectionOf client before rings next next_rings entry → length log < capacity
section_room before log extra capacity client rings spurious next next_rings entry kept within made =
    let after = sectioned_kept before log extra capacity client rings spurious next next_rings entry kept within made in
    omega (arith, after.always.rule.bounded, after.room, length_push log entry)

woken_settles : (client : ℕ) (place : Place) (condition : ℕ) (before next : Configuration) → IsSettled before → WakesSpuriously client place condition before next → IsSettled next
woken_settles client place condition before next settled wakes = record {
  free = ap (λ (c : Configuration). c.owner) wakes.becomes ∙ settled.free;
  none_enters = none_enters client place (Woken condition) before next settled.none_enters
      (came_put client place (Woken condition) before.standings next.standings (ap (λ (c : Configuration). c.standings) wakes.becomes))
      (subst (λ (c : Configuration). StandsAt c.standings client place (Woken condition)) (sym wakes.becomes)
      (put_same before.standings client place (Woken condition) (stands_within before.standings client place (Waiting condition) wakes.waits)))
      (λ is. entering_woken condition is);
}

pub woken_kept : (before : Machine) (log : List Entry) (extra capacity client : ℕ) (call : Place) (condition : ℕ) (rings : List (List ℕ)) (spurious : ℕ) (next : Machine) → IsKept (free_of before log extra) capacity rings spurious
    → spurious < extra → (place : Place) × StandsAt before.now.standings client place (Waiting condition) → IsSomeAnd (slice_get before.now.standings client) (λ standing. call ≡ standing.place)
    → client < length before.system.clients → Happened (events.Spurious client) before next
    → IsKept (free_of next (log ++ spurious_entry client call ∷ []) extra) capacity (set rings condition (without client (line_of rings condition))) (spurious + 1)
woken_kept before log extra capacity client call condition rings spurious next kept left waits told within happened = record {
  always = always (free_of next (log ++ entry ∷ []) extra) (subst IsSystem (sym happened.0) kept.always.rule.is) (subst (λ (system : System). AreClients system.clients) (sym happened.0) kept.always.rule.clients) legal settled (omega (arith, one_more log entry refl, kept.counted, left)) kept.always.rule.extra;
  settled = settled.none_enters;
  room = subst (λ (system : System). room_of (record { system = system; now = next.now; log = log ++ entry ∷ []; extra = extra }) ≡ capacity) (sym happened.0) kept.room;
  since = kept.since;
  waits = subst (λ (system : System). KeepsWaits (log ++ entry ∷ []) system.clients kept.since) (sym happened.0)
      (keeps_after log before.system.clients kept.since entry kept.waits (omega (arith, within, kept.waits.one_each)));
  lines = lines_left kept.since before.system next.system before.now.standings next.now.standings rings client waits.0 condition happened.0
      (ap length is ∙ put_length before.now.standings client happened.1.0 (Woken happened.1.1)) waits.1
      (one_left client happened.1.0 happened.1.1 before.now.standings next.now.standings wakes.waits is) kept.lines;
  counted = omega (arith, kept.counted, one_more log entry refl);
}
  where
    entry : Entry
    entry = spurious_entry client call

    wakes : WakesSpuriously client happened.1.0 happened.1.1 before.now next.now
    wakes = happened.1.2

    is : next.now.standings ≡ put before.now.standings client happened.1.0 (Woken happened.1.1)
    is = ap (λ (c : Configuration). c.standings) wakes.becomes

    settled : IsSettled next.now
    settled = woken_settles client happened.1.0 happened.1.1 before.now next.now (record { free = kept.always.rule.free; none_enters = kept.settled }) wakes

    same : happened.1.0 ≡ call
    same = place_read before.now.standings client happened.1.0 call (Waiting happened.1.1) wakes.waits told

    legal : IsLegal next.system (log ++ entry ∷ []) next.now
    legal = subst (λ (system : System). IsLegal system (log ++ entry ∷ []) next.now) (sym happened.0)
        (woken log before.now client call happened.1.1 next.now kept.always.rule.legal (subst (λ (place : Place). WakesSpuriously client place happened.1.1 before.now next.now) same wakes))

pub woken_room : (before : Machine) (log : List Entry) (extra capacity client : ℕ) (call : Place) (condition : ℕ) (rings : List (List ℕ)) (spurious : ℕ) (next : Machine) → IsKept (free_of before log extra) capacity rings spurious
    → spurious < extra → (place : Place) × StandsAt before.now.standings client place (Waiting condition) → IsSomeAnd (slice_get before.now.standings client) (λ standing. call ≡ standing.place)
    → client < length before.system.clients → Happened (events.Spurious client) before next → length log < capacity
woken_room before log extra capacity client call condition rings spurious next kept left waits told within happened =
    let after = woken_kept before log extra capacity client call condition rings spurious next kept left waits told within happened in
    omega (arith, after.always.rule.bounded, after.room, length_push log (spurious_entry client call))

pub woken_told : (before : Machine) (log : List Entry) (extra client : ℕ) (call : Place) (spurious : ℕ) (next : Machine) → spurious ≡ spurious_in log → spurious < extra
    → IsSomeAnd (slice_get before.now.standings client) (λ standing. call ≡ standing.place) → Happened (events.Spurious client) before next
    → WokenByNothing client (free_of before log extra) (free_of next (log ++ spurious_entry client call ∷ []) extra)
woken_told before log extra client call spurious next counted left told happened =
    let same = place_read before.now.standings client happened.1.0 call (Waiting happened.1.1) happened.1.2.waits told in
    record {
      place = call;
      condition = happened.1.1;
      left = omega (arith, counted, left);
      wakes = subst (λ (place : Place). WakesSpuriously client place happened.1.1 before.now next.now) same happened.1.2;
      appends = record { log = refl; system = happened.0; extra = refl };
    }

pub can_wake : (machine : Machine) (client condition : ℕ) → ((place : Place) × StandsAt machine.now.standings client place (Waiting condition)) → NotAllowed machine (events.Spurious client) → ⊥
can_wake machine client condition waits never = never _ (waits.0, condition, record { waits = waits.1; becomes = refl })

pub made_told : (before : Machine) (log : List Entry) (extra client place : ℕ) (since : List ℕ) (next : Machine) (entry : Entry) → KeepsWaits log before.system.clients since → place ≡ length log → MakesSection since client before next entry
    → MadeSection client (free_of before log extra) (free_of next (log ++ entry ∷ []) extra) (record { place = place; entry = entry })
made_told before log extra client place since next entry keeps is made = record {
  made = made.made log keeps;
  whose = made.who;
  place = is;
  appends = record { log = refl; system = made.system; extra = refl };
}

pub not_made_told : (before : Machine) (log : List Entry) (extra client place : ℕ) (next : Machine) → IsSound before.system before.now → IsSettled before.now → client < length before.system.clients → place ≡ length log → NotStarted before client next
    → NotMade client (free_of before log extra) (free_of next log extra) (record { entries = place })
not_made_told before log extra client place next sound settled within is started = record {
  rests = rests_when before log extra client sound settled within started.1;
  entries = is;
  same = ap (λ (m : Machine). free_of m log extra) started.0;
}
