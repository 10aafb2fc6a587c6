-- A schedule has one log: by rounds, and drawn.
use Rattle.std.proofs.Common.{◌≡◌, ℕ, ◌+◌, ◌%◌, ◌/◌, ◌≤◌, List, [], ◌∷◌, ◌++◌, length, refl, sym, ap, ap₂, subst, ◌∙◌, arith, inl, inr}
use Rattle.std.specs.Prelude.{nat_le, slice_get}
use Rattle.std.proofs.lemmas.Bool.{true≢false}
use Rattle.std.proofs.lemmas.Option.{same_Some}
use Rattle.rand_pcg.specs.Lcg.{Lcg}
use Rattle.rand_pcg.specs.Pcg.{pcg32}
use Rattle.machine_implicit.specs.Rounds.{asked_before}
use Rattle.machine_implicit.proofs.OneRun.{asked_once, which}
use Rattle.machine_implicit.specs.declared.place.Place.{Place}
use Rattle.machine_events.specs.declared.log.Entry.{Entry}
use Rattle.machine_events.specs.declared.plan.Note.{Note}
use Rattle.machine_events.specs.declared.event.Stage.{Stage}
use Rattle.machine_events.specs.Configurations.{System, Configuration, put}
use Rattle.machine_events.specs.declared.event.Stage.TheVariants.{Waiting, Woken}
use Rattle.machine_events.proofs.Standings.{one_place, one_stage}
use Rattle.machine_explicit.specs.Sections.{FreeMachine, AddsEntry, WokenByNothing, spurious_entry}
use Rattle.machine_simulate.specs.Schedules.{Acts, Drawing, IsAt, IsByRounds, IsDrawn, IsDrawnFrom, IsNextReady, IsTurn, ready, waiting, wakes_at}
use Rattle.machine_simulate.specs.Schedules.IsByRounds.{ended, acted}
use Rattle.machine_simulate.specs.Schedules.IsTurn.{woken as turn_woke, acted as turn_acted}
use Rattle.machine_simulate.specs.Schedules.IsDrawnFrom.{ended as drawn_ended, turned}
use Rattle.machine_simulate.proofs.OneSection.{one_section}

-- ---- one step of a client

abbrev made_machine : System → Configuration → List Entry → ℕ → FreeMachine
made_machine system now log extra = record { system = system; now = now; log = log; extra = extra }

same_after : (before one other : FreeMachine) (entry also : Entry) → AddsEntry before entry one → AddsEntry before also other → entry ≡ also → one.now ≡ other.now → one ≡ other
same_after before one other entry also adds more entries configurations =
    ap₂ (λ (system : System) (now : Configuration). made_machine system now one.log one.extra) (adds.system ∙ sym more.system) configurations
    ∙ ap₂ (made_machine other.system other.now) (adds.log ∙ ap (λ (last : Entry). before.log ++ last ∷ []) entries ∙ sym more.log) (adds.extra ∙ sym more.extra)

acts_once : (client : ℕ) (before one other : FreeMachine) → Acts client before one → Acts client before other → one ≡ other
acts_once client before one other acts also =
    let same = one_section before.system before.log before.now client acts.0.entry also.0.entry one.now other.now acts.1.whose also.1.whose acts.1.made also.1.made in
    same_after before one other acts.0.entry also.0.entry acts.1.appends also.1.appends same.entries same.configurations

condition_in : Stage (List Note) → ℕ
condition_in (Waiting condition) = condition
condition_in stage = 0

same_condition : (condition other : ℕ) → ◌≡◌ {A = Stage (List Note)} (Waiting condition) (Waiting other) → condition ≡ other
unfolding condition_in
same_condition condition other same = ap condition_in same

wakes_once : (client : ℕ) (before one other : FreeMachine) → WokenByNothing client before one → WokenByNothing client before other → one ≡ other
wakes_once client before one other wakes also =
    let at = wakes.wakes.waits in
    let there = also.wakes.waits in
    let places = one_place before.now.standings client wakes.place also.place (Waiting wakes.condition) (Waiting also.condition) at there in
    let conditions =
    same_condition wakes.condition also.condition (one_stage before.now.standings client wakes.place also.place (Waiting wakes.condition) (Waiting also.condition) at there) in
    let becomes = λ (place : Place) (condition : ℕ). record before.now { standings = put before.now.standings client place (Woken condition) } in
    same_after before one other (spurious_entry client wakes.place) (spurious_entry client also.place) wakes.appends also.appends
    (ap (spurious_entry client) places) (wakes.wakes.becomes ∙ ap₂ becomes places conditions ∙ sym also.wakes.becomes)

-- ---- by rounds

next_once : (asked : ℕ) (machine : FreeMachine) (a b : ℕ) → asked ≤ length machine.system.clients → IsNextReady asked machine a → IsNextReady asked machine b → a ≡ b
next_once asked machine a b few one two =
    let count = length machine.system.clients in
    elim (which (asked_before count asked a) (asked_before count asked b)) [
      | inl same ↦ asked_once count asked a b (nat_le asked a) (nat_le asked b) refl refl one.is two.is few same
      | inr other ↦ elim other [
        | inl less ↦ absurd (true≢false (sym one.can ∙ two.first a one.is less))
        | inr more ↦ absurd (true≢false (sym two.can ∙ one.first b two.is more))
      ]
    ]

rounds_once : (asked : ℕ) (now one other : FreeMachine) → asked ≤ length now.system.clients → IsByRounds asked now one → IsByRounds asked now other → one ≡ other
rounds_once asked now one other few (ended first here none) (ended also there nobody) = refl
rounds_once asked now one other few (ended first here none) (acted also client there next last actor acts rest) = absurd (true≢false (sym actor.can ∙ none client))
rounds_once asked now one other few (acted first client here next last actor acts rest) (ended also there none) = absurd (true≢false (sym actor.can ∙ none client))
rounds_once asked now one other few (acted first client here next last actor acts rest) (acted also who there after end chosen makes more) =
    let clients = next_once first here client who few actor chosen in
    let machines = acts_once client here next after acts (subst (λ (one : ℕ). Acts one here after) (sym clients) makes) in
    let systems = ap (λ (system : System). length system.clients) acts.1.appends.system in
    let within = actor.is in
    let same = subst (λ (count : ℕ). IsByRounds (count + 1) next end) (sym clients) (subst (λ (start : FreeMachine). IsByRounds (who + 1) start end) (sym machines) more) in
    rounds_once (client + 1) next last end (omega arith) rest same

pub one_by_rounds : (before one other : FreeMachine) → IsByRounds 0 before one → IsByRounds 0 before other → one ≡ other
one_by_rounds before one other are also = rounds_once 0 before one other (omega arith) are also

-- ---- drawn

abbrev made_drawing : FreeMachine → Lcg → ℕ → Drawing
made_drawing machine generator left = record { machine = machine; generator = generator; left = left }

same_drawing : (one other : Drawing) → one.machine ≡ other.machine → one.generator ≡ other.generator → one.left ≡ other.left → one ≡ other
same_drawing one other machines generators left =
    ap (λ (machine : FreeMachine). made_drawing machine one.generator one.left) machines ∙ ap₂ (made_drawing other.machine) generators left

-- a word, and the generator after it
same_word : (before : Lcg) (x y : ℕ) (next other : Lcg) → (x, next) ≡ pcg32 before → (y, other) ≡ pcg32 before → x ≡ y
same_word before x y next other one two = ap (λ (drawn : ℕ × Lcg). drawn.0) (one ∙ sym two)

same_generator : (before : Lcg) (x y : ℕ) (next other : Lcg) → (x, next) ≡ pcg32 before → (y, other) ≡ pcg32 before → next ≡ other
same_generator before x y next other one two = ap (λ (drawn : ℕ × Lcg). drawn.1) (one ∙ sym two)

same_client : (clients : List ℕ) (position other client who : ℕ) → position ≡ other → IsAt clients position client → IsAt clients other who → client ≡ who
same_client clients position other client who same at there =
    same_Some client who (sym at ∙ ap (λ (place : ℕ). slice_get clients (place % length clients)) same ∙ there)

turn_once : (now one other : Drawing) → IsTurn now one → IsTurn now other → one ≡ other
turn_once now one other (turn_woke here next x y client drawn first wakes second at wake left) (turn_woke there after z w who made begins also word found woke more) =
    let generators = same_generator here.generator x z drawn made first begins in
    let second_word = subst (λ (generator : Lcg). (w, after.generator) ≡ pcg32 generator) (sym generators) word in
    let clients = same_client (waiting here.machine) y w client who (same_word drawn y w next.generator after.generator second second_word) at found in
    let machines = wakes_once client here.machine next.machine after.machine wake (subst (λ (one : ℕ). WokenByNothing one here.machine after.machine) (sym clients) woke) in
    same_drawing next after machines (same_generator drawn y w next.generator after.generator second second_word) (omega (arith, left, more))
turn_once now one other (turn_woke here next x y client drawn first wakes second at wake left) (turn_acted there after z who begins none found acts more) =
    let words = same_word here.generator x z drawn after.generator first begins in
    absurd (true≢false (sym wakes ∙ ap (λ (word : ℕ). wakes_at word here.left here.machine) words ∙ none))
turn_once now one other (turn_acted here next x client first none at acts left) (turn_woke there after z w who made begins wakes word found woke more) =
    let words = same_word here.generator x z next.generator made first begins in
    absurd (true≢false (sym wakes ∙ sym (ap (λ (word : ℕ). wakes_at word here.left here.machine) words) ∙ none))
turn_once now one other (turn_acted here next x client first none at acts left) (turn_acted there after z who begins nobody found makes more) =
    let words = same_word here.generator x z next.generator after.generator first begins in
    let clients = same_client (ready here.machine) (x / 4) (z / 4) client who (ap (λ (word : ℕ). word / 4) words) at found in
    let machines = acts_once client here.machine next.machine after.machine acts (subst (λ (one : ℕ). Acts one here.machine after.machine) (sym clients) makes) in
    same_drawing next after machines (same_generator here.generator x z next.generator after.generator first begins) (left ∙ sym more)

drawn_once : (now : Drawing) (one other : FreeMachine) → IsDrawnFrom now one → IsDrawnFrom now other → one ≡ other
drawn_once now one other (drawn_ended here closed) (drawn_ended there also) = refl
drawn_once now one other (drawn_ended here closed) (turned there next last open_still turn rest) = absurd (open_still closed)
drawn_once now one other (turned here next last open_still turn rest) (drawn_ended there closed) = absurd (open_still closed)
drawn_once now one other (turned here next last open_still turn rest) (turned there after end still_open also more) =
    let same = turn_once here next after turn also in
    drawn_once next last end rest (subst (λ (start : Drawing). IsDrawnFrom start end) (sym same) more)

pub one_drawn : (seed spurious : ℕ) (before one other : FreeMachine) → IsDrawn seed spurious before one → IsDrawn seed spurious before other → one ≡ other
one_drawn seed spurious before one other are also = drawn_once _ one other are also
