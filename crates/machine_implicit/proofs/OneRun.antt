-- The run by rounds is one run.
use Rattle.std.proofs.Common.{◌≡◌, ℕ, zero, suc, ◌+◌, ◌-◌, ◌<◌, ◌≤◌, ◌⊎◌, ◌↔◌, Bool, true, false, IsTrue, cond, List, [], ◌∷◌, ◌++◌, Option, Some, None, length, refl, sym, ap, subst, ◌∙◌, arith, inl, inr, length-append}
use Rattle.std.specs.Prelude.{nat_le, slice_get, slice_set, IsSomeAnd}
use Rattle.std.proofs.lemmas.Bool.{true≢false}
use Rattle.std.proofs.lemmas.Bool.Decides.{nat_tests}
use Rattle.std.proofs.lemmas.Option.{same_Some}
use Rattle.lang_base.specs.declared.value.Value.{Value}
use Rattle.lang_monitor.specs.declared.monitor.Block.{Block}
use Rattle.lang_monitor.specs.MonitorParts.{MonitorParts}
use Rattle.lang_monitor.specs.Bodies.{Inputs, Memory}
use Rattle.machine_implicit.specs.declared.commit.Commit.{Commit}
use Rattle.machine_implicit.specs.declared.commit.Reply.{Reply}
use Rattle.machine_implicit.specs.declared.commit.Turns.{Turns}
use Rattle.machine_implicit.specs.declared.script.Call.{Call}
use Rattle.machine_implicit.specs.declared.script.Client.{Client}
use Rattle.machine_implicit.specs.Steps.{BlockSteps}
use Rattle.machine_implicit.specs.declared.place.Place.{Place}
use Rattle.machine_implicit.specs.Places.{IsCallStep, IsStep, block_at, inputs_at, next_place}
use Rattle.machine_implicit.specs.Runs.{CanAct, IsFinished, IsNextCommit}
use Rattle.machine_implicit.specs.Runs.{IsRunBy, Situation, start_at}
use Rattle.machine_implicit.specs.Runs.IsRunBy.{begun, stepped}
use Rattle.machine_implicit.specs.Rounds.{end_of, AreTurnsByRounds, IsNextActor, IsRunByRounds, asked_before, first_asked}
use Rattle.machine_implicit.proofs.Schedule.{first_asked_more}

-- ---- one step

record SameOutcome (reply other : Reply) (next after : Memory) : Type 0 where
  replies : reply ≡ other
  memories : next ≡ after

block_steps_once : (block : Block) (inputs : Inputs) (state : List Value) (next after : Memory) (reply other : Reply) → BlockSteps block inputs state reply next → BlockSteps block inputs state other after → SameOutcome reply other next after
block_steps_once block inputs state next after reply other one two = elim one [
  | inl whole ↦ elim two [
    | inl also ↦ record { replies = whole.1 ∙ sym also.1; memories = whole.2 ∙ sym also.2 }
    | inr over ↦ absurd (whole.0 over.0)
  ]
  | inr over ↦ elim two [
    | inl whole ↦ absurd (whole.0 over.0)
    | inr also ↦ record { replies = over.1 ∙ sym also.1; memories = over.2 ∙ sym also.2 }
  ]
]

found_steps_once : (found : Option Block) (inputs : Inputs) (state : List Value) (next after : Memory) (reply other : Reply) → IsSomeAnd found (λ which. BlockSteps which inputs state reply next) → IsSomeAnd found (λ which. BlockSteps which inputs state other after) → SameOutcome reply other next after
found_steps_once None inputs state next after reply other one two = absurd one
found_steps_once (Some block) inputs state next after reply other one two = block_steps_once block inputs state next after reply other one two

-- a step of a block and a refusal have opposite guards
call_steps_once : (monitor : MonitorParts) (call : Call) (place : Place) (state : List Value) (next after : Memory) (reply other : Reply)
    → IsCallStep monitor call place state reply next → IsCallStep monitor call place state other after → SameOutcome reply other next after
call_steps_once monitor call place state next after reply other (inl one) (inl two) = found_steps_once (slice_get monitor.blocks (block_at monitor call place)) (inputs_at call place) state next after reply other one.runs two.runs
call_steps_once monitor call place state next after reply other (inl one) (inr two) = absurd (true≢false (sym one.guard ∙ two.guard))
call_steps_once monitor call place state next after reply other (inr one) (inl two) = absurd (true≢false (sym two.guard ∙ one.guard))
call_steps_once monitor call place state next after reply other (inr one) (inr two) = record { replies = one.reply_is ∙ sym two.reply_is; memories = one.stays ∙ sym two.stays }

pub record SameStep (reply other : Reply) (next after : List Value) (goes also_goes : Place) : Type 0 where
  replies : reply ≡ other
  states : next ≡ after
  places : goes ≡ also_goes

pub steps_once : (monitor : MonitorParts) (clients : List Client) (client : ℕ) (place : Place) (state : List Value) (reply other : Reply) (next after : List Value) (goes also_goes : Place)
    → IsStep monitor clients client place state reply next goes → IsStep monitor clients client place state other after also_goes → SameStep reply other next after goes also_goes
steps_once monitor clients client place state reply other next after goes also_goes one two =
    let call : one.call ≡ two.call = same_Some one.call two.call (sym one.at ∙ two.at) in
    let same = call_steps_once monitor one.call place state one.memory two.memory reply other one.step (subst (λ (which : Call). IsCallStep monitor which place state other two.memory) (sym call) two.step) in
    record {
      replies = same.replies;
      states = one.state_is ∙ ap (λ (memory : Memory). memory.state) same.memories ∙ sym two.state_is;
      places = one.place_is
          ∙ ap (λ (which : Call). next_place monitor clients client which place reply one.memory.locals) call
          ∙ ap (λ (what : Reply). next_place monitor clients client two.call place what one.memory.locals) same.replies
          ∙ ap (λ (memory : Memory). next_place monitor clients client two.call place other memory.locals) same.memories
          ∙ sym two.place_is;
    }

-- ---- one next actor

pub which : (a b : ℕ) → (a ≡ b) ⊎ ((a < b) ⊎ (b < a))
which a b = grind arith

pub asked_once : (count first a b : ℕ) (past also : Bool) → nat_le first a ≡ past → nat_le first b ≡ also → a < count → b < count → first ≤ count
    → cond past (a - first) ((a + count) - first) ≡ cond also (b - first) ((b + count) - first) → a ≡ b
asked_once count first a b true true low also within other few same = grind (arith, nat_tests)
asked_once count first a b true false low also within other few same = grind (arith, nat_tests)
asked_once count first a b false true low also within other few same = grind (arith, nat_tests)
asked_once count first a b false false low also within other few same = grind (arith, nat_tests)

acts_once : (monitor : MonitorParts) (clients : List Client) (history : List Commit) (now : Situation) (a b : ℕ) → first_asked history ≤ length clients → IsNextActor monitor clients history now a → IsNextActor monitor clients history now b → a ≡ b
acts_once monitor clients history now a b few one two =
    let before = asked_before (length clients) (first_asked history) in
    elim (which (before a) (before b)) [
      | inl same ↦ asked_once (length clients) (first_asked history) a b (nat_le (first_asked history) a) (nat_le (first_asked history) b) refl refl one.is two.is few same
      | inr other ↦ elim other [
        | inl less ↦ absurd (two.first a one.is less one.can)
        | inr more ↦ absurd (one.first b two.is more two.can)
      ]
    ]

-- ---- one next commit

abbrev made_commit : ℕ → ℕ → ℕ → Reply → Commit
made_commit client call block reply = record { client = client; call = call; block = block; reply = reply }

same_commit : (one other : Commit) → one.client ≡ other.client → one.call ≡ other.call → one.block ≡ other.block → one.reply ≡ other.reply → one ≡ other
same_commit one other clients calls blocks replies =
    ap (λ (client : ℕ). made_commit client one.call one.block one.reply) clients
    ∙ ap (λ (call : ℕ). made_commit other.client call one.block one.reply) calls
    ∙ ap (λ (block : ℕ). made_commit other.client other.call block one.reply) blocks
    ∙ ap (λ (reply : Reply). made_commit other.client other.call other.block reply) replies

pub record SameNext (one other : Commit) (next after : Situation) : Type 0 where
  pub commits : one ≡ other
  pub situations : next ≡ after

abbrev made_situation : List Value → List Place → Situation
made_situation state places = record { state = state; places = places }

pub follows_once : (monitor : MonitorParts) (clients : List Client) (now next after : Situation) (one other : Commit) → one.client ≡ other.client
    → IsNextCommit monitor clients now one next → IsNextCommit monitor clients now other after → SameNext one other next after
follows_once monitor clients now next after one other client follows also =
    let place : follows.place ≡ also.place = same_Some follows.place also.place (sym follows.at ∙ ap (slice_get now.places) client ∙ also.at) in
    let here = subst (λ (who : ℕ). IsStep monitor clients who also.place now.state other.reply also.state also.goes) (sym client) also.step in
    let there = subst (λ (where_at : Place). IsStep monitor clients one.client where_at now.state other.reply also.state also.goes) (sym place) here in
    let same = steps_once monitor clients one.client follows.place now.state one.reply other.reply follows.state also.state follows.goes also.goes follows.step there in
    record {
      commits = same_commit one other client
          (follows.call ∙ ap (λ (where_at : Place). where_at.past + 1) place ∙ sym also.call)
          (follows.block ∙ ap (λ (where_at : Place). where_at.block + 1) place ∙ sym also.block)
          same.replies;
      situations = follows.becomes
          ∙ ap (λ (state : List Value). made_situation state (slice_set now.places one.client follows.goes)) same.states
          ∙ ap (λ (who : ℕ). made_situation also.state (slice_set now.places who follows.goes)) client
          ∙ ap (λ (goes : Place). made_situation also.state (slice_set now.places other.client goes)) same.places
          ∙ sym also.becomes;
    }

-- ---- the last step of a run

record IsLastStep (monitor : MonitorParts) (clients : List Client) (history : List Commit) (now : Situation) : Type 0 where
  before : List Commit
  reached : Situation
  commit : Commit
  run : IsRunByRounds monitor clients before reached
  acts : IsNextActor monitor clients before reached commit.client
  follows : IsNextCommit monitor clients reached commit now
  is : history ≡ before ++ commit ∷ []

abbrev Ending : MonitorParts → List Client → List Commit → Situation → Type 0
Ending monitor clients history now = ((history ≡ []) × (now ≡ start_at monitor clients)) ⊎ IsLastStep monitor clients history now

ending : {monitor : MonitorParts} {clients : List Client} {history : List Commit} {now : Situation} → IsRunBy monitor clients (IsNextActor monitor clients) history now → Ending monitor clients history now
ending begun = inl (refl, refl)
ending (stepped before reached commit next run acts follows) = inr (record { before = before; reached = reached; commit = commit; run = run; acts = acts; follows = follows; is = refl })

few_asked : (monitor : MonitorParts) (clients : List Client) (history : List Commit) (now : Situation) → Ending monitor clients history now → first_asked history ≤ length clients
few_asked monitor clients history now (inl empty) = let asked = ap (λ (list : List Commit). first_asked list) empty.0 in omega arith
few_asked monitor clients history now (inr last) =
    let asked = ap (λ (list : List Commit). first_asked list) last.is ∙ first_asked_more last.before last.commit in
    let within = last.acts.is in
    omega arith

one_longer : (monitor : MonitorParts) (clients : List Client) (history : List Commit) (now : Situation) (last : IsLastStep monitor clients history now) → length history ≡ length last.before + 1
one_longer monitor clients history now last = let whole = ap (λ (list : List Commit). length list) last.is ∙ length-append last.before (last.commit ∷ []) in omega arith

-- ---- runs of one length are the same

record SameRun (history other : List Commit) (now after : Situation) : Type 0 where
  histories : history ≡ other
  situations : now ≡ after

of_no_step : (monitor : MonitorParts) (clients : List Client) (history : List Commit) (now : Situation) → Ending monitor clients history now → length history ≡ 0 → (history ≡ []) × (now ≡ start_at monitor clients)
of_no_step monitor clients history now (inl empty) long = empty
of_no_step monitor clients history now (inr last) long = let longer = one_longer monitor clients history now last in absurd (omega arith)

of_steps : (monitor : MonitorParts) (clients : List Client) (history : List Commit) (now : Situation) (count : ℕ) → Ending monitor clients history now → length history ≡ suc count → IsLastStep monitor clients history now
of_steps monitor clients history now count (inl empty) long = let none = ap (λ (list : List Commit). length list) empty.0 in absurd (omega arith)
of_steps monitor clients history now count (inr last) long = last

next_same : (monitor : MonitorParts) (clients : List Client) (history other : List Commit) (now after : Situation) (one : IsLastStep monitor clients history now) (two : IsLastStep monitor clients other after)
    → SameRun one.before two.before one.reached two.reached → SameRun history other now after
next_same monitor clients history other now after one two same =
    let Acts = λ (list : List Commit). IsNextActor monitor clients list one.reached two.commit.client in
    let acts = subst Acts (sym same.histories) (subst (λ (reached : Situation). IsNextActor monitor clients two.before reached two.commit.client) (sym same.situations) two.acts) in
    let follows = subst (λ (reached : Situation). IsNextCommit monitor clients reached two.commit after) (sym same.situations) two.follows in
    let few = few_asked monitor clients one.before one.reached (ending one.run) in
    let client = acts_once monitor clients one.before one.reached one.commit.client two.commit.client few one.acts acts in
    let next = follows_once monitor clients one.reached now after one.commit two.commit client one.follows follows in
    record {
      histories = one.is ∙ ap (λ (commit : Commit). one.before ++ commit ∷ []) next.commits ∙ ap (λ (list : List Commit). list ++ two.commit ∷ []) same.histories ∙ sym two.is;
      situations = next.situations;
    }

same_run : (monitor : MonitorParts) (clients : List Client) (count : ℕ) (history other : List Commit) (now after : Situation)
    → IsRunByRounds monitor clients history now → IsRunByRounds monitor clients other after → length history ≡ count → length other ≡ count
    → SameRun history other now after
same_run monitor clients zero history other now after one two long also =
    let first = of_no_step monitor clients history now (ending one) long in
    let second = of_no_step monitor clients other after (ending two) also in
    record { histories = first.0 ∙ sym second.0; situations = first.1 ∙ sym second.1 }
same_run monitor clients (suc count) history other now after one two long also =
    let first = of_steps monitor clients history now count (ending one) long in
    let second = of_steps monitor clients other after count (ending two) also in
    let longer = one_longer monitor clients history now first in
    let also_longer = one_longer monitor clients other after second in
    next_same monitor clients history other now after first second
    (same_run monitor clients count first.before second.before first.reached second.reached first.run second.run (omega arith) (omega arith))

-- ---- a run that has ended is as long as any

-- a shorter run by the same rounds, after which some client acts
record IsCut (monitor : MonitorParts) (clients : List Client) (count : ℕ) : Type 0 where
  before : List Commit
  reached : Situation
  client : ℕ
  run : IsRunByRounds monitor clients before reached
  long : length before ≡ count
  acts : CanAct monitor clients reached client

last_or_earlier : (count long : ℕ) → count < long + 1 → (long ≡ count) ⊎ (count < long)
last_or_earlier count long less = grind arith

cut : {monitor : MonitorParts} {clients : List Client} {history : List Commit} {now : Situation} → IsRunBy monitor clients (IsNextActor monitor clients) history now → (count : ℕ) → count < length history → IsCut monitor clients count
cut begun count less = absurd (omega arith)
cut (stepped before reached commit next run acts follows) count less =
    let whole = length-append before (commit ∷ []) in
    elim (last_or_earlier count (length before) (omega arith)) [
      | inl here ↦ record { before = before; reached = reached; client = commit.client; run = run; long = here; acts = acts.can }
      | inr earlier ↦ cut run count earlier
    ]

no_longer : (monitor : MonitorParts) (clients : List Client) (one other : Turns) → AreTurnsByRounds monitor clients one → AreTurnsByRounds monitor clients other → length one.history < length other.history → ⊥
no_longer monitor clients one other are also less =
    let part = cut also.by_rounds (length one.history) less in
    let same = same_run monitor clients (length one.history) one.history part.before (end_of one) part.reached are.by_rounds part.run refl part.long in
    are.ends part.client (subst (λ (reached : Situation). CanAct monitor clients reached part.client) (sym same.situations) part.acts)

-- ---- the runs as a whole

abbrev made_turns : List Commit → Situation → Bool → Turns
made_turns history now finished = record { history = history; state = now.state; places = now.places; finished = finished }

same_turns : (one other : Turns) → one.history ≡ other.history → end_of one ≡ end_of other → one.finished ≡ other.finished → one ≡ other
same_turns one other histories ends finished =
    ap (λ (history : List Commit). made_turns history (end_of one) one.finished) histories
    ∙ ap (λ (now : Situation). made_turns other.history now one.finished) ends
    ∙ ap (λ (is : Bool). made_turns other.history (end_of other) is) finished

same_answer : (a b : Bool) (P : Type 0) → IsTrue a ↔ P → IsTrue b ↔ P → a ≡ b
same_answer true true P one two = refl
same_answer true false P one two = absurd (let wrong = two.1 (one.0 refl) in cc)
same_answer false true P one two = absurd (let wrong = one.1 (two.0 refl) in cc)
same_answer false false P one two = refl

pub one_run : (monitor : MonitorParts) (clients : List Client) (one other : Turns) → AreTurnsByRounds monitor clients one → AreTurnsByRounds monitor clients other → one ≡ other
one_run monitor clients one other are also =
    let long : length other.history ≡ length one.history = elim (which (length other.history) (length one.history)) [
      | inl same ↦ same
      | inr longer ↦ elim longer [
        | inl less ↦ absurd (no_longer monitor clients other one also are less)
        | inr more ↦ absurd (no_longer monitor clients one other are also more)
      ]
    ] in
    let same = same_run monitor clients (length one.history) one.history other.history (end_of one) (end_of other) are.by_rounds also.by_rounds refl long in
    let finished = subst (λ (now : Situation). IsTrue other.finished ↔ IsFinished clients now) (sym same.situations) also.finished in
    same_turns one other same.histories same.situations (same_answer one.finished other.finished (IsFinished clients (end_of one)) are.finished finished)
