-- In a legal log each entry is one after those before it, so its line names it.
use Rattle.std.proofs.Common.{◌≡◌, ℕ, ◌<◌, ◌^◌, Bool, true, not, ◌||◌, ℤ, pos, negsuc, neg_ℤ, List, [], length, Option, Some, None, IsSomeAnd, ap, sym, refl, subst, ◌∙◌, arith, inl, inr}
use Rattle.std.specs.Prelude.{int_le, int_lt, slice_get, option_map}
use Rattle.std.proofs.lemmas.Bool.{and_parts, or_right, not_from_false, true_from_ne_false}
use Rattle.std.proofs.lemmas.Int.{ints}
use Rattle.std.proofs.lemmas.Option.{slice_get-map}
use Rattle.lang_base.specs.declared.value.Value.{Value}
use Rattle.lang_base.specs.declared.value.Value.TheVariants as values
use Rattle.lang_monitor.specs.declared.monitor.Block.{Block}
use Rattle.lang_monitor.specs.Bodies.{Inputs, Memory, memory_of, body_effect, block_result, fits_64, fits_result_64}
use Rattle.lang_monitor.specs.MonitorParts.{MonitorParts}
use Rattle.machine_implicit.specs.declared.script.Call.{Call}
use Rattle.machine_implicit.specs.declared.script.Client.{Client}
use Rattle.machine_implicit.specs.declared.commit.Commit.{Commit}
use Rattle.machine_implicit.specs.declared.commit.Reply.{Reply}
use Rattle.machine_implicit.specs.declared.place.Place.{Place}
use Rattle.machine_implicit.specs.Steps.{BlockSteps, reply_of}
use Rattle.machine_implicit.specs.Places.{block_at, inputs_at, IsCallStep, IsStep}
use Rattle.machine_implicit.specs.Runs.{Situation, IsRun}
use Rattle.machine_events.specs.declared.log.Entry.{Entry}
use Rattle.machine_events.specs.declared.log.Outcome.{Outcome}
use Rattle.machine_events.specs.declared.log.Outcome.TheVariants as outcomes
use Rattle.machine_events.specs.declared.plan.Note.{Note}
use Rattle.machine_events.specs.declared.event.Stage.{Stage}
use Rattle.machine_events.specs.Configurations.{System, Standing, Configuration, StandsAt, situation_of}
use Rattle.machine_events.specs.declared.event.Stage.TheVariants.{Idle, Waiting, Woken}
use Rattle.machine_events.specs.Pending.{IsSystem, IsSound}
use Rattle.machine_events.specs.Logs.{IsBegun, IsSection, IsLegal, AreWoken, commits_of, entry_at}
use Rattle.machine_events.specs.Logs.IsSection.{waited, refused, replied}
use Rattle.machine_events.specs.Logs.IsLegal.{empty, sectioned, woken}
use Rattle.machine_events.proofs.Standings.{stands_within}
use Rattle.machine_events.proofs.Legal.{legal_keeps, sound_lasts}
use Rattle.machine_events.proofs.Commits.{legal_commits}
use Rattle.lang_base.proofs.Numerals.{IsShortInt}
use Rattle.report_text.proofs.Wakes.{AreClientBits, no_client_bits}
use Rattle.report_text.proofs.LogLines.{IsShortReply, FitsOutcome, IsEntryAfter}
use Rattle.report_text.proofs.NamedLogs.{AreEntriesAfter, entries_push}

-- ---- a reply's number is within 64 bits, so its text has it in full

short_64 : (number : ℤ) → fits_64 (values.Int number) ≡ true → IsShortInt number
short_64 (pos number) fits =
    let below : number < 2 ^ 63 = below_64 number (and_parts (int_le (neg_ℤ (pos (2 ^ 63))) (pos number)) (int_lt (pos number) (pos (2 ^ 63))) fits).1 in
    omega (arith, below)
  where
    below_64 : (number : ℕ) → int_lt (pos number) (pos (2 ^ 63)) ≡ true → number < 2 ^ 63
    below_64 number fits = grind (arith, ints)
short_64 (negsuc number) fits =
    let below : number < 2 ^ 63 = below_64 number (and_parts (int_le (neg_ℤ (pos (2 ^ 63))) (negsuc number)) (int_lt (negsuc number) (pos (2 ^ 63))) fits).0 in
    omega (arith, below)
  where
    below_64 : (number : ℕ) → int_le (neg_ℤ (pos (2 ^ 63))) (negsuc number) ≡ true → number < 2 ^ 63
    below_64 number fits = grind (arith, ints)

result_short : (result : Option Value) → fits_result_64 result ≡ true
    → IsShortReply (reply_of result)
result_short None fits = tt
result_short (Some (values.Int number)) fits = short_64 number fits
result_short (Some (values.Bool truth)) fits = tt

no_overflow : (body fits : Bool) → (((body || not fits) ≡ true) → ⊥) → fits ≡ true
no_overflow body fits never = true_from_ne_false fits (λ over. never (or_right body (not fits) (not_from_false fits over)))

block_reply : (block : Block) (inputs : Inputs) (state : List Value) (reply : Reply) (next : Memory)
    → BlockSteps block inputs state reply next → IsShortReply reply
block_reply block inputs state reply next (inl ran) =
    let result : Option Value = block_result inputs block state in
    subst IsShortReply (sym ran.1) (result_short result (no_overflow ((body_effect inputs.arguments block.body).overflows (memory_of state inputs)) (fits_result_64 result) ran.0))
block_reply block inputs state reply next (inr over) = subst IsShortReply (sym over.1) tt

from_some : {X : Type 0} (o : Option X) (P : X → Type 0) (R : Type 0) → ((x : X) → P x → R)
    → IsSomeAnd o P → R
from_some None P R from some = absurd some
from_some (Some x) P R from some = from x some

call_reply : (monitor : MonitorParts) (call : Call) (place : Place) (state : List Value)
    (reply : Reply) (next : Memory) → IsCallStep monitor call place state reply next
    → IsShortReply reply
call_reply monitor call place state reply next (inl step) =
    from_some (slice_get monitor.blocks (block_at monitor call place)) (λ block. BlockSteps block (inputs_at call place) state reply next) (IsShortReply reply)
    (λ block steps. block_reply block (inputs_at call place) state reply next steps) step.runs
call_reply monitor call place state reply next (inr refusal) = subst IsShortReply (sym refusal.reply_is) tt

step_reply : (monitor : MonitorParts) (clients : List Client) (client : ℕ) (place : Place)
    (state : List Value) (reply : Reply) (next : List Value) (goes : Place)
    → IsStep monitor clients client place state reply next goes → IsShortReply reply
step_reply monitor clients client place state reply next goes step = call_reply monitor step.call place state reply step.memory step.step

-- ---- where a client stands after a log

-- a client stands at a place of the situation to which the replies lead
pub record IsAtPlace (system : System) (log : List Entry) (client : ℕ) (place : Place) : Type 0 where
  pub within : client < length system.clients
  pub now : Situation
  pub run : IsRun system.monitor system.clients (commits_of log) now
  pub at : slice_get now.places client ≡ Some place

at_place : (system : System) (log : List Entry) (c : Configuration) (client : ℕ) (place : Place)
    (stage : Stage (List Note)) → IsSound system c → IsLegal system log c
    → StandsAt c.standings client place stage → IsAtPlace system log client place
at_place system log c client place stage sound legal stands = record {
  within = omega (arith, sound.one_each, stands_within c.standings client place stage stands);
  now = situation_of c;
  run = subst (λ (commits : List Commit). IsRun system.monitor system.clients commits (situation_of c)) (legal_commits system log c legal) sound.run;
  at = slice_get-map (λ (standing : Standing). standing.place) c.standings client ∙ ap (option_map (λ (standing : Standing). standing.place)) stands;
}

begun_at_place : (system : System) (log : List Entry) (before begun : Configuration) (client : ℕ)
    (place : Place) → IsSound system before → IsLegal system log before
    → IsBegun system client place before begun
    → IsAtPlace system log client place
begun_at_place system log before begun client place sound legal (inl begins) = at_place system log before client place Idle sound legal begins.idle
begun_at_place system log before begun client place sound legal (inr stays) = at_place system log before client place (Woken stays.0.0) sound legal stays.0.1

-- an entry of a client at its place is one after the log
entry_after : (system : System) (log : List Entry) (client : ℕ) (place : Place) (outcome : Outcome)
    → IsAtPlace system log client place → FitsOutcome (length system.clients) outcome
    → IsEntryAfter system.monitor system.clients log (entry_at client place outcome)
entry_after system log client place outcome is fits = record {
  client = is.within;
  now = is.now;
  run = is.run;
  place = place;
  at = is.at;
  call = refl;
  block = refl;
  outcome = fits;
}

-- those that are woken are clients
woken_bits : (system : System) (before next : Configuration) (bits : ℕ) → IsSound system before
    → AreWoken before next bits → AreClientBits (length system.clients) bits
woken_bits system before next bits sound are client set =
    let found = (are client).0 set in
    omega (arith, sound.one_each, stands_within before.standings client found.0 (Waiting found.1) found.2)

-- ---- the entries

section_entry : (system : System) (log : List Entry) (before : Configuration) (entry : Entry)
    (next : Configuration) → IsSound system before → IsLegal system log before
    → IsSection system log before entry next → IsEntryAfter system.monitor system.clients log entry
section_entry system log before entry next sound legal (waited client place begun locked last free begins locks waits) =
    entry_after system log client place outcomes.Waits (begun_at_place system log before begun client place sound legal begins) tt
section_entry system log before entry next sound legal (refused client place goes reply state begun locked ran last free begins locks refuses unlocks) =
    entry_after system log client place (outcomes.Replies reply 0) (begun_at_place system log before begun client place sound legal begins)
    (step_reply system.monitor system.clients client place locked.state reply state goes refuses.steps.step, no_client_bits (length system.clients))
section_entry system log before entry next sound legal (replied client place goes bits reply state begun locked ran notified last free begins locks runs notes unlocks are) =
    entry_after system log client place (outcomes.Replies reply bits) (begun_at_place system log before begun client place sound legal begins)
    (step_reply system.monitor system.clients client place locked.state reply state goes runs.steps.step, woken_bits system before last bits sound are)

pub legal_entries : (system : System) → IsSystem system → (log : List Entry) (c : Configuration)
    → IsLegal system log c → AreEntriesAfter system.monitor system.clients [] log
legal_entries system is log c empty = tt
legal_entries system is log c (sectioned more before entry next legal section) =
    let sound = legal_keeps system (IsSound system) (sound_lasts system is) more before legal in
    entries_push system.monitor system.clients [] more entry (legal_entries system is more before legal) (section_entry system more before entry next sound legal section)
legal_entries system is log c (woken more before client place condition next legal wakens) =
    let sound = legal_keeps system (IsSound system) (sound_lasts system is) more before legal in
    entries_push system.monitor system.clients [] more (entry_at client place outcomes.Spurious) (legal_entries system is more before legal)
    (entry_after system more client place outcomes.Spurious (at_place system more before client place (Waiting condition) sound legal wakens.waits) tt)
