-- The step of a client inside.
use Rattle.std.proofs.Common.{◌≡◌, ◌==◌, ◌&&◌, ℕ, ◌+◌, ◌<◌, true, false, List, length, get_or, Option, Some, None, refl, sym, ap, subst, ◌∙◌, inl, inr, arith}
use Rattle.std.specs.Prelude.{slice_get}
use Rattle.std.specs.Option.{option_map_or}
use Rattle.std.proofs.lemmas.Option.{slice_get_read, slice_get_within, slice_get-get_or}
use Rattle.std.proofs.lemmas.Bool.{true≢false, and_parts, eqb-true}
use Rattle.lang_base.specs.declared.value.Value.{Value}
use Rattle.lang_monitor.specs.declared.monitor.Block.{Block}
use Rattle.lang_monitor.specs.MonitorParts.{MonitorParts}
use Rattle.lang_monitor.specs.Bodies.{Inputs, Memory, memory_of}
use Rattle.machine_implicit.specs.declared.commit.Reply.{Reply}
use Rattle.machine_implicit.specs.declared.commit.Reply.TheVariants as replies
use Rattle.machine_implicit.specs.declared.place.Place.{Place}
use Rattle.machine_implicit.specs.declared.script.Call.{Call}
use Rattle.machine_implicit.specs.declared.script.Client.{Client}
use Rattle.machine_implicit.specs.Places.{call_at, block_at, inputs_at, guard_at, tries_at, first_place, next_place, IsStep}
use Rattle.machine_implicit.specs.Scripted.{FitsCall, FitsScripts, calls_in, calls_of}
use Rattle.machine_implicit.specs.Steps.{guard_truth, FitsBlock, FitsInputs, IsBlockStep}
use Rattle.machine_events.specs.Events.{commit_at}
use Rattle.machine_explicit.specs.declared.position.Position.{Position}
use Rattle.machine_events.specs.declared.event.Stage.TheVariants.{Notifying}
use Rattle.machine_explicit.specs.inner.Positions.{HasStepped, to_come_after}
use Rattle.machine_implicit.proofs.Fitting.{all_at, calls_fit, is_some_and}

-- a client that tries at its first block
pub record IsTrying (clients : List Client) (client : ℕ) (place : Place) : Type 0 where
  pub call : Call
  pub is : call_at clients client place ≡ Some call
  pub tries : call.tries ≡ true
  pub first : place.block ≡ 0

pub trying : (clients : List Client) (client : ℕ) (place : Place) → tries_at clients client place ≡ true → IsTrying clients client place
trying clients client place tries = by (call_at clients client place) refl
  where
    by : (found : Option Call) → call_at clients client place ≡ found → IsTrying clients client place
    by None is = absurd (true≢false (sym tries ∙ ap (λ (one : Option Call). option_map_or (λ call. call.tries && place.block == 0) one false) is))
    by (Some call) is =
        let both = and_parts call.tries (place.block == 0) (sym (ap (λ (one : Option Call). option_map_or (λ call. call.tries && place.block == 0) one false) is) ∙ tries) in
        record { call = call; is = is; tries = both.0; first = eqb-true place.block 0 both.1 }

pub refused_step : (monitor : MonitorParts) (clients : List Client) (client : ℕ) (place goes : Place) (state : List Value) → IsTrying clients client place → guard_at monitor clients state client place ≡ false
    → goes ≡ first_place monitor clients client (place.past + 1) → IsStep monitor clients client place state replies.Refused state goes
refused_step monitor clients client place goes state try fails first = record {
  call = try.call;
  memory = memory_of state (inputs_at try.call place);
  at = try.is;
  step = inr (record {
    tries = try.tries;
    first = try.first;
    guard = sym (ap (λ (one : Option Call). option_map_or (λ call. guard_truth monitor state (block_at monitor call place) (inputs_at call place)) one false) try.is) ∙ fails;
    reply_is = refl;
    stays = refl;
  });
  state_is = refl;
  place_is = first;
}

-- ---- a client whose guard is true

pub guarded : (monitor : MonitorParts) (clients : List Client) (state : List Value) (client : ℕ) (place : Place) → guard_at monitor clients state client place ≡ true → (call : Call) × (call_at clients client place ≡ Some call)
guarded monitor clients state client place guard = by (call_at clients client place) refl
  where
    by : (found : Option Call) → call_at clients client place ≡ found → (call : Call) × (call_at clients client place ≡ Some call)
    by None is = absurd (true≢false (sym guard ∙ ap (λ (one : Option Call). option_map_or (λ call. guard_truth monitor state (block_at monitor call place) (inputs_at call place)) one false) is))
    by (Some call) is = (call, is)

pub read_call : (monitor : MonitorParts) (clients : List Client) (state : List Value) (client : ℕ) (place : Place) (d : Client) (some : List Call) (call : Call) → client < length clients → some ≡ (get_or clients client d).calls
    → guard_at monitor clients state client place ≡ true → call ≡ get_or some place.past call → call_at clients client place ≡ Some call
read_call monitor clients state client place d some call within own guard is =
    let calls : some ≡ calls_of clients client = own ∙ sym (ap calls_in (slice_get-get_or clients client d within)) in
    let found = guarded monitor clients state client place guard in
    let past : place.past < length some = omega (arith, slice_get_within (calls_of clients client) place.past found.0 found.1, ap length calls) in
    ap (λ (all : List Call). slice_get all place.past) (sym calls) ∙ slice_get_read some (length some) place.past call refl past is

pub call_fits_here : (monitor : MonitorParts) (clients : List Client) (client : ℕ) (place : Place) (call : Call) → FitsScripts monitor clients → call_at clients client place ≡ Some call → FitsCall monitor call
call_fits_here monitor clients client place call scripts at = all_at (FitsCall monitor) (calls_of clients client) place.past call at (calls_fit monitor clients client scripts)

pub block_within : (monitor : MonitorParts) (block : ℕ) (inputs : Inputs) → FitsBlock monitor block inputs → block < length monitor.blocks
block_within monitor block inputs fits =
    let found = is_some_and (slice_get monitor.blocks block) (λ (which : Block). FitsInputs monitor which.method inputs) fits in
    slice_get_within monitor.blocks block found.0 found.1

pub ran_step : (monitor : MonitorParts) (clients : List Client) (client : ℕ) (place goes : Place) (call : Call) (block : ℕ) (state next arguments locals : List Value) (reply : Reply)
    → call_at clients client place ≡ Some call → block ≡ block_at monitor call place → arguments ≡ call.inputs
    → IsBlockStep monitor block (record { arguments = arguments; locals = place.locals }) state reply (record { state = next; locals = locals })
    → goes ≡ next_place monitor clients client call place reply locals → IsStep monitor clients client place state reply next goes
ran_step monitor clients client place goes call block state next arguments locals reply at number same step next_is = record {
  call = call;
  memory = record { state = next; locals = locals };
  at = at;
  step = inl (subst (λ (which : ℕ). IsBlockStep monitor which (inputs_at call place) state reply (record { state = next; locals = locals })) number
      (subst (λ (values : List Value). IsBlockStep monitor block (record { arguments = values; locals = place.locals }) state reply (record { state = next; locals = locals })) same step));
  state_is = refl;
  place_is = next_is;
}

pub has_run : (monitor : MonitorParts) (clients : List Client) (client : ℕ) (before after : Position) (call : Call) (block : ℕ) (state next arguments locals : List Value) (reply : Reply)
    → call_at clients client before.place ≡ Some call → block ≡ block_at monitor call before.place → arguments ≡ call.inputs
    → IsBlockStep monitor block (record { arguments = arguments; locals = before.place.locals }) state reply (record { state = next; locals = locals })
    → after.place ≡ next_place monitor clients client call before.place reply locals → after.stage ≡ Notifying (to_come_after monitor block reply)
    → HasStepped monitor clients client state next before after (commit_at client before.place reply)
unfolding ran_step
has_run monitor clients client before after call block state next arguments locals reply at number same step next_is told = record {
  step = ran_step monitor clients client before.place after.place call block state next arguments locals reply at number same step next_is;
  commits = refl;
  notes = told ∙ ap (λ which. Notifying (to_come_after monitor which reply)) number;
}
