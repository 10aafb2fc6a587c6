-- Where a client is in its script, and its step from there.
use Rattle.std.specs.Prelude.{◌≡◌, ◌==◌, ◌⊎◌, ◌+◌, ◌<◌, ℕ, Bool, true, false, ◌&&◌, ◌||◌, nat_le}
use Rattle.std.specs.Prelude.{List, [], Option, Some, None, slice_get, if◌then◌else◌}
use Rattle.std.specs.Option.{option_map_or}
use Rattle.lang_base.specs.declared.value.Value.{Value}
use Rattle.lang_monitor.specs.MonitorParts.{MonitorParts, first_in, count_in, locals_in}
use Rattle.lang_monitor.specs.Bodies.{Inputs, Memory, memory_of}
use Rattle.machine_implicit.specs.declared.commit.Reply.{Reply}
use Rattle.machine_implicit.specs.declared.commit.Reply.TheVariants as replies
use Rattle.machine_implicit.specs.declared.script.Call.{Call}
use Rattle.machine_implicit.specs.declared.script.Client.{Client}
use Rattle.machine_implicit.specs.declared.place.Place.{Place}
use Rattle.machine_implicit.specs.Steps.{guard_truth, IsBlockStep, FitsLocals}
use Rattle.machine_implicit.specs.Scripted.{calls_of}

-- ---- a client's place: how many calls it is past, how many blocks of the next one, and its locals

-- the call that it is at, where it has one left
abbrev pub call_at : List Client → ℕ → Place → Option Call
call_at clients client place = slice_get (calls_of clients client) place.past

-- the number in the monitor of the block that it is at
abbrev pub block_at : MonitorParts → Call → Place → ℕ
block_at monitor call place = first_in (slice_get monitor.methods call.method) + place.block

-- the inputs of that block
abbrev pub inputs_at : Call → Place → Inputs
inputs_at call place = record { arguments = call.inputs; locals = place.locals }

-- whether its guard is true in a state, at its inputs; with no call left it is false
abbrev pub guard_at : MonitorParts → List Client → List Value → ℕ → Place → Bool
guard_at monitor clients state client place =
    option_map_or
    (λ call. guard_truth monitor state (block_at monitor call place) (inputs_at call place))
    (call_at clients client place) false

-- it does not wait there: it is at the first block of a call that tries
abbrev pub tries_at : List Client → ℕ → Place → Bool
tries_at clients client place =
    option_map_or (λ call. call.tries && place.block == 0) (call_at clients client place) false

-- ---- from one place to the next

-- the place at which a client is past so many calls, and begins the next one, with the start values
-- of its method
abbrev pub first_place : MonitorParts → List Client → ℕ → ℕ → Place
first_place monitor clients client past = record {
  past = past;
  block = 0;
  locals = option_map_or (λ call. locals_in (slice_get monitor.methods call.method))
      (slice_get (calls_of clients client) past) [];
}

-- after these replies the call is done whatever blocks are left
abbrev pub gives_up : Reply → Bool
gives_up replies.Overflow = true
gives_up replies.Refused = true
gives_up reply = false

abbrev pub is_last : MonitorParts → Call → ℕ → Bool
is_last monitor call block = nat_le (count_in (slice_get monitor.methods call.method)) (block + 1)

-- the place after a step with this reply that left these locals: the call's next block, or, where
-- the call is done, the next call
abbrev pub next_place : MonitorParts → List Client → ℕ → Call → Place → Reply → List Value → Place
next_place monitor clients client call place reply locals =
    if gives_up reply || is_last monitor call place.block
    then first_place monitor clients client (place.past + 1)
    else record { past = place.past; block = place.block + 1; locals = locals }

-- ---- the step of a client

-- at the first block of a call that tries, whose guard is false, the call is refused, and all stays
pub record IsRefusal (monitor : MonitorParts) (call : Call) (place : Place) (state : List Value)
    (reply : Reply) (next : Memory) : Type 0 where
  pub tries : call.tries ≡ true
  pub first : place.block ≡ 0
  pub guard : guard_truth monitor state (block_at monitor call place) (inputs_at call place) ≡ false
  pub reply_is : reply ≡ replies.Refused
  pub stays : next ≡ memory_of state (inputs_at call place)

-- a step of a call from a place: of its block, or a refusal
abbrev pub IsCallStep : MonitorParts → Call → Place → List Value → Reply → Memory → Type 0
IsCallStep monitor call place state reply next =
    IsBlockStep monitor (block_at monitor call place) (inputs_at call place) state reply next
    ⊎ IsRefusal monitor call place state reply next

-- a step of a client from its place in a state, to a state and a place; no other step exists
pub record IsStep (monitor : MonitorParts) (clients : List Client) (client : ℕ) (place : Place)
    (state : List Value) (reply : Reply) (next : List Value) (after : Place) : Type 0 where
  pub call : Call
  pub memory : Memory
  pub at : call_at clients client place ≡ Some call
  pub step : IsCallStep monitor call place state reply memory
  pub state_is : next ≡ memory.state
  pub place_is : after ≡ next_place monitor clients client call place reply memory.locals

-- it may step: its guard is true, or it is at the first block of a call that tries
abbrev pub may_step : MonitorParts → List Client → List Value → ℕ → Place → Bool
may_step monitor clients state client place =
    guard_at monitor clients state client place || tries_at clients client place

-- ---- places that there are

-- a client with a call left is at a block of its method, with values of the kinds of its locals;
-- one with no call left is at no block
abbrev pub FitsPlaceAt : MonitorParts → Place → Option Call → Type 0
FitsPlaceAt monitor place None = place.block ≡ 0
FitsPlaceAt monitor place (Some call) =
    (place.block < count_in (slice_get monitor.methods call.method))
    × FitsLocals monitor call.method place.locals

-- the client may be there
abbrev pub FitsPlace : MonitorParts → List Client → ℕ → Place → Type 0
FitsPlace monitor clients client place = FitsPlaceAt monitor place (call_at clients client place)
