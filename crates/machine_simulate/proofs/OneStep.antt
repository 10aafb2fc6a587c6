-- A client makes one step from its place in a state.
use Rattle.std.proofs.Common.{◌≡◌, ℕ, List, Option, Some, None, sym, ap, subst, ◌∙◌, inl, inr}
use Rattle.std.specs.Prelude.{slice_get, IsSomeAnd}
use Rattle.std.proofs.lemmas.Bool.{true≢false}
use Rattle.std.proofs.lemmas.Option.{same_Some}
use Rattle.lang_base.specs.declared.value.Value.{Value}
use Rattle.lang_monitor.specs.declared.monitor.Block.{Block}
use Rattle.lang_monitor.specs.MonitorParts.{MonitorParts}
use Rattle.lang_monitor.specs.Bodies.{Inputs, Memory}
use Rattle.machine_implicit.specs.declared.commit.Reply.{Reply}
use Rattle.machine_implicit.specs.declared.place.Place.{Place}
use Rattle.machine_implicit.specs.declared.script.Call.{Call}
use Rattle.machine_implicit.specs.declared.script.Client.{Client}
use Rattle.machine_implicit.specs.Places.{IsCallStep, IsStep, block_at, inputs_at, next_place}
use Rattle.machine_implicit.specs.Steps.{BlockSteps}

record SameOutcome (reply other : Reply) (next after : Memory) : Type 0 where
  replies : reply ≡ other
  memories : next ≡ after

block_steps_once : (block : Block) (inputs : Inputs) (state : List Value) (next after : Memory)
    (reply other : Reply) → BlockSteps block inputs state reply next
    → BlockSteps block inputs state other after → SameOutcome reply other next after
block_steps_once block inputs state next after reply other one two = elim one [
  | inl whole ↦ elim two [
    | inl also ↦ record { replies = whole.1 ∙ sym also.1; memories = whole.2 ∙ sym also.2 }
    | inr over ↦ absurd (whole.0 over.0)
  ]
  | inr over ↦ elim two [
    | inl whole ↦ absurd (whole.0 over.0)
    | inr also ↦ record { replies = over.1 ∙ sym also.1; memories = over.2 ∙ sym also.2 }
  ]
]

found_steps_once : (found : Option Block) (inputs : Inputs) (state : List Value)
    (next after : Memory) (reply other : Reply)
    → IsSomeAnd found (λ which. BlockSteps which inputs state reply next)
    → IsSomeAnd found (λ which. BlockSteps which inputs state other after)
    → SameOutcome reply other next after
found_steps_once None inputs state next after reply other one two = absurd one
found_steps_once (Some block) inputs state next after reply other one two = block_steps_once block inputs state next after reply other one two

-- a step of a block and a refusal have opposite guards
call_steps_once : (monitor : MonitorParts) (call : Call) (place : Place) (state : List Value)
    (next after : Memory) (reply other : Reply)
    → IsCallStep monitor call place state reply next
    → IsCallStep monitor call place state other after → SameOutcome reply other next after
call_steps_once monitor call place state next after reply other (inl one) (inl two) = found_steps_once (slice_get monitor.blocks (block_at monitor call place)) (inputs_at call place) state next after reply other one.runs two.runs
call_steps_once monitor call place state next after reply other (inl one) (inr two) = absurd (true≢false (sym one.guard ∙ two.guard))
call_steps_once monitor call place state next after reply other (inr one) (inl two) = absurd (true≢false (sym two.guard ∙ one.guard))
call_steps_once monitor call place state next after reply other (inr one) (inr two) = record { replies = one.reply_is ∙ sym two.reply_is; memories = one.stays ∙ sym two.stays }

pub record SameStep (reply other : Reply) (next after : List Value)
    (goes also_goes : Place) : Type 0 where
  pub replies : reply ≡ other
  pub states : next ≡ after
  pub places : goes ≡ also_goes

pub steps_once : (monitor : MonitorParts) (clients : List Client) (client : ℕ) (place : Place)
    (state : List Value) (reply other : Reply) (next after : List Value) (goes also_goes : Place)
    → IsStep monitor clients client place state reply next goes
    → IsStep monitor clients client place state other after also_goes
    → SameStep reply other next after goes also_goes
steps_once monitor clients client place state reply other next after goes also_goes one two =
    let call : one.call ≡ two.call = same_Some one.call two.call (sym one.at ∙ two.at) in
    let same = call_steps_once monitor one.call place state one.memory two.memory reply other one.step (subst (λ (which : Call). IsCallStep monitor which place state other two.memory) (sym call) two.step) in
    record {
      replies = same.replies;
      states = one.state_is ∙ ap (λ (memory : Memory). memory.state) same.memories ∙ sym two.state_is;
      places = one.place_is
          ∙ ap (λ (which : Call). next_place monitor clients client which place reply one.memory.locals) call
          ∙ ap (λ (what : Reply). next_place monitor clients client two.call place what one.memory.locals) same.replies
          ∙ ap (λ (memory : Memory). next_place monitor clients client two.call place other memory.locals) same.memories
          ∙ sym two.place_is;
    }
