-- What steps reply.
use Rattle.std.proofs.Common.{◌≡◌, ◌⊎◌, ◌↔◌, ◌==◌, ℕ, ◌+◌, ◌<◌, true, false, ◌&&◌, List, Option, Some, None, IsSomeAnd, refl, sym, ap, subst, ◌∙◌, arith, inl, inr}
use Rattle.std.specs.Prelude.{slice_get}
use Rattle.std.specs.Option.{option_map_or}
use Rattle.std.proofs.lemmas.Option.{same_Some}
use Rattle.std.proofs.lemmas.Bool.{true≢false, and_from, eq-eqb}
use Rattle.lang_base.specs.declared.value.Value.{Value}
use Rattle.lang_base.specs.declared.value.Value.TheVariants as values
use Rattle.lang_monitor.specs.declared.monitor.Block.{Block}
use Rattle.lang_monitor.specs.declared.monitor.Method.{Method}
use Rattle.lang_monitor.specs.declared.monitor.Ret.{Ret}
use Rattle.lang_monitor.specs.declared.monitor.Ret.TheVariants as rets
use Rattle.lang_monitor.specs.MonitorParts.{MonitorParts, IsMonitor, IsBlockOf, asserts_in, first_in, count_in}
use Rattle.lang_monitor.specs.Bodies.{Inputs, Memory, after, result_value}
use Rattle.machine_implicit.specs.declared.commit.Reply.{Reply}
use Rattle.machine_implicit.specs.declared.commit.Reply.TheVariants as replies
use Rattle.machine_implicit.specs.declared.script.Call.{Call}
use Rattle.machine_implicit.specs.declared.script.Client.{Client}
use Rattle.machine_implicit.specs.Steps.{BlockSteps, guard_truth, reply_of}
use Rattle.machine_implicit.specs.declared.place.Place.{Place}
use Rattle.machine_implicit.specs.Places.{call_at, block_at, inputs_at, guard_at, tries_at, FitsPlace, FitsPlaceAt, IsCallStep, IsStep}
use Rattle.machine_implicit.specs.Scripted.{FitsCall, FitsScripts, calls_of}
use Rattle.machine_implicit.proofs.Fitting.{all_at, calls_fit}

-- ---- refused

not_refused : (answer : Option Value) → reply_of answer ≡ replies.Refused → ⊥
not_refused None is = cc is
not_refused (Some (values.Int number)) is = cc is
not_refused (Some (values.Bool truth)) is = cc is

block_not_refused : (found : Option Block) (inputs : Inputs) (state : List Value) (reply : Reply) (next : Memory) → IsSomeAnd found (λ which. BlockSteps which inputs state reply next) → reply ≡ replies.Refused → ⊥
block_not_refused None inputs state reply next runs is = runs
block_not_refused (Some block) inputs state reply next (inl all) is = not_refused _ (sym all.1 ∙ is)
block_not_refused (Some block) inputs state reply next (inr over) is = absurd (cc (sym over.1 ∙ is))

guard_is : (monitor : MonitorParts) (clients : List Client) (client : ℕ) (place : Place) (state : List Value) (call : Call) → call_at clients client place ≡ Some call
    → guard_at monitor clients state client place ≡ guard_truth monitor state (block_at monitor call place) (inputs_at call place)
guard_is monitor clients client place state call is =
    ap (λ (one : Option Call). option_map_or (λ call. guard_truth monitor state (block_at monitor call place) (inputs_at call place)) one false) is

refused_by : (monitor : MonitorParts) (clients : List Client) (client : ℕ) (place : Place) (state : List Value) (reply : Reply) (call : Call) (memory : Memory) → call_at clients client place ≡ Some call
    → IsCallStep monitor call place state reply memory
    → (reply ≡ replies.Refused) ↔ ((tries_at clients client place ≡ true) × (guard_at monitor clients state client place ≡ false))
refused_by monitor clients client place state reply call memory at (inl step) = (
  λ is. absurd (block_not_refused (slice_get monitor.blocks (block_at monitor call place)) (inputs_at call place) state reply memory step.runs is),
  λ both. absurd (true≢false (sym (guard_is monitor clients client place state call at ∙ step.guard) ∙ both.1)),
)
refused_by monitor clients client place state reply call memory at (inr refusal) = (
  λ is. (
    ap (λ (one : Option Call). option_map_or (λ call. call.tries && place.block == 0) one false) at ∙ and_from call.tries (place.block == 0) refusal.tries (eq-eqb place.block 0 refusal.first),
    guard_is monitor clients client place state call at ∙ refusal.guard,
  ),
  λ both. refusal.reply_is,
)

pub refused_exactly : (monitor : MonitorParts) (clients : List Client) (client : ℕ) (place : Place) (state : List Value) (reply : Reply) (next : List Value) (goes : Place)
    → IsStep monitor clients client place state reply next goes
    → (reply ≡ replies.Refused) ↔ ((tries_at clients client place ≡ true) × (guard_at monitor clients state client place ≡ false))
refused_exactly monitor clients client place state reply next goes step = refused_by monitor clients client place state reply step.call step.memory step.at step.step

-- ---- calls of methods that assert

-- such a call tries, at the only block that there is
asserting_tries : (monitor : MonitorParts) (call : Call) (place : Place) (found : Option Method) → IsMonitor monitor → FitsCall monitor call → slice_get monitor.methods call.method ≡ found
    → place.block < count_in found → asserts_in found ≡ true → (call.tries && place.block == 0) ≡ true
asserting_tries monitor call place None rule fits is within asserts = absurd (omega (arith, within))
asserting_tries monitor call place (Some method) rule fits is within asserts =
    let alone = (rule.methods call.method method is).alone asserts in
    and_from call.tries (place.block == 0) (fits.tries (ap asserts_in is ∙ asserts)) (eq-eqb place.block 0 (omega (arith, within, alone)))

pub assertions_try : (monitor : MonitorParts) (clients : List Client) (client : ℕ) (place : Place) (call : Call) → IsMonitor monitor → FitsScripts monitor clients
    → FitsPlace monitor clients client place → call_at clients client place ≡ Some call
    → asserts_in (slice_get monitor.methods call.method) ≡ true → tries_at clients client place ≡ true
assertions_try monitor clients client place call rule fits fit_place at asserts =
    let here : FitsPlaceAt monitor place (Some call) = subst (FitsPlaceAt monitor place) at fit_place in
    let fit = all_at (FitsCall monitor) (calls_of clients client) place.past call at (calls_fit monitor clients client fits) in
    ap (λ (one : Option Call). option_map_or (λ call. call.tries && place.block == 0) one false) at ∙ asserting_tries monitor call place (slice_get monitor.methods call.method) rule fit refl here.0 asserts

-- ---- a block before the last

nothing_answered : (block : Block) (inputs : Inputs) (state : List Value) (reply : Reply) (next : Memory) → block.result ≡ rets.Nothing → BlockSteps block inputs state reply next
    → (reply ≡ replies.Unit) ⊎ ((reply ≡ replies.Overflow) ⊎ (reply ≡ replies.Refused))
nothing_answered block inputs state reply next none (inl all) = inl (all.1 ∙ ap (λ (ret : Ret). reply_of (result_value (after inputs block.body state) inputs.arguments ret)) none)
nothing_answered block inputs state reply next none (inr over) = inr (inl over.1)

pub earlier_answer_nothing : (monitor : MonitorParts) (clients : List Client) (client : ℕ) (place : Place) (call : Call) (state : List Value) (reply : Reply) (next : List Value) (goes : Place)
    → IsMonitor monitor → call_at clients client place ≡ Some call → place.block + 1 < count_in (slice_get monitor.methods call.method)
    → IsStep monitor clients client place state reply next goes
    → (reply ≡ replies.Unit) ⊎ ((reply ≡ replies.Overflow) ⊎ (reply ≡ replies.Refused))
earlier_answer_nothing monitor clients client place call state reply next goes rule at early step =
    let same : step.call ≡ call = same_Some step.call call (sym step.at ∙ at) in
    by (slice_get monitor.methods call.method) refl (subst (λ (which : Call). IsCallStep monitor which place state reply step.memory) same step.step)
  where
    found_block : (found : Option Block) (method : Method) (number : ℕ) → IsSomeAnd found (λ block. IsBlockOf monitor number place.block method block) → place.block + 1 < method.count
        → IsSomeAnd found (λ which. BlockSteps which (inputs_at call place) state reply step.memory)
        → (reply ≡ replies.Unit) ⊎ ((reply ≡ replies.Overflow) ⊎ (reply ≡ replies.Refused))
    found_block None method number about few runs = absurd runs
    found_block (Some block) method number about few runs = nothing_answered block (inputs_at call place) state reply step.memory (about.answers few) runs

    by : (found : Option Method) → slice_get monitor.methods call.method ≡ found → IsCallStep monitor call place state reply step.memory
        → (reply ≡ replies.Unit) ⊎ ((reply ≡ replies.Overflow) ⊎ (reply ≡ replies.Refused))
    by found is (inr refusal) = inr (inr refusal.reply_is)
    by None is (inl block) = absurd (let none = ap (λ (one : Option Method). count_in one) is in omega (arith, none, early))
    by (Some method) is (inl block) =
        let few : place.block + 1 < method.count = subst (λ (one : Option Method). place.block + 1 < count_in one) is early in
        let about = (rule.methods call.method method is).blocks place.block (omega (arith, few)) in
        let number : block_at monitor call place ≡ method.first + place.block = ap (λ (one : Option Method). first_in one + place.block) is in
        let runs = subst (λ (at : ℕ). IsSomeAnd (slice_get monitor.blocks at) (λ which. BlockSteps which (inputs_at call place) state reply step.memory)) number block.runs in
        found_block (slice_get monitor.blocks (method.first + place.block)) method call.method about few runs
