-- The call that a client is at, its block, and the condition on which it waits there.
use Rattle.std.proofs.Common.{◌≡◌, ◌==◌, ◌⊎◌, ℕ, zero, suc, ◌+◌, ◌-◌, ◌<◌, ◌≤◌, Bool, true, false, ◌&&◌, List, length, Option, Some, refl, sym, ap, subst, ◌∙◌, arith, inl, inr}
use Rattle.std.specs.Prelude.{slice_get}
use Rattle.std.specs.Option.{option_map_or}
use Rattle.std.proofs.lemmas.Option.{same_Some}
use Rattle.std.proofs.lemmas.Bool.{true≢false, and_from, eq-eqb, cases_Bool}
use Rattle.logic_linear.specs.Truth.{truth_of}
use Rattle.lang_base.specs.declared.value.Value.{Value}
use Rattle.lang_monitor.specs.declared.monitor.Block.{Block}
use Rattle.lang_monitor.specs.declared.monitor.Condition.{Condition}
use Rattle.lang_monitor.specs.declared.monitor.Method.{Method}
use Rattle.lang_monitor.specs.MonitorParts.{MonitorParts, IsMonitor, IsBlockOf, first_in, count_in, asserts_in}
use Rattle.lang_monitor.specs.Conditions.{HasCondition}
use Rattle.lang_monitor.specs.Bodies.{valuation}
use Rattle.machine_implicit.specs.declared.script.Call.{Call}
use Rattle.machine_implicit.specs.Steps.{FitsInputs, block_truth, guard_truth}
use Rattle.machine_implicit.specs.declared.place.Place.{Place}
use Rattle.machine_implicit.specs.Places.{call_at, block_at, inputs_at, tries_at, FitsPlace, FitsPlaceAt}
use Rattle.machine_implicit.specs.Scripted.{FitsCall, FitsScripts, calls_of}
use Rattle.machine_events.specs.Plans.{IsCondition}
use Rattle.machine_events.specs.Configurations.{System, Configuration, StandsAt, guard_of, block_condition, waited_condition}
use Rattle.machine_events.specs.declared.event.Stage.TheVariants.{Waiting}
use Rattle.machine_events.specs.Pending.{IsSystem, IsSound}
pub use Rattle.machine_implicit.proofs.Fitting.{at_index, all_at, is_some_and}
pub use Rattle.machine_implicit.proofs.Fitting.{calls_fit, block_there}

-- a client at this place is at this block of this call
pub record Faces (system : System) (client : ℕ) (place : Place) (call : Call) (block : Block) : Type 0 where
  pub call_is : call_at system.clients client place ≡ Some call
  pub block_is : slice_get system.monitor.blocks (block_at system.monitor call place) ≡ Some block
  pub of : block.method ≡ call.method
  pub fits_inputs : FitsInputs system.monitor block.method (inputs_at call place)

pub faces : (system : System) (client : ℕ) (place : Place) → IsMonitor system.monitor
    → FitsScripts system.monitor system.clients
    → FitsPlace system.monitor system.clients client place
    → place.past < length (calls_of system.clients client)
    → (call : Call) × (block : Block) × Faces system client place call block
faces system client place rule fits fit_place left =
    let call = at_index (calls_of system.clients client) place.past left in
    let block = block_there system.monitor system.clients client place call.0 rule fits fit_place call.1 in (
      call.0,
      block.0,
      record {
        call_is = call.1;
        block_is = block.1.is;
        of = block.1.of;
        fits_inputs = block.1.inputs;
      },
    )

pub guard_is : (system : System) (state : List Value) (client : ℕ) (place : Place) (call : Call)
    (block : Block) → Faces system client place call block
    → guard_of system state client place
    ≡ truth_of (valuation state (inputs_at call place)) block.guard
guard_is system state client place call block faced =
    ap (λ (one : Option Call). option_map_or (λ call. guard_truth system.monitor state (block_at system.monitor call place) (inputs_at call place)) one false) faced.call_is
    ∙ ap (block_truth state (inputs_at call place)) faced.block_is

pub condition_is : (system : System) (client : ℕ) (place : Place) (call : Call) (block : Block)
    → Faces system client place call block
    → waited_condition system client place ≡ block.condition
condition_is system client place call block faced =
    ap (λ (one : Option Call). option_map_or (λ call. block_condition system.monitor (block_at system.monitor call place)) one 0) faced.call_is
    ∙ ap (λ (one : Option Block). option_map_or (λ block. block.condition) one 0) faced.block_is

pub own_condition : (system : System) (client : ℕ) (place : Place) (call : Call) (block : Block)
    → Faces system client place call block
    → block_condition system.monitor (block_at system.monitor call place) ≡ block.condition
own_condition system client place call block faced = ap (λ (one : Option Block). option_map_or (λ block. block.condition) one 0) faced.block_is

-- ---- who waits is at a block that has a condition

none_or_some : (number : ℕ) → (number ≡ 0) ⊎ (1 ≤ number)
none_or_some zero = inl refl
none_or_some (suc number) = inr (omega arith)

-- a call that is at a block of a method that asserts tries there
asserted_tries : (system : System) (client : ℕ) (place : Place) (call : Call) (method : Method)
    → IsMonitor system.monitor → FitsCall system.monitor call
    → call_at system.clients client place ≡ Some call
    → slice_get system.monitor.methods call.method ≡ Some method → place.block < method.count
    → method.asserts ≡ true → tries_at system.clients client place ≡ true
asserted_tries system client place call method rule fit at is counted asserts =
    let first : place.block ≡ 0 = omega (arith, counted, (rule.methods call.method method is).alone asserts) in
    ap (λ (one : Option Call). option_map_or (λ call. call.tries && place.block == 0) one false) at
    ∙ and_from call.tries (place.block == 0) (fit.tries (ap asserts_in is ∙ asserts)) (eq-eqb place.block 0 first)

-- the method of the call that a client is at
record HasMethod (system : System) (place : Place) (call : Call) (method : Method) : Type 0 where
  fit : FitsCall system.monitor call
  is : slice_get system.monitor.methods call.method ≡ Some method
  counted : place.block < method.count

has_method : (system : System) (client : ℕ) (place : Place) (call : Call)
    → FitsScripts system.monitor system.clients
    → FitsPlace system.monitor system.clients client place
    → call_at system.clients client place ≡ Some call
    → (method : Method) × HasMethod system place call method
has_method system client place call fits fit_place at =
    let monitor = system.monitor in
    let fit = all_at (FitsCall monitor) (calls_of system.clients client) place.past call at (calls_fit monitor system.clients client fits) in
    let here : FitsPlaceAt monitor place (Some call) = subst (FitsPlaceAt monitor place) at fit_place in
    let method = at_index monitor.methods call.method fit.method in (
      method.0,
      record { fit = fit; is = method.1; counted = subst (λ (found : Option Method). place.block < count_in found) method.1 here.0 },
    )

-- who doesn't try is at a block of a method that doesn't assert
pub no_assertion : (system : System) (client : ℕ) (place : Place) (call : Call)
    → IsMonitor system.monitor → FitsScripts system.monitor system.clients
    → FitsPlace system.monitor system.clients client place
    → call_at system.clients client place ≡ Some call
    → tries_at system.clients client place ≡ false
    → asserts_in (slice_get system.monitor.methods call.method) ≡ false
no_assertion system client place call rule fits fit_place at patient =
    let own = has_method system client place call fits fit_place at in
    elim (cases_Bool (asserts_in (slice_get system.monitor.methods call.method))) [
      | inl asserts ↦ absurd (true≢false (sym (asserted_tries system client place call own.0 rule own.1.fit at own.1.is own.1.counted (sym (ap asserts_in own.1.is) ∙ asserts)) ∙ patient))
      | inr none ↦ none
    ]

pub has_condition : (system : System) (client : ℕ) (place : Place) (call : Call) (block : Block)
    → IsMonitor system.monitor → FitsScripts system.monitor system.clients
    → FitsPlace system.monitor system.clients client place
    → Faces system client place call block
    → tries_at system.clients client place ≡ false → 1 ≤ block.condition
has_condition system client place call block rule fits fit_place faced patient =
    let monitor = system.monitor in
    let own = has_method system client place call fits fit_place faced.call_is in
    let its = is_some_and (slice_get monitor.blocks (own.0.first + place.block)) (IsBlockOf monitor call.method place.block own.0) ((rule.methods call.method own.0 own.1.is).blocks place.block own.1.counted) in
    let number : block_at monitor call place ≡ own.0.first + place.block = ap (λ (found : Option Method). first_in found + place.block) own.1.is in
    let same : its.0 ≡ block = same_Some its.0 block (sym its.1 ∙ ap (slice_get monitor.blocks) (sym number) ∙ faced.block_is) in
    elim (none_or_some block.condition) [
      | inl none ↦
          let asserts = its.2.waits.0 (ap (λ (one : Block). one.condition) same ∙ none) in
          absurd (true≢false (sym (asserted_tries system client place call own.0 rule own.1.fit faced.call_is own.1.is own.1.counted asserts) ∙ patient))
      | inr some ↦ some
    ]

-- the block has this condition
pub record IsOfCondition (monitor : MonitorParts) (block : Block) (which : Condition) : Type 0 where
  pub is : IsCondition monitor block.condition which
  pub guard : which.guard ≡ block.guard

pub own_guard : (monitor : MonitorParts) (number : ℕ) (block : Block) → IsMonitor monitor
    → slice_get monitor.blocks number ≡ Some block → 1 ≤ block.condition
    → (which : Condition) × IsOfCondition monitor block which
own_guard monitor number block rule is numbered =
    let condition = all_at (HasCondition monitor.conditions) monitor.blocks number block is rule.conditions numbered in
    let which = is_some_and (slice_get monitor.conditions (block.condition - 1)) (λ (one : Condition). one.guard ≡ block.guard) condition in
    (which.0, record { is = record { numbered = numbered; there = which.1 }; guard = which.2 })

-- a client that waits on a condition is at a block of it
pub record IsWaiter (system : System) (client : ℕ) (place : Place) (condition : ℕ) (call : Call) (block : Block) (which : Condition) : Type 0 where
  pub faced : Faces system client place call block
  pub own : condition ≡ block.condition
  pub which_is : IsCondition system.monitor condition which
  pub guard : which.guard ≡ block.guard

pub waiter : (system : System) (client : ℕ) (place : Place) (condition : ℕ)
    → IsMonitor system.monitor → FitsScripts system.monitor system.clients
    → FitsPlace system.monitor system.clients client place
    → place.past < length (calls_of system.clients client)
    → (condition ≡ waited_condition system client place)
    × (tries_at system.clients client place ≡ false)
    → (call : Call) × (block : Block) × (which : Condition)
    × IsWaiter system client place condition call block which
waiter system client place condition rule fits fit_place left waits =
    let found = faces system client place rule fits fit_place left in
    let own : condition ≡ found.1.condition = waits.0 ∙ condition_is system client place found.0 found.1 found.2 in
    let which = own_guard system.monitor (block_at system.monitor found.0 place) found.1 rule found.2.block_is (has_condition system client place found.0 found.1 rule fits fit_place found.2 waits.1) in (
      found.0,
      found.1,
      which.0,
      record {
        faced = found.2;
        own = own;
        which_is = subst (λ (one : ℕ). IsCondition system.monitor one which.0) (sym own) which.1.is;
        guard = which.1.guard;
      },
    )

-- its guard is the condition's
pub waiter_guard : (system : System) (state : List Value) (client : ℕ) (place : Place)
    (condition : ℕ) (call : Call) (block : Block) (which : Condition)
    → IsWaiter system client place condition call block which
    → guard_of system state client place
    ≡ truth_of (valuation state (inputs_at call place)) which.guard
waiter_guard system state client place condition call block which here =
    guard_is system state client place call block here.faced ∙ ap (truth_of (valuation state (inputs_at call place))) (sym here.guard)

pub waiter_in : (system : System) → IsSystem system → (c : Configuration) → IsSound system c
    → (client : ℕ) (place : Place) (condition : ℕ)
    → StandsAt c.standings client place (Waiting condition)
    → (call : Call) × (block : Block) × (which : Condition)
    × IsWaiter system client place condition call block which
waiter_in system is c sound client place condition at =
    waiter system client place condition is.rule is.scripts (sound.places client place (Waiting condition) at) (sound.begun client place (Waiting condition) at refl)
    (sound.waits client place (Waiting condition) condition at refl)
