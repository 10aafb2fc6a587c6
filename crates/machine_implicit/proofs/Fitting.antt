-- Steps leave a state and places that fit, and so do runs.
use Rattle.std.proofs.Common.{◌≡◌, ℕ, zero, suc, ◌+◌, ◌<◌, ◌==◌, ◌&&◌, Bool, true, false, cond, List, [], ◌∷◌, length, Option, Some, None, IsSomeAnd, refl, sym, ap, subst, ◌∙◌, arith, inl, inr}
use Rattle.std.specs.Prelude.{All, nat_le, slice_get, slice_set, ◌||◌}
use Rattle.std.specs.Option.{option_map_or}
use Rattle.std.proofs.lemmas.Option.{none-some, same_Some, slice_get_within, get_or_from_slice_get}
use Rattle.std.proofs.lemmas.List.Elements.{All-nil, All-head, All-tail}
use Rattle.std.proofs.lemmas.Bool.{true≢false, eqb-true, and_parts, or_cases, cases_eq, leb-false}
use Rattle.lang_base.specs.declared.value.Value.{Value}
use Rattle.lang_monitor.specs.declared.monitor.Block.{Block}
use Rattle.lang_monitor.specs.declared.monitor.Method.{Method}
use Rattle.lang_monitor.specs.MonitorParts.{MonitorParts, IsMonitor, IsBlockOf, first_in, count_in, locals_in, method_places}
use Rattle.lang_monitor.specs.Bodies.{Inputs, Memory, memory_of, after}
use Rattle.machine_implicit.specs.declared.commit.Commit.{Commit}
use Rattle.machine_implicit.specs.declared.commit.Reply.{Reply}
use Rattle.machine_implicit.specs.declared.commit.Reply.TheVariants as replies
use Rattle.machine_implicit.specs.declared.script.Call.{Call}
use Rattle.machine_implicit.specs.declared.script.Client.{Client}
use Rattle.machine_implicit.specs.Steps.{FitsState, FitsArguments, FitsLocals, FitsInputs, FitsBlock, BlockSteps, guard_truth, start_of}
use Rattle.machine_implicit.specs.Scripted.{FitsCall, FitsScripts, calls_of}
use Rattle.machine_implicit.specs.declared.place.Place.{Place}
use Rattle.machine_implicit.specs.Places.{call_at, block_at, inputs_at, guard_at, tries_at, may_step, first_place, next_place, gives_up, is_last, IsCallStep, IsStep, FitsPlaceAt, FitsPlace}
use Rattle.machine_implicit.specs.Runs.{Situation, first_places, IsRun, IsNextCommit, FitsSituation}
use Rattle.machine_implicit.specs.Runs.IsRunBy.{begun, stepped}
use Rattle.machine_implicit.proofs.Held.{held_from_kinds, kinds_held}
use Rattle.machine_implicit.proofs.Held.{of_their_kinds, start_state_fits}
use Rattle.machine_implicit.proofs.Bodies.{after_keeps_kinds}
use Rattle.machine_implicit.proofs.Placed.{placed}

pub at_index : {X : Type 0} (xs : List X) (k : ℕ) → k < length xs → (x : X) × (slice_get xs k ≡ Some x)
at_index [] k within = absurd (omega arith)
at_index (x ∷ xs) zero within = (x, refl)
at_index (x ∷ xs) (suc k) within = at_index xs k (omega arith)

pub all_at : {X : Type 0} (P : X → Type 0) (xs : List X) (k : ℕ) (x : X) → slice_get xs k ≡ Some x → All P xs → P x
all_at {X} P xs k x is all = subst P (get_or_from_slice_get xs k x x is) (all k x (slice_get_within xs k x is))

pub is_some_and : {X : Type 0} (o : Option X) (P : X → Type 0) → IsSomeAnd o P → (x : X) × (o ≡ Some x) × P x
is_some_and None P held = absurd held
is_some_and (Some x) P held = (x, refl, held)

pub calls_fit : (monitor : MonitorParts) (clients : List Client) (client : ℕ) → FitsScripts monitor clients → All (FitsCall monitor) (calls_of clients client)
calls_fit monitor [] client fits = All-nil (FitsCall monitor)
calls_fit monitor (one ∷ clients) zero fits = All-head (λ (one : Client). All (FitsCall monitor) one.calls) one clients fits
calls_fit monitor (one ∷ clients) (suc client) fits = calls_fit monitor clients client (All-tail (λ (one : Client). All (FitsCall monitor) one.calls) one clients fits)

-- ---- the block that a client is at

pub record IsAt (monitor : MonitorParts) (call : Call) (place : Place) (block : Block) : Type 0 where
  pub is : slice_get monitor.blocks (block_at monitor call place) ≡ Some block
  pub of : block.method ≡ call.method
  pub inputs : FitsInputs monitor block.method (inputs_at call place)

-- a client at a place with a call left is at a block of the call's method
pub block_there : (monitor : MonitorParts) (clients : List Client) (client : ℕ) (place : Place) (call : Call) → IsMonitor monitor → FitsScripts monitor clients
    → FitsPlace monitor clients client place → call_at clients client place ≡ Some call → (block : Block) × IsAt monitor call place block
block_there monitor clients client place call rule fits fit_place at =
    let fit = all_at (FitsCall monitor) (calls_of clients client) place.past call at (calls_fit monitor clients client fits) in
    let here : FitsPlaceAt monitor place (Some call) = subst (FitsPlaceAt monitor place) at fit_place in
    let method = at_index monitor.methods call.method fit.method in
    let counted : place.block < method.0.count = subst (λ (found : Option Method). place.block < count_in found) method.1 here.0 in
    let block = is_some_and (slice_get monitor.blocks (method.0.first + place.block)) (IsBlockOf monitor call.method place.block method.0) ((rule.methods call.method method.0 method.1).blocks place.block counted) in
    let number : block_at monitor call place ≡ method.0.first + place.block = ap (λ (found : Option Method). first_in found + place.block) method.1 in (
      block.0,
      record {
        is = ap (slice_get monitor.blocks) number ∙ block.1;
        of = block.2.of;
        inputs = record {
          arguments = subst (λ (which : ℕ). FitsArguments monitor which call.inputs) (sym block.2.of) fit.inputs;
          locals = subst (λ (which : ℕ). FitsLocals monitor which place.locals) (sym block.2.of) here.1;
        };
      },
    )

-- ---- what a step leaves

-- a state, and locals of a method
pub record MemoryFits (monitor : MonitorParts) (method : ℕ) (memory : Memory) : Type 0 where
  pub state : FitsState monitor memory.state
  pub locals : FitsLocals monitor method memory.locals

begins_fit : (monitor : MonitorParts) (method : ℕ) (state : List Value) (inputs : Inputs) → FitsState monitor state → FitsInputs monitor method inputs → MemoryFits monitor method (memory_of state inputs)
begins_fit monitor method state inputs fits given = record { state = fits; locals = given.locals }

body_leaves_fit : (monitor : MonitorParts) (number : ℕ) (block : Block) (state : List Value) (inputs : Inputs) → IsMonitor monitor → slice_get monitor.blocks number ≡ Some block
    → FitsState monitor state → FitsInputs monitor block.method inputs → MemoryFits monitor block.method (after inputs block.body state)
body_leaves_fit monitor number block state inputs rule is fits given =
    let places = method_places monitor block.method in
    let next = after inputs block.body state in
    let kept = after_keeps_kinds places inputs state block (placed monitor number block rule is).fits (record {
      state = kinds_held places.fields state fits;
      locals = kinds_held places.locals inputs.locals given.locals;
    }) in
    record { state = held_from_kinds places.fields next.state kept.state; locals = held_from_kinds places.locals next.locals kept.locals }

block_leaves_fit : (monitor : MonitorParts) (number : ℕ) (block : Block) (state : List Value) (inputs : Inputs) (reply : Reply) (next : Memory) → IsMonitor monitor → slice_get monitor.blocks number ≡ Some block
    → FitsState monitor state → FitsInputs monitor block.method inputs → BlockSteps block inputs state reply next → MemoryFits monitor block.method next
block_leaves_fit monitor number block state inputs reply next rule is fits given (inl all) = subst (MemoryFits monitor block.method) (sym all.2) (body_leaves_fit monitor number block state inputs rule is fits given)
block_leaves_fit monitor number block state inputs reply next rule is fits given (inr over) = subst (MemoryFits monitor block.method) (sym over.2) (begins_fit monitor block.method state inputs fits given)

call_leaves_fit : (monitor : MonitorParts) (call : Call) (place : Place) (block : Block) (state : List Value) (reply : Reply) (next : Memory) → IsMonitor monitor → IsAt monitor call place block
    → FitsState monitor state → IsCallStep monitor call place state reply next → MemoryFits monitor block.method next
call_leaves_fit monitor call place block state reply next rule at fits (inl step) =
    block_leaves_fit monitor (block_at monitor call place) block state (inputs_at call place) reply next rule at.is fits at.inputs
    (subst (λ (found : Option Block). IsSomeAnd found (λ which. BlockSteps which (inputs_at call place) state reply next)) at.is step.runs)
call_leaves_fit monitor call place block state reply next rule at fits (inr refusal) =
    subst (MemoryFits monitor block.method) (sym refusal.stays) (begins_fit monitor block.method state (inputs_at call place) fits at.inputs)

-- ---- the next place

-- the first place of a call
pub first_fits : (monitor : MonitorParts) (clients : List Client) (client past : ℕ) → IsMonitor monitor → FitsScripts monitor clients → FitsPlace monitor clients client (first_place monitor clients client past)
first_fits monitor clients client past rule fits = by (slice_get (calls_of clients client) past) refl
  where
    locals_at : Option Call → List Value
    locals_at found = option_map_or (λ call. locals_in (slice_get monitor.methods call.method)) found []

    by : (found : Option Call) → slice_get (calls_of clients client) past ≡ found → FitsPlace monitor clients client (first_place monitor clients client past)
    by None is = subst (FitsPlaceAt monitor (first_place monitor clients client past)) (sym is) refl
    by (Some call) is =
        let fit = all_at (FitsCall monitor) (calls_of clients client) past call is (calls_fit monitor clients client fits) in
        let method = at_index monitor.methods call.method fit.method in
        let few = (rule.methods call.method method.0 method.1).some in
        let counted : 0 < count_in (slice_get monitor.methods call.method) = subst (λ (found : Option Method). 0 < count_in found) (sym method.1) few in
        let own : locals_in (slice_get monitor.methods call.method) ≡ (first_place monitor clients client past).locals =
        sym (ap (λ (found : Option Call). option_map_or (λ call. locals_in (slice_get monitor.methods call.method)) found []) is) in
        let held : FitsLocals monitor call.method (first_place monitor clients client past).locals = subst (FitsLocals monitor call.method) own (of_their_kinds (locals_in (slice_get monitor.methods call.method))) in
        subst (FitsPlaceAt monitor (first_place monitor clients client past)) (sym is) (counted, held)

pub next_place_fits : (monitor : MonitorParts) (clients : List Client) (client : ℕ) (place : Place) (call : Call) (reply : Reply) (locals : List Value) → IsMonitor monitor → FitsScripts monitor clients
    → call_at clients client place ≡ Some call → FitsLocals monitor call.method locals → FitsPlace monitor clients client (next_place monitor clients client call place reply locals)
next_place_fits monitor clients client place call reply locals rule fits is held = by (gives_up reply) (is_last monitor call place.block) refl
  where
    by : (up last : Bool) → is_last monitor call place.block ≡ last
        → FitsPlace monitor clients client (cond (up || last) (first_place monitor clients client (place.past + 1)) (record { past = place.past; block = place.block + 1; locals = locals }))
    by true last same = first_fits monitor clients client (place.past + 1) rule fits
    by false true same = first_fits monitor clients client (place.past + 1) rule fits
    by false false same =
        let more : place.block + 1 < count_in (slice_get monitor.methods call.method) = leb-false (count_in (slice_get monitor.methods call.method)) (place.block + 1) same in
        subst (FitsPlaceAt monitor (record { past = place.past; block = place.block + 1; locals = locals })) (sym is) (more, held)

-- a step leaves a state and a place that fit
pub record LeavesFit (monitor : MonitorParts) (clients : List Client) (client : ℕ) (state : List Value) (goes : Place) : Type 0 where
  pub state_fits : FitsState monitor state
  pub place_fits : FitsPlace monitor clients client goes

pub step_fits : (monitor : MonitorParts) (clients : List Client) (client : ℕ) (place goes : Place) (state next : List Value) (reply : Reply) → IsMonitor monitor → FitsScripts monitor clients
    → FitsState monitor state → FitsPlace monitor clients client place → IsStep monitor clients client place state reply next goes
    → LeavesFit monitor clients client next goes
step_fits monitor clients client place goes state next reply rule scripts fits fit_place step =
    let block = block_there monitor clients client place step.call rule scripts fit_place step.at in
    let left = call_leaves_fit monitor step.call place block.0 state reply step.memory rule block.1 fits step.step in
    record {
      state_fits = subst (FitsState monitor) (sym step.state_is) left.state;
      place_fits = subst (FitsPlace monitor clients client) (sym step.place_is)
          (next_place_fits monitor clients client place step.call reply step.memory.locals rule scripts step.at
          (subst (λ (method : ℕ). FitsLocals monitor method step.memory.locals) block.1.of left.locals));
    }

-- ---- runs

first_placed : (monitor : MonitorParts) (clients more : List Client) (number client : ℕ) (place : Place) → slice_get (first_places monitor clients number more) client ≡ Some place → place ≡ first_place monitor clients (number + client) 0
first_placed monitor clients [] number client place is = absurd (none-some place is)
first_placed monitor clients (first ∷ more) number zero place is =
    let same : number ≡ number + zero = omega arith in
    sym (same_Some (first_place monitor clients number 0) place is) ∙ ap (λ (who : ℕ). first_place monitor clients who 0) same
first_placed monitor clients (first ∷ more) number (suc client) place is =
    let same : (number + 1) + client ≡ number + suc client = omega arith in
    first_placed monitor clients more (number + 1) client place is ∙ ap (λ (who : ℕ). first_place monitor clients who 0) same

pub first_is : (monitor : MonitorParts) (clients : List Client) (client : ℕ) (place : Place) → slice_get (first_places monitor clients 0 clients) client ≡ Some place → place ≡ first_place monitor clients client 0
first_is monitor clients client place is =
    let same : 0 + client ≡ client = omega arith in
    first_placed monitor clients clients 0 client place is ∙ ap (λ (who : ℕ). first_place monitor clients who 0) same

set_there : (places : List Place) (client : ℕ) (place : Place) → client < length places → slice_get (slice_set places client place) client ≡ Some place
set_there [] client place within = absurd (omega arith)
set_there (first ∷ places) zero place within = refl
set_there (first ∷ places) (suc client) place within = set_there places client place (omega arith)

set_elsewhere : (places : List Place) (client : ℕ) (place : Place) (other : ℕ) → (other ≡ client → ⊥) → slice_get (slice_set places client place) other ≡ slice_get places other
set_elsewhere [] client place other differs = refl
set_elsewhere (first ∷ places) zero place zero differs = absurd (differs refl)
set_elsewhere (first ∷ places) zero place (suc other) differs = refl
set_elsewhere (first ∷ places) (suc client) place zero differs = refl
set_elsewhere (first ∷ places) (suc client) place (suc other) differs = set_elsewhere places client place other (λ same. differs (ap suc same))

pub commit_fits : (monitor : MonitorParts) (clients : List Client) (now next : Situation) (commit : Commit) → IsMonitor monitor → FitsScripts monitor clients → FitsSituation monitor clients now
    → IsNextCommit monitor clients now commit next → FitsSituation monitor clients next
commit_fits monitor clients now next commit rule scripts fit follows =
    let left = step_fits monitor clients commit.client follows.place follows.goes now.state follows.state commit.reply rule scripts fit.state (fit.places commit.client follows.place follows.at) follows.step in
    subst (FitsSituation monitor clients) (sym follows.becomes) (record {
      state = left.state_fits;
      places = λ client place at. elim (cases_eq client commit.client) [
        | inl same ↦
            let own = set_there now.places commit.client follows.goes (slice_get_within now.places commit.client follows.place follows.at) in
            let is : follows.goes ≡ place = same_Some follows.goes place (sym own ∙ ap (slice_get (slice_set now.places commit.client follows.goes)) (sym same) ∙ at) in
            subst (λ (who : ℕ). FitsPlace monitor clients who place) (sym same) (subst (FitsPlace monitor clients commit.client) is left.place_fits)
        | inr differs ↦ fit.places client place (sym (set_elsewhere now.places commit.client follows.goes client differs) ∙ at)
      ];
    })

pub run_fits : (monitor : MonitorParts) (clients : List Client) (history : List Commit) (now : Situation) → IsMonitor monitor → FitsScripts monitor clients → IsRun monitor clients history now → FitsSituation monitor clients now
run_fits monitor clients history now rule scripts begun = record {
  state = start_state_fits monitor (start_of monitor) rule refl;
  places = λ client place at. subst (FitsPlace monitor clients client) (sym (first_is monitor clients client place at)) (first_fits monitor clients client 0 rule scripts);
}
run_fits monitor clients history now rule scripts (stepped before from commit next runs may follows) = commit_fits monitor clients from next commit rule scripts (run_fits monitor clients before from rule scripts runs) follows

-- ---- what the code of a step computes

pub block_number_is : (monitor : MonitorParts) (call : Call) (place : Place) (method : Method) → slice_get monitor.methods call.method ≡ Some method → method.first + place.block ≡ block_at monitor call place
block_number_is monitor call place method is = sym (ap (λ (found : Option Method). first_in found + place.block) is)

pub block_small : (monitor : MonitorParts) (call : Call) (place : Place) (method : Method) → IsMonitor monitor → slice_get monitor.methods call.method ≡ Some method → FitsPlaceAt monitor place (Some call)
    → (method.first + place.block < 64) × (place.block < 4)
block_small monitor call place method rule is here =
    let about = rule.methods call.method method is in
    let counted : place.block < method.count = subst (λ (found : Option Method). place.block < count_in found) is here.0 in
    let block = is_some_and (slice_get monitor.blocks (method.first + place.block)) (IsBlockOf monitor call.method place.block method) (about.blocks place.block counted) in
    let within = slice_get_within monitor.blocks (method.first + place.block) block.0 block.1 in
    (omega (arith, within, rule.few_blocks), omega (arith, counted, about.few))

pub block_inputs : (monitor : MonitorParts) (call : Call) (place : Place) (method : Method) → IsMonitor monitor → FitsCall monitor call → slice_get monitor.methods call.method ≡ Some method → FitsPlaceAt monitor place (Some call)
    → FitsBlock monitor (method.first + place.block) (inputs_at call place)
block_inputs monitor call place method rule fit is here =
    let counted : place.block < method.count = subst (λ (found : Option Method). place.block < count_in found) is here.0 in
    let block = is_some_and (slice_get monitor.blocks (method.first + place.block)) (IsBlockOf monitor call.method place.block method) ((rule.methods call.method method is).blocks place.block counted) in
    subst (λ (found : Option Block). IsSomeAnd found (λ which. FitsInputs monitor which.method (inputs_at call place))) (sym block.1) (record {
      arguments = subst (λ (which : ℕ). FitsArguments monitor which call.inputs) (sym block.2.of) fit.inputs;
      locals = subst (λ (which : ℕ). FitsLocals monitor which place.locals) (sym block.2.of) here.1;
    })

pub last_is : (monitor : MonitorParts) (call : Call) (block : ℕ) (method : Method) → slice_get monitor.methods call.method ≡ Some method → nat_le method.count (block + 1) ≡ is_last monitor call block
last_is monitor call block method is = sym (ap (λ (found : Option Method). nat_le (count_in found) (block + 1)) is)

-- the step of a client that is refused
pub refusal_step : (monitor : MonitorParts) (clients : List Client) (client : ℕ) (place goes : Place) (call : Call) (state : List Value) → call_at clients client place ≡ Some call
    → may_step monitor clients state client place ≡ true → guard_truth monitor state (block_at monitor call place) (inputs_at call place) ≡ false
    → goes ≡ first_place monitor clients client (place.past + 1)
    → IsStep monitor clients client place state replies.Refused state goes
refusal_step monitor clients client place goes call state at may fails first =
    let guard : guard_at monitor clients state client place ≡ false =
    ap (λ (one : Option Call). option_map_or (λ call. guard_truth monitor state (block_at monitor call place) (inputs_at call place)) one false) at ∙ fails in
    let tries : tries_at clients client place ≡ true = elim (or_cases (guard_at monitor clients state client place) (tries_at clients client place) may) [
      | inl holds ↦ absurd (true≢false (sym holds ∙ guard))
      | inr also ↦ also
    ] in
    let both = and_parts call.tries (place.block == 0) (sym (ap (λ (one : Option Call). option_map_or (λ call. call.tries && place.block == 0) one false) at) ∙ tries) in
    record {
      call = call;
      memory = memory_of state (inputs_at call place);
      at = at;
      step = inr (record { tries = both.0; first = eqb-true place.block 0 both.1; guard = fails; reply_is = refl; stays = refl });
      state_is = refl;
      place_is = first;
    }
