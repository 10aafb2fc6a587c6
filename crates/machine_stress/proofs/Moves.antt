-- What a client of the large input does from its place, and where that leaves it.
use Rattle.std.proofs.Common.{◌≡◌, ◌==◌, ℕ, zero, suc, ◌+◌, ◌<◌, ◌≤◌, ◌⊎◌, Bool, true, false, cond, List, [], ◌∷◌, ◌++◌, replicate, Option, Some, refl, sym, ap, subst, ◌∙◌, arith, inl, inr}
use Rattle.std.specs.Prelude.{IsSomeAnd, nat_le, slice_get, slice_set, ◌||◌}
use Rattle.std.specs.Option.{option_map_or}
use Rattle.std.proofs.lemmas.Bool.Decides.{nat_tests}
use Rattle.std.proofs.lemmas.Option.{none-some, same_Some}
use Rattle.lang_base.specs.declared.value.Value.{Value}
use Rattle.lang_monitor.specs.Bodies.{Inputs, Memory}
use Rattle.machine_implicit.specs.declared.commit.Commit.{Commit}
use Rattle.machine_implicit.specs.declared.commit.Reply.{Reply}
use Rattle.machine_implicit.specs.declared.place.Place.{Place}
use Rattle.machine_implicit.specs.declared.script.Call.{Call}
use Rattle.machine_implicit.specs.declared.script.Client.{Client}
use Rattle.machine_implicit.specs.Places.{IsCallStep, block_at, call_at, first_place, gives_up, guard_at, inputs_at, is_last, may_step, next_place, tries_at}
use Rattle.machine_implicit.specs.Runs.{CanAct, IsNextCommit, Situation}
use Rattle.machine_implicit.specs.Scripted.{calls_of}
use Rattle.machine_implicit.specs.Steps.{IsBlockStep, guard_truth}
use Rattle.machine_stress.specs.LargeInput.{buffer_of, plain_call}
use Rattle.machine_stress.proofs.Buffers.{holding}
use Rattle.machine_stress.proofs.Callers.{called, calls_next}
use Rattle.machine_stress.proofs.Counting.{counts, done, done_push}

-- the client is past so many calls, and at the one block of the next
pub record IsPast (past : ℕ) (place : Place) : Type 0 where
  pub calls : place.past ≡ past
  pub block : place.block ≡ 0

-- ---- the block of a method, and the place after it

or_left : (a b : Bool) → a ≡ true → (a || b) ≡ true
or_left a b is = grind (arith, is)

or_right : (a b : Bool) → b ≡ true → (a || b) ≡ true
or_right a b is = grind (arith, is)

block_is : (capacity method : ℕ) (place : Place) → method ≤ 1 → place.block ≡ 0
    → block_at (buffer_of capacity) (plain_call method) place ≡ method
block_is capacity zero place few first = omega (arith, first)
block_is capacity (suc zero) place few first = omega (arith, first)
block_is capacity (suc (suc method)) place few first = absurd (omega arith)

last_is : (capacity method block : ℕ) → method ≤ 1 → block ≡ 0
    → is_last (buffer_of capacity) (plain_call method) block ≡ true
last_is capacity zero block few first = ap (λ (some : ℕ). nat_le 1 (some + 1)) first
last_is capacity (suc zero) block few first = ap (λ (some : ℕ). nat_le 1 (some + 1)) first
last_is capacity (suc (suc method)) block few first = absurd (omega arith)

next_is : (clients : List Client) (capacity method client : ℕ) (place : Place) (reply : Reply)
    (locals : List Value) → method ≤ 1 → place.block ≡ 0
    → next_place (buffer_of capacity) clients client
    (plain_call method) place reply locals ≡ first_place (buffer_of capacity) clients client
    (place.past + 1)
next_is clients capacity method client place reply locals few first =
    ap (λ (test : Bool). cond test (first_place (buffer_of capacity) clients client (place.past + 1)) (record { past = place.past; block = place.block + 1; locals = locals }))
    (or_right (gives_up reply) (is_last (buffer_of capacity) (plain_call method) place.block) (last_is capacity method place.block few first))

-- no call of the large input is refused
block_step : (capacity method : ℕ) (place : Place) (state : List Value) (reply : Reply)
    (memory : Memory) → method ≤ 1 → place.block ≡ 0
    → IsCallStep (buffer_of capacity) (plain_call method) place state reply memory
    → IsBlockStep (buffer_of capacity) method
    (inputs_at (plain_call method) place) state reply memory
block_step capacity method place state reply memory few first (inl step) =
    subst (λ (number : ℕ). IsBlockStep (buffer_of capacity) number (inputs_at (plain_call method) place) state reply memory) (block_is capacity method place few first) step
block_step capacity method place state reply memory few first (inr refusal) = absurd (let tries = refusal.tries in cc)

-- ---- a step

-- what a client that is past so many of its equal calls does next
pub record Makes (capacity calls method past count : ℕ) (reply : Reply) (next : List Value)
    (goes : Place) : Type 0 where
  pub inputs : Inputs
  pub memory : Memory
  pub less : past < calls
  pub step : IsBlockStep (buffer_of capacity) method inputs (holding count) reply memory
  pub state_is : next ≡ memory.state
  pub there : IsPast (past + 1) goes

pub makes : (clients : List Client) (capacity calls method past count : ℕ) (now next : Situation)
    (commit : Commit) (follows : IsNextCommit (buffer_of capacity) clients now commit next)
    → method ≤ 1
    → calls_of clients commit.client ≡ replicate calls (plain_call method)
    → now.state ≡ holding count → IsPast past follows.place
    → Makes capacity calls method past count commit.reply follows.state follows.goes
makes clients capacity calls method past count now next commit follows few are holds at =
    let step = follows.step in
    let place = follows.place in
    let own = called calls place.past (plain_call method) step.call (sym (ap (λ (list : List Call). slice_get list place.past) are) ∙ step.at) in
    let plain = subst (λ (call : Call). IsCallStep (buffer_of capacity) call place now.state commit.reply step.memory) (sym own.1) step.step in
    let here = subst (λ (state : List Value). IsCallStep (buffer_of capacity) (plain_call method) place state commit.reply step.memory) holds plain in
    let goes : follows.goes ≡ first_place (buffer_of capacity) clients commit.client (place.past + 1) =
    step.place_is ∙ ap (λ (call : Call). next_place (buffer_of capacity) clients commit.client call place commit.reply step.memory.locals) (sym own.1)
    ∙ next_is clients capacity method commit.client place commit.reply step.memory.locals few at.block in
    record {
      inputs = inputs_at (plain_call method) place;
      memory = step.memory;
      less = omega (arith, own.0, at.calls);
      step = block_step capacity method place (holding count) commit.reply step.memory few at.block here;
      state_is = step.state_is;
      there = record { calls = omega (arith, ap (λ (one : Place). one.past) goes, at.calls); block = ap (λ (one : Place). one.block) goes };
    }

pub nobody : (clients : List Client) (capacity : ℕ) (now next : Situation) (commit : Commit)
    → calls_of clients commit.client ≡ []
    → IsNextCommit (buffer_of capacity) clients now commit next → ⊥
nobody clients capacity now next commit are follows =
    none-some follows.step.call (sym (ap (λ (list : List Call). slice_get list follows.place.past) are) ∙ follows.step.at)

-- ---- the places after a step

-- a place after one has changed is the new one, or one of before
moved : (places : List Place) (mover : ℕ) (goes : Place) (client : ℕ) (place : Place)
    → slice_get (slice_set places mover goes) client ≡ Some place
    → ((client ≡ mover) × (place ≡ goes)) ⊎
    ((client ≡ mover → ⊥) × (slice_get places client ≡ Some place))
moved [] mover goes client place is = absurd (none-some place is)
moved (first ∷ places) zero goes zero place is = inl (refl, sym (same_Some goes place is))
moved (first ∷ places) zero goes (suc client) place is = inr (λ same. omega (arith, same), is)
moved (first ∷ places) (suc mover) goes zero place is = inr (λ same. omega (arith, same), is)
moved (first ∷ places) (suc mover) goes (suc client) place is = elim (moved places mover goes client place is) [
  | inl (same, own) ↦ inl (ap suc same, own)
  | inr (other, at) ↦ inr (λ same. other (omega (arith, same)), at)
]

pub still_past : (history : List Commit) (commit : Commit) (places : List Place) (goes : Place)
    → IsPast (done history commit.client + 1) goes
    → ((client : ℕ) (place : Place) → slice_get places client ≡ Some place → IsPast (done history client) place)
    → (client : ℕ) (place : Place)
    → slice_get (slice_set places commit.client goes) client ≡ Some place
    → IsPast (done (history ++ commit ∷ []) client) place
still_past history commit places goes own others client place at = elim (moved places commit.client goes client place at) [
  | inl (same, is) ↦
      let one : counts (commit.client == client) ≡ 1 = grind (arith, nat_tests) in
      record {
        calls = omega (arith, ap (λ (some : Place). some.past) is, own.calls, done_push history commit client, one, ap (done history) same);
        block = ap (λ (some : Place). some.block) is ∙ own.block;
      }
  | inr (other, there) ↦
      let none : counts (commit.client == client) ≡ 0 = grind (arith, nat_tests) in
      let before = others client place there in
      record { calls = omega (arith, before.calls, done_push history commit client, none); block = before.block }
]

-- ---- a client that may step

pub can_act : (clients : List Client) (capacity calls method : ℕ) (now : Situation) (client : ℕ)
    (place : Place) → method ≤ 1
    → slice_get now.places client ≡ Some place → place.block ≡ 0 → place.past < calls
    → calls_of clients client ≡ replicate calls (plain_call method)
    → ((inputs : Inputs) → guard_truth (buffer_of capacity) now.state method inputs ≡ true)
    → CanAct (buffer_of capacity) clients now client
can_act clients capacity calls method now client place few at first less are opens =
    let call : call_at clients client place ≡ Some (plain_call method) = ap (λ (list : List Call). slice_get list place.past) are ∙ calls_next calls place.past (plain_call method) less in
    let truth : guard_at (buffer_of capacity) clients now.state client place ≡ true =
    ap (λ (found : Option Call). option_map_or (λ call. guard_truth (buffer_of capacity) now.state (block_at (buffer_of capacity) call place) (inputs_at call place)) found false) call
    ∙ ap (λ (number : ℕ). guard_truth (buffer_of capacity) now.state number (inputs_at (plain_call method) place)) (block_is capacity method place few first)
    ∙ opens (inputs_at (plain_call method) place) in
    subst (λ (found : Option Place). IsSomeAnd found (λ place. may_step (buffer_of capacity) clients now.state client place ≡ true)) (sym at)
    (or_left (guard_at (buffer_of capacity) clients now.state client place) (tries_at clients client place) truth)
