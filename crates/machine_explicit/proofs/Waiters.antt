-- Who waits, and who was woken, as the code finds it.
use Rattle.std.proofs.Common.{◌≡◌, ◌↔◌, ℕ, ◌+◌, ◌-◌, ◌<◌, ◌≤◌, true, false, List, map, length, Option, Some, None, refl, sym, ap, subst, ◌∙◌, arith, inl, inr}
use Rattle.std.specs.Prelude.{slice_get}
use Rattle.std.proofs.lemmas.Option.{same_Some, slice_get_within}
use Rattle.std.proofs.lemmas.Bool.{true≢false, cases_eq}
use Rattle.std.specs.Option.{option_map_or}
use Rattle.lang_monitor.specs.MonitorParts.{MonitorParts, IsMonitor}
use Rattle.lang_monitor.specs.declared.monitor.Block.{Block}
use Rattle.machine_implicit.specs.declared.script.Call.{Call}
use Rattle.machine_implicit.specs.declared.script.Client.{Client}
use Rattle.machine_implicit.specs.Places.{call_at, block_at}
use Rattle.machine_events.proofs.Facing.{own_guard}
use Rattle.machine_events.specs.declared.plan.Plan.{Plan}
use Rattle.machine_events.specs.Configurations.{Standing, StandsAt, System, block_condition, waited_condition}
use Rattle.machine_events.specs.declared.event.Stage.TheVariants.{Idle, Entering, Waiting, Woken, Inside, Notifying}
use Rattle.machine_events.specs.Logs.{rests}
use Rattle.machine_events.specs.declared.event.Stage.{Stage}
use Rattle.machine_explicit.specs.declared.position.ToCome.{ToCome}
use Rattle.machine_explicit.specs.declared.position.Position.{Position}
use Rattle.machine_explicit.specs.Machines.{Machine, IsMachine}
use Rattle.machine_explicit.specs.inner.Positions.{stage_of, standing_of, HasNotes}
use Rattle.machine_explicit.specs.inner.Waiting.{AllRest, stage_rests, position_rests, EachRests, WaitsOn, CountsNotes}
use Rattle.machine_explicit.proofs.Making.{position_stands, standing_position, notifying_made}
use Rattle.machine_implicit.specs.declared.place.Place.{Place}

-- ---- on which condition a client waits

condition_within : (monitor : MonitorParts) (block : ℕ) → IsMonitor monitor → option_map_or (λ (one : Block). one.condition) (slice_get monitor.blocks block) 0 < length monitor.conditions + 1
condition_within monitor block rule = by_cases (slice_get monitor.blocks block) refl
  where
    by_cases : (found : Option Block) → slice_get monitor.blocks block ≡ found → option_map_or (λ (one : Block). one.condition) found 0 < length monitor.conditions + 1
    by_cases None is = omega arith
    by_cases (Some one) is = elim (cases_eq one.condition 0) [
      | inl none ↦ omega (arith, none)
      | inr some ↦
          let numbered : 1 ≤ one.condition = omega (arith, some) in
          let own = own_guard monitor block one rule is numbered in
          omega (arith, numbered, slice_get_within monitor.conditions (one.condition - 1) own.0 own.1.is.there)
    ]

waited_within : (system : System) (client : ℕ) (place : Place) → IsMonitor system.monitor → waited_condition system client place < length system.monitor.conditions + 1
waited_within system client place rule = by_cases (call_at system.clients client place)
  where
    by_cases : (found : Option Call) → option_map_or (λ (call : Call). block_condition system.monitor (block_at system.monitor call place)) found 0 < length system.monitor.conditions + 1
    by_cases None = omega arith
    by_cases (Some call) = condition_within system.monitor (block_at system.monitor call place) rule

pub waits_on_one : (machine : Machine) (client : ℕ) (place : Place) (condition : ℕ) → IsMachine machine → StandsAt machine.now.standings client place (Waiting condition) → WaitsOn machine client condition
waits_on_one machine client place condition rule at =
    let is = rule.sound.waits client place (Waiting condition) condition at refl in
    ((place, at), omega (arith, is.0, waited_within machine.system client place rule.is.rule))

pub notes_counted : (plan : Plan) (positions : List Position) (client count : ℕ) → HasNotes plan positions client count → CountsNotes (map (standing_of plan) positions) client count
notes_counted plan positions client count has place notes at =
    let found = notifying_made plan positions client place notes at in
    ap length (sym found.2) ∙ has place found.0 found.1

-- ---- whether each client rests

pub rests_more : (clients : List Client) (positions : List Position) (client : ℕ) (one : Position) → slice_get positions client ≡ Some one → AllRest clients positions client → position_rests clients client one ≡ true
    → AllRest clients positions (client + 1)
rests_more clients positions client one at all rest other another below others_at = elim (cases_eq other client) [
  | inl same ↦ subst (λ (p : Position). position_rests clients other p ≡ true) (same_Some one another (sym (ap (slice_get positions) same ∙ at) ∙ others_at))
      (subst (λ (who : ℕ). position_rests clients who one ≡ true) (sym same) rest)
  | inr differs ↦ all other another (omega (arith, below, differs)) others_at
]

pub rests_not : (clients : List Client) (positions : List Position) (client : ℕ) (one : Position) → slice_get positions client ≡ Some one → position_rests clients client one ≡ false → AllRest clients positions (length positions) → ⊥
rests_not clients positions client one at moves all = true≢false (sym (all client one (slice_get_within positions client one at) at) ∙ moves)

same_rests : (system : System) (plan : Plan) (client : ℕ) (place : Place) (kept : Stage ToCome) → stage_rests system.clients client place kept ≡ rests system client place (stage_of plan kept)
same_rests system plan client place Idle = refl
same_rests system plan client place Entering = refl
same_rests system plan client place (Waiting on) = refl
same_rests system plan client place (Woken on) = refl
same_rests system plan client place Inside = refl
same_rests system plan client place (Notifying to_come) = refl

pub each_rests : (machine : Machine) (positions : List Position) → machine.now.standings ≡ map (standing_of machine.system.plan) positions → AllRest machine.system.clients positions (length positions) ↔ EachRests machine
each_rests machine positions are = (there, back)
  where
    there : AllRest machine.system.clients positions (length positions) → EachRests machine
    there all client place stage at =
        let found = standing_position machine.system.plan positions client place stage (subst (λ (some : List Standing). StandsAt some client place stage) are at) in
        ap (rests machine.system client place) (sym found.2)
        ∙ sym (same_rests machine.system machine.system.plan client place found.0)
        ∙ all client (record { place = place; stage = found.0 }) (slice_get_within positions client (record { place = place; stage = found.0 }) found.1) found.1

    back : EachRests machine → AllRest machine.system.clients positions (length positions)
    back each client one below at =
        same_rests machine.system machine.system.plan client one.place one.stage
        ∙ each client one.place (stage_of machine.system.plan one.stage)
        (subst (λ (some : List Standing). StandsAt some client one.place (stage_of machine.system.plan one.stage)) (sym are) (position_stands machine.system.plan positions client one.place one.stage at))
