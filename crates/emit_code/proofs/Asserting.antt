-- The code of a method that asserts.
use Rattle.std.proofs.Common.{◌≡◌, ◌==◌, ℕ, zero, suc, ◌+◌, ◌<◌, Bool, true, false, cond, ◌||◌, List, [], ◌∷◌, Option, Some, None, refl, sym, ap, subst, ◌∙◌, arith}
use Rattle.std.specs.Prelude.{slice_get}
use Rattle.std.specs.Option.{option_map_or}
use Rattle.std.proofs.lemmas.Bool.{true≢false, eq-eqb}
use Rattle.lang_monitor.specs.declared.monitor.Block.{Block}
use Rattle.lang_monitor.specs.declared.monitor.Method.{Method}
use Rattle.lang_monitor.specs.MonitorParts.{MonitorParts, IsMonitor, IsBlockOf, asserts_in, first_in, count_in}
use Rattle.machine_implicit.proofs.Fitting.{is_some_and}
use Rattle.machine_events.specs.declared.plan.Note.{Note}
use Rattle.machine_events.specs.declared.plan.Plan.{Plan}
use Rattle.machine_events.specs.Plans.{notes_at}
use Rattle.machine_events.specs.Configurations.{block_condition}
use Rattle.emit_code.specs.Code.{Op, is_waited_on, is_guarded, signal_on, overflow_notes, late_order, blocks_code, code_of, asserting_code}
use Rattle.emit_code.specs.Code.Op.{Lock, WaitUntil, ElseRefuse, Run, Release}

found_asserts : (found : Option Method) → asserts_in found ≡ true
    → (method : Method) × (found ≡ Some method) × (method.asserts ≡ true)
found_asserts None asserts = absurd (true≢false (sym asserts))
found_asserts (Some method) asserts = (method, refl, asserts)

-- it has one block, which has no condition
record IsAlone (monitor : MonitorParts) (found : Option Method) : Type 0 where
  one : count_in found ≡ 1
  none : block_condition monitor (first_in found) ≡ 0

alone : (monitor : MonitorParts) (method : ℕ) → IsMonitor monitor
    → asserts_in (slice_get monitor.methods method) ≡ true
    → IsAlone monitor (slice_get monitor.methods method)
alone monitor method rule asserts =
    let own = found_asserts (slice_get monitor.methods method) asserts in
    let about = rule.methods method own.0 own.1 in
    let one = about.alone own.2 in
    let block = is_some_and (slice_get monitor.blocks (own.0.first + 0)) (IsBlockOf monitor method 0 own.0) (about.blocks 0 (omega (arith, one))) in
    let first : first_in (slice_get monitor.methods method) ≡ own.0.first + 0 = ap first_in own.1 ∙ whole own.0.first in
    record {
      one = ap count_in own.1 ∙ one;
      none = ap (block_condition monitor) first ∙ ap (λ (one : Option Block). option_map_or (λ block. block.condition) one 0) block.1 ∙ block.2.waits.1 own.2;
    }
  where
    whole : (number : ℕ) → number ≡ number + 0
    whole number = omega arith

no_notes : (monitor : MonitorParts) (block : ℕ) → block_condition monitor block ≡ 0
    → overflow_notes monitor block ≡ []
no_notes monitor block none =
    ap (λ (test : Bool). cond test (signal_on (block_condition monitor block) ∷ []) []) (ap (is_waited_on monitor) none)

pub asserting_code_waits_nowhere : (monitor : MonitorParts) (plan : Plan) (method : ℕ) (tries : Bool)
    → IsMonitor monitor → asserts_in (slice_get monitor.methods method) ≡ true
    → code_of monitor plan method tries
    ≡ asserting_code monitor plan (first_in (slice_get monitor.methods method))
asserting_code_waits_nowhere monitor plan method tries rule asserts =
    let own = alone monitor method rule asserts in
    ap (blocks_code monitor (late_order plan) tries first) own.one
    ∙ ap (λ (test : Bool). code test (overflow_notes monitor first)) (ap (λ (condition : ℕ). tries || condition == 0) own.none ∙ either tries)
    ∙ ap (code true) (no_notes monitor first own.none)
  where
    first : ℕ
    first = first_in (slice_get monitor.methods method)

    code : Bool → List Note → List Op
    code refused otherwise =
        let rest = Run first otherwise ∷ Release (notes_at plan first) ∷ [] in
        Lock ∷ cond (is_guarded monitor first) (cond refused (ElseRefuse first ∷ rest) (WaitUntil first (block_condition monitor first) ∷ rest)) rest

    either : (tries : Bool) → tries || true ≡ true
    either true = refl
    either false = refl
