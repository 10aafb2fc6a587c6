-- The function that calls are given is printed with the last body of their code.
use Rattle.std.proofs.Common.{◌≡◌, ◌==◌, ◌≤◌, ℕ, zero, suc, ◌+◌, ◌-◌, Bool, true, false, cond, ◌&&◌, ◌||◌, List, [], ◌∷◌, ◌++◌, refl, sym, ap, subst, ◌∙◌, arith}
use Rattle.std.specs.Prelude.{⊤, slice_get}
use Rattle.std.proofs.lemmas.Bool.{eq-eqb, ne_eqb}
use Rattle.lang_monitor.specs.MonitorParts.{MonitorParts, first_in, count_in}
use Rattle.machine_events.specs.declared.plan.Note.{Note}
use Rattle.machine_events.specs.declared.plan.Plan.{Plan}
use Rattle.machine_events.specs.Configurations.{block_condition}
use Rattle.emit_code.specs.Code.{Op, blocks_code, is_guarded, is_last_run, late_order, running_code}
use Rattle.emit_code.specs.Code.Op.{Lock, WaitUntil, ElseRefuse, Run, Release, Notify, Unlock}
use Rattle.emit_statements.specs.Ways.{tries}
use Rattle.emit_method.specs.Laws.{FunctionsRunLast}

-- so it is of each body, and of what comes after it
abbrev Each : (ℕ → List Op → Type 0) → List Op → Type 0
Each Is [] = ⊤
Each Is (Run block otherwise ∷ rest) = Is block rest × Each Is rest
Each Is (op ∷ rest) = Each Is rest

each_at : (Is : ℕ → List Op → Type 0) (before rest : List Op) (block : ℕ) (otherwise : List Note) → Each Is (before ++ Run block otherwise ∷ rest) → Is block rest
each_at Is [] rest block otherwise each = each.0
each_at Is (Run other notes ∷ before) rest block otherwise each = each_at Is before rest block otherwise each.1
each_at Is (Lock ∷ before) rest block otherwise each = each_at Is before rest block otherwise each
each_at Is (WaitUntil other condition ∷ before) rest block otherwise each = each_at Is before rest block otherwise each
each_at Is (ElseRefuse other ∷ before) rest block otherwise each = each_at Is before rest block otherwise each
each_at Is (Release notes ∷ before) rest block otherwise each = each_at Is before rest block otherwise each
each_at Is (Notify note ∷ before) rest block otherwise each = each_at Is before rest block otherwise each
each_at Is (Unlock ∷ before) rest block otherwise each = each_at Is before rest block otherwise each

-- a block has the number of the last exactly where its body is the last
abbrev Ties : Bool → ℕ → ℕ → ℕ → List Op → Type 0
Ties works first count block rest = (works && (block + 1 - first) == count) ≡ (works && is_last_run rest)

module _ (monitor : MonitorParts) (plan : Plan) where
  abbrev later : ℕ → ℕ → List Op
  later block left = blocks_code monitor (late_order plan) false block left

  -- a block has a body
  runs_more : (block left : ℕ) → is_last_run (later block (suc left)) ≡ false
  runs_more block left = by (is_guarded monitor block) (block_condition monitor block == 0)
    where
      passed : List Op
      passed = running_code monitor (late_order plan) block (later (block + 1) left)

      by : (guarded asserts : Bool) → is_last_run (cond guarded (cond asserts (ElseRefuse block ∷ passed) (WaitUntil block (block_condition monitor block) ∷ passed)) passed) ≡ false
      by true true = refl
      by true false = refl
      by false asserts = refl

  last_is : (first count block left : ℕ) → first ≤ block → block + suc left ≡ first + count → ((block + 1 - first) == count) ≡ is_last_run (later (block + 1) left)
  last_is first count block zero begins ends = eq-eqb (block + 1 - first) count (omega (arith, begins, ends))
  last_is first count block (suc left) begins ends =
      ne_eqb (block + 1 - first) count (λ same. omega (arith, same, begins, ends)) ∙ sym (runs_more (block + 1) left)

  -- so it is of each of the blocks that are left
  each_ties : (works : Bool) (first count : ℕ) (try : Bool) (block left : ℕ) → first ≤ block → block + left ≡ first + count
      → Each (Ties works first count) (blocks_code monitor (late_order plan) try block left)
  each_ties works first count try block zero begins ends = tt
  each_ties works first count try block (suc left) begins ends =
      let begun : first ≤ block + 1 = omega (arith, begins) in
      let ended : (block + 1) + left ≡ first + count = omega (arith, ends) in
      by (is_guarded monitor block) (try || block_condition monitor block == 0)
      (ap (λ (is : Bool). works && is) (last_is first count block left begins ends), each_ties works first count false (block + 1) left begun ended)
    where
      passed : List Op
      passed = running_code monitor (late_order plan) block (later (block + 1) left)

      by : (guarded refuses : Bool) → Each (Ties works first count) passed
          → Each (Ties works first count) (cond guarded (cond refuses (ElseRefuse block ∷ passed) (WaitUntil block (block_condition monitor block) ∷ passed)) passed)
      by true true each = each
      by true false each = each
      by false refuses each = each

pub run_last : FunctionsRunLast
run_last source number method way works many before rest block otherwise is =
    let first = first_in (slice_get source.monitor.methods number) in
    let count = count_in (slice_get source.monitor.methods number) in
    let least : first ≤ first = omega arith in
    let each = each_ties source.monitor source.plan works first count (tries way) first count least refl in
    ap (λ (blocks : ℕ). works && (block + 1 - first) == blocks) many
    ∙ each_at (Ties works first count) before rest block otherwise (subst (Each (Ties works first count)) is each)
