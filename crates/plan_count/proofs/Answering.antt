-- A condition is counted by its guard where each block is told as the answers say.
use Rattle.std.proofs.Common.{◌≡◌, ◌==◌, ◌⊎◌, inl, inr, ℕ, ◌-◌, true, false, Option, Some, sym, ap, subst, ◌∙◌}
use Rattle.std.specs.Prelude.{slice_get}
use Rattle.std.specs.Option.{option_map_or}
use Rattle.std.proofs.lemmas.Bool.{true≢false}
use Rattle.std.proofs.lemmas.Option.{slice_get_within}
use Rattle.logic_linear.specs.declared.formula.Formula.{Formula}
use Rattle.lang_monitor.specs.declared.monitor.Block.{Block}
use Rattle.lang_monitor.specs.declared.monitor.Condition.{Condition}
use Rattle.lang_monitor.specs.MonitorParts.{MonitorParts}
use Rattle.lang_monitor.specs.Inputs.{reads_inputs}
use Rattle.lang_monitor.specs.Queries.{for_waiting, guard_in_condition, waiting_guard}
use Rattle.lang_monitor.specs.Triples.{IsValidQuery}
use Rattle.machine_events.specs.declared.plan.Plan.{Plan}
use Rattle.machine_events.specs.Plans.{notes_at, has_broadcast, IsCondition}
use Rattle.machine_events.specs.Counts.{row_measure}
use Rattle.machine_events.specs.CountClaims.{still_query, fresh_query}
use Rattle.machine_events.specs.CountClaims.{CountsBlock, HasRow}
use Rattle.logic_wp.proofs.Fitting.{condition_fits}
use Rattle.plan_count.specs.Questions.{takes_at, AnswersCount, CountsWithNone, CountsWithOne, IsToldRight}
use Rattle.plan_count.proofs.GuardCuts.{free_reads}
use Rattle.plan_count.proofs.GuardRows.{form_reads}

-- a guard that reads no inputs is the same for a client that waits
abbrev pub GuardsStay : Type 0
GuardsStay = (guard : Formula) → reads_inputs guard ≡ false → for_waiting guard ≡ guard

pub guard_at : GuardsStay → (monitor : MonitorParts) (number : ℕ) (which : Condition)
    → IsCondition monitor number which → reads_inputs which.guard ≡ false
    → waiting_guard monitor number ≡ which.guard
guard_at stay monitor number which is plain =
    ap (λ (found : Option Condition). for_waiting (guard_in_condition found)) is.there ∙ stay which.guard plain

takes_is : (monitor : MonitorParts) (condition number : ℕ) (block : Block)
    → slice_get monitor.blocks number ≡ Some block
    → takes_at monitor condition number ≡ (block.condition == condition)
takes_is monitor condition number block is =
    ap (λ (found : Option Block). option_map_or (λ held. held.condition == condition) found false) is

with_none : (monitor : MonitorParts) (plan : Plan) (condition row : ℕ) (which : Condition) (number : ℕ) (block : Block)
    → waiting_guard monitor condition ≡ which.guard → slice_get monitor.blocks number ≡ Some block
    → CountsWithNone monitor plan condition row number
    → CountsBlock monitor plan condition (row_measure which.guard row) number block
with_none monitor plan condition row which number block guard is told =
    let takes = takes_is monitor condition number block is in record {
      still = subst (IsValidQuery monitor)
          (λ i. still_query monitor plan.kept (row_measure (guard i) row) condition number (takes i) (sym told.none i)) told.counts;
      fresh = λ has other. absurd (true≢false (sym has ∙ told.none));
    }

with_one : (monitor : MonitorParts) (plan : Plan) (condition row : ℕ) (which : Condition) (number : ℕ) (block : Block)
    → waiting_guard monitor condition ≡ which.guard → slice_get monitor.blocks number ≡ Some block
    → CountsWithOne monitor plan condition row number
    → CountsBlock monitor plan condition (row_measure which.guard row) number block
with_one monitor plan condition row which number block guard is told =
    let takes = takes_is monitor condition number block is in record {
      still = subst (IsValidQuery monitor)
          (λ i. still_query monitor plan.kept (row_measure (guard i) row) condition number (takes i) (sym told.one i)) told.gives;
      fresh = λ has other. subst (IsValidQuery monitor)
          (λ i. fresh_query monitor plan.kept (row_measure (guard i) row) condition number) (told.first (takes ∙ other));
    }

pub counted : GuardsStay → AnswersCount
counted stay monitor plan condition row which rule is plain has told =
    let fits = condition_fits monitor (condition - 1) which rule is.there in
    let guard = guard_at stay monitor condition which is plain in record {
      row = row;
      has = subst (λ (one : Formula). HasRow one row) guard has;
      fields = record {
        form = form_reads fits.places which.guard row fits.fits plain;
        free = free_reads which.guard row plain;
      };
      each = λ number block there.
          by (told number (slice_get_within monitor.blocks number block there)) guard there;
    }
  where
    by : {number : ℕ} {block : Block} → IsToldRight monitor plan condition row number
        → waiting_guard monitor condition ≡ which.guard → slice_get monitor.blocks number ≡ Some block
        → (has_broadcast (notes_at plan number) condition ≡ true)
        ⊎ CountsBlock monitor plan condition (row_measure which.guard row) number block
    by (inl cast) guard there = inl cast
    by {number} {block} (inr (inl none)) guard there = inr (with_none monitor plan condition row which number block guard there none)
    by {number} {block} (inr (inr one)) guard there = inr (with_one monitor plan condition row which number block guard there one)
