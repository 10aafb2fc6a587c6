-- Questions can be asked by the row by which a condition is counted.
use Rattle.std.proofs.Common.{◌≡◌, ◌↔◌, ℕ, ◌-◌, ◌<◌, ◌≤◌, Bool, false, List, [], ◌∷◌, length, Option, Some, None, refl, sym, subst, ◌∙◌, arith}
use Rattle.std.specs.Prelude.{IfSome, IsTrue, slice_get, unwrap_or}
use Rattle.std.proofs.lemmas.Bool.{true≢false}
use Rattle.logic_linear.specs.Linear.{Linear}
use Rattle.logic_linear.specs.Places.{rows_of}
use Rattle.lang_monitor.specs.declared.query.Query.{Query}
use Rattle.lang_monitor.specs.MonitorParts.{MonitorParts}
use Rattle.lang_monitor.specs.Queries.{waiting_guard}
use Rattle.machine_events.specs.declared.plan.Plan.{Plan}
use Rattle.plan_claims.proofs.Lists.{in_numbered}
use Rattle.plan_count.specs.Questions.{HasRowAt, MayBeAsked}
use Rattle.plan_counted.specs.declared.counted.Column.{Column}
use Rattle.plan_counted.specs.Counted.{AreBacked, IsColumnBacked}
use Rattle.plan_why.specs.declared.failing.Failure.{Failure}
use Rattle.plan_why.specs.Failures.{IsFailureAmong}
use Rattle.plan_needs.specs.Needs.{by_first_row, counted_row, row_of}

pub row_asked : (monitor : MonitorParts) (plan : Plan) (columns : List (Option Column)) (condition block : ℕ) → AreBacked monitor plan columns → 1 ≤ condition → block < length monitor.blocks
    → IfSome (counted_row columns condition) (λ row. MayBeAsked monitor condition row block)
row_asked monitor plan columns condition block backed first within = by_held (slice_get columns (condition - 1)) refl
  where
    by_column : (held : Option Column) → IsColumnBacked monitor plan.kept condition held → IfSome (row_of held) (λ row. MayBeAsked monitor condition row block)
    by_column None is = tt
    by_column (Some column) is = record { is_block = within; reads_none = is.reads_none; has_row = is.has_row }

    by_held : (found : Option (Option Column)) → slice_get columns (condition - 1) ≡ found
        → IfSome (row_of (unwrap_or found None)) (λ row. MayBeAsked monitor condition row block)
    by_held None is = tt
    by_held (Some held) is =
        by_column held (in_numbered (λ (one : ℕ × Option Column). IsColumnBacked monitor plan.kept one.0 one.1) 1 columns (condition - 1) held condition is (omega (arith, first)) backed.each)

pub row_at : (monitor : MonitorParts) (plan : Plan) (columns : List (Option Column)) (condition block : ℕ) (row : Option ℕ) → AreBacked monitor plan columns → 1 ≤ condition → block < length monitor.blocks
    → row ≡ counted_row columns condition → IfSome row (λ row. MayBeAsked monitor condition row block)
row_at monitor plan columns condition block row backed first within is =
    subst (λ (held : Option ℕ). IfSome held (λ row. MayBeAsked monitor condition row block)) (sym is) (row_asked monitor plan columns condition block backed first within)

-- ---- the first row of a guard

pub with_first : (monitor : MonitorParts) (condition : ℕ) (counts one : Query) (found : Option Failure) → HasRowAt monitor condition 1
    → IsFailureAmong monitor (counts ∷ []) found → IsFailureAmong monitor (by_first_row (rows_of (waiting_guard monitor condition)) counts one) found
with_first monitor condition counts one found has there = by_rows (rows_of (waiting_guard monitor condition)) has.last
  where
    by_rows : (rows : List Linear) → 1 ≤ length rows → IsFailureAmong monitor (by_first_row rows counts one) found
    by_rows [] some = absurd (omega (arith, some))
    by_rows (row ∷ rows) some = there

pub without_first : (monitor : MonitorParts) (condition : ℕ) (counts one : Query) (found : Option Failure) → (HasRowAt monitor condition 1 → ⊥)
    → IsFailureAmong monitor (one ∷ []) found → IsFailureAmong monitor (by_first_row (rows_of (waiting_guard monitor condition)) counts one) found
without_first monitor condition counts one found missing there = by_rows (rows_of (waiting_guard monitor condition)) (λ some. missing (record { first = omega arith; last = some }))
  where
    by_rows : (rows : List Linear) → (1 ≤ length rows → ⊥) → IsFailureAmong monitor (by_first_row rows counts one) found
    by_rows [] gone = there
    by_rows (row ∷ rows) gone = absurd (gone (omega arith))

-- the answer that there is no such row is right
pub none_there : (monitor : MonitorParts) (condition : ℕ) (answer : Bool) → answer ≡ false → IsTrue answer ↔ HasRowAt monitor condition 1 → HasRowAt monitor condition 1 → ⊥
none_there monitor condition answer none told has = true≢false (sym (told.1 has) ∙ none)
