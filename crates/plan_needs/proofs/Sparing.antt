-- What is asked of a thing is what would spare it.
use Rattle.std.proofs.Common.{◌≡◌, ℕ, List, [], ◌∷◌, Option, Some, None, ap, subst, sym, ◌∙◌}
use Rattle.lang_monitor.specs.declared.candidate.Candidate.{Candidate}
use Rattle.lang_monitor.specs.MonitorParts.{MonitorParts}
use Rattle.lang_monitor.specs.Queries.{no_test_query}
use Rattle.plan_count.specs.Questions.{question_query}
use Rattle.plan_count.specs.declared.question.Question.TheVariants as questions
use Rattle.plan_counted.specs.declared.counted.Column.{Column}
use Rattle.plan_counted.specs.declared.counted.CountedPlan.{CountedPlan}
use Rattle.plan_why.specs.declared.failing.Failure.{Failure}
use Rattle.plan_why.specs.declared.reason.Thing.{Thing}
use Rattle.plan_why.specs.declared.reason.Thing.TheVariants as things
use Rattle.plan_why.specs.Failures.{IsFailureAmong}
use Rattle.plan_needs.specs.Needs.{count_queries, counted_row, kind_queries, note_queries, signal_queries, sparing_queries}
use Rattle.plan_needs.proofs.Among.{among_none}

pub count_asked : (monitor : MonitorParts) (kept : List Candidate) (held : Option ℕ) (row block condition : ℕ) (found : Option Failure) → held ≡ Some row → IsFailureAmong monitor (question_query monitor kept (questions.Counts condition row block) ∷ []) found
    → IsFailureAmong monitor (count_queries monitor kept held block condition) found
count_asked monitor kept held row block condition found is = subst (λ (one : Option ℕ). IsFailureAmong monitor (count_queries monitor kept one block condition) found) (sym is)

pub count_not_asked : (monitor : MonitorParts) (kept : List Candidate) (held : Option ℕ) (block condition : ℕ) → held ≡ None → IsFailureAmong monitor (count_queries monitor kept held block condition) None
count_not_asked monitor kept held block condition is = subst (λ (one : Option ℕ). IsFailureAmong monitor (count_queries monitor kept one block condition) None) (sym is) (among_none monitor)

pub signal_asked : (monitor : MonitorParts) (kept : List Candidate) (held : Option ℕ) (row condition block : ℕ) (found : Option Failure) → held ≡ Some row → IsFailureAmong monitor (signal_queries monitor kept (Some row) condition block) found
    → IsFailureAmong monitor (signal_queries monitor kept held condition block) found
signal_asked monitor kept held row condition block found is = subst (λ (one : Option ℕ). IsFailureAmong monitor (signal_queries monitor kept one condition block) found) (sym is)

pub signal_not_asked : (monitor : MonitorParts) (kept : List Candidate) (held : Option ℕ) (condition block : ℕ) → held ≡ None → IsFailureAmong monitor (signal_queries monitor kept held condition block) None
signal_not_asked monitor kept held condition block is = subst (λ (one : Option ℕ). IsFailureAmong monitor (signal_queries monitor kept one condition block) None) (sym is) (among_none monitor)

-- what is found of a thing is found of it as it stands in the plan
found_of : (monitor : MonitorParts) (counted : CountedPlan) (thing other : Thing) (block : ℕ) (found : Option Failure) → thing ≡ other → IsFailureAmong monitor (sparing_queries monitor counted other block) found
    → IsFailureAmong monitor (sparing_queries monitor counted thing block) found
found_of monitor counted thing other block found is = subst (λ (one : Thing). IsFailureAmong monitor (sparing_queries monitor counted one block) found) (sym is)

pub note_asked : (monitor : MonitorParts) (counted : CountedPlan) (thing : Thing) (own condition block : ℕ) (kept : List Candidate) (columns : List (Option Column)) (row : Option ℕ) (found : Option Failure) → thing ≡ things.Note own condition → kept ≡ counted.plan.kept
    → columns ≡ counted.columns → row ≡ counted_row columns condition
    → IsFailureAmong monitor (note_queries monitor kept row block condition) found → IsFailureAmong monitor (sparing_queries monitor counted thing block) found
note_asked monitor counted thing own condition block kept columns row found is same columns_are told there =
    let as_kept : IsFailureAmong monitor (note_queries monitor counted.plan.kept row block condition) found = subst (λ (some : List Candidate). IsFailureAmong monitor (note_queries monitor some row block condition) found) same there in
    let row_is : row ≡ counted_row counted.columns condition = told ∙ ap (λ (all : List (Option Column)). counted_row all condition) columns_are in
    found_of monitor counted thing (things.Note own condition) block found is (subst (λ (held : Option ℕ). IsFailureAmong monitor (note_queries monitor counted.plan.kept held block condition) found) row_is as_kept)

pub kind_asked : (monitor : MonitorParts) (counted : CountedPlan) (thing : Thing) (condition block : ℕ) (kept : List Candidate) (found : Option Failure) → thing ≡ things.Broadcast condition → kept ≡ counted.plan.kept
    → IsFailureAmong monitor (kind_queries monitor kept condition block) found → IsFailureAmong monitor (sparing_queries monitor counted thing block) found
kind_asked monitor counted thing condition block kept found is same there =
    found_of monitor counted thing (things.Broadcast condition) block found is (subst (λ (some : List Candidate). IsFailureAmong monitor (kind_queries monitor some condition block) found) same there)

pub test_asked : (monitor : MonitorParts) (counted : CountedPlan) (thing : Thing) (own condition block : ℕ) (kept : List Candidate) (found : Option Failure) → thing ≡ things.Test own condition → kept ≡ counted.plan.kept
    → IsFailureAmong monitor (no_test_query monitor kept block condition ∷ []) found → IsFailureAmong monitor (sparing_queries monitor counted thing block) found
test_asked monitor counted thing own condition block kept found is same there =
    found_of monitor counted thing (things.Test own condition) block found is (subst (λ (some : List Candidate). IsFailureAmong monitor (no_test_query monitor some block condition ∷ []) found) same there)
