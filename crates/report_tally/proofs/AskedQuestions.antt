-- The questions that a counted plan rests on may be asked.
use Rattle.std.proofs.Common.{◌≡◌, ℕ, ◌+◌, Bool, true, false, List, [], ◌∷◌, length, Option, Some, None, arith}
use Rattle.std.specs.Prelude.{All, slice_get}
use Rattle.std.proofs.lemmas.List.Elements.{All-nil, All-cons}
use Rattle.lang_monitor.specs.MonitorParts.{MonitorParts}
use Rattle.machine_events.specs.declared.plan.Note.{Note}
use Rattle.machine_events.specs.declared.plan.Plan.{Plan}
use Rattle.machine_events.specs.Plans.{notes_at}
use Rattle.plan_claims.specs.Backing.{block_numbers}
use Rattle.plan_place.specs.Relayed.{note_on}
use Rattle.logic_wp.specs.PlainClaims.{IsBlockNumber}
use Rattle.plan_count.specs.declared.question.Question.TheVariants as questions
use Rattle.plan_count.specs.Questions.{MayAskQuestion, MayBeAsked}
use Rattle.report_verdict.proofs.Askable.{flat_all, numbered_all, range_all}
use Rattle.report_verdict.proofs.Pairs.{all_at}
use Rattle.report_tally.specs.CountedReports.{AreCounted, MayBeCounted, block_questions, condition_questions, given_questions, note_questions, owed_questions}

given_askable : (monitor : MonitorParts) (condition row block : ℕ) (all : Bool) → MayBeAsked monitor condition row block
    → All (MayAskQuestion monitor) (given_questions condition row block all)
given_askable monitor condition row block true may = All-nil (MayAskQuestion monitor)
given_askable monitor condition row block false may =
    All-cons (MayAskQuestion monitor) (questions.Gives condition row block) (questions.First condition row block ∷ []) may
    (All-cons (MayAskQuestion monitor) (questions.First condition row block) [] may (All-nil (MayAskQuestion monitor)))

note_askable : (monitor : MonitorParts) (condition row block : ℕ) (note : Option Note) → MayBeAsked monitor condition row block
    → All (MayAskQuestion monitor) (note_questions condition row block note)
note_askable monitor condition row block None may = All-cons (MayAskQuestion monitor) (questions.Counts condition row block) [] may (All-nil (MayAskQuestion monitor))
note_askable monitor condition row block (Some note) may = given_askable monitor condition row block note.all may

blocks_askable : (monitor : MonitorParts) (plan : Plan) (condition row : ℕ) → MayBeCounted monitor plan condition row
    → All (MayAskQuestion monitor) (block_questions monitor plan condition row)
blocks_askable monitor plan condition row may =
    flat_all (MayAskQuestion monitor) (λ block. note_questions condition row block (note_on (notes_at plan block) condition)) (block_numbers monitor) (λ k block is.
    note_askable monitor condition row block (note_on (notes_at plan block) condition) (record { is_block = in_numbers k block is; reads_none = may.reads_none; has_row = may.has }))
  where
    in_numbers : (k block : ℕ) → slice_get (block_numbers monitor) k ≡ Some block → IsBlockNumber monitor block
    in_numbers k block is =
        all_at (IsBlockNumber monitor) (block_numbers monitor) k block is (range_all (IsBlockNumber monitor) 0 (length monitor.blocks) (λ number low high. omega (arith, high)))

pub questions_askable : (monitor : MonitorParts) (plan : Plan) (counted : List (Option ℕ)) → AreCounted monitor plan counted
    → All (MayAskQuestion monitor) (owed_questions monitor plan counted)
questions_askable monitor plan counted are =
    numbered_all (MayAskQuestion monitor) (λ one. condition_questions monitor plan one.0 one.1) 1 counted (λ k row is. by_row k row is)
  where
    by_row : (k : ℕ) (row : Option ℕ) → slice_get counted k ≡ Some row → All (MayAskQuestion monitor) (condition_questions monitor plan (1 + k) row)
    by_row k (Some row) is = blocks_askable monitor plan (1 + k) row (are.each k row is)
    by_row k None is = All-nil (MayAskQuestion monitor)
