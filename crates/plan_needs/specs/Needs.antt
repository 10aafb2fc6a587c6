-- What costs something in a counted plan, and what would have to be valid to spare it.
use Rattle.std.specs.Prelude.{ℕ, ◌&&◌, List, [], ◌∷◌, map, Option, Some, None, is_some}
use Rattle.std.specs.List.{filter, flat_map, enumerate_from}
use Rattle.lang_monitor.specs.declared.candidate.Candidate.{Candidate}
use Rattle.lang_monitor.specs.declared.query.Query.{Query}
use Rattle.lang_monitor.specs.MonitorParts.{MonitorParts}
use Rattle.lang_monitor.specs.Queries.{none_needed_query, no_test_query, one_enough_query}
use Rattle.lang_monitor.specs.Queries.{waiting_guard}
use Rattle.logic_linear.specs.Linear.{Linear}
use Rattle.logic_linear.specs.Places.{rows_of}
use Rattle.machine_events.specs.declared.plan.Note.{Note}
use Rattle.plan_count.specs.Questions.{question_query}
use Rattle.plan_count.specs.declared.question.Question.TheVariants as questions
use Rattle.plan_counted.specs.declared.counted.Column.{Column}
use Rattle.plan_counted.specs.declared.counted.CountedPlan.{CountedPlan}
use Rattle.plan_counted.specs.Counted.{column_at}
use Rattle.plan_why.specs.declared.reason.Thing.{Thing}
use Rattle.plan_why.specs.declared.reason.Thing.TheVariants as things
use Rattle.plan_needs.specs.declared.broadcasts.BlockBroadcast.{BlockBroadcast}

-- the row by which a condition is counted, where it is
abbrev pub row_of : Option Column → Option ℕ
row_of None = None
row_of (Some column) = Some column.row

abbrev pub counted_row : List (Option Column) → ℕ → Option ℕ
counted_row columns condition = row_of (column_at columns condition)

-- ---- things that any plan may have

-- with no note the block leaves a condition counted that is counted by the row
abbrev pub count_queries : MonitorParts → List Candidate → Option ℕ → ℕ → ℕ → List Query
count_queries monitor kept None block condition = []
count_queries monitor kept (Some row) block condition =
    question_query monitor kept (questions.Counts condition row block) ∷ []

-- A note is spared where its block makes the guard true for no client that waits, and with no note
-- leaves a condition counted that is counted by the row.
abbrev pub note_queries : MonitorParts → List Candidate → Option ℕ → ℕ → ℕ → List Query
note_queries monitor kept row block condition =
    none_needed_query monitor kept block condition
    ∷ count_queries monitor kept row block condition

-- the one query where a guard has a row, else the other
abbrev pub by_first_row : List Linear → Query → Query → List Query
by_first_row [] counts one = one ∷ []
by_first_row (row ∷ rows) counts one = counts ∷ []

-- A condition of kind broadcast is spared where each block that waits at it leaves it counted with
-- no note, by the first row of its guard; where this has none, where each leaves its guard false.
abbrev pub kind_queries : MonitorParts → List Candidate → ℕ → ℕ → List Query
kind_queries monitor kept condition block =
    by_first_row (rows_of (waiting_guard monitor condition))
    (question_query monitor kept (questions.Counts condition 1 block))
    (one_enough_query monitor kept condition block)

-- what would have to be valid to spare a thing, after a block that it is about
abbrev pub sparing_queries : MonitorParts → CountedPlan → Thing → ℕ → List Query
sparing_queries monitor counted (things.Note own condition) block =
    note_queries monitor counted.plan.kept (counted_row counted.columns condition) block condition
sparing_queries monitor counted (things.Broadcast condition) block =
    kind_queries monitor counted.plan.kept condition block
sparing_queries monitor counted (things.Test own condition) block =
    no_test_query monitor counted.plan.kept block condition ∷ []

-- ---- broadcasts of blocks on counted conditions

-- those of a block with these notes
abbrev pub broadcasts_of_block : List (Option Column) → ℕ → List Note → List BlockBroadcast
broadcasts_of_block columns block notes =
    map (λ note. record { block = block; condition = note.condition })
    (filter (λ note. note.all && is_some (counted_row columns note.condition)) notes)

-- block by block
abbrev pub broadcasts_of : CountedPlan → List BlockBroadcast
broadcasts_of counted =
    flat_map (λ one. broadcasts_of_block counted.columns one.0 one.1)
    (enumerate_from 0 counted.plan.notes)

-- One signal is enough in place of a broadcast where with one the block leaves the condition
-- counted by the row, and where nobody could pass before, at most one client may.
abbrev pub signal_queries : MonitorParts → List Candidate → Option ℕ → ℕ → ℕ → List Query
signal_queries monitor kept None condition block = []
signal_queries monitor kept (Some row) condition block =
    question_query monitor kept (questions.Gives condition row block)
    ∷ question_query monitor kept (questions.First condition row block) ∷ []
