-- The words of a question.
use Rattle.std.specs.Prelude.{◌==◌, ℕ, List, [], ◌++◌, codes, decimal, if◌then◌else◌}
use Rattle.lang_monitor.specs.MonitorParts.{MonitorParts}
use Rattle.machine_events.specs.PlanText.{block_name}
use Rattle.plan_count.specs.declared.question.Question.{Question}
use Rattle.plan_count.specs.declared.question.Question.TheVariants as questions

-- `(row 3) `: the row by which a condition is counted; nothing for the first
abbrev pub row_mark : ℕ → List ℕ
row_mark row = if row == 1 then [] else codes "(row " ++ decimal row ++ codes ") "

-- a word, and then `2 put`, or `2 (row 3) put`
abbrev pub asked_text : MonitorParts → List ℕ → ℕ → ℕ → ℕ → List ℕ
asked_text monitor word condition row block =
    word ++ decimal condition ++ codes " " ++ row_mark row ++ block_name monitor block

-- `counts 2 put`, `gives 2 put`, `first 2 put`, and of another row than the first
-- `counts 2 (row 3) put`
abbrev pub question_text : MonitorParts → Question → List ℕ
question_text monitor (questions.Counts condition row block) =
    asked_text monitor (codes "counts ") condition row block
question_text monitor (questions.Gives condition row block) =
    asked_text monitor (codes "gives ") condition row block
question_text monitor (questions.First condition row block) =
    asked_text monitor (codes "first ") condition row block
