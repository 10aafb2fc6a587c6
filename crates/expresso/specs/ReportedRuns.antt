-- What `report` and `run` print of one file.
use Rattle.std.specs.Prelude.{◌≡◌, ℕ, List, Option, Some}
use Rattle.plan_prune.specs.Hardness.{HasNoHardClaim}
use Rattle.front_command.specs.declared.plan_choice.PlanChoice.{PlanChoice}
use Rattle.expresso_answers.specs.declared.status.Status.{Status}
use Rattle.expresso_answers.specs.Answers.{IsReportText}
use Rattle.expresso.specs.Headline.{IsHeadlineText}

-- One text is what `run` or `block` printed of a monitor none of whose claims is hard, and another
-- is what `report` printed of a file with the same bytes.
pub record AreRunAndReport (choice : PlanChoice) (status : Status)
    (held : List ℕ → Option (List ℕ)) (file clients_bytes text report_text : List ℕ) : Type 0 where
  pub bytes : List ℕ
  pub run : IsHeadlineText choice bytes clients_bytes status text
  pub report : IsReportText held file report_text
  pub same : held file ≡ Some bytes
  pub easy : HasNoHardClaim run.monitor
