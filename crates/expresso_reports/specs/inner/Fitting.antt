-- What `report --fits` and `explain --fits` find of the blocks of a monitor.
use Rattle.std.specs.Prelude.{◌≤◌, List, All, IfSome, Option, length}
use Rattle.lang_base.specs.Limits.{BLOCKS}
use Rattle.lang_monitor.specs.declared.candidate.Candidate.{Candidate}
use Rattle.lang_monitor.specs.MonitorParts.{MonitorParts}
use Rattle.logic_cert.specs.declared.cert.Cert.{Cert}
use Rattle.logic_outline.specs.Outlines.{HasTypedNumbers}
use Rattle.plan_fits.specs.Answers.{AreFitAnswers}
use Rattle.report_fits.specs.declared.reasons.FitReason.{FitReason}
use Rattle.report_fits.specs.FitReasons.{AreFitReasons}

-- answers for no more blocks than there may be, whose certificates have numbers of their types
pub record AreTypedAnswers (monitor : MonitorParts) (kept : List Candidate)
    (answers : List (Option Cert)) : Type 0 where
  pub are : AreFitAnswers monitor kept answers
  pub typed : All (λ answer. IfSome answer HasTypedNumbers) answers
  pub few : length answers ≤ BLOCKS

-- reasons of no more blocks than there may be
pub record AreFewReasons (monitor : MonitorParts) (kept : List Candidate)
    (found : List FitReason) : Type 0 where
  pub are : AreFitReasons monitor kept found
  pub few : length found ≤ BLOCKS
