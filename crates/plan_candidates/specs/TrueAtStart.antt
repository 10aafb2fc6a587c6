-- Of candidates those that are true at the start.
use Rattle.std.specs.Prelude.{◌⊎◌, List, All}
use Rattle.std.specs.List.{Contains}
use Rattle.lang_monitor.specs.declared.candidate.Candidate.{Candidate}
use Rattle.lang_monitor.specs.Candidates.{AreSomeOf}
use Rattle.lang_monitor.specs.MonitorParts.{MonitorParts}
use Rattle.lang_monitor.specs.Triples.{HoldAtStart, IsFalseAtStart}

-- in their order those of the candidates that are true whatever the monitor is opened with: each
-- other one is false where it is opened with some values
pub record AreTrueAtStart (monitor : MonitorParts) (all kept : List Candidate) : Type 0 where
  pub in_order : AreSomeOf kept all
  pub starts : HoldAtStart monitor kept
  pub each : All (λ candidate. Contains kept candidate ⊎ IsFalseAtStart monitor candidate) all
