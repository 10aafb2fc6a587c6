-- Starts at which candidates are false.
use Rattle.std.specs.Prelude.{◌≡◌, false, List, Option, Some, None}
use Rattle.lang_base.specs.declared.value.Value.{Value}
use Rattle.lang_monitor.specs.declared.candidate.Candidate.{Candidate}
use Rattle.lang_monitor.specs.Candidates.{candidate_truth}
use Rattle.lang_monitor.specs.MonitorParts.{MonitorParts}
use Rattle.lang_monitor.specs.Starts.{IsStart}
use Rattle.lang_monitor.specs.Triples.{IsTrueAtStart}

-- the monitor may be opened with the values that are found, and the candidate is false there; none
-- are found only where it is true whatever the monitor is opened with
abbrev pub IsFalseStart : MonitorParts → Candidate → Option (List Value) → Type 0
IsFalseStart monitor candidate (Some start) =
    IsStart monitor.fields start × (candidate_truth start candidate ≡ false)
IsFalseStart monitor candidate None = IsTrueAtStart monitor candidate
