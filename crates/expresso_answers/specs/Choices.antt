-- What is so whatever a monitor is opened with.
use Rattle.std.specs.Prelude.{List}
use Rattle.lang_base.specs.declared.value.Value.{Value}
use Rattle.lang_monitor.specs.MonitorParts.{MonitorParts, opened_with}
use Rattle.lang_monitor.specs.Starts.{IsStart}

-- The claim is true of the monitor as it is opened with any values with which it may be. Its own
-- start is such values, and where it has no parameters no others are.
abbrev pub ForEveryChoice : MonitorParts → (MonitorParts → Type 0) → Type 0
ForEveryChoice monitor Claim =
    (start : List Value) → IsStart monitor.fields start → Claim (opened_with monitor start)
