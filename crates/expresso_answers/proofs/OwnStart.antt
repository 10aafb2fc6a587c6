-- A monitor is opened with its own start where nothing is chosen.
use Rattle.std.proofs.Common.{◌≡◌, List, [], ◌∷◌, map, refl, ap}
use Rattle.lang_monitor.specs.declared.monitor.Field.{Field}
use Rattle.lang_monitor.specs.MonitorParts.{MonitorParts, IsMonitor, opened_with, parts, start_of}
use Rattle.lang_monitor.specs.Starts.{IsStart, started}

started_own : (fields : List Field) → started fields (map (λ field. field.start) fields) ≡ fields
started_own [] = refl
started_own (field ∷ fields) = ap (λ (rest : List Field). field ∷ rest) (started_own fields)

pub own_is_start : (monitor : MonitorParts) → IsMonitor monitor → IsStart monitor.fields (start_of monitor)
own_is_start monitor is = is.opens

pub opened_own : (monitor : MonitorParts) → opened_with monitor (start_of monitor) ≡ monitor
opened_own monitor = ap (λ (fields : List Field). parts monitor.name fields monitor.methods monitor.blocks monitor.conditions) (started_own monitor.fields)
