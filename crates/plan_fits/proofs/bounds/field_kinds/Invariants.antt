use Rattle.std.proofs.Common.{◌≡◌, take}
use Rattle.lang_monitor.specs.MonitorParts.{kinds_of}
use Rattle.plan_fits.proofs.bounds.field_kinds.Given as goal

abbrev pub invariant-loop-field : goal.invariant-loop-field
invariant-loop-field l = l.made.items ≡ kinds_of (take l.field-index l.fields)
