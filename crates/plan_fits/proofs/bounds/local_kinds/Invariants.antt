use Rattle.std.proofs.Common.{◌≡◌, map, take}
use Rattle.lang_monitor.specs.MonitorParts.{kind_of}
use Rattle.plan_fits.proofs.bounds.local_kinds.Given as goal

abbrev pub invariant-loop-local : goal.invariant-loop-local
invariant-loop-local l = l.made.items ≡ map kind_of (take l.local-index l.locals)
