use Rattle.std.proofs.Common.{◌≡◌, take}
use Rattle.lang_monitor.specs.Starts.{started}
use Rattle.lang_monitor.proofs.monitor.begin_with.Given as goal

abbrev pub invariant-loop-i : goal.invariant-loop-i
invariant-loop-i l = l.fields ≡ started l.fn.fields (take l.i l.start)
