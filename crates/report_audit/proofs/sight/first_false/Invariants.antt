use Rattle.std.proofs.Common.{take}
use Rattle.lang_monitor.specs.Triples.{HoldAtStart}
use Rattle.report_audit.proofs.sight.first_false.Given as goal

abbrev pub invariant-loop-place : goal.invariant-loop-place
invariant-loop-place l = HoldAtStart l.monitor (take l.place l.kept)
