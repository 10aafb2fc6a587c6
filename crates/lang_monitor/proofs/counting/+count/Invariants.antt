use Rattle.std.proofs.Common.{◌≡◌, take, min}
use Rattle.lang_monitor.specs.Paths.{path_count}
use Rattle.lang_monitor.proofs.counting.+count.Given as goal

abbrev pub invariant-count_of_body-loop-statement : goal.invariant-count_of_body-loop-statement
invariant-count_of_body-loop-statement l = l.total ≡ min (path_count (take l.statement-index l.body)) 65
