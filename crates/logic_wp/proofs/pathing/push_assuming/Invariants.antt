use Rattle.std.proofs.Common.{◌≡◌, ◌++◌, take}
use Rattle.logic_wp.specs.Paths.{assuming}
use Rattle.logic_wp.proofs.pathing.push_assuming.Given as goal

abbrev pub invariant-loop-path : goal.invariant-loop-path
invariant-loop-path l = l.into.items ≡ l.fn.into.items ++ assuming l.when (take l.path-index l.paths)
