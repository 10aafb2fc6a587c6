use Rattle.std.proofs.Common.{◌≡◌, ◌++◌, take}
use Rattle.logic_wp.specs.Paths.{continued}
use Rattle.logic_wp.proofs.pathing.push_continued.Given as goal

abbrev pub invariant-loop-rest : goal.invariant-loop-rest
invariant-loop-rest l = l.paths.items ≡ l.fn.paths.items ++ continued (take l.rest-index l.rests) l.path
