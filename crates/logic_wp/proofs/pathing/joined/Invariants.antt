use Rattle.std.proofs.Common.{◌≡◌, take}
use Rattle.std.specs.List.{flat_map}
use Rattle.logic_wp.specs.Paths.{continued}
use Rattle.logic_wp.proofs.pathing.joined.Given as goal

abbrev pub invariant-loop-first : goal.invariant-loop-first
invariant-loop-first l = l.paths.items ≡ flat_map (continued l.rests) (take l.first-index l.firsts)
