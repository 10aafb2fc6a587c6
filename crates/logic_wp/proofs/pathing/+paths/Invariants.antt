use Rattle.std.proofs.Common.{◌≡◌, ◌≤◌, drop, length}
use Rattle.logic_wp.specs.Paths.{body_paths}
use Rattle.logic_wp.proofs.pathing.+paths.Given as goal

abbrev pub invariant-paths_of_body-loop-left : goal.invariant-paths_of_body-loop-left
invariant-paths_of_body-loop-left l = record {
  made : l.paths.items ≡ body_paths (drop l.left l.body);
  within : l.left ≤ length l.body;
}

abbrev pub decreases-paths_of_body-loop-left : goal.decreases-paths_of_body-loop-left
decreases-paths_of_body-loop-left l = l.left
