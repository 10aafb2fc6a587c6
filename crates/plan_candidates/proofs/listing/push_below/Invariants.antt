use Rattle.std.proofs.Common.{◌≡◌, ◌++◌, map, not, take}
use Rattle.std.specs.Prelude.{◌==◌}
use Rattle.std.specs.List.{filter}
use Rattle.lang_monitor.specs.declared.candidate.Candidate.TheVariants.{Below}
use Rattle.plan_candidates.proofs.listing.push_below.Given as goal

abbrev pub invariant-loop-right : goal.invariant-loop-right
invariant-loop-right l =
    l.candidates.items ≡ l.fn.candidates.items ++ map (Below l.left) (filter (λ right. not (right == l.left)) (take l.right-index l.fields))
