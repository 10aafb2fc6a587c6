use Rattle.std.proofs.Common.{◌≡◌, ◌++◌, map, not, take}
use Rattle.std.specs.Prelude.{◌==◌}
use Rattle.std.specs.List.{filter, flat_map}
use Rattle.lang_monitor.specs.declared.candidate.Candidate.TheVariants.{Below}
use Rattle.plan_candidates.proofs.listing.push_pairs.Given as goal

abbrev pub invariant-loop-left : goal.invariant-loop-left
invariant-loop-left l =
    l.candidates.items ≡ l.fn.candidates.items ++ flat_map (λ left. map (Below left) (filter (λ right. not (right == left)) l.fields)) (take l.left-index l.fields)
