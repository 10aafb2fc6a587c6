use Rattle.std.proofs.Common.{◌≡◌, ◌++◌, map}
use Rattle.std.specs.List.{range_with_len}
use Rattle.lang_monitor.specs.declared.claim.Claim.TheVariants.{Keeps}
use Rattle.report_verdict.proofs.claims.push_keeps.Given as goal

abbrev pub invariant-loop-index : goal.invariant-loop-index
invariant-loop-index l = l.claims.items ≡ l.fn.claims.items ++ map (Keeps l.candidate) (range_with_len 0 l.index)
