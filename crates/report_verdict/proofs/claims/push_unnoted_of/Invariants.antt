use Rattle.std.proofs.Common.{◌≡◌, ◌++◌, map, not}
use Rattle.std.specs.List.{filter, range_with_len}
use Rattle.machine_events.specs.Plans.{has_note}
use Rattle.lang_monitor.specs.declared.claim.Claim.TheVariants.{NoNote}
use Rattle.report_verdict.proofs.claims.push_unnoted_of.Given as goal

abbrev pub invariant-loop-index : goal.invariant-loop-index
invariant-loop-index l =
    l.claims.items ≡ l.fn.claims.items ++ map (NoNote l.block) (filter (λ condition. not (has_note l.notes condition)) (range_with_len 1 l.index))
