use Rattle.std.proofs.Common.{◌≡◌, ◌++◌, map, not, ◌&&◌, take}
use Rattle.std.specs.List.{filter}
use Rattle.plan_claims.specs.Backing.{reads_none}
use Rattle.lang_monitor.specs.declared.claim.Claim.TheVariants.{NoTest}
use Rattle.report_verdict.proofs.claims.push_untested_of.Given as goal

abbrev pub invariant-loop-note : goal.invariant-loop-note
invariant-loop-note l =
    l.claims.items ≡ l.fn.claims.items ++ map (λ note. NoTest l.block note.condition)
    (filter (λ note. not note.tested && reads_none l.monitor note.condition) (take l.note-index l.notes))
