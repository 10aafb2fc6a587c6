use Rattle.std.proofs.Common.{ℕ, ◌+◌, not, ap, arith}
use Rattle.lang_monitor.specs.declared.claim.Claim.TheVariants as claims
use Rattle.machine_events.specs.Plans.{has_note}
use Rattle.report_verdict.proofs.Gathered.{filtered_more}
use Rattle.report_verdict.proofs.claims.push_unnoted_of.Goals as goal

pub loop-index-preserved : goal.loop-index-preserved
loop-index-preserved c =
    filtered_more (claims.NoNote c.args.block) (λ (condition : ℕ). not (has_note c.args.notes.now condition)) 1 c.loop-index.index (c.loop-index.index + 1) c.args.claims.now.items
    c.loop-index.claims.items c.push_if.new.claims.items (not c.has_note.result) (omega arith) (ap not c.has_note.ensures) c.loop-index.invariant c.in_ok-push_if.ensures
