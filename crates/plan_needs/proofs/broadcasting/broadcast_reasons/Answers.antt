use Rattle.std.proofs.Common.{rules, ◌≡◌, ℕ, ◌<◌, true, List, Option, length, ap, subst, sym, ◌∙◌}
use Rattle.std.specs.List.{list_all}
use Rattle.lang_monitor.specs.declared.candidate.Candidate.{Candidate}
use Rattle.lang_monitor.specs.Candidates.{candidates_of}
use Rattle.logic_wp.specs.Expressible.{is_expressible}
use Rattle.plan_why.specs.Failures.{IsFailureAmong}
use Rattle.plan_why.proofs.Things.{kept_expressible}
use Rattle.plan_counted.specs.declared.counted.Column.{Column}
use Rattle.plan_needs.specs.declared.broadcasts.BroadcastReason.{BroadcastReason}
use Rattle.plan_needs.specs.CountedReasons.{IsBroadcastReason}
use Rattle.plan_needs.specs.Needs.{counted_row, signal_queries}
use Rattle.plan_needs.proofs.Listed.{askable_at, askable_by}
use Rattle.plan_needs.proofs.Pushed.{each_next, listed_next}
use Rattle.plan_needs.proofs.broadcasting.broadcast_reasons.Goals as goal

pub signal_failure-requires-clause-kept : goal.signal_failure-requires-clause-kept
signal_failure-requires-clause-kept c =
    subst (λ (kept : List Candidate). list_all is_expressible kept ≡ true) (sym c.items-kept.ensures)
    (kept_expressible c.args.counted.now.plan.kept (candidates_of c.args.monitor.now) c.requires.fits.kept c.candidates_have_formulas.ensures)

pub signal_failure-requires-clause-may : goal.signal_failure-requires-clause-may
signal_failure-requires-clause-may c =
    let low : c.loop-index.index < length c.in_ok-broadcasts.broadcasts.items = search rules in
    let broadcast = c.index-broadcast.result.now in
    askable_by c.args.monitor.now c.args.counted.now.columns c.items-columns.result.now broadcast c.counted_row-row.result
    (askable_at c.args.monitor.now c.args.counted.now c.in_ok-broadcasts.broadcasts.items c.loop-index.index broadcast c.requires.fits c.requires.backed c.in_ok-broadcasts.ensures low c.index-broadcast.ensures)
    c.items-columns.ensures c.counted_row-row.ensures

pub loop-index-preserved : goal.loop-index-preserved
loop-index-preserved c =
    let low : c.loop-index.index < length c.in_ok-broadcasts.broadcasts.items = search rules in
    let broadcast = c.index-broadcast.result.now in
    let reason : BroadcastReason = record { broadcast = broadcast; failure = c.in_ok-failure.failure } in
    let row_is : c.counted_row-row.result ≡ counted_row c.args.counted.now.columns broadcast.condition =
    c.counted_row-row.ensures ∙ ap (λ (all : List (Option Column)). counted_row all broadcast.condition) c.items-columns.ensures in
    let here : IsBroadcastReason c.args.monitor.now c.args.counted.now reason =
    subst (λ (row : Option ℕ). IsFailureAmong c.args.monitor.now (signal_queries c.args.monitor.now c.args.counted.now.plan.kept row broadcast.condition broadcast.block) c.in_ok-failure.failure) row_is
    (subst (λ (kept : List Candidate). IsFailureAmong c.args.monitor.now (signal_queries c.args.monitor.now kept c.counted_row-row.result broadcast.condition broadcast.block) c.in_ok-failure.failure) c.items-kept.ensures c.in_ok-failure.ensures) in
    record {
      broadcasts = listed_next (λ (one : BroadcastReason). one.broadcast) c.in_ok-broadcasts.broadcasts.items c.loop-index.index c.loop-index.reasons.items c.push.new.self.items reason low c.index-broadcast.ensures c.loop-index.invariant.broadcasts c.in_ok-push.ensures.items;
      each = each_next (IsBroadcastReason c.args.monitor.now c.args.counted.now) c.loop-index.reasons.items c.push.new.self.items reason c.loop-index.invariant.each here c.in_ok-push.ensures.items;
    }
