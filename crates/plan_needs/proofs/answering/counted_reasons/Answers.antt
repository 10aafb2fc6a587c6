use Rattle.std.proofs.Common.{rules, ◌<◌, length}
use Rattle.lang_monitor.specs.Candidates.{candidates_of}
use Rattle.plan_why.specs.declared.reason.Reason.{Reason}
use Rattle.plan_why.proofs.Things.{kept_expressible}
use Rattle.plan_needs.specs.CountedReasons.{IsCountedReason}
use Rattle.plan_needs.proofs.Pushed.{each_next, listed_next}
use Rattle.plan_needs.proofs.answering.counted_reasons.Goals as goal

pub answer_of-requires-clause-kept : goal.answer_of-requires-clause-kept
answer_of-requires-clause-kept c =
    kept_expressible c.args.counted.now.plan.kept (candidates_of c.args.monitor.now) c.requires.fits.kept c.candidates_have_formulas.ensures

pub loop-index-preserved : goal.loop-index-preserved
loop-index-preserved c =
    let low : c.loop-index.index < length c.in_ok-things.things.items = search rules in
    let reason : Reason = record { thing = c.index-thing.result.now; answer = c.in_ok-answer.answer } in
    record {
      things = listed_next (λ (one : Reason). one.thing) c.in_ok-things.things.items c.loop-index.index c.loop-index.reasons.items c.push.new.self.items reason low c.index-thing.ensures c.loop-index.invariant.things c.in_ok-push.ensures.items;
      each = each_next (IsCountedReason c.args.monitor.now c.args.counted.now) c.loop-index.reasons.items c.push.new.self.items reason c.loop-index.invariant.each c.in_ok-answer.ensures c.in_ok-push.ensures.items;
    }
