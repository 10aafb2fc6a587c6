use Rattle.std.proofs.Common.{ℕ, length, List, arith}
use Rattle.std.proofs.lemmas.Grind.{common_steps}
use Rattle.machine_events.specs.declared.plan.Note.{Note}
use Rattle.plan_claims.specs.Backing.{unnoted_claims, untested_claims}
use Rattle.plan_place.specs.inner.Answers.{AreNotes}
use Rattle.plan_place.proofs.Placing.{each_more, proofs_more}
use Rattle.plan_place.proofs.notes.notes_of_all.Goals as goal

pub loop-index-preserved : goal.loop-index-preserved
loop-index-preserved c =
    let monitor = c.args.monitor.now in
    let kept = c.args.kept.now in
    let before = c.loop-index.notes.items in
    let index = c.loop-index.index in
    let invariant = c.loop-index.invariant in
    let notes = c.in_ok-notes_of.field-0 in
    let told = c.in_ok-notes_of.ensures in
    let found = c.loop-index.found in
    let now = c.notes_of.new.found in
    let made = c.in_ok-push.ensures.items in
    let many = invariant.many in record {
      many = grind (arith, common_steps, made, many);
      each = each_more (λ (one : ℕ × List Note). AreNotes monitor kept c.args.kinds.now one.0 (length monitor.conditions) one.1) 0 before c.push.new.self.items notes index made (omega arith)
          invariant.each told.notes;
      unnoted = proofs_more monitor kept (λ (one : ℕ × List Note). unnoted_claims monitor one.0 one.1) 0 before c.push.new.self.items notes index
          found.unnoted.items now.unnoted.items made (omega arith) invariant.unnoted told.unnoted;
      untested = proofs_more monitor kept (λ (one : ℕ × List Note). untested_claims monitor one.0 one.1) 0 before c.push.new.self.items notes index
          found.untested.items now.untested.items made (omega arith) invariant.untested told.untested;
    }
