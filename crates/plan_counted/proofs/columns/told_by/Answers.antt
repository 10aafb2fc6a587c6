use Rattle.std.proofs.Common.{◌≡◌, ◌<◌, ℕ, Bool, List, Some, None, length, ap, sym, subst, ◌∙◌, arith}
use Rattle.std.proofs.lemmas.Grind.{common_steps}
use Rattle.lang_monitor.specs.declared.candidate.Candidate.{Candidate}
use Rattle.machine_events.specs.declared.plan.Note.{Note}
use Rattle.machine_events.specs.Plans.{has_note, notes_at}
use Rattle.plan_place.proofs.Placing.{each_more}
use Rattle.plan_counted.specs.inner.Answers.{IsToldAnswer, IsToldAt, IsToldOf}
use Rattle.plan_counted.proofs.Answered.{chained, notes_by_index}
use Rattle.plan_counted.proofs.columns.told_by.Goals as goal
use Rattle.plan_counted.proofs.columns.told_by.Goals.{After-has_note-is_noted}

noted_is : (c : After-has_note-is_noted) → c.has_note-is_noted.result ≡ has_note (notes_at c.args.plan.now c.loop-index.index) c.args.condition
noted_is c =
    let lists = c.items-lists.result.now in
    let index = c.loop-index.index in
    let many = c.requires.fits.notes in
    let within : index < length lists = omega (arith, c.loop-index-test.true, ap {B = ℕ} length c.blocks-index-end.ensures.blocks, ap {B = ℕ} length c.items-lists.ensures, many) in
    c.has_note-is_noted.ensures
    ∙ ap (λ (notes : List Note). has_note notes c.args.condition)
    (c.notes.ensures.notes ∙ sym (notes_by_index c.args.plan.now lists index _ c.index-lists-index.result c.items-lists.ensures within c.index-lists-index.is))

pub returns-in-None : goal.returns-in-None
returns-in-None c =
    let monitor = c.args.monitor.now in
    let condition = c.args.condition in
    let row = c.args.row in
    let index = c.loop-index.index in
    let is_noted = c.has_note-is_noted.result in
    chained monitor c.args.plan.now condition row index is_noted (noted_is (goal.at.returns-in-None c).After-has_note-is_noted)
    (subst (λ (kept : List Candidate). IsToldAnswer monitor kept condition row index is_noted None) c.items-kept.ensures
    (subst (IsToldAnswer monitor c.items-kept.result.now condition row index is_noted) c.in-None.is c.in_ok-told.ensures))

pub loop-index-preserved : goal.loop-index-preserved
loop-index-preserved c =
    let monitor = c.args.monitor.now in
    let plan = c.args.plan.now in
    let condition = c.args.condition in
    let row = c.args.row in
    let index = c.loop-index.index in
    let is_noted = c.has_note-is_noted.result in
    let told = c.in-Some.told in
    let made = c.in_ok-push-in-Some.ensures.items in
    let many = c.loop-index.invariant.many in record {
      many = grind (arith, common_steps, made, many);
      each = each_more (IsToldAt monitor plan condition row) 0 c.loop-index.column.items c.push.new.self.items told index made (omega (arith, many)) c.loop-index.invariant.each
          (subst (λ (flag : Bool). IsToldOf monitor plan.kept condition row index flag told) (noted_is (goal.at.loop-index-preserved c).After-has_note-is_noted)
          (subst (λ (kept : List Candidate). IsToldAnswer monitor kept condition row index is_noted (Some told)) c.items-kept.ensures
          (subst (IsToldAnswer monitor c.items-kept.result.now condition row index is_noted) c.in-Some.is c.in_ok-told.ensures)));
    }
