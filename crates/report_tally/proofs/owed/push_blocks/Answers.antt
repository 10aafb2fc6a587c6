use Rattle.std.proofs.Common.{◌++◌, ◌∷◌, [], ℕ, List, Option, sym, ap, ◌∙◌, append_assoc, append-nil, arith}
use Rattle.std.specs.List.{flat_map, range_with_len}
use Rattle.std.proofs.lemmas.List.Concat.{flat_map-append}
use Rattle.machine_events.specs.declared.plan.Note.{Note}
use Rattle.machine_events.specs.Plans.{notes_at}
use Rattle.plan_count.specs.declared.question.Question.{Question}
use Rattle.plan_place.specs.Relayed.{note_on}
use Rattle.plan_claims.proofs.Lists.{range_more}
use Rattle.report_tally.specs.CountedReports.{note_questions}
use Rattle.report_tally.proofs.owed.push_blocks.Goals as goal

pub loop-index-preserved : goal.loop-index-preserved
loop-index-preserved c =
    let condition = c.args.condition in
    let index = c.loop-index.index in
    let old = c.args.owed.now.items in
    let each : ℕ → List Question = λ block. note_questions condition c.args.row block (note_on (notes_at c.args.plan.now block) condition) in
    let some = flat_map each (range_with_len 0 index) in
    c.in_ok-push_noted.ensures
    ∙ ap (λ (note : Option Note). c.loop-index.owed.items ++ note_questions condition c.args.row index note) c.placed_note.ensures
    ∙ ap (λ (before : List Question). before ++ each index) c.loop-index.invariant
    ∙ append_assoc old some (each index)
    ∙ ap (λ (more : List Question). old ++ more) (ap (λ (more : List Question). some ++ more) (sym (append-nil (each index)))
    ∙ sym (flat_map-append each (range_with_len 0 index) (index ∷ [])) ∙ ap (flat_map each) (sym (range_more 0 index index (omega arith))))
