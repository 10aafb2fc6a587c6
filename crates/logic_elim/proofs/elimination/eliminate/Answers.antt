use Rattle.std.proofs.Common.{ap, ◌∙◌}
use Rattle.std.specs.List.{filter}
use Rattle.logic_elim.specs.Steps.{is_free_row, is_lower_row, is_upper_row}
use Rattle.logic_elim.specs.Chains.{state_of}
use Rattle.logic_elim.proofs.Loops.{sides_keep, sides_eliminate}
use Rattle.logic_elim.proofs.elimination.eliminate.Goals as goal

pub returns-clause-sound : goal.returns-clause-sound
returns-clause-sound c =
    sides_keep c.args.place (state_of c.args.left.now) (state_of c.add_sums.new.left) c.in_ok-kept.kept c.deref.result.now c.deref-2.result.now c.in_ok-progress.progress
    (c.deref.ensures.value ∙ c.in_ok-sides.ensures.uppers ∙ ap (filter (is_upper_row c.args.place)) (c.into_rows.ensures ∙ c.replace-rows.ensures.value))
    (c.deref-2.ensures.value ∙ c.in_ok-sides.ensures.lowers ∙ ap (filter (is_lower_row c.args.place)) (c.into_rows.ensures ∙ c.replace-rows.ensures.value))
    (c.in_ok-kept.ensures ∙ c.in_ok-sides.ensures.free ∙ ap (filter (is_free_row c.args.place)) (c.into_rows.ensures ∙ c.replace-rows.ensures.value))
    c.in_ok-progress.ensures.sound

pub returns-clause-eliminates : goal.returns-clause-eliminates
returns-clause-eliminates c =
    sides_eliminate c.args.most c.args.place (state_of c.args.left.now) (state_of c.add_sums.new.left) c.in_ok-kept.kept c.deref.result.now c.deref-2.result.now c.in_ok-progress.progress
    (c.deref.ensures.value ∙ c.in_ok-sides.ensures.uppers ∙ ap (filter (is_upper_row c.args.place)) (c.into_rows.ensures ∙ c.replace-rows.ensures.value))
    (c.deref-2.ensures.value ∙ c.in_ok-sides.ensures.lowers ∙ ap (filter (is_lower_row c.args.place)) (c.into_rows.ensures ∙ c.replace-rows.ensures.value))
    (c.in_ok-kept.ensures ∙ c.in_ok-sides.ensures.free ∙ ap (filter (is_free_row c.args.place)) (c.into_rows.ensures ∙ c.replace-rows.ensures.value))
    c.in_ok-progress.ensures.adds
