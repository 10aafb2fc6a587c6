use Rattle.std.proofs.Common.{◌∙◌, sym}
use Rattle.std.proofs.lemmas.Int.{to_z-of_z}
use mir.Syntax.{w128}
use mir.Val.{SFits}
use Rattle.logic_linear.proofs.CombinedLemmas.{all_sums_are, all_sums_rise, scaled_fit}
use Rattle.logic_linear.proofs.sums.combined_terms.Goals as goal

pub merged-requires-clause-terms : goal.merged-requires-clause-terms
merged-requires-clause-terms c =
    let l : SFits w128 c.args.left_times = c.ranges.left_times in
    scaled_fit c.args.left_times c.args.left.now c.push_multiples.new.sums.items c.deref.result.now c.new-scaled.result.items (simp to_z-of_z at (sym c.if-not-products_fit.false ∙ c.products_fit.ensures))
    c.deref.ensures.value (simp to_z-of_z at c.in_ok-push_multiples.ensures) c.new-scaled.ensures.items

pub returns : goal.returns
returns c =
    let l : SFits w128 c.args.left_times = c.ranges.left_times in
    let r : SFits w128 c.args.right_times = c.ranges.right_times in
    let sum = all_sums_are c.args.left_times c.args.left.now c.args.right_times c.args.right.now c.push_multiples.new.sums.items c.deref.result.now c.new-scaled.result.items c.merged.result c.requires.left c.requires.right
    (simp to_z-of_z at (sym c.if-not-products_fit.false ∙ c.products_fit.ensures)) (simp to_z-of_z at (sym c.if-not-products_fit-2.false ∙ c.products_fit-2.ensures))
    c.deref.ensures.value (simp to_z-of_z at c.in_ok-push_multiples.ensures) c.new-scaled.ensures.items (simp to_z-of_z at c.merged.ensures) in
    record { sum = sum; rising = all_sums_rise c.args.left_times c.args.left.now c.args.right_times c.args.right.now c.merged.result c.requires.left c.requires.right sum }
