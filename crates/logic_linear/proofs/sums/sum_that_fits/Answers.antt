use Rattle.std.proofs.Common.{refl, ◌+ℤ◌, ◌*ℤ◌}
use Rattle.std.proofs.lemmas.Int.{to_z-of_z}
use mir.Syntax.{w128}
use mir.Val.{SFits}
use Rattle.logic_linear.proofs.MergeLemmas.{fits_answer, signed_fits}
use Rattle.logic_linear.proofs.sums.sum_that_fits.Goals as goal

pub returns : goal.returns
returns c =
    let n : SFits w128 c.args.number = c.ranges.number in
    let f : SFits w128 c.args.factor = c.ranges.factor in
    let o : SFits w128 c.args.other = c.ranges.other in
    let p : SFits w128 (c.args.factor *ℤ c.args.other) = signed_fits (c.args.factor *ℤ c.args.other) c.requires in
    fits_answer c.checked_add.result (c.args.number +ℤ c.args.factor *ℤ c.args.other) (c.args.number +ℤ c.args.factor *ℤ c.args.other) (simp to_z-of_z at c.checked_add.ensures) refl
