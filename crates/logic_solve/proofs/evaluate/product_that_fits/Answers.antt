use Rattle.std.proofs.Common.{◌*ℤ◌}
use Rattle.std.proofs.lemmas.Int.{to_z-of_z}
use mir.Syntax.{w128}
use mir.Val.{SFits}
use Rattle.logic_solve.proofs.Evaluation.{computed}
use Rattle.logic_solve.proofs.evaluate.product_that_fits.Goals as goal

pub returns : goal.returns
returns c =
    let f : SFits w128 c.args.first = c.ranges.first in
    let s : SFits w128 c.args.second = c.ranges.second in
    computed c.checked_mul.result (c.args.first *ℤ c.args.second) (simp to_z-of_z at c.checked_mul.ensures)
