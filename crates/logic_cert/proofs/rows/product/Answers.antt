use Rattle.std.proofs.Common.{◌*ℤ◌}
use Rattle.std.proofs.lemmas.Int.{to_z-of_z}
use mir.Syntax.{w128}
use mir.Val.{SFits}
use Rattle.logic_cert.proofs.RowLemmas.{checked}
use Rattle.logic_cert.proofs.rows.product.Goals as goal

pub returns : goal.returns
returns c =
    let a : SFits w128 c.args.a = c.ranges.a in
    let b : SFits w128 c.args.b = c.ranges.b in
    checked c.checked_mul.result (c.args.a *ℤ c.args.b) (simp to_z-of_z at c.checked_mul.ensures)
