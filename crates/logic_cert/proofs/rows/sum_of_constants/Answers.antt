use Rattle.std.proofs.Common.{rules}
use Rattle.std.proofs.lemmas.Int.{to_z-of_z}
use mir.Syntax.{w128}
use mir.Val.{SFits}
use Rattle.logic_cert.proofs.RowLemmas.{second_misfits, sum_answers}
use Rattle.logic_cert.proofs.rows.sum_of_constants.Goals as goal

pub returns-in_err-second : goal.returns-in_err-second
returns-in_err-second c =
    let b : SFits w128 c.args.right_times = c.ranges.right_times in
    let r : SFits w128 c.args.right = c.ranges.right in
    second_misfits c.args.left_times c.args.left c.args.right_times c.args.right c.from_residual-in_err-second.result c.from_residual-in_err-second.ensures (simp to_z-of_z at c.in_err-second.ensures)

pub returns : goal.returns
returns c =
    let a : SFits w128 c.args.left_times = c.ranges.left_times in
    let l : SFits w128 c.args.left = c.ranges.left in
    let b : SFits w128 c.args.right_times = c.ranges.right_times in
    let r : SFits w128 c.args.right = c.ranges.right in
    let f : SFits w128 c.in_ok-first.first = search rules in
    let s : SFits w128 c.in_ok-second.second = search rules in
    sum_answers c.args.left_times c.args.left c.args.right_times c.args.right c.in_ok-first.first c.in_ok-second.second c.sum.result
    (simp to_z-of_z at c.in_ok-first.ensures) (simp to_z-of_z at c.in_ok-second.ensures) (simp to_z-of_z at c.sum.ensures)
