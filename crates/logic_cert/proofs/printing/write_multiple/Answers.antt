use Rattle.std.proofs.lemmas.Int.{to_z-of_z}
use mir.Syntax.{w128}
use mir.Val.{SFits}
use Rattle.base_io.proofs.Writing.{wrote_both, wrote_fails, wrote_longer}
use Rattle.logic_cert.proofs.printing.write_multiple.Goals as goal

pub returns-in_err-write_number : goal.returns-in_err-write_number
returns-in_err-write_number g c = wrote_fails _ c.from_residual.ensures.0 (wrote_longer _ c.in_err-write_number.ensures)

pub returns : goal.returns
returns g c =
    let f : SFits w128 c.args.times = c.ranges.times in
    wrote_both c.in_ok-write_number.ensures (simp to_z-of_z at c.write_number-2.ensures)
