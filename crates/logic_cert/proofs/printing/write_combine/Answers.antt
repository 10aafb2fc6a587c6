use Rattle.std.proofs.Common.{rules}
use Rattle.std.proofs.lemmas.Int.{to_z-of_z}
use mir.Syntax.{w128}
use mir.Val.{SFits}
use Rattle.base_io.proofs.Writing.{wrote_both, wrote_fails, wrote_longer}
use Rattle.logic_cert.specs.CertText.{multiple_text}
use Rattle.logic_cert.proofs.printing.write_combine.Goals as goal

pub returns-in_err-write_multiple : goal.returns-in_err-write_multiple
returns-in_err-write_multiple g c =
    let l : SFits w128 c.args.combine.left_times = search rules in
    wrote_fails _ c.from_residual.ensures.0 (wrote_longer (multiple_text c.args.combine.right c.args.combine.right_times) (simp to_z-of_z at c.in_err-write_multiple.ensures))

pub returns : goal.returns
returns g c =
    let l : SFits w128 c.args.combine.left_times = search rules in
    let r : SFits w128 c.args.combine.right_times = search rules in
    wrote_both (simp to_z-of_z at c.in_ok-write_multiple.ensures) (simp to_z-of_z at c.write_multiple-2.ensures)
