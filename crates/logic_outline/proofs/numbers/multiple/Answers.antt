use Rattle.std.proofs.Common.{rules, ◌^◌}
use Rattle.std.specs.Int.{w128}
use Rattle.std.specs.Int.RustNames.{FitsSigned}
use Rattle.std.proofs.lemmas.Int.{to_z-of_z}
use Rattle.logic_outline.specs.Outlines.{IsFactor}
use Rattle.logic_outline.specs.inner.Parts.{IsBelow, IsPair, later_factor, later_number, pair_text}
use Rattle.logic_outline.proofs.Readings.{first_fails, joined, second_fails}
use Rattle.logic_outline.proofs.NodeParts.{pair_joins}
use Rattle.logic_outline.proofs.numbers.multiple.Goals as goal

pub returns-in_err-row : goal.returns-in_err-row
returns-in_err-row c = rw c.from_residual.ensures (first_fails later_number (IsBelow (2 ^ 32)) later_factor (λ row. IsFactor) pair_text IsPair pair_joins c.args.bytes.now c.in_err-row.ensures)

pub returns-in_err-times : goal.returns-in_err-times
returns-in_err-times c = rw c.from_residual-in_err-times.ensures (second_fails later_number (IsBelow (2 ^ 32)) later_factor (λ row. IsFactor) pair_text IsPair pair_joins c.args.bytes.now (c.in_ok-row.row, c.in_ok-row.rest) c.in_ok-row.ensures c.in_err-times.ensures)

pub returns : goal.returns
returns c =
    let one : FitsSigned w128 c.in_ok-times.times = search rules in
    rw (to_z-of_z w128 c.in_ok-times.times one) (joined later_number (IsBelow (2 ^ 32)) later_factor (λ row. IsFactor) pair_text IsPair pair_joins c.args.bytes.now (c.in_ok-row.row, c.in_ok-row.rest) (c.in_ok-times.times, c.in_ok-times.rest) c.in_ok-row.ensures c.in_ok-times.ensures)
