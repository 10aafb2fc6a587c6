use Rattle.std.proofs.Common.{rules}
use Rattle.std.specs.Int.{w128}
use Rattle.std.proofs.lemmas.Int.{to_z-of_z}
use Rattle.std.specs.Int.RustNames.{FitsSigned}
use Rattle.logic_cert.specs.CertText.{combine_text}
use Rattle.logic_outline.specs.Outlines.{IsCombine}
use Rattle.logic_outline.specs.inner.Parts.{IsPair, pair_text}
use Rattle.logic_outline.proofs.Readings.{first_fails, joined, second_fails}
use Rattle.logic_outline.proofs.NodeParts.{combine_joins}
use Rattle.logic_outline.proofs.reading.combine.Goals as goal

pub returns-in_err-left : goal.returns-in_err-left
returns-in_err-left c = rw c.from_residual.ensures (first_fails pair_text IsPair pair_text (λ pair. IsPair) combine_text IsCombine combine_joins c.args.bytes.now c.in_err-left.ensures)

pub returns-in_err-right : goal.returns-in_err-right
returns-in_err-right c = rw c.from_residual-in_err-right.ensures (second_fails pair_text IsPair pair_text (λ pair. IsPair) combine_text IsCombine combine_joins c.args.bytes.now ((c.in_ok-left.left, c.in_ok-left.left_times), c.in_ok-left.rest) c.in_ok-left.ensures c.in_err-right.ensures)

pub returns : goal.returns
returns c =
    let one : FitsSigned w128 c.in_ok-left.left_times = search rules in
    let other : FitsSigned w128 c.in_ok-right.right_times = search rules in
    rw (to_z-of_z w128 c.in_ok-left.left_times one, to_z-of_z w128 c.in_ok-right.right_times other) (joined pair_text IsPair pair_text (λ pair. IsPair) combine_text IsCombine combine_joins c.args.bytes.now ((c.in_ok-left.left, c.in_ok-left.left_times), c.in_ok-left.rest) ((c.in_ok-right.right, c.in_ok-right.right_times), c.in_ok-right.rest) c.in_ok-left.ensures c.in_ok-right.ensures)
