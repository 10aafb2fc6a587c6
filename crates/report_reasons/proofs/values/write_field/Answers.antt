use Rattle.std.proofs.Common.{ℕ, List, ◌++◌, ap, codes}
use Rattle.base_io.proofs.Writing.{wrote_both, wrote_same}
use Rattle.logic_solve.specs.Solutions.{valuation_of}
use Rattle.report_reasons.specs.ReasonText.{named_text}
use Rattle.report_reasons.proofs.values.write_field.Goals as goal

pub returns : goal.returns
returns g c =
    wrote_same _ (ap (λ (name : List ℕ). codes " " ++ named_text (valuation_of c.args.at.now) name c.args.field.now.kind c.args.number) c.bytes.ensures) (wrote_both c.in_ok-write_piece.ensures c.write_named.ensures)
