use Rattle.std.proofs.Common.{List, subst, ◌∙◌, ℕ}
use Rattle.report_proofs.specs.Fronts.{IsAfter}
use Rattle.report_fits.proofs.reading.after_head.Goals as goal

pub returns : goal.returns
returns c = subst (λ (text : List ℕ). IsAfter c.args.bytes.now text c.after_piece.result) (c.as_slice.ensures.value ∙ c.in_ok-head.ensures) c.after_piece.ensures
