use Rattle.std.proofs.Common.{rules}
use Rattle.std.specs.Int.{w128}
use Rattle.std.specs.Int.RustNames.{FitsSigned}
use Rattle.std.proofs.lemmas.Int.{to_z-of_z}
use Rattle.logic_outline.proofs.FormLemmas.{term_none, term_some}
use Rattle.logic_outline.proofs.forms.term.Goals as goal

pub returns-in_err-place : goal.returns-in_err-place
returns-in_err-place c = rw c.from_residual.ensures (term_none c.args.bytes.now c.in_err-place.ensures)

pub returns : goal.returns
returns c =
    let one : FitsSigned w128 c.in_ok-place.times = search rules in
    rw (to_z-of_z w128 c.in_ok-place.times one) (term_some c.args.bytes.now ((c.in_ok-place.place, c.in_ok-place.times), c.in_ok-place.rest) c.in_ok-place.ensures)
