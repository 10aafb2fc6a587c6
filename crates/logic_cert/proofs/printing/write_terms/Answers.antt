use Rattle.std.proofs.Common.{rules, refl, pos, get_or}
use Rattle.std.proofs.lemmas.Int.{to_z-of_z}
use mir.Syntax.{w128}
use mir.Val.{SFits}
use Rattle.base_io.proofs.Rows.{row_stopped}
use Rattle.logic_linear.specs.declared.form.Term.{Term}
use Rattle.logic_cert.specs.CertText.{term_text}
use Rattle.logic_cert.proofs.TextLemmas.{same_default}
use Rattle.logic_cert.proofs.printing.write_terms.Goals as goal

abbrev no_term : Term
no_term = record { place = 0; times = pos 0 }

pub returns-in_err-write_multiple : goal.returns-in_err-write_multiple
returns-in_err-write_multiple g c =
    let fits : SFits w128 (get_or c.args.terms.now c.loop-term.term-index no_term).times = search rules in
    row_stopped term_text c.args.terms.now c.loop-term.term-index (get_or c.args.terms.now c.loop-term.term-index no_term) _ _ c.loop-term-test.true
    (same_default c.args.terms.now c.loop-term.term-index no_term c.loop-term-test.true) refl c.from_residual.ensures.0 c.loop-term.invariant (simp to_z-of_z at c.in_err-write_multiple.ensures)
