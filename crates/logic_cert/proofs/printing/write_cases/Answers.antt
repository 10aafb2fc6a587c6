use Rattle.std.proofs.Common.{rules, codes, ◌++◌, refl}
use Rattle.std.specs.Fmt.{signed_decimal}
use Rattle.std.specs.List.{flat_map}
use Rattle.std.proofs.lemmas.Int.{to_z-of_z}
use mir.Syntax.{w128}
use mir.Val.{SFits}
use Rattle.base_io.proofs.Writing.{wrote_both, wrote_fails, wrote_longer, wrote_same}
use Rattle.logic_cert.specs.CertText.{term_text}
use Rattle.logic_cert.proofs.TextLemmas.{cases_start}
use Rattle.logic_cert.proofs.printing.write_cases.Goals as goal

pub returns-in_err-write_word : goal.returns-in_err-write_word
returns-in_err-write_word g c =
    wrote_same _ (cases_start c.args.form.now c.terms.result.now c.args.form.now.terms c.args.form.now.constant c.terms.ensures.terms refl refl)
    (wrote_fails _ c.from_residual.ensures.0 (wrote_longer (codes " " ++ signed_decimal c.args.form.now.constant) (wrote_longer (flat_map term_text c.args.form.now.terms) c.in_err-write_word.ensures)))

pub returns-in_err-write_terms : goal.returns-in_err-write_terms
returns-in_err-write_terms g c =
    wrote_same _ (cases_start c.args.form.now c.terms.result.now c.terms-2.result.now c.args.form.now.constant c.terms.ensures.terms c.terms-2.ensures.terms refl)
    (wrote_fails _ c.from_residual-in_err-write_terms.ensures.0 (wrote_longer (codes " " ++ signed_decimal c.args.form.now.constant) (wrote_both c.in_ok-write_word.ensures c.in_err-write_terms.ensures)))

pub returns : goal.returns
returns g c =
    let fits : SFits w128 c.constant.result = search rules in
    wrote_same _ (cases_start c.args.form.now c.terms.result.now c.terms-2.result.now c.constant.result c.terms.ensures.terms c.terms-2.ensures.terms c.constant.ensures.constant)
    (wrote_both (wrote_both c.in_ok-write_word.ensures c.in_ok-write_terms.ensures) (simp to_z-of_z at c.write_number.ensures))
