use Rattle.std.proofs.Common.{sym, ◌∙◌, rules}
use Rattle.std.proofs.lemmas.Int.{to_z-of_z}
use mir.Syntax.{w128}
use mir.Val.{SFits}
use Rattle.logic_cert.proofs.RowLemmas.{constants_misfit, rises_too, row_fits, terms_misfit}
use Rattle.logic_cert.proofs.rows.sum_of_rows.Goals as goal

pub returns-in_default : goal.returns-in_default
returns-in_default c =
    let l : SFits w128 c.args.combine.left_times = search rules in
    let r : SFits w128 c.args.combine.right_times = search rules in
    let m : SFits w128 c.constant.result = search rules in
    let n : SFits w128 c.constant-2.result = search rules in
    constants_misfit c.args.combine c.args.left.now c.args.right.now c.constant.result c.constant-2.result c.constant.ensures c.constant-2.ensures (simp to_z-of_z at c.in_default.ensures)

pub combined_terms-requires-clause-left : goal.combined_terms-requires-clause-left
combined_terms-requires-clause-left c = rises_too c.args.left.now.terms c.terms.result.now c.terms.ensures.terms c.terms.ensures.rule

pub combined_terms-requires-clause-right : goal.combined_terms-requires-clause-right
combined_terms-requires-clause-right c = rises_too c.args.right.now.terms c.terms-2.result.now c.terms-2.ensures.terms c.terms-2.ensures.rule

pub returns-in-None : goal.returns-in-None
returns-in-None c =
    let l : SFits w128 c.args.combine.left_times = search rules in
    let r : SFits w128 c.args.combine.right_times = search rules in
    terms_misfit c.args.combine c.args.left.now c.args.right.now c.terms.result.now c.terms-2.result.now c.terms.ensures.terms c.terms-2.ensures.terms (sym c.in-None.is ∙ simp to_z-of_z at c.in_ok-combined_terms.ensures.sum)

pub returns-in-Some-2 : goal.returns-in-Some-2
returns-in-Some-2 c =
    let l : SFits w128 c.args.combine.left_times = search rules in
    let r : SFits w128 c.args.combine.right_times = search rules in
    let m : SFits w128 c.constant.result = search rules in
    let n : SFits w128 c.constant-2.result = search rules in
    let o : SFits w128 c.in-Some.constant = search rules in
    row_fits c.args.combine c.args.left.now c.args.right.now c.of.result c.terms.result.now c.terms-2.result.now c.in-Some-2.terms c.constant.result c.constant-2.result c.in-Some.constant
    (sym c.are_factors.ensures ∙ c.if-not-are_factors.false) c.constant.ensures c.constant-2.ensures (simp to_z-of_z at c.in-Some.ensures) c.terms.ensures.terms c.terms-2.ensures.terms
    (sym c.in-Some-2.is ∙ simp to_z-of_z at c.in_ok-combined_terms.ensures.sum) c.of.ensures.terms (simp to_z-of_z at c.of.ensures.constant)
