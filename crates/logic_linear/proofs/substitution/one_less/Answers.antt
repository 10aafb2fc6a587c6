use Rattle.std.proofs.Common.{arith, ◌∙◌, sym, rules}
use Rattle.std.proofs.lemmas.Int.{ints}
use mir.Syntax.{w128}
use mir.Val.{SFits}
use Rattle.logic_linear.proofs.ReplacedLemmas.{one_less_made, constant_read}
use Rattle.logic_linear.proofs.substitution.one_less.Goals as goal

pub of-requires : goal.of-requires
of-requires c =
    let f : SFits w128 c.constant-2.result = search rules in
    let g : SFits w128 c.constant.result = search rules in
    let rule = c.constant-2.ensures.rule in
    let above = rule.above in
    let below = rule.below in
    let same = c.constant-2.ensures.constant in
    let first = c.constant.ensures.constant in
    let low = c.if-constant.false in
    rw (constant_read c.constant-2.result (omega (arith, ints)) (omega (arith, ints)))
    (one_less_made c.args.form.now c.terms-2.result.now c.in_ok-terms.terms.items c.constant-2.result rule c.terms-2.ensures.terms c.in_ok-terms.ensures
    (rw c.terms-2.ensures.terms (rw c.terms.ensures.terms at (sym c.are_negatable.ensures ∙ c.if-not-are_negatable.false))) same (omega (arith, ints)))
