use Rattle.std.proofs.Common.{arith, map, ap, ◌∙◌}
use Rattle.std.proofs.lemmas.Int.{ints}
use Rattle.logic_linear.specs.Negation.{negative_term}
use Rattle.logic_linear.proofs.LinearLemmas.{one_less_is_linear}
use Rattle.logic_linear.proofs.form.Lin.one_less.Goals as goal

pub of-requires : goal.of-requires
of-requires c =
    let rule = c.terms.ensures.rule in
    one_less_is_linear c.args.self.now _ _ rule c.requires (c.in_ok-terms.ensures ∙ ap (map negative_term) c.terms.ensures.terms) (let above = rule.above in let below = rule.below in omega (arith, ints, c.constant.ensures.constant))
