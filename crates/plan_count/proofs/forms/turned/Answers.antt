use Rattle.std.proofs.Common.{map, sym, ap, subst, ◌∙◌}
use Rattle.logic_linear.specs.Linear.{IsLinear}
use Rattle.logic_linear.specs.Negation.{negative_term}
use Rattle.plan_count.proofs.TiedForms.{turned_is, turned_linear, turned_read}
use Rattle.plan_count.proofs.forms.turned.Goals as goal

pub of-requires : goal.of-requires
of-requires c =
    subst IsLinear (λ i. record {
      terms = sym (c.in_ok-terms.ensures ∙ ap (map negative_term) c.terms.ensures.terms) i;
      constant = sym (turned_read c.constant.result c.args.form.now.constant c.constant.ensures.constant c.requires.constant) i;
    }) (turned_linear c.args.form.now c.terms.ensures.rule c.requires)

pub returns : goal.returns
returns c =
    (λ i. record {
      terms = (c.of.ensures.terms ∙ (c.in_ok-terms.ensures ∙ ap (map negative_term) c.terms.ensures.terms)) i;
      constant = (c.of.ensures.constant ∙ turned_read c.constant.result c.args.form.now.constant c.constant.ensures.constant c.requires.constant) i;
    }) ∙ sym (turned_is c.args.form.now c.terms.ensures.rule c.requires)
