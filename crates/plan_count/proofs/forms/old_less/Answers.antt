use Rattle.std.proofs.Common.{◌≡◌, ◌++◌, ◌∷◌, [], map, sym, ap, subst, ◌∙◌}
use Rattle.logic_linear.specs.Linear.{IsLinear}
use Rattle.logic_linear.specs.Negation.{negative_term}
use Rattle.machine_events.specs.CountClaims.{is_turned}
use Rattle.plan_count.specs.inner.Rows.{last_term, old_number}
use Rattle.plan_count.proofs.TiedForms.{less_read, old_less_is, old_less_linear}
use Rattle.plan_count.proofs.forms.old_less.Goals as goal
use Rattle.plan_count.proofs.forms.old_less.Goals.{After-constant}

terms_are : (c : After-constant) → c.push.new.self.items ≡ map negative_term c.args.form.now.terms ++ last_term (old_number (is_turned c.args.form.now.terms)) ∷ []
terms_are c =
    c.in_ok-push.ensures.items
    ∙ (λ i. (c.in_ok-terms.ensures ∙ ap (map negative_term) c.terms.ensures.terms) i ++ (c.old_term.ensures ∙ ap (λ turned. last_term (old_number turned)) c.is_turned.ensures) i ∷ [])

pub of-requires : goal.of-requires
of-requires c =
    subst IsLinear (λ i. record {
      terms = sym (terms_are c) i;
      constant = sym (less_read c.args.more c.constant.result c.args.form.now.constant c.requires.more c.constant.ensures.constant c.requires.form.constant) i;
    }) (old_less_linear c.args.form.now (is_turned c.args.form.now.terms) c.args.more c.terms.ensures.rule c.requires.form c.requires.more)

pub returns : goal.returns
returns c =
    (λ i. record {
      terms = (c.of.ensures.terms ∙ terms_are (goal.at.returns c).After-constant) i;
      constant = (c.of.ensures.constant ∙ less_read c.args.more c.constant.result c.args.form.now.constant c.requires.more c.constant.ensures.constant c.requires.form.constant) i;
    }) ∙ sym (old_less_is c.args.form.now c.args.more c.terms.ensures.rule c.requires.form)
