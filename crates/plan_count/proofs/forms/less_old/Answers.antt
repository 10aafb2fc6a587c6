use Rattle.std.proofs.Common.{◌≡◌, ◌++◌, ◌∷◌, [], not, sym, ap, subst, ◌∙◌}
use Rattle.logic_linear.specs.Linear.{IsLinear}
use Rattle.machine_events.specs.CountClaims.{is_turned}
use Rattle.plan_count.specs.inner.Rows.{last_term, old_number}
use Rattle.plan_count.proofs.TiedForms.{less_old_is, less_old_linear, read_is}
use Rattle.plan_count.proofs.forms.less_old.Goals as goal
use Rattle.plan_count.proofs.forms.less_old.Goals.{After-constant}

terms_are : (c : After-constant) → c.push.new.self.items ≡ c.args.form.now.terms ++ last_term (old_number (not (is_turned c.args.form.now.terms))) ∷ []
terms_are c =
    c.in_ok-push.ensures.items
    ∙ (λ i. (c.in_ok-terms.ensures.items ∙ c.terms.ensures.terms) i ++ (c.old_term.ensures ∙ ap (λ turned. last_term (old_number (not turned))) c.is_turned.ensures) i ∷ [])

pub of-requires : goal.of-requires
of-requires c =
    subst IsLinear (λ i. record {
      terms = sym (terms_are c) i;
      constant = sym (read_is c.constant.result c.args.form.now.constant c.constant.ensures.constant c.requires.constant) i;
    }) (less_old_linear c.args.form.now (not (is_turned c.args.form.now.terms)) c.terms.ensures.rule c.requires)

pub returns : goal.returns
returns c =
    (λ i. record {
      terms = (c.of.ensures.terms ∙ terms_are (goal.at.returns c).After-constant) i;
      constant = (c.of.ensures.constant ∙ read_is c.constant.result c.args.form.now.constant c.constant.ensures.constant c.requires.constant) i;
    }) ∙ sym (less_old_is c.args.form.now c.terms.ensures.rule c.requires)
