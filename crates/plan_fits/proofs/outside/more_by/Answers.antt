use Rattle.std.proofs.Common.{sym, subst, ◌∙◌}
use Rattle.logic_linear.specs.Linear.{IsLinear}
use Rattle.plan_fits.proofs.MadeQuestions.{more_linear, room_of, sum_read}
use Rattle.plan_fits.proofs.outside.more_by.Goals as goal

pub of-requires : goal.of-requires
of-requires c =
    subst IsLinear (λ i. record {
      terms = sym (c.in_ok-terms.ensures.items ∙ c.terms.ensures.terms) i;
      constant = sym (sum_read c.constant-constant.result c.args.form.now.constant c.args.number c.constant-constant.ensures.constant (room_of c.args.form.now c.requires.room) c.requires.number) i;
    }) (more_linear c.args.form.now c.args.number c.terms.ensures.rule c.requires.room c.requires.number)

pub returns : goal.returns
returns c = λ i. record {
  terms = (c.of.ensures.terms ∙ (c.in_ok-terms.ensures.items ∙ c.terms.ensures.terms)) i;
  constant = (c.of.ensures.constant ∙ sum_read c.constant-constant.result c.args.form.now.constant c.args.number c.constant-constant.ensures.constant (room_of c.args.form.now c.requires.room) c.requires.number) i;
}
