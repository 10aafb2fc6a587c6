use Rattle.std.proofs.Common.{subst}
use Rattle.logic_outline.specs.Readings.{IsRead}
use Rattle.logic_outline.specs.inner.Parts.{IsSum, sum_text}
use Rattle.logic_outline.proofs.FormLemmas.{form_none, form_read}
use Rattle.logic_outline.proofs.forms.form.Goals as goal

pub returns-in-Some : goal.returns-in-Some
returns-in-Some c =
    rw c.and_rest.ensures
    (form_read c.args.bytes.now (c.in-Some.sum, c.in-Some.rest) c.form_of_sum.result (subst (IsRead sum_text IsSum c.args.bytes.now) c.in-Some.is c.in_ok-sum.ensures) c.form_of_sum.ensures)

pub returns-in-None : goal.returns-in-None
returns-in-None c = form_none c.args.bytes.now (subst (IsRead sum_text IsSum c.args.bytes.now) c.in-None.is c.in_ok-sum.ensures)
