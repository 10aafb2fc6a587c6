use Rattle.std.proofs.Common.{subst}
use Rattle.logic_outline.specs.Outlines.{IsForm}
use Rattle.logic_outline.specs.Readings.{IsRead}
use Rattle.logic_outline.specs.inner.Parts.{later_form}
use Rattle.logic_outline.proofs.FormLemmas.{sides_none, sides_read}
use Rattle.logic_outline.proofs.forms.sides.Goals as goal

pub returns-in-Some : goal.returns-in-Some
returns-in-Some c =
    rw c.form_and.ensures
    (sides_read c.args.bytes.now (c.in-Some.form, c.in-Some.rest) c.after.result (subst (IsRead later_form IsForm c.args.bytes.now) c.in-Some.is c.in_ok-form.ensures) c.after.ensures)

pub returns-in-None : goal.returns-in-None
returns-in-None c = sides_none c.args.bytes.now (subst (IsRead later_form IsForm c.args.bytes.now) c.in-None.is c.in_ok-form.ensures)
