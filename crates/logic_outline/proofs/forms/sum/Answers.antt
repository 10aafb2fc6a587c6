use Rattle.std.proofs.Common.{subst}
use Rattle.logic_outline.specs.Readings.{IsRead}
use Rattle.logic_outline.specs.inner.Parts.{IsTerms, terms_text}
use Rattle.logic_outline.proofs.FormLemmas.{sum_none, sum_read}
use Rattle.logic_outline.proofs.forms.sum.Goals as goal

pub returns-in-Some : goal.returns-in-Some
returns-in-Some c =
    rw c.and_constant.ensures
    (sum_read c.args.bytes.now (c.in-Some.terms, c.in-Some.rest) c.times.result (subst (IsRead terms_text IsTerms c.args.bytes.now) c.in-Some.is c.in_ok-terms.ensures) c.times.ensures)

pub returns-in-None : goal.returns-in-None
returns-in-None c = sum_none c.args.bytes.now (subst (IsRead terms_text IsTerms c.args.bytes.now) c.in-None.is c.in_ok-terms.ensures)
