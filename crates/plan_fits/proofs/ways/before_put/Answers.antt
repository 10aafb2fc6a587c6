use Rattle.std.proofs.Common.{sym, ◌∙◌}
use Rattle.plan_fits.proofs.MadeQuestions.{number_before}
use Rattle.plan_fits.proofs.ways.before_put.Goals as goal

pub returns-in_ok-any_of-in-Some : goal.returns-in_ok-any_of-in-Some
returns-in_ok-any_of-in-Some c =
    number_before c.args.put.now c.args.later.now c.in-Number.place c.in-Number.form c.in_ok-here-in-Some.here c.in-Some.part c.in_ok-any_of-in-Some.field-0 c.in-Number.is
    (sym c.has_room.ensures ∙ c.if-not-has_room.false)
    (sym c.in-Some.is ∙ c.in_ok-substitute-in-Number.ensures) c.in_ok-here-in-Some.ensures c.in_ok-any_of-in-Some.ensures
