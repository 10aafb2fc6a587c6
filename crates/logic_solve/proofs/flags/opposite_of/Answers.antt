use Rattle.std.proofs.Common.{sym, ◌∙◌}
use Rattle.logic_solve.proofs.FlagLemmas.{row_clear, flag_known, flag_noted}
use Rattle.logic_solve.proofs.flags.opposite_of.Goals as goal

pub returns-in-Row : goal.returns-in-Row
returns-in-Row c = row_clear c.args.literals.now c.args.literal.now c.in-Row.field-0 c.args.clear.now c.in-Row.is

pub returns-then-is_clear : goal.returns-then-is_clear
returns-then-is_clear c =
    flag_known c.args.literals.now c.args.literal.now c.in-Flag.place c.in-Flag.is' c.args.clear.now c.as_slice.result.now c.in-Flag.is c.as_slice.ensures.value (sym c.is_clear.ensures ∙ c.if-is_clear.true)

pub returns-in_ok-push-in-Flag : goal.returns-in_ok-push-in-Flag
returns-in_ok-push-in-Flag c =
    flag_noted c.args.literals.now c.args.literal.now c.in-Flag.place c.in-Flag.is' c.args.clear.now c.push.new.self c.in-Flag.is c.in_default.ensures c.in_ok-push-in-Flag.ensures.items
