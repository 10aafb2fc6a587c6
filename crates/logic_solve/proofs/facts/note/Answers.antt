use Rattle.std.proofs.Common.{sym, ◌∙◌}
use Rattle.logic_solve.proofs.NotedLemmas.{flag_known}
use Rattle.logic_solve.proofs.facts.note.Goals as goal

pub returns-then-is_noted : goal.returns-then-is_noted
returns-then-is_noted c =
    flag_known c.args.number c.args.literal.now c.in-Flag.place c.in-Flag.is' c.args.facts.now.literals.items c.as_slice.result.now c.args.facts.now.numbers.items _
    c.in-Flag.is c.as_slice.ensures.value (sym c.is_noted.ensures ∙ c.if-is_noted.true)
