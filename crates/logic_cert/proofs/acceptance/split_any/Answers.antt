use Rattle.logic_cert.proofs.BranchLemmas.{not_paused, replaced_so, split_there}
use Rattle.logic_cert.proofs.acceptance.split_any.Goals as goal

pub returns-in-None-parts_of-clause-answer : goal.returns-in-None-parts_of-clause-answer
returns-in-None-parts_of-clause-answer c = absurd (not_paused c.args.branch.todo.items c.pop.new.self.items c.in-Some.any c.in-Some.ensures.items c.in-None-parts_of.ensures c.requires)

pub returns-clause-answer : goal.returns-clause-answer
returns-clause-answer c =
    replaced_so _ _ c.args.branches.now c.split.new.branches c.split.result
    (split_there c.args.branch.todo.items c.pop.new.self.items c.in-Some.any c.in-Some-parts_of.parts.now c.args.branch.literals.items c.args.certs.now c.in-Some.ensures.items c.in-Some-parts_of.ensures)
    c.split.ensures.answer
