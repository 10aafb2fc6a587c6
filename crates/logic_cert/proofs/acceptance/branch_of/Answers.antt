use Rattle.logic_cert.proofs.BranchLemmas.{branch_made}
use Rattle.logic_cert.proofs.acceptance.branch_of.Goals as goal

pub returns-clause-answer : goal.returns-clause-answer
returns-clause-answer c = branch_made c.args.todo.now c.in_ok-formulas.formulas.items c.push.new.self.items c.args.first c.args.literals.now c.in_ok-literals.literals.items c.args.cert.now c.in_ok-formulas.ensures.items c.in_ok-push.ensures.items c.in_ok-literals.ensures
