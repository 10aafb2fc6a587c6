use Rattle.logic_solve.proofs.SearchLemmas.{row_taken, flag_taken, all_taken, any_taken}
use Rattle.logic_solve.proofs.search.take.Goals as goal

pub returns-in_ok-push-in-Row : goal.returns-in_ok-push-in-Row
returns-in_ok-push-in-Row c =
    row_taken c.args.formula.now c.in-Row.form c.in_ok-clone-in-Row.field-0 c.args.todo.now.items c.args.literals.now.items c.push.new.self.items c.in-Row.is c.in_ok-clone-in-Row.ensures.cases c.in_ok-push-in-Row.ensures.items

pub returns-in_ok-push-in-Flag : goal.returns-in_ok-push-in-Flag
returns-in_ok-push-in-Flag c = flag_taken c.args.formula.now c.in-Flag.place c.in-Flag.is' c.args.todo.now.items c.args.literals.now.items c.push-in-Flag.new.self.items c.in-Flag.is c.in_ok-push-in-Flag.ensures.items

pub returns-in_ok-push-in-All : goal.returns-in_ok-push-in-All
returns-in_ok-push-in-All c = all_taken c.args.formula.now c.in-All.parts c.items.result c.args.todo.now.items c.push-in-All.new.self.items c.args.literals.now.items c.in-All.is c.items.ensures c.in_ok-push-in-All.ensures.items

pub returns-in-Any : goal.returns-in-Any
returns-in-Any c = any_taken c.args.formula.now c.in-Any.parts c.items-in-Any.result.now c.args.todo.now.items c.args.literals.now.items c.in-Any.is c.items-in-Any.ensures
