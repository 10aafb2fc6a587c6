use Rattle.plan_candidates.proofs.PoolNumbers.{all_put, any_put}
use Rattle.plan_candidates.proofs.bounds.+push_of_formula.Goals as goal

pub push_of_formula-returns-in_ok-push_of_parts-in-All : goal.push_of_formula-returns-in_ok-push_of_parts-in-All
push_of_formula-returns-in_ok-push_of_parts-in-All t c =
    all_put c.args.field c.args.numbers.now.items c.push_of_parts.new.numbers.items c.args.formula.now c.in-All.parts c.items.result.now c.in-All.is c.items.ensures c.in_ok-push_of_parts-in-All.ensures

pub push_of_formula-returns-in_ok-push_of_parts-in-Any : goal.push_of_formula-returns-in_ok-push_of_parts-in-Any
push_of_formula-returns-in_ok-push_of_parts-in-Any t c =
    any_put c.args.field c.args.numbers.now.items c.push_of_parts-in-Any.new.numbers.items c.args.formula.now c.in-Any.parts c.items-in-Any.result.now c.in-Any.is c.items-in-Any.ensures c.in_ok-push_of_parts-in-Any.ensures
