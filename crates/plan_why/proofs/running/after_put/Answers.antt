use Rattle.logic_solve.specs.Solutions.{valuation_of}
use Rattle.plan_why.proofs.Wide.{wide_number, wide_truth}
use Rattle.plan_why.proofs.running.after_put.Goals as goal

pub returns-in-None : goal.returns-in-None
returns-in-None c = wide_number c.args.put.now c.in-Number.place c.in-Number.form (valuation_of c.args.at.now) c.in-Number.is c.in-None.ensures

pub returns-in-None-formula_truth : goal.returns-in-None-formula_truth
returns-in-None-formula_truth c = wide_truth c.args.put.now c.in-Truth.place c.in-Truth.is' (valuation_of c.args.at.now) c.in-Truth.is c.in-None-formula_truth.ensures
