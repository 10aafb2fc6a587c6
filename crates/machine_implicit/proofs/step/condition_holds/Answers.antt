use Rattle.machine_implicit.proofs.Alone.{read_condition_fits, read_condition_truth}
use Rattle.machine_implicit.proofs.step.condition_holds.Goals as goal

pub formula_truth-requires-clause-fits : goal.formula_truth-requires-clause-fits
formula_truth-requires-clause-fits c =
    read_condition_fits c.args.monitor.now c.args.condition c.conditions.result.now c.index-conditions-condition.result c.args.state.now c.values.result.now
    c.conditions.ensures.rule c.conditions.ensures.conditions c.values.ensures.values c.index-conditions-condition.is c.requires.range c.requires.alone c.requires.state

pub returns : goal.returns
returns c =
    read_condition_truth c.args.monitor.now c.args.condition c.conditions.result.now c.index-conditions-condition.result c.args.state.now c.values.result.now
    c.formula_truth.result c.conditions.ensures.conditions c.values.ensures.values c.requires.alone c.formula_truth.ensures
