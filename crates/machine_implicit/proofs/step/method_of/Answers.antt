use Rattle.machine_implicit.proofs.Placed.{few_locals_at}
use Rattle.machine_implicit.proofs.step.method_of.Goals as goal

pub returns-clause-few : goal.returns-clause-few
returns-clause-few c =
    few_locals_at c.args.monitor.now c.methods.result.now c.args.method c.index-methods-method.result c.methods.ensures.rule c.methods.ensures.methods c.index-methods-method.is c.requires
