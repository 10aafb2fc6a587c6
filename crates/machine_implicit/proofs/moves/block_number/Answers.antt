use Rattle.std.proofs.Common.{arith}
use Rattle.machine_implicit.proofs.Fitting.{block_number_is, block_small, block_inputs}
use Rattle.machine_implicit.proofs.moves.block_number.Goals as goal

pub overflow_add-result : goal.overflow_add-result
overflow_add-result c =
    let small = block_small c.args.monitor.now c.args.call.now c.args.place.now c.method_of.result.now c.method_of.ensures.rule c.method_of.ensures.method c.requires.place in
    omega (arith, small)

pub returns-clause-number : goal.returns-clause-number
returns-clause-number c = block_number_is c.args.monitor.now c.args.call.now c.args.place.now c.method_of.result.now c.method_of.ensures.method

pub returns-clause-fits : goal.returns-clause-fits
returns-clause-fits c = block_inputs c.args.monitor.now c.args.call.now c.args.place.now c.method_of.result.now c.method_of.ensures.rule c.requires.call c.method_of.ensures.method c.requires.place

pub returns-clause-few : goal.returns-clause-few
returns-clause-few c =
    (block_small c.args.monitor.now c.args.call.now c.args.place.now c.method_of.result.now c.method_of.ensures.rule c.method_of.ensures.method c.requires.place).1
