use Rattle.std.proofs.Common.{rules}
use Rattle.machine_simulate.proofs.Rounding.{rounds_more, rounds_end}
use Rattle.machine_simulate.proofs.by_rounds.rounds.Goals as goal

pub loop-free-preserved : goal.loop-free-preserved
loop-free-preserved c = rounds_more c.loop-free.asked c.next_actor-client.result c.args.free.now c.loop-free.free c.act.new.free c.loop-free.invariant c.next_actor-client.ensures c.act.ensures.acts

pub returns-clause-rounds : goal.returns-clause-rounds
returns-clause-rounds c = rounds_end c.loop-free.asked c.args.free.now c.loop-free.free c.loop-free.invariant (search rules)
