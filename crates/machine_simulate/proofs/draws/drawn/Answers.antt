use Rattle.std.proofs.Common.{rules}
use Rattle.machine_simulate.specs.Schedules.{generator_of}
use Rattle.machine_simulate.specs.inner.Turns.{drawing}
use Rattle.machine_simulate.proofs.Turning.{turn_falls, drawn_more, drawn_ends}
use Rattle.machine_simulate.proofs.draws.drawn.Goals as goal

pub loop-draws-smaller : goal.loop-draws-smaller
loop-draws-smaller c = turn_falls (drawing c.loop-draws.free c.loop-draws.draws) (drawing c.turn.new.free c.turn.new.draws) c.turn.ensures.turn c.turn.ensures.always

pub loop-draws-preserved : goal.loop-draws-preserved
loop-draws-preserved c =
    drawn_more (record { machine = c.args.free.now; generator = generator_of c.args.seed; left = c.args.spurious }) c.loop-draws.free c.turn.new.free c.loop-draws.draws c.turn.new.draws
    c.loop-draws.invariant (search rules) c.turn.ensures.turn

pub returns-clause-drawn : goal.returns-clause-drawn
returns-clause-drawn c =
    drawn_ends (record { machine = c.args.free.now; generator = generator_of c.args.seed; left = c.args.spurious }) c.loop-draws.free c.loop-draws.draws c.loop-draws.invariant (search rules)
