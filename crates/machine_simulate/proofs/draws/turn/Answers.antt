use Rattle.std.proofs.Common.{rules}
use Rattle.machine_simulate.proofs.Closing.{some_ready_where_open}
use Rattle.machine_simulate.proofs.Turning.{turn_wakes, turn_acts}
use Rattle.machine_simulate.proofs.draws.turn.Goals as goal

pub picked-client-requires-else-wakes : goal.picked-client-requires-else-wakes
picked-client-requires-else-wakes c = some_ready_where_open c.args.free.now c.requires.always c.requires.open

pub returns-then-wakes-clause-turn : goal.returns-then-wakes-clause-turn
returns-then-wakes-clause-turn c =
    turn_wakes c.args.free.now c.wake.new.free c.args.draws.now c.next_word-word.result c.next_word.result c.picked-client.result c.next_word-word.new.self c.next_word.new.self
    c.next_word-word.ensures (search rules) c.next_word.ensures c.picked-client.ensures.at c.wake.ensures.wakes

pub returns-else-wakes-clause-turn : goal.returns-else-wakes-clause-turn
returns-else-wakes-clause-turn c =
    turn_acts c.args.free.now c.act.new.free c.args.draws.now c.next_word-word.result c.picked-client-else-wakes.result c.next_word-word.new.self
    c.next_word-word.ensures (search rules) c.picked-client-else-wakes.ensures.at c.act.ensures.acts
