use Rattle.threads_lock.proofs.Calling.{count_gives, holding_has, publish_made, publish_turn}
use Rattle.threads_lock.proofs.lock.Lock.make.Goals as goal

pub step-requires-clause-turn : goal.step-requires-clause-turn
step-requires-clause-turn c = holding_has c.args.ticket c.args.seat.now.me c.requires.turn

pub publish-requires-clause-turn : goal.publish-requires-clause-turn
publish-requires-clause-turn c = publish_turn c.args.client c.args.ticket c.args.seat.now.me c.step.new.seat.me c.in-Ok.section c.requires.turn c.in-Ok.ensures.made

pub publish-requires-clause-made : goal.publish-requires-clause-made
publish-requires-clause-made c = publish_made c.args.client c.args.seat.now.me c.step.new.seat.me c.in-Ok.section c.in-Ok.ensures.made

pub returns-in-Ok-clause-turn : goal.returns-in-Ok-clause-turn
returns-in-Ok-clause-turn c = (count_gives c.args.client c.args.ticket c.args.seat.now.me c.step.new.seat.me c.publish.new.seat.me c.in-Ok.section c.requires.turn c.requires.known c.in-Ok.ensures.made c.publish.ensures.told).turn

pub returns-in-Ok-clause-parts : goal.returns-in-Ok-clause-parts
returns-in-Ok-clause-parts c = (count_gives c.args.client c.args.ticket c.args.seat.now.me c.step.new.seat.me c.publish.new.seat.me c.in-Ok.section c.requires.turn c.requires.known c.in-Ok.ensures.made c.publish.ensures.told).parts

pub returns-in-Ok-clause-made : goal.returns-in-Ok-clause-made
returns-in-Ok-clause-made c = (count_gives c.args.client c.args.ticket c.args.seat.now.me c.step.new.seat.me c.publish.new.seat.me c.in-Ok.section c.requires.turn c.requires.known c.in-Ok.ensures.made c.publish.ensures.told).made

pub returns-in-Ok-clause-known : goal.returns-in-Ok-clause-known
returns-in-Ok-clause-known c = (count_gives c.args.client c.args.ticket c.args.seat.now.me c.step.new.seat.me c.publish.new.seat.me c.in-Ok.section c.requires.turn c.requires.known c.in-Ok.ensures.made c.publish.ensures.told).known
