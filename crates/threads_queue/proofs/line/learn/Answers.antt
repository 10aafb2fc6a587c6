use Rattle.threads_queue.proofs.Steps.{learns}
use Rattle.threads_queue.proofs.line.learn.Goals as goal

pub learn_as-requires-clause-rule : goal.learn_as-requires-clause-rule
learn_as-requires-clause-rule c = learns _ _ c.requires.live c.requires.all
