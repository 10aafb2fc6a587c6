use Rattle.threads_queue.proofs.Steps.{takes, stands}
use Rattle.threads_queue.proofs.line.take.Goals as goal

pub pop_as-requires-clause-rule : goal.pop_as-requires-clause-rule
pop_as-requires-clause-rule g c = (takes _ _ c.requires.live, stands _ _)
