use Rattle.threads_queue.proofs.Steps.{gives}
use Rattle.threads_queue.proofs.line.try_put.Goals as goal

pub try_push_as-requires-clause-rule : goal.try_push_as-requires-clause-rule
try_push_as-requires-clause-rule c = gives _ _ _ _ c.requires.live c.requires.has
