use Rattle.threads_queue.proofs.Steps.{cuts}
use Rattle.threads_queue.proofs.line.cut.Goals as goal

pub another-requires-clause-rule : goal.another-requires-clause-rule
another-requires-clause-rule c = cuts _ _ c.requires.two
