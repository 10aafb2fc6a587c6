use Rattle.threads_queue.proofs.Steps.{counts}
use Rattle.threads_queue.proofs.line.count_empty.Goals as goal

pub another-spent-requires-clause-rule : goal.another-spent-requires-clause-rule
another-spent-requires-clause-rule c = counts _ _ c.requires.live
