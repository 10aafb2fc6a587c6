use Rattle.threads_queue.proofs.Steps.{joins}
use Rattle.threads_queue.proofs.line.take_in.Goals as goal

pub absorb-requires-clause-rule : goal.absorb-requires-clause-rule
absorb-requires-clause-rule c = joins _ _ _ _ c.requires.live
