use Rattle.threads_queue.proofs.Steps.{gives, fits}
use Rattle.threads_queue.proofs.line.put.Goals as goal

pub push_as-requires-clause-rule : goal.push_as-requires-clause-rule
push_as-requires-clause-rule g c = (gives _ _ _ _ c.requires.live c.requires.has, fits _ _ c.requires.live)
