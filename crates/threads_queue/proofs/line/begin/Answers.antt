use Rattle.std.proofs.Common.{arith}
use Rattle.threads_queue.proofs.Steps.{begins}
use Rattle.threads_queue.proofs.line.begin.Goals as goal

pub another-spent-requires-clause-rule : goal.another-spent-requires-clause-rule
another-spent-requires-clause-rule g c = begins _ _ _ _ c.requires.new (let e = c.requires.picked.1 in let some_pass = c.requires.some_pass in omega arith)
