use Rattle.threads_call.proofs.attempt.end_with.Goals as goal

pub returns-clause-ends : goal.returns-clause-ends
returns-clause-ends g c = λ client before is. c.tell_last.ensures.replied client before c.args.receipt is
