use Rattle.std.proofs.Common.{sym, subst}
use Rattle.threads_lock.specs.Passes.{IsKnown}
use Rattle.threads_lock.specs.inner.Lending.{IsAnswerTo}
use Rattle.threads_lock.proofs.lock.Lock.finish.Goals as goal

pub returns-clause-told : goal.returns-clause-told
returns-clause-told c = λ before looks. subst (λ k. IsAnswerTo c.args.wish before k c.grant-answer.result) (sym c.unlock.ensures.known) (c.grant-answer.ensures.told before looks)

pub returns-clause-known : goal.returns-clause-known
returns-clause-known c = subst IsKnown (sym c.unlock.ensures.known) c.grant-answer.ensures.known
