use Rattle.std.proofs.Common.{subst}
use Rattle.threads_lock.specs.inner.Lending.{IsLent}
use Rattle.threads_lock.proofs.lock.Lock.reply.Goals as goal

pub make_for-returned-requires : goal.make_for-returned-requires
make_for-returned-requires c = record { lent = subst (λ k. IsLent k c.args.lent) c.requires.about c.requires.lent }

pub answer-done-requires : goal.answer-done-requires
answer-done-requires c = record { task = (c.args.lent, c.requires.debt, c.make_for-returned.ensures.returned) }
