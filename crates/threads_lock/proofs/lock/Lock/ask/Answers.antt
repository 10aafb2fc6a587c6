use Rattle.std.proofs.Common.{sym, subst}
use Rattle.threads_lock.specs.inner.Lending.{IsLent}
use Rattle.threads_lock.proofs.Waiters.{back_unused}
use Rattle.threads_lock.proofs.lock.Lock.ask.Goals as goal

pub post-requires : goal.post-requires
post-requires g c = record { asks = subst (λ k. IsLent k c.args.lent) (sym c.cell-cell.ensures.about) c.requires.lent }

pub stay-requires : goal.stay-requires
stay-requires g c = record { mail = (c.args.lent, c.in-Ok.ensures.posted) }

pub returns-in-Ok : goal.returns-in-Ok
returns-in-Ok g c = record { returned = c.stay.ensures.returned c.args.lent c.in-Ok.ensures.posted }

pub returns-in-Err : goal.returns-in-Err
returns-in-Err g c = record { returned = back_unused _ _ _ c.in-Err.ensures.posted.0 c.unused.ensures.0 c.unused.ensures.1 }
