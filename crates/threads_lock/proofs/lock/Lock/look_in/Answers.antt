use Rattle.threads_lock.proofs.Waiters.{back_unused}
use Rattle.threads_lock.proofs.lock.Lock.look_in.Goals as goal

pub returns-in-Ok : goal.returns-in-Ok
returns-in-Ok c = record { looked = λ lent is. (c.in-Ok.ensures.told lent is).0 }

pub returns-then-peek-ticket : goal.returns-then-peek-ticket
returns-then-peek-ticket c = record { looked = λ lent is. (c.in-Err.ensures.told lent is).0 }

pub withdraw-requires : goal.withdraw-requires
withdraw-requires c = let m = c.requires.mail in record { mail = (m.0, (c.in-Err.ensures.told m.0 m.1).0) }

pub returns-in-Ok-withdraw : goal.returns-in-Ok-withdraw
returns-in-Ok-withdraw c = record {
  looked = λ lent is. back_unused lent _ _ (c.in-Ok-withdraw.ensures.back lent (c.in-Err.ensures.told lent is).0).0 c.unused.ensures.0 c.unused.ensures.1;
}

pub returns-in-Err-withdraw : goal.returns-in-Err-withdraw
returns-in-Err-withdraw c = record { looked = λ lent is. (c.in-Err-withdraw.ensures.back lent (c.in-Err.ensures.told lent is).0).0 }
