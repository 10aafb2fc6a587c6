use Rattle.threads_desk.specs.Letters.{IsMailOf}
use Rattle.threads_lock.specs.declared.lent.Lent.{Lent}
use Rattle.threads_lock.proofs.lock.Lock.stay.Given as goal

abbrev pub invariant-loop : goal.invariant-loop
invariant-loop g l = (lent : Lent) → IsMailOf l.fn.cell l.fn.letter lent → IsMailOf l.fn.cell l.mail lent
