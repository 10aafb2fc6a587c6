use Rattle.threads_desk.specs.Letters.{IsMailOf}
use Rattle.threads_lock.specs.declared.loan.Loan.{Loan}
use Rattle.threads_lock.proofs.berth.have_back.Given as goal

abbrev pub invariant-loop : goal.invariant-loop
invariant-loop g l = (loan : Loan) → IsMailOf l.fn.berth.cell l.fn.claim loan → IsMailOf l.fn.berth.cell l.kept loan
