use Rattle.std.proofs.Common.{refl}
use Rattle.threads_lock.proofs.lock.Lock.repay.Goals as goal

pub returns : goal.returns
returns g c = record {
  served = record {
    loan = c.args.loan;
    repaid = c.visit_for-repaid.result;
    section = c.visit_for-repaid.ensures.made.told;
    told = refl;
    answered = c.answer-done.ensures.done c.args.loan c.requires.duty;
  };
}
