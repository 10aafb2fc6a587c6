use Rattle.std.proofs.Common.{subst}
use Rattle.threads_lock.specs.inner.Renting.{IsBackOf}
use Rattle.threads_lock.proofs.Renting.{repaid_home, unused_home}
use Rattle.threads_lock.proofs.berth.come_home.Goals as goal

pub returns-in-Repaid : goal.returns-in-Repaid
returns-in-Repaid c = record {
  home = λ berth loan may is. repaid_home berth loan c.in-Repaid.repaid _ c.end_of.ensures (subst (IsBackOf berth loan) c.in-Repaid.is is);
}

pub returns-in-Unused : goal.returns-in-Unused
returns-in-Unused c = record {
  home = λ berth loan may is.
      let back = subst (IsBackOf berth loan) c.in-Unused.is is in
      unused_home berth loan c.in-Unused.loan c.in-Unused.kept may back.0 back.1;
}
