use Rattle.threads_lock.proofs.berth.lodge.Goals as goal

pub have_back-requires : goal.have_back-requires
have_back-requires g c = record { claim = (c.args.loan, c.in-Ok.ensures.posted) }

pub returns-in-Ok : goal.returns-in-Ok
returns-in-Ok g c = record { back = c.have_back.ensures.back c.args.loan c.in-Ok.ensures.posted }
