use Rattle.threads_lock.proofs.berth.have_back.Goals as goal

pub ask_back-requires : goal.ask_back-requires
ask_back-requires g c = let m = c.requires.claim in record { claim = (m.0, c.loop.invariant m.0 m.1) }

pub returns-in-Ok : goal.returns-in-Ok
returns-in-Ok g c = record { back = λ loan is. c.in-Ok.ensures.asked loan (c.loop.invariant loan is) }

pub loop-preserved : goal.loop-preserved
loop-preserved g c = λ loan is. c.in-Err.ensures.asked loan (c.loop.invariant loan is)
