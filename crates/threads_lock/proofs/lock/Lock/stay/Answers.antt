use Rattle.threads_lock.proofs.lock.Lock.stay.Goals as goal

pub look_in-requires : goal.look_in-requires
look_in-requires g c = let m = c.requires.mail in record { mail = (m.0, c.loop.invariant m.0 m.1) }

pub returns-in-Ok : goal.returns-in-Ok
returns-in-Ok g c = record { returned = λ lent is. c.in-Ok.ensures.looked lent (c.loop.invariant lent is) }

pub loop-preserved-then-pauses-lt-PAUSES : goal.loop-preserved-then-pauses-lt-PAUSES
loop-preserved-then-pauses-lt-PAUSES g c = λ lent is. c.in-Err.ensures.looked lent (c.loop.invariant lent is)

pub loop-preserved : goal.loop-preserved
loop-preserved g c = λ lent is. c.in-Err.ensures.looked lent (c.loop.invariant lent is)
