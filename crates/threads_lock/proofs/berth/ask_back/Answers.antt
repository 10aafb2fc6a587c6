use Rattle.threads_lock.proofs.berth.ask_back.Goals as goal

pub returns-in-Ok : goal.returns-in-Ok
returns-in-Ok c = record { asked = λ loan is. (c.in-Ok.ensures.told loan is).0 }

pub withdraw-requires : goal.withdraw-requires
withdraw-requires c = let m = c.requires.claim in record { mail = (m.0, (c.in-Err.ensures.told m.0 m.1).0) }

pub returns-in-Ok-withdraw : goal.returns-in-Ok-withdraw
returns-in-Ok-withdraw c = record { asked = λ loan is. c.in-Ok-withdraw.ensures.back loan (c.in-Err.ensures.told loan is).0 }

pub returns-in-Err-withdraw : goal.returns-in-Err-withdraw
returns-in-Err-withdraw c = record { asked = λ loan is. (c.in-Err-withdraw.ensures.back loan (c.in-Err.ensures.told loan is).0).0 }
