use Rattle.machine_explicit.proofs.config.Config.make.Goals as goal

pub returns-in-Begin : goal.returns-in-Begin
returns-in-Begin c = rw c.in-Begin.is c.begin.ensures

pub returns-in-Lock : goal.returns-in-Lock
returns-in-Lock c = rw c.in-Lock.is c.lock.ensures

pub returns-in-Wait : goal.returns-in-Wait
returns-in-Wait c = rw c.in-Wait.is c.wait.ensures

pub returns-in-Run : goal.returns-in-Run
returns-in-Run c = rw c.in-Run.is c.run.ensures

pub returns-in-None : goal.returns-in-None
returns-in-None c = rw (c.in-Notify.is, c.in-None.is) c.notify_none.ensures

pub returns-in-Some : goal.returns-in-Some
returns-in-Some c = rw (c.in-Notify.is, c.in-Some.is) c.notify_one.ensures

pub returns-in-Unlock : goal.returns-in-Unlock
returns-in-Unlock c = rw c.in-Unlock.is c.unlock.ensures

pub returns-in-Spurious : goal.returns-in-Spurious
returns-in-Spurious c = rw c.in-Spurious.is c.spurious.ensures
