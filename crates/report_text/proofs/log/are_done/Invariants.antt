use Rattle.machine_events.specs.Configurations.{situation_of}
use Rattle.report_text.proofs.Finished.{SoManyDone}
use Rattle.report_text.proofs.log.are_done.Given as goal

abbrev pub invariant-loop-client : goal.invariant-loop-client
invariant-loop-client l = SoManyDone l.clients (situation_of l.free.now).places l.client
