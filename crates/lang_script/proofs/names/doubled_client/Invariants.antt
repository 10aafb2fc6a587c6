use Rattle.std.proofs.Common.{◌≡◌, [], take}
use Rattle.lang_base.specs.SourceFaults.{least}
use Rattle.lang_script.specs.Faults.{doubled}
use Rattle.lang_script.proofs.names.doubled_client.Given as goal

abbrev pub invariant-loop-i : goal.invariant-loop-i
invariant-loop-i l = l.fault ≡ least (doubled [] (take l.i l.clients))
