use Rattle.std.proofs.Common.{◌≡◌, take}
use Rattle.std.specs.List.{flat_map}
use Rattle.lang_base.specs.SourceFaults.{least}
use Rattle.lang_script.specs.Faults.{number_faults}
use Rattle.lang_script.proofs.arguments.large_number.Given as goal

abbrev pub invariant-loop-argument : goal.invariant-loop-argument
invariant-loop-argument l = l.fault ≡ least (flat_map number_faults (take l.argument-index l.arguments))
