use Rattle.std.proofs.Common.{◌≡◌, take}
use Rattle.std.specs.Prelude.{zip}
use Rattle.std.specs.List.{flat_map}
use Rattle.lang_base.specs.SourceFaults.{least}
use Rattle.lang_script.specs.Faults.{type_faults}
use Rattle.lang_script.proofs.arguments.wrong_type.Given as goal

abbrev pub invariant-loop-i : goal.invariant-loop-i
invariant-loop-i l = l.fault ≡ least (flat_map type_faults (take l.i (zip l.inputs l.arguments)))
