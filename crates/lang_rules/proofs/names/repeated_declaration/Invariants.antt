use Rattle.std.proofs.Common.{◌≡◌, [], map, take}
use Rattle.lang_base.specs.SourceFaults.{least}
use Rattle.lang_rules.specs.Rules.{declared_name, repeated}
use Rattle.lang_rules.proofs.names.repeated_declaration.Given as goal

abbrev pub invariant-loop-i : goal.invariant-loop-i
invariant-loop-i l = l.fault ≡ least (repeated [] (map declared_name (take l.i l.decls)))
