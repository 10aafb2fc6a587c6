use Rattle.std.proofs.Common.{◌≡◌, [], take}
use Rattle.lang_base.specs.SourceFaults.{least}
use Rattle.lang_rules.specs.Rules.{faults_in_sources}
use Rattle.lang_rules.proofs.starts.unknown_source.Given as goal

abbrev pub invariant-loop-i : goal.invariant-loop-i
invariant-loop-i l = l.fault ≡ least (faults_in_sources [] (take l.i l.decls))
