use Rattle.std.proofs.Common.{◌≡◌, take, map}
use Rattle.lang_monitor.specs.Candidates.{candidate_formula}
use Rattle.logic_wp.proofs.candidates.formulas_of.Given as goal

abbrev pub invariant-loop-candidate : goal.invariant-loop-candidate
invariant-loop-candidate l = l.formulas.items ≡ map candidate_formula (take l.candidate-index l.kept)
