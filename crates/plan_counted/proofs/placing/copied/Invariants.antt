use Rattle.std.proofs.Common.{◌≡◌, take}
use Rattle.plan_counted.proofs.placing.copied.Given as goal

abbrev pub invariant-loop-candidate : goal.invariant-loop-candidate
invariant-loop-candidate l = l.all.items ≡ take l.candidate-index l.candidates
