use Rattle.std.proofs.Common.{◌≡◌, map, take}
use Rattle.logic_outline.specs.inner.Branches.{formula_of, met_literals}
use Rattle.logic_outline.proofs.acceptance.copies.Given as goal

abbrev pub invariant-loop-formula : goal.invariant-loop-formula
invariant-loop-formula l = l.parts.items ≡ map formula_of (met_literals (take l.formula-index l.met))
