use Rattle.std.proofs.Common.{◌≡◌, drop}
use Rattle.logic_solve.specs.Solutions.{number_among}
use Rattle.logic_solve.proofs.valuation.number_among.Given as goal

abbrev pub invariant-loop-one : goal.invariant-loop-one
invariant-loop-one l = number_among (drop l.one-index l.numbers) l.place ≡ number_among l.numbers l.place
