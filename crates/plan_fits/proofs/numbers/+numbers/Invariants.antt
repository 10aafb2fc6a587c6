use Rattle.std.proofs.Common.{◌≡◌, take, true}
use Rattle.std.specs.List.{list_all}
use Rattle.plan_fits.specs.Outside.{is_numberless}
use Rattle.plan_fits.proofs.numbers.+numbers.Given as goal

abbrev pub invariant-are_numberless-loop-statement : goal.invariant-are_numberless-loop-statement
invariant-are_numberless-loop-statement l = list_all is_numberless (take l.statement-index l.body) ≡ true
