use Rattle.std.proofs.Common.{◌≡◌, take, true}
use Rattle.std.specs.List.{list_all}
use Rattle.logic_wp.specs.PlainClaims.{is_simple_statement}
use Rattle.plan_small.proofs.simple.+simple.Given as goal

abbrev pub invariant-are_simple_statements-loop-statement : goal.invariant-are_simple_statements-loop-statement
invariant-are_simple_statements-loop-statement l = list_all is_simple_statement (take l.statement-index l.body) ≡ true
