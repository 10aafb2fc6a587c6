use Rattle.std.proofs.Common.{◌≡◌, take, Ok}
use Rattle.lang_rules.specs.Rules.{places_in}
use Rattle.lang_rules.specs.inner.Counting.{counted}
use Rattle.lang_rules.proofs.limits.+count_statement.Given as goal

abbrev pub invariant-count_statements-loop-statement : goal.invariant-count_statements-loop-statement
invariant-count_statements-loop-statement l = Ok l.rest ≡ counted (places_in (take l.statement-index l.statements)) l.left
