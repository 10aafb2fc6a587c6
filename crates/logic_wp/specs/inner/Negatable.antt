-- Bodies whose conditions can be negated.
use Rattle.std.specs.Prelude.{Bool, true, List, map}
use Rattle.std.specs.List.{list_all}
use Rattle.logic_linear.specs.Negation.{can_negate}
use Rattle.lang_monitor.specs.declared.monitor.Stmt.{Stmt}
use Rattle.lang_monitor.specs.Statements.{every_part}

abbrev pub negates_statement : Stmt → Bool
negates_statement = every_part (λ put. true) can_negate

-- each condition of a body can be negated
abbrev pub negates_body : List Stmt → Bool
negates_body body = list_all (λ inner. inner) (map negates_statement body)
