-- What bodies make of valuations.
use Rattle.std.specs.Prelude.{Bool, false, not, List}
use Rattle.logic_linear.specs.declared.substitution.Put.{Put}
use Rattle.logic_linear.specs.declared.substitution.Put.TheVariants.{Number, Truth}
use Rattle.logic_linear.specs.Substitution.{assigned}
use Rattle.logic_linear.specs.Truth.{Valuation, truth_of, value_of}
use Rattle.lang_base.specs.declared.value.Value.TheVariants as values
use Rattle.lang_monitor.specs.declared.monitor.Stmt.{Stmt}
use Rattle.lang_monitor.specs.Bodies.{fits_64}
use Rattle.lang_monitor.specs.Statements.{Effect, Runner, run_of, run_body}

-- the number that is assigned is outside 64 bits
abbrev pub puts_outside : Put → Valuation → Bool
puts_outside (Number place form) v = not (fits_64 (values.Int (value_of v form)))
puts_outside (Truth place is) v = false

-- an assignment to a variable
abbrev pub changing : Put → Effect Valuation
changing put = record { next = assigned put; overflows = puts_outside put }

abbrev pub on_valuations : Runner Valuation
on_valuations = record { does = changing; holds = λ formula v. truth_of v formula }

-- what a statement makes of a valuation
abbrev pub change_of : Stmt → Valuation → Valuation
change_of statement = (run_of on_valuations statement).next

-- what a body makes of a valuation
abbrev pub body_change : List Stmt → Valuation → Valuation
body_change body = (run_body on_valuations body).next
