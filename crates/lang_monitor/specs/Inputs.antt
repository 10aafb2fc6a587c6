-- Which guards read inputs, or locals.
use Rattle.std.specs.Prelude.{Bool, nat_le}
use Rattle.std.specs.List.{list_any}
use Rattle.lang_base.specs.Limits.{FIRST_INPUT}
use Rattle.logic_linear.specs.declared.form.Term.{Term}
use Rattle.logic_linear.specs.declared.formula.Formula.{Formula}
use Rattle.logic_linear.specs.declared.formula.Formula.TheOpen.{Formula-F, Row, Flag, All as Every}
use Rattle.logic_linear.specs.declared.formula.Formula.TheOpen.{Any as Some_of}
use Rattle.logic_linear.specs.declared.formula.Formula.TheFolds.{fold-Formula}

-- the place of an input or a local
abbrev pub reads_term : Term → Bool
reads_term term = nat_le FIRST_INPUT term.place

abbrev pub reads_step : Formula-F Bool → Bool
reads_step (Row form) = list_any reads_term form.terms
reads_step (Flag place is) = nat_le FIRST_INPUT place
reads_step (Every parts) = list_any (λ part. part) parts
reads_step (Some_of parts) = list_any (λ part. part) parts

-- whether a guard reads inputs or locals
abbrev pub reads_inputs : Formula → Bool
reads_inputs = fold-Formula Bool reads_step
