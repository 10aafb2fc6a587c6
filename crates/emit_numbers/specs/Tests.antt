-- The truth of the function that is printed of a block's guard.
use Rattle.std.specs.Prelude.{Bool, true, false, List}
use Rattle.lang_tree.specs.declared.tree.MonitorTree.{MonitorTree}
use Rattle.lang_base.specs.declared.value.Value.{Value}
use Rattle.lang_forms.specs.Plain.{truth_in}
use Rattle.lang_monitor.specs.Bodies.{Inputs, no_inputs, valuation}
use Rattle.lang_types.specs.Typed.{PlacedBlock}
use Rattle.emit_bodies.specs.Guards.{guard_scope}
use Rattle.emit_numbers.specs.Calls.{entries}
use Rattle.emit_numbers.specs.Widths.{worked}

-- The arguments and locals that it takes, by whether its condition's guard reads such. Where it
-- takes none, 0 is written in place of their names: that is what each is worth without inputs.
abbrev pub taken_inputs : Bool → Inputs → Inputs
taken_inputs true inputs = inputs
taken_inputs false inputs = no_inputs

-- what a call of the printed function answers in a state, with the inputs that it takes
abbrev pub printed_test : MonitorTree → PlacedBlock → Bool → List Value → Inputs → Bool
printed_test tree placed reads state inputs =
    truth_in (worked (entries (guard_scope tree placed.method reads))
    (valuation state (taken_inputs reads inputs)) placed.block.guard).value
