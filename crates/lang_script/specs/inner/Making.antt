-- What the makers of scripts ask of a tree.
use Rattle.std.specs.Prelude.{◌≤◌, List, All}
use Rattle.lang_tree.specs.declared.tree.Arg.{Arg}
use Rattle.lang_tree.specs.declared.tree.Arg.TheVariants as args
use Rattle.lang_tree.specs.declared.tree.Item.{Item}
use Rattle.lang_base.specs.Limits.{GREATEST_NUMBER}
use Rattle.lang_script.specs.Faults.{PlacedCall, placed_calls}

-- a number of 64 bits
abbrev pub IsSmallArgument : Arg → Type 0
IsSmallArgument (args.Int at value) = value.digits ≤ GREATEST_NUMBER
IsSmallArgument (args.Bool at value) = Unit {0}

abbrev pub HasSmallArguments : PlacedCall → Type 0
HasSmallArguments call = All IsSmallArgument call.arguments

abbrev pub IsSmallItem : Item → Type 0
IsSmallItem item = All HasSmallArguments (placed_calls item)

abbrev pub AreSmallItems : List Item → Type 0
AreSmallItems items = All IsSmallItem items
