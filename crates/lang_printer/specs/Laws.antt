-- What follows from the canonical forms alone.
use Rattle.std.specs.Prelude.{◌≡◌, true, All}
use Rattle.std.specs.List.{list_all}
use Rattle.lang_base.specs.Identifiers.{IsIdentifier}
use Rattle.lang_base.specs.Lines.{is_in_line}
use Rattle.lang_tree.specs.declared.tree.Expr.{Expr}
use Rattle.lang_tree.specs.Names.{expression_names}
use Rattle.lang_printer.specs.Canonical.{expression_text}

-- an expression whose names are identifiers stands in one line
abbrev pub ShownTextsAreLines : Type 0
ShownTextsAreLines =
    (expression : Expr) → All IsIdentifier (expression_names expression)
    → list_all is_in_line (expression_text expression) ≡ true
