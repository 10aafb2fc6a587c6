-- What is written of declarations.
use Rattle.std.specs.Prelude.{ℕ, Bool, true, false, List, ◌++◌, codes}
use Rattle.lang_tree.specs.declared.tree.Decl.{Decl}
use Rattle.lang_tree.specs.declared.tree.Decl.TheVariants as decls
use Rattle.lang_printer.specs.Canonical.{literal_text, truth_text}
use Rattle.emit_bodies.specs.Blocks.{kind_declared, kind_text}

-- a declaration is that of a field or a parameter, and not of a constant
abbrev pub is_field : Decl → Bool
is_field (decls.Const at name value) = false
is_field (decls.Param at name value limit) = true
is_field (decls.Int at name value) = true
is_field (decls.Copied at name source) = true
is_field (decls.Flag at name value) = true

-- the value of a declaration, as the file has it
abbrev pub start_text : Decl → List ℕ
start_text (decls.Const at name value) = literal_text value
start_text (decls.Param at name value limit) = literal_text value
start_text (decls.Int at name value) = literal_text value
start_text (decls.Copied at name source) = source.name
start_text (decls.Flag at name value) = truth_text value

-- `: i64 = 0`
abbrev pub typed_start : Decl → List ℕ
typed_start declared =
    codes ": " ++ kind_text (kind_declared declared) ++ codes " = " ++ start_text declared
