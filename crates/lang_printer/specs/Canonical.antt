-- The canonical form of a monitor file: what a tree is printed as.
use Rattle.std.specs.Prelude.{ℕ, ◌+◌, ◌*◌, Bool, true, false, List, [], ◌∷◌, ◌++◌, nat_lt, codes}
use Rattle.std.specs.Prelude.{decimal, replicate, if◌then◌else◌}
use Rattle.std.specs.List.{flat_map}
pub use Rattle.lang_base.specs.Texts.{joined}
use Rattle.lang_tree.specs.declared.tree.Lit.{Lit}
use Rattle.lang_tree.specs.declared.tree.LimitSign.{LimitSign}
use Rattle.lang_tree.specs.declared.tree.LimitSign.TheVariants as signs
use Rattle.lang_tree.specs.declared.tree.LimitTree.{LimitTree}
use Rattle.lang_tree.specs.declared.tree.Decl.{Decl}
use Rattle.lang_tree.specs.declared.tree.Decl.TheVariants as decls
use Rattle.lang_base.specs.declared.kind.Kind.{Kind}
use Rattle.lang_base.specs.declared.kind.Kind.TheVariants as kinds
use Rattle.lang_tree.specs.declared.tree.InputTree.{InputTree}
use Rattle.lang_tree.specs.declared.tree.Op.{Op}
use Rattle.lang_tree.specs.declared.tree.Op.TheVariants as ops
use Rattle.lang_tree.specs.declared.tree.Expr.{Expr}
use Rattle.lang_tree.specs.declared.tree.Expr.TheOpen.{Expr-F, Addend-F, Factor-F, Number, Truth}
use Rattle.lang_tree.specs.declared.tree.Expr.TheOpen.{Named, Minus, Not, Product, Sum, Compare}
use Rattle.lang_tree.specs.declared.tree.Expr.TheOpen.{Both, Either}
use Rattle.lang_tree.specs.declared.tree.Expr.TheFolds.{fold-Expr}
use Rattle.lang_tree.specs.declared.tree.StmtTree.{StmtTree}
use Rattle.lang_tree.specs.declared.tree.StmtTree.TheOpen.{StmtTree-F, Set, If, Return}
use Rattle.lang_tree.specs.declared.tree.StmtTree.TheFolds.{fold-StmtTree}
use Rattle.lang_tree.specs.declared.tree.BlockTree.{BlockTree}
use Rattle.lang_tree.specs.declared.tree.MethodTree.{MethodTree}
use Rattle.lang_tree.specs.declared.tree.MonitorTree.{MonitorTree}

abbrev pub truth_text : Bool → List ℕ
truth_text true = codes "true"
truth_text false = codes "false"

abbrev pub minus_text : Bool → List ℕ
minus_text true = codes "-"
minus_text false = []

abbrev pub literal_text : Lit → List ℕ
literal_text literal = minus_text literal.minus ++ decimal literal.digits

-- ---- expressions

abbrev pub op_text : Op → List ℕ
op_text ops.Equal = codes " == "
op_text ops.Differs = codes " != "
op_text ops.Less = codes " < "
op_text ops.AtMost = codes " <= "
op_text ops.More = codes " > "
op_text ops.AtLeast = codes " >= "

-- A printed expression, with how tightly it holds together:
-- 1 for `||`, 2 for `&&`, 3 for a comparison, 4 for a sum, 5 for a product, 6 for a unary operator,
-- 7 for the rest.
pub record Printed : Type 0 where
  pub level : ℕ
  pub text : List ℕ

-- in parentheses where it holds together less than is asked
abbrev pub at_level : ℕ → Printed → List ℕ
at_level asked part =
    if nat_lt part.level asked then codes "(" ++ part.text ++ codes ")" else part.text

abbrev pub addend_sign : Bool → List ℕ
addend_sign true = codes " - "
addend_sign false = codes " + "

abbrev pub addend_text : Addend-F Printed (List ℕ) (List ℕ) → List ℕ
addend_text addend = addend_sign addend.minus ++ at_level 5 addend.of

abbrev pub factor_text : Factor-F Printed (List ℕ) (List ℕ) → List ℕ
factor_text factor = codes " * " ++ at_level 6 factor.of

-- texts one after the other
abbrev pub all_texts : List (List ℕ) → List ℕ
all_texts = flat_map (λ text. text)

abbrev pub parts_at : ℕ → List Printed → List (List ℕ)
parts_at asked [] = []
parts_at asked (part ∷ parts) = at_level asked part ∷ parts_at asked parts

abbrev pub printed_step : Expr-F Printed (List ℕ) (List ℕ) → Printed
printed_step (Number at value) = record { level = 7; text = decimal value }
printed_step (Truth at value) = record { level = 7; text = truth_text value }
printed_step (Named at name) = record { level = 7; text = name }
printed_step (Minus at of) = record { level = 6; text = codes "-" ++ at_level 6 of }
printed_step (Not at of) = record { level = 6; text = codes "!" ++ at_level 6 of }
printed_step (Product first rest) = record { level = 5; text = at_level 6 first ++ all_texts rest }
printed_step (Sum first rest) = record { level = 4; text = at_level 5 first ++ all_texts rest }
printed_step (Compare op left right) =
    record { level = 3; text = at_level 4 left ++ op_text op ++ at_level 4 right }
printed_step (Both parts) = record { level = 2; text = joined (codes " && ") (parts_at 3 parts) }
printed_step (Either parts) = record { level = 1; text = joined (codes " || ") (parts_at 2 parts) }

abbrev pub printed : Expr → Printed
printed = fold-Expr Printed (List ℕ) (List ℕ) printed_step addend_text factor_text

abbrev pub expression_text : Expr → List ℕ
expression_text expression = (printed expression).text

-- ---- statements, two blanks for each level of indentation

abbrev pub indent : ℕ → List ℕ
indent depth = replicate (2 * depth) 32

-- ` else {` and its lines, where there are any
abbrev pub otherwise : ℕ → List (ℕ → List ℕ) → List ℕ
otherwise depth [] = []
otherwise depth (first ∷ rest) =
    codes " else {\n" ++ flat_map (λ lines. lines (depth + 1)) (first ∷ rest) ++ indent depth
    ++ codes "}"

-- the lines of a statement, by the depth where it stands
abbrev pub statement_step : StmtTree-F (ℕ → List ℕ) → ℕ → List ℕ
statement_step (Set at name value) depth =
    indent depth ++ name ++ codes " = " ++ expression_text value ++ codes ";\n"
statement_step (If at when body other) depth =
    indent depth ++ codes "if (" ++ expression_text when ++ codes ") {\n"
    ++ flat_map (λ lines. lines (depth + 1)) body ++ indent depth ++ codes "}"
    ++ otherwise depth other ++ codes "\n"
statement_step (Return at value) depth =
    indent depth ++ codes "return " ++ expression_text value ++ codes ";\n"

abbrev pub statement_text : StmtTree → ℕ → List ℕ
statement_text = fold-StmtTree (ℕ → List ℕ) statement_step

-- ---- files

abbrev pub limit_sign_text : LimitSign → List ℕ
limit_sign_text signs.Equal = codes " == "
limit_sign_text signs.Less = codes " < "
limit_sign_text signs.AtMost = codes " <= "
limit_sign_text signs.More = codes " > "
limit_sign_text signs.AtLeast = codes " >= "

-- the condition of a parameter
abbrev pub limit_text : LimitTree → List ℕ
limit_text limit = limit.subject.name ++ limit_sign_text limit.sign ++ literal_text limit.bound

-- a declaration, from its first word on
abbrev pub declared_text : Decl → List ℕ
declared_text (decls.Const at name value) =
    codes "const " ++ name ++ codes " = " ++ literal_text value ++ codes ";\n"
declared_text (decls.Param at name value limit) =
    codes "param " ++ name ++ codes " = " ++ literal_text value ++ codes " where ("
    ++ limit_text limit ++ codes ");\n"
declared_text (decls.Int at name value) =
    codes "int " ++ name ++ codes " = " ++ literal_text value ++ codes ";\n"
declared_text (decls.Copied at name source) =
    codes "int " ++ name ++ codes " = " ++ source.name ++ codes ";\n"
declared_text (decls.Flag at name value) =
    codes "bool " ++ name ++ codes " = " ++ truth_text value ++ codes ";\n"

abbrev pub declaration_text : Decl → List ℕ
declaration_text declaration = codes "  " ++ declared_text declaration

abbrev pub kind_text : Kind → List ℕ
kind_text kinds.Int = codes "int "
kind_text kinds.Bool = codes "bool "

abbrev pub input_text : InputTree → List ℕ
input_text input = kind_text input.kind ++ input.name

abbrev pub input_texts : List InputTree → List (List ℕ)
input_texts [] = []
input_texts (input ∷ more) = input_text input ∷ input_texts more

abbrev pub local_text : Decl → List ℕ
local_text local = codes "    local " ++ declared_text local

-- what stands before the guard of a block, by whether its method asserts
abbrev pub opening_text : Bool → List ℕ
opening_text true = codes "asserts ("
opening_text false = codes "waituntil ("

-- a block after what opens it, by the depth where it stands
abbrev pub guarded_text : List ℕ → ℕ → BlockTree → List ℕ
guarded_text opening depth block =
    opening ++ expression_text block.guard ++ codes ") {\n"
    ++ flat_map (λ statement. statement_text statement (depth + 1)) block.body ++ indent depth
    ++ codes "}\n"

-- locals and blocks on lines of their own
abbrev pub lines_text : List ℕ → List Decl → List BlockTree → List ℕ
lines_text opening locals blocks =
    codes "\n" ++ flat_map local_text locals
    ++ flat_map (λ block. codes "    " ++ guarded_text opening 2 block) blocks

-- the locals and blocks of a method: one block without locals goes on in the method's line
abbrev pub blocks_text : List ℕ → List Decl → List BlockTree → List ℕ
blocks_text opening [] (block ∷ []) = codes " " ++ guarded_text opening 1 block
blocks_text opening locals blocks = lines_text opening locals blocks

abbrev pub method_text : MethodTree → List ℕ
method_text method =
    codes "  method " ++ method.name ++ codes "(" ++ joined (codes ", ") (input_texts method.inputs)
    ++ codes ")" ++ blocks_text (opening_text method.asserts) method.locals method.blocks

abbrev pub tree_text : MonitorTree → List ℕ
tree_text tree =
    codes "monitor " ++ tree.name ++ codes " {\n" ++ flat_map declaration_text tree.decls
    ++ flat_map method_text tree.methods ++ codes "}\n"
