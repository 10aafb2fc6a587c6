-- The words of the canonical form, each at offset 0.
use Rattle.std.proofs.Common.{ℕ, Bool, true, false, List, [], ◌∷◌, ◌++◌}
use Rattle.std.specs.Prelude.{nat_lt, if◌then◌else◌}
use Rattle.std.specs.List.{flat_map}
use Rattle.lang_tokens.specs.declared.token.TokenKind.TheVariants as kinds
use Rattle.lang_tree.specs.declared.tree.Lit.{Lit}
use Rattle.lang_tree.specs.declared.tree.LimitTree.{LimitTree}
use Rattle.lang_tree.specs.declared.tree.Decl.{Decl}
use Rattle.lang_tree.specs.declared.tree.Decl.TheVariants as decls
use Rattle.lang_tree.specs.declared.tree.InputTree.{InputTree}
use Rattle.lang_tree.specs.declared.tree.Expr.{Expr}
use Rattle.lang_tree.specs.declared.tree.Expr.TheOpen.{Expr-F, Addend-F, Factor-F, Number, Truth, Named, Minus, Not, Product, Sum, Compare, Both, Either}
use Rattle.lang_tree.specs.declared.tree.Expr.TheFolds.{fold-Expr}
use Rattle.lang_tree.specs.declared.tree.StmtTree.{StmtTree}
use Rattle.lang_tree.specs.declared.tree.StmtTree.TheOpen.{StmtTree-F, Set, If, Return}
use Rattle.lang_tree.specs.declared.tree.StmtTree.TheFolds.{fold-StmtTree}
use Rattle.lang_tree.specs.declared.tree.BlockTree.{BlockTree}
use Rattle.lang_tree.specs.declared.tree.MethodTree.{MethodTree}
use Rattle.lang_tree.specs.declared.tree.MonitorTree.{MonitorTree}
use Rattle.lang_tokens.specs.Words.{Word, ident, numeral, mark}
use Rattle.lang_syntax.specs.Grammar.{truth_word, op_sign, limit_sign, sum_sign, kind_word, WHERE, PARAM, ASSERTS}

-- a word without its offset
abbrev pub bare : Word → Word
bare (ident name at) = ident name 0
bare (numeral value at) = numeral value 0
bare (mark kind at) = mark kind 0

-- an expression's words, and how tightly it holds together, as `Canonical.Printed`
pub record Spelled : Type 0 where
  pub level : ℕ
  pub words : List Word

abbrev pub in_parentheses : List Word → List Word
in_parentheses ws = mark kinds.OpenParen 0 ∷ ws ++ mark kinds.CloseParen 0 ∷ []

abbrev pub words_at : ℕ → Spelled → List Word
words_at asked part = if nat_lt part.level asked then in_parentheses part.words else part.words

abbrev pub addend_words : Addend-F Spelled (List Word) (List Word) → List Word
addend_words addend = mark (sum_sign addend.minus) 0 ∷ words_at 5 addend.of

abbrev pub factor_words : Factor-F Spelled (List Word) (List Word) → List Word
factor_words factor = mark kinds.Star 0 ∷ words_at 6 factor.of

-- parts with a sign between them
abbrev pub joined_words : Word → ℕ → List Spelled → List Word
joined_words sign asked [] = []
joined_words sign asked (first ∷ rest) = words_at asked first ++ flat_map (λ part. sign ∷ words_at asked part) rest

abbrev pub spelled_step : Expr-F Spelled (List Word) (List Word) → Spelled
spelled_step (Number at value) = record { level = 7; words = numeral value 0 ∷ [] }
spelled_step (Truth at value) = record { level = 7; words = mark (truth_word value) 0 ∷ [] }
spelled_step (Named at name) = record { level = 7; words = ident name 0 ∷ [] }
spelled_step (Minus at of) = record { level = 6; words = mark kinds.Minus 0 ∷ words_at 6 of }
spelled_step (Not at of) = record { level = 6; words = mark kinds.Not 0 ∷ words_at 6 of }
spelled_step (Product first rest) = record { level = 5; words = words_at 6 first ++ flat_map (λ factor. factor) rest }
spelled_step (Sum first rest) = record { level = 4; words = words_at 5 first ++ flat_map (λ addend. addend) rest }
spelled_step (Compare op left right) = record { level = 3; words = words_at 4 left ++ mark (op_sign op) 0 ∷ words_at 4 right }
spelled_step (Both parts) = record { level = 2; words = joined_words (mark kinds.And 0) 3 parts }
spelled_step (Either parts) = record { level = 1; words = joined_words (mark kinds.Or 0) 2 parts }

abbrev pub spelled : Expr → Spelled
spelled = fold-Expr Spelled (List Word) (List Word) spelled_step addend_words factor_words

abbrev pub expression_words : Expr → List Word
expression_words expression = (spelled expression).words

-- ---- statements

abbrev pub else_words : List (List Word) → List Word
else_words [] = []
else_words (first ∷ rest) = mark kinds.KeyElse 0 ∷ mark kinds.OpenBrace 0 ∷ flat_map (λ words. words) (first ∷ rest) ++ mark kinds.CloseBrace 0 ∷ []

abbrev pub statement_words_step : StmtTree-F (List Word) → List Word
statement_words_step (Set at name value) = ident name 0 ∷ mark kinds.Assign 0 ∷ expression_words value ++ mark kinds.Semicolon 0 ∷ []
statement_words_step (If at when body other) =
    mark kinds.KeyIf 0 ∷ mark kinds.OpenParen 0 ∷ expression_words when ++ mark kinds.CloseParen 0
    ∷ mark kinds.OpenBrace 0 ∷ flat_map (λ words. words) body ++ mark kinds.CloseBrace 0 ∷ else_words other
statement_words_step (Return at value) = mark kinds.KeyReturn 0 ∷ expression_words value ++ mark kinds.Semicolon 0 ∷ []

abbrev pub statement_words : StmtTree → List Word
statement_words = fold-StmtTree (List Word) statement_words_step

-- ---- files

abbrev pub minus_words : Bool → List Word
minus_words true = mark kinds.Minus 0 ∷ []
minus_words false = []

abbrev pub literal_words : Lit → List Word
literal_words literal = minus_words literal.minus ++ numeral literal.digits 0 ∷ []

abbrev pub limit_words : LimitTree → List Word
limit_words limit =
    ident WHERE 0 ∷ mark kinds.OpenParen 0 ∷ ident limit.subject.name 0 ∷ mark (limit_sign limit.sign) 0
    ∷ literal_words limit.bound ++ mark kinds.CloseParen 0 ∷ []

abbrev pub declaration_words : Decl → List Word
declaration_words (decls.Const at name value) = mark kinds.KeyConst 0 ∷ ident name 0 ∷ mark kinds.Assign 0 ∷ literal_words value ++ mark kinds.Semicolon 0 ∷ []
declaration_words (decls.Param at name value limit) = ident PARAM 0 ∷ ident name 0 ∷ mark kinds.Assign 0 ∷ literal_words value ++ limit_words limit ++ mark kinds.Semicolon 0 ∷ []
declaration_words (decls.Int at name value) = mark kinds.KeyInt 0 ∷ ident name 0 ∷ mark kinds.Assign 0 ∷ literal_words value ++ mark kinds.Semicolon 0 ∷ []
declaration_words (decls.Copied at name source) = mark kinds.KeyInt 0 ∷ ident name 0 ∷ mark kinds.Assign 0 ∷ ident source.name 0 ∷ mark kinds.Semicolon 0 ∷ []
declaration_words (decls.Flag at name value) = mark kinds.KeyBool 0 ∷ ident name 0 ∷ mark kinds.Assign 0 ∷ mark (truth_word value) 0 ∷ mark kinds.Semicolon 0 ∷ []

abbrev pub input_words : InputTree → List Word
input_words input = mark (kind_word input.kind) 0 ∷ ident input.name 0 ∷ []

abbrev pub inputs_words : List InputTree → List Word
inputs_words [] = []
inputs_words (first ∷ rest) = input_words first ++ flat_map (λ input. mark kinds.Comma 0 ∷ input_words input) rest

abbrev pub local_words : Decl → List Word
local_words local = mark kinds.KeyLocal 0 ∷ declaration_words local

-- the word that opens a block, by whether it asserts
abbrev pub opening_word : Bool → Word
opening_word true = ident ASSERTS 0
opening_word false = mark kinds.KeyWaituntil 0

abbrev pub guarded_words : Word → BlockTree → List Word
guarded_words opening block =
    opening ∷ mark kinds.OpenParen 0 ∷ expression_words block.guard ++ mark kinds.CloseParen 0
    ∷ mark kinds.OpenBrace 0 ∷ flat_map statement_words block.body ++ mark kinds.CloseBrace 0 ∷ []

abbrev pub method_words : MethodTree → List Word
method_words method =
    mark kinds.KeyMethod 0 ∷ ident method.name 0 ∷ mark kinds.OpenParen 0 ∷ inputs_words method.inputs ++ mark kinds.CloseParen 0
    ∷ flat_map local_words method.locals ++ flat_map (guarded_words (opening_word method.asserts)) method.blocks

abbrev pub tree_words : MonitorTree → List Word
tree_words tree =
    mark kinds.KeyMonitor 0 ∷ ident tree.name 0 ∷ mark kinds.OpenBrace 0
    ∷ flat_map declaration_words tree.decls ++ flat_map method_words tree.methods ++ mark kinds.CloseBrace 0 ∷ []
