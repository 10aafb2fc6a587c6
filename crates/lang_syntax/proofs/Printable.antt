-- Trees that can be printed and read again: each name is an identifier, and each number has at most
-- 32 digits.
use Rattle.std.proofs.Common.{◌<◌, ◌^◌, List, [], ◌∷◌, ◌++◌}
use Rattle.lang_tree.specs.declared.tree.Addend.{Addend}
use Rattle.lang_tree.specs.declared.tree.Factor.{Factor}
use Rattle.lang_tree.specs.declared.tree.Expr.{Expr}
use Rattle.lang_tree.specs.declared.tree.Expr.TheOpen.{Expr-F}
use Rattle.lang_tree.specs.declared.tree.Expr.TheFolds.{fold-Addend, fold-Factor, map-Expr}
use Rattle.lang_tree.specs.declared.tree.StmtTree.{StmtTree}
use Rattle.lang_tree.specs.declared.tree.StmtTree.TheOpen.{StmtTree-F}
use Rattle.lang_tree.specs.declared.tree.StmtTree.TheFolds.{map-StmtTree}
use Rattle.lang_tree.specs.declared.tree.MonitorTree.{MonitorTree}
use Rattle.lang_tokens.specs.Spelling.{IsIdentifier}
use Rattle.lang_tokens.specs.Words.{Word, ident, numeral, mark}
use Rattle.lang_syntax.proofs.CanonicalWords.{Spelled, spelled, spelled_step, addend_words, factor_words, statement_words, statement_words_step, tree_words}

abbrev pub IsPrintableWord : Word → Type 0
IsPrintableWord (ident name at) = IsIdentifier name
IsPrintableWord (numeral value at) = value < 10 ^ 32
IsPrintableWord (mark kind at) = Unit {0}

abbrev pub ArePrintable : List Word → Type 0
ArePrintable [] = Unit {0}
ArePrintable (w ∷ ws) = IsPrintableWord w × ArePrintable ws

-- Each name and each number of the tree is one of its canonical words.
abbrev pub IsPrintable : MonitorTree → Type 0
IsPrintable tree = ArePrintable (tree_words tree)

pub printable_front : (xs ys : List Word) → ArePrintable (xs ++ ys) → ArePrintable xs
printable_front [] ys h = tt
printable_front (x ∷ xs) ys h = (h.0, printable_front xs ys h.1)

pub printable_back : (xs ys : List Word) → ArePrintable (xs ++ ys) → ArePrintable ys
printable_back [] ys h = h
printable_back (x ∷ xs) ys h = printable_back xs ys h.1

pub printable_both : (xs ys : List Word) → ArePrintable xs → ArePrintable ys → ArePrintable (xs ++ ys)
printable_both [] ys h k = k
printable_both (x ∷ xs) ys h k = (h.0, printable_both xs ys h.1 k)

-- ---- the words of one layer

-- an addend after the first, with its sign
abbrev pub addend_tail : Addend → List Word
addend_tail = fold-Addend Spelled (List Word) (List Word) spelled_step addend_words factor_words

-- a factor after the first, with its sign
abbrev pub factor_tail : Factor → List Word
factor_tail = fold-Factor Spelled (List Word) (List Word) spelled_step addend_words factor_words

abbrev pub expression_layer : Expr-F Expr Addend Factor → Spelled
expression_layer x = spelled_step (map-Expr Expr Addend Factor Spelled (List Word) (List Word) spelled addend_tail factor_tail x)

abbrev pub statement_layer : StmtTree-F StmtTree → List Word
statement_layer x = statement_words_step (map-StmtTree StmtTree (List Word) statement_words x)
