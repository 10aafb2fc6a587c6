-- The canonical words of expressions, and expressions without offsets, by their forms.
use Rattle.std.proofs.Common.{◌≡◌, ℕ, Bool, List, [], ◌∷◌, ◌++◌, map, sym, ap, ◌∙◌}
use Rattle.std.specs.List.{flat_map}
use Rattle.std.proofs.lemmas.List.Folds.{flat_map-map}
use Rattle.lang_tokens.specs.declared.token.TokenKind.TheVariants as kinds
use Rattle.lang_tree.specs.declared.tree.Op.{Op}
use Rattle.lang_tree.specs.declared.tree.Expr.{Expr}
use Rattle.lang_tree.specs.declared.tree.Factor.{Factor}
use Rattle.lang_tree.specs.declared.tree.Addend.{Addend}
use Rattle.lang_tree.specs.declared.tree.Expr.TheVariants as exprs
use Rattle.lang_tree.specs.declared.tree.Expr.TheOpen as layers
use Rattle.lang_tree.specs.declared.tree.Expr.TheFolds.{fold-roll-Expr, fold-Addend, fold-Factor}
use Rattle.lang_tokens.specs.Words.{Word, ident, numeral, mark}
use Rattle.lang_syntax.specs.Grammar.{truth_word, op_sign}
use Rattle.lang_tree.specs.Offsets.{unplaced_expression, expression_step, addend_step, factor_step}
use Rattle.lang_syntax.proofs.CanonicalWords.{Spelled, spelled, spelled_step, addend_words, factor_words, words_at}

abbrev pub spelled_factor : Factor → List Word
spelled_factor = fold-Factor Spelled (List Word) (List Word) spelled_step addend_words factor_words

abbrev pub spelled_addend : Addend → List Word
spelled_addend = fold-Addend Spelled (List Word) (List Word) spelled_step addend_words factor_words

abbrev pub unplaced_factor : Factor → Factor
unplaced_factor = fold-Factor Expr Addend Factor expression_step addend_step factor_step

abbrev pub unplaced_addend : Addend → Addend
unplaced_addend = fold-Addend Expr Addend Factor expression_step addend_step factor_step

-- the first part's words, and those of the parts after it
abbrev row : ℕ → List Word → List Word → Spelled
row level first rest = record { level = level; words = first ++ rest }

pub spelled_Number : (at value : ℕ) → spelled (exprs.Number at value) ≡ record { level = 7; words = numeral value 0 ∷ [] }
spelled_Number at value = ap spelled (sym (exprs.rolls-Number at value)) ∙ fold-roll-Expr Spelled (List Word) (List Word) spelled_step addend_words factor_words (layers.Number at value)

pub spelled_Truth : (at : ℕ) (value : Bool) → spelled (exprs.Truth at value) ≡ record { level = 7; words = mark (truth_word value) 0 ∷ [] }
spelled_Truth at value = ap spelled (sym (exprs.rolls-Truth at value)) ∙ fold-roll-Expr Spelled (List Word) (List Word) spelled_step addend_words factor_words (layers.Truth at value)

pub spelled_Named : (at : ℕ) (name : List ℕ) → spelled (exprs.Named at name) ≡ record { level = 7; words = ident name 0 ∷ [] }
spelled_Named at name = ap spelled (sym (exprs.rolls-Named at name)) ∙ fold-roll-Expr Spelled (List Word) (List Word) spelled_step addend_words factor_words (layers.Named at name)

pub spelled_Minus : (at : ℕ) (of : Expr) → spelled (exprs.Minus at of) ≡ record { level = 6; words = mark kinds.Minus 0 ∷ words_at 6 (spelled of) }
spelled_Minus at of = ap spelled (sym (exprs.rolls-Minus at of)) ∙ fold-roll-Expr Spelled (List Word) (List Word) spelled_step addend_words factor_words (layers.Minus at of)

pub spelled_Not : (at : ℕ) (of : Expr) → spelled (exprs.Not at of) ≡ record { level = 6; words = mark kinds.Not 0 ∷ words_at 6 (spelled of) }
spelled_Not at of = ap spelled (sym (exprs.rolls-Not at of)) ∙ fold-roll-Expr Spelled (List Word) (List Word) spelled_step addend_words factor_words (layers.Not at of)

pub spelled_Product : (first : Expr) (rest : List Factor) → spelled (exprs.Product first rest) ≡ record { level = 5; words = words_at 6 (spelled first) ++ flat_map spelled_factor rest }
spelled_Product first rest =
    ap spelled (sym (exprs.rolls-Product first rest))
    ∙ fold-roll-Expr Spelled (List Word) (List Word) spelled_step addend_words factor_words (layers.Product first rest)
    ∙ ap (row 5 (words_at 6 (spelled first))) (flat_map-map (λ (ws : List Word). ws) spelled_factor rest)

pub spelled_Sum : (first : Expr) (rest : List Addend) → spelled (exprs.Sum first rest) ≡ record { level = 4; words = words_at 5 (spelled first) ++ flat_map spelled_addend rest }
spelled_Sum first rest =
    ap spelled (sym (exprs.rolls-Sum first rest))
    ∙ fold-roll-Expr Spelled (List Word) (List Word) spelled_step addend_words factor_words (layers.Sum first rest)
    ∙ ap (row 4 (words_at 5 (spelled first))) (flat_map-map (λ (ws : List Word). ws) spelled_addend rest)

pub spelled_Compare : (op : Op) (left right : Expr) → spelled (exprs.Compare op left right) ≡ record { level = 3; words = words_at 4 (spelled left) ++ mark (op_sign op) 0 ∷ words_at 4 (spelled right) }
spelled_Compare op left right = ap spelled (sym (exprs.rolls-Compare op left right)) ∙ fold-roll-Expr Spelled (List Word) (List Word) spelled_step addend_words factor_words (layers.Compare op left right)

pub spelled_Both : (first : Expr) (rest : List Expr)
    → spelled (exprs.Both (first ∷ rest)) ≡ record { level = 2; words = words_at 3 (spelled first) ++ flat_map (λ part. mark kinds.And 0 ∷ words_at 3 (spelled part)) rest }
spelled_Both first rest =
    ap spelled (sym (exprs.rolls-Both (first ∷ rest)))
    ∙ fold-roll-Expr Spelled (List Word) (List Word) spelled_step addend_words factor_words (layers.Both (first ∷ rest))
    ∙ ap (row 2 (words_at 3 (spelled first))) (flat_map-map (λ (part : Spelled). mark kinds.And 0 ∷ words_at 3 part) spelled rest)

pub spelled_Either : (first : Expr) (rest : List Expr)
    → spelled (exprs.Either (first ∷ rest)) ≡ record { level = 1; words = words_at 2 (spelled first) ++ flat_map (λ part. mark kinds.Or 0 ∷ words_at 2 (spelled part)) rest }
spelled_Either first rest =
    ap spelled (sym (exprs.rolls-Either (first ∷ rest)))
    ∙ fold-roll-Expr Spelled (List Word) (List Word) spelled_step addend_words factor_words (layers.Either (first ∷ rest))
    ∙ ap (row 1 (words_at 2 (spelled first))) (flat_map-map (λ (part : Spelled). mark kinds.Or 0 ∷ words_at 2 part) spelled rest)

pub unplaced_Number : (at value : ℕ) → unplaced_expression (exprs.Number at value) ≡ exprs.Number 0 value
unplaced_Number at value = ap unplaced_expression (sym (exprs.rolls-Number at value)) ∙ fold-roll-Expr Expr Addend Factor expression_step addend_step factor_step (layers.Number at value)

pub unplaced_Truth : (at : ℕ) (value : Bool) → unplaced_expression (exprs.Truth at value) ≡ exprs.Truth 0 value
unplaced_Truth at value = ap unplaced_expression (sym (exprs.rolls-Truth at value)) ∙ fold-roll-Expr Expr Addend Factor expression_step addend_step factor_step (layers.Truth at value)

pub unplaced_Named : (at : ℕ) (name : List ℕ) → unplaced_expression (exprs.Named at name) ≡ exprs.Named 0 name
unplaced_Named at name = ap unplaced_expression (sym (exprs.rolls-Named at name)) ∙ fold-roll-Expr Expr Addend Factor expression_step addend_step factor_step (layers.Named at name)

pub unplaced_Minus : (at : ℕ) (of : Expr) → unplaced_expression (exprs.Minus at of) ≡ exprs.Minus 0 (unplaced_expression of)
unplaced_Minus at of = ap unplaced_expression (sym (exprs.rolls-Minus at of)) ∙ fold-roll-Expr Expr Addend Factor expression_step addend_step factor_step (layers.Minus at of)

pub unplaced_Not : (at : ℕ) (of : Expr) → unplaced_expression (exprs.Not at of) ≡ exprs.Not 0 (unplaced_expression of)
unplaced_Not at of = ap unplaced_expression (sym (exprs.rolls-Not at of)) ∙ fold-roll-Expr Expr Addend Factor expression_step addend_step factor_step (layers.Not at of)

pub unplaced_Product : (first : Expr) (rest : List Factor) → unplaced_expression (exprs.Product first rest) ≡ exprs.Product (unplaced_expression first) (map unplaced_factor rest)
unplaced_Product first rest = ap unplaced_expression (sym (exprs.rolls-Product first rest)) ∙ fold-roll-Expr Expr Addend Factor expression_step addend_step factor_step (layers.Product first rest)

pub unplaced_Sum : (first : Expr) (rest : List Addend) → unplaced_expression (exprs.Sum first rest) ≡ exprs.Sum (unplaced_expression first) (map unplaced_addend rest)
unplaced_Sum first rest = ap unplaced_expression (sym (exprs.rolls-Sum first rest)) ∙ fold-roll-Expr Expr Addend Factor expression_step addend_step factor_step (layers.Sum first rest)

pub unplaced_Compare : (op : Op) (left right : Expr) → unplaced_expression (exprs.Compare op left right) ≡ exprs.Compare op (unplaced_expression left) (unplaced_expression right)
unplaced_Compare op left right = ap unplaced_expression (sym (exprs.rolls-Compare op left right)) ∙ fold-roll-Expr Expr Addend Factor expression_step addend_step factor_step (layers.Compare op left right)

pub unplaced_Both : (parts : List Expr) → unplaced_expression (exprs.Both parts) ≡ exprs.Both (map unplaced_expression parts)
unplaced_Both parts = ap unplaced_expression (sym (exprs.rolls-Both parts)) ∙ fold-roll-Expr Expr Addend Factor expression_step addend_step factor_step (layers.Both parts)

pub unplaced_Either : (parts : List Expr) → unplaced_expression (exprs.Either parts) ≡ exprs.Either (map unplaced_expression parts)
unplaced_Either parts = ap unplaced_expression (sym (exprs.rolls-Either parts)) ∙ fold-roll-Expr Expr Addend Factor expression_step addend_step factor_step (layers.Either parts)
