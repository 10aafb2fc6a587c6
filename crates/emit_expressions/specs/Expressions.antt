-- Expressions in Rust.
use Rattle.std.specs.Prelude.{ℕ, ◌%◌, ◌==◌, Bool, true, false, not, ◌&&◌, ◌||◌, List, [], ◌∷◌, ◌++◌}
use Rattle.std.specs.Prelude.{codes, decimal, length, if◌then◌else◌, nat_le, nat_lt}
use Rattle.std.specs.List.{enumerate_from, flat_map, list_any}
use Rattle.lang_tree.specs.declared.tree.Expr.{Expr}
use Rattle.lang_tree.specs.declared.tree.Expr.TheOpen.{Expr-F, Addend-F, Factor-F, Number, Truth}
use Rattle.lang_tree.specs.declared.tree.Expr.TheOpen.{Named, Minus, Not, Product, Sum, Compare}
use Rattle.lang_tree.specs.declared.tree.Expr.TheOpen.{Both, Either}
use Rattle.lang_tree.specs.declared.tree.Expr.TheFolds.{fold-Expr}
use Rattle.lang_tree.specs.declared.tree.Op.{Op}
use Rattle.lang_printer.specs.Canonical.{addend_sign, minus_text, op_text, truth_text}
use Rattle.emit_expressions.specs.Scopes.{ScopeParts, is_read, name_text}

-- An expression in Rust, with how tightly it holds together, as in the canonical form.
pub record Written : Type 0 where
  pub level : ℕ
  -- some name in it has a text
  pub is_named : Bool
  -- it is a number without a sign
  pub is_number : Bool
  -- it is a sum, a product or the negative of more than a number: it may need more than 64 bits
  pub narrows : Bool
  -- in 64 bits, or of truth values
  pub plain : List ℕ
  -- in 128 bits, with this after each number
  pub wide : List ℕ → List ℕ

-- a factor, or an addend with its sign, after the first, in 128 bits
pub record Later : Type 0 where
  pub is_named : Bool
  pub wide : List ℕ → List ℕ
  -- as the first of a piece
  pub begun : List ℕ → List ℕ

abbrev pub within : ℕ → ℕ → List ℕ → List ℕ
within asked level text = if nat_lt level asked then codes "(" ++ text ++ codes ")" else text

-- in parentheses where it holds together less than is asked
abbrev pub wide_at : ℕ → List ℕ → Written → List ℕ
wide_at asked ending part = within asked part.level (part.wide ending)

abbrev pub plain_at : ℕ → Written → List ℕ
plain_at asked part = within asked part.level part.plain

-- ---- pieces: rustc's stack ends at some thousand parts in a row

-- Each piece has a line of its own: for each sign that may overflow rustc counts the letters of its
-- line up to it, for what is said then.

-- so many parts stand in a row
abbrev pub PIECE : ℕ
PIECE = 64

-- whether so many after the first one are in pieces
abbrev pub is_pieced : ℕ → Bool
is_pieced count = nat_le PIECE count

-- whether the one at this place of those after the first one begins a piece
abbrev pub begins : ℕ → Bool
begins place = place % PIECE == 63

abbrev pub opened : Bool → List ℕ
opened true = codes "("
opened false = []

abbrev pub closed : Bool → List ℕ
closed true = codes ")"
closed false = []

-- ---- sums and products

-- how tightly an addend that begins a piece has to hold together, by whether it is subtracted
abbrev pub begun_level : Bool → ℕ
begun_level true = 7
begun_level false = 5

abbrev pub addend_step : Addend-F Written Later Later → Later
addend_step addend = record {
  is_named = addend.of.is_named;
  wide = λ ending. addend_sign addend.minus ++ wide_at 5 ending addend.of;
  begun =
      λ ending. minus_text addend.minus ++ wide_at (begun_level addend.minus) ending addend.of;
}

-- an addend after the first one, by whether it begins a piece
abbrev pub addend_by : Bool → List ℕ → Later → List ℕ
addend_by true ending later = codes ")\n            + (" ++ later.begun ending
addend_by false ending later = later.wide ending

-- the addends after the first one, each by its place
abbrev pub addends_after : Bool → List ℕ → List Later → List ℕ
addends_after pieced ending rest =
    flat_map (λ one. addend_by (pieced && begins one.0) ending one.1) (enumerate_from 0 rest)
    ++ closed pieced

-- In pieces each number says that it has 128 bits: at each sign rustc tries again to find the types
-- of all numbers that say nothing.
abbrev pub ending_in : Bool → List ℕ → List ℕ
ending_in true ending = codes "_i128"
ending_in false ending = ending

abbrev pub sum_by : Bool → List ℕ → Written → List Later → List ℕ
sum_by pieced ending first rest =
    opened pieced ++ wide_at 5 ending first ++ addends_after pieced ending rest

-- in pieces where they are many
abbrev pub sum_in : Bool → List ℕ → Written → List Later → List ℕ
sum_in pieced ending = sum_by pieced (ending_in pieced ending)

abbrev pub factor_step : Factor-F Written Later Later → Later
factor_step factor = record {
  is_named = factor.of.is_named;
  wide = λ ending. wide_at 6 ending factor.of;
  begun = λ ending. wide_at 6 ending factor.of;
}

-- A piece of many factors is given the product of all before it, so that what is worked out is the
-- product from the first factor on.
abbrev pub product_opened : Bool → List ℕ
product_opened true = codes "Some("
product_opened false = []

-- what stands before a factor after the first one, by whether it begins a piece
abbrev pub times : Bool → List ℕ
times true = codes ")\n            .map(|result| result * "
times false = codes " * "

abbrev pub product_closed : Bool → List ℕ
product_closed true = codes ")\n            .unwrap()"
product_closed false = []

abbrev pub factor_by : Bool → List ℕ → Later → List ℕ
factor_by begun ending later = times begun ++ later.wide ending

-- the factors after the first one, each by its place
abbrev pub factors_after : Bool → List ℕ → List Later → List ℕ
factors_after pieced ending rest =
    flat_map (λ one. factor_by (pieced && begins one.0) ending one.1) (enumerate_from 0 rest)
    ++ product_closed pieced

abbrev pub product_by : Bool → List ℕ → Written → List Later → List ℕ
product_by pieced ending first rest =
    product_opened pieced ++ wide_at 6 ending first ++ factors_after pieced ending rest

abbrev pub product_in : Bool → List ℕ → Written → List Later → List ℕ
product_in pieced ending = product_by pieced (ending_in pieced ending)

-- a comparison of numbers alone says that they have 128 bits
abbrev pub number_ending : Bool → List ℕ
number_ending true = []
number_ending false = codes "_i128"

abbrev pub wide_comparison : Op → Written → Written → List ℕ → List ℕ
wide_comparison op left right ending = left.wide ending ++ op_text op ++ right.wide ending

-- two that are no sums are compared in 64 bits
abbrev pub comparison : Op → Written → Written → List ℕ
comparison op left right =
    if (not left.narrows && not right.narrows) && (left.is_named || right.is_named)
    then left.plain ++ op_text op ++ right.plain
    else wide_comparison op left right (number_ending (left.is_named || right.is_named))

abbrev pub wide_name : Bool → List ℕ → List ℕ → List ℕ
wide_name true text ending = codes "i128::from(" ++ text ++ codes ")"
wide_name false text ending = codes "0" ++ ending

abbrev pub plain_name : Bool → List ℕ → List ℕ
plain_name true text = text
plain_name false text = codes "0"

abbrev pub plain_texts : ℕ → List Written → List (List ℕ)
plain_texts asked [] = []
plain_texts asked (part ∷ parts) = plain_at asked part ∷ plain_texts asked parts

-- one after the first one of those between which this sign stands, by whether it begins a piece
abbrev pub joined_by : Bool → List ℕ → List ℕ → List ℕ
joined_by true sign text = codes ")\n           " ++ sign ++ codes "(" ++ text
joined_by false sign text = sign ++ text

abbrev pub joined_in : Bool → List ℕ → List ℕ → List (List ℕ) → List ℕ
joined_in pieced sign first rest =
    opened pieced ++ first
    ++ flat_map (λ one. joined_by (pieced && begins one.0) sign one.1) (enumerate_from 0 rest)
    ++ closed pieced

-- with this sign between them, in pieces where they are many
abbrev pub joined : List ℕ → List (List ℕ) → List ℕ
joined sign [] = []
joined sign (first ∷ rest) = joined_in (is_pieced (length rest)) sign first rest

-- of truth values
abbrev pub truth_written : ℕ → Bool → List ℕ → Written
truth_written level is_named text = record {
  level = level;
  is_named = is_named;
  is_number = false;
  narrows = false;
  plain = text;
  wide = λ ending. [];
}

-- a sum, or a product
abbrev pub sum_written : ℕ → Written → List Later → (List ℕ → List ℕ) → Written
sum_written level first rest wide = record {
  level = level;
  is_named = first.is_named || list_any (λ later. later.is_named) rest;
  is_number = false;
  narrows = true;
  plain = [];
  wide = wide;
}

abbrev pub written_step : ScopeParts → Expr-F Written Later Later → Written
written_step scope (Number at value) = record {
  level = 7;
  is_named = false;
  is_number = true;
  narrows = false;
  plain = decimal value;
  wide = λ ending. decimal value ++ ending;
}
written_step scope (Truth at value) = truth_written 7 false (truth_text value)
written_step scope (Named at name) = record {
  level = 7;
  is_named = is_read scope name;
  is_number = false;
  narrows = false;
  plain = plain_name (is_read scope name) (name_text scope name);
  wide = wide_name (is_read scope name) (name_text scope name);
}
written_step scope (Minus at of) = record {
  level = 6;
  is_named = of.is_named;
  is_number = false;
  narrows = not of.is_number;
  plain = codes "-" ++ of.plain;
  wide = λ ending. codes "-" ++ wide_at 7 ending of;
}
written_step scope (Not at of) = truth_written 6 of.is_named (codes "!" ++ plain_at 6 of)
written_step scope (Product first rest) =
    sum_written 5 first rest (λ ending. product_in (is_pieced (length rest)) ending first rest)
written_step scope (Sum first rest) =
    sum_written 4 first rest (λ ending. sum_in (is_pieced (length rest)) ending first rest)
written_step scope (Compare op left right) =
    truth_written 3 (left.is_named || right.is_named) (comparison op left right)
written_step scope (Both parts) =
    truth_written 2 (list_any (λ part. part.is_named) parts)
    (joined (codes " && ") (plain_texts 3 parts))
written_step scope (Either parts) =
    truth_written 1 (list_any (λ part. part.is_named) parts)
    (joined (codes " || ") (plain_texts 2 parts))

abbrev pub written : ScopeParts → Expr → Written
written scope = fold-Expr Written Later Later (written_step scope) addend_step factor_step

abbrev pub plain_text : ScopeParts → Expr → List ℕ
plain_text scope expression = (written scope expression).plain
