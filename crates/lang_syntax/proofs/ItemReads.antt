-- The readers of a client's items, level by level over the reader of a repeat's items.
use Rattle.std.proofs.Common.{◌≡◌, ℕ, zero, suc, Bool, true, false, List, [], ◌∷◌, ◌++◌, refl, sym, ap, subst, ◌∙◌, inl, inr}
use Rattle.std.specs.Prelude.{◌⊎◌}
use Rattle.lang_tokens.specs.declared.token.TokenKind.TheVariants as kinds
use Rattle.lang_tree.specs.declared.tree.Arg.{Arg}
use Rattle.lang_tree.specs.declared.tree.Item.{Item}
use Rattle.lang_syntax.specs.declared.item_parser.CallHead.{CallHead}
use Rattle.lang_cursor.specs.declared.word.PlacedNumber.{PlacedNumber}
use Rattle.lang_tokens.specs.Words.{Word, ident, numeral}
use Rattle.lang_syntax.specs.Grammar.{Rule, ◌⌢◌, Each, IsBlock, IsIdent, IsNumeral, IsMarkAt, IsMark, truth_word}
use Rattle.lang_syntax.specs.ClientGrammar.{IsArgument, AreArguments, IsCalled, IsCall, IsRepeat, IsItem}
use Rattle.lang_cursor.specs.Reading.{Read, ◌⊗◌, made_at, choice_at, pure_at, each_at, placed_at, mark_at, ident_at, numeral_at, begins, begins_ident, plain_argument_at}
use Rattle.lang_syntax.specs.inner.Reading.{begins_item, negative_argument_of, negative_argument_at, argument_at, later_argument_of, later_argument_at, later_arguments_at, arguments_of, some_arguments_at, arguments_at, tried_of, tried_at, untried_of, called_at, call_of, call_at, items_at, repeat_of, repeat_at, item_at}
use Rattle.lang_syntax.proofs.Readers.{Reads, Anything, Both, pair_reads, made_reads, pure_reads, choice_reads, each_reads, before}
use Rattle.lang_syntax.proofs.WordReads.{IsPlacedName, IsPlacedNumber, IsPlainArgument, mark_reads, ident_reads, numeral_reads, plain_argument_reads, begins_heads, item_heads}
use Rattle.lang_syntax.proofs.Openings.{Opens, At, mark_opens, placed_opens, ident_opens, numeral_opens, then_opens, begins_none, begins_at}
use Rattle.lang_syntax.proofs.Sequences.{Made, same_reads, mark_then, placed_then, numeral_then, image_reads, braces_reads}

-- ---- arguments

abbrev IsNegative : Rule Arg
IsNegative = Made negative_argument_of (Both (λ (at : ℕ). IsMarkAt kinds.Minus at) IsPlacedNumber)

negative_reads : Reads IsNegative negative_argument_at Anything
unfolding negative_argument_at
negative_reads =
    image_reads (Both (λ (at : ℕ). IsMarkAt kinds.Minus at) IsPlacedNumber) (placed_at kinds.Minus ⊗ numeral_at) Anything negative_argument_of
    (placed_then kinds.Minus IsPlacedNumber numeral_at Anything numeral_reads)

negative_opens : (Fact : List Word → Type 0) → At kinds.Minus Fact → (x : Arg) → Opens (IsNegative x) Fact
negative_opens Fact so x ws rest p = then_opens (IsMarkAt kinds.Minus p.0.0) (IsPlacedNumber p.0.1) Fact (placed_opens kinds.Minus p.0.0 Fact so) ws rest p.2

plain_opens : (Fact : List Word → Type 0) → ((value at : ℕ) (rest : List Word) → Fact (numeral value at ∷ rest)) → ((value : Bool) → At (truth_word value) Fact) → (x : Arg) → Opens (IsPlainArgument x) Fact
plain_opens Fact of_number of_truth x ws rest (inl p) = numeral_opens p.1 p.0 Fact (of_number p.1 p.0) ws rest p.3
plain_opens Fact of_number of_truth x ws rest (inr p) = placed_opens (truth_word p.1) p.0 Fact (of_truth p.1) ws rest p.3

number_no_minus : (value at : ℕ) (rest : List Word) → begins kinds.Minus (numeral value at ∷ rest) ≡ false
unfolding begins
number_no_minus value at rest = refl

truth_no_minus : (value : Bool) → At (truth_word value) (λ ws. begins kinds.Minus ws ≡ false)
unfolding begins
truth_no_minus true at rest = refl
truth_no_minus false at rest = refl

pub argument_reads : Reads IsArgument argument_at Anything
unfolding argument_at
argument_reads =
    same_reads (λ x ws. IsNegative x ws ⊎ IsPlainArgument x ws) IsArgument argument_at Anything
    (choice_reads (begins kinds.Minus) IsNegative negative_argument_at Anything IsPlainArgument plain_argument_at Anything Anything (begins_heads kinds.Minus) negative_reads plain_argument_reads
    (λ x taken rest p after. (negative_opens (λ ws. begins kinds.Minus ws ≡ true) (begins_at kinds.Minus) x taken rest p, tt))
    (λ x taken rest p after. (plain_opens (λ ws. begins kinds.Minus ws ≡ false) number_no_minus truth_no_minus x taken rest p, tt)))
    to from
  where
    to : (x : Arg) (ws : List Word) → IsNegative x ws ⊎ IsPlainArgument x ws → IsArgument x ws
    to x ws (inl p) = inl (p.0.0, p.0.1.value, p.0.1.at, p.1, p.2)
    to x ws (inr p) = inr p

    from : (x : Arg) (ws : List Word) → IsArgument x ws → IsNegative x ws ⊎ IsPlainArgument x ws
    from x ws (inl p) = inl ((p.0, record { at = p.2; value = p.1 }), p.3, p.4)
    from x ws (inr p) = inr p

-- the fact holds of an argument's words, where it holds of each word that one begins with
argument_opens : (Fact : List Word → Type 0) → At kinds.Minus Fact → ((value at : ℕ) (rest : List Word) → Fact (numeral value at ∷ rest)) → ((value : Bool) → At (truth_word value) Fact) → (x : Arg) → Opens (IsArgument x) Fact
argument_opens Fact of_minus of_number of_truth x ws rest (inl p) =
    then_opens (IsMarkAt kinds.Minus p.0) (IsNumeral p.1 p.2) Fact (placed_opens kinds.Minus p.0 Fact of_minus) ws rest p.4
argument_opens Fact of_minus of_number of_truth x ws rest (inr p) = plain_opens Fact of_number of_truth x ws rest p

abbrev pub IsLaterArgument : Rule Arg
IsLaterArgument argument = IsMark kinds.Comma ⌢ IsArgument argument

pub later_argument_reads : Reads IsLaterArgument later_argument_at Anything
unfolding later_argument_at
later_argument_reads =
    made_reads (Both (λ (unit : Unit {0}). IsMark kinds.Comma) IsArgument) (mark_at kinds.Comma ⊗ argument_at) Anything later_argument_of IsLaterArgument
    (mark_then kinds.Comma IsArgument argument_at Anything argument_reads)
    (λ x ws p. p)
    (λ y ws p. ((tt, y), refl, p))

pub later_argument_begins : (x : Arg) → Opens (IsLaterArgument x) (λ ws. begins kinds.Comma ws ≡ true)
later_argument_begins x = then_opens (IsMark kinds.Comma) (IsArgument x) (λ ws. begins kinds.Comma ws ≡ true) (mark_opens kinds.Comma (λ ws. begins kinds.Comma ws ≡ true) (begins_at kinds.Comma))

abbrev NoComma : List Word → Type 0
NoComma ws = begins kinds.Comma ws ≡ false

-- what follows the arguments: the parenthesis that closes them
abbrev Closes : List Word → Type 0
Closes ws = (begins kinds.CloseParen ws ≡ true) × NoComma ws

abbrev IsSome : Rule (List Arg)
IsSome = Made arguments_of (Both IsArgument (Each IsLaterArgument))

some_arguments_read : Reads IsSome some_arguments_at NoComma
unfolding some_arguments_at later_arguments_at
some_arguments_read =
    image_reads (Both IsArgument (Each IsLaterArgument)) (argument_at ⊗ each_at (begins kinds.Comma) later_argument_at) NoComma arguments_of
    (pair_reads IsArgument argument_at Anything (Each IsLaterArgument) (each_at (begins kinds.Comma) later_argument_at) NoComma argument_reads
    (before (Each IsLaterArgument) (each_at (begins kinds.Comma) later_argument_at) (λ ws. NoComma ws × Anything ws) NoComma (λ ws none. (none, tt))
    (each_reads (begins kinds.Comma) IsLaterArgument later_argument_at Anything (begins_heads kinds.Comma) (begins_none kinds.Comma) later_argument_reads later_argument_begins (λ ws h. tt)))
    (λ y taken rest is after. tt))

minus_no_close : At kinds.Minus (λ ws. begins kinds.CloseParen ws ≡ false)
unfolding begins
minus_no_close at rest = refl

number_no_close : (value at : ℕ) (rest : List Word) → begins kinds.CloseParen (numeral value at ∷ rest) ≡ false
unfolding begins
number_no_close value at rest = refl

truth_no_close : (value : Bool) → At (truth_word value) (λ ws. begins kinds.CloseParen ws ≡ false)
unfolding begins
truth_no_close true at rest = refl
truth_no_close false at rest = refl

some_opens : (x : List Arg) → Opens (IsSome x) (λ ws. begins kinds.CloseParen ws ≡ false)
some_opens x ws rest p =
    then_opens (IsArgument p.0.0) (Each IsLaterArgument p.0.1) (λ ws. begins kinds.CloseParen ws ≡ false)
    (argument_opens (λ ws. begins kinds.CloseParen ws ≡ false) minus_no_close number_no_close truth_no_close p.0.0) ws rest p.2

arguments_read : Reads AreArguments arguments_at Closes
unfolding arguments_at
arguments_read =
    same_reads (λ x ws. IsNothing x ws ⊎ IsSome x ws) AreArguments arguments_at Closes
    (choice_reads (begins kinds.CloseParen) IsNothing (pure_at []) Anything IsSome some_arguments_at NoComma Closes (begins_heads kinds.CloseParen) (pure_reads []) some_arguments_read
    (λ x taken rest p after. (ap (λ (f : List Word). begins kinds.CloseParen (f ++ rest)) p.1 ∙ after.0, tt))
    (λ x taken rest p after. (some_opens x taken rest p, after.1)))
    to from
  where
    IsNothing : Rule (List Arg)
    IsNothing x ws = (x ≡ []) × (ws ≡ [])

    to : (x : List Arg) (ws : List Word) → IsNothing x ws ⊎ IsSome x ws → AreArguments x ws
    to x ws (inl p) = subst (λ (y : List Arg). AreArguments y ws) (sym p.0) p.1
    to x ws (inr p) = subst (λ (y : List Arg). AreArguments y ws) (sym p.1) p.2

    from : (x : List Arg) (ws : List Word) → AreArguments x ws → IsNothing x ws ⊎ IsSome x ws
    from [] ws p = inl (refl, p)
    from (first ∷ rest) ws p = inr ((first, rest), refl, p)

-- ---- calls

paren_closes : At kinds.CloseParen Closes
unfolding begins
paren_closes at rest = (refl, refl)

-- what a call begins with
abbrev IsCalledSo : Rule CallHead
IsCalledSo called = IsCalled called.at called.tries called.name_at called.name

abbrev untried_from : ℕ → ℕ → List ℕ → CallHead
untried_from at place name = record { at = at; tries = false; name_at = place; name = name }

abbrev IsTried : Rule CallHead
IsTried = Made tried_of (Both (λ (at : ℕ). IsMarkAt kinds.KeyTry at) IsPlacedName)

abbrev IsUntried : Rule CallHead
IsUntried = Made untried_of IsPlacedName

tried_reads : Reads IsTried tried_at Anything
unfolding tried_at
tried_reads =
    image_reads (Both (λ (at : ℕ). IsMarkAt kinds.KeyTry at) IsPlacedName) (placed_at kinds.KeyTry ⊗ ident_at) Anything tried_of
    (placed_then kinds.KeyTry IsPlacedName ident_at Anything ident_reads)

name_no_try : (name : List ℕ) (at : ℕ) (rest : List Word) → begins kinds.KeyTry (ident name at ∷ rest) ≡ false
unfolding begins
name_no_try name at rest = refl

called_reads : Reads IsCalledSo called_at Anything
unfolding called_at
called_reads =
    same_reads (λ x ws. IsTried x ws ⊎ IsUntried x ws) IsCalledSo called_at Anything
    (choice_reads (begins kinds.KeyTry) IsTried tried_at Anything IsUntried (made_at untried_of ident_at) Anything Anything (begins_heads kinds.KeyTry) tried_reads
    (image_reads IsPlacedName ident_at Anything untried_of ident_reads)
    (λ x taken rest p after. (then_opens (IsMarkAt kinds.KeyTry p.0.0) (IsPlacedName p.0.1) (λ ws. begins kinds.KeyTry ws ≡ true) (placed_opens kinds.KeyTry p.0.0 (λ ws. begins kinds.KeyTry ws ≡ true) (begins_at kinds.KeyTry)) taken rest p.2, tt))
    (λ x taken rest p after. (ident_opens p.0.name p.0.at (λ ws. begins kinds.KeyTry ws ≡ false) (name_no_try p.0.name p.0.at) taken rest p.2, tt)))
    to (λ x ws p. from x.at x.tries x.name_at x.name ws p)
  where
    to : (x : CallHead) (ws : List Word) → IsTried x ws ⊎ IsUntried x ws → IsCalledSo x ws
    to x ws (inl p) = subst (λ (y : CallHead). IsCalledSo y ws) (sym p.1) p.2
    to x ws (inr p) = subst (λ (y : CallHead). IsCalledSo y ws) (sym p.1) (refl, p.2)

    from : (at : ℕ) (tries : Bool) (place : ℕ) (name : List ℕ) (ws : List Word) → IsCalled at tries place name ws
        → (let x : CallHead = record { at = at; tries = tries; name_at = place; name = name } in IsTried x ws ⊎ IsUntried x ws)
    from at true place name ws p = inl ((at, record { at = place; name = name }), refl, p)
    from at false place name ws p =
        inr (record { at = place; name = name }, ap (λ (n : ℕ). untried_from n place name) p.0, p.1)

pub call_reads : Reads IsCall call_at Anything
unfolding call_at
call_reads =
    made_reads (Both IsCalledSo IsOpened) (called_at ⊗ mark_at kinds.OpenParen ⊗ arguments_at ⊗ mark_at kinds.CloseParen ⊗ mark_at kinds.Semicolon) Anything call_of IsCall
    (pair_reads IsCalledSo called_at Anything IsOpened (mark_at kinds.OpenParen ⊗ arguments_at ⊗ mark_at kinds.CloseParen ⊗ mark_at kinds.Semicolon) Anything called_reads
    (mark_then kinds.OpenParen IsGiven (arguments_at ⊗ mark_at kinds.CloseParen ⊗ mark_at kinds.Semicolon) Anything
    (pair_reads AreArguments arguments_at Closes IsEnded (mark_at kinds.CloseParen ⊗ mark_at kinds.Semicolon) Anything arguments_read
    (mark_then kinds.CloseParen (λ (unit : Unit {0}). IsMark kinds.Semicolon) (mark_at kinds.Semicolon) Anything (mark_reads kinds.Semicolon))
    (λ y taken rest is after. then_opens (IsMark kinds.CloseParen) (IsMark kinds.Semicolon) Closes (mark_opens kinds.CloseParen Closes paren_closes) taken rest is)))
    (λ y taken rest is after. tt))
    (λ x ws p. (x.0.at, x.0.tries, x.0.name_at, x.0.name, x.1.1.0, refl, p))
    (λ y ws p. ((record { at = p.0; tries = p.1; name_at = p.2; name = p.3 }, (tt, (p.4, (tt, tt)))), p.5, p.6))
  where
    IsEnded : Rule (Unit {0} × Unit {0})
    IsEnded = Both (λ (unit : Unit {0}). IsMark kinds.CloseParen) (λ (unit : Unit {0}). IsMark kinds.Semicolon)

    IsGiven : Rule (List Arg × (Unit {0} × Unit {0}))
    IsGiven = Both AreArguments IsEnded

    IsOpened : Rule (Unit {0} × (List Arg × (Unit {0} × Unit {0})))
    IsOpened = Both (λ (unit : Unit {0}). IsMark kinds.OpenParen) IsGiven

-- the fact holds of a call's words, where it holds of each word that one begins with
called_opens : (Fact : List Word → Type 0) → At kinds.KeyTry Fact → ((name : List ℕ) (at : ℕ) (rest : List Word) → Fact (ident name at ∷ rest))
    → (at : ℕ) (tries : Bool) (place : ℕ) (name : List ℕ) → Opens (IsCalled at tries place name) Fact
called_opens Fact of_try of_name at true place name ws rest p = then_opens (IsMarkAt kinds.KeyTry at) (IsIdent name place) Fact (placed_opens kinds.KeyTry at Fact of_try) ws rest p
called_opens Fact of_try of_name at false place name ws rest p = ident_opens name place Fact (of_name name place) ws rest p.1

call_opens : (Fact : List Word → Type 0) → At kinds.KeyTry Fact → ((name : List ℕ) (at : ℕ) (rest : List Word) → Fact (ident name at ∷ rest)) → (x : Item) → Opens (IsCall x) Fact
call_opens Fact of_try of_name x ws rest p =
    then_opens (IsCalled p.0 p.1 p.2 p.3) (IsMark kinds.OpenParen ⌢ AreArguments p.4 ⌢ IsMark kinds.CloseParen ⌢ IsMark kinds.Semicolon) Fact (called_opens Fact of_try of_name p.0 p.1 p.2 p.3) ws rest p.6

-- ---- repeats

brace_no_item : At kinds.CloseBrace (λ ws. (begins_item ws ≡ false) × Anything ws)
unfolding begins_item begins begins_ident
brace_no_item at rest = (refl, tt)

pub no_item : begins_item [] ≡ false
unfolding begins_item begins begins_ident
no_item = refl

pub items_read : (IsInner : Rule Item) (inner : List Word → Read Item) → Reads IsInner inner Anything → ((x : Item) → Opens (IsInner x) (λ ws. begins_item ws ≡ true))
    → Reads (IsBlock IsInner) (items_at inner) Anything
unfolding items_at
items_read IsInner inner r begin = braces_reads begins_item IsInner inner Anything item_heads no_item r begin (λ ws h. tt) brace_no_item

repeat_reads : (IsInner : Rule Item) (inner : List Word → Read Item) → Reads (IsBlock IsInner) (items_at inner) Anything → Reads (IsRepeat IsInner) (repeat_at inner) Anything
unfolding repeat_at
repeat_reads IsInner inner r =
    made_reads (Both (λ (at : ℕ). IsMarkAt kinds.KeyRepeat at) IsTimes) (placed_at kinds.KeyRepeat ⊗ numeral_at ⊗ items_at inner) Anything repeat_of (IsRepeat IsInner)
    (placed_then kinds.KeyRepeat IsTimes (numeral_at ⊗ items_at inner) Anything (numeral_then (IsBlock IsInner) (items_at inner) Anything r))
    (λ x ws p. (x.0, x.1.0.value, x.1.0.at, x.1.1, refl, p))
    (λ y ws p. ((p.0, (record { at = p.2; value = p.1 }, p.3)), p.4, p.5))
  where
    IsTimes : Rule (PlacedNumber × List Item)
    IsTimes = Both IsPlacedNumber (IsBlock IsInner)

repeat_opens : (IsInner : Rule Item) (Fact : List Word → Type 0) → At kinds.KeyRepeat Fact → (x : Item) → Opens (IsRepeat IsInner x) Fact
repeat_opens IsInner Fact so x ws rest p =
    then_opens (IsMarkAt kinds.KeyRepeat p.0) (IsNumeral p.1 p.2 ⌢ IsBlock IsInner p.3) Fact (placed_opens kinds.KeyRepeat p.0 Fact so) ws rest p.5

-- ---- items

name_begins : (name : List ℕ) (at : ℕ) (rest : List Word) → begins_item (ident name at ∷ rest) ≡ true
unfolding begins_item begins begins_ident
name_begins name at rest = refl

try_begins : At kinds.KeyTry (λ ws. begins_item ws ≡ true)
unfolding begins_item begins begins_ident
try_begins at rest = refl

repeat_begins : At kinds.KeyRepeat (λ ws. begins_item ws ≡ true)
unfolding begins_item begins begins_ident
repeat_begins at rest = refl

name_no_repeat : (name : List ℕ) (at : ℕ) (rest : List Word) → begins kinds.KeyRepeat (ident name at ∷ rest) ≡ false
unfolding begins
name_no_repeat name at rest = refl

try_no_repeat : At kinds.KeyTry (λ ws. begins kinds.KeyRepeat ws ≡ false)
unfolding begins
try_no_repeat at rest = refl

pub item_begins : (levels : ℕ) (x : Item) → Opens (IsItem levels x) (λ ws. begins_item ws ≡ true)
item_begins zero x ws rest p = call_opens (λ ws. begins_item ws ≡ true) try_begins name_begins x ws rest p
item_begins (suc levels) x ws rest (inl p) = call_opens (λ ws. begins_item ws ≡ true) try_begins name_begins x ws rest p
item_begins (suc levels) x ws rest (inr p) = repeat_opens (IsItem levels) (λ ws. begins_item ws ≡ true) repeat_begins x ws rest p

outer_reads : (IsInner : Rule Item) (inner : List Word → Read Item) → Reads (IsBlock IsInner) (items_at inner) Anything
    → Reads (λ x ws. IsCall x ws ⊎ IsRepeat IsInner x ws) (choice_at (begins kinds.KeyRepeat) (repeat_at inner) call_at) Anything
outer_reads IsInner inner r =
    same_reads (λ x ws. IsRepeat IsInner x ws ⊎ IsCall x ws) (λ x ws. IsCall x ws ⊎ IsRepeat IsInner x ws) (choice_at (begins kinds.KeyRepeat) (repeat_at inner) call_at) Anything
    (choice_reads (begins kinds.KeyRepeat) (IsRepeat IsInner) (repeat_at inner) Anything IsCall call_at Anything Anything (begins_heads kinds.KeyRepeat) (repeat_reads IsInner inner r) call_reads
    (λ x taken rest p after. (repeat_opens IsInner (λ ws. begins kinds.KeyRepeat ws ≡ true) (begins_at kinds.KeyRepeat) x taken rest p, tt))
    (λ x taken rest p after. (call_opens (λ ws. begins kinds.KeyRepeat ws ≡ false) try_no_repeat name_no_repeat x taken rest p, tt)))
    to from
  where
    to : (x : Item) (ws : List Word) → IsRepeat IsInner x ws ⊎ IsCall x ws → IsCall x ws ⊎ IsRepeat IsInner x ws
    to x ws (inl p) = inr p
    to x ws (inr p) = inl p

    from : (x : Item) (ws : List Word) → IsCall x ws ⊎ IsRepeat IsInner x ws → IsRepeat IsInner x ws ⊎ IsCall x ws
    from x ws (inl p) = inr p
    from x ws (inr p) = inl p

pub item_reads : (levels : ℕ) → Reads (IsItem levels) (item_at levels) Anything
unfolding item_at
item_reads zero = call_reads
item_reads (suc levels) = outer_reads (IsItem levels) (item_at levels) (items_read (IsItem levels) (item_at levels) (item_reads levels) (item_begins levels))

-- a block of items
pub item_block_reads : (levels : ℕ) → Reads (IsBlock (IsItem levels)) (items_at (item_at levels)) Anything
item_block_reads levels = items_read (IsItem levels) (item_at levels) (item_reads levels) (item_begins levels)
