-- Reading from left to right, with how many words are left at the first that does not fit: single
-- words, and how readers are put together.
use Rattle.std.specs.Prelude.{◌≡◌, ℕ, zero, suc, Bool, true, false, ◌-◌, List, [], ◌∷◌, length}
use Rattle.std.specs.Prelude.{drop, All, Option, Some, None, Result, Ok, Err, ◌==◌, if◌then◌else◌}
use Rattle.std.specs.Str.{bytes_eq}
use Rattle.lang_base.specs.SourceFaults.{fault_at}
use Rattle.lang_base.specs.declared.kind.Kind.{Kind}
use Rattle.lang_base.specs.declared.kind.Kind.TheVariants as inputs
use Rattle.lang_base.specs.declared.source_fault.Refusal.TheVariants as refusals
use Rattle.lang_base.specs.declared.source_fault.SourceError.{SourceError}
use Rattle.lang_base.specs.declared.source_fault.SourceError.TheVariants as errors
use Rattle.lang_tokens.specs.declared.token.TokenKind.{TokenKind}
use Rattle.lang_tokens.specs.declared.token.TokenKind.TheVariants as kinds
use Rattle.lang_tokens.specs.declared.token.Token.{Token}
use Rattle.lang_tokens.specs.Spelling.{IsToken}
use Rattle.lang_tokens.specs.Words.{Word, ident, numeral, mark}
use Rattle.lang_tree.specs.declared.tree.LimitSign.{LimitSign}
use Rattle.lang_tree.specs.declared.tree.LimitSign.TheVariants as signs
use Rattle.lang_tree.specs.declared.tree.PlacedName.{PlacedName}
use Rattle.lang_tree.specs.declared.tree.Op.{Op}
use Rattle.lang_tree.specs.declared.tree.Op.TheVariants as ops
use Rattle.lang_tree.specs.declared.tree.Expr.{Expr}
use Rattle.lang_tree.specs.declared.tree.Expr.TheVariants as exprs
use Rattle.lang_tree.specs.declared.tree.Arg.{Arg}
use Rattle.lang_tree.specs.declared.tree.Arg.TheVariants as args
use Rattle.lang_cursor.specs.declared.fault.Stop.{Stop}
use Rattle.lang_cursor.specs.declared.fault.Stop.TheVariants as stops
use Rattle.lang_cursor.specs.declared.word.PlacedNumber.{PlacedNumber}
use Rattle.lang_cursor.specs.Arguments.{plain}

-- what was read, and then what is read of it; a fault stays
infixl 10 ◌>>=◌
abbrev pub ◌>>=◌ : {A B : Type 0} → Result A ℕ → (A → Result B ℕ) → Result B ℕ
(Ok x) >>= f = f x
(Err left) >>= f = Err left

-- What a function returned is what reading gives, unless memory ran out.
abbrev pub Fails : {Y : Type 0} → Stop → Result Y ℕ → Type 0
Fails stops.OutOfMemory read = Unit {0}
Fails (stops.Before left) read = read ≡ Err left

-- the same of a function that leaves no words
abbrev pub Gives : {Y : Type 0} → Result Y Stop → Result Y ℕ → Type 0
Gives (Ok y) read = read ≡ Ok y
Gives (Err stop) read = Fails stop read

-- the offset of the first of these tokens, or the end's
abbrev pub first_offset : List ℕ → List Token → ℕ
first_offset bytes [] = length bytes
first_offset bytes (token ∷ rest) = token.at

-- the error that a stop becomes: a fault stands where so many tokens are left
abbrev pub IsFaultOf : List ℕ → List Token → Stop → SourceError → Type 0
IsFaultOf bytes tokens (stops.Before left) error =
    let at = first_offset bytes (drop (length tokens - left) tokens) in
    error ≡ errors.Fault (fault_at refusals.Syntax at)
IsFaultOf bytes tokens stops.OutOfMemory error = error ≡ errors.OutOfMemory

-- each token is one of these bytes
unfoldable pub AreTokens : List ℕ → List Token → Type 0
AreTokens bytes tokens = All (IsToken bytes) tokens

-- the number of a kind
abbrev pub code : TokenKind → ℕ
code kinds.Ident = 0
code kinds.Number = 1
code kinds.KeyMonitor = 2
code kinds.KeyConst = 3
code kinds.KeyInt = 4
code kinds.KeyBool = 5
code kinds.KeyTrue = 6
code kinds.KeyFalse = 7
code kinds.KeyMethod = 8
code kinds.KeyWaituntil = 9
code kinds.KeyIf = 10
code kinds.KeyElse = 11
code kinds.KeyReturn = 12
code kinds.KeyClient = 13
code kinds.KeyRepeat = 14
code kinds.KeyTry = 15
code kinds.KeyLocal = 16
code kinds.OpenBrace = 17
code kinds.CloseBrace = 18
code kinds.OpenParen = 19
code kinds.CloseParen = 20
code kinds.Semicolon = 21
code kinds.Comma = 22
code kinds.Assign = 23
code kinds.Equal = 24
code kinds.Differs = 25
code kinds.Less = 26
code kinds.AtMost = 27
code kinds.More = 28
code kinds.AtLeast = 29
code kinds.And = 30
code kinds.Or = 31
code kinds.Not = 32
code kinds.Plus = 33
code kinds.Minus = 34
code kinds.Star = 35

-- are these kinds one?
abbrev pub is_kind : TokenKind → TokenKind → Bool
is_kind a b = code a == code b

-- a keyword or a sign: no name and no number
abbrev pub IsMarkKind : TokenKind → Type 0
IsMarkKind kind = (is_kind kinds.Ident kind ≡ false) × (is_kind kinds.Number kind ≡ false)

-- what was read, and the words after it
abbrev pub Read : Type 0 → Type 0
Read A = Result (A × List Word) ℕ

-- ---- how readers are put together

-- the one, and then the other
infixr 20 ◌⊗◌
abbrev pub ◌⊗◌ : {A B : Type 0} → (List Word → Read A) → (List Word → Read B) → List Word
    → Read (A × B)
(first ⊗ second) ws = first ws >>= λ a. second a.1 >>= λ b. Ok ((a.0, b.0), b.1)

-- what is made of what was read
abbrev pub made_at : {A B : Type 0} → (A → B) → (List Word → Read A) → List Word → Read B
made_at make read ws = read ws >>= λ a. Ok (make a.0, a.1)

-- the one where it begins so, and the other elsewhere
abbrev pub choice_at : {A : Type 0} → (List Word → Bool) → (List Word → Read A)
    → (List Word → Read A) → List Word → Read A
choice_at starts first second ws = if starts ws then first ws else second ws

-- no words
abbrev pub pure_at : {A : Type 0} → A → List Word → Read A
pure_at tree ws = Ok (tree, ws)

-- item after item, while another one begins; fuel is at least the number of words
unfoldable pub many_at : {A : Type 0} → (List Word → Bool) → (List Word → Read A) → ℕ → List Word
    → Read (List A)
many_at starts item zero ws = Ok ([], ws)
many_at starts item (suc fuel) ws = if starts ws then (do
  first ← item ws
  others ← many_at starts item fuel first.1
  Ok (first.0 ∷ others.0, others.1)) else Ok ([], ws)

-- the items at the front, one after the other
abbrev pub each_at : {A : Type 0} → (List Word → Bool) → (List Word → Read A) → List Word
    → Read (List A)
each_at starts item ws = many_at starts item (length ws) ws

-- all of the words
abbrev pub whole : {A : Type 0} → Read A → Result A ℕ
whole read = do
  tree ← read
  if length tree.1 == 0 then Ok tree.0 else Err (length tree.1)

-- ---- one word

-- a keyword or a sign of this kind, with its offset
unfoldable pub placed_at : TokenKind → List Word → Read ℕ
placed_at kind [] = Err 0
placed_at kind (mark k at ∷ rest) =
    if is_kind k kind then Ok (at, rest) else Err (suc (length rest))
placed_at kind (ident name at ∷ rest) = Err (suc (length rest))
placed_at kind (numeral value at ∷ rest) = Err (suc (length rest))

-- a keyword or a sign of this kind
unfoldable pub mark_at : TokenKind → List Word → Read (Unit {0})
mark_at kind [] = Err 0
mark_at kind (mark k at ∷ rest) = if is_kind k kind then Ok (tt, rest) else Err (suc (length rest))
mark_at kind (ident name at ∷ rest) = Err (suc (length rest))
mark_at kind (numeral value at ∷ rest) = Err (suc (length rest))

-- ID
unfoldable pub ident_at : List Word → Read PlacedName
ident_at [] = Err 0
ident_at (mark k at ∷ rest) = Err (suc (length rest))
ident_at (ident name at ∷ rest) = Ok (record { at = at; name = name }, rest)
ident_at (numeral value at ∷ rest) = Err (suc (length rest))

-- a name of these letters, with its offset
unfoldable pub spelled_at : List ℕ → List Word → Read ℕ
spelled_at letters [] = Err 0
spelled_at letters (mark k at ∷ rest) = Err (suc (length rest))
spelled_at letters (ident name at ∷ rest) =
    if bytes_eq name letters then Ok (at, rest) else Err (suc (length rest))
spelled_at letters (numeral value at ∷ rest) = Err (suc (length rest))

-- NUM
unfoldable pub numeral_at : List Word → Read PlacedNumber
numeral_at [] = Err 0
numeral_at (mark k at ∷ rest) = Err (suc (length rest))
numeral_at (ident name at ∷ rest) = Err (suc (length rest))
numeral_at (numeral value at ∷ rest) = Ok (record { at = at; value = value }, rest)

-- "{" item* "}"
abbrev pub body_of : {A : Type 0} → Unit {0} × (List A × Unit {0}) → List A
body_of (left, (body, right)) = body

abbrev pub braces_at : {A : Type 0} → (List Word → Bool) → (List Word → Read A) → List Word
    → Read (List A)
braces_at starts item =
    made_at body_of (mark_at kinds.OpenBrace ⊗ each_at starts item ⊗ mark_at kinds.CloseBrace)

-- what a table says of the keyword or sign that comes next
abbrev pub found_or : {A : Type 0} → Option A → List Word → ℕ → Read A
found_or (Some a) rest left = Ok (a, rest)
found_or None rest left = Err left

-- one of a table
unfoldable pub listed_at : {A : Type 0} → (TokenKind → Option A) → List Word → Read A
listed_at table [] = Err 0
listed_at table (mark k at ∷ rest) = found_or (table k) rest (suc (length rest))
listed_at table (ident name at ∷ rest) = Err (suc (length rest))
listed_at table (numeral value at ∷ rest) = Err (suc (length rest))

-- the truth value of a keyword
abbrev pub truth_of : TokenKind → Option Bool
truth_of kinds.KeyTrue = Some true
truth_of kinds.KeyFalse = Some false
truth_of kind = None

-- the comparison of a sign
abbrev pub op_of : TokenKind → Option Op
op_of kinds.Equal = Some ops.Equal
op_of kinds.Differs = Some ops.Differs
op_of kinds.Less = Some ops.Less
op_of kinds.AtMost = Some ops.AtMost
op_of kinds.More = Some ops.More
op_of kinds.AtLeast = Some ops.AtLeast
op_of kind = None

-- how a parameter compares with its bound, by the sign
abbrev pub limit_sign_of : TokenKind → Option LimitSign
limit_sign_of kinds.Equal = Some signs.Equal
limit_sign_of kinds.Less = Some signs.Less
limit_sign_of kinds.AtMost = Some signs.AtMost
limit_sign_of kinds.More = Some signs.More
limit_sign_of kinds.AtLeast = Some signs.AtLeast
limit_sign_of kind = None

-- is it a minus, where it is a plus or a minus?
abbrev pub minus_of : TokenKind → Option Bool
minus_of kinds.Plus = Some false
minus_of kinds.Minus = Some true
minus_of kind = None

-- what a parameter of this keyword takes
abbrev pub kind_of : TokenKind → Option Kind
kind_of kinds.KeyInt = Some inputs.Int
kind_of kinds.KeyBool = Some inputs.Bool
kind_of kind = None

-- ---- what comes next

-- does a keyword or sign of this kind come next?
unfoldable pub begins : TokenKind → List Word → Bool
begins kind [] = false
begins kind (mark k at ∷ rest) = is_kind k kind
begins kind (ident name at ∷ rest) = false
begins kind (numeral value at ∷ rest) = false

abbrev pub is_listed : {A : Type 0} → Option A → Bool
is_listed (Some a) = true
is_listed None = false

-- does one of a table come next?
unfoldable pub begins_listed : {A : Type 0} → (TokenKind → Option A) → List Word → Bool
begins_listed table [] = false
begins_listed table (mark k at ∷ rest) = is_listed (table k)
begins_listed table (ident name at ∷ rest) = false
begins_listed table (numeral value at ∷ rest) = false

-- does a name come next?
unfoldable pub begins_ident : List Word → Bool
begins_ident [] = false
begins_ident (mark k at ∷ rest) = false
begins_ident (ident name at ∷ rest) = true
begins_ident (numeral value at ∷ rest) = false

-- does a name of these letters come next?
unfoldable pub begins_spelled : List ℕ → List Word → Bool
begins_spelled letters [] = false
begins_spelled letters (mark k at ∷ rest) = false
begins_spelled letters (ident name at ∷ rest) = bytes_eq name letters
begins_spelled letters (numeral value at ∷ rest) = false

-- ---- words that are trees by themselves

-- the truth value of a keyword as an expression
abbrev pub atom_from : Option Bool → ℕ → List Word → Read Expr
atom_from (Some value) at rest = Ok (exprs.Truth at value, rest)
atom_from None at rest = Err (suc (length rest))

-- NUM | "true" | "false" | ID
unfoldable pub atom_at : List Word → Read Expr
atom_at [] = Err 0
atom_at (mark k at ∷ rest) = atom_from (truth_of k) at rest
atom_at (ident name at ∷ rest) = Ok (exprs.Named at name, rest)
atom_at (numeral value at ∷ rest) = Ok (exprs.Number at value, rest)

-- the truth value of a keyword as an argument
abbrev pub truth_argument_from : Option Bool → ℕ → List Word → Read Arg
truth_argument_from (Some value) at rest = Ok (args.Bool at value, rest)
truth_argument_from None at rest = Err (suc (length rest))

-- NUM | "true" | "false"
unfoldable pub plain_argument_at : List Word → Read Arg
plain_argument_at [] = Err 0
plain_argument_at (mark k at ∷ rest) = truth_argument_from (truth_of k) at rest
plain_argument_at (ident name at ∷ rest) = Err (suc (length rest))
plain_argument_at (numeral value at ∷ rest) = Ok (plain at value, rest)
