-- The readers of single words, and what the tests of the next word say.
use Rattle.std.proofs.Common.{◌≡◌, ℕ, suc, Bool, true, false, List, [], ◌∷◌, length, get_or, Option, Some, None, Ok, Err, refl, sym, ap, ◌∙◌, inl, inr}
use Rattle.std.specs.Prelude.{◌⊎◌}
use Rattle.std.specs.Str.{bytes_eq}
use Rattle.std.proofs.lemmas.Bool.{eqb-true, eq-eqb}
use Rattle.std.proofs.lemmas.Slice.Eq.{bytes_eq-Decides}
use Rattle.lang_tokens.specs.declared.token.TokenKind.{TokenKind}
use Rattle.lang_tokens.specs.declared.token.TokenKind.TheVariants as kinds
use Rattle.lang_base.specs.declared.kind.Kind.{Kind}
use Rattle.lang_base.specs.declared.kind.Kind.TheVariants as inputs
use Rattle.lang_tree.specs.declared.tree.LimitSign.{LimitSign}
use Rattle.lang_tree.specs.declared.tree.LimitSign.TheVariants as signs
use Rattle.lang_tree.specs.declared.tree.Op.{Op}
use Rattle.lang_tree.specs.declared.tree.Op.TheVariants as ops
use Rattle.lang_tree.specs.declared.tree.Expr.{Expr}
use Rattle.lang_tree.specs.declared.tree.Expr.TheVariants as exprs
use Rattle.lang_tree.specs.declared.tree.Arg.{Arg}
use Rattle.lang_tree.specs.declared.tree.Arg.TheVariants as args
use Rattle.lang_tree.specs.declared.tree.PlacedName.{PlacedName}
use Rattle.lang_cursor.specs.declared.word.PlacedNumber.{PlacedNumber}
use Rattle.lang_tokens.specs.Words.{Word, ident, numeral, mark}
use Rattle.lang_syntax.specs.Grammar.{Rule, IsIdent, IsNumeral, IsMarkAt, IsMark, truth_word, op_sign, limit_sign, sum_sign, kind_word, IsAtom}
use Rattle.lang_cursor.specs.Arguments.{plain}
use Rattle.lang_cursor.specs.Reading.{code, is_kind, placed_at, mark_at, ident_at, spelled_at, numeral_at, listed_at, truth_of, op_of, limit_sign_of, minus_of, kind_of, begins, is_listed, begins_listed, begins_ident, begins_spelled, atom_at, plain_argument_at}
use Rattle.lang_syntax.specs.inner.Reading.{begins_statement, begins_item, begins_declaration}
use Rattle.lang_syntax.proofs.Readers.{Reads, Anything, Heads, One, one_reads}

-- ---- kinds

all_kinds : List TokenKind
all_kinds = kinds.Ident ∷ kinds.Number ∷ kinds.KeyMonitor ∷ kinds.KeyConst ∷ kinds.KeyInt ∷ kinds.KeyBool ∷ kinds.KeyTrue ∷ kinds.KeyFalse ∷ kinds.KeyMethod ∷ kinds.KeyWaituntil ∷ kinds.KeyIf ∷ kinds.KeyElse ∷ kinds.KeyReturn ∷ kinds.KeyClient ∷ kinds.KeyRepeat ∷ kinds.KeyTry ∷ kinds.KeyLocal ∷ kinds.OpenBrace ∷ kinds.CloseBrace ∷ kinds.OpenParen ∷ kinds.CloseParen ∷ kinds.Semicolon ∷ kinds.Comma ∷ kinds.Assign ∷ kinds.Equal ∷ kinds.Differs ∷ kinds.Less ∷ kinds.AtMost ∷ kinds.More ∷ kinds.AtLeast ∷ kinds.And ∷ kinds.Or ∷ kinds.Not ∷ kinds.Plus ∷ kinds.Minus ∷ kinds.Star ∷ []

decode : ℕ → TokenKind
unfolding all_kinds
decode n = get_or all_kinds n kinds.Ident

decode-code : (k : TokenKind) → decode (code k) ≡ k
unfolding decode all_kinds
decode-code kinds.Ident = refl
decode-code kinds.Number = refl
decode-code kinds.KeyMonitor = refl
decode-code kinds.KeyConst = refl
decode-code kinds.KeyInt = refl
decode-code kinds.KeyBool = refl
decode-code kinds.KeyTrue = refl
decode-code kinds.KeyFalse = refl
decode-code kinds.KeyMethod = refl
decode-code kinds.KeyWaituntil = refl
decode-code kinds.KeyIf = refl
decode-code kinds.KeyElse = refl
decode-code kinds.KeyReturn = refl
decode-code kinds.KeyClient = refl
decode-code kinds.KeyRepeat = refl
decode-code kinds.KeyTry = refl
decode-code kinds.KeyLocal = refl
decode-code kinds.OpenBrace = refl
decode-code kinds.CloseBrace = refl
decode-code kinds.OpenParen = refl
decode-code kinds.CloseParen = refl
decode-code kinds.Semicolon = refl
decode-code kinds.Comma = refl
decode-code kinds.Assign = refl
decode-code kinds.Equal = refl
decode-code kinds.Differs = refl
decode-code kinds.Less = refl
decode-code kinds.AtMost = refl
decode-code kinds.More = refl
decode-code kinds.AtLeast = refl
decode-code kinds.And = refl
decode-code kinds.Or = refl
decode-code kinds.Not = refl
decode-code kinds.Plus = refl
decode-code kinds.Minus = refl
decode-code kinds.Star = refl

pub same_kind : (a b : TokenKind) → is_kind a b ≡ true → a ≡ b
same_kind a b h = sym (decode-code a) ∙ ap decode (eqb-true _ _ h) ∙ decode-code b

pub same_is_kind : (k : TokenKind) → is_kind k k ≡ true
same_is_kind k = eq-eqb (code k) (code k) refl

-- ---- keywords and signs

pub placed_one : (kind : TokenKind) → One (λ at. IsMarkAt kind at) (placed_at kind)
unfolding placed_at
placed_one kind = record {
  nothing = refl;
  word = by_word;
  again = λ at ws is. (mark kind at, is, λ rest. rw (same_is_kind kind) refl);
  example = record { made = 0; words = mark kind 0 ∷ []; is = refl };
}
  where
    by_test : (k : TokenKind) (at : ℕ) (t : Bool) → is_kind k kind ≡ t
        → ((rest : List Word) → placed_at kind (mark k at ∷ rest) ≡ Err (suc (length rest)))
        ⊎ ((x : ℕ) × ((rest : List Word) → placed_at kind (mark k at ∷ rest) ≡ Ok (x, rest)) × IsMarkAt kind x (mark k at ∷ []))
    by_test k at true h = inr (at, λ rest. rw h refl, ap (λ (j : TokenKind). mark j at ∷ []) (same_kind k kind h))
    by_test k at false h = inl (λ rest. rw h refl)

    by_word : (w : Word) → ((rest : List Word) → placed_at kind (w ∷ rest) ≡ Err (suc (length rest))) ⊎ ((x : ℕ) × ((rest : List Word) → placed_at kind (w ∷ rest) ≡ Ok (x, rest)) × IsMarkAt kind x (w ∷ []))
    by_word (mark k at) = by_test k at (is_kind k kind) refl
    by_word (ident name at) = inl (λ rest. refl)
    by_word (numeral value at) = inl (λ rest. refl)

pub placed_reads : (kind : TokenKind) → Reads (λ at. IsMarkAt kind at) (placed_at kind) Anything
placed_reads kind = one_reads (λ at. IsMarkAt kind at) (placed_at kind) (placed_one kind)

pub mark_one : (kind : TokenKind) → One (λ unit. IsMark kind) (mark_at kind)
unfolding mark_at
mark_one kind = record {
  nothing = refl;
  word = by_word;
  again = λ unit ws is. (mark kind is.0, is.1, λ rest. rw (same_is_kind kind) refl);
  example = record { made = tt; words = mark kind 0 ∷ []; is = (0, refl) };
}
  where
    by_test : (k : TokenKind) (at : ℕ) (t : Bool) → is_kind k kind ≡ t
        → ((rest : List Word) → mark_at kind (mark k at ∷ rest) ≡ Err (suc (length rest)))
        ⊎ ((x : Unit {0}) × ((rest : List Word) → mark_at kind (mark k at ∷ rest) ≡ Ok (x, rest)) × IsMark kind (mark k at ∷ []))
    by_test k at true h = inr (tt, λ rest. rw h refl, (at, ap (λ (j : TokenKind). mark j at ∷ []) (same_kind k kind h)))
    by_test k at false h = inl (λ rest. rw h refl)

    by_word : (w : Word) → ((rest : List Word) → mark_at kind (w ∷ rest) ≡ Err (suc (length rest))) ⊎ ((x : Unit {0}) × ((rest : List Word) → mark_at kind (w ∷ rest) ≡ Ok (x, rest)) × IsMark kind (w ∷ []))
    by_word (mark k at) = by_test k at (is_kind k kind) refl
    by_word (ident name at) = inl (λ rest. refl)
    by_word (numeral value at) = inl (λ rest. refl)

pub mark_reads : (kind : TokenKind) → Reads (λ unit. IsMark kind) (mark_at kind) Anything
mark_reads kind = one_reads (λ unit. IsMark kind) (mark_at kind) (mark_one kind)

-- ---- names and numbers

abbrev pub IsPlacedName : Rule PlacedName
IsPlacedName n = IsIdent n.name n.at

pub ident_one : One IsPlacedName ident_at
unfolding ident_at
ident_one = record {
  nothing = refl;
  word = by_word;
  again = λ n ws is. (ident n.name n.at, is, λ rest. refl);
  example = record { made = record { at = 0; name = [] }; words = ident [] 0 ∷ []; is = refl };
}
  where
    by_word : (w : Word) → ((rest : List Word) → ident_at (w ∷ rest) ≡ Err (suc (length rest))) ⊎ ((x : PlacedName) × ((rest : List Word) → ident_at (w ∷ rest) ≡ Ok (x, rest)) × IsPlacedName x (w ∷ []))
    by_word (mark k at) = inl (λ rest. refl)
    by_word (ident name at) = inr (record { at = at; name = name }, λ rest. refl, refl)
    by_word (numeral value at) = inl (λ rest. refl)

pub ident_reads : Reads IsPlacedName ident_at Anything
ident_reads = one_reads IsPlacedName ident_at ident_one

same_letters : (letters : List ℕ) → bytes_eq letters letters ≡ true
same_letters letters = (bytes_eq-Decides letters letters).1 refl

-- a name of these letters
pub spelled_one : (letters : List ℕ) → One (λ at. IsIdent letters at) (spelled_at letters)
unfolding spelled_at
spelled_one letters = record {
  nothing = refl;
  word = by_word;
  again = λ at ws is. (ident letters at, is, λ rest. rw (same_letters letters) refl);
  example = record { made = 0; words = ident letters 0 ∷ []; is = refl };
}
  where
    by_test : (name : List ℕ) (at : ℕ) (t : Bool) → bytes_eq name letters ≡ t
        → ((rest : List Word) → spelled_at letters (ident name at ∷ rest) ≡ Err (suc (length rest)))
        ⊎ ((x : ℕ) × ((rest : List Word) → spelled_at letters (ident name at ∷ rest) ≡ Ok (x, rest)) × IsIdent letters x (ident name at ∷ []))
    by_test name at true h = inr (at, λ rest. rw h refl, ap (λ (n : List ℕ). ident n at ∷ []) ((bytes_eq-Decides name letters).0 h))
    by_test name at false h = inl (λ rest. rw h refl)

    by_word : (w : Word) → ((rest : List Word) → spelled_at letters (w ∷ rest) ≡ Err (suc (length rest))) ⊎ ((x : ℕ) × ((rest : List Word) → spelled_at letters (w ∷ rest) ≡ Ok (x, rest)) × IsIdent letters x (w ∷ []))
    by_word (mark k at) = inl (λ rest. refl)
    by_word (ident name at) = by_test name at (bytes_eq name letters) refl
    by_word (numeral value at) = inl (λ rest. refl)

pub spelled_reads : (letters : List ℕ) → Reads (λ at. IsIdent letters at) (spelled_at letters) Anything
spelled_reads letters = one_reads (λ at. IsIdent letters at) (spelled_at letters) (spelled_one letters)

pub begins_letters : (letters : List ℕ) (at : ℕ) (rest : List Word) → begins_spelled letters (ident letters at ∷ rest) ≡ true
unfolding begins_spelled
begins_letters letters at rest = same_letters letters

abbrev pub IsPlacedNumber : Rule PlacedNumber
IsPlacedNumber n = IsNumeral n.value n.at

pub numeral_one : One IsPlacedNumber numeral_at
unfolding numeral_at
numeral_one = record {
  nothing = refl;
  word = by_word;
  again = λ n ws is. (numeral n.value n.at, is, λ rest. refl);
  example = record { made = record { at = 0; value = 0 }; words = numeral 0 0 ∷ []; is = refl };
}
  where
    by_word : (w : Word) → ((rest : List Word) → numeral_at (w ∷ rest) ≡ Err (suc (length rest))) ⊎ ((x : PlacedNumber) × ((rest : List Word) → numeral_at (w ∷ rest) ≡ Ok (x, rest)) × IsPlacedNumber x (w ∷ []))
    by_word (mark k at) = inl (λ rest. refl)
    by_word (ident name at) = inl (λ rest. refl)
    by_word (numeral value at) = inr (record { at = at; value = value }, λ rest. refl, refl)

pub numeral_reads : Reads IsPlacedNumber numeral_at Anything
numeral_reads = one_reads IsPlacedNumber numeral_at numeral_one

-- ---- one of a table

-- what the table says of a kind is a thing that the kind is the word of
abbrev pub IfListed : {A : Type 0} → (A → TokenKind) → Option A → TokenKind → Type 0
IfListed word None k = Unit {0}
IfListed word (Some a) k = k ≡ word a

listed_one : {A : Type 0} (table : TokenKind → Option A) (word : A → TokenKind) → ((k : TokenKind) → IfListed word (table k) k) → ((a : A) → table (word a) ≡ Some a) → A
    → One (λ a. IsMark (word a)) (listed_at table)
unfolding listed_at
listed_one {A} table word is_word is_listed some = record {
  nothing = refl;
  word = by_word;
  again = λ a ws is. (mark (word a) is.0, is.1, λ rest. rw (is_listed a) refl);
  example = record { made = some; words = mark (word some) 0 ∷ []; is = (0, refl) };
}
  where
    by_table : (k : TokenKind) (at : ℕ) (o : Option A) → table k ≡ o → IfListed word o k
        → ((rest : List Word) → listed_at table (mark k at ∷ rest) ≡ Err (suc (length rest)))
        ⊎ ((x : A) × ((rest : List Word) → listed_at table (mark k at ∷ rest) ≡ Ok (x, rest)) × IsMark (word x) (mark k at ∷ []))
    by_table k at (Some a) h is = inr (a, λ rest. rw h refl, (at, ap (λ (j : TokenKind). mark j at ∷ []) is))
    by_table k at None h is = inl (λ rest. rw h refl)

    by_word : (w : Word) → ((rest : List Word) → listed_at table (w ∷ rest) ≡ Err (suc (length rest))) ⊎ ((x : A) × ((rest : List Word) → listed_at table (w ∷ rest) ≡ Ok (x, rest)) × IsMark (word x) (w ∷ []))
    by_word (mark k at) = by_table k at (table k) refl (is_word k)
    by_word (ident name at) = inl (λ rest. refl)
    by_word (numeral value at) = inl (λ rest. refl)

pub is_truth : (k : TokenKind) → IfListed truth_word (truth_of k) k
is_truth kinds.KeyTrue = refl
is_truth kinds.KeyFalse = refl
is_truth k = tt

pub truth_is : (b : Bool) → truth_of (truth_word b) ≡ Some b
truth_is true = refl
truth_is false = refl

pub truth_one : One (λ b. IsMark (truth_word b)) (listed_at truth_of)
truth_one = listed_one truth_of truth_word is_truth truth_is true

pub truth_reads : Reads (λ b. IsMark (truth_word b)) (listed_at truth_of) Anything
truth_reads = one_reads (λ b. IsMark (truth_word b)) (listed_at truth_of) truth_one

pub is_op : (k : TokenKind) → IfListed op_sign (op_of k) k
is_op kinds.Equal = refl
is_op kinds.Differs = refl
is_op kinds.Less = refl
is_op kinds.AtMost = refl
is_op kinds.More = refl
is_op kinds.AtLeast = refl
is_op k = tt

pub op_is : (op : Op) → op_of (op_sign op) ≡ Some op
op_is ops.Equal = refl
op_is ops.Differs = refl
op_is ops.Less = refl
op_is ops.AtMost = refl
op_is ops.More = refl
op_is ops.AtLeast = refl

pub op_one : One (λ op. IsMark (op_sign op)) (listed_at op_of)
op_one = listed_one op_of op_sign is_op op_is ops.Equal

pub op_reads : Reads (λ op. IsMark (op_sign op)) (listed_at op_of) Anything
op_reads = one_reads (λ op. IsMark (op_sign op)) (listed_at op_of) op_one

pub is_limit_sign : (k : TokenKind) → IfListed limit_sign (limit_sign_of k) k
is_limit_sign kinds.Equal = refl
is_limit_sign kinds.Less = refl
is_limit_sign kinds.AtMost = refl
is_limit_sign kinds.More = refl
is_limit_sign kinds.AtLeast = refl
is_limit_sign k = tt

pub limit_sign_is : (sign : LimitSign) → limit_sign_of (limit_sign sign) ≡ Some sign
limit_sign_is signs.Equal = refl
limit_sign_is signs.Less = refl
limit_sign_is signs.AtMost = refl
limit_sign_is signs.More = refl
limit_sign_is signs.AtLeast = refl

pub limit_sign_one : One (λ sign. IsMark (limit_sign sign)) (listed_at limit_sign_of)
limit_sign_one = listed_one limit_sign_of limit_sign is_limit_sign limit_sign_is signs.Equal

pub limit_sign_reads : Reads (λ sign. IsMark (limit_sign sign)) (listed_at limit_sign_of) Anything
limit_sign_reads = one_reads (λ sign. IsMark (limit_sign sign)) (listed_at limit_sign_of) limit_sign_one

pub is_minus : (k : TokenKind) → IfListed sum_sign (minus_of k) k
is_minus kinds.Plus = refl
is_minus kinds.Minus = refl
is_minus k = tt

pub minus_is : (b : Bool) → minus_of (sum_sign b) ≡ Some b
minus_is true = refl
minus_is false = refl

pub minus_one : One (λ b. IsMark (sum_sign b)) (listed_at minus_of)
minus_one = listed_one minus_of sum_sign is_minus minus_is true

pub minus_reads : Reads (λ b. IsMark (sum_sign b)) (listed_at minus_of) Anything
minus_reads = one_reads (λ b. IsMark (sum_sign b)) (listed_at minus_of) minus_one

pub is_input_kind : (k : TokenKind) → IfListed kind_word (kind_of k) k
is_input_kind kinds.KeyInt = refl
is_input_kind kinds.KeyBool = refl
is_input_kind k = tt

pub input_kind_is : (kind : Kind) → kind_of (kind_word kind) ≡ Some kind
input_kind_is inputs.Int = refl
input_kind_is inputs.Bool = refl

pub kind_one : One (λ kind. IsMark (kind_word kind)) (listed_at kind_of)
kind_one = listed_one kind_of kind_word is_input_kind input_kind_is inputs.Int

pub kind_reads : Reads (λ kind. IsMark (kind_word kind)) (listed_at kind_of) Anything
kind_reads = one_reads (λ kind. IsMark (kind_word kind)) (listed_at kind_of) kind_one

-- ---- atoms

pub atom_one : One IsAtom atom_at
unfolding atom_at
atom_one = record {
  nothing = refl;
  word = by_word;
  again = again;
  example = record { made = exprs.Number 0 0; words = numeral 0 0 ∷ []; is = inl (0, 0, refl, refl) };
}
  where
    by_truth : (k : TokenKind) (at : ℕ) (o : Option Bool) → truth_of k ≡ o → IfListed truth_word o k
        → ((rest : List Word) → atom_at (mark k at ∷ rest) ≡ Err (suc (length rest)))
        ⊎ ((x : Expr) × ((rest : List Word) → atom_at (mark k at ∷ rest) ≡ Ok (x, rest)) × IsAtom x (mark k at ∷ []))
    by_truth k at (Some b) h is = inr (exprs.Truth at b, λ rest. rw h refl, inr (inl (b, at, refl, ap (λ (j : TokenKind). mark j at ∷ []) is)))
    by_truth k at None h is = inl (λ rest. rw h refl)

    by_word : (w : Word) → ((rest : List Word) → atom_at (w ∷ rest) ≡ Err (suc (length rest))) ⊎ ((x : Expr) × ((rest : List Word) → atom_at (w ∷ rest) ≡ Ok (x, rest)) × IsAtom x (w ∷ []))
    by_word (mark k at) = by_truth k at (truth_of k) refl (is_truth k)
    by_word (ident name at) = inr (exprs.Named at name, λ rest. refl, inr (inr (name, at, refl, refl)))
    by_word (numeral value at) = inr (exprs.Number at value, λ rest. refl, inl (value, at, refl, refl))

    again : (x : Expr) (ws : List Word) → IsAtom x ws → (w : Word) × (ws ≡ w ∷ []) × ((rest : List Word) → atom_at (w ∷ rest) ≡ Ok (x, rest))
    again x ws (inl p) = (numeral p.0 p.1, p.3, λ rest. ap (λ (y : Expr). Ok (y, rest)) (sym p.2))
    again x ws (inr (inl p)) = (mark (truth_word p.0) p.1, p.3, λ rest. rw (truth_is p.0) (ap (λ (y : Expr). Ok (y, rest)) (sym p.2)))
    again x ws (inr (inr p)) = (ident p.0 p.1, p.3, λ rest. ap (λ (y : Expr). Ok (y, rest)) (sym p.2))

pub atom_reads : Reads IsAtom atom_at Anything
atom_reads = one_reads IsAtom atom_at atom_one

-- ---- arguments without a sign

-- NUM | "true" | "false"
abbrev pub IsPlainArgument : Rule Arg
IsPlainArgument argument ws =
    ((at : ℕ) × (digits : ℕ) × (argument ≡ plain at digits) × IsNumeral digits at ws)
    ⊎ ((at : ℕ) × (value : Bool) × (argument ≡ args.Bool at value) × IsMarkAt (truth_word value) at ws)

plain_argument_one : One IsPlainArgument plain_argument_at
unfolding plain_argument_at
plain_argument_one = record {
  nothing = refl;
  word = by_word;
  again = again;
  example = record { made = plain 0 0; words = numeral 0 0 ∷ []; is = inl (0, 0, refl, refl) };
}
  where
    by_truth : (k : TokenKind) (at : ℕ) (o : Option Bool) → truth_of k ≡ o → IfListed truth_word o k
        → ((rest : List Word) → plain_argument_at (mark k at ∷ rest) ≡ Err (suc (length rest)))
        ⊎ ((x : Arg) × ((rest : List Word) → plain_argument_at (mark k at ∷ rest) ≡ Ok (x, rest)) × IsPlainArgument x (mark k at ∷ []))
    by_truth k at (Some b) h is = inr (args.Bool at b, λ rest. rw h refl, inr (at, b, refl, ap (λ (j : TokenKind). mark j at ∷ []) is))
    by_truth k at None h is = inl (λ rest. rw h refl)

    by_word : (w : Word) → ((rest : List Word) → plain_argument_at (w ∷ rest) ≡ Err (suc (length rest))) ⊎ ((x : Arg) × ((rest : List Word) → plain_argument_at (w ∷ rest) ≡ Ok (x, rest)) × IsPlainArgument x (w ∷ []))
    by_word (mark k at) = by_truth k at (truth_of k) refl (is_truth k)
    by_word (ident name at) = inl (λ rest. refl)
    by_word (numeral value at) = inr (plain at value, λ rest. refl, inl (at, value, refl, refl))

    again : (x : Arg) (ws : List Word) → IsPlainArgument x ws → (w : Word) × (ws ≡ w ∷ []) × ((rest : List Word) → plain_argument_at (w ∷ rest) ≡ Ok (x, rest))
    again x ws (inl p) = (numeral p.1 p.0, p.3, λ rest. ap (λ (y : Arg). Ok (y, rest)) (sym p.2))
    again x ws (inr p) = (mark (truth_word p.1) p.0, p.3, λ rest. rw (truth_is p.1) (ap (λ (y : Arg). Ok (y, rest)) (sym p.2)))

pub plain_argument_reads : Reads IsPlainArgument plain_argument_at Anything
plain_argument_reads = one_reads IsPlainArgument plain_argument_at plain_argument_one

-- ---- tests of the next word

heads_of : (starts : List Word → Bool) → ((w : Word) (us vs : List Word) → starts (w ∷ us) ≡ starts (w ∷ vs)) → Heads starts
heads_of starts alone [] [] same = refl
heads_of starts alone [] (v ∷ vs) same = absurd same
heads_of starts alone (u ∷ us) [] same = absurd same
heads_of starts alone (u ∷ us) (v ∷ vs) same = alone u us vs ∙ ap (λ (w : Word). starts (w ∷ vs)) same

pub begins_heads : (kind : TokenKind) → Heads (begins kind)
unfolding begins
begins_heads kind = heads_of (begins kind) alone
  where
    alone : (w : Word) (us vs : List Word) → begins kind (w ∷ us) ≡ begins kind (w ∷ vs)
    alone (mark k at) us vs = refl
    alone (ident name at) us vs = refl
    alone (numeral value at) us vs = refl

pub listed_heads : {A : Type 0} (table : TokenKind → Option A) → Heads (begins_listed table)
unfolding begins_listed
listed_heads table = heads_of (begins_listed table) alone
  where
    alone : (w : Word) (us vs : List Word) → begins_listed table (w ∷ us) ≡ begins_listed table (w ∷ vs)
    alone (mark k at) us vs = refl
    alone (ident name at) us vs = refl
    alone (numeral value at) us vs = refl

pub spelled_heads : (letters : List ℕ) → Heads (begins_spelled letters)
unfolding begins_spelled
spelled_heads letters = heads_of (begins_spelled letters) alone
  where
    alone : (w : Word) (us vs : List Word) → begins_spelled letters (w ∷ us) ≡ begins_spelled letters (w ∷ vs)
    alone (mark k at) us vs = refl
    alone (ident name at) us vs = refl
    alone (numeral value at) us vs = refl

pub ident_heads : Heads begins_ident
unfolding begins_ident
ident_heads = heads_of begins_ident alone
  where
    alone : (w : Word) (us vs : List Word) → begins_ident (w ∷ us) ≡ begins_ident (w ∷ vs)
    alone (mark k at) us vs = refl
    alone (ident name at) us vs = refl
    alone (numeral value at) us vs = refl

pub statement_heads : Heads begins_statement
unfolding begins_statement begins begins_ident
statement_heads = heads_of begins_statement alone
  where
    alone : (w : Word) (us vs : List Word) → begins_statement (w ∷ us) ≡ begins_statement (w ∷ vs)
    alone (mark k at) us vs = refl
    alone (ident name at) us vs = refl
    alone (numeral value at) us vs = refl

pub item_heads : Heads begins_item
unfolding begins_item begins begins_ident
item_heads = heads_of begins_item alone
  where
    alone : (w : Word) (us vs : List Word) → begins_item (w ∷ us) ≡ begins_item (w ∷ vs)
    alone (mark k at) us vs = refl
    alone (ident name at) us vs = refl
    alone (numeral value at) us vs = refl

pub declaration_heads : Heads begins_declaration
unfolding begins_declaration begins begins_spelled
declaration_heads = heads_of begins_declaration alone
  where
    alone : (w : Word) (us vs : List Word) → begins_declaration (w ∷ us) ≡ begins_declaration (w ∷ vs)
    alone (mark k at) us vs = refl
    alone (ident name at) us vs = refl
    alone (numeral value at) us vs = refl
