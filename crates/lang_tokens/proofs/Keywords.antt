-- The kind of a word is an identifier's exactly where the word is no keyword, and never a number's;
-- a sign's is neither.
use Rattle.std.proofs.Common.{◌≡◌, ℕ, suc, ◌+◌, ◌<◌, Bool, true, false, cond, not, ◌||◌, List, [], ◌∷◌, length, Some, None, refl, sym, ap, subst, ◌∙◌, arith}
use Rattle.std.specs.Prelude.{Contains, nat_lt, slice_index_or}
use Rattle.std.specs.List.{list_all, list_any, position_or_len}
use Rattle.std.specs.Option.{option_map_or}
use Rattle.std.specs.Str.{bytes_eq}
use Rattle.std.proofs.lemmas.Bool.{ltb-true}
use Rattle.std.proofs.lemmas.List.Elements.{Contains-get_or}
use Rattle.lang_base.specs.Identifiers.{KEYWORDS, is_keyword}
use Rattle.lang_tokens.specs.declared.token.TokenKind.{TokenKind}
use Rattle.lang_tokens.specs.declared.token.TokenKind.TheVariants as kinds
use Rattle.lang_tokens.specs.Spelling.{KEYWORD_KINDS, SIGNS, kind_of_word}
use Rattle.lang_tokens.proofs.Signs.{passes_each}

one_more : (k n : ℕ) → nat_lt (1 + k) (suc n) ≡ nat_lt k n
one_more k n = grind arith

none_before : (n : ℕ) → nat_lt 0 (suc n) ≡ true
none_before n = grind arith

any_within : {X : Type 0} (p : X → Bool) (xs : List X) → nat_lt (position_or_len p xs) (length xs) ≡ list_any p xs
any_within p [] = refl
any_within p (x ∷ xs) = by_test (p x) (any_within p xs)
  where
    by_test : (t : Bool) → nat_lt (position_or_len p xs) (length xs) ≡ list_any p xs → nat_lt (cond (not t) (1 + position_or_len p xs) 0) (suc (length xs)) ≡ (t || list_any p xs)
    by_test true rest = none_before (length xs)
    by_test false rest = one_more (position_or_len p xs) (length xs) ∙ rest

abbrev place_of_word : List ℕ → ℕ
place_of_word text = position_or_len (bytes_eq text) KEYWORDS

-- the kind, by whether the word is a keyword
kind_is : (text : List ℕ) → kind_of_word text ≡ cond (is_keyword text) (slice_index_or KEYWORD_KINDS (place_of_word text) kinds.Ident) kinds.Ident
kind_is text =
    ap (λ (t : Bool). option_map_or (λ place. slice_index_or KEYWORD_KINDS place kinds.Ident) (cond t (Some (place_of_word text)) None) kinds.Ident) (any_within (bytes_eq text) KEYWORDS)
    ∙ by_test (is_keyword text)
  where
    by_test : (t : Bool) → option_map_or (λ place. slice_index_or KEYWORD_KINDS place kinds.Ident) (cond t (Some (place_of_word text)) None) kinds.Ident
        ≡ cond t (slice_index_or KEYWORD_KINDS (place_of_word text) kinds.Ident) kinds.Ident
    by_test true = refl
    by_test false = refl

-- neither an identifier's nor a number's
is_fixed : TokenKind → Bool
is_fixed kinds.Ident = false
is_fixed kinds.Number = false
is_fixed kind = true

all_fixed : list_all is_fixed KEYWORD_KINDS ≡ true
unfolding is_fixed
all_fixed = refl

fixed_at : (place : ℕ) → place < length KEYWORD_KINDS → is_fixed (slice_index_or KEYWORD_KINDS place kinds.Ident) ≡ true
fixed_at place within = passes_each is_fixed KEYWORD_KINDS (slice_index_or KEYWORD_KINDS place kinds.Ident) all_fixed (Contains-get_or KEYWORD_KINDS place kinds.Ident within)

keyword_fixed : (text : List ℕ) → is_keyword text ≡ true → is_fixed (kind_of_word text) ≡ true
keyword_fixed text keyword =
    let within : place_of_word text < length KEYWORDS = ltb-true (place_of_word text) (length KEYWORDS) (any_within (bytes_eq text) KEYWORDS ∙ keyword) in
    let here : kind_of_word text ≡ slice_index_or KEYWORD_KINDS (place_of_word text) kinds.Ident = kind_is text ∙ ap (λ (t : Bool). cond t (slice_index_or KEYWORD_KINDS (place_of_word text) kinds.Ident) kinds.Ident) keyword in
    subst (λ (k : TokenKind). is_fixed k ≡ true) (sym here) (fixed_at (place_of_word text) within)

pub kind_of_name : (text : List ℕ) → is_keyword text ≡ false → kind_of_word text ≡ kinds.Ident
kind_of_name text none = kind_is text ∙ ap (λ (t : Bool). cond t (slice_index_or KEYWORD_KINDS (place_of_word text) kinds.Ident) kinds.Ident) none

pub named_by_kind : (text : List ℕ) → kind_of_word text ≡ kinds.Ident → is_keyword text ≡ false
unfolding is_fixed
named_by_kind text kind = by_test (is_keyword text) refl
  where
    by_test : (t : Bool) → is_keyword text ≡ t → t ≡ false
    by_test true e = let fixed : is_fixed kinds.Ident ≡ true = subst (λ (k : TokenKind). is_fixed k ≡ true) kind (keyword_fixed text e) in absurd cc
    by_test false e = refl

pub no_number : (text : List ℕ) → kind_of_word text ≡ kinds.Number → ⊥
unfolding is_fixed
no_number text kind = by_test (is_keyword text) refl
  where
    by_test : (t : Bool) → is_keyword text ≡ t → ⊥
    by_test true e = let fixed : is_fixed kinds.Number ≡ true = subst (λ (k : TokenKind). is_fixed k ≡ true) kind (keyword_fixed text e) in absurd cc
    by_test false e = let name : kinds.Ident ≡ kinds.Number = sym (kind_of_name text e) ∙ kind in absurd cc

signs_fixed : list_all (λ row. is_fixed row.1) SIGNS ≡ true
unfolding is_fixed
signs_fixed = refl

pub sign_fixed : (text : List ℕ) (kind : TokenKind) → Contains SIGNS (text, kind) → (kind ≡ kinds.Number → ⊥) × (kind ≡ kinds.Ident → ⊥)
unfolding is_fixed
sign_fixed text kind has =
    let fixed = passes_each (λ (row : List ℕ × TokenKind). is_fixed row.1) SIGNS (text, kind) signs_fixed has in (
      λ e. let number : is_fixed kinds.Number ≡ true = subst (λ (k : TokenKind). is_fixed k ≡ true) e fixed in absurd cc,
      λ e. let name : is_fixed kinds.Ident ≡ true = subst (λ (k : TokenKind). is_fixed k ≡ true) e fixed in absurd cc,
    )
