-- Names of one scope that are written alike are one.
use Rattle.std.proofs.Common.{◌≡◌, ℕ, Bool, true, false, not, ◌&&◌, ◌||◌, ◌==◌, List, [], ◌∷◌, ◌++◌, ◌∙◌, codes, refl, sym, ap}
use Rattle.std.specs.List.{Contains, list_any}
use Rattle.std.specs.Str.{bytes_eq}
use Rattle.std.proofs.lemmas.Bool.{false≢true}
use Rattle.std.proofs.lemmas.List.{append-nil, append_cancel_right}
use Rattle.std.proofs.lemmas.List.Folds.{list_any-from_Any}
use Rattle.std.proofs.lemmas.Slice.Eq.{bytes_eq-Decides}
use Rattle.emit_names.specs.declared.style.Style.{Style}
use Rattle.emit_names.specs.declared.style.Style.TheVariants as styles
use Rattle.emit_names.specs.Letters.{snake, spelled}
use Rattle.emit_names.specs.Words.{KEYWORDS, INPUT_WORDS}
use Rattle.emit_names.specs.Names.{is_shifted, is_any_shifted, escape_text, escaped, meets, is_alone, style_in, member_words, members, inputs_of}
use Rattle.emit_names.specs.Laws.{NamesStayApart, MembersStayApart, InputsStayApart}
use Rattle.emit_names.proofs.Letters.{snake_of, spelled_kept}

-- ---- the `_` after a word that has a meaning

and_cases : (a b c : Bool) → (b ≡ true → c ≡ true) → (a && b) ≡ true → (a && c) ≡ true
and_cases true b c step is = step is
and_cases false b c step is = absurd (false≢true is)

-- one more `_` changes nothing
shifted_more : (word text : List ℕ) → is_shifted word text ≡ true → is_shifted word (text ++ codes "_") ≡ true
shifted_more [] [] is = refl
shifted_more [] (b ∷ text) is = and_cases (b == 95) (is_shifted [] text) (is_shifted [] (text ++ codes "_")) (shifted_more [] text) is
shifted_more (first ∷ word) [] is = absurd (false≢true is)
shifted_more (first ∷ word) (b ∷ text) is = and_cases (first == b) (is_shifted word text) (is_shifted word (text ++ codes "_")) (shifted_more word text) is

or_cases : (a b c d : Bool) → (a ≡ true → c ≡ true) → (b ≡ true → d ≡ true) → (a || b) ≡ true → (c || d) ≡ true
or_cases true b c d left right is = ap (λ t. t || d) (left refl)
or_cases false b true d left right is = refl
or_cases false b false d left right is = right is

any_more : (words : List (List ℕ)) (text : List ℕ) → is_any_shifted words text ≡ true → is_any_shifted words (text ++ codes "_") ≡ true
any_more [] text is = absurd (false≢true is)
any_more (word ∷ words) text is =
    or_cases (is_shifted word text) (is_any_shifted words text) (is_shifted word (text ++ codes "_")) (is_any_shifted words (text ++ codes "_")) (shifted_more word text) (any_more words text) is

-- over any lists of words: those of Rust are long
abbrev pub any_of : (keywords words : List (List ℕ)) → List ℕ → Bool
any_of keywords words text = is_shifted [] text || (is_any_shifted keywords text || is_any_shifted words text)

any_of_more : (keywords words : List (List ℕ)) (text : List ℕ) → any_of keywords words text ≡ true → any_of keywords words (text ++ codes "_") ≡ true
any_of_more keywords words text is =
    or_cases (is_shifted [] text) (is_any_shifted keywords text || is_any_shifted words text) (is_shifted [] (text ++ codes "_")) (is_any_shifted keywords (text ++ codes "_") || is_any_shifted words (text ++ codes "_"))
    (shifted_more [] text)
    (or_cases (is_any_shifted keywords text) (is_any_shifted words text) (is_any_shifted keywords (text ++ codes "_")) (is_any_shifted words (text ++ codes "_")) (any_more keywords text) (any_more words text))
    is

module _ (test : List ℕ → Bool) (more : (text : List ℕ) → test text ≡ true → test (text ++ codes "_") ≡ true) where
  -- one of them only
  one_escaped : (text other : List ℕ) → test text ≡ true → test other ≡ false → text ++ codes "_" ≡ other ++ [] → ⊥
  one_escaped text other is none same =
      false≢true (sym none ∙ ap test (sym (append-nil other) ∙ sym same) ∙ more text is)

  escaped_by : (text other : List ℕ) (a b : Bool) → test text ≡ a → test other ≡ b → text ++ escape_text a ≡ other ++ escape_text b → text ≡ other
  escaped_by text other true true is are same = append_cancel_right text other (codes "_") same
  escaped_by text other false false is are same = append_cancel_right text other [] same
  escaped_by text other true false is are same = absurd (one_escaped text other is are same)
  escaped_by text other false true is are same = absurd (one_escaped other text are is (sym same))

  tested_apart : (text other : List ℕ) → text ++ escape_text (test text) ≡ other ++ escape_text (test other) → text ≡ other
  tested_apart text other same = escaped_by text other (test text) (test other) refl refl same

-- so no two texts become one
pub escaped_apart : (words : List (List ℕ)) (text other : List ℕ) → escaped words text ≡ escaped words other → text ≡ other
escaped_apart words = tested_apart (any_of KEYWORDS words) (any_of_more KEYWORDS words)

-- ---- names that are alone

met_by : (other name : List ℕ) (t : Bool) → bytes_eq other name ≡ t → snake other ≡ snake name → meets name other ≡ false → other ≡ name
met_by other name true is same none = (bytes_eq-Decides other name).0 is
met_by other name false is same none =
    absurd (false≢true (sym none ∙ ap (λ t. not t && bytes_eq (snake other) (snake name)) is ∙ (bytes_eq-Decides (snake other) (snake name)).1 same))

pub not_true : (t : Bool) → not t ≡ true → t ≡ false
not_true true is = absurd (false≢true is)
not_true false is = refl

false_or_not : (t : Bool) → (t ≡ true → ⊥) → t ≡ false
false_or_not true none = absurd (none refl)
false_or_not false none = refl

-- no other name of the scope has the snake form of one that is alone
pub alone_is_one : (scope : List (List ℕ)) (name other : List ℕ) → Contains scope other → is_alone scope name ≡ true → snake other ≡ snake name → other ≡ name
alone_is_one scope name other (k, within, at) alone same =
    met_by other name (bytes_eq other name) refl same
    (false_or_not (meets name other) (λ met. false≢true (sym (not_true (list_any (meets name) scope) alone) ∙ list_any-from_Any (meets name) scope (k, other, within, at, met))))

-- ---- names of one scope

same_form : (scope : List (List ℕ)) (style other_style : Style) (name other : List ℕ) → spelled (style_in scope style name) 0 name ≡ spelled (style_in scope other_style other) 0 other → snake name ≡ snake other
same_form scope style other_style name other same =
    sym (snake_of (style_in scope style name) name) ∙ ap snake same ∙ snake_of (style_in scope other_style other) other

kept_in : (scope : List (List ℕ)) (style : Style) (name : List ℕ) → is_alone scope name ≡ false → spelled (style_in scope style name) 0 name ≡ name
kept_in scope style name met = rw met (spelled_kept 0 name)

apart_by : (scope : List (List ℕ)) (style other_style : Style) (name other : List ℕ) (a b : Bool) → is_alone scope name ≡ a → is_alone scope other ≡ b → Contains scope name → Contains scope other
    → spelled (style_in scope style name) 0 name ≡ spelled (style_in scope other_style other) 0 other → name ≡ other
apart_by scope style other_style name other true b is are here there same =
    sym (alone_is_one scope name other there is (sym (same_form scope style other_style name other same)))
apart_by scope style other_style name other false true is are here there same =
    alone_is_one scope other name here are (same_form scope style other_style name other same)
apart_by scope style other_style name other false false is are here there same =
    sym (kept_in scope style name is) ∙ same ∙ kept_in scope other_style other are

pub names_apart : NamesStayApart
names_apart words scope style other_style name other here there same =
    apart_by scope style other_style name other (is_alone scope name) (is_alone scope other) refl refl here there
    (escaped_apart words (spelled (style_in scope style name) 0 name) (spelled (style_in scope other_style other) 0 other) same)

pub members_apart : MembersStayApart
members_apart tree style other_style name other here there same = names_apart (member_words tree) (members tree) style other_style name other here there same

pub inputs_apart : InputsStayApart
inputs_apart method name other here there same = names_apart INPUT_WORDS (inputs_of method) styles.Snake styles.Snake name other here there same
