-- No name is written as a word that has a meaning.
use Rattle.std.proofs.Common.{◌≡◌, ℕ, Bool, true, false, not, ◌||◌, ◌==◌, List, [], ◌∷◌, ◌++◌, ◌∙◌, codes, refl, sym, ap, subst}
use Rattle.std.specs.List.{Contains, list_all}
use Rattle.std.proofs.lemmas.Bool.{and_from, eq-eqb, false≢true, or_right}
use Rattle.std.proofs.lemmas.List.{append-nil}
use Rattle.std.proofs.lemmas.List.Folds.{list_all_at, list_any-append, list_any-from_Any}
use Rattle.emit_names.specs.declared.style.Style.TheVariants as styles
use Rattle.emit_names.specs.Letters.{camel, spelled}
use Rattle.emit_names.specs.Words.{KEYWORDS, TYPE_WORDS, INPUT_WORDS}
use Rattle.emit_names.specs.Names.{is_shifted, is_any_shifted, escape_text, escaped, style_in, has_parameters, words_by, member_words, members, inputs_of}
use Rattle.emit_names.specs.Laws.{TypesAreNoKeywords, MembersAreNoKeywords, InputsAreNoKeywords}
use Rattle.emit_names.proofs.Apart.{any_of}

-- the last byte is `_`
abbrev ends_underlined : List ℕ → Bool
ends_underlined [] = false
ends_underlined (b ∷ []) = b == 95
ends_underlined (b ∷ c ∷ more) = ends_underlined (c ∷ more)

ends_more : (text : List ℕ) → ends_underlined (text ++ codes "_") ≡ true
ends_more [] = refl
ends_more (b ∷ []) = refl
ends_more (b ∷ c ∷ more) = ends_more (c ∷ more)

shifted_self : (word : List ℕ) → is_shifted word word ≡ true
shifted_self [] = refl
shifted_self (b ∷ word) = and_from (b == b) (is_shifted word word) (eq-eqb b b refl) (shifted_self word)

any_self : (words : List (List ℕ)) (text : List ℕ) → Contains words text → is_any_shifted words text ≡ true
any_self words text (k, within, at) = list_any-from_Any (λ word. is_shifted word text) words (k, text, within, at, shifted_self text)

abbrev is_plain : List ℕ → Bool
is_plain word = not (ends_underlined word)

-- over any lists of words none of which ends in `_`: those of Rust are long
module _ (keywords words : List (List ℕ)) (plain : list_all is_plain (keywords ++ words) ≡ true) where
  any_in : (text : List ℕ) → Contains (keywords ++ words) text → any_of keywords words text ≡ true
  any_in text here =
      or_right (is_shifted [] text) (is_any_shifted keywords text || is_any_shifted words text)
      (sym (list_any-append (λ word. is_shifted word text) keywords words) ∙ any_self (keywords ++ words) text here)

  stays_apart : (text : List ℕ) (t : Bool) → any_of keywords words text ≡ t → Contains (keywords ++ words) (text ++ escape_text t) → ⊥
  stays_apart text true is (k, within, at) =
      false≢true (sym (list_all_at is_plain (keywords ++ words) k (text ++ codes "_") within (ap is_plain at ∙ ap not (ends_more text))) ∙ plain)
  stays_apart text false is here =
      false≢true (sym is ∙ any_in text (subst (λ (l : List ℕ). Contains (keywords ++ words) l) (append-nil text) here))

escaped_stays : (words : List (List ℕ)) → list_all is_plain (KEYWORDS ++ words) ≡ true → (text : List ℕ) → Contains (KEYWORDS ++ words) (escaped words text) → ⊥
escaped_stays words plain text = stays_apart KEYWORDS words plain text (any_of KEYWORDS words text) refl

pub types_stay : TypesAreNoKeywords
types_stay tree = escaped_stays TYPE_WORDS refl (camel tree.name)

either_plain : (has : Bool) → list_all is_plain (KEYWORDS ++ words_by has) ≡ true
either_plain true = refl
either_plain false = refl

pub members_stay : MembersAreNoKeywords
members_stay tree style name = escaped_stays (member_words tree) (either_plain (has_parameters tree)) (spelled (style_in (members tree) style name) 0 name)

pub inputs_stay : InputsAreNoKeywords
inputs_stay method name = escaped_stays INPUT_WORDS refl (spelled (style_in (inputs_of method) styles.Snake name) 0 name)
