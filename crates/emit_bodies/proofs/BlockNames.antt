-- The names of blocks are apart from one another, and from all else that is named where they are.
use Rattle.std.proofs.Common.{◌≡◌, ℕ, ◌<◌, ◌^◌, inl, inr, nat_le, Bool, true, false, not, ◌&&◌, ◌==◌, List, [], ◌∷◌, ◌++◌, ◌∙◌, map, length, codes, decimal, refl, sym, ap, subst, arith, append_assoc}
use Rattle.std.specs.Prelude.{if◌then◌else◌}
use Rattle.std.specs.List.{Contains, list_all}
use Rattle.std.specs.Str.Parse.{AllDigits}
use Rattle.std.proofs.lemmas.Bool.{and_from, and_parts, false≢true, leb-true, ne_eqb}
use Rattle.std.proofs.lemmas.Fmt.{decimal_injective, decimal_is_IsNumeral, decimal_nonempty}
use Rattle.std.proofs.lemmas.List.{append_cancel_left}
use Rattle.std.proofs.lemmas.List.Elements.{Contains-append_right}
use Rattle.std.proofs.lemmas.List.Folds.{list_all-append, list_all_at}
use Rattle.std.proofs.lemmas.Str.Parse.{digit_from_value}
use Rattle.lang_base.proofs.Members.{in_map}
use Rattle.lang_tree.specs.declared.tree.MethodTree.{MethodTree}
use Rattle.lang_tree.specs.declared.tree.MonitorTree.{MonitorTree}
use Rattle.lang_tree.specs.Names.{declared_name}
use Rattle.emit_names.specs.declared.style.Style.TheVariants as styles
use Rattle.emit_names.specs.Words.{KEYWORDS}
use Rattle.emit_names.specs.Names.{member_name, members}
use Rattle.emit_names.proofs.Apart.{members_apart}
use Rattle.emit_bodies.specs.Blocks.{block_mark}
use Rattle.emit_bodies.specs.Laws.{BLOCK_WORDS, BlockNamesAreNoKeywords, BlockNamesStayApart, IsBlockNumber, IsBlockWord}

-- ---- a text up to its first `_`

abbrev is_other : ℕ → Bool
is_other byte = not (byte == 95)

-- no byte of it is `_`
abbrev is_joined : List ℕ → Bool
is_joined text = list_all is_other text

abbrev first_or : List ℕ → ℕ
first_or [] = 0
first_or (byte ∷ text) = byte

abbrev rest_of : List ℕ → List ℕ
rest_of [] = []
rest_of (byte ∷ text) = text

no_line : (byte : ℕ) → is_other byte ≡ true → 95 ≡ byte → ⊥
no_line byte other is = false≢true (ap is_other is ∙ other)

-- what stands before the first `_`, and what stands after it
cut : (front other rest others : List ℕ) → is_joined front ≡ true → is_joined other ≡ true
    → front ++ 95 ∷ rest ≡ other ++ 95 ∷ others → (front ≡ other) × (rest ≡ others)
cut [] [] rest others all each same = (refl, ap rest_of same)
cut [] (byte ∷ other) rest others all each same = absurd (no_line byte (and_parts (is_other byte) (is_joined other) each).0 (ap first_or same))
cut (byte ∷ front) [] rest others all each same = absurd (no_line byte (and_parts (is_other byte) (is_joined front) all).0 (sym (ap first_or same)))
cut (byte ∷ front) (also ∷ other) rest others all each same =
    let more = cut front other rest others (and_parts (is_other byte) (is_joined front) all).1 (and_parts (is_other also) (is_joined other) each).1 (ap rest_of same) in
    (λ i. ap first_or same i ∷ more.0 i, more.1)

-- ---- the number of a block

digits_joined : (text : List ℕ) → AllDigits 10 text → is_joined text ≡ true
digits_joined [] digits = refl
digits_joined (byte ∷ text) digits =
    and_from (is_other byte) (is_joined text) (ap not (ne_eqb byte 95 (λ is. omega (arith, is, digit_from_value byte digits.0)))) (digits_joined text digits.1)

abbrev mark_by : Bool → ℕ → List ℕ
mark_by first number = if first then [] else decimal number

mark_joined : (first : Bool) (number : ℕ) → number < 2 ^ 64 → is_joined (mark_by first number) ≡ true
mark_joined true number short = refl
mark_joined false number short = digits_joined (decimal number) (decimal_is_IsNumeral number short).0.1

no_digits : (number : ℕ) → number < 2 ^ 64 → [] ≡ decimal number → ⊥
no_digits number short same = omega (arith, ap {B = ℕ} length same, decimal_nonempty number short)

marks_apart : (number other : ℕ) (first also : Bool) → nat_le number 1 ≡ first → nat_le other 1 ≡ also
    → IsBlockNumber number → IsBlockNumber other → mark_by first number ≡ mark_by also other → number ≡ other
marks_apart number other true true is are some more same = omega (arith, leb-true number 1 is, leb-true other 1 are, some.0, more.0)
marks_apart number other true false is are some more same = absurd (no_digits other more.1 same)
marks_apart number other false true is are some more same = absurd (no_digits number some.1 (sym same))
marks_apart number other false false is are some more same = decimal_injective number other some.1 more.1 same

-- ---- the word before it

word_joined : (word : List ℕ) → IsBlockWord word → is_joined word ≡ true
word_joined word (inl is) = ap is_joined is
word_joined word (inr (inl is)) = ap is_joined is
word_joined word (inr (inr is)) = ap is_joined is

-- two words are these
as_words : (word other mark other_mark first second : List ℕ) → word ≡ first → other ≡ second → word ++ mark ≡ other ++ other_mark → first ++ mark ≡ second ++ other_mark
as_words word other mark other_mark first second is are same = ap (λ (l : List ℕ). l ++ mark) (sym is) ∙ same ∙ ap (λ (l : List ℕ). l ++ other_mark) are

-- they are one
one_word : (word other mark other_mark both : List ℕ) → word ≡ both → other ≡ both → word ++ mark ≡ other ++ other_mark → (word ≡ other) × (mark ≡ other_mark)
one_word word other mark other_mark both is are same = (is ∙ sym are, append_cancel_left both mark other_mark (as_words word other mark other_mark both both is are same))

heads_apart : (word other mark other_mark : List ℕ) → IsBlockWord word → IsBlockWord other
    → word ++ mark ≡ other ++ other_mark → (word ≡ other) × (mark ≡ other_mark)
heads_apart word other mark other_mark (inl is) (inl are) same = one_word word other mark other_mark (codes "can") is are same
heads_apart word other mark other_mark (inr (inl is)) (inr (inl are)) same = one_word word other mark other_mark (codes "run") is are same
heads_apart word other mark other_mark (inr (inr is)) (inr (inr are)) same = one_word word other mark other_mark (codes "asleep") is are same
heads_apart word other mark other_mark (inl is) (inr (inl are)) same =
    absurd (omega (arith, ap first_or (as_words word other mark other_mark (codes "can") (codes "run") is are same)))
heads_apart word other mark other_mark (inl is) (inr (inr are)) same =
    absurd (omega (arith, ap first_or (as_words word other mark other_mark (codes "can") (codes "asleep") is are same)))
heads_apart word other mark other_mark (inr (inl is)) (inl are) same =
    absurd (omega (arith, ap first_or (as_words word other mark other_mark (codes "run") (codes "can") is are same)))
heads_apart word other mark other_mark (inr (inl is)) (inr (inr are)) same =
    absurd (omega (arith, ap first_or (as_words word other mark other_mark (codes "run") (codes "asleep") is are same)))
heads_apart word other mark other_mark (inr (inr is)) (inl are) same =
    absurd (omega (arith, ap first_or (as_words word other mark other_mark (codes "asleep") (codes "can") is are same)))
heads_apart word other mark other_mark (inr (inr is)) (inr (inl are)) same =
    absurd (omega (arith, ap first_or (as_words word other mark other_mark (codes "asleep") (codes "run") is are same)))

-- ---- names

member_of : (tree : MonitorTree) (method : MethodTree) → Contains tree.methods method → Contains (members tree) method.name
member_of tree method here =
    Contains-append_right (map declared_name tree.decls) (map (λ (one : MethodTree). one.name) tree.methods) method.name
    (in_map (λ (one : MethodTree). one.name) tree.methods method here)

head_joined : (word : List ℕ) (number : ℕ) → IsBlockWord word → IsBlockNumber number → is_joined (word ++ block_mark number) ≡ true
head_joined word number is counts =
    list_all-append is_other word (block_mark number)
    ∙ and_from (is_joined word) (is_joined (block_mark number)) (word_joined word is) (mark_joined (nat_le number 1) number counts.1)

-- `can2_pair` is `can2`, `_` and `pair`
parted : (head name : List ℕ) → (head ++ codes "_") ++ name ≡ head ++ 95 ∷ name
parted head name = append_assoc head (codes "_") name

pub blocks_apart : BlockNamesStayApart
blocks_apart tree method other_method word other_word number other_number here there is are counts also same =
    let name : List ℕ = member_name tree styles.Snake method.name in
    let other : List ℕ = member_name tree styles.Snake other_method.name in
    let parts = cut (word ++ block_mark number) (other_word ++ block_mark other_number) name other (head_joined word number is counts) (head_joined other_word other_number are also)
    (sym (parted (word ++ block_mark number) name) ∙ same ∙ parted (other_word ++ block_mark other_number) other) in
    let heads = heads_apart word other_word (block_mark number) (block_mark other_number) is are parts.0 in (
      heads.0,
      marks_apart number other_number (nat_le number 1) (nat_le other_number 1) refl refl counts also heads.1,
      members_apart tree styles.Snake styles.Snake method.name other_method.name (member_of tree method here) (member_of tree other_method there) parts.1,
    )

-- ---- words that have a meaning

and_false : (test : Bool) → (test && false) ≡ false
and_false true = refl
and_false false = refl

lined : (front rest : List ℕ) → is_joined (front ++ 95 ∷ rest) ≡ false
lined [] rest = refl
lined (byte ∷ front) rest = ap (λ test. is_other byte && test) (lined front rest) ∙ and_false (is_other byte)

no_word : (words : List (List ℕ)) (front rest : List ℕ) → list_all is_joined words ≡ true → Contains words (front ++ 95 ∷ rest) → ⊥
no_word words front rest joined (k, within, at) =
    false≢true (sym (list_all_at is_joined words k (front ++ 95 ∷ rest) within (ap is_joined at ∙ lined front rest)) ∙ joined)

pub blocks_stay : BlockNamesAreNoKeywords
blocks_stay tree method word number here =
    no_word (KEYWORDS ++ BLOCK_WORDS) (word ++ block_mark number) (member_name tree styles.Snake method.name) refl
    (subst (λ (text : List ℕ). Contains (KEYWORDS ++ BLOCK_WORDS) text) (parted (word ++ block_mark number) (member_name tree styles.Snake method.name)) here)
