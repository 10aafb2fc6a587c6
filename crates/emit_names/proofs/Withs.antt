-- The names of the methods whose calls are given a function.
use Rattle.std.proofs.Common.{◌≡◌, ℕ, Bool, true, false, not, ◌&&◌, ◌||◌, List, [], ◌∷◌, ◌++◌, ◌∙◌, map, codes, refl, sym, ap, inl, inr}
use Rattle.std.specs.List.{Contains, list_all, list_any}
use Rattle.std.specs.Str.{bytes_eq}
use Rattle.std.proofs.lemmas.Bool.{false≢true, and_parts, or_cases, or_left, or_right}
use Rattle.std.proofs.lemmas.List.{append_cancel_left, append_cancel_right}
use Rattle.std.proofs.lemmas.List.Folds.{list_all_at, list_any-from_Any, list_any-append}
use Rattle.std.proofs.lemmas.Slice.Eq.{bytes_eq-Decides}
use Rattle.lang_tree.specs.declared.tree.MethodTree.{MethodTree}
use Rattle.lang_tree.specs.declared.tree.MonitorTree.{MonitorTree}
use Rattle.emit_names.specs.declared.style.Style.TheVariants as styles
use Rattle.emit_names.specs.Words.{KEYWORDS}
use Rattle.emit_names.specs.Names.{has_parameters, member_words, words_by, declared_text, method_name, member_name, member_names, try_name, try_names, with_name, with_names, try_with_name, is_try_free, is_with_free}
use Rattle.emit_names.specs.Laws.{WithsStayApart, WithsStandFree, TryWithsStandFree, WithsAreNoKeywords}
use Rattle.emit_names.proofs.Apart.{members_apart, not_true}
use Rattle.emit_names.proofs.Reading.{any_map}
use Rattle.emit_names.proofs.Tries.{all_other, no_word}

pub withs_apart : WithsStayApart
withs_apart tree name other here there same =
    members_apart tree styles.Snake styles.Snake name other here there
    (append_cancel_right (member_name tree styles.Snake name) (member_name tree styles.Snake other) (codes "_with") same)

-- one of the names is this
pub any_is : (names : List (List ℕ)) (text : List ℕ) → Contains names text → list_any (bytes_eq text) names ≡ true
any_is names text (k, within, at) = list_any-from_Any (bytes_eq text) names (k, text, within, at, (bytes_eq-Decides text text).1 refl)

-- none of them is
pub none_is : (names : List (List ℕ)) (text : List ℕ) → not (list_any (bytes_eq text) names) ≡ true → Contains names text → ⊥
none_is names text none here = false≢true (sym (not_true (list_any (bytes_eq text) names) none) ∙ any_is names text here)

pub withs_free : WithsStandFree
withs_free tree name free = none_is (member_names tree ++ try_names tree) (with_name tree name) free

-- ---- those that try

-- where a test passes of a name of these methods it passes of a member
pub member_passes : (tree : MonitorTree) (test : List ℕ → Bool) → list_any (λ (method : MethodTree). test (method_name tree method)) tree.methods ≡ true → list_any test (member_names tree) ≡ true
member_passes tree test is =
    list_any-append test (map (declared_text tree) tree.decls) (map (method_name tree) tree.methods)
    ∙ or_right (list_any test (map (declared_text tree) tree.decls)) (list_any test (map (method_name tree) tree.methods))
    (sym (any_map test (method_name tree) tree.methods) ∙ is)

pub any_same : {X : Type 0} (f g : X → Bool) (xs : List X) → ((x : X) → f x ≡ true → g x ≡ true) → list_any f xs ≡ true → list_any g xs ≡ true
any_same f g [] each is = is
any_same f g (x ∷ xs) each is = elim (or_cases (f x) (list_any f xs) is) [
  | inl here ↦ or_left (g x) (list_any g xs) (each x here)
  | inr later ↦ or_right (g x) (list_any g xs) (any_same f g xs each later)
]

pub same_text : (text other : List ℕ) → bytes_eq text other ≡ true → text ≡ other
same_text text other is = (bytes_eq-Decides text other).0 is

pub text_same : (text other : List ℕ) → text ≡ other → bytes_eq text other ≡ true
text_same text other is = (bytes_eq-Decides text other).1 is

-- the name of one that tries is that of a member with a function
tried_is : (tree : MonitorTree) (name : List ℕ) → list_any (bytes_eq (try_with_name tree name)) (try_names tree) ≡ true → list_any (bytes_eq (with_name tree name)) (member_names tree) ≡ true
tried_is tree name is =
    member_passes tree (bytes_eq (with_name tree name))
    (any_same (λ (method : MethodTree). bytes_eq (try_with_name tree name) (try_name tree method.name)) (λ (method : MethodTree). bytes_eq (with_name tree name) (method_name tree method)) tree.methods
    (λ method same.
    text_same (with_name tree name) (method_name tree method)
    (append_cancel_left (codes "try_") (with_name tree name) (method_name tree method) (same_text (try_with_name tree name) (try_name tree method.name) same)))
    (any_map (bytes_eq (try_with_name tree name)) (λ (method : MethodTree). try_name tree method.name) tree.methods ∙ is))

with_is : (tree : MonitorTree) (name : List ℕ) → list_any (bytes_eq (try_with_name tree name)) (with_names tree) ≡ true → list_any (bytes_eq (try_name tree name)) (member_names tree) ≡ true
with_is tree name is =
    member_passes tree (bytes_eq (try_name tree name))
    (any_same (λ (method : MethodTree). bytes_eq (try_with_name tree name) (with_name tree method.name)) (λ (method : MethodTree). bytes_eq (try_name tree name) (method_name tree method)) tree.methods
    (λ method same.
    text_same (try_name tree name) (method_name tree method)
    (append_cancel_right (try_name tree name) (method_name tree method) (codes "_with") (same_text (try_with_name tree name) (with_name tree method.name) same)))
    (any_map (bytes_eq (try_with_name tree name)) (λ (method : MethodTree). with_name tree method.name) tree.methods ∙ is))

pub try_withs_free : TryWithsStandFree
try_withs_free tree name free here =
    let text = try_with_name tree name in
    let parts = and_parts (not (list_any (bytes_eq text) (member_names tree))) (is_try_free tree name && is_with_free tree name) free in
    let both = and_parts (is_try_free tree name) (is_with_free tree name) parts.1 in
    let some = sym (list_any-append (bytes_eq text) (member_names tree) (try_names tree ++ with_names tree)) ∙ any_is (member_names tree ++ (try_names tree ++ with_names tree)) text here in
    elim (or_cases (list_any (bytes_eq text) (member_names tree)) (list_any (bytes_eq text) (try_names tree ++ with_names tree)) some) [
      | inl member ↦ false≢true (sym (not_true (list_any (bytes_eq text) (member_names tree)) parts.0) ∙ member)
      | inr more ↦
          elim (or_cases (list_any (bytes_eq text) (try_names tree)) (list_any (bytes_eq text) (with_names tree)) (sym (list_any-append (bytes_eq text) (try_names tree) (with_names tree)) ∙ more)) [
            | inl tried ↦
                false≢true
                (sym (not_true (list_any (bytes_eq (with_name tree name)) (member_names tree ++ try_names tree)) both.1)
                ∙ list_any-append (bytes_eq (with_name tree name)) (member_names tree) (try_names tree)
                ∙ or_left (list_any (bytes_eq (with_name tree name)) (member_names tree)) (list_any (bytes_eq (with_name tree name)) (try_names tree)) (tried_is tree name tried))
            | inr with ↦ false≢true (sym (not_true (list_any (bytes_eq (try_name tree name)) (member_names tree)) both.0) ∙ with_is tree name with)
          ]
    ]

-- ---- words that have a meaning

-- it ends in this
abbrev pub ends_in : List ℕ → List ℕ → Bool
ends_in ending [] = false
ends_in ending (b ∷ text) = bytes_eq (b ∷ text) ending || ends_in ending text

in_ends : (first : ℕ) (ending text : List ℕ) → ends_in (first ∷ ending) (text ++ (first ∷ ending)) ≡ true
in_ends first ending [] = or_left (bytes_eq (first ∷ ending) (first ∷ ending)) (ends_in (first ∷ ending) ending) (text_same (first ∷ ending) (first ∷ ending) refl)
in_ends first ending (b ∷ text) = or_right (bytes_eq (b ∷ text ++ (first ∷ ending)) (first ∷ ending)) (ends_in (first ∷ ending) (text ++ (first ∷ ending))) (in_ends first ending text)

pub no_ending : (words : List (List ℕ)) (first : ℕ) (ending text : List ℕ) → list_all (λ word. not (ends_in (first ∷ ending) word)) words ≡ true → Contains words (text ++ (first ∷ ending)) → ⊥
no_ending words first ending text others (k, within, at) =
    false≢true
    (sym (list_all_at (λ word. not (ends_in (first ∷ ending) word)) words k (text ++ (first ∷ ending)) within (ap (λ (word : List ℕ). not (ends_in (first ∷ ending) word)) at ∙ ap not (in_ends first ending text)))
    ∙ others)

-- no word of a monitor's members ends so
pub no_member_ending : (tree : MonitorTree) (first : ℕ) (ending text : List ℕ) → ((has : Bool) → list_all (λ word. not (ends_in (first ∷ ending) word)) (KEYWORDS ++ words_by has) ≡ true)
    → Contains (KEYWORDS ++ member_words tree) (text ++ (first ∷ ending)) → ⊥
no_member_ending tree first ending text others = no_ending (KEYWORDS ++ member_words tree) first ending text (others (has_parameters tree))

none_with : (has : Bool) → list_all (λ word. not (ends_in (codes "_with") word)) (KEYWORDS ++ words_by has) ≡ true
none_with true = refl
none_with false = refl

pub withs_stay : WithsAreNoKeywords
withs_stay tree name = (
  no_member_ending tree 95 (codes "with") (member_name tree styles.Snake name) none_with,
  no_word (KEYWORDS ++ member_words tree) (with_name tree name) (all_other (has_parameters tree)),
)
