-- The names of the methods whose calls have a time.
use Rattle.std.proofs.Common.{◌≡◌, ℕ, Bool, true, false, not, ◌&&◌, ◌==◌, List, [], ◌∷◌, ◌++◌, ◌∙◌, codes, refl, sym, ap, inl, inr, append_assoc}
use Rattle.std.specs.List.{Contains, list_all, list_any}
use Rattle.std.specs.Str.{bytes_eq}
use Rattle.std.proofs.lemmas.Bool.{eq-eqb, false≢true, and_parts, or_cases, or_left, or_right}
use Rattle.std.proofs.lemmas.List.{append_cancel_right}
use Rattle.std.proofs.lemmas.List.Folds.{list_any-append}
use Rattle.lang_tree.specs.declared.tree.MethodTree.{MethodTree}
use Rattle.lang_tree.specs.declared.tree.MonitorTree.{MonitorTree}
use Rattle.emit_names.specs.declared.endings.Ending.TheVariants as endings
use Rattle.emit_names.specs.declared.style.Style.TheVariants as styles
use Rattle.emit_names.specs.Words.{KEYWORDS}
use Rattle.emit_names.specs.Names.{words_by, members, member_name, member_names, method_name, try_name, try_names, with_name, with_names, try_with_name, try_with_names, other_names, is_ended_free, is_with_free}
use Rattle.emit_names.specs.Laws.{LastingStayApart, LastingStandFree, LastingWithsStandFree, LastingAreNoKeywords}
use Rattle.emit_names.proofs.Apart.{members_apart, not_true}
use Rattle.emit_names.proofs.Reading.{any_map}
use Rattle.emit_names.proofs.Withs.{any_is, any_same, ends_in, member_passes, no_member_ending, same_text, text_same}

-- ---- the last byte

abbrev last_of : ℕ → List ℕ → ℕ
last_of before [] = before
last_of before (b ∷ text) = last_of b text

last_after : (before : ℕ) (text : List ℕ) (b : ℕ) (more : List ℕ) → last_of before (text ++ (b ∷ more)) ≡ last_of b more
last_after before [] b more = refl
last_after before (c ∷ text) b more = last_after c text b more

-- two endings with unequal last bytes
differ : (text other one two : List ℕ) → (last_of 95 one == last_of 95 two) ≡ false → text ++ (95 ∷ one) ≡ other ++ (95 ∷ two) → ⊥
differ text other one two apart same =
    false≢true (sym apart ∙ eq-eqb (last_of 95 one) (last_of 95 two) (sym (last_after 0 text 95 one) ∙ ap (last_of 0) same ∙ last_after 0 other 95 two))

-- without `_with`
cut_with : (text other one two : List ℕ) → text ++ (one ++ codes "_with") ≡ other ++ (two ++ codes "_with") → text ++ one ≡ other ++ two
cut_with text other one two same =
    append_cancel_right (text ++ one) (other ++ two) (codes "_with") (append_assoc text one (codes "_with") ∙ same ∙ sym (append_assoc other two (codes "_with")))

one_apart : (tree : MonitorTree) (name other ending : List ℕ) → Contains (members tree) name → Contains (members tree) other
    → member_name tree styles.Snake name ++ ending ≡ member_name tree styles.Snake other ++ ending → name ≡ other
one_apart tree name other ending here there same =
    members_apart tree styles.Snake styles.Snake name other here there (append_cancel_right (member_name tree styles.Snake name) (member_name tree styles.Snake other) ending same)

pub lasting_apart : LastingStayApart
lasting_apart tree endings.With other_ending name other lasts too here there same = absurd (false≢true lasts)
lasting_apart tree endings.Until endings.With name other lasts too here there same = absurd (false≢true too)
lasting_apart tree endings.Until endings.Until name other lasts too here there same = (refl, one_apart tree name other (codes "_until") here there same)
lasting_apart tree endings.Until endings.For name other lasts too here there same =
    absurd (differ (member_name tree styles.Snake name) (member_name tree styles.Snake other) (codes "until") (codes "for") refl same)
lasting_apart tree endings.Until endings.UntilWith name other lasts too here there same =
    absurd (differ (member_name tree styles.Snake name) (member_name tree styles.Snake other) (codes "until") (codes "until_with") refl same)
lasting_apart tree endings.Until endings.ForWith name other lasts too here there same =
    absurd (differ (member_name tree styles.Snake name) (member_name tree styles.Snake other) (codes "until") (codes "for_with") refl same)
lasting_apart tree endings.For endings.With name other lasts too here there same = absurd (false≢true too)
lasting_apart tree endings.For endings.Until name other lasts too here there same =
    absurd (differ (member_name tree styles.Snake name) (member_name tree styles.Snake other) (codes "for") (codes "until") refl same)
lasting_apart tree endings.For endings.For name other lasts too here there same = (refl, one_apart tree name other (codes "_for") here there same)
lasting_apart tree endings.For endings.UntilWith name other lasts too here there same =
    absurd (differ (member_name tree styles.Snake name) (member_name tree styles.Snake other) (codes "for") (codes "until_with") refl same)
lasting_apart tree endings.For endings.ForWith name other lasts too here there same =
    absurd (differ (member_name tree styles.Snake name) (member_name tree styles.Snake other) (codes "for") (codes "for_with") refl same)
lasting_apart tree endings.UntilWith endings.With name other lasts too here there same = absurd (false≢true too)
lasting_apart tree endings.UntilWith endings.Until name other lasts too here there same =
    absurd (differ (member_name tree styles.Snake name) (member_name tree styles.Snake other) (codes "until_with") (codes "until") refl same)
lasting_apart tree endings.UntilWith endings.For name other lasts too here there same =
    absurd (differ (member_name tree styles.Snake name) (member_name tree styles.Snake other) (codes "until_with") (codes "for") refl same)
lasting_apart tree endings.UntilWith endings.UntilWith name other lasts too here there same = (refl, one_apart tree name other (codes "_until_with") here there same)
lasting_apart tree endings.UntilWith endings.ForWith name other lasts too here there same =
    absurd
    (differ (member_name tree styles.Snake name) (member_name tree styles.Snake other) (codes "until") (codes "for") refl
    (cut_with (member_name tree styles.Snake name) (member_name tree styles.Snake other) (codes "_until") (codes "_for") same))
lasting_apart tree endings.ForWith endings.With name other lasts too here there same = absurd (false≢true too)
lasting_apart tree endings.ForWith endings.Until name other lasts too here there same =
    absurd (differ (member_name tree styles.Snake name) (member_name tree styles.Snake other) (codes "for_with") (codes "until") refl same)
lasting_apart tree endings.ForWith endings.For name other lasts too here there same =
    absurd (differ (member_name tree styles.Snake name) (member_name tree styles.Snake other) (codes "for_with") (codes "for") refl same)
lasting_apart tree endings.ForWith endings.UntilWith name other lasts too here there same =
    absurd
    (differ (member_name tree styles.Snake name) (member_name tree styles.Snake other) (codes "for") (codes "until") refl
    (cut_with (member_name tree styles.Snake name) (member_name tree styles.Snake other) (codes "_for") (codes "_until") same))
lasting_apart tree endings.ForWith endings.ForWith name other lasts too here there same = (refl, one_apart tree name other (codes "_for_with") here there same)

-- ---- those that are given no function

none_any : {X : Type 0} (f : X → Bool) (xs : List X) → ((x : X) → f x ≡ true → ⊥) → list_any f xs ≡ true → ⊥
none_any f [] none is = false≢true is
none_any f (x ∷ xs) none is = elim (or_cases (f x) (list_any f xs) is) [
  | inl here ↦ none x here
  | inr later ↦ none_any f xs none later
]

module _ (tree : MonitorTree) (text rest : List ℕ) (apart : (last_of 95 rest == 104) ≡ false) where
  abbrev ended : List ℕ
  ended = text ++ (95 ∷ rest)

  no_with : list_any (bytes_eq ended) (with_names tree) ≡ true → ⊥
  no_with is =
      none_any (λ (method : MethodTree). bytes_eq ended (with_name tree method.name)) tree.methods
      (λ method same. differ text (method_name tree method) rest (codes "with") apart (same_text ended (with_name tree method.name) same))
      (any_map (bytes_eq ended) (λ (method : MethodTree). with_name tree method.name) tree.methods ∙ is)

  no_try_with : list_any (bytes_eq ended) (try_with_names tree) ≡ true → ⊥
  no_try_with is =
      none_any (λ (method : MethodTree). bytes_eq ended (try_with_name tree method.name)) tree.methods
      (λ method same. differ text (try_name tree method.name) rest (codes "with") apart (same_text ended (try_with_name tree method.name) same))
      (any_map (bytes_eq ended) (λ (method : MethodTree). try_with_name tree method.name) tree.methods ∙ is)

  ended_stays : not (list_any (bytes_eq ended) (member_names tree ++ try_names tree)) ≡ true → Contains (other_names tree) ended → ⊥
  ended_stays free here =
      let some = sym (list_any-append (bytes_eq ended) (member_names tree ++ try_names tree) (with_names tree ++ try_with_names tree)) ∙ any_is (other_names tree) ended here in
      elim (or_cases (list_any (bytes_eq ended) (member_names tree ++ try_names tree)) (list_any (bytes_eq ended) (with_names tree ++ try_with_names tree)) some) [
        | inl is ↦ false≢true (sym (not_true (list_any (bytes_eq ended) (member_names tree ++ try_names tree)) free) ∙ is)
        | inr more ↦
            elim (or_cases (list_any (bytes_eq ended) (with_names tree)) (list_any (bytes_eq ended) (try_with_names tree)) (sym (list_any-append (bytes_eq ended) (with_names tree) (try_with_names tree)) ∙ more)) [
              | inl with ↦ no_with with
              | inr tried ↦ no_try_with tried
            ]
      ]

pub lasting_free : LastingStandFree
lasting_free tree name free =
    let both = and_parts (is_ended_free tree endings.Until name) (is_ended_free tree endings.For name) free in (
      ended_stays tree (member_name tree styles.Snake name) (codes "until") refl both.0,
      ended_stays tree (member_name tree styles.Snake name) (codes "for") refl both.1,
    )

-- ---- those that are given one

module _ (tree : MonitorTree) (text ending : List ℕ) where
  abbrev short : List ℕ
  short = text ++ ending

  abbrev long : List ℕ
  long = text ++ (ending ++ codes "_with")

  cut_one : (other : List ℕ) → bytes_eq long (other ++ codes "_with") ≡ true → bytes_eq short other ≡ true
  cut_one other same =
      text_same short other (append_cancel_right short other (codes "_with") (append_assoc text ending (codes "_with") ∙ same_text long (other ++ codes "_with") same))

  withs_cut : list_any (bytes_eq long) (with_names tree) ≡ true → list_any (bytes_eq short) (member_names tree) ≡ true
  withs_cut is =
      member_passes tree (bytes_eq short)
      (any_same (λ (method : MethodTree). bytes_eq long (with_name tree method.name)) (λ (method : MethodTree). bytes_eq short (method_name tree method)) tree.methods
      (λ method same. cut_one (method_name tree method) same)
      (any_map (bytes_eq long) (λ (method : MethodTree). with_name tree method.name) tree.methods ∙ is))

  tries_cut : list_any (bytes_eq long) (try_with_names tree) ≡ true → list_any (bytes_eq short) (try_names tree) ≡ true
  tries_cut is =
      sym (any_map (bytes_eq short) (λ (method : MethodTree). try_name tree method.name) tree.methods)
      ∙ any_same (λ (method : MethodTree). bytes_eq long (try_with_name tree method.name)) (λ (method : MethodTree). bytes_eq short (try_name tree method.name)) tree.methods
      (λ method same. cut_one (try_name tree method.name) same)
      (any_map (bytes_eq long) (λ (method : MethodTree). try_with_name tree method.name) tree.methods ∙ is)

  all_cut : list_any (bytes_eq long) (with_names tree ++ try_with_names tree) ≡ true → list_any (bytes_eq short) (member_names tree ++ try_names tree) ≡ true
  all_cut is =
      elim (or_cases (list_any (bytes_eq long) (with_names tree)) (list_any (bytes_eq long) (try_with_names tree)) (sym (list_any-append (bytes_eq long) (with_names tree) (try_with_names tree)) ∙ is)) [
        | inl with ↦
            list_any-append (bytes_eq short) (member_names tree) (try_names tree)
            ∙ or_left (list_any (bytes_eq short) (member_names tree)) (list_any (bytes_eq short) (try_names tree)) (withs_cut with)
        | inr tried ↦
            list_any-append (bytes_eq short) (member_names tree) (try_names tree)
            ∙ or_right (list_any (bytes_eq short) (member_names tree)) (list_any (bytes_eq short) (try_names tree)) (tries_cut tried)
      ]

  long_stays : not (list_any (bytes_eq short) (member_names tree ++ try_names tree)) ≡ true → not (list_any (bytes_eq long) (member_names tree ++ try_names tree)) ≡ true → Contains (other_names tree) long → ⊥
  long_stays free too here =
      let some = sym (list_any-append (bytes_eq long) (member_names tree ++ try_names tree) (with_names tree ++ try_with_names tree)) ∙ any_is (other_names tree) long here in
      elim (or_cases (list_any (bytes_eq long) (member_names tree ++ try_names tree)) (list_any (bytes_eq long) (with_names tree ++ try_with_names tree)) some) [
        | inl is ↦ false≢true (sym (not_true (list_any (bytes_eq long) (member_names tree ++ try_names tree)) too) ∙ is)
        | inr more ↦ false≢true (sym (not_true (list_any (bytes_eq short) (member_names tree ++ try_names tree)) free) ∙ all_cut more)
      ]

pub lasting_withs_free : LastingWithsStandFree
lasting_withs_free tree name free too =
    let both = and_parts (is_ended_free tree endings.Until name) (is_ended_free tree endings.For name) free in
    let parts = and_parts (is_with_free tree name) (is_ended_free tree endings.UntilWith name && is_ended_free tree endings.ForWith name) too in
    let withs = and_parts (is_ended_free tree endings.UntilWith name) (is_ended_free tree endings.ForWith name) parts.1 in (
      long_stays tree (member_name tree styles.Snake name) (codes "_until") both.0 withs.0,
      long_stays tree (member_name tree styles.Snake name) (codes "_for") both.1 withs.1,
    )

-- ---- words that have a meaning

none_until : (has : Bool) → list_all (λ word. not (ends_in (codes "_until") word)) (KEYWORDS ++ words_by has) ≡ true
none_until true = refl
none_until false = refl

none_for : (has : Bool) → list_all (λ word. not (ends_in (codes "_for") word)) (KEYWORDS ++ words_by has) ≡ true
none_for true = refl
none_for false = refl

none_until_with : (has : Bool) → list_all (λ word. not (ends_in (codes "_until_with") word)) (KEYWORDS ++ words_by has) ≡ true
none_until_with true = refl
none_until_with false = refl

none_for_with : (has : Bool) → list_all (λ word. not (ends_in (codes "_for_with") word)) (KEYWORDS ++ words_by has) ≡ true
none_for_with true = refl
none_for_with false = refl

pub lasting_stay : LastingAreNoKeywords
lasting_stay tree endings.With name lasts = absurd (false≢true lasts)
lasting_stay tree endings.Until name lasts = no_member_ending tree 95 (codes "until") (member_name tree styles.Snake name) none_until
lasting_stay tree endings.For name lasts = no_member_ending tree 95 (codes "for") (member_name tree styles.Snake name) none_for
lasting_stay tree endings.UntilWith name lasts = no_member_ending tree 95 (codes "until_with") (member_name tree styles.Snake name) none_until_with
lasting_stay tree endings.ForWith name lasts = no_member_ending tree 95 (codes "for_with") (member_name tree styles.Snake name) none_for_with
