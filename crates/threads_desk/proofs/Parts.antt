-- Parts in a list of views.
use Rattle.std.proofs.Common.{◌≡◌, ◌≢◌, ℕ, zero, suc, List, [], ◌∷◌, ◌++◌, set, refl, sym, ap, ◌∙◌, ⊎_elim}
use mathlib.Core.Option.{some, some-injective, some-ne-none}
use lib.ListN.{get_elem?}
use Rattle.atomic_table.proofs.Lists.{at_set}
use Rattle.threads_desk.specs.declared.letter.Part.{Part}
use Rattle.threads_desk.specs.declared.letter.View.{View}
use Rattle.threads_desk.specs.inner.Cells.{parts}

module _ {X : Type 0} where
  head_same : (x y : X) (xs ys : List X) → x ∷ xs ≡ y ∷ ys → x ≡ y
  head_same x y xs ys e = cc

  tail_same : (x y : X) (xs ys : List X) → x ∷ xs ≡ y ∷ ys → xs ≡ ys
  tail_same x y xs ys e = cc

  pub not_both : (x : X) (xs : List X) → x ∷ xs ≡ [] → ⊥
  not_both x xs e = absurd cc

  -- two lists that are empty together
  first_none : (xs ys : List X) → xs ++ ys ≡ [] → xs ≡ []
  first_none [] ys e = refl
  first_none (x ∷ xs) ys e = absurd (not_both x (xs ++ ys) e)

  second_none : (xs ys : List X) → xs ++ ys ≡ [] → ys ≡ []
  second_none [] ys e = e
  second_none (x ∷ xs) ys e = absurd (not_both x (xs ++ ys) e)

  then_none : (xs : List X) → xs ++ [] ≡ xs
  then_none [] = refl
  then_none (x ∷ xs) = ap (λ l. x ∷ l) (then_none xs)

module _ {A T K : Type 0} (f : Part A T → List (Part A T)) where
  -- where no view has a part, this one has none
  pub none_has : (vs : List (View A T K)) (id : ℕ) (v : View A T K) → parts f vs ≡ [] → get_elem? vs id ≡ some v → f v.part ≡ []
  none_has [] id v none at = absurd (some-ne-none v (sym at))
  none_has (x ∷ xs) zero v none at = ap (λ (u : View A T K). f u.part) (sym (some-injective x v at)) ∙ first_none (f x.part) (parts f xs) none
  none_has (x ∷ xs) (suc i) v none at = none_has xs i v (second_none (f x.part) (parts f xs) none) at

  -- a view with the same part
  pub parts_same : (vs : List (View A T K)) (id : ℕ) (v w : View A T K) → get_elem? vs id ≡ some v → f w.part ≡ f v.part → parts f (set vs id w) ≡ parts f vs
  parts_same [] id v w at same = refl
  parts_same (x ∷ xs) zero v w at same = ap (λ l. l ++ parts f xs) (same ∙ ap (λ (u : View A T K). f u.part) (sym (some-injective x v at)))
  parts_same (x ∷ xs) (suc i) v w at same = ap (λ l. f x.part ++ l) (parts_same xs i v w at same)

  -- where no view has a part, one may have it
  pub parts_enter : (vs : List (View A T K)) (id : ℕ) (v w : View A T K) → parts f vs ≡ [] → get_elem? vs id ≡ some v → parts f (set vs id w) ≡ f w.part
  parts_enter [] id v w none at = absurd (some-ne-none v (sym at))
  parts_enter (x ∷ xs) zero v w none at = ap (λ l. f w.part ++ l) (second_none (f x.part) (parts f xs) none) ∙ then_none (f w.part)
  parts_enter (x ∷ xs) (suc i) v w none at = ap (λ l. l ++ parts f (set xs i w)) (first_none (f x.part) (parts f xs) none) ∙ parts_enter xs i v w (second_none (f x.part) (parts f xs) none) at

  -- the one that has a part may change it
  pub parts_turn : (vs : List (View A T K)) (id : ℕ) (v w : View A T K) (p q : Part A T) → parts f vs ≡ p ∷ [] → get_elem? vs id ≡ some v → f v.part ≡ q ∷ [] → (p ≡ q) × (parts f (set vs id w) ≡ f w.part)
  parts_turn [] id v w p q one at has = absurd (some-ne-none v (sym at))
  parts_turn (x ∷ xs) zero v w p q one at has =
      let here : f x.part ≡ q ∷ [] = ap (λ (u : View A T K). f u.part) (some-injective x v at) ∙ has in
      let all : q ∷ parts f xs ≡ p ∷ [] = ap (λ l. l ++ parts f xs) (sym here) ∙ one in (
        sym (head_same q p (parts f xs) [] all),
        ap (λ l. f w.part ++ l) (tail_same q p (parts f xs) [] all) ∙ then_none (f w.part),
      )
  parts_turn (x ∷ xs) (suc i) v w p q one at has = later (parts_turn xs i v w p q) (f x.part) refl
    where
      later : (parts f xs ≡ p ∷ [] → get_elem? xs i ≡ some v → f v.part ≡ q ∷ [] → (p ≡ q) × (parts f (set xs i w) ≡ f w.part))
          → (l : List (Part A T)) → f x.part ≡ l → (p ≡ q) × (f x.part ++ parts f (set xs i w) ≡ f w.part)
      later again [] is =
          let rest : parts f xs ≡ p ∷ [] = ap (λ l. l ++ parts f xs) (sym is) ∙ one in
          let a = again rest at has in
          (a.0, ap (λ l. l ++ parts f (set xs i w)) is ∙ a.1)
      later again (z ∷ zs) is =
          let all : z ∷ (zs ++ parts f xs) ≡ p ∷ [] = ap (λ l. l ++ parts f xs) (sym is) ∙ one in
          let none = second_none zs (parts f xs) (tail_same z p (zs ++ parts f xs) [] all) in
          absurd (not_both q [] (sym has ∙ none_has xs i v none at))

  -- a view more that has no part
  pub parts_push : (vs : List (View A T K)) (w : View A T K) → f w.part ≡ [] → parts f (vs ++ w ∷ []) ≡ parts f vs
  parts_push [] w none = ap (λ l. l ++ []) none
  parts_push (x ∷ xs) w none = ap (λ l. f x.part ++ l) (parts_push xs w none)

module _ {A T K : Type 0} (about : K) where
  -- all views are about the same, whichever is set
  pub about_set : (vs : List (View A T K)) (id : ℕ) (w : View A T K) → w.about ≡ about → ((j : ℕ) (v : View A T K) → get_elem? vs j ≡ some v → v.about ≡ about)
      → (j : ℕ) (v : View A T K) → get_elem? (set vs id w) j ≡ some v → v.about ≡ about
  about_set vs id w mine each j v at =
      ⊎_elim
      (λ (x : (j ≡ id) × (w ≡ v)). ap (λ (u : View A T K). u.about) (sym x.1) ∙ mine)
      (λ (x : (j ≢ id) × (get_elem? vs j ≡ some v)). each j v x.1)
      (at_set vs id j w v at)
