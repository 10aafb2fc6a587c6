-- Two lists in step.
use Rattle.std.proofs.Common.{◌≡◌, ℕ, zero, suc, ◌+◌, ◌<◌, ◌≤◌, List, [], ◌∷◌, length, take, get_or, Option, Some, refl, sym, ap, subst, ◌∙◌, arith}
use Rattle.std.specs.Prelude.{All, slice_get, unwrap_or}
use Rattle.std.specs.List.{zip}
use Rattle.std.proofs.lemmas.List.{take_more, take_all}
use Rattle.std.proofs.lemmas.List.Elements.{All-nil, All-cons, All-append}
use Rattle.std.proofs.lemmas.Option.{slice_get_within, slice_get-get_or, get_or_from_slice_get}

abbrev pub both : {A B : Type 0} → A → B → A × B
both x y = (x, y)

both_same : {A B : Type 0} (x y : A) (a b : B) → Some x ≡ Some y → Some a ≡ Some b
    → Some (both x a) ≡ Some (both y b)
both_same {A} {B} x y a b p q =
    let first : x ≡ y = ap (λ (o : Option A). unwrap_or o x) p in
    let second : a ≡ b = ap (λ (o : Option B). unwrap_or o a) q in
    λ i. Some (both (first i) (second i))

pub zip_at : {A B : Type 0} (xs : List A) (ys : List B) (k : ℕ) (x : A) (y : B)
    → slice_get xs k ≡ Some x → slice_get ys k ≡ Some y → slice_get (zip xs ys) k ≡ Some (both x y)
zip_at [] ys k x y here there = absurd (omega (arith, slice_get_within [] k x here))
zip_at (one ∷ xs) [] k x y here there = absurd (omega (arith, slice_get_within [] k y there))
zip_at (one ∷ xs) (other ∷ ys) zero x y here there = both_same one x other y here there
zip_at (one ∷ xs) (other ∷ ys) (suc k) x y here there = zip_at xs ys k x y here there

pub at_place : {X : Type 0} (xs : List X) (k : ℕ) → k < length xs →
    (x : X) × (slice_get xs k ≡ Some x)
at_place [] k within = absurd (omega arith)
at_place (x ∷ xs) zero within = (x, refl)
at_place (x ∷ xs) (suc k) within = at_place xs k (omega arith)

pub all_at : {X : Type 0} (P : X → Type 0) (xs : List X) (k : ℕ) (x : X) → slice_get xs k ≡ Some x
    → All P xs → P x
all_at P xs k x is all = subst P (get_or_from_slice_get xs k x x is) (all k x (slice_get_within xs k x is))

-- what holds at each place holds of all
pub from_places : {X : Type 0} (P : X → Type 0) (xs : List X)
    → ((k : ℕ) (x : X) → slice_get xs k ≡ Some x → P x) → All P xs
from_places P xs each k other within = each k (get_or xs k other) (slice_get-get_or xs k other within)

-- one element more
pub one_more_at : {X : Type 0} (P : X → Type 0) (xs : List X) (i : ℕ) (x : X)
    → slice_get xs i ≡ Some x → All P (take i xs) → P x → All P (take (i + 1) xs)
one_more_at P xs i x is all here =
    subst (All P) (sym (take_more xs i x (slice_get_within xs i x is)))
    (All-append P (take i xs) (get_or xs i x ∷ []) all (All-cons P (get_or xs i x) [] (subst P (sym (get_or_from_slice_get xs i x x is)) here) (All-nil P)))

pub all_taken : {X : Type 0} (P : X → Type 0) (xs : List X) (i : ℕ) → length xs ≤ i
    → All P (take i xs) → All P xs
all_taken P xs i end all = subst (All P) (take_all i xs end) all

-- the pair at a place of both lists
pub pair_there : {A B : Type 0} (xs : List A) (ys : List B) (i : ℕ) (x d : A) (e : B)
    → i < length xs → length ys ≡ length xs → x ≡ get_or xs i d
    → slice_get (zip xs ys) i ≡ Some (both x (get_or ys i e))
pair_there {A} xs ys i x d e low same is =
    zip_at xs ys i x (get_or ys i e) (slice_get-get_or xs i d low ∙ ap {B = Option A} (λ (one : A). Some one) (sym is)) (slice_get-get_or ys i e (omega arith))
