-- Lists that grow, and are cut back.
use Rattle.std.proofs.Common.{◌≡◌, ℕ, zero, suc, ◌≤◌, List, [], ◌∷◌, ◌++◌, length, take, Some, sym, subst, arith, ap, refl, ◌∙◌}
use Rattle.std.specs.Prelude.{slice_get}
use Rattle.logic_solve.specs.inner.Different.{IsGrown}

pub grown_more : {X : Type 0} (xs after last : List X) → IsGrown xs after → IsGrown after last → IsGrown xs last
grown_more {X} xs after last one more = (one.0 ++ more.0, more.1 ∙ ap (λ (some : List X). some ++ more.0) one.1 ∙ joined xs one.0 more.0)
  where
    joined : (a b c : List X) → (a ++ b) ++ c ≡ a ++ (b ++ c)
    joined [] b c = refl
    joined (x ∷ a) b c = ap (λ (more : List X). x ∷ more) (joined a b c)

with_nothing : {X : Type 0} (xs : List X) → xs ≡ xs ++ []
with_nothing [] = refl
with_nothing {X} (x ∷ xs) = ap (λ (some : List X). x ∷ some) (with_nothing xs)

pub not_grown : {X : Type 0} (xs : List X) → IsGrown xs xs
not_grown xs = ([], with_nothing xs)

pub grown_same : {X : Type 0} (xs after : List X) → after ≡ xs → IsGrown xs after
grown_same xs after is = ([], is ∙ with_nothing xs)

take_joined : {X : Type 0} (xs ys : List X) → take (length xs) (xs ++ ys) ≡ xs
take_joined {X} [] ys = take_none ys
  where
    take_none : (ys : List X) → take 0 ys ≡ []
    take_none [] = refl
    take_none (y ∷ ys) = refl
take_joined {X} (x ∷ xs) ys = ap (λ (more : List X). x ∷ more) (take_joined xs ys)

-- What was put after them goes.
pub cut_back : {X : Type 0} (xs after : List X) (n : ℕ) → n ≡ length xs → IsGrown xs after → take n after ≡ xs
cut_back {X} xs after n is grown = ap (λ (count : ℕ). take count after) is ∙ ap (take (length xs)) grown.1 ∙ take_joined xs grown.0

take_before : {X : Type 0} (n : ℕ) (xs ys : List X) → n ≤ length xs → take n (xs ++ ys) ≡ take n xs
take_before zero [] [] h = refl
take_before zero [] (y ∷ ys) h = refl
take_before zero (x ∷ xs) ys h = refl
take_before (suc n) [] ys h = absurd (omega arith)
take_before {X} (suc n) (x ∷ xs) ys h = ap (λ (more : List X). x ∷ more) (take_before n xs ys (omega arith))

-- The first ones stay.
pub take_grown : {X : Type 0} (n : ℕ) (xs after : List X) → n ≤ length xs → IsGrown xs after → take n after ≡ take n xs
take_grown n xs after h grown = ap (take n) grown.1 ∙ take_before n xs grown.0 h

get_joined : {X : Type 0} (xs ys : List X) (k : ℕ) (x : X) → slice_get xs k ≡ Some x → slice_get (xs ++ ys) k ≡ Some x
get_joined [] ys k x is = absurd cc
get_joined (first ∷ xs) ys zero x is = is
get_joined (first ∷ xs) ys (suc k) x is = get_joined xs ys k x is

pub get_grown : {X : Type 0} (xs after : List X) (k : ℕ) (x : X) → slice_get xs k ≡ Some x → IsGrown xs after → slice_get after k ≡ Some x
get_grown {X} xs after k x is grown = subst (λ (some : List X). slice_get some k ≡ Some x) (sym grown.1) (get_joined xs grown.0 k x is)

length_joined : {X : Type 0} (xs ys : List X) → length xs ≤ length (xs ++ ys)
length_joined [] ys = omega arith
length_joined (x ∷ xs) ys = let rest = length_joined xs ys in omega arith

pub length_grown : {X : Type 0} (xs after : List X) → IsGrown xs after → length xs ≤ length after
length_grown xs after grown = let longer = length_joined xs grown.0 in let same = ap length grown.1 in omega arith

pub take_all : {X : Type 0} (xs : List X) (n : ℕ) → length xs ≤ n → take n xs ≡ xs
take_all [] zero h = refl
take_all [] (suc n) h = refl
take_all (x ∷ xs) zero h = absurd (omega arith)
take_all {X} (x ∷ xs) (suc n) h = ap (λ (more : List X). x ∷ more) (take_all xs n (omega arith))
