-- Values that are there on a condition, and lists of which each element passes.
use Rattle.std.proofs.Common.{◌≡◌, ℕ, zero, suc, ◌<◌, Bool, true, false, ◌&&◌, List, [], ◌∷◌, ◌++◌, length, get_or, Some, None, sym, arith, ap, refl, ◌∙◌}
use Rattle.std.specs.List.{list_all}
use Rattle.std.proofs.lemmas.Bool.{and_parts}
use Rattle.logic_wp.specs.Limits.{value_if}

-- ---- values that are there on a condition

pub held : {X : Type 0} (test : Bool) (x y : X) → value_if test x ≡ Some y → test ≡ true
held true x y e = refl
held false x y e = absurd cc

pub value_is : {X : Type 0} (test : Bool) (x y : X) → value_if test x ≡ Some y → y ≡ x
value_is true x y e = cc
value_is false x y e = absurd cc

pub not_held : {X : Type 0} (test : Bool) (x : X) → value_if test x ≡ None → test ≡ false
not_held true x e = absurd cc
not_held false x e = refl

pub gives : {X : Type 0} (test : Bool) (x y : X) → test ≡ true → y ≡ x → Some y ≡ value_if test x
gives test x y e f = rw (e, f) refl

pub gives_none : {X : Type 0} (test : Bool) (x : X) → test ≡ false → None ≡ value_if test x
gives_none test x e = rw e refl

-- ---- truth values

pub second_false : (a b : Bool) → b ≡ false → (a && b) ≡ false
second_false true b e = e
second_false false b e = refl

pub first_false : (a b : Bool) → a ≡ false → (a && b) ≡ false
first_false a b e = rw e refl

pub both_hold : (a b : Bool) → a ≡ true → b ≡ true → (a && b) ≡ true
both_hold a b e f = rw (e, f) refl

-- ---- lists

pub one_stops : {X : Type 0} (test : X → Bool) (xs : List X) (i : ℕ) (x : X) → i < length xs → x ≡ get_or xs i x → test x ≡ false → list_all test xs ≡ false
one_stops test [] i x h is e = absurd (omega arith)
one_stops test (first ∷ xs) zero x h is e = first_false (test first) (list_all test xs) (ap test (sym is) ∙ e)
one_stops test (first ∷ xs) (suc i) x h is e = second_false (test first) (list_all test xs) (one_stops test xs i x (omega arith) is e)

pub all_push : {X : Type 0} (test : X → Bool) (xs : List X) (x : X) → list_all test xs ≡ true → test x ≡ true → list_all test (xs ++ x ∷ []) ≡ true
all_push test [] x e f = both_hold (test x) true f refl
all_push test (y ∷ xs) x e f =
    let both = and_parts (test y) (list_all test xs) e in
    both_hold (test y) (list_all test (xs ++ x ∷ [])) both.0 (all_push test xs x both.1 f)
