-- How paths are counted, statement by statement.
use Rattle.std.proofs.Common.{◌≡◌, ℕ, zero, suc, ◌+◌, ◌*◌, ◌<◌, ◌≤◌, min, List, [], ◌∷◌, ◌++◌, map, length, get_or, take, sym, arith, ap, refl, ◌∙◌, ⊎_elim}
use Rattle.std.proofs.lemmas.Bool.{cases_lt}
use Rattle.std.proofs.lemmas.List.{take_more}
use Rattle.std.proofs.Math.Nat.{mul_comm, le-mul_of_pos_right, mul_assoc}
use Rattle.logic_linear.specs.Measures.{product}
use Rattle.lang_monitor.specs.declared.monitor.Stmt.{Stmt}
use Rattle.lang_monitor.specs.Paths.{statement_count}

grows : (a b : ℕ) → 1 ≤ b → a ≤ a * b
grows a b h = le-mul_of_pos_right a (omega arith)

grows_left : (a b : ℕ) → 1 ≤ a → b ≤ a * b
grows_left a b h = let e = grows b a h in let c = mul_comm a b in omega arith

pub limited_times : (p q : ℕ) → min (min p 65 * min q 65) 65 ≡ min (p * q) 65
limited_times p zero = by_zero (min p 65)
  where
    by_zero : (a : ℕ) → min (a * min zero 65) 65 ≡ min (p * zero) 65
    by_zero a = grind arith
limited_times zero (suc q) = grind arith
limited_times (suc p) (suc q) = large (min (suc p) 65) (min (suc q) 65) refl refl
  where
    large : (a b : ℕ) → a ≡ min (suc p) 65 → b ≡ min (suc q) 65 → min (a * b) 65 ≡ min (suc p * suc q) 65
    large a b e f =
        let g = grows a b (omega arith) in
        let h = grows_left a b (omega arith) in
        let k = grows (suc p) (suc q) (omega arith) in
        let l = grows_left (suc p) (suc q) (omega arith) in
        ⊎_elim (λ (high : 65 < suc p). omega arith) (λ (small : suc p ≤ 65). ⊎_elim (λ (many : 65 < suc q). omega arith) (λ (few : suc q ≤ 65). let s : a ≡ suc p = omega arith in let t : b ≡ suc q = omega arith in rw (s, t) refl) (cases_lt 65 (suc q))) (cases_lt 65 (suc p))

product-append : (xs : List ℕ) (y : ℕ) → product (xs ++ y ∷ []) ≡ product xs * y
product-append [] y = grind arith
product-append (x ∷ xs) y = ap (λ n. x * n) (product-append xs y) ∙ sym (mul_assoc x (product xs) y)

map-push : (xs : List Stmt) (x : Stmt) → map statement_count (xs ++ x ∷ []) ≡ map statement_count xs ++ statement_count x ∷ []
map-push [] x = refl
map-push (y ∷ xs) x = ap (λ n. statement_count y ∷ n) (map-push xs x)

pub count_more : (body : List Stmt) (i : ℕ) (statement : Stmt) (total count next : ℕ) → i < length body → statement ≡ get_or body i statement → total ≡ min (product (map statement_count (take i body))) 65 → count ≡ min (statement_count statement) 65
    → next ≡ min (total * count) 65 → next ≡ min (product (map statement_count (take (i + 1) body))) 65
count_more body i statement total count next h is e f g =
    g ∙ rw (e, f) (limited_times (product (map statement_count (take i body))) (statement_count statement)) ∙ ap (λ n. min n 65) (sym (product-append (map statement_count (take i body)) (statement_count statement)) ∙ ap product (sym (map-push (take i body) statement)) ∙ ap (λ n. product (map statement_count n)) (sym (take_more body i statement h ∙ ap (λ n. take i body ++ n ∷ []) (sym is))))
