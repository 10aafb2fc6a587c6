-- How large a formula is: limited products, and the nodes of a negation.
use Rattle.std.proofs.Common.{◌≡◌, ℕ, zero, suc, ◌+◌, ◌*◌, ◌<◌, ◌≤◌, min, sum, Bool, true, false, cond, List, [], ◌∷◌, ◌++◌, map, length, get_or, take, sym, subst, arith, ap, refl, ◌∙◌, ⊎_elim}
use Rattle.std.specs.Prelude.{◌==◌}
use Rattle.std.proofs.lemmas.Bool.{cases_lt}
use Rattle.std.proofs.lemmas.List.{take_more}
use Rattle.std.proofs.Math.Nat.{mul_comm, le-mul_of_pos_right, mul_assoc}
use Rattle.logic_linear.specs.declared.formula.Formula.{Formula}
use Rattle.logic_linear.specs.declared.formula.Formula.TheOpen.{Formula-F, Row, Flag, All as Each, Any as Some}
use Rattle.logic_linear.specs.declared.formula.Formula.TheViews.{roll-Formula}
use Rattle.logic_linear.specs.declared.formula.Formula.TheFolds.{ind-Formula, map-Formula, fold-roll-Formula}
use Rattle.logic_linear.specs.declared.substitution.Put.TheVariants.{Truth}
use Rattle.logic_linear.specs.Negation.{negation, opposite, layer_negation}
use Rattle.logic_linear.specs.Measures.{nodes_of, nodes_layer, cubes_of, product}
use Rattle.logic_linear.specs.Substitution.{put_in_flag}

grows : (a b : ℕ) → 1 ≤ b → a ≤ a * b
grows a b h = le-mul_of_pos_right a (omega arith)

grows_left : (a b : ℕ) → 1 ≤ a → b ≤ a * b
grows_left a b h = let e = grows b a h in let c = mul_comm a b in omega arith

pub limited_times : (p q : ℕ) → min (min p 1025 * min q 1025) 1025 ≡ min (p * q) 1025
limited_times p zero = by_zero (min p 1025)
  where
    by_zero : (a : ℕ) → min (a * min zero 1025) 1025 ≡ min (p * zero) 1025
    by_zero a = grind arith
limited_times zero (suc q) = grind arith
limited_times (suc p) (suc q) = large (min (suc p) 1025) (min (suc q) 1025) refl refl
  where
    large : (a b : ℕ) → a ≡ min (suc p) 1025 → b ≡ min (suc q) 1025 → min (a * b) 1025 ≡ min (suc p * suc q) 1025
    large a b e f =
        let g = grows a b (omega arith) in
        let h = grows_left a b (omega arith) in
        let k = grows (suc p) (suc q) (omega arith) in
        let l = grows_left (suc p) (suc q) (omega arith) in
        ⊎_elim (λ (high : 1025 < suc p). omega arith) (λ (small : suc p ≤ 1025). ⊎_elim (λ (many : 1025 < suc q). omega arith) (λ (few : suc q ≤ 1025). let s : a ≡ suc p = omega arith in let t : b ≡ suc q = omega arith in rw (s, t) refl) (cases_lt 1025 (suc q))) (cases_lt 1025 (suc p))

product-append : (xs : List ℕ) (y : ℕ) → product (xs ++ y ∷ []) ≡ product xs * y
product-append [] y = grind arith
product-append (x ∷ xs) y = ap (λ n. x * n) (product-append xs y) ∙ sym (mul_assoc x (product xs) y)

map-push : (xs : List Formula) (x : Formula) → map cubes_of (xs ++ x ∷ []) ≡ map cubes_of xs ++ cubes_of x ∷ []
map-push [] x = refl
map-push (y ∷ xs) x = ap (λ n. cubes_of y ∷ n) (map-push xs x)

pub product_more : (parts : List Formula) (i : ℕ) (part : Formula) (total cubes next : ℕ) → i < length parts → part ≡ get_or parts i part → total ≡ min (product (map cubes_of (take i parts))) 1025 → cubes ≡ min (cubes_of part) 1025
    → next ≡ min (total * cubes) 1025 → next ≡ min (product (map cubes_of (take (i + 1) parts))) 1025
product_more parts i part total cubes next h is e f g =
    g ∙ rw (e, f) (limited_times (product (map cubes_of (take i parts))) (cubes_of part)) ∙ ap (λ n. min n 1025) (sym (product-append (map cubes_of (take i parts)) (cubes_of part)) ∙ ap product (sym (map-push (take i parts) part)) ∙ ap (λ n. product (map cubes_of n)) (sym (take_more parts i part h ∙ ap (λ n. take i parts ++ n ∷ []) (sym is))))

-- ---- the nodes of a negation

abbrev SameNodes : Formula → Type 0
SameNodes formula = nodes_of (negation formula) ≡ nodes_of formula

same_cons : (a b : ℕ) (c d : List ℕ) → a ≡ b → c ≡ d → a ∷ c ≡ b ∷ d
same_cons a b c d e f = rw (e, f) refl

parts_same : (parts : List ((formula : Formula) × SameNodes formula)) → map nodes_of (map negation (map (λ part. part.0) parts)) ≡ map nodes_of (map (λ part. part.0) parts)
parts_same [] = refl
parts_same (part ∷ parts) = same_cons _ _ _ _ part.1 (parts_same parts)

abbrev LayerSame : Formula-F Formula → Type 0
LayerSame layer = nodes_layer (map-Formula _ ℕ nodes_of (opposite (map-Formula _ Formula negation layer))) ≡ nodes_layer (map-Formula _ ℕ nodes_of layer)

layer_same : (layer : Formula-F ((formula : Formula) × SameNodes formula)) → LayerSame (map-Formula _ Formula (λ part. part.0) layer)
layer_same (Row linear) = refl
layer_same (Flag place wanted) = refl
layer_same (Each parts) = ap (λ n. 1 + sum n) (parts_same parts)
layer_same (Some parts) = ap (λ n. 1 + sum n) (parts_same parts)

formula_same : (layer : Formula-F Formula) → LayerSame layer → SameNodes (roll-Formula layer)
formula_same layer same = ap nodes_of (fold-roll-Formula Formula layer_negation layer) ∙ fold-roll-Formula ℕ nodes_layer (opposite (map-Formula _ Formula negation layer)) ∙ same ∙ sym (fold-roll-Formula ℕ nodes_layer layer)

pub negation_nodes : (formula : Formula) → SameNodes formula
negation_nodes = ind-Formula SameNodes (λ layer parts is. formula_same layer (subst LayerSame is (layer_same parts)))

pub flag_nodes : (place at : ℕ) (is : Bool) (by : Formula) → place ≡ at → nodes_of by ≡ nodes_of (put_in_flag (Truth at by) place is)
flag_nodes place at is by e = by_test (place == at) (grind arith) is
  where
    by_test : (same : Bool) → same ≡ true → (is : Bool) → nodes_of by ≡ nodes_of (cond same (cond is by (negation by)) (roll-Formula (Flag place is)))
    by_test true h true = refl
    by_test true h false = sym (negation_nodes by)
    by_test false h is = absurd cc
