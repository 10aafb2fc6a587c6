-- A step leaves no part with fewer nodes, and a query has those of its parts.
use Rattle.std.proofs.Common.{◌≡◌, ℕ, ◌+◌, ◌≤◌, List, [], ◌∷◌, ◌++◌, map, sum, sum_by, sym, subst, arith, ap, refl, ◌∙◌}
use Rattle.std.proofs.lemmas.List.Sums.{sum_by-cons, sum_by_push}
use Rattle.logic_linear.specs.declared.formula.Formula.{Formula}
use Rattle.logic_linear.specs.declared.formula.Formula.TheOpen.{Formula-F, Row, Flag, All, Any}
use Rattle.logic_linear.specs.declared.formula.Formula.TheViews.{roll-Formula}
use Rattle.logic_linear.specs.declared.formula.Formula.TheFolds.{ind-Formula, map-Formula, fold-roll-Formula}
use Rattle.logic_linear.specs.declared.substitution.Put.{Put}
use Rattle.logic_linear.specs.Measures.{nodes_of, nodes_layer}
use Rattle.logic_linear.specs.Substitution.{put_in_row, put_in_flag, put_in_layer, substituted}
use Rattle.logic_wp.specs.declared.step.Step.{Step}
use Rattle.logic_wp.specs.declared.step.Step.TheVariants as steps
use Rattle.logic_wp.specs.NegatedQueries.{part_before, path_part, query_of_parts, some_part}
use Rattle.logic_wp.specs.inner.Backward.{nodes_of_part, nodes_of_parts}

pub cons_le : {X Y : Type 0} (f : X → ℕ) (g : Y → ℕ) (x : X) (xs : List X) (y : Y) (ys : List Y) → f x ≤ g y → sum_by f xs ≤ sum_by g ys → sum_by f (x ∷ xs) ≤ sum_by g (y ∷ ys)
cons_le f g x xs y ys e h = add_le _ _ (f x) (g y) (sum_by f xs) (sum_by g ys) (sum_by-cons f x xs) (sum_by-cons g y ys) e h
  where
    add_le : (m n a b c d : ℕ) → m ≡ a + c → n ≡ b + d → a ≤ b → c ≤ d → m ≤ n
    add_le m n a b c d p q e h = omega arith

layer_one : (layer : Formula-F ℕ) → 1 ≤ nodes_layer layer
layer_one (Row form) = omega arith
layer_one (Flag place is) = omega arith
layer_one (All parts) = omega arith
layer_one (Any parts) = omega arith

one_node : (formula : Formula) → 1 ≤ nodes_of formula
one_node = ind-Formula (λ formula. 1 ≤ nodes_of formula)
    (λ layer parts is. subst (λ (n : ℕ). 1 ≤ n) (sym (fold-roll-Formula ℕ nodes_layer layer)) (layer_one (map-Formula _ ℕ nodes_of layer)))

abbrev NoFewer : Put → Formula → Type 0
NoFewer put formula = nodes_of formula ≤ nodes_of (substituted put formula)

parts_no_fewer : (put : Put) (parts : List ((formula : Formula) × NoFewer put formula))
    → sum (map nodes_of (map (λ part. part.0) parts)) ≤ sum (map nodes_of (map (substituted put) (map (λ part. part.0) parts)))
parts_no_fewer put [] = omega arith
parts_no_fewer put (part ∷ parts) =
    cons_le (λ (n : ℕ). n) (λ (n : ℕ). n) (nodes_of part.0) (map nodes_of (map (λ part. part.0) parts)) (nodes_of (substituted put part.0)) (map nodes_of (map (substituted put) (map (λ part. part.0) parts)))
    part.1 (parts_no_fewer put parts)

abbrev LayerNoFewer : Put → Formula-F Formula → Type 0
LayerNoFewer put layer = nodes_layer (map-Formula _ ℕ nodes_of layer) ≤ nodes_of (put_in_layer put (map-Formula _ Formula (substituted put) layer))

more_le : (a b : ℕ) → a ≤ b → 1 + a ≤ 1 + b
more_le a b e = omega arith

layer_no_fewer : (put : Put) (layer : Formula-F ((formula : Formula) × NoFewer put formula)) → LayerNoFewer put (map-Formula _ Formula (λ part. part.0) layer)
layer_no_fewer put (Row form) = one_node (put_in_row put form)
layer_no_fewer put (Flag at is) = one_node (put_in_flag put at is)
layer_no_fewer put (All parts) =
    let after = map (substituted put) (map (λ part. part.0) parts) in
    subst (λ (n : ℕ). 1 + sum (map nodes_of (map (λ part. part.0) parts)) ≤ n) (sym (fold-roll-Formula ℕ nodes_layer (All after)))
    (more_le _ _ (parts_no_fewer put parts))
layer_no_fewer put (Any parts) =
    let after = map (substituted put) (map (λ part. part.0) parts) in
    subst (λ (n : ℕ). 1 + sum (map nodes_of (map (λ part. part.0) parts)) ≤ n) (sym (fold-roll-Formula ℕ nodes_layer (Any after)))
    (more_le _ _ (parts_no_fewer put parts))

formula_no_fewer : (put : Put) (layer : Formula-F Formula) → LayerNoFewer put layer → NoFewer put (roll-Formula layer)
formula_no_fewer put layer less =
    subst (λ (after : Formula). nodes_of (roll-Formula layer) ≤ nodes_of after) (sym (fold-roll-Formula Formula (put_in_layer put) layer))
    (subst (λ (n : ℕ). n ≤ nodes_of (put_in_layer put (map-Formula _ Formula (substituted put) layer))) (sym (fold-roll-Formula ℕ nodes_layer layer)) less)

put_no_fewer : (put : Put) (formula : Formula) → NoFewer put formula
put_no_fewer put = ind-Formula (NoFewer put) (λ layer parts is. formula_no_fewer put layer (subst (LayerNoFewer put) is (layer_no_fewer put parts)))

below_both : (a b : ℕ) → b ≤ 1 + (0 + a + b)
below_both a b = omega arith

pub step_no_fewer : (step : Step) (part : Formula) → nodes_of part ≤ nodes_of (part_before step part)
step_no_fewer (steps.Put put) part = put_no_fewer put part
step_no_fewer (steps.Assume formula) part =
    subst (λ (n : ℕ). nodes_of part ≤ n) (sym (fold-roll-Formula ℕ nodes_layer (All (formula ∷ part ∷ [])))) (below_both (nodes_of formula) (nodes_of part))

-- ---- queries

sum_map : (f : Formula → ℕ) (formulas : List Formula) → sum (map f formulas) ≡ sum_by f formulas
sum_map f [] = refl
sum_map f (formula ∷ formulas) =
    sum_by-cons (λ (n : ℕ). n) (f formula) (map f formulas) ∙ ap (λ (n : ℕ). f formula + n) (sum_map f formulas) ∙ sym (sum_by-cons f formula formulas)

parts_size : (post : Formula) (paths : List (List Step)) → sum (map nodes_of (map (path_part post) paths)) ≡ nodes_of_parts post paths
parts_size post [] = refl
parts_size post (path ∷ paths) =
    sum_by-cons (λ (n : ℕ). n) (nodes_of (path_part post path)) (map nodes_of (map (path_part post) paths))
    ∙ ap (λ (n : ℕ). nodes_of_part post path + n) (parts_size post paths) ∙ sym (sum_by-cons (nodes_of_part post) path paths)

-- a negated query has no fewer nodes than its parts
pub query_nodes : (hyps : List Formula) (post : Formula) (paths : List (List Step)) → nodes_of_parts post paths ≤ nodes_of (query_of_parts hyps (map (path_part post) paths))
query_nodes hyps post paths =
    let parts = map (path_part post) paths in
    let all = hyps ++ some_part parts ∷ [] in
    numbers _ (sum (map nodes_of all)) (sum_by nodes_of all) (sum_by nodes_of hyps) (nodes_of (some_part parts)) (sum (map nodes_of parts)) (nodes_of_parts post paths)
    (fold-roll-Formula ℕ nodes_layer (All all)) (sum_map nodes_of all) (sum_by_push nodes_of hyps (some_part parts)) (fold-roll-Formula ℕ nodes_layer (Any parts)) (parts_size post paths)
  where
    numbers : (q s t h a b p : ℕ) → q ≡ 1 + s → s ≡ t → t ≡ h + a → a ≡ 1 + b → b ≡ p → p ≤ q
    numbers q s t h a b p e f g i j = omega arith
