-- What an open cube says of its formula.
use Rattle.std.proofs.Common.{◌≡◌, ◌⊎◌, inl, inr, ℕ, zero, suc, ◌+◌, ◌≤◌, Bool, true, false, not, ◌&&◌, ◌||◌, arith, List, [], ◌∷◌, length, map, Some, ap, subst, refl, ◌∙◌}
use Rattle.std.specs.Prelude.{slice_get}
use Rattle.std.specs.List.{flat_map, list_all, list_any, AllByRecursion as Each}
use Rattle.logic_linear.specs.Differences.{has_difference_rows, is_difference}
use Rattle.logic_linear.specs.declared.formula.Formula.{Formula}
use Rattle.logic_linear.specs.Linear.{Linear}
use Rattle.logic_linear.specs.Measures.{nodes_of}
use Rattle.logic_linear.specs.Places.{rows_of}
use Rattle.logic_linear.specs.Truth.{Valuation, truth_of}
use Rattle.logic_cert.specs.declared.cert.Literal.{Literal}
use Rattle.logic_cert.specs.declared.cert.Literal.TheVariants.{Row, Flag}
use Rattle.logic_cert.specs.Refutes.{literal_truth}
use Rattle.logic_elim.proofs.RowLemmas.{each_first, each_last, each_push, each_append}
use Rattle.logic_solve.specs.Cubes.{IsCubeFrom, IsCubeOf, row, flag, every, chosen, ended, HasGeneral, is_general}
use Rattle.logic_solve.specs.Refutation.{HasUndecidedCube, HoldsSomewhere, IsDecidable, IsLeftOpen}
use Rattle.logic_solve.specs.inner.Literals.{AreDifferences, AreTrue}
use Rattle.logic_solve.specs.inner.Searches.{weight, HasOpenCube}
use Rattle.logic_solve.proofs.SearchLemmas.{row_truth, flag_truth, all_truth, any_truth, each_true, some_true, row_rows, all_rows, any_rows, each_of, weight-append, push_length, row_nodes, flag_nodes, all_nodes, any_nodes}

abbrev IsTrueAt : Valuation → Formula → Type 0
IsTrueAt v formula = truth_of v formula ≡ true

abbrev IsTrueLiteral : Valuation → Literal → Type 0
IsTrueLiteral v literal = literal_truth v literal ≡ true

-- Where the cube is true, so is all that it comes of.
pub cube_true : (v : Valuation) {todo : List Formula} {literals cube : List Literal} → IsCubeFrom todo literals cube → AreTrue v cube → Each (IsTrueAt v) todo × AreTrue v literals
cube_true v (row form todo literals cube more) all =
    let rest = cube_true v more all in
    ((row_truth v form ∙ (each_last (IsTrueLiteral v) literals (Row form ∷ []) rest.1).0, rest.0), each_first (IsTrueLiteral v) literals (Row form ∷ []) rest.1)
cube_true v (flag place is todo literals cube more) all =
    let rest = cube_true v more all in
    ((flag_truth v place is ∙ (each_last (IsTrueLiteral v) literals (Flag place is ∷ []) rest.1).0, rest.0), each_first (IsTrueLiteral v) literals (Flag place is ∷ []) rest.1)
cube_true v (every parts todo literals cube more) all =
    let rest = cube_true v more all in
    ((all_truth v parts ∙ each_true v parts (each_first (IsTrueAt v) parts todo rest.0), each_last (IsTrueAt v) parts todo rest.0), rest.1)
cube_true v (chosen parts todo i part literals cube at more) all =
    let rest = cube_true v more all in
    ((any_truth v parts ∙ some_true v parts i part at rest.0.0, rest.0.1), rest.1)
cube_true v (ended literals) all = (tt, all)

part_weight : (parts : List Formula) (i : ℕ) (part : Formula) → slice_get parts i ≡ Some part → nodes_of part ≤ weight parts
part_weight [] i part is = absurd cc
part_weight (first ∷ parts) zero part is = let same : first ≡ part = cc in let nodes = ap nodes_of same in omega arith
part_weight (first ∷ parts) (suc i) part is = let rest = part_weight parts i part is in omega arith

-- A cube has no more literals than there are nodes.
pub cube_size : {todo : List Formula} {literals cube : List Literal} → IsCubeFrom todo literals cube → length cube ≤ weight todo + length literals
cube_size (row form todo literals cube more) =
    let rest = cube_size more in
    let count = push_length literals (Row form) in
    let nodes = row_nodes form in
    omega arith
cube_size (flag place is todo literals cube more) =
    let rest = cube_size more in
    let count = push_length literals (Flag place is) in
    let nodes = flag_nodes place is in
    omega arith
cube_size (every parts todo literals cube more) =
    let rest = cube_size more in
    let nodes = all_nodes parts in
    let whole = weight-append parts todo in
    omega arith
cube_size (chosen parts todo i part literals cube at more) =
    let rest = cube_size more in
    let nodes = any_nodes parts in
    let less = part_weight parts i part at in
    omega arith
cube_size (ended literals) = omega arith

-- The literal's row, where it is one.
abbrev RowIs : (Linear → Type 0) → Literal → Type 0
RowIs P (Row form) = P form
RowIs P (Flag place is) = Unit {0}

abbrev RowsAre : (Linear → Type 0) → Formula → Type 0
RowsAre P formula = Each P (rows_of formula)

parts_are : (P : Linear → Type 0) (parts : List Formula) → Each P (flat_map (λ rows. rows) (map rows_of parts)) → Each (RowsAre P) parts
parts_are P [] all = tt
parts_are P (part ∷ parts) all =
    (each_first P (rows_of part) (flat_map (λ rows. rows) (map rows_of parts)) all, parts_are P parts (each_last P (rows_of part) (flat_map (λ rows. rows) (map rows_of parts)) all))

-- What is said of each row of the formulas is so of a cube's.
cube_rows : (P : Linear → Type 0) {todo : List Formula} {literals cube : List Literal} → IsCubeFrom todo literals cube → Each (RowsAre P) todo → Each (RowIs P) literals → Each (RowIs P) cube
cube_rows P (row form todo literals cube more) each all = cube_rows P more each.1 (each_push (RowIs P) literals (Row form) all (subst (Each P) (row_rows form) each.0).0)
cube_rows P (flag place is todo literals cube more) each all = cube_rows P more each.1 (each_push (RowIs P) literals (Flag place is) all tt)
cube_rows P (every parts todo literals cube more) each all =
    cube_rows P more (each_append (RowsAre P) parts todo (parts_are P parts (subst (Each P) (all_rows parts) each.0)) each.1) all
cube_rows P (chosen parts todo i part literals cube at more) each all =
    cube_rows P more (each_of (RowsAre P) parts i part at (parts_are P parts (subst (Each P) (any_rows parts) each.0)), each.1) all
cube_rows P (ended literals) each all = all

either_false : (a b : Bool) → (a || b) ≡ false → (a ≡ false) × (b ≡ false)
either_false true b h = absurd cc
either_false false b h = (refl, h)

not_false : (a : Bool) → not a ≡ false → a ≡ true
not_false true h = refl
not_false false h = absurd cc

pub differences_in : (cube : List Literal) → list_any is_general cube ≡ false → AreDifferences cube
differences_in [] none = tt
differences_in (Row form ∷ cube) none = let parts = either_false _ _ none in (not_false (is_difference form) parts.0, differences_in cube parts.1)
differences_in (Flag place is ∷ cube) none = (tt, differences_in cube none)

pub open_cause : (formula : Formula) (cube : List Literal) → HasOpenCube (formula ∷ []) [] cube → HoldsSomewhere formula ⊎ HasUndecidedCube formula
open_cause formula cube has = by_test (list_any is_general cube) refl
  where
    somewhere : list_any is_general cube ≡ false → HoldsSomewhere formula
    somewhere none =
        let is = has.open_cube in
        let held = is.differences (differences_in cube none) in
        let whole = cube_true held.0 has.is_cube held.1 in
        (held.0, whole.0.0)

    by_test : (general : Bool) → list_any is_general cube ≡ general → HoldsSomewhere formula ⊎ HasUndecidedCube formula
    by_test true e = let is = has.open_cube in inr (record { cube = cube; is_cube = has.is_cube; general = e; no_clash = is.no_clash; light = is.light e })
    by_test false e = inl (somewhere e)

-- ---- difference rows

abbrev IsDifference : Linear → Type 0
IsDifference form = is_difference form ≡ true

both_true : (a b : Bool) → (a && b) ≡ true → (a ≡ true) × (b ≡ true)
both_true true b h = (refl, h)
both_true false b h = absurd cc

each_difference : (rows : List Linear) → list_all is_difference rows ≡ true → Each IsDifference rows
each_difference [] all = tt
each_difference (form ∷ rows) all = let parts = both_true (is_difference form) _ all in (parts.0, each_difference rows parts.1)

none_general : (cube : List Literal) → Each (RowIs IsDifference) cube → HasGeneral cube → ⊥
none_general [] all general = absurd cc
none_general (Row form ∷ cube) all general = none_general cube all.1 (subst (λ (test : Bool). (not test || list_any is_general cube) ≡ true) all.0 general)
none_general (Flag place is ∷ cube) all general = none_general cube all.1 general

-- A cube of a formula of difference rows alone has no other row.
pub no_general_cube : (formula : Formula) (cube : List Literal) → has_difference_rows formula ≡ true → IsCubeOf formula cube → HasGeneral cube → ⊥
no_general_cube formula cube differences is general = none_general cube (cube_rows IsDifference is (each_difference (rows_of formula) differences, tt) tt) general

-- A decidable formula that is left open holds somewhere.
pub decided : (formula : Formula) → IsDecidable formula → IsLeftOpen formula → HoldsSomewhere formula
decided formula easy (inl many) = let few = easy.few_cubes in absurd (omega arith)
decided formula easy (inr (inl somewhere)) = somewhere
decided formula easy (inr (inr has)) = absurd (no_general_cube formula has.cube easy.differences has.is_cube has.general)
