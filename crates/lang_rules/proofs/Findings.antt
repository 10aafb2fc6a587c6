-- What is found of each form of a statement.
use Rattle.std.proofs.Common.{◌≡◌, ℕ, ◌+◌, ◌-◌, zero, suc, List, [], ◌∷◌, ◌++◌, length, get_or, take, map, sym, ap, ◌∙◌, refl, arith, Some, Result, Ok, Err}
use Rattle.std.specs.List.{flat_map}
use Rattle.std.proofs.lemmas.List.{append_assoc, length-map, map-append, take-map}
use Rattle.std.proofs.lemmas.List.Folds.{flat_map-map}
use Rattle.lang_tree.specs.declared.tree.Expr.{Expr}
use Rattle.lang_tree.specs.declared.tree.BlockTree.{BlockTree}
use Rattle.lang_tree.specs.declared.tree.StmtTree.{StmtTree}
use Rattle.lang_tree.specs.declared.tree.StmtTree.TheVariants.{If, rolls-If}
use Rattle.lang_tree.specs.declared.tree.StmtTree.TheOpen as layers
use Rattle.lang_tree.specs.declared.tree.StmtTree.TheFolds.{fold-roll-StmtTree}
use Rattle.lang_base.specs.declared.kind.Kind.TheVariants as kinds
use Rattle.lang_forms.specs.declared.scope.Entry.{Entry}
use Rattle.lang_forms.specs.Sense.{sense}
use Rattle.lang_rules.specs.Rules.{Finding, early_faults, early_in_blocks, early_returns, expected, finding, finding_step, inner_faults, misplaced, places_in, return_faults, places_step, statement_places}
use Rattle.lang_rules.specs.inner.Counting.{counted}
use Rattle.lang_rules.specs.inner.Parts.{branch_faults}
use Rattle.lang_rules.proofs.CountedDown.{counted_ok, counted_err, counted_below}

finding-If : (scope : List Entry) (at : ℕ) (when : Expr) (body other : List StmtTree) → finding scope (If at when body other) ≡ finding_step scope (layers.If at when (map (finding scope) body) (map (finding scope) other))
finding-If scope at when body other = ap (finding scope) (sym (rolls-If at when body other)) ∙ fold-roll-StmtTree Finding (finding_step scope) (layers.If at when body other)

inner-block : (scope : List Entry) (body : List StmtTree) → inner_faults (map (finding scope) body) ≡ branch_faults scope body
inner-block scope body = flat_map-map (λ inner. inner.faults ++ misplaced inner.returns) (finding scope) body

pub faults-If : (scope : List Entry) (at : ℕ) (when : Expr) (body other : List StmtTree) → (finding scope (If at when body other)).faults ≡ expected (Some kinds.Bool) (sense scope when) ++ (branch_faults scope body ++ branch_faults scope other)
faults-If scope at when body other =
    let condition = expected (Some kinds.Bool) (sense scope when) in
    ap (λ f. f.faults) (finding-If scope at when body other)
    ∙ ap (λ faults. condition ++ (faults ++ inner_faults (map (finding scope) other))) (inner-block scope body)
    ∙ ap (λ faults. condition ++ (branch_faults scope body ++ faults)) (inner-block scope other)

-- ---- places

places-If : (at : ℕ) (when : Expr) (body other : List StmtTree) → statement_places (If at when body other) ≡ at ∷ (places_in body ++ places_in other)
places-If at when body other =
    ap statement_places (sym (rolls-If at when body other))
    ∙ fold-roll-StmtTree (List ℕ) places_step (layers.If at when body other)
    ∙ ap (λ places. at ∷ (places ++ flat_map (λ inner. inner) (map statement_places other))) (flat_map-map (λ inner. inner) statement_places body)
    ∙ ap (λ places. at ∷ (places_in body ++ places)) (flat_map-map (λ inner. inner) statement_places other)

-- an `if` counts as one, and then come the statements in it
pub counted-If_ok : (at : ℕ) (when : Expr) (body other : List StmtTree) (left rest : ℕ) (r : Result ℕ ℕ) → (left ≡ 0 → ⊥) → Ok rest ≡ counted (places_in body) (left - 1) → r ≡ counted (places_in other) rest → r ≡ counted (statement_places (If at when body other)) left
counted-If_ok at when body other left rest r some first second =
    second ∙ sym (counted_ok (places_in body) (places_in other) (left - 1) rest first) ∙ sym (counted_below at left (places_in body ++ places_in other) some)
    ∙ ap (λ places. counted places left) (sym (places-If at when body other))

pub counted-If_err : (at : ℕ) (when : Expr) (body other : List StmtTree) (left place : ℕ) → (left ≡ 0 → ⊥) → Err place ≡ counted (places_in body) (left - 1) → Err place ≡ counted (statement_places (If at when body other)) left
counted-If_err at when body other left place some first =
    counted_err (places_in body) (places_in other) (left - 1) place first ∙ sym (counted_below at left (places_in body ++ places_in other) some)
    ∙ ap (λ places. counted places left) (sym (places-If at when body other))

-- ---- returns

early_front : (found : List Finding) (n : ℕ) → n + 1 ≡ length found → early_returns found ≡ flat_map (λ f. f.returns) (take n found)
early_front [] n is = absurd (omega (arith, is))
early_front (f ∷ []) zero is = refl
early_front (f ∷ []) (suc n) is = absurd (omega (arith, is))
early_front (f ∷ g ∷ more) zero is = absurd (omega (arith, is))
early_front (f ∷ g ∷ more) (suc n) is = ap (λ places. f.returns ++ places) (early_front (g ∷ more) n (omega (arith, is)))

-- all statements but the last
pub early_is : (scope : List Entry) (body : List StmtTree) (n : ℕ) → n + 1 ≡ length body → flat_map (λ s. (finding scope s).returns) (take n body) ≡ early_returns (map (finding scope) body)
early_is scope body n is =
    let last : n + 1 ≡ length (map (finding scope) body) = is ∙ sym (length-map body (finding scope)) in
    sym (early_front (map (finding scope) body) n last ∙ ap (flat_map (λ f. f.returns)) (take-map (finding scope) n body) ∙ flat_map-map (λ f. f.returns) (finding scope) (take n body))

-- all blocks but the last, and then the last
pub early_blocks_are : (scope : List Entry) (blocks : List BlockTree) (n : ℕ) (last : BlockTree) → n + 1 ≡ length blocks → last ≡ get_or blocks n last
    → flat_map (λ block. return_faults scope block.body) (take n blocks) ++ early_faults scope last.body ≡ early_in_blocks scope blocks
early_blocks_are scope [] n last whole is = absurd (omega (arith, whole))
early_blocks_are scope (block ∷ []) zero last whole is = ap (λ (block : BlockTree). early_faults scope block.body) is
early_blocks_are scope (block ∷ []) (suc n) last whole is = absurd (omega (arith, whole))
early_blocks_are scope (block ∷ next ∷ more) zero last whole is = absurd (omega (arith, whole))
early_blocks_are scope (block ∷ next ∷ more) (suc n) last whole is =
    let here = return_faults scope block.body in
    append_assoc here (flat_map (λ block. return_faults scope block.body) (take n (next ∷ more))) (early_faults scope last.body)
    ∙ ap (λ faults. here ++ faults) (early_blocks_are scope (next ∷ more) n last (omega (arith, whole)) is)

pub misplaced-flat_map : {X : Type 0} (returns : X → List ℕ) (xs : List X) → misplaced (flat_map returns xs) ≡ flat_map (λ x. misplaced (returns x)) xs
misplaced-flat_map returns [] = refl
misplaced-flat_map returns (x ∷ xs) = map-append _ (returns x) (flat_map returns xs) ∙ ap (λ faults. misplaced (returns x) ++ faults) (misplaced-flat_map returns xs)
