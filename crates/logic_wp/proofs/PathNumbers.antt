-- A body has as many paths as are counted.
use Rattle.std.proofs.Common.{◌≡◌, ℕ, zero, suc, ◌+◌, ◌*◌, ◌<◌, List, [], ◌∷◌, ◌++◌, map, length, sym, subst, arith, ap, refl, ◌∙◌}
use Rattle.std.specs.List.{flat_map}
use Rattle.std.proofs.lemmas.List.{length-append}
use Rattle.logic_linear.specs.declared.formula.Formula.{Formula}
use Rattle.logic_linear.specs.Negation.{negation}
use Rattle.logic_linear.specs.Measures.{product}
use Rattle.logic_linear.specs.declared.substitution.Put.{Put as Assignment}
use Rattle.lang_monitor.specs.declared.monitor.Stmt.{Stmt}
use Rattle.lang_monitor.specs.declared.monitor.Stmt.TheVariants as statements
use Rattle.lang_monitor.specs.declared.monitor.Stmt.TheOpen.{Stmt-F, Put as Assign, If}
use Rattle.lang_monitor.specs.declared.monitor.Stmt.TheViews.{roll-Stmt}
use Rattle.lang_monitor.specs.declared.monitor.Stmt.TheFolds.{ind-Stmt, map-Stmt, fold-roll-Stmt}
use Rattle.lang_monitor.specs.Paths.{count_step, statement_count, path_count}
use Rattle.logic_wp.specs.declared.step.Step.{Step}
use Rattle.logic_wp.specs.declared.step.Step.TheVariants.{Put, Assume}
use Rattle.logic_wp.specs.Paths.{joined, branch_paths, paths_step, statement_paths, body_paths}

-- ---- each form of a statement

pub put_paths : (put : Assignment) → statement_paths (statements.Put put) ≡ (Put put ∷ []) ∷ []
put_paths put = ap statement_paths (sym (statements.rolls-Put put)) ∙ fold-roll-Stmt (List (List Step)) paths_step (Assign put)

pub if_paths : (when : Formula) (body other : List Stmt) → statement_paths (statements.If when body other) ≡ branch_paths when (body_paths body) (body_paths other)
if_paths when body other = ap statement_paths (sym (statements.rolls-If when body other)) ∙ fold-roll-Stmt (List (List Step)) paths_step (If when body other)

-- ---- how many paths there are

one_more : (f s n r : ℕ) → n ≡ s → r ≡ f * s → n + r ≡ suc f * s
one_more f s n r e g = grind arith

product_length : (firsts rests : List (List Step)) → length (flat_map (λ path. map (λ rest. path ++ rest) rests) firsts) ≡ length firsts * length rests
product_length [] rests = grind arith
product_length (first ∷ firsts) rests =
    length-append (map (λ rest. first ++ rest) rests) (flat_map (λ path. map (λ rest. path ++ rest) rests) firsts)
    ∙ one_more (length firsts) (length rests) (length (map (λ rest. first ++ rest) rests)) (length (flat_map (λ path. map (λ rest. path ++ rest) rests) firsts)) (map_length rests) (product_length firsts rests)
  where
    map_length : (rests : List (List Step)) → length (map (λ rest. first ++ rest) rests) ≡ length rests
    map_length [] = refl
    map_length (rest ∷ rests) = ap suc (map_length rests)

assumed_length : (formula : Formula) (paths : List (List Step)) → length (map (λ path. Assume formula ∷ path) paths) ≡ length paths
assumed_length formula [] = refl
assumed_length formula (path ∷ paths) = ap suc (assumed_length formula paths)

abbrev Counted : Stmt → Type 0
Counted statement = length (statement_paths statement) ≡ statement_count statement

body_counted : (body : List ((statement : Stmt) × Counted statement)) → length (joined (map statement_paths (map (λ part. part.0) body))) ≡ product (map statement_count (map (λ part. part.0) body))
body_counted [] = refl
body_counted (part ∷ body) = product_length (statement_paths part.0) (joined (map statement_paths (map (λ part. part.0) body))) ∙ same_product _ _ _ _ part.1 (body_counted body)
  where
    same_product : (a b c d : ℕ) → a ≡ b → c ≡ d → a * c ≡ b * d
    same_product a b c d e f = rw (e, f) refl

abbrev LayerCounted : Stmt-F Stmt → Type 0
LayerCounted layer = length (paths_step (map-Stmt _ (List (List Step)) statement_paths layer)) ≡ count_step (map-Stmt _ ℕ statement_count layer)

layer_counted : (layer : Stmt-F ((statement : Stmt) × Counted statement)) → LayerCounted (map-Stmt _ Stmt (λ part. part.0) layer)
layer_counted (Assign put) = refl
layer_counted (If when body other) =
    let paths = joined (map statement_paths (map (λ part. part.0) body)) in
    let others = joined (map statement_paths (map (λ part. part.0) other)) in
    length-append (map (λ path. Assume when ∷ path) paths) (map (λ path. Assume (negation when) ∷ path) others)
    ∙ same_sum _ _ _ _ (assumed_length when paths ∙ body_counted body) (assumed_length (negation when) others ∙ body_counted other)
  where
    same_sum : (a b c d : ℕ) → a ≡ b → c ≡ d → a + c ≡ b + d
    same_sum a b c d e f = rw (e, f) refl

statement_counted : (statement : Stmt) → Counted statement
statement_counted = ind-Stmt Counted (λ layer parts is. whole layer (subst LayerCounted is (layer_counted parts)))
  where
    whole : (layer : Stmt-F Stmt) → LayerCounted layer → Counted (roll-Stmt layer)
    whole layer counted = ap length (fold-roll-Stmt (List (List Step)) paths_step layer) ∙ counted ∙ sym (fold-roll-Stmt ℕ count_step layer)

-- A body has as many paths as are counted.
pub paths_counted : (body : List Stmt) → length (body_paths body) ≡ path_count body
paths_counted [] = refl
paths_counted (statement ∷ body) = product_length (statement_paths statement) (body_paths body) ∙ rw (statement_counted statement, paths_counted body) refl

-- ---- a statement has a path

two_some : (a b : ℕ) → 0 < a → 0 < b → 0 < a * b
two_some (suc a) (suc b) e f = grind arith
two_some zero b e f = absurd (omega arith)
two_some (suc a) zero e f = absurd (omega arith)

abbrev HasPaths : Stmt → Type 0
HasPaths statement = 0 < length (statement_paths statement)

body_has_paths : (body : List ((statement : Stmt) × HasPaths statement)) → 0 < length (joined (map statement_paths (map (λ part. part.0) body)))
body_has_paths [] = omega arith
body_has_paths (part ∷ body) =
    subst (λ (n : ℕ). 0 < n) (sym (product_length (statement_paths part.0) (joined (map statement_paths (map (λ part. part.0) body)))))
    (two_some _ _ part.1 (body_has_paths body))

abbrev LayerHasPaths : Stmt-F Stmt → Type 0
LayerHasPaths layer = 0 < length (paths_step (map-Stmt _ (List (List Step)) statement_paths layer))

some_left : (n a b c : ℕ) → n ≡ a + b → a ≡ c → 0 < c → 0 < n
some_left n a b c e f g = omega arith

layer_has_paths : (layer : Stmt-F ((statement : Stmt) × HasPaths statement)) → LayerHasPaths (map-Stmt _ Stmt (λ part. part.0) layer)
layer_has_paths (Assign put) = omega arith
layer_has_paths (If when body other) =
    let paths = joined (map statement_paths (map (λ part. part.0) body)) in
    let others = joined (map statement_paths (map (λ part. part.0) other)) in
    some_left _ _ _ _ (length-append (map (λ path. Assume when ∷ path) paths) (map (λ path. Assume (negation when) ∷ path) others)) (assumed_length when paths) (body_has_paths body)

pub statement_has_paths : (statement : Stmt) → 0 < length (statement_paths statement)
statement_has_paths = ind-Stmt HasPaths (λ layer parts is. whole layer (subst LayerHasPaths is (layer_has_paths parts)))
  where
    whole : (layer : Stmt-F Stmt) → LayerHasPaths layer → HasPaths (roll-Stmt layer)
    whole layer some = subst (λ (n : ℕ). 0 < n) (sym (ap length (fold-roll-Stmt (List (List Step)) paths_step layer))) some
