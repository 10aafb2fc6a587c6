-- What is answered of a formula.
use Rattle.std.proofs.Common.{Bor, ◌≡◌, ℕ, ◌<◌, ◌≤◌, min, List, [], ◌∷◌, ◌+◌, length, Option, Some, None, subst, arith, ap, inl, inr}
use Rattle.std.specs.Prelude.{IfSome}
use Rattle.logic_linear.specs.declared.formula.Formula.{Formula}
use Rattle.logic_linear.specs.Measures.{cubes_of, nodes_of}
use Rattle.logic_cert.specs.declared.cert.Cert.{Cert}
use Rattle.logic_cert.specs.declared.cert.Literal.{Literal}
use Rattle.logic_solve.specs.LeanRefutations.{RefutesLeanly}
use Rattle.logic_solve.specs.Refutation.{IsAnswer}
use Rattle.logic_solve.proofs.CubeLemmas.{open_cause}
use Rattle.logic_solve.specs.inner.Searches.{in_order, weight, IsFound}

answer_of : (formula : Formula) (cube : List Literal) (answer : Option Cert) → IsFound (formula ∷ []) [] cube answer → IsAnswer formula answer
answer_of formula cube (Some cert) found = found.0
answer_of formula cube None found = inr (open_cause formula cube found)

lean_of : (formula : Formula) (cube : List Literal) (answer : Option Cert) → IsFound (formula ∷ []) [] cube answer → IfSome answer (RefutesLeanly (formula ∷ []) [])
lean_of formula cube (Some cert) found = found
lean_of formula cube None found = tt

pub found_for : (formula : Formula) (rest : List (Bor (List Formula))) (gathered cube : List Literal) (answer : Option Cert) → rest ≡ [] → gathered ≡ [] → IsFound (formula ∷ in_order rest) gathered cube answer → IsFound (formula ∷ []) [] cube answer
found_for formula rest gathered cube answer f h found =
    subst (λ (some : List (Bor (List Formula))). IsFound (formula ∷ in_order some) [] cube answer) f (subst (λ (some : List Literal). IsFound (formula ∷ in_order rest) some cube answer) h found)

pub answered : (formula : Formula) (rest : List (Bor (List Formula))) (gathered cube : List Literal) (answer : Option Cert) → rest ≡ [] → gathered ≡ [] → IsFound (formula ∷ in_order rest) gathered cube answer → IsAnswer formula answer
answered formula rest gathered cube answer f h found = answer_of formula cube answer (found_for formula rest gathered cube answer f h found)

pub answered_leanly : (formula : Formula) (rest : List (Bor (List Formula))) (gathered cube : List Literal) (answer : Option Cert) → rest ≡ [] → gathered ≡ [] → IsFound (formula ∷ in_order rest) gathered cube answer → IfSome answer (RefutesLeanly (formula ∷ []) [])
answered_leanly formula rest gathered cube answer f h found = lean_of formula cube answer (found_for formula rest gathered cube answer f h found)

pub too_many_cubes : (formula : Formula) (cubes : ℕ) → cubes ≡ min (cubes_of formula) 1025 → 1024 < cubes → IsAnswer formula None
too_many_cubes formula cubes is many = inl (omega arith)

pub room_for : (formula : Formula) (rest : List (Bor (List Formula))) (gathered : List Literal) → rest ≡ [] → gathered ≡ [] → nodes_of formula ≤ 65536 → weight (formula ∷ in_order rest) + length gathered ≤ 65536
room_for formula rest gathered f h few =
    let one = ap (λ (some : List (Bor (List Formula))). weight (in_order some)) f in
    let none = ap length h in
    omega arith
