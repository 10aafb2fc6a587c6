-- Cubes that are solved: their heights as numbers, and cubes that are true nowhere.
use Rattle.std.proofs.Common.{◌≡◌, ◌⊎◌, inl, inr, ℕ, suc, ◌+◌, ◌<◌, ◌≤◌, ◌^◌, ℤ, pos, ◌+ℤ◌, ◌-ℤ◌, ◌*ℤ◌, ◌≤ℤ◌, Bool, true, false, cond, ◌||◌, List, [], ◌∷◌, ◌++◌, length, map, min, Option, Some, None, Bor, sym, subst, arith, ap, refl, ◌∙◌}
use Rattle.std.specs.Prelude.{◌==◌, IfSome}
use Rattle.std.specs.List.{flat_map, list_any, AllByRecursion as Each}
use Rattle.logic_linear.specs.declared.form.Term.{Term}
use Rattle.logic_linear.specs.declared.formula.Formula.{Formula}
use Rattle.logic_linear.specs.declared.formula.Formula.TheVariants as formulas
use Rattle.logic_linear.specs.LightCubes.{IsWithin}
use Rattle.logic_linear.specs.Measures.{cubes_of, nodes_of}
use Rattle.logic_linear.specs.Places.{HasPlaces, IsIn}
use Rattle.logic_linear.specs.Truth.{Valuation, sum_of, truth_of}
use Rattle.logic_cert.specs.declared.cert.Cert.{Cert, out-Cert}
use Rattle.logic_cert.specs.declared.cert.Cert.TheVariants as certificates
use Rattle.logic_cert.specs.declared.cert.Cert.TheOpen as cert_layers
use Rattle.logic_cert.specs.declared.cert.Cert.TheViews.{out-roll-Cert}
use Rattle.logic_cert.specs.declared.cert.Combine.{Combine}
use Rattle.logic_cert.specs.declared.cert.Literal.{Literal}
use Rattle.logic_cert.specs.declared.cert.Literal.TheVariants.{Row, Flag}
use Rattle.logic_cert.specs.Refutes.{chain_closes, closes, row_of, row, flag, every, ended, RefutesFrom, Refutes}
use Rattle.logic_cert.proofs.SoundnessLemmas.{refuted_is_false}
use Rattle.logic_elim.proofs.PlaceLemmas.{noted_has}
use Rattle.logic_elim.proofs.RowLemmas.{each_first, each_last}
use Rattle.logic_solve.specs.declared.paths.Edge.{Edge}
use Rattle.logic_solve.specs.declared.paths.Reached.{Reached}
use Rattle.logic_solve.specs.declared.valuation.NumberAt.{NumberAt}
use Rattle.logic_solve.specs.declared.valuation.Solution.{Solution}
use Rattle.logic_solve.specs.Cubes.{HasNoClash, is_general}
use Rattle.logic_solve.specs.Refutation.{IsDecidable}
use Rattle.logic_solve.specs.Solutions.{number_among, is_listed, valuation_of, IsSolution}
use Rattle.logic_solve.specs.inner.Differences.{chain_of, AreEdgesOf}
use Rattle.logic_solve.specs.inner.Literals.{noted, terms_in_literals, AreTrue, HaveNoAbsurd, LiteralHolds}
use Rattle.logic_solve.specs.inner.Paths.{height_at, AreEdges, AreHigh}
use Rattle.logic_solve.specs.inner.Paths.{IsCycle, IsFitting, IsReached}
use Rattle.logic_solve.specs.inner.Searches.{in_order, HasOpenCube, IsFound}
use Rattle.logic_solve.specs.inner.Solving.{number_in, true_places, AreNear, IsSolved, Solves, StandsSo}
use Rattle.logic_solve.proofs.CubeLemmas.{cube_size, cube_true, differences_in, no_general_cube}
use Rattle.logic_solve.proofs.CycleLemmas.{cycle_closes}
use Rattle.logic_solve.proofs.EdgeLemmas.{edges_fit, literals_hold, standing}
use Rattle.logic_solve.proofs.FormulaLemmas.{found_for}
use Rattle.logic_solve.proofs.KeptLemmas.{general_not_small}
use Rattle.logic_solve.proofs.LiteralLemmas.{each_true, flags_of, is_true_at}
use Rattle.logic_solve.proofs.PathLemmas.{height_near}
use Rattle.logic_solve.proofs.SearchLemmas.{row_truth, flag_truth, all_truth}
use Rattle.logic_solve.proofs.SearchLemmas as searches

-- ---- numbers

-- a place that the numbers are of has its height
number_at : (reached : List Reached) (places : List ℕ) (place : ℕ) → IsIn places place → number_among (map (number_in reached) places) place ≡ height_at reached (suc place) -ℤ height_at reached 0
number_at reached [] place is = absurd is
number_at reached (first ∷ places) place is = by_test (first == place) refl is (number_at reached places place)
  where
    Here : ℕ → ℤ
    Here at = height_at reached (at + 1) -ℤ height_at reached 0

    same_height : (at : ℕ) → at ≡ place → Here at ≡ height_at reached (suc place) -ℤ height_at reached 0
    same_height at e = let next : at + 1 ≡ suc place = omega arith in ap (λ (n : ℕ). height_at reached n -ℤ height_at reached 0) next

    by_test : (same : Bool) → (first == place) ≡ same → (place ≡ first) ⊎ IsIn places place → (IsIn places place → number_among (map (number_in reached) places) place ≡ height_at reached (suc place) -ℤ height_at reached 0)
        → cond same (Here first) (number_among (map (number_in reached) places) place) ≡ height_at reached (suc place) -ℤ height_at reached 0
    by_test true e is later = same_height first (let here : first ≡ place = grind arith in here)
    by_test false e (inl same) later = absurd (let no : (first == place) ≡ true = grind arith in cc)
    by_test false e (inr among) later = later among

-- valuations with the same numbers at the places of the terms
same_sum : (u w : Valuation) (places : List ℕ) (terms : List Term) → ((place : ℕ) → IsIn places place → u.number place ≡ w.number place) → HasPlaces places terms → sum_of w terms ≡ sum_of u terms
same_sum u w places [] same has = refl
same_sum u w places (term ∷ terms) same has = both term.times _ _ _ _ (same term.place has.0) (same_sum u w places terms same has.1)
  where
    both : (t a b c d : ℤ) → a ≡ b → c ≡ d → t *ℤ b +ℤ c ≡ t *ℤ a +ℤ d
    both t a b c d e f = rw (e, f) refl

still_holds : (u w : Valuation) (places : List ℕ) (literals : List Literal) → ((place : ℕ) → IsIn places place → u.number place ≡ w.number place) → HasPlaces places (terms_in_literals literals) → Each (LiteralHolds w) literals → Each (LiteralHolds u) literals
still_holds u w places [] same has held = tt
still_holds u w places (Row form ∷ literals) same has held = (
  subst (λ (sum : ℤ). (sum +ℤ form.constant) ≤ℤ pos 0) (same_sum u w places form.terms same (each_first (λ (term : Term). IsIn places term.place) form.terms (terms_in_literals literals) has)) held.0,
  still_holds u w places literals same (each_last (λ (term : Term). IsIn places term.place) form.terms (terms_in_literals literals) has) held.1,
)
still_holds u w places (Flag place is ∷ literals) same has held = (tt, still_holds u w places literals same has held.1)

-- ---- flags

listed_so : (literals : List Literal) (at : ℕ) → is_listed (flat_map true_places literals) at ≡ list_any (is_true_at at) literals
listed_so [] at = refl
listed_so (Row form ∷ literals) at = listed_so literals at
listed_so (Flag place true ∷ literals) at = ap (λ (more : Bool). (place == at) || more) (listed_so literals at)
listed_so (Flag place false ∷ literals) at = listed_so literals at

-- ---- the solution of heights

pub true_so : (literals : List Literal) (edges : List Edge) (reached : List Reached) (solution : Solution) → AreEdgesOf literals literals edges → HaveNoAbsurd literals → Each (IsFitting (height_at reached)) edges → HasNoClash literals → StandsSo literals reached solution
    → AreTrue (valuation_of solution) literals
true_so literals edges reached solution so sane fits clear stands =
    let u = valuation_of solution in
    let w = standing (height_at reached) (flags_of literals) in
    let places = noted [] (terms_in_literals literals) in
    let numbers : (place : ℕ) → IsIn places place → u.number place ≡ w.number place =
    λ place is. ap (λ (some : List NumberAt). number_among some place) stands.numbers ∙ number_at reached places place is in
    let flags : u.flag ≡ (flags_of literals).flag = λ i. λ at. (ap (λ (some : List ℕ). is_listed some at) stands.flags ∙ listed_so literals at) i in
    each_true u literals literals flags (λ i literal at. (i, at)) clear
    (still_holds u w places literals numbers (noted_has [] (terms_in_literals literals)) (literals_hold (height_at reached) (flags_of literals) edges literals fits sane so.covers))

pub near_all : (edges : List Edge) (reached slice : List Reached) → slice ≡ reached → AreEdges edges → IsReached edges reached → AreNear slice
near_all edges reached slice same are is vertex = subst (λ (some : List Reached). IsWithin (2 ^ 111) (height_at some vertex)) (sym same) (height_near edges reached vertex are is)

-- ---- literals that are true nowhere

abbrev literal_formula : Literal → Formula
literal_formula (Row form) = formulas.Row form
literal_formula (Flag place is) = formulas.Flag place is

assoc_one : (gathered : List Literal) (literal : Literal) (literals : List Literal) → gathered ++ literal ∷ literals ≡ (gathered ++ literal ∷ []) ++ literals
assoc_one [] literal literals = refl
assoc_one (first ∷ gathered) literal literals = ap (λ (more : List Literal). first ∷ more) (assoc_one gathered literal literals)

append_none : {X : Type 0} (xs : List X) → xs ++ [] ≡ xs
append_none [] = refl
append_none {X} (x ∷ xs) = ap (λ (more : List X). x ∷ more) (append_none xs)

refutes_each : (literals gathered : List Literal) (cert : Cert) → closes (gathered ++ literals) (out-Cert cert) ≡ true → RefutesFrom (map literal_formula literals) gathered cert
refutes_each [] gathered cert h = ended gathered cert (subst (λ (some : List Literal). closes some (out-Cert cert) ≡ true) (append_none gathered) h)
refutes_each (Row form ∷ literals) gathered cert h =
    row form (map literal_formula literals) gathered cert (refutes_each literals (gathered ++ Row form ∷ []) cert (subst (λ (some : List Literal). closes some (out-Cert cert) ≡ true) (assoc_one gathered (Row form) literals) h))
refutes_each (Flag place is ∷ literals) gathered cert h =
    flag place is (map literal_formula literals) gathered cert (refutes_each literals (gathered ++ Flag place is ∷ []) cert (subst (λ (some : List Literal). closes some (out-Cert cert) ≡ true) (assoc_one gathered (Flag place is) literals) h))

all_hold : (v : Valuation) (literals : List Literal) → AreTrue v literals → Each (λ (formula : Formula). truth_of v formula ≡ true) (map literal_formula literals)
all_hold v [] all = tt
all_hold v (Row form ∷ literals) all = (row_truth v form ∙ all.0, all_hold v literals all.1)
all_hold v (Flag place is ∷ literals) all = (flag_truth v place is ∙ all.0, all_hold v literals all.1)

-- what closes literals leaves them true nowhere
closed_nowhere : (literals : List Literal) (cert : Cert) → closes literals (out-Cert cert) ≡ true → (v : Valuation) → AreTrue v literals → ⊥
closed_nowhere literals cert h v all =
    let parts = map literal_formula literals in
    let refuted : Refutes (formulas.All parts) cert = every parts [] [] cert (subst (λ (some : List Formula). RefutesFrom some [] cert) (sym (append_none parts)) (refutes_each literals [] cert h)) in
    let no = refuted_is_false (formulas.All parts) cert v refuted in
    let yes = all_truth v parts ∙ searches.each_true v parts (all_hold v literals all) in
    let never : true ≡ false = sym yes ∙ no in
    cc

pub chain_nowhere : (literals : List Literal) (combines : List Combine) → chain_closes combines (map row_of literals) ≡ true → (v : Valuation) → AreTrue v literals → ⊥
chain_nowhere literals combines h =
    let opened : out-Cert (certificates.Chain combines) ≡ cert_layers.Chain combines = ap out-Cert (sym (certificates.rolls-Chain combines)) ∙ out-roll-Cert (cert_layers.Chain combines) in
    closed_nowhere literals (certificates.Chain combines) (ap (closes literals) opened ∙ h)

pub cycle_nowhere : (literals : List Literal) (edges cycle : List Edge) → AreEdgesOf literals literals edges → IsCycle edges cycle → (v : Valuation) → AreTrue v literals → ⊥
cycle_nowhere literals edges cycle so closed = chain_nowhere literals (chain_of (length literals) cycle) (cycle_closes literals edges cycle (length literals) so closed refl)

pub general_unsolved : (literals : List Literal) (test : Bool) → test ≡ list_any is_general literals → test ≡ true → IsSolved literals None
general_unsolved literals test is e small v all = general_not_small literals (sym is ∙ e) small

-- ---- what is answered of a formula

not_both : (formula : Formula) (cube : List Literal) → HasOpenCube (formula ∷ []) [] cube → IsSolved cube None → IsDecidable formula → ⊥
not_both formula cube is solved easy = by_test (list_any is_general cube) refl
  where
    by_test : (general : Bool) → list_any is_general cube ≡ general → ⊥
    by_test true e = no_general_cube formula cube easy.differences is.is_cube e
    by_test false e =
        let small = differences_in cube e in
        let held = is.open_cube.differences small in
        solved small held.0 held.1

solved_by_cube : (formula : Formula) (cube : List Literal) (answer : Option Solution) → HasOpenCube (formula ∷ []) [] cube → IsSolved cube answer → IsSolution formula answer
solved_by_cube formula cube (Some solution) is solved = (cube_true (valuation_of solution) is.is_cube solved).0.0
solved_by_cube formula cube None is solved = λ easy v. absurd (not_both formula cube is solved easy)

pub cube_solved : (formula : Formula) (rest : List (Bor (List Formula))) (gathered cube slice : List Literal) (answer : Option Solution) → rest ≡ [] → gathered ≡ [] → slice ≡ cube → IsFound (formula ∷ in_order rest) gathered cube None → IsSolved slice answer → IsSolution formula answer
cube_solved formula rest gathered cube slice answer f h same found solved =
    solved_by_cube formula cube answer (found_for formula rest gathered cube None f h found) (subst (λ (some : List Literal). IsSolved some answer) same solved)

pub cube_general : (formula : Formula) (rest : List (Bor (List Formula))) (gathered cube slice : List Literal) (test : Bool) (answer : Option Solution) → rest ≡ [] → gathered ≡ [] → slice ≡ cube → IsFound (formula ∷ in_order rest) gathered cube None
    → test ≡ list_any is_general slice → test ≡ true → IfSome answer (Solves formula) → IsSolution formula answer
cube_general formula rest gathered cube slice test (Some solution) f h same found is e solves = solves
cube_general formula rest gathered cube slice test None f h same found is e solves =
    cube_solved formula rest gathered cube slice None f h same found (general_unsolved slice test is e)

pub cube_clear : (formula : Formula) (rest : List (Bor (List Formula))) (gathered cube slice : List Literal) → rest ≡ [] → slice ≡ cube → IsFound (formula ∷ in_order rest) gathered cube None → HasNoClash slice
cube_clear formula rest gathered cube slice f same found = subst HasNoClash (sym same) found.open_cube.no_clash

pub cube_few : (formula : Formula) (rest : List (Bor (List Formula))) (gathered cube slice : List Literal) → rest ≡ [] → gathered ≡ [] → slice ≡ cube → IsFound (formula ∷ in_order rest) gathered cube None → nodes_of formula ≤ 65536 → length slice ≤ 65536
cube_few formula rest gathered cube slice f h same found few =
    let size = cube_size (found_for formula rest gathered cube None f h found).is_cube in
    let count = ap length same in
    omega arith

pub refuted_unsolved : (formula : Formula) (rest : List (Bor (List Formula))) (gathered cube : List Literal) (cert : Cert) → rest ≡ [] → gathered ≡ [] → IsFound (formula ∷ in_order rest) gathered cube (Some cert) → IsSolution formula None
refuted_unsolved formula rest gathered cube cert f h found easy v = refuted_is_false formula cert v (found_for formula rest gathered cube (Some cert) f h found).0

pub many_unsolved : (formula : Formula) (cubes : ℕ) → cubes ≡ min (cubes_of formula) 1025 → 1024 < cubes → IsSolution formula None
many_unsolved formula cubes is many easy v = let few = easy.few_cubes in absurd (omega arith)

-- ---- the steps of solving a cube

pub edges_so : (literals : List Literal) (edges slice : List Edge) → slice ≡ edges → AreEdgesOf literals literals edges → AreEdgesOf literals literals slice
edges_so literals edges slice same so = subst (AreEdgesOf literals literals) (sym same) so

pub are_edges : (literals : List Literal) (edges : List Edge) → length literals ≤ 65536 → AreEdgesOf literals literals edges → AreEdges edges
are_edges literals edges size so = let few = so.few in record { few = omega arith; each = edges_fit literals edges so.each }

pub high_so : (edges : List Edge) (reached slice : List Reached) → slice ≡ reached → AreHigh edges reached → AreHigh edges slice
high_so edges reached slice same high = subst (AreHigh edges) (sym same) high
