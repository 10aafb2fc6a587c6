-- Why the prover leaves a query open.
use Rattle.std.proofs.Common.{◌≡◌, ◌⊎◌, inl, inr, ℕ, ◌<◌, ◌≤◌, Bool, true, false, ◌&&◌, List, [], ◌∷◌, length, map, Option, Some, None, sym, subst, arith, ap, refl, ◌∙◌}
use Rattle.std.specs.Prelude.{nat_le, IfSome}
use Rattle.std.specs.List.{list_all, AllByRecursion as Each}
use Rattle.std.proofs.lemmas.Bool.{leb-true}
use Rattle.logic_linear.specs.declared.formula.Formula.{Formula}
use Rattle.logic_linear.specs.LightCubes.{IsLightCube}
use Rattle.logic_linear.specs.Linear.{Linear}
use Rattle.logic_linear.specs.Measures.{cubes_of, MOST_CUBES}
use Rattle.logic_linear.specs.Truth.{Valuation, truth_of}
use Rattle.lang_monitor.specs.declared.query.Query.{Query}
use Rattle.lang_monitor.specs.MonitorParts.{MonitorParts}
use Rattle.lang_monitor.specs.Triples.{IsValidQuery}
use Rattle.logic_cert.specs.declared.cert.Cert.{Cert}
use Rattle.logic_cert.specs.Refutes.{Refutes}
use Rattle.logic_elim.specs.declared.rows.Numbered.{Numbered}
use Rattle.logic_elim.specs.Chains.{rows_in}
use Rattle.logic_elim.specs.Noted.{noted, terms_in}
use Rattle.logic_elim.specs.inner.Light.{is_light_row}
use Rattle.logic_elim.proofs.LightLemmas.{large_numbers, light_told, too_many_rows}
use Rattle.logic_solve.specs.Cubes.{rows_of_literals}
use Rattle.logic_solve.specs.Refutation.{HasUndecidedCube, IsAnswer, IsLeftOpen}
use Rattle.logic_solve.proofs.WholeCubes.{whole_cube_holds}
use Rattle.logic_wp.specs.PlainClaims.{has_few_cubes, is_within_limits}
use Rattle.logic_wp.specs.Limits.{is_query_within, query_within, value_if}
use Rattle.logic_wp.specs.NegatedQueries.{negated_query}
use Rattle.plan_prune.specs.Hardness.{MayStayOpen, limits, heavy, fractions}
use Rattle.plan_prune.specs.Invariants.{IsDecision}

-- ---- whether rows are a light cube

abbrev numbered : List Linear → List Numbered
numbered rows = map (λ (row : Linear). record { number = 0; row = row }) rows

same_rows : (rows : List Linear) → rows_in (numbered rows) ≡ rows
same_rows [] = refl
same_rows (row ∷ rows) = ap (λ (more : List Linear). row ∷ more) (same_rows rows)

light_or_not : (rows : List Numbered) → IsLightCube (rows_in rows) ⊎ (IsLightCube (rows_in rows) → ⊥)
light_or_not rows = by_length (nat_le (length rows) 12) refl
  where
    by_places : (few : Bool) → nat_le (length (noted [] (terms_in (rows_in rows)))) 3 ≡ few → nat_le (length rows) 12 ≡ true → list_all is_light_row rows ≡ true
        → IsLightCube (rows_in rows) ⊎ (IsLightCube (rows_in rows) → ⊥)
    by_places true e few numbers = inl ((light_told rows (noted [] (terms_in (rows_in rows))) (length (noted [] (terms_in (rows_in rows)))) (leb-true (length rows) 12 few) numbers refl refl).0 e)
    by_places false e few numbers =
        inr (λ light. let told = (light_told rows (noted [] (terms_in (rows_in rows))) (length (noted [] (terms_in (rows_in rows)))) (leb-true (length rows) 12 few) numbers refl refl).1 light in cc)

    by_numbers : (all : Bool) → list_all is_light_row rows ≡ all → nat_le (length rows) 12 ≡ true → IsLightCube (rows_in rows) ⊎ (IsLightCube (rows_in rows) → ⊥)
    by_numbers true e few = by_places (nat_le (length (noted [] (terms_in (rows_in rows)))) 3) refl few e
    by_numbers false e few = inr (λ light. let told = (large_numbers rows e).1 light in cc)

    many : nat_le (length rows) 12 ≡ false → 12 < length rows
    many e = grind arith

    by_length : (few : Bool) → nat_le (length rows) 12 ≡ few → IsLightCube (rows_in rows) ⊎ (IsLightCube (rows_in rows) → ⊥)
    by_length true e = by_numbers (list_all is_light_row rows) refl e
    by_length false e = inr (λ light. let told = (too_many_rows rows (many e)).1 light in cc)

is_light : (rows : List Linear) → IsLightCube rows ⊎ (IsLightCube rows → ⊥)
is_light rows = subst (λ (some : List Linear). IsLightCube some ⊎ (IsLightCube some → ⊥)) (same_rows rows) (light_or_not (numbered rows))

-- ---- an answer of the prover

abbrev Fails : MonitorParts → Query → Type 0
Fails monitor query = (v : Valuation) → truth_of v (negated_query monitor query) ≡ true → IsValidQuery monitor query → ⊥

-- a cube with a row that is no difference row is heavy, or has a solution in fractions alone, where
-- the query is valid
general_open : (monitor : MonitorParts) (query : Query) → Fails monitor query → HasUndecidedCube (negated_query monitor query) → IsValidQuery monitor query → MayStayOpen monitor query
general_open monitor query fails has valid = by_light (is_light (rows_of_literals has.cube))
  where
    by_light : IsLightCube (rows_of_literals has.cube) ⊎ (IsLightCube (rows_of_literals has.cube) → ⊥) → MayStayOpen monitor query
    by_light (inr never) = heavy (record { cube = has.cube; is_cube = has.is_cube; no_clash = has.no_clash; general = has.general; heavy = never })
    by_light (inl light) = fractions (record {
      cube = has.cube;
      is_cube = has.is_cube;
      no_clash = has.no_clash;
      general = has.general;
      light = light;
      fractions = has.light light;
      none_whole = λ v each. let holds = whole_cube_holds (negated_query monitor query) has.cube v has.is_cube has.no_clash each in fails holds.0 holds.1 valid;
    })

many_cubes : (monitor : MonitorParts) (query : Query) → MOST_CUBES < cubes_of (negated_query monitor query) → is_within_limits monitor query ≡ false
many_cubes monitor query many = last (is_query_within monitor query) (has_few_cubes (negated_query monitor query)) (grind arith)
  where
    last : (a b : Bool) → b ≡ false → (a && b) ≡ false
    last true b e = e
    last false b e = refl

open_query : (monitor : MonitorParts) (query : Query) → Fails monitor query → IsLeftOpen (negated_query monitor query)
    → IsValidQuery monitor query → MayStayOpen monitor query
open_query monitor query fails (inl many) valid = limits (many_cubes monitor query many)
open_query monitor query fails (inr (inl somewhere)) valid = absurd (fails somewhere.0 somewhere.1 valid)
open_query monitor query fails (inr (inr general)) valid = general_open monitor query fails general valid

answer_decides : (monitor : MonitorParts) (query : Query) (answer : Option Cert) → Fails monitor query
    → IsAnswer (negated_query monitor query) answer → IsDecision monitor query answer
answer_decides monitor query (Some cert) fails is = is
answer_decides monitor query None fails is = λ valid. open_query monitor query fails is valid

there_is : {X : Type 0} (test : Bool) (x y : X) → Some y ≡ value_if test x → y ≡ x
there_is true x y e = cc
there_is false x y e = absurd cc

pub negated_decides : (monitor : MonitorParts) (query : Query) (formula : Formula) (answer : Option Cert) → Some formula ≡ query_within monitor query
    → Fails monitor query → IsAnswer formula answer → IsDecision monitor query answer
negated_decides monitor query formula answer e fails is =
    answer_decides monitor query answer fails
    (subst (λ (made : Formula). IsAnswer made answer) (there_is (is_query_within monitor query) (negated_query monitor query) formula e) is)

-- a query that isn't negated
pub beyond_decides : (monitor : MonitorParts) (query : Query) → None ≡ query_within monitor query → IsDecision monitor query None
beyond_decides monitor query e = λ valid. limits (first (is_query_within monitor query) (has_few_cubes (negated_query monitor query)) (there_is_none (is_query_within monitor query) (negated_query monitor query) e))
  where
    there_is_none : (test : Bool) (formula : Formula) → None ≡ value_if test formula → test ≡ false
    there_is_none true formula e = absurd cc
    there_is_none false formula e = refl

    first : (a b : Bool) → a ≡ false → (a && b) ≡ false
    first true b e = absurd cc
    first false b e = refl

-- what is refuted is valid
pub decision_valid : (monitor : MonitorParts) (query : Query) (answer : Option Cert)
    → (((v : Valuation) → truth_of v (negated_query monitor query) ≡ false) → IsValidQuery monitor query)
    → ((formula : Formula) (cert : Cert) (v : Valuation) → Refutes formula cert → truth_of v formula ≡ false)
    → IsDecision monitor query answer → IfSome answer (λ (cert : Cert). IsValidQuery monitor query)
decision_valid monitor query None valid refuted is = tt
decision_valid monitor query (Some cert) valid refuted is = valid (λ v. refuted (negated_query monitor query) cert v is)
