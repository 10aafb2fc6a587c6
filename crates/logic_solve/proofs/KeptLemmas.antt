-- The kept rows of literals, as a light cube.
use Rattle.std.specs.Global.{Global}
use Rattle.std.proofs.Common.{◌≡◌, ◌⊎◌, inl, inr, ℕ, ◌<◌, ◌≤◌, Bool, true, false, not, ◌||◌, List, [], ◌∷◌, ◌++◌, length, map, Option, Some, None, sym, subst, arith, refl, ◌∙◌}
use Rattle.std.specs.Prelude.{Vec, ◌↔◌, IsTrue}
use Rattle.std.specs.List.{list_any, AllByRecursion as Each}
use Rattle.logic_linear.specs.Differences.{is_difference}
use Rattle.logic_linear.specs.Linear.{Linear, IsLinear}
use Rattle.logic_cert.specs.declared.cert.Combine.{Combine}
use Rattle.logic_cert.specs.declared.cert.Literal.{Literal}
use Rattle.logic_cert.specs.declared.cert.Literal.TheVariants.{Row, Flag}
use Rattle.logic_cert.specs.Refutes.{row_of}
use Rattle.logic_linear.specs.Fractions.{HasFractionalSolution, HoldsOver}
use Rattle.logic_linear.specs.LightCubes.{IsLightCube, IsLightRow}
use Rattle.logic_elim.specs.declared.rows.Numbered.{Numbered}
use Rattle.logic_elim.specs.Begins.{IsBegin, IsSane}
use Rattle.logic_elim.specs.Chains.{StandsAtNumbers, rows_in}
use Rattle.logic_elim.specs.Rows.{is_as_tight, with_row}
use Rattle.logic_elim.specs.Steps.{Among}
use Rattle.logic_elim.proofs.Choosing.{each_at}
use Rattle.logic_elim.proofs.EliminationLemmas.{each_mapped}
use Rattle.logic_elim.proofs.Lists.{append_length, append_none, flat_push, map_length}
use Rattle.logic_elim.proofs.Loops.{among_first, among_last, with_from}
use Rattle.logic_elim.proofs.Rounds.{each_among}
use Rattle.logic_elim.proofs.RowLemmas.{each_push, with_length, new_among, covered, known_holds}
use Rattle.logic_solve.specs.Cubes.{HasGeneral, is_general, literal_rows, rows_of_literals}
use Rattle.logic_solve.specs.inner.Literals.{AreDifferences, EndsLight, FindsChain, HaveNoAbsurd, IsKeptOf, IsRefuting, IsStart, LeavesLight}

-- ---- rows that are gathered

pub kept_none : IsKeptOf [] []
kept_none = record { linear = tt; from = λ row h. h; fewer = omega arith; covers = λ v d positive held. tt }

pub kept_known : (rows : List Linear) (form : Linear) (kept : List Numbered) → IsKeptOf rows kept → IsLinear form → list_any (is_as_tight form) kept ≡ true → IsKeptOf (rows ++ form ∷ []) kept
kept_known rows form kept so linear known =
    let fewer = so.fewer in
    let size = append_length rows (form ∷ []) in
    record {
      linear = each_push IsLinear rows form so.linear linear;
      from = λ row h. among_first row rows (form ∷ []) (so.from row h);
      fewer = omega arith;
      covers = λ v d positive held. each_push (HoldsOver v d) rows form (so.covers v d positive held) (known_holds v d positive kept form known held);
    }

pub kept_put : (rows : List Linear) (new : Numbered) (kept : List Numbered) → IsKeptOf rows kept → IsLinear new.row → list_any (is_as_tight new.row) kept ≡ false → IsKeptOf (rows ++ new.row ∷ []) (with_row kept new)
kept_put rows new kept so linear news =
    let fewer = so.fewer in
    let size = append_length rows (new.row ∷ []) in
    let more = with_length kept new in
    record {
      linear = each_push IsLinear rows new.row so.linear linear;
      from = λ row h. by_case row (with_from kept new row h);
      fewer = omega arith;
      covers = λ v d positive held. each_push (HoldsOver v d) rows new.row (so.covers v d positive (covered v d positive kept new news held)) (new_among (λ (numbered : Numbered). HoldsOver v d numbered.row) kept new held);
    }
  where
    by_case : (row : Linear) → Among row (rows_in kept) ⊎ (new.row ≡ row) → Among row (rows ++ new.row ∷ [])
    by_case row (inl h) = among_first row rows (new.row ∷ []) (so.from row h)
    by_case row (inr e) = among_last row rows (new.row ∷ []) (inl e)

pub row_next : (literals : List Literal) (form : Linear) → rows_of_literals (literals ++ Row form ∷ []) ≡ rows_of_literals literals ++ form ∷ []
row_next literals form = flat_push literal_rows literals (Row form)

pub flag_next : (literals : List Literal) (place : ℕ) (truth : Bool) → rows_of_literals (literals ++ Flag place truth ∷ []) ≡ rows_of_literals literals
flag_next literals place truth = flat_push literal_rows literals (Flag place truth) ∙ append_none (rows_of_literals literals)

-- ---- light cubes

kept_each : (P : Linear → Type 0) (rows : List Linear) (kept : List Numbered) → IsKeptOf rows kept → Each P rows → Each P (rows_in kept)
kept_each P rows kept so all = each_among P (rows_in kept) (λ row h. each_at P row rows all (so.from row h))

pub light_kept : (rows : List Linear) (kept : List Numbered) → IsKeptOf rows kept → IsLightCube rows → IsLightCube (rows_in kept)
light_kept rows kept so light =
    let fewer = so.fewer in
    let few = light.few_rows in
    let same = map_length (λ (numbered : Numbered). numbered.row) kept in
    record { few_rows = omega arith; places = light.places; few_places = light.few_places; each = kept_each (IsLightRow light.places) rows kept so light.each }

sane_rows : (literals : List Literal) → HaveNoAbsurd literals → Each IsSane (rows_of_literals literals)
sane_rows [] sane = tt
sane_rows (Row form ∷ literals) sane = (sane.0, sane_rows literals sane.1)
sane_rows (Flag place truth ∷ literals) sane = sane_rows literals sane.1

pub begins_light : (literals : List Literal) (kept : List Numbered) (combines : List Combine) (next : ℕ) → IsStart literals kept → HaveNoAbsurd literals → IsLightCube (rows_in kept) → length literals ≤ 65536 → next ≡ length literals
    → IsBegin (record { kept = kept; combines = combines; next = next })
begins_light literals kept combines next start sane light size count =
    let so = start.rows in
    record {
      light = light;
      each = kept_each IsLinear (rows_of_literals literals) kept so so.linear;
      sane = kept_each IsSane (rows_of_literals literals) kept so (sane_rows literals sane);
      few = omega arith;
    }

pub solved_rows : (rows : List Linear) (kept : List Numbered) → IsKeptOf rows kept → HasFractionalSolution (rows_in kept) → HasFractionalSolution rows
solved_rows rows kept so solution = record {
  numerators = solution.numerators;
  denominator = solution.denominator;
  positive = solution.positive;
  each = so.covers solution.numerators solution.denominator solution.positive (each_mapped (HoldsOver solution.numerators solution.denominator) (λ numbered. numbered.row) kept solution.each);
}

pub general_not_small : (literals : List Literal) → HasGeneral literals → AreDifferences literals → ⊥
general_not_small [] general small = absurd cc
general_not_small (Row form ∷ literals) general small = by_test (is_difference form) small.0 general (λ h. general_not_small literals h small.1)
  where
    by_test : (test : Bool) → test ≡ true → (not test || list_any is_general literals) ≡ true → (list_any is_general literals ≡ true → ⊥) → ⊥
    by_test true e h later = later h
    by_test false e h later = absurd cc
general_not_small (Flag place truth ∷ literals) general small = general_not_small literals general small.1

-- ---- what is answered

row_count : (literals : List Literal) → length (map row_of literals) ≡ length literals
row_count [] = refl
row_count (literal ∷ literals) = let rest = row_count literals in omega arith

stands_kept : (literals : List Literal) (kept : List Numbered) (combines : List Combine) (next : ℕ) → IsStart literals kept → combines ≡ [] → next ≡ length literals → StandsAtNumbers (map row_of literals) [] (record { kept = kept; combines = combines; next = next })
stands_kept literals kept combines next start none count =
    subst (λ (some : List Combine). StandsAtNumbers (map row_of literals) [] (record { kept = kept; combines = some; next = next })) (sym none)
    (record { made = refl; count = row_count literals ∙ sym count; others_stand = tt; kept_stand = start.numbers })

pub light_finds : (literals : List Literal) (kept : List Numbered) (combines : List Combine) (next : ℕ) (answer : Option (Vec Combine Global)) → IsStart literals kept → combines ≡ [] → next ≡ length literals → HasGeneral literals
    → EndsLight (record { kept = kept; combines = combines; next = next }) answer → FindsChain literals answer
light_finds literals kept combines next None start none count general ends = λ small v. absurd (general_not_small literals general small)
light_finds literals kept combines next (Some chain) start none count general ends = ends (map row_of literals) (stands_kept literals kept combines next start none count)

pub light_leaves : (literals : List Literal) (kept : List Numbered) (combines : List Combine) (next : ℕ) (answer : Option (Vec Combine Global)) → IsStart literals kept → EndsLight (record { kept = kept; combines = combines; next = next }) answer → LeavesLight literals answer
light_leaves literals kept combines next None start ends = λ general light. solved_rows (rows_of_literals literals) kept start.rows ends
light_leaves literals kept combines next (Some chain) start ends = tt

-- What was found: the kept rows are a light cube.
pub told_light : (kept : List Numbered) (answer : Bool) → answer ≡ true → IsTrue answer ↔ IsLightCube (rows_in kept) → IsLightCube (rows_in kept)
told_light kept answer is told = told.0 (let here : IsTrue true = refl in subst IsTrue (sym is) here)

-- Or they are no light cube.
pub not_light : (literals : List Literal) (kept : List Numbered) (answer : Bool) → IsStart literals kept → answer ≡ false → IsTrue answer ↔ IsLightCube (rows_in kept) → LeavesLight literals None
not_light literals kept answer start is told general light = absurd (let here = told.1 (light_kept (rows_of_literals literals) kept start.rows light) in let never : IsTrue false = subst IsTrue is here in cc)

-- More rows than a light cube has.
pub too_many_light : (literals : List Literal) (kept : List Numbered) → IsStart literals kept → 4096 < length kept → LeavesLight literals None
too_many_light literals kept start many general light = let few = (light_kept (rows_of_literals literals) kept start.rows light).few_rows in let same = map_length (λ (numbered : Numbered). numbered.row) kept in absurd (omega arith)

-- Nothing is asked of rows that are general.
pub none_found : (literals : List Literal) → HasGeneral literals → IsRefuting literals None
none_found literals general small v = absurd (general_not_small literals general small)
