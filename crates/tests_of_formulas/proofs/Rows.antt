-- Rows that are kept one by one, and whether they are a light cube.
use Rattle.std.proofs.Common.{◌≡◌, ℕ, ◌+◌, ◌<◌, Bool, true, false, not, List, [], ◌∷◌, ◌++◌, length, map, take, get_or, sym, subst, ap, refl, ◌∙◌}
use Rattle.std.specs.Prelude.{IsTrue, ◌↔◌}
use Rattle.logic_linear.specs.Linear.{Linear}
use Rattle.logic_linear.specs.LightCubes.{IsLightCube}
use Rattle.logic_elim.specs.declared.rows.Numbered.{Numbered}
use Rattle.logic_elim.specs.Chains.{rows_in}
use Rattle.logic_elim.proofs.Lists.{map_append, take_next}

pub one_more : (rows : List Linear) (i : ℕ) (row : Linear) (kept after : List Numbered) (one : Numbered) → i < length rows → row ≡ get_or rows i row → one.row ≡ row → after ≡ kept ++ one ∷ []
    → rows_in kept ≡ take i rows → rows_in after ≡ take (i + 1) rows
one_more rows i row kept after one within is same pushed so =
    ap rows_in pushed ∙ map_append (λ (numbered : Numbered). numbered.row) kept (one ∷ []) ∙ ap (λ (some : List Linear). some ++ one.row ∷ []) so
    ∙ ap (λ (last : Linear). take i rows ++ last ∷ []) same ∙ sym (take_next rows i row within is)

pub told_light : (rows : List Linear) (kept : List Numbered) (answer : Bool) → rows_in kept ≡ rows → answer ≡ true → IsTrue answer ↔ IsLightCube (rows_in kept) → IsLightCube rows
told_light rows kept answer same is told = subst IsLightCube same (told.0 (let here : IsTrue true = refl in subst IsTrue (sym is) here))
