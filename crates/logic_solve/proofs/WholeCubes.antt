-- Cubes whose rows hold in whole numbers, and cubes of difference rows alone.
use Rattle.std.proofs.Common.{pos, ◌≤ℤ◌, List, [], ◌∷◌, refl}
use Rattle.std.specs.List.{AllByRecursion as Each}
use Rattle.logic_linear.specs.declared.formula.Formula.{Formula}
use Rattle.logic_linear.specs.Linear.{Linear}
use Rattle.logic_linear.specs.Truth.{Valuation, value_of}
use Rattle.logic_cert.specs.declared.cert.Literal.{Literal}
use Rattle.logic_cert.specs.declared.cert.Literal.TheVariants.{Row, Flag}
use Rattle.logic_solve.specs.Cubes.{HasNoClash, IsCubeOf, rows_of_literals}
use Rattle.logic_solve.specs.Refutation.{HoldsSomewhere}
use Rattle.logic_solve.specs.inner.Literals.{LiteralHolds}
use Rattle.logic_solve.proofs.LiteralLemmas.{each_true, flags_of}
use Rattle.logic_solve.proofs.CubeLemmas.{cube_true}

-- the numbers of the valuation, and each flag true that a literal says to be
abbrev told : List Literal → Valuation → Valuation
told cube v = record { number = v.number; flag = (flags_of cube).flag }

abbrev Holds : Valuation → Linear → Type 0
Holds v row = value_of v row ≤ℤ pos 0

-- flags change no row
same_sum : (cube : List Literal) (v : Valuation) (row : Linear) → Holds v row → Holds (told cube v) row
same_sum cube v row held = held

each_holds : (cube some : List Literal) (v : Valuation) → Each (Holds v) (rows_of_literals some) → Each (LiteralHolds (told cube v)) some
each_holds cube [] v each = tt
each_holds cube (Row form ∷ some) v each = (same_sum cube v form each.0, each_holds cube some v each.1)
each_holds cube (Flag place is ∷ some) v each = (tt, each_holds cube some v each)

-- a cube without a clash whose rows hold in whole numbers makes its formula true somewhere
pub whole_cube_holds : (formula : Formula) (cube : List Literal) (v : Valuation) → IsCubeOf formula cube → HasNoClash cube → Each (Holds v) (rows_of_literals cube) → HoldsSomewhere formula
whole_cube_holds formula cube v is none each =
    let u = told cube v in
    let all = each_true u cube cube refl (λ i literal at. (i, at)) none (each_holds cube cube v each) in
    let whole = cube_true u is all in
    (u, whole.0.0)
