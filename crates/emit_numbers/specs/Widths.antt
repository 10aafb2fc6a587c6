-- Which numbers are made on the way to what an expression stands for, from left to right.
use Rattle.std.specs.Prelude.{◌^◌, ℤ, pos, neg_ℤ, ◌+ℤ◌, ◌*ℤ◌, ◌≤ℤ◌, ◌<ℤ◌, Bool, true, false}
use Rattle.std.specs.Prelude.{List, [], ◌∷◌, ◌++◌, length}
use Rattle.std.specs.List.{flat_map}
use Rattle.lang_tree.specs.declared.tree.Expr.{Expr}
use Rattle.lang_tree.specs.declared.tree.Expr.TheOpen.{Expr-F, Addend-F, Factor-F, Number, Truth}
use Rattle.lang_tree.specs.declared.tree.Expr.TheOpen.{Named, Minus, Not, Product, Sum, Compare}
use Rattle.lang_tree.specs.declared.tree.Expr.TheOpen.{Both, Either}
use Rattle.lang_tree.specs.declared.tree.Expr.TheFolds.{fold-Expr, map-Expr}
use Rattle.logic_linear.specs.Truth.{Valuation}
use Rattle.lang_forms.specs.declared.scope.Entry.{Entry}
use Rattle.lang_forms.specs.Scope.{signed, entry_named}
use Rattle.lang_forms.specs.Plain.{Plain, number_in, plain_step, entry_value}
use Rattle.emit_expressions.specs.Expressions.{is_pieced}

-- what an expression stands for, and the numbers that are made on the way, with its own
pub record Worked : Type 0 where
  pub value : Plain
  pub made : List ℤ

-- a part of a sum, with its sign, or of a product, after the first
pub record WorkedPart : Type 0 where
  pub value : ℤ
  pub made : List ℤ

-- the numbers of each later part, and the sum or the product up to it
abbrev pub made_on : (ℤ → ℤ → ℤ) → ℤ → List WorkedPart → List ℤ
made_on join so_far [] = []
made_on join so_far (part ∷ rest) =
    part.made ++ (join so_far part.value ∷ made_on join (join so_far part.value) rest)

-- the same of sums of parts that stand next to each other, from the first one on and from each
-- later one, with its sign
abbrev pub made_between : ℤ → List WorkedPart → List ℤ
made_between first [] = []
made_between first (part ∷ rest) =
    made_on ◌+ℤ◌ first (part ∷ rest) ++ (part.value ∷ made_between part.value rest)

-- A sum in pieces: each of its pieces is worked out from its own first part on, and what is made
-- then is one of these, whatever the pieces are.
abbrev pub sums_made : Bool → ℤ → List WorkedPart → List ℤ
sums_made true first rest = made_between first rest
sums_made false first rest = made_on ◌+ℤ◌ first rest

-- the numbers of one layer, given how its parts are worked out
abbrev pub made_step : List Entry → Valuation → Expr-F Worked WorkedPart WorkedPart → List ℤ
made_step scope valuation (Number at value) = pos value ∷ []
made_step scope valuation (Truth at value) = []
made_step scope valuation (Named at name) =
    number_in (entry_value valuation (entry_named scope name)) ∷ []
made_step scope valuation (Minus at of) = of.made ++ (neg_ℤ (number_in of.value) ∷ [])
made_step scope valuation (Not at of) = of.made
made_step scope valuation (Product first rest) =
    first.made ++ made_on ◌*ℤ◌ (number_in first.value) rest
made_step scope valuation (Sum first rest) =
    first.made ++ sums_made (is_pieced (length rest)) (number_in first.value) rest
made_step scope valuation (Compare op left right) = left.made ++ right.made
made_step scope valuation (Both parts) = flat_map (λ part. part.made) parts
made_step scope valuation (Either parts) = flat_map (λ part. part.made) parts

-- one layer, and what it stands for
abbrev pub worked_step : List Entry → Valuation → Expr-F Worked WorkedPart WorkedPart → Worked
worked_step scope valuation layer = record {
  value =
      plain_step scope valuation (map-Expr Worked WorkedPart WorkedPart Plain ℤ ℤ
      (λ part. part.value) (λ part. part.value) (λ part. part.value) layer);
  made = made_step scope valuation layer;
}

-- `a - b` is a and the negative of b, which is not made by itself
abbrev pub worked_addend : Addend-F Worked WorkedPart WorkedPart → WorkedPart
worked_addend addend =
    record { value = signed addend.minus (number_in addend.of.value); made = addend.of.made }

-- a factor has no sign
abbrev pub worked_factor : Factor-F Worked WorkedPart WorkedPart → WorkedPart
worked_factor factor = record { value = number_in factor.of.value; made = factor.of.made }

-- how an expression is worked out in a scope, where each place has a number and a truth value
abbrev pub worked : List Entry → Valuation → Expr → Worked
worked scope valuation =
    fold-Expr Worked WorkedPart WorkedPart (worked_step scope valuation) worked_addend worked_factor

-- within 128 bits
abbrev pub IsWide : ℤ → Type 0
IsWide number = (neg_ℤ (pos (2 ^ 127)) ≤ℤ number) × (number <ℤ pos (2 ^ 127))
