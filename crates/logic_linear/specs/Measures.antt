-- How large a formula is.
use Rattle.std.specs.Prelude.{ℕ, ◌+◌, ◌*◌, max, sum, List, [], ◌∷◌}
use Rattle.logic_linear.specs.declared.formula.Formula.{Formula}
use Rattle.logic_linear.specs.declared.formula.Formula.TheOpen.{Formula-F, Row, Flag, All, Any}
use Rattle.logic_linear.specs.declared.formula.Formula.TheFolds.{fold-Formula}

-- One layer of a formula, given the nodes of its parts.
abbrev pub nodes_layer : Formula-F ℕ → ℕ
nodes_layer (Row linear) = 1
nodes_layer (Flag place is) = 1
nodes_layer (All parts) = 1 + sum parts
nodes_layer (Any parts) = 1 + sum parts

-- The rows, flags, alls and anys of a formula.
abbrev pub nodes_of : Formula → ℕ
nodes_of = fold-Formula ℕ nodes_layer

-- The most nodes of a formula that an assignment or a query makes, and that is refuted.
abbrev pub MOST_NODES : ℕ
MOST_NODES = 65536

-- The product of the numbers.
abbrev pub product : List ℕ → ℕ
product [] = 1
product (number ∷ numbers) = number * product numbers

-- One layer of a formula, given the cubes of its parts.
abbrev pub cubes_layer : Formula-F ℕ → ℕ
cubes_layer (Row linear) = 1
cubes_layer (Flag place is) = 1
cubes_layer (All parts) = product parts
cubes_layer (Any parts) = max (sum parts) 1

-- The cubes of a formula: the choices of a part of each any, where an any of none counts 1.
abbrev pub cubes_of : Formula → ℕ
cubes_of = fold-Formula ℕ cubes_layer

-- The most cubes of a formula that is decided.
abbrev pub MOST_CUBES : ℕ
MOST_CUBES = 1024
