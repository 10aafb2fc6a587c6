-- For private contracts: difference rows as the edges of a graph.
use Rattle.std.specs.Prelude.{◌≡◌, ◌⊎◌, ℕ, zero, suc, ◌+◌, ◌≤◌, pos, neg_ℤ, int_lt, nat_lt}
use Rattle.std.specs.Prelude.{if◌then◌else◌, List, [], ◌∷◌, length, Option, Some, None, slice_get}
use Rattle.std.specs.List.{AllByRecursion as Each}
use Rattle.logic_linear.specs.declared.form.Term.{Term}
use Rattle.logic_linear.specs.Linear.{Linear}
use Rattle.logic_cert.specs.declared.cert.Combine.{Combine}
use Rattle.logic_cert.specs.declared.cert.Literal.{Literal}
use Rattle.logic_cert.specs.declared.cert.Literal.TheVariants.{Row, Flag}
use Rattle.logic_elim.specs.Rows.{has_terms}
use Rattle.logic_solve.specs.declared.paths.Edge.{Edge}
use Rattle.logic_solve.specs.inner.Different.{Among}
use Rattle.logic_solve.specs.inner.Paths.{IsEdge}

-- ---- difference rows

abbrev pub once : ℕ → Term
once place = record { place = place; times = pos 1 }

abbrev pub minus_once : ℕ → Term
minus_once place = record { place = place; times = neg_ℤ (pos 1) }

-- One variable less another, by rising place; each may be missing.
abbrev pub difference_terms : Option ℕ → Option ℕ → List Term
difference_terms None None = []
difference_terms (Some plus) None = once plus ∷ []
difference_terms None (Some minus) = minus_once minus ∷ []
difference_terms (Some plus) (Some minus) =
    if nat_lt plus minus then (once plus ∷ minus_once minus ∷ [])
    else if nat_lt minus plus then (minus_once minus ∷ once plus ∷ [])
    else []

-- ---- edges

-- The vertex 0 is the number 0, and each other one the variable at the place before it.
abbrev pub variable_of : ℕ → Option ℕ
variable_of zero = None
variable_of (suc place) = Some place

-- The vertex of the first variable that counts more than 0 times, and of the first that counts
-- less.
abbrev pub upper_vertex : List Term → ℕ
upper_vertex [] = 0
upper_vertex (term ∷ terms) =
    if int_lt (pos 0) term.times then term.place + 1 else upper_vertex terms

abbrev pub lower_vertex : List Term → ℕ
lower_vertex [] = 0
lower_vertex (term ∷ terms) =
    if int_lt term.times (pos 0) then term.place + 1 else lower_vertex terms

-- The row as an edge.
abbrev pub edge_of : ℕ → Linear → Edge
edge_of number form = record {
  from = upper_vertex form.terms;
  to = lower_vertex form.terms;
  weight = form.constant;
  number = number;
}

abbrev pub edges_with : ℕ → Literal → List Edge
edges_with number (Row form) = if has_terms form.terms then (edge_of number form ∷ []) else []
edges_with number (Flag place is) = []

-- The row is the difference of the edge's ends, and the edge's weight.
pub record IsRowOf (edge : Edge) (form : Linear) : Type 0 where
  pub terms : form.terms ≡ difference_terms (variable_of edge.from) (variable_of edge.to)
  pub constant : form.constant ≡ edge.weight

-- The edge is a row among the literals.
pub record IsRowEdge (literals : List Literal) (edge : Edge) : Type 0 where
  pub edge_is : IsEdge edge
  pub form : Linear
  pub stands : slice_get literals edge.number ≡ Some (Row form)
  pub row : IsRowOf edge form

-- The row has no variable, or is one of the edges.
abbrev pub IsCovered : List Edge → Literal → Type 0
IsCovered edges (Row form) =
    (form.terms ≡ []) ⊎ ((edge : Edge) × (Among edge edges × IsRowOf edge form))
IsCovered edges (Flag place is) = Unit {0}

-- The edges of some of the literals.
pub record AreEdgesOf (literals some : List Literal) (edges : List Edge) : Type 0 where
  pub few : length edges ≤ length some
  pub each : Each (IsRowEdge literals) edges
  pub covers : Each (IsCovered edges) some

-- ---- the chain of a path

-- The sum of the row at a number and the edge's row.
abbrev pub sum_with : ℕ → Edge → Combine
sum_with number edge =
    record { left = number; left_times = pos 1; right = edge.number; right_times = pos 1 }

-- The sums of the row at a number and the rows of the edges one after the other, where the first
-- sum has the next number.
abbrev pub chain_along : ℕ → ℕ → List Edge → List Combine
chain_along number next [] = []
chain_along number next (edge ∷ path) = sum_with number edge ∷ chain_along next (next + 1) path

abbrev pub chain_of : ℕ → List Edge → List Combine
chain_of next [] = []
chain_of next (edge ∷ path) = chain_along edge.number next path
