-- For private contracts: longest paths in the graph of difference rows, and its cycles.
use Rattle.std.specs.Global.{Global}
use Rattle.std.specs.Prelude.{Vec, ◌≡◌, ℕ, ◌+◌, ◌-◌, ◌<◌, ◌≤◌, ◌^◌, ℤ, pos, negsuc, ◌+ℤ◌, ◌-ℤ◌}
use Rattle.std.specs.Prelude.{◌≤ℤ◌, ◌<ℤ◌, ◌==◌, Bool, if◌then◌else◌, List, [], ◌∷◌, length, map}
use Rattle.std.specs.Prelude.{Option, Some, None}
use Rattle.std.specs.List.{AllByRecursion as Each}
use Rattle.logic_linear.specs.LightCubes.{IsWithin}
use Rattle.logic_solve.specs.inner.Different.{Among, Different}
use Rattle.logic_solve.specs.declared.paths.Edge.{Edge}
use Rattle.logic_solve.specs.declared.paths.Reached.{Reached}
use Rattle.logic_solve.specs.declared.paths.Relaxed.{Relaxed}
use Rattle.logic_solve.specs.declared.paths.Relaxed.TheVariants.{Same, Higher, Closed}

-- ---- what is reached

-- The entry is the vertex's.
abbrev pub is_of : ℕ → Reached → Bool
is_of vertex one = one.vertex == vertex

-- What the vertex's entry says.
abbrev pub found_at : {X : Type 0} → (Reached → X) → X → List Reached → ℕ → X
found_at says default [] vertex = default
found_at says default (first ∷ reached) vertex =
    if first.vertex == vertex then says first else found_at says default reached vertex

-- How high a vertex stands: as much as the path to it weighs, or 0.
abbrev pub height_at : List Reached → ℕ → ℤ
height_at reached vertex = found_at (λ one. one.height) (pos 0) reached vertex

-- The path to a vertex, its last edge first.
abbrev pub path_at : List Reached → ℕ → List Edge
path_at reached vertex = found_at (λ one. one.path.items) [] reached vertex

-- The entries once the new one stands for that of its vertex, or at the end.
abbrev pub with_reached : List Reached → Reached → List Reached
with_reached [] new = new ∷ []
with_reached (first ∷ reached) new =
    if first.vertex == new.vertex then (new ∷ reached) else (first ∷ with_reached reached new)

-- ---- edges and paths

-- No edge leads back to where it comes from, and its weight is small.
pub record IsEdge (edge : Edge) : Type 0 where
  pub apart : edge.from ≡ edge.to → ⊥
  pub within : IsWithin (2 ^ 95) edge.weight

pub record AreEdges (edges : List Edge) : Type 0 where
  pub few : length edges ≤ 65536
  pub each : Each IsEdge edges

-- The edge comes from the vertex.
abbrev pub comes_from : ℕ → Edge → Bool
comes_from vertex edge = edge.from == vertex

-- Where the edges of a path come from.
abbrev pub starts : List Edge → List ℕ
starts = map (λ edge. edge.from)

abbrev pub weight_of : List Edge → ℤ
weight_of [] = pos 0
weight_of (edge ∷ path) = edge.weight +ℤ weight_of path

-- The path of edges, the last first, leads to one vertex from the other.
abbrev pub Leads : List Edge → ℕ → List Edge → ℕ → Type 0
Leads edges to [] from = to ≡ from
Leads edges to (edge ∷ path) from =
    ((edge.to ≡ to) × Among edge edges) × Leads edges edge.from path from

-- A closed path of positive weight.
pub record IsCycle (edges cycle : List Edge) : Type 0 where
  pub vertex : ℕ
  pub leads : Leads edges vertex cycle vertex
  pub long : 2 ≤ length cycle
  pub short : length cycle ≤ 65537
  pub positive : pos 0 <ℤ weight_of cycle

-- The last edge of a path to a vertex, at which the path has this weight.
pub record IsLast (edges : List Edge) (height : ℕ
    → ℤ) (vertex : ℕ) (weight : ℤ) (edge : Edge) : Type 0 where
  pub among : Among edge edges
  pub leads : edge.to ≡ vertex
  pub below : weight ≤ℤ height vertex

-- The path has this weight, and at no vertex more than the height there.
abbrev pub IsPath : List Edge → (ℕ → ℤ) → ℕ → ℤ → List Edge → Type 0
IsPath edges height vertex weight [] = (weight ≡ pos 0) × (weight ≤ℤ height vertex)
IsPath edges height vertex weight (edge ∷ path) =
    IsLast edges height vertex weight edge
    × IsPath edges height edge.from (weight -ℤ edge.weight) path

-- Each vertex stands as high as the path to it weighs, and no path comes to a vertex twice.
pub record IsReached (edges : List Edge) (reached : List Reached) : Type 0 where
  pub high : (vertex : ℕ) → pos 0 ≤ℤ height_at reached vertex
  pub path : (vertex : ℕ) → IsPath edges (height_at reached) vertex (height_at reached vertex)
      (path_at reached vertex)
  pub different : (vertex : ℕ) → Different (vertex ∷ starts (path_at reached vertex))

-- ---- what relaxing does

-- The end stands high enough.
abbrev pub IsFitting : (ℕ → ℤ) → Edge → Type 0
IsFitting height edge = (height edge.from +ℤ edge.weight) ≤ℤ height edge.to

-- How much a height may rise up to a limit.
abbrev pub gap : ℕ → ℤ → ℕ
gap limit (pos height) = limit - height
gap limit (negsuc below) = limit

-- How much the ends of the edges may rise.
abbrev pub room_below : ℕ → List Edge → (ℕ → ℤ) → ℕ
room_below limit [] height = 0
room_below limit (edge ∷ edges) height = gap limit (height edge.to) + room_below limit edges height

abbrev pub room : List Edge → List Reached → ℕ
room edges reached = room_below (2 ^ 112) edges (height_at reached)

pub record IsHigher (edges : List Edge) (before after : List Reached) : Type 0 where
  pub reached : IsReached edges after
  pub less : room edges after < room edges before

-- What relaxing an edge does.
abbrev pub Passes : List Edge → Edge → List Reached → List Reached → Relaxed → Type 0
Passes edges edge before after Same = (after ≡ before) × IsFitting (height_at before) edge
Passes edges edge before after Higher = IsHigher edges before after
Passes edges edge before after (Closed cycle) = IsCycle edges cycle.items

-- What relaxing all edges does.
abbrev pub Relaxes : List Edge → List Reached → List Reached → Relaxed → Type 0
Relaxes edges before after Same = (after ≡ before) × Each (IsFitting (height_at before)) edges
Relaxes edges before after Higher = IsHigher edges before after
Relaxes edges before after (Closed cycle) = IsCycle edges cycle.items

-- The heights that the edges ask for, or a cycle that leaves none.
pub record HaveHeights (edges : List Edge) : Type 0 where
  pub height : ℕ → ℤ
  pub fitting : Each (IsFitting height) edges

-- Each vertex is reached, and stands high enough.
pub record AreHigh (edges : List Edge) (reached : List Reached) : Type 0 where
  pub paths : IsReached edges reached
  pub fitting : Each (IsFitting (height_at reached)) edges

abbrev pub EndsSearch : List Edge → List Reached → Option (Vec Edge Global) → Type 0
EndsSearch edges reached None = AreHigh edges reached
EndsSearch edges reached (Some cycle) = IsCycle edges cycle.items
