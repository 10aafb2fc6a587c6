-- Longest paths in the graph of difference rows.
use Rattle.std.proofs.Common.{◌≡◌, inl, inr, ℕ, zero, suc, ◌+◌, ◌*◌, ◌<◌, ◌≤◌, ◌^◌, ℤ, pos, negsuc, ◌+ℤ◌, ◌-ℤ◌, ◌≤ℤ◌, ◌<ℤ◌, Bool, true, false, not, cond, ◌||◌, List, [], ◌∷◌, ◌++◌, length, take, get_or, lit≤, Some, None, sym, subst, arith, ap, refl, ◌∙◌}
use Rattle.std.specs.Prelude.{◌==◌, nat_lt, slice_get, slice_set, slice_index_or}
use Rattle.std.specs.List.{list_any, position, position_or_len, AllByRecursion as Each}
use Rattle.std.proofs.lemmas.Int.{ints}
use Rattle.std.proofs.lemmas.List.Quantifiers.{position-Some}
use Rattle.logic_linear.specs.LightCubes.{IsWithin}
use Rattle.logic_solve.specs.declared.paths.Edge.{Edge}
use Rattle.logic_solve.specs.declared.paths.Reached.{Reached}
use Rattle.logic_solve.specs.declared.paths.Relaxed.TheVariants.{Same, Higher}
use Rattle.logic_solve.specs.inner.Different.{Among, Different}
use Rattle.logic_solve.specs.inner.Paths.{found_at, height_at, path_at, is_of, comes_from, with_reached, IsEdge, AreEdges, starts, weight_of, Leads, IsCycle, IsPath, IsReached, IsFitting, gap, room_below, IsHigher, Passes, Relaxes, AreHigh}
use Rattle.logic_elim.proofs.Different.{Among as AmongAll, Different as AllDifferent, at_most_among}
use Rattle.logic_elim.proofs.RowLemmas.{each_push, each_weaker}
use Rattle.logic_solve.proofs.LiteralLemmas.{position_none, take_whole}

-- ---- entries

same_vertex : (a b : ℕ) → (a == b) ≡ true → a ≡ b
same_vertex a b e = grind arith

not_both : (a b c : ℕ) → (a == b) ≡ false → (a == c) ≡ true → (b == c) ≡ true → ⊥
not_both a b c e f g = absurd (grind arith)

-- What an entry says once one is put.
put_found : {X : Type 0} (says : Reached → X) (default : X) (reached : List Reached) (new : Reached) (vertex : ℕ) → found_at says default (with_reached reached new) vertex ≡ cond (new.vertex == vertex) (says new) (found_at says default reached vertex)
put_found says default [] new vertex = refl
put_found {X} says default (first ∷ reached) new vertex = by_first (first.vertex == new.vertex) refl (put_found says default reached new vertex)
  where
    twice : (b : Bool) (x y r : X) → cond b x r ≡ cond b x (cond b y r)
    twice true x y r = refl
    twice false x y r = refl

    swap : (a b : Bool) (x y r : X) → (a ≡ true → b ≡ true → ⊥) → cond a x (cond b y r) ≡ cond b y (cond a x r)
    swap true true x y r h = absurd (h refl refl)
    swap true false x y r h = refl
    swap false true x y r h = refl
    swap false false x y r h = refl

    by_first : (same : Bool) → (first.vertex == new.vertex) ≡ same → found_at says default (with_reached reached new) vertex ≡ cond (new.vertex == vertex) (says new) (found_at says default reached vertex)
        → found_at says default (cond same (new ∷ reached) (first ∷ with_reached reached new)) vertex ≡ cond (new.vertex == vertex) (says new) (cond (first.vertex == vertex) (says first) (found_at says default reached vertex))
    by_first true e more =
        twice (new.vertex == vertex) (says new) (says first) (found_at says default reached vertex)
        ∙ ap (λ (at : ℕ). cond (new.vertex == vertex) (says new) (cond (at == vertex) (says first) (found_at says default reached vertex))) (sym (same_vertex first.vertex new.vertex e))
    by_first false e more =
        ap (λ (other : X). cond (first.vertex == vertex) (says first) other) more
        ∙ swap (first.vertex == vertex) (new.vertex == vertex) (says first) (says new) (found_at says default reached vertex) (not_both first.vertex new.vertex vertex e)

-- ---- paths

at_most : (a b c : ℤ) → a ≤ℤ b → b ≤ℤ c → a ≤ℤ c
at_most a b c h g = omega (arith, ints)

-- Where heights rise, paths stay.
higher_path : (edges : List Edge) (h k : ℕ → ℤ) → ((vertex : ℕ) → h vertex ≤ℤ k vertex) → (vertex : ℕ) (weight : ℤ) (path : List Edge) → IsPath edges h vertex weight path → IsPath edges k vertex weight path
higher_path edges h k up vertex weight [] is = (is.0, at_most weight (h vertex) (k vertex) is.1 (up vertex))
higher_path edges h k up vertex weight (edge ∷ path) is =
    (record { among = is.0.among; leads = is.0.leads; below = at_most weight (h vertex) (k vertex) is.0.below (up vertex) }, higher_path edges h k up edge.from (weight -ℤ edge.weight) path is.1)

path_below : (edges : List Edge) (h : ℕ → ℤ) (vertex : ℕ) (weight : ℤ) (path : List Edge) → IsPath edges h vertex weight path → weight ≤ℤ h vertex
path_below edges h vertex weight [] is = is.1
path_below edges h vertex weight (edge ∷ path) is = is.0.below

pub among_each : {X : Type 0} (P : X → Type 0) (x : X) (xs : List X) → Each P xs → Among x xs → P x
among_each P x [] all is = absurd is
among_each P x (y ∷ ys) all (inl e) = subst P e all.0
among_each P x (y ∷ ys) all (inr h) = among_each P x ys all.1 h

among_starts : (edge : Edge) (edges : List Edge) → Among edge edges → Among edge.from (starts edges)
among_starts edge [] is = absurd is
among_starts edge (first ∷ edges) (inl e) = inl (ap (λ (one : Edge). one.from) e)
among_starts edge (first ∷ edges) (inr h) = inr (among_starts edge edges h)

starts_among : (edges : List Edge) (h : ℕ → ℤ) (vertex : ℕ) (weight : ℤ) (path : List Edge) → IsPath edges h vertex weight path → Each (λ (start : ℕ). Among start (starts edges)) (starts path)
starts_among edges h vertex weight [] is = tt
starts_among edges h vertex weight (edge ∷ path) is = (among_starts edge edges is.0.among, starts_among edges h edge.from (weight -ℤ edge.weight) path is.1)

starts_length : (edges : List Edge) → length (starts edges) ≡ length edges
starts_length [] = refl
starts_length (edge ∷ edges) = let rest = starts_length edges in omega arith

among_all : (x : ℕ) (xs : List ℕ) → Among x xs → AmongAll x xs
among_all x [] is = is
among_all x (y ∷ ys) (inl e) = inl e
among_all x (y ∷ ys) (inr h) = inr (among_all x ys h)

all_different : (xs : List ℕ) → Different xs → AllDifferent xs
all_different [] different = tt
all_different (x ∷ xs) different = (different.0, all_different xs different.1)

path_length : (edges : List Edge) (h : ℕ → ℤ) (vertex : ℕ) (weight : ℤ) (path : List Edge) → IsPath edges h vertex weight path → Different (vertex ∷ starts path) → length path ≤ length edges
path_length edges h vertex weight path is different =
    let most = at_most_among (starts path) (starts edges) (all_different (starts path) different.1) (each_weaker (λ (start : ℕ). Among start (starts edges)) (λ (start : ℕ). AmongAll start (starts edges)) (λ start among. among_all start (starts edges) among) (starts path) (starts_among edges h vertex weight path is)) in
    let one = starts_length path in
    let other = starts_length edges in
    omega arith

none_near : (bound : ℕ) (weight : ℤ) → weight ≡ pos 0 → IsWithin bound weight
none_near bound weight e = (omega (arith, ints), omega (arith, ints))

more_near : (a b c : ℕ) (weight edge : ℤ) → c ≡ b + a → IsWithin b edge → IsWithin a (weight -ℤ edge) → IsWithin c weight
more_near a b c weight edge e h g = let h0 = h.0 in let h1 = h.1 in let g0 = g.0 in let g1 = g.1 in (omega (arith, ints), omega (arith, ints))

path_near : (bound : ℕ) (edges : List Edge) (h : ℕ → ℤ) (vertex : ℕ) (weight : ℤ) (path : List Edge) → Each (λ (edge : Edge). IsWithin bound edge.weight) edges → IsPath edges h vertex weight path → IsWithin (length path * bound) weight
path_near bound edges h vertex weight [] all is = none_near _ weight is.0
path_near bound edges h vertex weight (edge ∷ path) all is =
    more_near (length path * bound) bound (length (edge ∷ path) * bound) weight edge.weight (one_more (length path) bound) (among_each (λ (one : Edge). IsWithin bound one.weight) edge edges all is.0.among) (path_near bound edges h edge.from (weight -ℤ edge.weight) path all is.1)
  where
    one_more : (a b : ℕ) → suc a * b ≡ b + a * b
    one_more a b = omega arith

edges_near : (edges : List Edge) → Each IsEdge edges → Each (λ (edge : Edge). IsWithin (2 ^ 95) edge.weight) edges
edges_near [] all = tt
edges_near (edge ∷ edges) all = (all.0.within, edges_near edges all.1)

pub scaled : (n m b : ℕ) → n ≤ m → n * b ≤ m * b
scaled zero m b h = omega arith
scaled (suc n) zero b h = absurd (omega arith)
scaled (suc n) (suc m) b h = let rest = scaled n m b (omega arith) in omega arith

pub wider : (a b : ℕ) (weight : ℤ) → a ≤ b → IsWithin a weight → IsWithin b weight
wider a b weight h near = let low = near.0 in let high = near.1 in (omega (arith, ints), omega (arith, ints))

-- No height leaves 112 bits.
pub height_near : (edges : List Edge) (reached : List Reached) (vertex : ℕ) → AreEdges edges → IsReached edges reached → IsWithin (2 ^ 111) (height_at reached vertex)
height_near edges reached vertex are is =
    let few = are.few in
    let short = path_length edges (height_at reached) vertex (height_at reached vertex) (path_at reached vertex) (is.path vertex) (is.different vertex) in
    let whole : 65536 * 2 ^ 95 ≡ 2 ^ 111 = refl in
    subst (λ (bound : ℕ). IsWithin bound (height_at reached vertex)) whole
    (wider _ (65536 * 2 ^ 95) (height_at reached vertex) (scaled (length (path_at reached vertex)) 65536 (2 ^ 95) (omega arith))
    (path_near (2 ^ 95) edges (height_at reached) vertex (height_at reached vertex) (path_at reached vertex) (edges_near edges are.each) (is.path vertex)))

-- ---- cycles

pub take_none : {X : Type 0} (xs : List X) → take 0 xs ≡ []
take_none [] = refl
take_none (x ∷ xs) = refl

-- The part of a path from a vertex on that it comes through.
record IsPart (edges : List Edge) (h : ℕ → ℤ) (to : ℕ) (weight : ℤ) (from n : ℕ) (part : List Edge) : Type 0 where
  leads : Leads edges to part from
  size : length part ≡ n
  below : (weight -ℤ weight_of part) ≤ℤ h from

part_of : (edges : List Edge) (h : ℕ → ℤ) (to : ℕ) (weight : ℤ) (path : List Edge) (from at : ℕ) (d : Edge) → IsPath edges h to weight path → at < length path → (get_or path at d).from ≡ from → IsPart edges h to weight from (suc at) (take (suc at) path)
part_of edges h to weight [] from at d is l e = absurd (omega arith)
part_of edges h to weight (edge ∷ path) from zero d is l e =
    subst (λ (rest : List Edge). IsPart edges h to weight from 1 (edge ∷ rest)) (sym (take_none path))
    (record { leads = ((is.0.leads, is.0.among), e); size = refl; below = first_below weight edge.weight (h edge.from) (h from) (ap h e) (path_below edges h edge.from (weight -ℤ edge.weight) path is.1) })
  where
    first_below : (w e a b : ℤ) → a ≡ b → (w -ℤ e) ≤ℤ a → (w -ℤ (e +ℤ pos 0)) ≤ℤ b
    first_below w e a b same h = omega (arith, ints)
part_of edges h to weight (edge ∷ path) from (suc at) d is l e =
    let rest = part_of edges h edge.from (weight -ℤ edge.weight) path from at d is.1 (omega arith) e in
    let size = rest.size in
    record { leads = ((is.0.leads, is.0.among), rest.leads); size = omega arith; below = next_below weight edge.weight (weight_of (take (suc at) path)) (h from) rest.below }
  where
    next_below : (w e p b : ℤ) → ((w -ℤ e) -ℤ p) ≤ℤ b → (w -ℤ (e +ℤ p)) ≤ℤ b
    next_below w e p b h = omega (arith, ints)

pub cycle_closed : (edges : List Edge) (reached : List Reached) (edge : Edge) (at : ℕ) (d : Edge) → AreEdges edges → IsReached edges reached → Among edge edges
    → height_at reached edge.to <ℤ (height_at reached edge.from +ℤ edge.weight) → at < length (path_at reached edge.from) → (get_or (path_at reached edge.from) at d).from ≡ edge.to
    → IsCycle edges (edge ∷ take (suc at) (path_at reached edge.from))
cycle_closed edges reached edge at d are is among more within e =
    let part = part_of edges (height_at reached) edge.from (height_at reached edge.from) (path_at reached edge.from) edge.to at d (is.path edge.from) within e in
    let size = part.size in
    let few = are.few in
    let short = path_length edges (height_at reached) edge.from (height_at reached edge.from) (path_at reached edge.from) (is.path edge.from) (is.different edge.from) in
    record {
      vertex = edge.to;
      leads = ((refl, among), part.leads);
      long = omega arith;
      short = omega arith;
      positive = sum_positive (height_at reached edge.from) edge.weight (weight_of (take (suc at) (path_at reached edge.from))) (height_at reached edge.to) part.below more;
    }
  where
    sum_positive : (u w p v : ℤ) → (u -ℤ p) ≤ℤ v → v <ℤ (u +ℤ w) → pos 0 <ℤ (w +ℤ p)
    sum_positive u w p v h g = omega (arith, ints)

-- ---- a height that rises

gap_most : (limit : ℕ) (a b : ℤ) → pos 0 ≤ℤ a → a ≤ℤ b → gap limit b ≤ gap limit a
gap_most limit (pos a) (pos b) h g = let less : a ≤ b = omega (arith, ints) in omega arith
gap_most limit (pos a) (negsuc b) h g = absurd (omega (arith, ints))
gap_most limit (negsuc a) b h g = absurd (omega (arith, ints))

gap_less : (limit : ℕ) (a b : ℤ) → pos 0 ≤ℤ a → a <ℤ b → b ≤ℤ pos limit → gap limit b < gap limit a
gap_less limit (pos a) (pos b) h g k = let less : a < b = omega (arith, ints) in let most : b ≤ limit = omega (arith, ints) in omega arith
gap_less limit (pos a) (negsuc b) h g k = absurd (omega (arith, ints))
gap_less limit (negsuc a) b h g k = absurd (omega (arith, ints))

room_most : (limit : ℕ) (edges : List Edge) (h k : ℕ → ℤ) → ((vertex : ℕ) → pos 0 ≤ℤ h vertex) → ((vertex : ℕ) → h vertex ≤ℤ k vertex) → room_below limit edges k ≤ room_below limit edges h
room_most limit [] h k high up = omega arith
room_most limit (edge ∷ edges) h k high up =
    let here = gap_most limit (h edge.to) (k edge.to) (high edge.to) (up edge.to) in
    let rest = room_most limit edges h k high up in
    omega arith

room_less : (limit : ℕ) (edge : Edge) (edges : List Edge) (h k : ℕ → ℤ) → ((vertex : ℕ) → pos 0 ≤ℤ h vertex) → ((vertex : ℕ) → h vertex ≤ℤ k vertex) → Among edge edges → h edge.to <ℤ k edge.to → k edge.to ≤ℤ pos limit
    → room_below limit edges k < room_below limit edges h
room_less limit edge [] h k high up among more below = absurd among
room_less limit edge (first ∷ edges) h k high up (inl e) more below =
    let at = ap (λ (one : Edge). one.to) e in
    let here = gap_less limit (h first.to) (k first.to) (high first.to) (subst (λ (vertex : ℕ). h vertex <ℤ k vertex) (sym at) more) (subst (λ (vertex : ℕ). k vertex ≤ℤ pos limit) (sym at) below) in
    let rest = room_most limit edges h k high up in
    omega arith
room_less limit edge (first ∷ edges) h k high up (inr among) more below =
    let here = gap_most limit (h first.to) (k first.to) (high first.to) (up first.to) in
    let rest = room_less limit edge edges h k high up among more below in
    omega arith

itself : (a : ℕ) → (a == a) ≡ true
itself a = grind arith

-- The edge's end stands as high as the edge asks, by the edge and the path to its start.
pub raised : (edges : List Edge) (reached : List Reached) (edge : Edge) (new : Reached) → AreEdges edges → IsReached edges reached → Among edge edges → height_at reached edge.to <ℤ (height_at reached edge.from +ℤ edge.weight)
    → Each (λ (start : ℕ). edge.to ≡ start → ⊥) (starts (path_at reached edge.from)) → new.vertex ≡ edge.to → new.height ≡ height_at reached edge.from +ℤ edge.weight → new.path.items ≡ edge ∷ path_at reached edge.from
    → IsHigher edges reached (with_reached reached new)
raised edges reached edge new are is among more fresh at height path = record {
  reached = record { high = high; path = paths; different = differ };
  less = room_less (2 ^ 112) edge edges (height_at reached) (height_at after) is.high up among (subst (λ (z : ℤ). height_at reached edge.to <ℤ z) (sym here) more) (subst (λ (z : ℤ). z ≤ℤ pos (2 ^ 112)) (sym here) near);
}
  where
    after : List Reached
    after = with_reached reached new

    target : ℤ
    target = height_at reached edge.from +ℤ edge.weight

    kind : IsEdge edge
    kind = among_each IsEdge edge edges are.each among

    height_is : (vertex : ℕ) → height_at after vertex ≡ cond (edge.to == vertex) target (height_at reached vertex)
    height_is vertex = put_found (λ one. one.height) (pos 0) reached new vertex ∙ (λ i. cond (at i == vertex) (height i) (height_at reached vertex))

    path_is : (vertex : ℕ) → path_at after vertex ≡ cond (edge.to == vertex) (edge ∷ path_at reached edge.from) (path_at reached vertex)
    path_is vertex = put_found (λ one. one.path.items) [] reached new vertex ∙ (λ i. cond (at i == vertex) (path i) (path_at reached vertex))

    here : height_at after edge.to ≡ target
    here = height_is edge.to ∙ ap (λ (test : Bool). cond test target (height_at reached edge.to)) (itself edge.to)

    close : (a b c : ℕ) (x w : ℤ) → a + b ≤ c → IsWithin a x → IsWithin b w → (x +ℤ w) ≤ℤ pos c
    close a b c x w h nx nw = let x1 = nx.1 in let w1 = nw.1 in omega (arith, ints)

    near : target ≤ℤ pos (2 ^ 112)
    near = close (2 ^ 111) (2 ^ 95) (2 ^ 112) (height_at reached edge.from) edge.weight (lit≤ tt) (height_near edges reached edge.from are is) kind.within

    up_by : (vertex : ℕ) (test : Bool) → (edge.to == vertex) ≡ test → height_at reached vertex ≤ℤ cond test target (height_at reached vertex)
    up_by vertex true e = below (height_at reached vertex) (height_at reached edge.to) target (ap (height_at reached) (sym (same_vertex edge.to vertex e))) more
      where
        below : (a b c : ℤ) → a ≡ b → b <ℤ c → a ≤ℤ c
        below a b c e h = omega (arith, ints)
    up_by vertex false e = omega (arith, ints)

    up : (vertex : ℕ) → height_at reached vertex ≤ℤ height_at after vertex
    up vertex = subst (λ (z : ℤ). height_at reached vertex ≤ℤ z) (sym (height_is vertex)) (up_by vertex (edge.to == vertex) refl)

    high : (vertex : ℕ) → pos 0 ≤ℤ height_at after vertex
    high vertex = at_most (pos 0) (height_at reached vertex) (height_at after vertex) (is.high vertex) (up vertex)

    longer : (vertex : ℕ) → edge.to ≡ vertex → target ≤ℤ height_at after vertex → IsPath edges (height_at after) vertex target (edge ∷ path_at reached edge.from)
    longer vertex e below = (
      record { among = among; leads = e; below = below },
      higher_path edges (height_at reached) (height_at after) up edge.from (target -ℤ edge.weight) (path_at reached edge.from)
          (subst (λ (z : ℤ). IsPath edges (height_at reached) edge.from z (path_at reached edge.from)) (back (height_at reached edge.from) edge.weight) (is.path edge.from)),
    )
      where
        back : (x w : ℤ) → x ≡ (x +ℤ w) -ℤ w
        back x w = omega (arith, ints)

    path_by : (vertex : ℕ) (test : Bool) → (edge.to == vertex) ≡ test → height_at after vertex ≡ cond test target (height_at reached vertex)
        → IsPath edges (height_at after) vertex (cond test target (height_at reached vertex)) (cond test (edge ∷ path_at reached edge.from) (path_at reached vertex))
    path_by vertex true e same = longer vertex (same_vertex edge.to vertex e) (equal target (height_at after vertex) same)
      where
        equal : (a b : ℤ) → b ≡ a → a ≤ℤ b
        equal a b e = omega (arith, ints)
    path_by vertex false e same = higher_path edges (height_at reached) (height_at after) up vertex (height_at reached vertex) (path_at reached vertex) (is.path vertex)

    paths : (vertex : ℕ) → IsPath edges (height_at after) vertex (height_at after vertex) (path_at after vertex)
    paths vertex =
        subst (λ (z : ℤ). IsPath edges (height_at after) vertex z (path_at after vertex)) (sym (height_is vertex))
        (subst (λ (some : List Edge). IsPath edges (height_at after) vertex (cond (edge.to == vertex) target (height_at reached vertex)) some) (sym (path_is vertex)) (path_by vertex (edge.to == vertex) refl (height_is vertex)))

    apart : edge.to ≡ edge.from → ⊥
    apart e = kind.apart (sym e)

    differ_by : (vertex : ℕ) (test : Bool) → (edge.to == vertex) ≡ test → Different (vertex ∷ starts (cond test (edge ∷ path_at reached edge.from) (path_at reached vertex)))
    differ_by vertex true e = subst (λ (one : ℕ). Different (one ∷ starts (edge ∷ path_at reached edge.from))) (same_vertex edge.to vertex e) ((apart, fresh), is.different edge.from)
    differ_by vertex false e = is.different vertex

    differ : (vertex : ℕ) → Different (vertex ∷ starts (path_at after vertex))
    differ vertex = subst (λ (some : List Edge). Different (vertex ∷ starts some)) (sym (path_is vertex)) (differ_by vertex (edge.to == vertex) refl)

-- ---- the search

pub none_reached : (edges : List Edge) → IsReached edges []
none_reached edges = record { high = λ vertex. omega (arith, ints); path = λ vertex. (refl, omega (arith, ints)); different = λ vertex. (tt, tt) }

pub fresh_starts : (vertex : ℕ) (path : List Edge) → list_any (comes_from vertex) path ≡ false → Each (λ (start : ℕ). vertex ≡ start → ⊥) (starts path)
fresh_starts vertex [] none = tt
fresh_starts vertex (edge ∷ path) none = by_test (edge.from == vertex) refl none (λ rest. fresh_starts vertex path rest)
  where
    differ : (a b : ℕ) → (a == b) ≡ false → b ≡ a → ⊥
    differ a b e h = absurd (grind arith)

    by_test : (same : Bool) → (edge.from == vertex) ≡ same → (same || list_any (comes_from vertex) path) ≡ false → (list_any (comes_from vertex) path ≡ false → Each (λ (start : ℕ). vertex ≡ start → ⊥) (starts path))
        → Each (λ (start : ℕ). vertex ≡ start → ⊥) (starts (edge ∷ path))
    by_test true e none more = absurd cc
    by_test false e none more = (differ edge.from vertex e, more none)

-- What there is after some of the edges.
abbrev pub Going : List Edge → List Edge → List Reached → List Reached → Bool → Type 0
Going edges some before now false = (now ≡ before) × Each (IsFitting (height_at before)) some
Going edges some before now true = IsHigher edges before now

pub still_reached : (edges some : List Edge) (before now : List Reached) (higher : Bool) → IsReached edges before → Going edges some before now higher → IsReached edges now
still_reached edges some before now false is going = subst (IsReached edges) (sym going.0) is
still_reached edges some before now true is going = going.reached

take_next : {X : Type 0} (xs : List X) (i : ℕ) (x : X) → slice_get xs i ≡ Some x → take (suc i) xs ≡ take i xs ++ x ∷ []
take_next [] i x is = absurd cc
take_next (y ∷ xs) zero x is = let same : y ≡ x = cc in ap (λ some. y ∷ some) (take_none xs) ∙ ap (λ one. one ∷ []) same
take_next (y ∷ xs) (suc i) x is = ap (λ some. y ∷ some) (take_next xs i x is)

pub nothing_relaxed : (edges : List Edge) (reached : List Reached) → Going edges (take 0 edges) reached reached false
nothing_relaxed edges reached = (refl, subst (Each (IsFitting (height_at reached))) (sym (take_none edges)) tt)

pub one_fits : (edges : List Edge) (i : ℕ) (edge : Edge) (before now after : List Reached) (higher then : Bool) → slice_get edges i ≡ Some edge → Going edges (take i edges) before now higher → then ≡ higher → Passes edges edge now after Same → Going edges (take (i + 1) edges) before after then
one_fits edges i edge before now after higher then at going e passes =
    let next : i + 1 ≡ suc i = omega arith in
    subst (λ (n : ℕ). Going edges (take n edges) before after then) (sym next)
    (subst (λ (some : List Edge). Going edges some before after then) (sym (take_next edges i edge at))
    (subst (Going edges (take i edges ++ edge ∷ []) before after) (sym e) (by_flag higher going passes.0 passes.1)))
  where
    by_flag : (higher : Bool) → Going edges (take i edges) before now higher → after ≡ now → IsFitting (height_at now) edge → Going edges (take i edges ++ edge ∷ []) before after higher
    by_flag false going same fits = (same ∙ going.0, each_push (IsFitting (height_at before)) (take i edges) edge going.1 (subst (λ (some : List Reached). IsFitting (height_at some) edge) going.0 fits))
    by_flag true going same fits = subst (IsHigher edges before) (sym same) going

pub one_rises : (edges some more : List Edge) (before now after : List Reached) (higher then : Bool) → Going edges some before now higher → then ≡ true → IsHigher edges now after → Going edges more before after then
one_rises edges some more before now after higher then going e rises = subst (Going edges more before after) (sym e) (by_flag higher going)
  where
    by_flag : (higher : Bool) → Going edges some before now higher → IsHigher edges before after
    by_flag false going = subst (λ (first : List Reached). IsHigher edges first after) going.0 rises
    by_flag true going = let less = going.less in let more = rises.less in record { reached = rises.reached; less = omega arith }

pub all_fit : (edges : List Edge) (i : ℕ) (before now : List Reached) (higher : Bool) → length edges ≤ i → higher ≡ false → Going edges (take i edges) before now higher → Relaxes edges before now Same
all_fit edges i before now higher h e going = subst (λ (some : List Edge). Going edges some before now false) (take_whole edges i h) (subst (Going edges (take i edges) before now) e going)

pub some_rose : (edges some : List Edge) (before now : List Reached) (higher : Bool) → higher ≡ true → Going edges some before now higher → Relaxes edges before now Higher
some_rose edges some before now higher e going = subst (Going edges some before now) e going

pub high_now : (edges : List Edge) (before now : List Reached) → IsReached edges before → Relaxes edges before now Same → AreHigh edges now
high_now edges before now is relaxed = subst (AreHigh edges) (sym relaxed.0) (record { paths = is; fitting = relaxed.1 })

-- ---- one edge

pub edge_among : {X : Type 0} (xs : List X) (i : ℕ) (x : X) → slice_get xs i ≡ Some x → Among x xs
edge_among [] i x is = absurd cc
edge_among (y ∷ xs) zero x is = let same : y ≡ x = cc in inl same
edge_among (y ∷ xs) (suc i) x is = inr (edge_among xs i x is)

pub at_index : {X : Type 0} (xs : List X) (i : ℕ) (x : X) → i < length xs → slice_get xs i ≡ Some (slice_index_or xs i x)
at_index [] i x h = absurd (omega arith)
at_index (y ∷ xs) zero x h = refl
at_index (y ∷ xs) (suc i) x h = at_index xs i x (omega arith)

abbrev pub no_edge : Edge
no_edge = record { from = 0; to = 0; weight = pos 0; number = 0 }

pub index_among : (edges : List Edge) (i : ℕ) → i < length edges → Among (slice_index_or edges i no_edge) edges
index_among edges i h = edge_among edges i (slice_index_or edges i no_edge) (at_index edges i no_edge h)

set_at : (reached : List Reached) (new : Reached) → position_or_len (is_of new.vertex) reached < length reached → slice_set reached (position_or_len (is_of new.vertex) reached) new ≡ with_reached reached new
set_at [] new h = absurd (omega arith)
set_at (first ∷ reached) new h = by_test (first.vertex == new.vertex) refl h (set_at reached new)
  where
    Rest : ℕ
    Rest = position_or_len (is_of new.vertex) reached

    by_test : (same : Bool) → (first.vertex == new.vertex) ≡ same → cond (not same) (1 + Rest) 0 < length (first ∷ reached) → (Rest < length reached → slice_set reached Rest new ≡ with_reached reached new)
        → slice_set (first ∷ reached) (cond (not same) (1 + Rest) 0) new ≡ cond same (new ∷ reached) (first ∷ with_reached reached new)
    by_test true e h more = refl
    by_test false e h more = let next : 1 + Rest ≡ suc Rest = omega arith in ap (λ (n : ℕ). slice_set (first ∷ reached) n new) next ∙ ap (λ (rest : List Reached). first ∷ rest) (more (omega arith))

put_found_there : (reached : List Reached) (new : Reached) (at : ℕ) → position (is_of new.vertex) reached ≡ Some at → slice_set reached at new ≡ with_reached reached new
put_found_there reached new at h = by_test (nat_lt (position_or_len (is_of new.vertex) reached) (length reached)) refl h
  where
    is_place : (a b : ℕ) → Some a ≡ Some b → a ≡ b
    is_place a b h = cc

    by_test : (found : Bool) → nat_lt (position_or_len (is_of new.vertex) reached) (length reached) ≡ found → cond found (Some (position_or_len (is_of new.vertex) reached)) None ≡ Some at → slice_set reached at new ≡ with_reached reached new
    by_test true e h = subst (λ (n : ℕ). slice_set reached n new ≡ with_reached reached new) (is_place _ at h) (set_at reached new (let less : position_or_len (is_of new.vertex) reached < length reached = grind arith in less))
    by_test false e h = absurd cc

pub put_there : (reached slice : List Reached) (new : Reached) (at : ℕ) → slice ≡ reached → Some at ≡ position (is_of new.vertex) slice → slice_set reached at new ≡ with_reached reached new
put_there reached slice new at same found = put_found_there reached new at (ap (position (is_of new.vertex)) (sym same) ∙ sym found)

put_last : (reached : List Reached) (new : Reached) → list_any (is_of new.vertex) reached ≡ false → reached ++ new ∷ [] ≡ with_reached reached new
put_last [] new none = refl
put_last (first ∷ reached) new none = by_test (first.vertex == new.vertex) refl none (put_last reached new)
  where
    by_test : (same : Bool) → (first.vertex == new.vertex) ≡ same → (same || list_any (is_of new.vertex) reached) ≡ false → (list_any (is_of new.vertex) reached ≡ false → reached ++ new ∷ [] ≡ with_reached reached new)
        → (first ∷ reached) ++ new ∷ [] ≡ cond same (new ∷ reached) (first ∷ with_reached reached new)
    by_test true e none more = absurd cc
    by_test false e none more = ap (λ (rest : List Reached). first ∷ rest) (more none)

pub put_new : (reached slice : List Reached) (new : Reached) → slice ≡ reached → None ≡ position (is_of new.vertex) slice → reached ++ new ∷ [] ≡ with_reached reached new
put_new reached slice new same none = put_last reached new (position_none (is_of new.vertex) reached (ap (position (is_of new.vertex)) (sym same) ∙ sym none))

-- ---- what relaxing an edge answers

pub height_read : (reached slice : List Reached) (vertex : ℕ) (height : ℤ) → slice ≡ reached → height ≡ height_at slice vertex → height ≡ height_at reached vertex
height_read reached slice vertex height same is = is ∙ ap (λ (some : List Reached). height_at some vertex) same

pub path_read : (reached slice : List Reached) (vertex : ℕ) (path : List Edge) → slice ≡ reached → path ≡ path_at slice vertex → path ≡ path_at reached vertex
path_read reached slice vertex path same is = is ∙ ap (λ (some : List Reached). path_at some vertex) same

pub near_read : (edges : List Edge) (reached : List Reached) (vertex : ℕ) (height : ℤ) → AreEdges edges → IsReached edges reached → height ≡ height_at reached vertex → IsWithin (2 ^ 111) height
near_read edges reached vertex height are is same = subst (IsWithin (2 ^ 111)) (sym same) (height_near edges reached vertex are is)

pub weight_near : (edges : List Edge) (edge : Edge) → AreEdges edges → Among edge edges → IsWithin (2 ^ 95) edge.weight
weight_near edges edge are among = (among_each IsEdge edge edges are.each among).within

pub more_than : (end target : ℤ) (reached : List Reached) (edge : Edge) → end <ℤ target → end ≡ height_at reached edge.to → target ≡ height_at reached edge.from +ℤ edge.weight → height_at reached edge.to <ℤ (height_at reached edge.from +ℤ edge.weight)
more_than end target reached edge h e f = subst (λ (x : ℤ). x <ℤ (height_at reached edge.from +ℤ edge.weight)) e (subst (λ (x : ℤ). end <ℤ x) f h)

pub closes_now : (edges : List Edge) (reached : List Reached) (edge : Edge) (path items : List Edge) (at : ℕ) → AreEdges edges → IsReached edges reached → Among edge edges → height_at reached edge.to <ℤ (height_at reached edge.from +ℤ edge.weight)
    → path ≡ path_at reached edge.from → Some at ≡ position (comes_from edge.to) path → items ≡ edge ∷ take (at + 1) path → IsCycle edges items
closes_now edges reached edge path items at are is among more path_is found items_are =
    let facts = position-Some (comes_from edge.to) path at edge (sym found) in
    let next : at + 1 ≡ suc at = omega arith in
    subst (IsCycle edges) (sym (items_are ∙ ap (λ (n : ℕ). edge ∷ take n path) next ∙ ap (λ (some : List Edge). edge ∷ take (suc at) some) path_is))
    (cycle_closed edges reached edge at edge are is among more (subst (λ (some : List Edge). at < length some) path_is facts.0)
    (subst (λ (some : List Edge). (get_or some at edge).from ≡ edge.to) path_is (same_vertex (get_or path at edge).from edge.to facts.1)))

pub rises_now : (edges : List Edge) (reached after : List Reached) (edge : Edge) (path : List Edge) (new : Reached) → AreEdges edges → IsReached edges reached → Among edge edges → height_at reached edge.to <ℤ (height_at reached edge.from +ℤ edge.weight)
    → path ≡ path_at reached edge.from → None ≡ position (comes_from edge.to) path → new.path.items ≡ edge ∷ path → new.vertex ≡ edge.to → new.height ≡ height_at reached edge.from +ℤ edge.weight → after ≡ with_reached reached new → IsHigher edges reached after
rises_now edges reached after edge path new are is among more path_is none items_are at height put =
    subst (IsHigher edges reached) (sym put)
    (raised edges reached edge new are is among more (subst (λ (some : List Edge). Each (λ (start : ℕ). edge.to ≡ start → ⊥) (starts some)) path_is (fresh_starts edge.to path (position_none (comes_from edge.to) path (sym none)))) at height (items_are ∙ ap (λ (some : List Edge). edge ∷ some) path_is))
