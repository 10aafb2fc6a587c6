-- The chain of a cycle of positive weight.
use Rattle.std.proofs.Common.{◌≡◌, ℕ, zero, suc, ◌+◌, ◌*◌, ◌<◌, ◌≤◌, ◌^◌, ℤ, pos, neg_ℤ, ◌+ℤ◌, ◌*ℤ◌, ◌<ℤ◌, true, ◌&&◌, List, [], ◌∷◌, ◌++◌, length, map, lit≤, Option, Some, sym, subst, arith, ap, refl, ◌∙◌}
use Rattle.std.specs.Prelude.{int_le, int_lt, slice_get}
use Rattle.std.specs.List.{AllByRecursion as Each}
use Rattle.std.proofs.lemmas.Int.{ints}
use Rattle.logic_linear.specs.Linear.{Linear}
use Rattle.logic_linear.specs.LightCubes.{IsWithin}
use Rattle.logic_linear.specs.Sums.{fits_128, sum_fits, sum_of_multiples}
use Rattle.logic_cert.specs.declared.cert.Combine.{Combine}
use Rattle.logic_cert.specs.declared.cert.Literal.{Literal}
use Rattle.logic_cert.specs.Refutes.{chain_closes, chain_goes, is_absurd, is_nil, made, made_of, row_of}
use Rattle.logic_elim.proofs.ChainLemmas.{get_more}
use Rattle.logic_elim.proofs.Lists.{append_length}
use Rattle.logic_solve.specs.declared.paths.Edge.{Edge}
use Rattle.logic_solve.specs.inner.Different.{Among}
use Rattle.logic_solve.specs.inner.Differences.{chain_along, chain_of, difference_terms, sum_with, variable_of, AreEdgesOf, IsRowEdge, IsRowOf}
use Rattle.logic_solve.specs.inner.Paths.{weight_of, IsCycle, Leads}
use Rattle.logic_solve.proofs.DifferenceRows.{sum_fits_of, sum_terms}
use Rattle.logic_solve.proofs.EdgeLemmas.{same_ends}
use Rattle.logic_solve.proofs.LiteralLemmas.{gets_row, row_count}
use Rattle.logic_solve.proofs.PathLemmas.{among_each, scaled, wider}

-- ---- one sum

-- The edge's row stands at its number, and the weight is small.
record StandsFor (bound : ℕ) (rows : List (Option Linear)) (edge : Edge) : Type 0 where
  form : Linear
  stands : slice_get rows edge.number ≡ Some (Some form)
  row : IsRowOf edge form
  within : IsWithin bound edge.weight

abbrev joined : Linear → Linear → Linear
joined sum form = sum_of_multiples (pos 1) sum (pos 1) form

-- What a sum of so many edges is.
record IsSumOf (bound n : ℕ) (from to : ℕ) (weight : ℤ) (sum : Linear) : Type 0 where
  terms : sum.terms ≡ difference_terms (variable_of from) (variable_of to)
  constant : sum.constant ≡ weight
  within : IsWithin (n * bound) sum.constant

-- Numbers within so many bounds have 128 bits.
abbrev Fits : ℕ → Type 0
Fits bound = (n : ℕ) (x : ℤ) → n ≤ 65538 → IsWithin (n * bound) x → fits_128 x ≡ true

once_each : (a b : ℤ) → pos 1 *ℤ a +ℤ pos 1 *ℤ b ≡ a +ℤ b
once_each a b = omega (arith, ints)

sum_within : (a b c : ℕ) (x y : ℤ) → c ≡ b + a → IsWithin a x → IsWithin b y → IsWithin c (pos 1 *ℤ x +ℤ pos 1 *ℤ y)
sum_within a b c x y e h g = let h0 = h.0 in let h1 = h.1 in let g0 = g.0 in let g1 = g.1 in (omega (arith, ints), omega (arith, ints))

next_sum : (bound n from to : ℕ) (weight : ℤ) (sum : Linear) (edge : Edge) (form : Linear) → IsSumOf bound n from to weight sum → IsRowOf edge form → IsWithin bound edge.weight → edge.to ≡ from → IsSumOf bound (suc n) edge.from to (weight +ℤ edge.weight) (joined sum form)
next_sum bound n from to weight sum edge form so row small meets = record {
  terms = sum_terms (variable_of from) (variable_of edge.from) (variable_of to) sum.terms form.terms so.terms (row.terms ∙ ap (λ (vertex : ℕ). difference_terms (variable_of edge.from) (variable_of vertex)) meets);
  constant = once_each sum.constant form.constant ∙ (λ i. so.constant i +ℤ row.constant i);
  within = sum_within (n * bound) bound (suc n * bound) sum.constant form.constant (one_more n bound) so.within (subst (IsWithin bound) (sym row.constant) small);
}
  where
    one_more : (a b : ℕ) → suc a * b ≡ b + a * b
    one_more a b = omega arith

sum_made : (bound n from to at : ℕ) (weight : ℤ) (rows : List (Option Linear)) (sum : Linear) (edge : Edge) (there : StandsFor bound rows edge) → Fits bound → n ≤ 65537 → slice_get rows at ≡ Some (Some sum) → IsSumOf bound n from to weight sum → edge.to ≡ from
    → made (sum_with at edge) rows ≡ Some (joined sum there.form)
sum_made bound n from to at weight rows sum edge there fits few stands so meets =
    let next = next_sum bound n from to weight sum edge there.form so there.row there.within meets in
    let one : 1 * bound ≡ bound = omega arith in
    (λ i. made_of (sum_with at edge) (stands i) (there.stands i))
    ∙ when_fits (sum_with at edge) sum there.form refl
    (sum_fits_of (variable_of from) (variable_of edge.from) (variable_of to) sum there.form so.terms (there.row.terms ∙ ap (λ (vertex : ℕ). difference_terms (variable_of edge.from) (variable_of vertex)) meets)
    (fits n sum.constant (omega arith) so.within)
    (fits 1 there.form.constant (omega arith) (subst (λ (b : ℕ). IsWithin b there.form.constant) (sym one) (subst (IsWithin bound) (sym there.row.constant) there.within)))
    (fits (suc n) _ (omega arith) next.within))
  where
    when_fits : (combine : Combine) (left right : Linear) → combine ≡ sum_with at edge → sum_fits (pos 1) left (pos 1) right ≡ true → made_of (sum_with at edge) (Some (Some left)) (Some (Some right)) ≡ Some (joined left right)
    when_fits combine left right is h = rw h refl

-- ---- the chain

get_last : (rows : List (Option Linear)) (new : Option Linear) (i : ℕ) → length rows ≡ i → slice_get (rows ++ new ∷ []) i ≡ Some new
get_last [] new zero h = refl
get_last [] new (suc i) h = absurd (omega arith)
get_last (first ∷ rows) new zero h = absurd (omega arith)
get_last (first ∷ rows) new (suc i) h = get_last rows new i (omega arith)

absurd_row : (row : Linear) → row.terms ≡ [] → pos 0 <ℤ row.constant → is_absurd row ≡ true
absurd_row row none high = let more = positive row.constant high in rw none more
  where
    positive : (c : ℤ) → pos 0 <ℤ c → int_lt (pos 0) c ≡ true
    positive c h = grind (arith, ints)

-- The first sum closes the chain, or the others do after it.
goes_on : (combine : Combine) (combines : List Combine) (rows : List (Option Linear)) (row : Linear) → made combine rows ≡ Some row → chain_goes (chain_closes combines) rows (is_nil combines) (Some row) ≡ true → chain_closes (combine ∷ combines) rows ≡ true
goes_on combine combines rows row is more = subst (λ (some : Option Linear). chain_goes (chain_closes combines) rows (is_nil combines) some ≡ true) (sym is) more

still_stands : (bound : ℕ) (rows : List (Option Linear)) (new : Option Linear) (edge : Edge) → StandsFor bound rows edge → StandsFor bound (rows ++ new ∷ []) edge
still_stands bound rows new edge there = record { form = there.form; stands = get_more rows new (Some there.form) edge.number there.stands; row = there.row; within = there.within }

closes_along : (bound : ℕ) (edges : List Edge) (rows : List (Option Linear)) (at next n from to : ℕ) (weight : ℤ) (sum : Linear) (edge : Edge) (path : List Edge) → Fits bound → ((one : Edge) → Among one edges → StandsFor bound rows one) → length rows ≡ next
    → slice_get rows at ≡ Some (Some sum) → IsSumOf bound n from to weight sum → n + length (edge ∷ path) ≤ 65537 → Leads edges from (edge ∷ path) to → pos 0 <ℤ (weight +ℤ weight_of (edge ∷ path)) → chain_closes (chain_along at next (edge ∷ path)) rows ≡ true
closes_along bound edges rows at next n from to weight sum edge [] fits there count stands so few leads high =
    let one = there edge leads.0.1 in
    let last = next_sum bound n from to weight sum edge one.form so one.row one.within leads.0.0 in
    goes_on (sum_with at edge) [] rows (joined sum one.form) (sum_made bound n from to at weight rows sum edge one fits (omega arith) stands so leads.0.0)
    (absurd_row (joined sum one.form) (last.terms ∙ ap (λ (vertex : ℕ). difference_terms (variable_of vertex) (variable_of to)) leads.1 ∙ same_ends to) (positive weight edge.weight (joined sum one.form).constant last.constant high))
  where
    positive : (a b c : ℤ) → c ≡ a +ℤ b → pos 0 <ℤ (a +ℤ (b +ℤ pos 0)) → pos 0 <ℤ c
    positive a b c e h = omega (arith, ints)
closes_along bound edges rows at next n from to weight sum edge (second ∷ path) fits there count stands so few leads high =
    let one = there edge leads.0.1 in
    let row = joined sum one.form in
    let more = append_length rows (Some row ∷ []) in
    goes_on (sum_with at edge) (chain_along next (next + 1) (second ∷ path)) rows row (sum_made bound n from to at weight rows sum edge one fits (omega arith) stands so leads.0.0)
    (closes_along bound edges (rows ++ Some row ∷ []) next (next + 1) (suc n) edge.from to (weight +ℤ edge.weight) row second path fits (λ other among. still_stands bound rows (Some row) other (there other among)) (omega arith)
    (get_last rows (Some row) next count) (next_sum bound n from to weight sum edge one.form so one.row one.within leads.0.0) (omega arith) leads.1 (grouped weight edge.weight (weight_of (second ∷ path)) high))
  where
    grouped : (a b c : ℤ) → pos 0 <ℤ (a +ℤ (b +ℤ c)) → pos 0 <ℤ ((a +ℤ b) +ℤ c)
    grouped a b c h = omega (arith, ints)

-- ---- the cycle

fitting : Fits (2 ^ 95)
fitting n x few near = in_bits (65538 * 2 ^ 95) (2 ^ 127) x (lit≤ tt) (wider (n * 2 ^ 95) (65538 * 2 ^ 95) x (scaled n 65538 (2 ^ 95) few) near)
  where
    in_bits : (p q : ℕ) (x : ℤ) → p + 1 ≤ q → IsWithin p x → (int_le (neg_ℤ (pos q)) x && int_lt x (pos q)) ≡ true
    in_bits p q x h near = let low = near.0 in let high = near.1 in grind (arith, ints)

stands_for : (literals : List Literal) (edges : List Edge) → Each (IsRowEdge literals) edges → (one : Edge) → Among one edges → StandsFor (2 ^ 95) (map row_of literals) one
stands_for literals edges each one among = made_so (among_each (IsRowEdge literals) one edges each among)
  where
    made_so : IsRowEdge literals one → StandsFor (2 ^ 95) (map row_of literals) one
    made_so is = record { form = is.form; stands = gets_row literals one.number is.form is.stands; row = is.row; within = is.edge_is.within }

pub cycle_closes : (literals : List Literal) (edges cycle : List Edge) (next : ℕ) → AreEdgesOf literals literals edges → IsCycle edges cycle → next ≡ length literals → chain_closes (chain_of next cycle) (map row_of literals) ≡ true
cycle_closes literals edges [] next so is count = absurd (let long = is.long in omega arith)
cycle_closes literals edges (edge ∷ []) next so is count = absurd (let long = is.long in omega arith)
cycle_closes literals edges (edge ∷ second ∷ path) next so is count =
    let leads = is.leads in
    let one = stands_for literals edges so.each edge leads.0.1 in
    let single : 1 * 2 ^ 95 ≡ 2 ^ 95 = refl in
    let short = is.short in
    closes_along (2 ^ 95) edges (map row_of literals) edge.number next 1 edge.from is.vertex edge.weight one.form second path fitting (stands_for literals edges so.each) (row_count literals ∙ sym count) one.stands
    (record {
      terms = one.row.terms ∙ ap (λ (vertex : ℕ). difference_terms (variable_of edge.from) (variable_of vertex)) leads.0.0;
      constant = one.row.constant;
      within = subst (λ (b : ℕ). IsWithin b one.form.constant) (sym single) (subst (IsWithin (2 ^ 95)) (sym one.row.constant) one.within);
    })
    (omega arith) leads.1 is.positive

pub room_for_chain : (cycle : List Edge) (edges : List Edge) (next count : ℕ) → IsCycle edges cycle → next ≡ count → count ≤ 65536 → next + length cycle < 4294967296
room_for_chain cycle edges next count is same few = let short = is.short in omega arith
