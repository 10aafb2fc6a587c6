-- Difference rows as edges, and the heights that edges ask for as numbers.
use Rattle.std.proofs.Common.{◌≡◌, inl, inr, ℕ, zero, suc, ◌+◌, ◌<◌, ◌≤◌, ◌^◌, ℤ, pos, ◌+ℤ◌, ◌-ℤ◌, ◌≤ℤ◌, ◌<ℤ◌, Bool, true, false, not, cond, ◌||◌, List, [], ◌∷◌, ◌++◌, length, take, get_or, Option, Some, None, sym, subst, arith, ap, refl, ◌∙◌}
use Rattle.std.specs.Prelude.{int_lt, slice_get}
use Rattle.std.specs.List.{list_any, AllByRecursion as Each}
use Rattle.std.proofs.lemmas.Int.{ints}
use Rattle.logic_linear.specs.declared.form.Term.{Term}
use Rattle.logic_linear.specs.Differences.{is_difference}
use Rattle.logic_linear.specs.Linear.{Linear, IsLinear}
use Rattle.logic_linear.specs.Truth.{Valuation, sum_of, value_of}
use Rattle.logic_cert.specs.declared.cert.Literal.{Literal}
use Rattle.logic_cert.specs.declared.cert.Literal.TheVariants.{Row, Flag}
use Rattle.logic_cert.specs.Refutes.{is_absurd}
use Rattle.logic_elim.specs.Rows.{has_terms}
use Rattle.logic_elim.proofs.Lists.{append_length, append_none}
use Rattle.logic_elim.proofs.RowLemmas.{each_push, each_weaker}
use Rattle.logic_solve.specs.declared.paths.Edge.{Edge}
use Rattle.logic_solve.specs.inner.Different.{Among}
use Rattle.logic_solve.specs.inner.Differences.{difference_terms, edge_of, edges_with, lower_vertex, upper_vertex, variable_of, AreEdgesOf, IsCovered, IsRowEdge, IsRowOf}
use Rattle.logic_solve.specs.Cubes.{is_general}
use Rattle.logic_solve.specs.inner.Literals.{FitsLiteral, HaveNoAbsurd, IsRefuting, LiteralHolds}
use Rattle.logic_solve.specs.inner.Paths.{HaveHeights, IsEdge, IsFitting}
use Rattle.logic_solve.proofs.DifferenceRows.{by_layout, difference_value, number_at}
use Rattle.logic_solve.proofs.LiteralLemmas.{gets, take_next, take_whole}
use Rattle.logic_solve.proofs.PathLemmas.{among_each, take_none}
use Rattle.logic_solve.proofs.TwoVariables.{difference_of, high_first, low_first}

-- ---- the ends of a difference

variable_next : (place : ℕ) → variable_of (place + 1) ≡ Some place
variable_next place = let e : place + 1 ≡ suc place = omega arith in ap variable_of e

ends_of : (plus minus : Option ℕ) → difference_terms plus minus ≡ difference_terms (variable_of (upper_vertex (difference_terms plus minus))) (variable_of (lower_vertex (difference_terms plus minus)))
ends_of None None = refl
ends_of (Some plus) None = ap (λ (node : Option ℕ). difference_terms node None) (sym (variable_next plus))
ends_of None (Some minus) = ap (λ (node : Option ℕ). difference_terms None node) (sym (variable_next minus))
ends_of (Some plus) (Some minus) =
    by_layout (λ terms. terms ≡ difference_terms (variable_of (upper_vertex terms)) (variable_of (lower_vertex terms))) plus minus
    (λ h. sym (low_first plus minus h) ∙ both_next plus minus) (λ h. sym (high_first minus plus h) ∙ both_next plus minus) (λ h. refl)
  where
    both_next : (p q : ℕ) → difference_terms (Some p) (Some q) ≡ difference_terms (variable_of (p + 1)) (variable_of (q + 1))
    both_next p q = λ i. difference_terms (sym (variable_next p) i) (sym (variable_next q) i)

pub same_ends : (vertex : ℕ) → difference_terms (variable_of vertex) (variable_of vertex) ≡ []
same_ends zero = refl
same_ends (suc place) = by_layout (λ terms. terms ≡ []) place place (λ h. absurd (omega arith)) (λ h. absurd (omega arith)) (λ h. refl)

-- ---- a row as an edge

row_of_edge : (number : ℕ) (form : Linear) → IsLinear form → is_difference form ≡ true → IsRowOf (edge_of number form) form
row_of_edge number form linear is =
    let two = difference_of form.terms linear.rising is in
    record {
      terms = subst (λ (terms : List Term). terms ≡ difference_terms (variable_of (upper_vertex terms)) (variable_of (lower_vertex terms))) (sym two.same) (ends_of two.plus two.minus);
      constant = refl;
    }

fits_edge : (number : ℕ) (form : Linear) → IsLinear form → is_difference form ≡ true → has_terms form.terms ≡ true → IsEdge (edge_of number form)
fits_edge number form linear is some =
    let low = linear.above in
    let high = linear.below in
    record {
      apart = λ e. none ((row_of_edge number form linear is).terms ∙ ap (λ (vertex : ℕ). difference_terms (variable_of (upper_vertex form.terms)) (variable_of vertex)) (sym e) ∙ same_ends (upper_vertex form.terms));
      within = (low, below form.constant (2 ^ 95) high);
    }
  where
    none : form.terms ≡ [] → ⊥
    none e = let no : has_terms [] ≡ true = subst (λ (terms : List Term). has_terms terms ≡ true) e some in absurd cc

    below : (c : ℤ) (n : ℕ) → c <ℤ pos n → c ≤ℤ pos n
    below c n h = omega (arith, ints)

-- ---- the edges of literals

among_pushed : (edge new : Edge) (edges : List Edge) → Among edge edges → Among edge (edges ++ new ∷ [])
among_pushed edge new [] is = absurd is
among_pushed edge new (first ∷ edges) (inl e) = inl e
among_pushed edge new (first ∷ edges) (inr h) = inr (among_pushed edge new edges h)

among_last : (new : Edge) (edges : List Edge) → Among new (edges ++ new ∷ [])
among_last new [] = inl refl
among_last new (first ∷ edges) = inr (among_last new edges)

still_covered : (new : Edge) (edges : List Edge) (literal : Literal) → IsCovered edges literal → IsCovered (edges ++ new ∷ []) literal
still_covered new edges (Row form) (inl e) = inl e
still_covered new edges (Row form) (inr (edge, (among, is))) = inr (edge, (among_pushed edge new edges among, is))
still_covered new edges (Flag place is) covered = tt

no_terms : (terms : List Term) → has_terms terms ≡ false → terms ≡ []
no_terms [] e = refl
no_terms (term ∷ terms) e = absurd cc

not_general_at : (literals : List Literal) (i : ℕ) (literal : Literal) → slice_get literals i ≡ Some literal → list_any is_general literals ≡ false → is_general literal ≡ false
not_general_at [] i literal is none = absurd cc
not_general_at (first ∷ literals) zero literal is none = let same : first ≡ literal = cc in ap is_general (sym same) ∙ (either_false (is_general first) (list_any is_general literals) none).0
  where
    either_false : (a b : Bool) → (a || b) ≡ false → (a ≡ false) × (b ≡ false)
    either_false true b h = absurd cc
    either_false false b h = (refl, h)
not_general_at (first ∷ literals) (suc i) literal is none = not_general_at literals i literal is (last_false (is_general first) (list_any is_general literals) none)
  where
    last_false : (a b : Bool) → (a || b) ≡ false → b ≡ false
    last_false true b h = absurd cc
    last_false false b h = h

pub no_edges : (literals : List Literal) → AreEdgesOf literals (take 0 literals) []
no_edges literals = subst (λ (some : List Literal). AreEdgesOf literals some []) (sym (take_none literals)) (record { few = omega arith; each = tt; covers = tt })

pushed_edge : (literals some : List Literal) (form : Linear) (new : Edge) (edges : List Edge) → IsRowEdge literals new → IsRowOf new form → AreEdgesOf literals some edges → AreEdgesOf literals (some ++ Row form ∷ []) (edges ++ new ∷ [])
pushed_edge literals some form new edges is row so =
    let few = so.few in
    let more = append_length edges (new ∷ []) in
    let longer = append_length some (Row form ∷ []) in
    record {
      few = omega arith;
      each = each_push (IsRowEdge literals) edges new so.each is;
      covers = each_push (IsCovered (edges ++ new ∷ [])) some (Row form) (each_weaker (IsCovered edges) (IsCovered (edges ++ new ∷ [])) (still_covered new edges) some so.covers) (inr (new, (among_last new edges, row)));
    }

pushed_none : (literals some : List Literal) (literal : Literal) (edges : List Edge) → IsCovered edges literal → AreEdgesOf literals some edges → AreEdgesOf literals (some ++ literal ∷ []) edges
pushed_none literals some literal edges is so =
    let few = so.few in
    let longer = append_length some (literal ∷ []) in
    record { few = omega arith; each = so.each; covers = each_push (IsCovered edges) some literal so.covers is }

noted_edge : (literals some : List Literal) (i : ℕ) (literal : Literal) (edges : List Edge) → slice_get literals i ≡ Some literal → is_general literal ≡ false → FitsLiteral literal → AreEdgesOf literals some edges → AreEdgesOf literals (some ++ literal ∷ []) (edges ++ edges_with i literal)
noted_edge literals some i (Flag place truth) edges at easy fits so = subst (AreEdgesOf literals (some ++ Flag place truth ∷ [])) (sym (append_none edges)) (pushed_none literals some (Flag place truth) edges tt so)
noted_edge literals some i (Row form) edges at easy fits so = by_test (has_terms form.terms) refl
  where
    not_not : (a : Bool) → not a ≡ false → a ≡ true
    not_not true h = refl
    not_not false h = absurd cc

    by_test : (has : Bool) → has_terms form.terms ≡ has → AreEdgesOf literals (some ++ Row form ∷ []) (edges ++ cond has (edge_of i form ∷ []) [])
    by_test true e =
        let is = not_not (is_difference form) easy in
        let row = row_of_edge i form fits is in
        pushed_edge literals some form (edge_of i form) edges (record { edge_is = fits_edge i form fits is e; form = form; stands = at; row = row }) row so
    by_test false e = subst (AreEdgesOf literals (some ++ Row form ∷ [])) (sym (append_none edges)) (pushed_none literals some (Row form) edges (inl (no_terms form.terms e)) so)

pub one_more_edge : (literals : List Literal) (i : ℕ) (literal : Literal) (before after : List Edge) → i < length literals → literal ≡ get_or literals i literal → list_any is_general literals ≡ false → FitsLiteral literal → after ≡ before ++ edges_with i literal
    → AreEdgesOf literals (take i literals) before → AreEdgesOf literals (take (i + 1) literals) after
one_more_edge literals i literal before after h is easy fits pushed so =
    let at = gets literals i literal h is in
    subst (λ (some : List Literal). AreEdgesOf literals some after) (sym (take_next literals i literal h is))
    (subst (AreEdgesOf literals (take i literals ++ literal ∷ [])) (sym pushed) (noted_edge literals (take i literals) i literal before at (not_general_at literals i literal at easy) fits so))

pub all_edges : (literals : List Literal) (i : ℕ) (edges : List Edge) → length literals ≤ i → AreEdgesOf literals (take i literals) edges → AreEdgesOf literals literals edges
all_edges literals i edges h so = subst (λ (some : List Literal). AreEdgesOf literals some edges) (take_whole literals i h) so

pub edges_fit : (literals : List Literal) (edges : List Edge) → Each (IsRowEdge literals) edges → Each IsEdge edges
edges_fit literals edges each = each_weaker (IsRowEdge literals) IsEdge (λ edge is. is.edge_is) edges each

-- ---- heights as numbers

-- The variables stand as high as their vertices above the vertex 0.
abbrev pub standing : (ℕ → ℤ) → Valuation → Valuation
standing height v = record { number = λ place. height (suc place) -ℤ height 0; flag = v.flag }

stands_at : (height : ℕ → ℤ) (v : Valuation) (vertex : ℕ) → number_at (standing height v) (variable_of vertex) ≡ height vertex -ℤ height 0
stands_at height v zero = none (height 0)
  where
    none : (z : ℤ) → pos 0 ≡ z -ℤ z
    none z = omega (arith, ints)
stands_at height v (suc place) = refl

edge_holds : (height : ℕ → ℤ) (v : Valuation) (edge : Edge) (form : Linear) → IsRowOf edge form → IsFitting height edge → value_of (standing height v) form ≤ℤ pos 0
edge_holds height v edge form row fits =
    at_most (sum_of u form.terms) form.constant (number_at u (variable_of edge.from)) (number_at u (variable_of edge.to)) (height edge.from) (height edge.to) (height 0) edge.weight
    (ap (sum_of u) row.terms ∙ difference_value u (variable_of edge.from) (variable_of edge.to)) (stands_at height v edge.from) (stands_at height v edge.to) row.constant fits
  where
    u : Valuation
    u = standing height v

    at_most : (s c p m f t z w : ℤ) → s ≡ p -ℤ m → p ≡ f -ℤ z → m ≡ t -ℤ z → c ≡ w → (f +ℤ w) ≤ℤ t → (s +ℤ c) ≤ℤ pos 0
    at_most s c p m f t z w e g h k l = omega (arith, ints)

constant_row : (v : Valuation) (row : Linear) → row.terms ≡ [] → is_absurd row ≡ false → value_of v row ≤ℤ pos 0
constant_row v row is sane = let low : int_lt (pos 0) row.constant ≡ false = (rw is at sane) in rw is (at_most row.constant low)
  where
    at_most : (c : ℤ) → int_lt (pos 0) c ≡ false → (pos 0 +ℤ c) ≤ℤ pos 0
    at_most c h = grind (arith, ints)

pub literals_hold : (height : ℕ → ℤ) (v : Valuation) (edges : List Edge) (literals : List Literal) → Each (IsFitting height) edges → HaveNoAbsurd literals → Each (IsCovered edges) literals → Each (LiteralHolds (standing height v)) literals
literals_hold height v edges [] fits sane covers = tt
literals_hold height v edges (Flag place truth ∷ literals) fits sane covers = (tt, literals_hold height v edges literals fits sane.1 covers.1)
literals_hold height v edges (Row form ∷ literals) fits sane covers = (by_cover covers.0, literals_hold height v edges literals fits sane.1 covers.1)
  where
    by_cover : IsCovered edges (Row form) → value_of (standing height v) form ≤ℤ pos 0
    by_cover (inl e) = constant_row (standing height v) form e sane.0
    by_cover (inr (edge, (among, row))) = edge_holds height v edge form row (among_each (IsFitting height) edge edges fits among)

pub heights_hold : (literals : List Literal) (edges : List Edge) → AreEdgesOf literals literals edges → HaveNoAbsurd literals → HaveHeights edges → IsRefuting literals None
heights_hold literals edges so sane high small v = (standing high.height v, literals_hold high.height v edges literals high.fitting sane so.covers, refl)
