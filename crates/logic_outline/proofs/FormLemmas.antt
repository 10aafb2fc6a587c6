-- Forms that are read.
use Rattle.std.proofs.Common.{◌≡◌, Bor, Option, None, Some, Result, Ok, Err, IfOk, ℕ, zero, suc, ◌+◌, ◌-◌, ◌<◌, ◌≤◌, ◌^◌, Bool, true, false, nat_lt, ℤ, pos, negsuc, neg_ℤ, ◌≤ℤ◌, ◌<ℤ◌, List, [], ◌∷◌, ◌++◌, All, map, length, get_or, codes, sym, ap, refl, ◌∙◌, subst, append_assoc, arith, MatchOption, option_map}
use Rattle.std.proofs.lemmas.Int.{ints}
use Rattle.std.specs.Prelude.{slice_index}
use Rattle.std.proofs.lemmas.List.{append_cancel_left, length-map}
use Rattle.std.proofs.lemmas.List.Elements.{All-head, All-nil, All-cons, All-tail}
use Rattle.logic_linear.specs.declared.form.Term.{Term}
use Rattle.logic_linear.specs.Linear.{FORM_BOUND, IsLinear, IsRising, IsTerm, Linear, place_of}
use Rattle.logic_cert.specs.CertText.{term_text}
use Rattle.logic_outline.specs.Outlines.{HasTypedPlace, IsFactor, IsForm}
use Rattle.logic_outline.specs.Readings.{EndsNumber, IsRead}
use Rattle.logic_outline.specs.inner.Parts.{all_terms_text, AreTerms, IsBelow, IsPair, IsSum, IsTerms, IsTypedTerm, later_factor, later_form, later_number, pair_text, sides_text, sum_text, terms_text}
use Rattle.logic_outline.proofs.Readings.{Joins, Turns, ends_items, first_fails, joined, second_fails, turn_none, turn_refused, turned}

-- ---- terms

abbrev term_turns : Turns pair_text IsPair term_text IsTypedTerm
term_turns = record {
  to = λ pair. record { place = pair.0; times = pair.1 };
  from = λ term. (term.place, term.times);
  is = λ term h. refl;
  fits = λ term h. h;
  same = λ term h. refl;
}

pub term_none : (bytes : List ℕ) → IsRead pair_text IsPair bytes None → IsRead term_text IsTypedTerm bytes None
term_none bytes r = record { found = tt; again = λ term left fits ends is. r.again (term.place, term.times) left fits ends is }

pub term_some : (bytes : List ℕ) (pair : (ℕ × ℤ) × Bor (List ℕ)) → IsRead pair_text IsPair bytes (Some pair)
    → IsRead term_text IsTypedTerm bytes (Some (record { place = pair.0.0; times = pair.0.1 }, pair.1))
term_some bytes pair r = turned pair_text IsPair term_text IsTypedTerm term_turns bytes pair (record { place = pair.0.0; times = pair.0.1 }) r refl r.found.0 refl

pub term_starts : (term : Term) (rest : List ℕ) → EndsNumber (term_text term ++ rest)
term_starts term rest = refl

abbrev pub terms_joins : Joins later_number (IsBelow (2 ^ 64)) all_terms_text AreTerms terms_text IsTerms
terms_joins = record {
  join = λ a b. b;
  head = λ c. length c;
  tail = λ c. c;
  is = λ c. refl;
  spelled = λ a b h. ap (λ (n : ℕ). later_number n ++ all_terms_text b) h.0;
  ends = λ b rest h. ends_items term_text IsTypedTerm term_starts b rest h;
  parts = λ c p. (p.0, (refl, p.1));
  good = λ a b p q. (subst (λ (n : ℕ). n < 2 ^ 64) (sym q.0) p, q.1);
}

pub terms_rest : {E : Type 0} (bytes : List ℕ) (count : ℕ × Bor (List ℕ)) (read : Result (Option (List Term × Bor (List ℕ))) E) → IsRead later_number (IsBelow (2 ^ 64)) bytes (Some count)
    → IfOk read (IsRead all_terms_text (AreTerms count.0) count.1.now) → IfOk read (IsRead terms_text IsTerms bytes)
terms_rest bytes count (Err e) r s = tt
terms_rest bytes count (Ok None) r s = second_fails later_number (IsBelow (2 ^ 64)) all_terms_text AreTerms terms_text IsTerms terms_joins bytes count r s
terms_rest bytes count (Ok (Some terms)) r s = joined later_number (IsBelow (2 ^ 64)) all_terms_text AreTerms terms_text IsTerms terms_joins bytes count terms r s

pub terms_none : (bytes : List ℕ) → IsRead later_number (IsBelow (2 ^ 64)) bytes None → IsRead terms_text IsTerms bytes None
terms_none bytes r = first_fails later_number (IsBelow (2 ^ 64)) all_terms_text AreTerms terms_text IsTerms terms_joins bytes r

abbrev sum_joins : Joins terms_text IsTerms later_factor (λ terms. IsFactor) sum_text IsSum
sum_joins = record { join = λ a b. (a, b); head = λ c. c.0; tail = λ c. c.1; is = λ c. refl; spelled = λ a b h. refl; ends = λ b rest h. refl; parts = λ c p. p; good = λ a b p q. (p, q) }

pub sum_read : (bytes : List ℕ) (terms : List Term × Bor (List ℕ)) (read : Option (ℤ × Bor (List ℕ))) → IsRead terms_text IsTerms bytes (Some terms) → IsRead later_factor IsFactor terms.1.now read
    → IsRead sum_text IsSum bytes (option_map (λ one. ((terms.0, one.0), one.1)) read)
sum_read bytes terms None r s = second_fails terms_text IsTerms later_factor (λ some. IsFactor) sum_text IsSum sum_joins bytes terms r s
sum_read bytes terms (Some one) r s = joined terms_text IsTerms later_factor (λ some. IsFactor) sum_text IsSum sum_joins bytes terms one r s

pub sum_none : (bytes : List ℕ) → IsRead terms_text IsTerms bytes None → IsRead sum_text IsSum bytes None
sum_none bytes r = first_fails terms_text IsTerms later_factor (λ some. IsFactor) sum_text IsSum sum_joins bytes r

-- ---- forms

is_factor : (z : ℤ) → neg_ℤ (pos FORM_BOUND) ≤ℤ z → z <ℤ pos FORM_BOUND → IsFactor z
is_factor (pos n) above below = omega (arith, ints, below)
is_factor (negsuc n) above below = omega (arith, ints, above)

typed_terms : (terms : List Term) → All IsTerm terms → All HasTypedPlace terms → All IsTypedTerm terms
typed_terms [] each places = All-nil IsTypedTerm
typed_terms (term ∷ terms) each places =
    let here = All-head IsTerm term terms each in
    All-cons IsTypedTerm term terms (All-head HasTypedPlace term terms places, is_factor term.times here.above here.below)
    (typed_terms terms (All-tail IsTerm term terms each) (All-tail HasTypedPlace term terms places))

their_places : (terms : List Term) → All IsTypedTerm terms → All HasTypedPlace terms
their_places [] typed = All-nil HasTypedPlace
their_places (term ∷ terms) typed =
    All-cons HasTypedPlace term terms (All-head IsTypedTerm term terms typed).0 (their_places terms (All-tail IsTypedTerm term terms typed))

abbrev form_turns : Turns sum_text IsSum later_form IsForm
form_turns = record {
  to = λ sum. record { terms = sum.0; constant = sum.1 };
  from = λ form. (form.terms, form.constant);
  is = λ form h. refl;
  fits = λ form h. ((h.count, typed_terms form.terms h.rule.each h.places), is_factor form.constant h.rule.above h.rule.below);
  same = λ form h. refl;
}

pub form_none : (bytes : List ℕ) → IsRead sum_text IsSum bytes None → IsRead later_form IsForm bytes None
form_none bytes r = turn_none sum_text IsSum later_form IsForm form_turns bytes r

pub form_read : (bytes : List ℕ) (sum : (List Term × ℤ) × Bor (List ℕ)) (made : Option Linear) → IsRead sum_text IsSum bytes (Some sum)
    → MatchOption made (IsLinear (record { terms = sum.0.0; constant = sum.0.1 }) → ⊥) (λ form. (form ≡ record { terms = sum.0.0; constant = sum.0.1 }) × IsLinear form)
    → IsRead later_form IsForm bytes (option_map (λ form. (form, sum.1)) made)
form_read bytes sum None r never = turn_refused sum_text IsSum later_form IsForm form_turns bytes sum r (λ form fits same.
    never (subst IsLinear (ap (λ (one : List Term × ℤ). record { terms = one.0; constant = one.1 }) (sym same)) fits.rule))
form_read bytes sum (Some form) r h =
    turned sum_text IsSum later_form IsForm form_turns bytes sum form r h.0
    (record {
      rule = h.1;
      places = subst (λ (one : Linear). All HasTypedPlace one.terms) (sym h.0) (their_places sum.0.0 r.found.0.0.1);
      count = subst (λ (one : Linear). length one.terms < 2 ^ 64) (sym h.0) r.found.0.0.0;
    })
    (ap later_form h.0)

-- ---- the word of the first side

below_found : (form : Linear) (rest left bytes : List ℕ) → later_form form ++ rest ≡ bytes → codes " below" ++ left ≡ rest → sides_text form ++ left ≡ bytes
below_found form rest left bytes is at = append_assoc (later_form form) (codes " below") left ∙ ap (λ (t : List ℕ). later_form form ++ t) at ∙ is

pub sides_none : (bytes : List ℕ) → IsRead later_form IsForm bytes None → IsRead sides_text IsForm bytes None
sides_none bytes r = record {
  found = tt;
  again = λ form left fits ends is. r.again form (codes " below" ++ left) fits refl (sym (append_assoc (later_form form) (codes " below") left) ∙ is);
}

pub sides_read : (bytes : List ℕ) (form : Linear × Bor (List ℕ)) (rest : Option (Bor (List ℕ))) → IsRead later_form IsForm bytes (Some form)
    → MatchOption rest ((left : List ℕ) → codes " below" ++ left ≡ form.1.now → ⊥) (λ left. codes " below" ++ left.now ≡ form.1.now)
    → IsRead sides_text IsForm bytes (option_map (λ left. (form.0, left)) rest)
sides_read bytes form None r never = record {
  found = tt;
  again = λ one left fits ends is.
      let at = r.again one (codes " below" ++ left) fits refl (sym (append_assoc (later_form one) (codes " below") left) ∙ is) in
      never left (sym at.1);
}
sides_read bytes form (Some rest) r at = record {
  found = (r.found.0, below_found form.0 form.1.now rest.now bytes r.found.1 at);
  again = λ one left fits ends is.
      let same = r.again one (codes " below" ++ left) fits refl (sym (append_assoc (later_form one) (codes " below") left) ∙ is) in
      (same.0, append_cancel_left (codes " below") rest.now left (at ∙ same.1));
}

-- ---- places that do not rise

place_there : (terms : List Term) (k : ℕ) (d : Term) → k < length terms → slice_index (map place_of terms) k ≡ place_of (get_or terms k d)
place_there [] k d low = absurd (omega (arith, low))
place_there (term ∷ terms) zero d low = refl
place_there (term ∷ terms) (suc k) d low = place_there terms k d (omega (arith, low))

pub not_rising : (terms : List Term) (i : ℕ) (d : Term) → 0 < i → i < length terms → (get_or terms i d).place ≤ (get_or terms (i - 1) d).place → IsRising terms → ⊥
not_rising terms i d some low falls rising =
    let back : i - 1 + 1 ≡ i = omega (arith, some) in
    let here = rising (i - 1) (omega (arith, some, low, length-map terms place_of)) in
    let first = place_there terms (i - 1) d (omega (arith, low)) in
    let second = ap (slice_index (map place_of terms)) back ∙ place_there terms i d low in
    absurd (omega (arith, here, first, second, falls))

-- the places of the first terms rise
abbrev pub RisesTo : List Term → ℕ → Type 0
RisesTo terms i = (k : ℕ) → k + 1 < i → slice_index (map place_of terms) k < slice_index (map place_of terms) (k + 1)

pub none_rise : (terms : List Term) → RisesTo terms 1
none_rise terms k low = absurd (omega (arith, low))

pub rises_more : (terms : List Term) (i : ℕ) (d : Term) → 0 < i → i < length terms → (get_or terms (i - 1) d).place < (get_or terms i d).place → RisesTo terms i → RisesTo terms (i + 1)
rises_more terms i d some low here rises k near = by (nat_lt (k + 1) i) refl
  where
    at : (n : ℕ) → n ≡ i - 1 → slice_index (map place_of terms) n < slice_index (map place_of terms) (n + 1)
    at n is =
        let next : n + 1 ≡ i = omega (arith, is, some) in
        let first = ap (slice_index (map place_of terms)) is ∙ place_there terms (i - 1) d (omega (arith, low)) in
        let second = ap (slice_index (map place_of terms)) next ∙ place_there terms i d low in
        omega (arith, first, second, here)

    by : (far : Bool) → nat_lt (k + 1) i ≡ far → slice_index (map place_of terms) k < slice_index (map place_of terms) (k + 1)
    by true is = rises k (grind (arith, is))
    by false is = at k (grind (arith, is, near, some))

pub all_rise : (terms : List Term) (i : ℕ) → length terms ≤ i → RisesTo terms i → IsRising terms
all_rise terms i end rises k low = rises k (omega (arith, low, end, length-map terms place_of))
