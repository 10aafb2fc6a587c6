-- The literals of a cube: their clashes, their rows and where they are true.
use Rattle.std.proofs.Common.{◌≡◌, ◌⊎◌, inl, inr, ℕ, zero, suc, ◌+◌, ◌<◌, ◌≤◌, ◌^◌, ℤ, pos, neg_ℤ, ◌+ℤ◌, ◌*ℤ◌, ◌≤ℤ◌, ◌<ℤ◌, Bool, true, false, not, cond, ◌&&◌, ◌||◌, List, [], ◌∷◌, ◌++◌, length, map, take, get_or, lit≤, Option, Some, None, sym, subst, arith, ap, refl, ◌∙◌}
use Rattle.std.specs.Prelude.{◌==◌, nat_lt, int_le, int_lt, slice_get}
use Rattle.std.specs.List.{list_any, position, position_or_len, AllByRecursion as Each}
use Rattle.std.proofs.lemmas.Int.{ints}
use Rattle.std.proofs.lemmas.List.{take_more}
use Rattle.std.proofs.lemmas.List.Quantifiers.{position-Some}
use Rattle.logic_linear.specs.declared.form.Term.{Term}
use Rattle.logic_linear.specs.Linear.{Linear}
use Rattle.logic_linear.specs.Truth.{Valuation, value_of}
use Rattle.logic_linear.specs.Sums.{sum_of_multiples, sum_fits, fits_128}
use Rattle.logic_cert.specs.declared.cert.Combine.{Combine}
use Rattle.logic_cert.specs.declared.cert.Cert.{Cert, out-Cert}
use Rattle.logic_cert.specs.declared.cert.Cert.TheVariants as certificates
use Rattle.logic_cert.specs.declared.cert.Cert.TheOpen as cert_layers
use Rattle.logic_cert.specs.declared.cert.Cert.TheOpen.{Cert-F}
use Rattle.logic_cert.specs.declared.cert.Cert.TheViews.{roll-Cert, out-roll-Cert}
use Rattle.logic_cert.specs.declared.cert.Literal.{Literal}
use Rattle.logic_cert.specs.declared.cert.Literal.TheVariants.{Row, Flag}
use Rattle.logic_cert.specs.Refutes.{chain_closes, closes, is_absurd}
use Rattle.logic_cert.specs.Refutes.{literal_truth, made_of, row_of}
use Rattle.logic_elim.specs.declared.rows.Numbered.{Numbered}
use Rattle.logic_elim.specs.Rows.{is_as_tight, with_row}
use Rattle.logic_elim.specs.Chains.{HasNumber, State, StandsAtNumbers}
use Rattle.logic_solve.specs.Cubes.{is_opposite, HasNoClash, rows_of_literals}
use Rattle.logic_elim.specs.LeanChains.{IsLean}
use Rattle.logic_solve.specs.LeanRefutations.{IsLeanEnd}
use Rattle.logic_solve.specs.inner.Literals.{Closes, noted, terms_in_literal, terms_in_literals, is_absurd_literal, AreTrue, ClosesIf, LiteralHolds, FitsLiteral, IsGatheredRow, IsGathered, IsKeptOf, IsOpen, IsStartOf, IsStart, IsRefuting, LeavesLight}
use Rattle.logic_elim.proofs.RowLemmas.{each_push, each_with}
use Rattle.logic_solve.proofs.KeptLemmas.{kept_none, kept_known, kept_put, row_next, flag_next}
use Rattle.logic_elim.proofs.PlaceLemmas.{noted-append}

pub take_next : {X : Type 0} (xs : List X) (i : ℕ) (x : X) → i < length xs → x ≡ get_or xs i x → take (i + 1) xs ≡ take i xs ++ x ∷ []
take_next xs i x h is = take_more xs i x h ∙ ap (λ y. take i xs ++ y ∷ []) (sym is)

pub take_whole : {X : Type 0} (xs : List X) (n : ℕ) → length xs ≤ n → take n xs ≡ xs
take_whole [] zero h = refl
take_whole [] (suc n) h = refl
take_whole (x ∷ xs) zero h = absurd (omega arith)
take_whole (x ∷ xs) (suc n) h = ap (λ ys. x ∷ ys) (take_whole xs n (omega arith))

pub each_next : {X : Type 0} (P : X → Type 0) (xs : List X) (i : ℕ) (x : X) → i < length xs → x ≡ get_or xs i x → Each P (take i xs) → P x → Each P (take (i + 1) xs)
each_next P xs i x h is all here = subst (Each P) (sym (take_next xs i x h is)) (each_push P (take i xs) x all here)

pub each_whole : {X : Type 0} (P : X → Type 0) (xs : List X) (i : ℕ) → length xs ≤ i → Each P (take i xs) → Each P xs
each_whole P xs i h all = subst (Each P) (take_whole xs i h) all

pub gets : {X : Type 0} (xs : List X) (i : ℕ) (x : X) → i < length xs → x ≡ get_or xs i x → slice_get xs i ≡ Some x
gets [] i x h is = absurd (omega arith)
gets (first ∷ xs) zero x h is = ap Some (sym is)
gets (first ∷ xs) (suc i) x h is = gets xs i x (omega arith) is

-- ---- clashes

opened : (cert : Cert) (layer : Cert-F Cert) → cert ≡ roll-Cert layer → out-Cert cert ≡ layer
opened cert layer is = ap out-Cert is ∙ out-roll-Cert layer

len_none : {X : Type 0} (p : X → Bool) (xs : List X) → length xs ≤ position_or_len p xs → list_any p xs ≡ false
len_none p [] h = refl
len_none p (x ∷ xs) h = by_test (p x) refl h (len_none p xs)
  where
    by_test : (found : Bool) → p x ≡ found → suc (length xs) ≤ cond (not found) (1 + position_or_len p xs) 0 → (length xs ≤ position_or_len p xs → list_any p xs ≡ false) → (found || list_any p xs) ≡ false
    by_test true e h later = absurd (omega arith)
    by_test false e h later = later (omega arith)

pub position_none : {X : Type 0} (p : X → Bool) (xs : List X) → position p xs ≡ None → list_any p xs ≡ false
position_none p xs h = by_test (nat_lt (position_or_len p xs) (length xs)) refl h
  where
    by_test : (found : Bool) → nat_lt (position_or_len p xs) (length xs) ≡ found → cond found (Some (position_or_len p xs)) None ≡ None → list_any p xs ≡ false
    by_test true e h = absurd cc
    by_test false e h = len_none p xs (grind arith)

unopposed_length : (form : Linear) (literals : List Literal) → position_or_len (is_opposite (Row form)) literals ≡ length literals
unopposed_length form [] = refl
unopposed_length form (literal ∷ literals) = let more = unopposed_length form literals in omega arith

-- No literal is opposite to a row.
pub row_unopposed : (form : Linear) (literals : List Literal) → None ≡ position (is_opposite (Row form)) literals
row_unopposed form literals = by_test (nat_lt (position_or_len (is_opposite (Row form)) literals) (length literals)) refl
  where
    by_test : (there : Bool) → nat_lt (position_or_len (is_opposite (Row form)) literals) (length literals) ≡ there → None ≡ cond there (Some (position_or_len (is_opposite (Row form)) literals)) None
    by_test true e = let all = unopposed_length form literals in absurd (grind arith)
    by_test false e = refl

pub clash_found : (literals : List Literal) (i other : ℕ) (literal : Literal) → i < length literals → literal ≡ get_or literals i literal → position (is_opposite literal) literals ≡ Some other
    → Closes literals (certificates.Clash i other)
clash_found literals i other literal h is found =
    let facts = position-Some (is_opposite literal) literals other literal found in
    let here = opened (certificates.Clash i other) (cert_layers.Clash i other) (sym (certificates.rolls-Clash i other)) in
    (ap (closes literals) here ∙ rw (gets literals i literal h is, gets literals other (get_or literals other literal) facts.0 (again literals other literal)) facts.1, subst (IsLeanEnd (length literals)) (sym here) tt)
  where
    again : (xs : List Literal) (i : ℕ) (d : Literal) → get_or xs i d ≡ get_or xs i (get_or xs i d)
    again [] i d = refl
    again (x ∷ xs) zero d = refl
    again (x ∷ xs) (suc i) d = again xs i d

-- ---- absurd rows

empty_form : (form : Linear) → is_absurd form ≡ true → (form ≡ record { terms = []; constant = form.constant }) × (int_lt (pos 0) form.constant ≡ true)
empty_form form e = by_terms form.terms refl
  where
    by_terms : (terms : List Term) → form.terms ≡ terms → (form ≡ record { terms = []; constant = form.constant }) × (int_lt (pos 0) form.constant ≡ true)
    by_terms [] is = ((λ i. record { terms = is i; constant = form.constant }), let high : int_lt (pos 0) form.constant ≡ true = (rw is at e) in high)
    by_terms (term ∷ terms) is = let no : false ≡ true = (rw is at e) in absurd cc

fits_bounds : (p q : ℕ) (c : ℤ) → p ≤ q → neg_ℤ (pos p) ≤ℤ c → c <ℤ pos p → (int_le (neg_ℤ (pos q)) c && int_lt c (pos q)) ≡ true
fits_bounds p q c h above below = grind (arith, ints)

three : (a b c : Bool) → a ≡ true → b ≡ true → c ≡ true → (true && (a && (b && c))) ≡ true
three a b c h g k = rw (h, g, k) refl

absurd_fits : (c : ℤ) → fits_128 c ≡ true → sum_fits (pos 1) (record { terms = []; constant = c }) (pos 0) (record { terms = []; constant = c }) ≡ true
absurd_fits c fits =
    let one : pos 1 *ℤ c ≡ c = omega (arith, ints) in
    let none : pos 0 *ℤ c ≡ pos 0 = omega (arith, ints) in
    let both : c +ℤ pos 0 ≡ c = omega (arith, ints) in
    let zero_fits : fits_128 (pos 0) ≡ true = refl in
    rw (one, none, both) (three (fits_128 c) (fits_128 (pos 0)) (fits_128 c) fits zero_fits fits)

absurd_made : (c : ℤ) (i : ℕ) → fits_128 c ≡ true
    → made_of (record { left = i; left_times = pos 1; right = i; right_times = pos 0 }) (Some (Some (record { terms = []; constant = c }))) (Some (Some (record { terms = []; constant = c })))
    ≡ Some (sum_of_multiples (pos 1) (record { terms = []; constant = c }) (pos 0) (record { terms = []; constant = c }))
absurd_made c i fits = rw (absurd_fits c fits) refl

sum_positive : (c : ℤ) → int_lt (pos 0) c ≡ true → int_lt (pos 0) (pos 1 *ℤ c +ℤ pos 0 *ℤ c) ≡ true
sum_positive c h = let same : pos 1 *ℤ c +ℤ pos 0 *ℤ c ≡ c = omega (arith, ints) in rw same h

absurd_chain : (rows : List (Option Linear)) (c : ℤ) (i : ℕ) → fits_128 c ≡ true → int_lt (pos 0) c ≡ true → slice_get rows i ≡ Some (Some (record { terms = []; constant = c }))
    → chain_closes (record { left = i; left_times = pos 1; right = i; right_times = pos 0 } ∷ []) rows ≡ true
absurd_chain rows c i fits high is = rw (is, absurd_made c i fits) (sum_positive c high)

pub gets_row : (literals : List Literal) (i : ℕ) (form : Linear) → slice_get literals i ≡ Some (Row form) → slice_get (map row_of literals) i ≡ Some (Some form)
gets_row [] i form is = absurd cc
gets_row (first ∷ literals) zero form is = let same : first ≡ Row form = cc in ap (λ (literal : Literal). Some (row_of literal)) same
gets_row (first ∷ literals) (suc i) form is = gets_row literals i form is

absurd_row : (literals : List Literal) (i : ℕ) (literal : Literal) → i < length literals → slice_get literals i ≡ Some literal → is_absurd_literal literal ≡ true → FitsLiteral literal
    → chain_closes (record { left = i; left_times = pos 1; right = i; right_times = pos 0 } ∷ []) (map row_of literals) ≡ true
absurd_row literals i (Row form) h is e linear =
    let empty = empty_form form e in
    absurd_chain (map row_of literals) form.constant i (fits_bounds (2 ^ 95) (2 ^ 127) form.constant (lit≤ tt) linear.above linear.below) empty.1
    (gets_row literals i form is ∙ ap (λ (row : Linear). Some (Some row)) empty.0)
absurd_row literals i (Flag place truth) h is e linear = absurd cc

pub absurd_found : (literals : List Literal) (i : ℕ) (literal : Literal) → i < length literals → literal ≡ get_or literals i literal → is_absurd_literal literal ≡ true → FitsLiteral literal
    → chain_closes (record { left = i; left_times = pos 1; right = i; right_times = pos 0 } ∷ []) (map row_of literals) ≡ true
absurd_found literals i literal h is e linear = absurd_row literals i literal h (gets literals i literal h is) e linear

-- ---- the rows to begin with

pub nothing_gathered : (literals : List Literal) → IsStartOf literals (take 0 literals) []
nothing_gathered [] = record { rows = kept_none; numbers = tt }
nothing_gathered (literal ∷ literals) = record { rows = kept_none; numbers = tt }

row_gathered : (literals : List Literal) (i : ℕ) (form : Linear) (before after : List Numbered) → i < length literals → slice_get literals i ≡ Some (Row form) → take (i + 1) literals ≡ take i literals ++ Row form ∷ []
    → IsStartOf literals (take i literals) before → IsGatheredRow form i before after → IsStartOf literals (take (i + 1) literals) after
row_gathered literals i form before after h is next start gathered = by_kept gathered.kept
  where
    new : Numbered
    new = record { number = i; row = form }

    by_kept : ((list_any (is_as_tight form) before ≡ true) × (after ≡ before)) ⊎ ((list_any (is_as_tight form) before ≡ false) × (after ≡ with_row before (record { number = i; row = form }))) → IsStartOf literals (take (i + 1) literals) after
    by_kept (inl (known, same)) = record {
      rows = subst (λ (rows : List Linear). IsKeptOf rows after) (sym (ap rows_of_literals next ∙ row_next (take i literals) form))
          (subst (IsKeptOf (rows_of_literals (take i literals) ++ form ∷ [])) (sym same) (kept_known (rows_of_literals (take i literals)) form before start.rows gathered.linear known));
      numbers = subst (Each (HasNumber (map row_of literals))) (sym same) start.numbers;
    }
    by_kept (inr (none, put)) = record {
      rows = subst (λ (rows : List Linear). IsKeptOf rows after) (sym (ap rows_of_literals next ∙ row_next (take i literals) form))
          (subst (IsKeptOf (rows_of_literals (take i literals) ++ form ∷ [])) (sym put) (kept_put (rows_of_literals (take i literals)) (record { number = i; row = form }) before start.rows gathered.linear none));
      numbers = subst (Each (HasNumber (map row_of literals))) (sym put) (each_with (HasNumber (map row_of literals)) before (record { number = i; row = form }) start.numbers (gets_row literals i form is));
    }

flag_gathered : (literals : List Literal) (i place : ℕ) (truth : Bool) (before after : List Numbered) → take (i + 1) literals ≡ take i literals ++ Flag place truth ∷ []
    → IsStartOf literals (take i literals) before → after ≡ before → IsStartOf literals (take (i + 1) literals) after
flag_gathered literals i place truth before after next start same = record {
  rows = subst (λ (rows : List Linear). IsKeptOf rows after) (sym (ap rows_of_literals next ∙ flag_next (take i literals) place truth)) (subst (IsKeptOf (rows_of_literals (take i literals))) (sym same) start.rows);
  numbers = subst (Each (HasNumber (map row_of literals))) (sym same) start.numbers;
}

pub one_more_gathered : (literals : List Literal) (i : ℕ) (literal : Literal) (before after : List Numbered) → i < length literals → literal ≡ get_or literals i literal → IsStartOf literals (take i literals) before → IsGathered i literal before after
    → IsStartOf literals (take (i + 1) literals) after
one_more_gathered literals i literal before after h is start gathered = by_literal literal (gets literals i literal h is) (take_next literals i literal h is) gathered
  where
    by_literal : (literal : Literal) → slice_get literals i ≡ Some literal → take (i + 1) literals ≡ take i literals ++ literal ∷ [] → IsGathered i literal before after → IsStartOf literals (take (i + 1) literals) after
    by_literal (Row form) is next gathered = row_gathered literals i form before after h is next start gathered
    by_literal (Flag place truth) is next gathered = flag_gathered literals i place truth before after next start gathered

pub all_gathered : (literals : List Literal) (i : ℕ) (kept : List Numbered) → length literals ≤ i → IsStartOf literals (take i literals) kept → IsStart literals kept
all_gathered literals i kept h start = subst (λ (some : List Literal). IsStartOf literals some kept) (take_whole literals i h) start

-- ---- places

terms-append : (literals : List Literal) (literal : Literal) → terms_in_literals (literals ++ literal ∷ []) ≡ terms_in_literals literals ++ terms_in_literal literal
terms-append [] literal = nil (terms_in_literal literal)
  where
    nil : (terms : List Term) → terms ++ [] ≡ terms
    nil [] = refl
    nil (term ∷ terms) = ap (λ more. term ∷ more) (nil terms)
terms-append (first ∷ literals) literal = ap (λ more. terms_in_literal first ++ more) (terms-append literals literal) ∙ sym (assoc (terms_in_literal first) (terms_in_literals literals) (terms_in_literal literal))
  where
    assoc : (a b c : List Term) → (a ++ b) ++ c ≡ a ++ (b ++ c)
    assoc [] b c = refl
    assoc (x ∷ a) b c = ap (λ more. x ∷ more) (assoc a b c)

pub places_next : (literals : List Literal) (i : ℕ) (literal : Literal) → i < length literals → literal ≡ get_or literals i literal → noted [] (terms_in_literals (take (i + 1) literals)) ≡ noted (noted [] (terms_in_literals (take i literals))) (terms_in_literal literal)
places_next literals i literal h is =
    ap (λ (some : List Literal). noted [] (terms_in_literals some)) (take_next literals i literal h is) ∙ ap (noted []) (terms-append (take i literals) literal) ∙ noted-append [] (terms_in_literals (take i literals)) (terms_in_literal literal)

-- ---- chains

pub row_count : (literals : List Literal) → length (map row_of literals) ≡ length literals
row_count [] = refl
row_count (literal ∷ literals) = let rest = row_count literals in omega arith

pub chain_found : (literals : List Literal) (kept : List Numbered) (combines : List Combine) (next : ℕ) (after : State) → combines ≡ [] → next ≡ length literals → IsStart literals kept
    → ClosesIf (record { kept = kept; combines = combines; next = next }) after true → chain_closes after.combines (map row_of literals) ≡ true
chain_found literals kept combines next after none count start found =
    let sound : StandsAtNumbers (map row_of literals) [] (record { kept = kept; combines = []; next = length literals }) = record { made = refl; count = row_count literals; others_stand = tt; kept_stand = start.numbers } in
    found (map row_of literals) (subst (λ (n : ℕ). StandsAtNumbers (map row_of literals) [] (record { kept = kept; combines = combines; next = n })) (sym count) (subst (λ (some : List Combine). StandsAtNumbers (map row_of literals) [] (record { kept = kept; combines = some; next = length literals })) (sym none) sound))

-- ---- where the literals are true

abbrev pub is_true_at : ℕ → Literal → Bool
is_true_at at (Row form) = false
is_true_at at (Flag place truth) = truth && (place == at)

-- each number 0, and each flag true that a literal says to be
abbrev pub flags_of : List Literal → Valuation
flags_of literals = record { number = λ at. pos 0; flag = λ at. list_any (is_true_at at) literals }

place_itself : (place : ℕ) → (place == place) ≡ true
place_itself place = grind arith

itself : (place : ℕ) (literals : List Literal) (i : ℕ) → slice_get literals i ≡ Some (Flag place true) → list_any (is_true_at place) literals ≡ true
itself place [] i is = absurd cc
itself place (first ∷ literals) zero is = let same : first ≡ Flag place true = cc in rw (same, place_itself place) refl
itself place (first ∷ literals) (suc i) is = last (is_true_at place first) _ (itself place literals i is)
  where
    last : (a b : Bool) → b ≡ true → (a || b) ≡ true
    last true b h = refl
    last false b h = h

either_false : (a b : Bool) → (a || b) ≡ false → (a ≡ false) × (b ≡ false)
either_false true b h = absurd cc
either_false false b h = (refl, h)

not_true : (place : ℕ) (literals : List Literal) → list_any (is_opposite (Flag place false)) literals ≡ false → list_any (is_true_at place) literals ≡ false
not_true place [] none = refl
not_true place (Row form ∷ literals) none = not_true place literals none
not_true place (Flag other false ∷ literals) none = not_true place literals (either_false _ _ none).1
not_true place (Flag other true ∷ literals) none = by_test (other == place) refl (either_false _ _ none) (not_true place literals)
  where
    by_test : (same : Bool) → (other == place) ≡ same → (((place == other) && true) ≡ false) × (list_any (is_opposite (Flag place false)) literals ≡ false) → (list_any (is_opposite (Flag place false)) literals ≡ false → list_any (is_true_at place) literals ≡ false) → (same || list_any (is_true_at place) literals) ≡ false
    by_test true e parts later = absurd (clash parts.0)
      where
        clash : ((place == other) && true) ≡ false → ⊥
        clash h = let here : (place == other) ≡ true = grind arith in let no : true ≡ false = rw here at h in absurd cc
    by_test false e parts later = later parts.1

flag_true : (u : Valuation) (literals : List Literal) (place : ℕ) (truth : Bool) (i : ℕ) → u.flag ≡ (flags_of literals).flag → slice_get literals i ≡ Some (Flag place truth) → list_any (is_opposite (Flag place truth)) literals ≡ false → literal_truth u (Flag place truth) ≡ true
flag_true u literals place true i same is none = ap (λ (flag : ℕ → Bool). flag place) same ∙ itself place literals i is
flag_true u literals place false i same is none = ap (λ (flag : ℕ → Bool). not (flag place)) same ∙ ap not (not_true place literals none)

row_true : (v : Valuation) (form : Linear) → value_of v form ≤ℤ pos 0 → int_le (value_of v form) (pos 0) ≡ true
row_true v form h = grind (arith, ints)

pub each_true : (u : Valuation) (literals some : List Literal) → u.flag ≡ (flags_of literals).flag → ((i : ℕ) (literal : Literal) → slice_get some i ≡ Some literal → (j : ℕ) × (slice_get literals j ≡ Some literal))
    → Each (λ (literal : Literal). list_any (is_opposite literal) literals ≡ false) some → Each (LiteralHolds u) some → AreTrue u some
each_true u literals [] same there none held = tt
each_true u literals (Row form ∷ some) same there none held = (row_true u form held.0, each_true u literals some same (λ i literal is. there (suc i) literal is) none.1 held.1)
each_true u literals (Flag place truth ∷ some) same there none held =
    let here = there zero (Flag place truth) refl in
    (flag_true u literals place truth here.0 same here.1 none.0, each_true u literals some same (λ i literal is. there (suc i) literal is) none.1 held.1)

pub left_open : (literals : List Literal) → HasNoClash literals → IsRefuting literals None → LeavesLight literals None → IsOpen literals
left_open literals none solves light = record {
  no_clash = none;
  differences = λ small. let solution = solves small (flags_of literals) in (solution.0, each_true solution.0 literals literals solution.2 (λ i literal is. (i, is)) none solution.1);
  light = light;
}

pub chain_certificate : (literals : List Literal) (first : ℕ) (combines kept answer : List Combine) → first ≡ length literals → answer ≡ kept
    → ((rows : List (Option Linear)) → length rows ≡ first → chain_closes combines rows ≡ true → chain_closes kept rows ≡ true) → IsLean first kept
    → chain_closes combines (map row_of literals) ≡ true → Closes literals (certificates.Chain answer)
chain_certificate literals first combines kept answer count same closes_still lean h =
    let here = opened (certificates.Chain kept) (cert_layers.Chain kept) (sym (certificates.rolls-Chain kept)) in
    subst (λ (some : List Combine). Closes literals (certificates.Chain some)) (sym same)
    (ap (closes literals) here ∙ closes_still (map row_of literals) (row_count literals ∙ sym count) h, subst (IsLeanEnd (length literals)) (sym here) (subst (λ (n : ℕ). IsLean n kept) count lean))
