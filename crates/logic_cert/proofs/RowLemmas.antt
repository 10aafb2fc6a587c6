-- Rows that are made of rows.
use Rattle.std.proofs.Common.{◌≡◌, Option, Some, None, ℤ, ◌+ℤ◌, ◌*ℤ◌, Bool, true, false, cond, List, ap, refl, ◌∙◌}
use Rattle.std.specs.Prelude.{◌&&◌, FitsSigned, SomeIff}
use mir.Syntax.{w128}
use Rattle.logic_linear.specs.declared.form.Term.{Term}
use Rattle.logic_linear.specs.Linear.{Linear, IsRising}
use Rattle.logic_linear.specs.Sums.{fits_128, sum_of_multiples, terms_fit}
use Rattle.logic_linear.specs.Sums.{constants_fit, fitting_sum}
use Rattle.logic_linear.proofs.MergeLemmas.{signed_fits, fits_signed}
use Rattle.logic_cert.specs.declared.cert.Combine.{Combine}
use Rattle.logic_cert.specs.Refutes.{are_factors, made_of}

-- A checked sum or product, by the test of 128 bits.
pub checked : (result : Option ℤ) (x : ℤ) → SomeIff result (FitsSigned w128 x) x → SomeIff result (fits_128 x ≡ true) x
checked None x h = λ fits. h (signed_fits x fits)
checked (Some found) x h = (fits_signed x h.0, h.1)

three_hold : (a b c : Bool) → a ≡ true → b ≡ true → c ≡ true → (a && (b && c)) ≡ true
three_hold a b c e f g = rw (e, f, g) refl

three_parts : (a b c : Bool) → (a && (b && c)) ≡ true → (a ≡ true) × (b ≡ true) × (c ≡ true)
three_parts true true true h = (refl, refl, refl)
three_parts true true false h = absurd cc
three_parts true false c h = absurd cc
three_parts false b c h = absurd cc

-- ---- the constant of a sum

constant_parts : (a l b r : ℤ) → constants_fit a l b r ≡ true → (fits_128 (a *ℤ l) ≡ true) × (fits_128 (b *ℤ r) ≡ true) × (fits_128 (a *ℤ l +ℤ b *ℤ r) ≡ true)
constant_parts a l b r e = three_parts (fits_128 (a *ℤ l)) (fits_128 (b *ℤ r)) (fits_128 (a *ℤ l +ℤ b *ℤ r)) e

pub second_misfits : (a l b r : ℤ) (answer : Option ℤ) → answer ≡ None → (fits_128 (b *ℤ r) ≡ true → ⊥) → SomeIff answer (constants_fit a l b r ≡ true) (a *ℤ l +ℤ b *ℤ r)
second_misfits a l b r answer is h = rw is (λ e. h (constant_parts a l b r e).1)

pub sum_answers : (a l b r first second : ℤ) (answer : Option ℤ) → (fits_128 (a *ℤ l) ≡ true) × (first ≡ a *ℤ l) → (fits_128 (b *ℤ r) ≡ true) × (second ≡ b *ℤ r) → SomeIff answer (fits_128 (first +ℤ second) ≡ true) (first +ℤ second)
    → SomeIff answer (constants_fit a l b r ≡ true) (a *ℤ l +ℤ b *ℤ r)
sum_answers a l b r first second None f g h = λ e. let whole = (constant_parts a l b r e).2 in h (rw (f.1, g.1) whole)
sum_answers a l b r first second (Some sum) f g h =
    let whole : fits_128 (a *ℤ l +ℤ b *ℤ r) ≡ true = rw (f.1, g.1) at h.0 in
    (three_hold _ _ _ f.0 g.0 whole, rw (f.1, g.1) at h.1)

-- ---- a made row

not_true : (a : Bool) → (a ≡ true → ⊥) → a ≡ false
not_true true h = absurd (h refl)
not_true false h = refl

misfit : (a b c : Bool) (row : Linear) → (c ≡ false) → None ≡ cond (a && (b && c)) (Some row) None
misfit true true c row h = rw h refl
misfit true false c row h = refl
misfit false b c row h = refl

misfit_too : (a b c : Bool) (row : Linear) → (b ≡ false) → None ≡ cond (a && (b && c)) (Some row) None
misfit_too true b c row h = rw h refl
misfit_too false b c row h = refl

pub constants_misfit : (combine : Combine) (left right : Linear) (first second : ℤ) → first ≡ left.constant → second ≡ right.constant → (constants_fit combine.left_times first combine.right_times second ≡ true → ⊥) → None ≡ made_of combine (Some (Some left)) (Some (Some right))
constants_misfit combine left right first second e f h =
    misfit (are_factors combine) (terms_fit combine.left_times left.terms combine.right_times right.terms) _ _ (rw (e, f) at (not_true (constants_fit combine.left_times first combine.right_times second) h))

none_fits : (test : Bool) (terms : List Term) → None ≡ cond test (Some terms) None → test ≡ false
none_fits true terms h = absurd cc
none_fits false terms h = refl

pub terms_misfit : (combine : Combine) (left right : Linear) (lefts rights : List Term) → lefts ≡ left.terms → rights ≡ right.terms → None ≡ fitting_sum combine.left_times lefts combine.right_times rights → None ≡ made_of combine (Some (Some left)) (Some (Some right))
terms_misfit combine left right lefts rights e f h =
    misfit_too (are_factors combine) (terms_fit combine.left_times left.terms combine.right_times right.terms) _ _ (rw (e, f) at (none_fits (terms_fit combine.left_times lefts combine.right_times rights) _ h))

some_fits : (test : Bool) (terms found : List Term) → Some found ≡ cond test (Some terms) None → (test ≡ true) × (found ≡ terms)
some_fits true terms found h = (refl, cc)
some_fits false terms found h = absurd cc

made_linear : (a b : Linear) → a.terms ≡ b.terms → a.constant ≡ b.constant → a ≡ b
made_linear a b e f = λ i. record { terms = e i; constant = f i }

chosen : (a b c : Bool) (row made : Linear) → a ≡ true → b ≡ true → c ≡ true → made ≡ row → Some made ≡ cond (a && (b && c)) (Some row) None
chosen a b c row made e f g h = rw (e, f, g) (ap Some h)

pub row_fits : (combine : Combine) (left right made : Linear) (lefts rights terms : List Term) (first second constant : ℤ) → are_factors combine ≡ true
    → first ≡ left.constant → second ≡ right.constant → (constants_fit combine.left_times first combine.right_times second ≡ true) × (constant ≡ combine.left_times *ℤ first +ℤ combine.right_times *ℤ second)
    → lefts ≡ left.terms → rights ≡ right.terms → Some terms ≡ fitting_sum combine.left_times lefts combine.right_times rights → made.terms ≡ terms → made.constant ≡ constant → Some made ≡ made_of combine (Some (Some left)) (Some (Some right))
row_fits combine left right made lefts rights terms first second constant factors e f fit g h some made_terms made_constant =
    let both = some_fits (terms_fit combine.left_times lefts combine.right_times rights) _ terms some in
    let constants : constants_fit combine.left_times left.constant combine.right_times right.constant ≡ true = rw (e, f) at fit.0 in
    let each : terms_fit combine.left_times left.terms combine.right_times right.terms ≡ true = rw (g, h) at both.0 in
    chosen (are_factors combine) _ _ _ made factors each constants
    (made_linear made (sum_of_multiples combine.left_times left combine.right_times right) (made_terms ∙ both.1 ∙ rw (g, h) refl) (made_constant ∙ fit.1 ∙ rw (e, f) refl))

pub rises_too : (terms slice : List Term) → slice ≡ terms → IsRising terms → IsRising slice
rises_too terms slice e h = rw e h
