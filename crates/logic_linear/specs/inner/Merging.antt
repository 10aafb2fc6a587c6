-- For private contracts: a sum of multiples made in one pass, and what a turn of it appends.
use Rattle.std.specs.Prelude.{◌≡◌, ◌≤◌, ℕ, ℤ, ◌+ℤ◌, ◌*ℤ◌, Bool, true, false, ◌==◌, nat_lt}
use Rattle.std.specs.Prelude.{if◌then◌else◌, List, [], ◌∷◌, ◌++◌, length, drop, Option, Some, None}
use Rattle.std.specs.Prelude.{MatchOption}
use Rattle.std.specs.List.{list_all, flat_map}
use Rattle.logic_linear.specs.declared.form.Term.{Term}
use Rattle.logic_linear.specs.Sums.{term_of, term_fits}

-- The answer is the value, which passes the test, or none where it does not pass.
abbrev pub Passes : {X : Type 0} → (X → Bool) → X → Option X → Type 0
Passes test x answer =
    MatchOption answer (test x ≡ false) (λ passed. (passed ≡ x) × (test passed ≡ true))

-- So many times a term.
abbrev pub multiple : ℤ → Term → List Term
multiple factor term = term_of term.place (factor *ℤ term.times)

-- So many times each of the terms.
abbrev pub multiples : ℤ → List Term → List Term
multiples factor terms = flat_map (multiple factor) terms

-- A term before what is made of the terms after it, and so many times the others.
abbrev pub merge_step : ℤ → Term → (List Term → List Term) → List Term → List Term
merge_step factor term rest [] = term ∷ rest []
merge_step factor term rest (other ∷ others) =
    if nat_lt other.place term.place
    then multiple factor other ++ merge_step factor term rest others
    else if other.place == term.place
    then term_of term.place (term.times +ℤ factor *ℤ other.times) ++ rest others
    else (term ∷ rest (other ∷ others))

-- The terms and so many times the others, where the places of both rise.
abbrev pub merged : ℤ → List Term → List Term → List Term
merged factor [] others = multiples factor others
merged factor (term ∷ terms) others = merge_step factor term (merged factor terms) others

-- What a turn for a term appends, whatever is made of the rest, and how many others it takes.
pub record MergedTerm (factor : ℤ) (term : Term) (others before after : List Term) (taken : ℕ) :
    Type 0 where
  pub few : taken ≤ length others
  pub same : (rest : List Term → List Term)
      → before ++ merge_step factor term rest others ≡ after ++ rest (drop taken others)
  pub fits : list_all term_fits after ≡ true

-- A turn for a term, or a number of it that does not fit.
abbrev pub MergesTerm : ℤ → Term → List Term → List Term → List Term → Option ℕ → Type 0
MergesTerm factor term others before after None =
    (rest : List Term → List Term) → list_all term_fits (merge_step factor term rest others) ≡ false
MergesTerm factor term others before after (Some taken) =
    MergedTerm factor term others before after taken
