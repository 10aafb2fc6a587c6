-- The rows of a guard, one after the other, and forms whose multiples keep in range.
use Rattle.std.specs.Prelude.{◌≡◌, ◌^◌, ℕ, ℤ, pos, Bool, true, false, List, [], ◌∷◌, map, All}
use Rattle.std.specs.Prelude.{neg_ℤ, if◌then◌else◌}
use Rattle.std.specs.List.{flat_map}
use Rattle.lang_base.specs.Limits.{MOST_TIMES}
use Rattle.lang_base.specs.Numbers.{is_within}
use Rattle.logic_linear.specs.declared.form.Term.{Term}
use Rattle.logic_linear.specs.declared.formula.Formula.{Formula}
use Rattle.logic_linear.specs.declared.formula.Formula.TheVariants as formulas
use Rattle.logic_linear.specs.Linear.{Linear}
use Rattle.logic_linear.specs.Places.{rows_of}
use Rattle.logic_linear.specs.Negation.{can_negate, negation}
use Rattle.lang_monitor.specs.Inputs.{reads_term}
use Rattle.lang_monitor.specs.declared.candidate.Candidate.{Candidate}
use Rattle.lang_monitor.specs.MonitorParts.{MonitorParts}
use Rattle.lang_monitor.specs.Queries.{block_guard, hypotheses, waiting_guard}
use Rattle.machine_events.specs.Counts.{row_measure, zero_form}
use Rattle.machine_events.specs.CountClaims.{OLD, minus, more_by, old_form}

-- ---- rows

-- the rows of parts, one after the other
abbrev pub rows_of_parts : List Formula → List Linear
rows_of_parts parts = flat_map (λ rows. rows) (map rows_of parts)

-- ---- forms

-- the number of a term is small
abbrev pub has_small_number : Term → Bool
has_small_number term = is_within MOST_TIMES term.times

-- the term is of a field, and its number is small
pub record IsFieldTerm (term : Term) : Type 0 where
  pub field : reads_term term ≡ false
  pub small : has_small_number term ≡ true

-- each term is of a field, and each number small
pub record IsCountable (form : Linear) : Type 0 where
  pub terms : All IsFieldTerm form.terms
  pub constant : is_within (2 ^ 64) form.constant ≡ true

-- the place of what a form was worth, so often
abbrev pub last_term : ℤ → Term
last_term times = record { place = OLD; times = times }

abbrev pub old_number : Bool → ℤ
old_number turned = if turned then neg_ℤ (pos 1) else pos 1

-- ---- parts of queries

-- that not any number may pass, and that the form is what it was
abbrev pub tied : Formula → Formula → Linear → List Formula
tied guard bounded form =
    guard ∷ bounded ∷ formulas.Row (minus form (old_form form))
    ∷ formulas.Row (more_by (pos 0) (minus (old_form form) form)) ∷ []

abbrev pub still_post : Formula → Formula → Linear → ℤ → Formula
still_post shut bounded form number =
    formulas.Any (shut
    ∷ formulas.All (bounded ∷ formulas.Row form
    ∷ formulas.Row (more_by number (minus (old_form form) form)) ∷ []) ∷ [])

abbrev pub fresh_post : Formula → Formula → Linear → Formula
fresh_post shut bounded form =
    formulas.Any (shut
    ∷ formulas.All (bounded ∷ formulas.Row (minus zero_form form) ∷ []) ∷ [])

-- what the queries on a condition and a block are made of
pub record IsMeasured (monitor : MonitorParts) (kept : List Candidate) (condition row block : ℕ)
    (hyps idle : List Formula) (guard shut : Formula) (form : Linear) (bounded : Formula)
    : Type 0 where
  pub hyps_is : hyps ≡ hypotheses kept (block_guard monitor block ∷ [])
  pub idle_is : idle ≡ hypotheses kept
      (block_guard monitor block ∷ negation (waiting_guard monitor condition) ∷ [])
  pub guard_is : guard ≡ waiting_guard monitor condition
  pub shut_is : shut ≡ negation (waiting_guard monitor condition)
  pub form_is : form ≡ (row_measure (waiting_guard monitor condition) row).form
  pub bounded_is : bounded ≡ negation (row_measure (waiting_guard monitor condition) row).free
  pub shuts : can_negate shut ≡ true
  pub bounds : can_negate bounded ≡ true
  pub countable : IsCountable form
