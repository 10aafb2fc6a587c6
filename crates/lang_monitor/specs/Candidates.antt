-- The candidates of a monitor: the facts about its fields that are tried as parts of an invariant.
use Rattle.std.specs.Prelude.{◌≡◌, ◌⊎◌, ℕ, ◌+◌, ◌==◌, ℤ, pos, neg_ℤ, ◌+ℤ◌, ◌-ℤ◌, Bool, true, false}
use Rattle.std.specs.Prelude.{not, nat_lt, List, [], ◌∷◌, ◌++◌, map, take, All, if◌then◌else◌}
use Rattle.std.specs.List.{flat_map, filter}
use Rattle.std.specs.Ordering.{int_eq}
use Rattle.std.specs.Cmp.Lexicographic.{pointwise}
use Rattle.logic_linear.specs.declared.form.Term.{Term}
use Rattle.logic_linear.specs.Linear.{Linear, same_term}
use Rattle.logic_linear.specs.declared.formula.Formula.{Formula}
use Rattle.logic_linear.specs.declared.formula.Formula.TheVariants as formulas
use Rattle.logic_linear.specs.Places.{rows_of}
use Rattle.logic_linear.specs.Truth.{truth_of}
use Rattle.lang_base.specs.declared.kind.Kind.{Kind}
use Rattle.lang_base.specs.declared.kind.Kind.TheVariants as kinds
use Rattle.lang_monitor.specs.declared.candidate.Candidate.{Candidate}
use Rattle.lang_monitor.specs.declared.candidate.Candidate.TheVariants as candidates
use Rattle.lang_base.specs.declared.value.Value.{Value}
use Rattle.lang_monitor.specs.declared.monitor.Field.{Field}
use Rattle.lang_monitor.specs.declared.monitor.Block.{Block}
use Rattle.lang_monitor.specs.MonitorParts.{MonitorParts}
use Rattle.lang_monitor.specs.declared.start.Origin.{Origin}
use Rattle.lang_monitor.specs.declared.start.Origin.TheVariants as origins
use Rattle.lang_monitor.specs.Starts.{limit_number}
use Rattle.lang_monitor.specs.Bodies.{number_of_value, valuation, no_inputs}

-- ---- what a candidate says

-- the field, counted 1 time, and -1 times
abbrev pub once : ℕ → Term
once field = record { place = field; times = pos 1 }

abbrev pub opposite : ℕ → Term
opposite field = record { place = field; times = neg_ℤ (pos 1) }

-- the terms of `left - right`, by rising place
abbrev pub difference_terms : ℕ → ℕ → List Term
difference_terms left right =
    if nat_lt left right then once left ∷ opposite right ∷ [] else (opposite right ∷ once left ∷ [])

abbrev pub candidate_formula : Candidate → Formula
candidate_formula (candidates.AtMost field bound) =
    formulas.Row (record { terms = once field ∷ []; constant = neg_ℤ bound })
candidate_formula (candidates.AtLeast field bound) =
    formulas.Row (record { terms = opposite field ∷ []; constant = bound })
candidate_formula (candidates.Flag field is) = formulas.Flag field is
candidate_formula (candidates.Below left right) =
    formulas.Row (record { terms = difference_terms left right; constant = pos 0 })

-- whether a candidate is true in a state
abbrev pub candidate_truth : List Value → Candidate → Bool
candidate_truth state candidate = truth_of (valuation state no_inputs) (candidate_formula candidate)

-- each is true in the state
abbrev pub AllHold : List Value → List Candidate → Type 0
AllHold state kept = All (λ candidate. candidate_truth state candidate ≡ true) kept

-- ---- the numbers with which an int field is compared

-- the `d` of a row that says `field <= d` or `field >= d`, and nothing else
abbrev pub bound_of : ℕ → Linear → List ℤ
bound_of field form =
    if pointwise same_term form.terms (once field ∷ []) then neg_ℤ form.constant ∷ []
    else if pointwise same_term form.terms (opposite field ∷ []) then form.constant ∷ []
    else []

-- a bound, and the numbers beside it
abbrev pub around : ℤ → List ℤ
around bound = (bound -ℤ pos 1) ∷ bound ∷ (bound +ℤ pos 1) ∷ []

abbrev pub guard_bounds : ℕ → Block → List ℤ
guard_bounds field block = flat_map around (flat_map (bound_of field) (rows_of block.guard))

-- each number where it stands first
abbrev pub distinct : List ℤ → List ℤ
distinct [] = []
distinct (number ∷ numbers) =
    number ∷ filter (λ other. not (int_eq other number)) (distinct numbers)

-- a field is compared with at most so many numbers
abbrev pub MOST_BOUNDS : ℕ
MOST_BOUNDS = 12

-- what is known of the number at the start: a field's own, or the bound of a parameter's limit
abbrev pub own_numbers : Value → Origin → List ℤ
own_numbers start origins.Own = number_of_value start ∷ []
own_numbers start (origins.Chosen limit) = limit_number limit ∷ []
own_numbers start (origins.Copied parameter) = []

-- 0, the own numbers, and those around the bounds in guards, blocks in order
abbrev pub pool : List Block → ℕ → List ℤ → List ℤ
pool blocks field own =
    take MOST_BOUNDS (distinct (pos 0 ∷ (own ++ flat_map (guard_bounds field) blocks)))

-- ---- the candidates

-- the field is at most the number, and at least it
abbrev pub bounded : ℕ → ℤ → List Candidate
bounded field bound = candidates.AtMost field bound ∷ candidates.AtLeast field bound ∷ []

abbrev pub kind_candidates : List Block → ℕ → List ℤ → Kind → List Candidate
kind_candidates blocks field own kinds.Int = flat_map (bounded field) (pool blocks field own)
kind_candidates blocks field own kinds.Bool =
    candidates.Flag field true ∷ candidates.Flag field false ∷ []

-- of each field by itself, the first of them with this number
abbrev pub field_candidates : List Block → ℕ → List Field → List Candidate
field_candidates blocks number [] = []
field_candidates blocks number (field ∷ fields) =
    kind_candidates blocks number (own_numbers field.start field.origin) field.kind
    ++ field_candidates blocks (number + 1) fields

abbrev pub int_number : ℕ → Kind → List ℕ
int_number number kinds.Int = number ∷ []
int_number number kinds.Bool = []

-- the numbers of the int fields, the first field with this number
abbrev pub int_fields : ℕ → List Field → List ℕ
int_fields number [] = []
int_fields number (field ∷ fields) = int_number number field.kind ++ int_fields (number + 1) fields

-- `left <= right` for each ordered pair of different fields
abbrev pub pair_candidates : List ℕ → List Candidate
pair_candidates fields =
    flat_map (λ left. map (candidates.Below left) (filter (λ right. not (right == left)) fields))
    fields

-- the candidates of a monitor: those of each field by itself, then those of pairs of int fields
abbrev pub candidates_of : MonitorParts → List Candidate
candidates_of monitor =
    field_candidates monitor.blocks 0 monitor.fields
    ++ pair_candidates (int_fields 0 monitor.fields)

-- some of the candidates, in their order, each at most as often
abbrev pub AreSomeOf : List Candidate → List Candidate → Type 0
AreSomeOf [] all = Unit {0}
AreSomeOf (one ∷ kept) [] = ⊥
AreSomeOf (one ∷ kept) (first ∷ all) =
    ((one ≡ first) × AreSomeOf kept all) ⊎ AreSomeOf (one ∷ kept) all
