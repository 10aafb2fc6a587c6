-- When a certificate refutes a formula.
use Rattle.std.specs.Prelude.{◌≡◌, ℕ, pos, int_le, int_lt, Bool, true, false, not, ◌&&◌, ◌==◌}
use Rattle.std.specs.Prelude.{if◌then◌else◌, List, [], ◌∷◌, ◌++◌, length, map, Option, Some, None}
use Rattle.std.specs.Prelude.{slice_get}
use Rattle.logic_linear.specs.declared.form.Term.{Term}
use Rattle.logic_linear.specs.declared.formula.Formula.{Formula}
use Rattle.logic_linear.specs.declared.formula.Formula.TheVariants as formulas
use Rattle.logic_linear.specs.Linear.{Linear}
use Rattle.logic_linear.specs.Negation.{can_negate_linear, one_less}
use Rattle.logic_linear.specs.Sums.{sum_of_multiples, sum_fits}
use Rattle.logic_linear.specs.Truth.{Valuation, value_of}
use Rattle.logic_cert.specs.declared.cert.Combine.{Combine}
use Rattle.logic_cert.specs.declared.cert.Literal.{Literal}
use Rattle.logic_cert.specs.declared.cert.Literal.TheVariants.{Row, Flag}
use Rattle.logic_cert.specs.declared.cert.Cert.{Cert, out-Cert}
use Rattle.logic_cert.specs.declared.cert.Cert.TheOpen.{Cert-F, Split, Clash, Chain, Cases}
use Rattle.logic_cert.specs.declared.cert.Cert.TheVariants as certificates

-- ---- literals

-- Whether a literal is true.
abbrev pub literal_truth : Valuation → Literal → Bool
literal_truth valuation (Row form) = int_le (value_of valuation form) (pos 0)
literal_truth valuation (Flag place is) =
    if is then valuation.flag place else not (valuation.flag place)

-- The row of a literal, where it is one.
abbrev pub row_of : Literal → Option Linear
row_of (Row form) = Some form
row_of (Flag place is) = None

-- ---- a clash

-- Both literals are there, and are the same flag with opposite truths.
abbrev pub are_opposite : Option Literal → Option Literal → Bool
are_opposite (Some (Flag place is)) (Some (Flag other other_is)) =
    (place == other) && (if is then not other_is else other_is)
are_opposite left right = false

-- ---- a chain

-- Both factors are at least 0.
abbrev pub are_factors : Combine → Bool
are_factors combine = int_le (pos 0) combine.left_times && int_le (pos 0) combine.right_times

-- The row that is made of two: both are there, both factors are at least 0, and every number fits.
abbrev pub made_of : Combine → Option (Option Linear) → Option (Option Linear) → Option Linear
made_of combine (Some (Some left)) (Some (Some right)) =
    if are_factors combine && sum_fits combine.left_times left combine.right_times right
    then Some (sum_of_multiples combine.left_times left combine.right_times right) else None
made_of combine left right = None

-- The row that is made of these two, where every number fits.
abbrev pub made_of_two : Combine → Linear → Linear → Option Linear
made_of_two combine left right = made_of combine (Some (Some left)) (Some (Some right))

-- The row that is made of the rows of these numbers, where it can be made.
abbrev pub made : Combine → List (Option Linear) → Option Linear
made combine rows = made_of combine (slice_get rows combine.left) (slice_get rows combine.right)

-- No variable, and a constant above 0: a row that is true nowhere.
abbrev pub is_absurd : Linear → Bool
is_absurd form = has_none form.terms && int_lt (pos 0) form.constant
  where
    has_none : List Term → Bool
    has_none [] = true
    has_none (term ∷ terms) = false

-- Nothing comes after.
abbrev pub is_nil : List Combine → Bool
is_nil [] = true
is_nil (combine ∷ combines) = false

-- The made row is there, and is absurd if it is the last, and else stands after the others.
abbrev pub chain_goes : (List (Option Linear) → Bool) → List (Option Linear) → Bool → Option Linear
    → Bool
chain_goes more rows is_last None = false
chain_goes more rows is_last (Some row) =
    if is_last then is_absurd row else more (rows ++ Some row ∷ [])

-- There is a made row, each can be made of those before, and the last one is absurd.
abbrev pub chain_closes : List Combine → List (Option Linear) → Bool
chain_closes [] rows = false
chain_closes (combine ∷ combines) rows =
    chain_goes (chain_closes combines) rows (is_nil combines) (made combine rows)

-- ---- cases

-- The row of the upper side of a form, 1 minus the form, where each number of the form is at least
-- 2 - FORM_BOUND, so that the row's are in range.
abbrev pub upper_row : Linear → Option Linear
upper_row form = if can_negate_linear form then Some (one_less form) else None

-- ---- refutations

-- A clash or a chain over the literals.
abbrev pub closes : List Literal → Cert-F Cert → Bool
closes literals (Split certs) = false
closes literals (Clash left right) =
    are_opposite (slice_get literals left) (slice_get literals right)
closes literals (Chain combines) = chain_closes combines (map row_of literals)
closes literals (Cases form below above) = false

-- With the literals gathered so far, the certificate refutes the formulas to do, the first first.
pub data RefutesFrom : List Formula → List Literal → Cert → Type 0 where
  -- a row is gathered
  row : (form : Linear) (todo : List Formula) (literals : List Literal) (cert : Cert)
      → RefutesFrom todo (literals ++ Row form ∷ []) cert
      → RefutesFrom (formulas.Row form ∷ todo) literals cert
  -- a flag is gathered
  flag : (place : ℕ) (is : Bool) (todo : List Formula) (literals : List Literal) (cert : Cert)
      → RefutesFrom todo (literals ++ Flag place is ∷ []) cert
      → RefutesFrom (formulas.Flag place is ∷ todo) literals cert
  -- an all gives its parts, in order
  every : (parts todo : List Formula) (literals : List Literal) (cert : Cert)
      → RefutesFrom (parts ++ todo) literals cert
      → RefutesFrom (formulas.All parts ∷ todo) literals cert
  -- an any is split: each part has a certificate, with the part put first
  split : (parts : List Formula) (certs : List Cert) (todo : List Formula) (literals : List Literal)
      → length certs ≡ length parts
      → ((i : ℕ) (part : Formula) (cert : Cert) → slice_get parts i ≡ Some part
      → slice_get certs i ≡ Some cert
      → RefutesFrom (part ∷ todo) literals cert)
      → RefutesFrom (formulas.Any parts ∷ todo) literals (certificates.Split certs)
  -- a clash or a chain ends the work where an any is next
  closed : (parts todo : List Formula) (literals : List Literal) (cert : Cert)
      → closes literals (out-Cert cert) ≡ true
      → RefutesFrom (formulas.Any parts ∷ todo) literals cert
  -- and where nothing is left to do
  ended : (literals : List Literal) (cert : Cert)
      → closes literals (out-Cert cert) ≡ true
      → RefutesFrom [] literals cert
  -- where an any is next, a form's value is at most 0 or at least 1: each side has a certificate,
  -- with its row put first; the form's numbers are such that those of the upper row are in range
  cases : (form : Linear) (below above : Cert) (parts todo : List Formula) (literals : List Literal)
      → can_negate_linear form ≡ true
      → RefutesFrom (formulas.Row form ∷ formulas.Any parts ∷ todo) literals below
      → RefutesFrom (formulas.Row (one_less form) ∷ formulas.Any parts ∷ todo) literals above
      → RefutesFrom (formulas.Any parts ∷ todo) literals (certificates.Cases form below above)
  -- so it is where nothing is left to do
  last_cases : (form : Linear) (below above : Cert) (literals : List Literal)
      → can_negate_linear form ≡ true
      → RefutesFrom (formulas.Row form ∷ []) literals below
      → RefutesFrom (formulas.Row (one_less form) ∷ []) literals above
      → RefutesFrom [] literals (certificates.Cases form below above)

-- The certificate refutes the formula.
abbrev pub Refutes : Formula → Cert → Type 0
Refutes formula cert = RefutesFrom (formula ∷ []) [] cert
