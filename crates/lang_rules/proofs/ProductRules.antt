-- The rule of a product: of its faults the first is listed, and no other.
use Rattle.std.proofs.Common.{◌≡◌, ℕ, Bool, true, false, ◌||◌, List, [], ◌∷◌, ◌++◌, map, refl, sym, ap, subst, ◌∙◌, inl, inr}
use Rattle.std.specs.Prelude.{◌⊎◌, if◌then◌else◌}
use Rattle.std.specs.List.{Contains}
use Rattle.std.proofs.lemmas.List.{map-append}
use Rattle.std.proofs.lemmas.List.Elements.{All-contains, Contains-append_left}
use Rattle.lang_tree.specs.declared.tree.Expr.{Expr}
use Rattle.lang_tree.specs.declared.tree.Expr.TheVariants as exprs
use Rattle.lang_tree.specs.declared.tree.Factor.{Factor}
use Rattle.lang_base.specs.declared.kind.Kind.TheVariants as kinds
use Rattle.lang_base.specs.declared.source_fault.SourceFault.{SourceFault}
use Rattle.lang_base.specs.declared.source_fault.Refusal.TheVariants as refusals
use Rattle.lang_forms.specs.declared.scope.Entry.{Entry}
use Rattle.lang_base.specs.SourceFaults.{fault_at, ◌or_else◌}
use Rattle.lang_forms.specs.Forms.{Form, is_constant, is_limited, product}
use Rattle.lang_forms.specs.Sense.{Sense, FactorSense, faults_in, first_in, form_in, is_other, kind_in, large_form, part_faults, sense}
use Rattle.lang_forms.specs.inner.Parts.{broken_from, broken_product, factor_sense, product_from}
use Rattle.lang_forms.proofs.SenseLayers.{sense-Product}
use Rattle.lang_forms.proofs.FineParts.{or_else_none}
use Rattle.lang_rules.specs.Judgements.{Fit, HasLargeProduct, IsFine, Reached, has_constant}
use Rattle.lang_base.proofs.Members.{contains_head, contains_tail, each_is, first_or_later, none_in, only_in}
use Rattle.lang_rules.proofs.OrElse.{in_these, or_else_cases}
use Rattle.lang_rules.proofs.PartRules.{fit_none}

-- ---- a form with too large a number

pub record LargeAt (at : ℕ) (form : Form) (fault : SourceFault) : Type 0 where
  pub is : fault ≡ fault_at refusals.TooLarge at
  pub large : is_limited form ≡ false

pub from_large_form : (at : ℕ) (form : Form) (fault : SourceFault) → Contains (large_form at form) fault → LargeAt at form fault
from_large_form at form fault within = by_test (is_limited form) refl within
  where
    by_test : (test : Bool) → is_limited form ≡ test → Contains (if test then [] else fault_at refusals.TooLarge at ∷ []) fault → LargeAt at form fault
    by_test true limited within = none_in fault within
    by_test false limited within = record { is = sym (only_in (fault_at refusals.TooLarge at) fault within); large = limited }

pub in_large_form : (at : ℕ) (form : Form) → is_limited form ≡ false → Contains (large_form at form) (fault_at refusals.TooLarge at)
in_large_form at form large = rw large (contains_head (fault_at refusals.TooLarge at) [])

-- ---- the first fault of a product

-- the product before a factor, or the factor, is constant
abbrev pub one_constant : List Entry → Form → List Factor → Factor → Bool
one_constant scope start before factor = is_constant (product_from scope start before) || is_constant (form_in scope factor.of)

-- what is broken at a factor
abbrev pub AtFactor : List Entry → ℕ → Form → List Factor → Factor → SourceFault → Type 0
AtFactor scope at start before factor fault =
    ((one_constant scope start before factor ≡ false) × (fault ≡ fault_at refusals.NotLinear factor.at))
    ⊎ ((one_constant scope start before factor ≡ true) × LargeAt at (product (product_from scope start before) (form_in scope factor.of)) fault)

pub record FirstBreak (scope : List Entry) (at : ℕ) (start : Form) (rest : List Factor) (fault : SourceFault) : Type 0 where
  pub before : List Factor
  pub factor : Factor
  pub after : List Factor
  pub split : rest ≡ before ++ factor ∷ after
  pub fine : broken_from scope at start before ≡ []
  pub broken : AtFactor scope at start before factor fault

-- one more factor in front, at which nothing is broken
later_break : (scope : List Entry) (at : ℕ) (start : Form) (factor : Factor) (rest : List Factor) (fault : SourceFault)
    → (is_constant start || is_constant (form_in scope factor.of)) ≡ true
    → large_form at (product start (form_in scope factor.of)) ≡ []
    → FirstBreak scope at (product start (form_in scope factor.of)) rest fault
    → FirstBreak scope at start (factor ∷ rest) fault
later_break scope at start factor rest fault one none found = record {
  before = factor ∷ found.before;
  factor = found.factor;
  after = found.after;
  split = ap (λ more. factor ∷ more) found.split;
  fine = rw (one, none) found.fine;
  broken = found.broken;
}

-- at one factor, where the rest breaks first what it breaks
at_factor : (scope : List Entry) (at : ℕ) (start : Form) (factor : Factor) (rest : List Factor) (fault : SourceFault) (test : Bool)
    → (is_constant start || is_constant (form_in scope factor.of)) ≡ test
    → (Contains (broken_from scope at (product start (form_in scope factor.of)) rest) fault → FirstBreak scope at (product start (form_in scope factor.of)) rest fault)
    → Contains (if test then large_form at (product start (form_in scope factor.of)) or_else broken_from scope at (product start (form_in scope factor.of)) rest else fault_at refusals.NotLinear factor.at ∷ []) fault
    → FirstBreak scope at start (factor ∷ rest) fault
at_factor scope at start factor rest fault true one more within =
    elim (or_else_cases (large_form at (product start (form_in scope factor.of))) (broken_from scope at (product start (form_in scope factor.of)) rest) fault within) [
      | inl large ↦ record { before = []; factor = factor; after = rest; split = refl; fine = refl; broken = inr (one, from_large_form at (product start (form_in scope factor.of)) fault large) }
      | inr later ↦ later_break scope at start factor rest fault one later.0 (more later.1)
    ]
at_factor scope at start factor rest fault false one more within =
    record { before = []; factor = factor; after = rest; split = refl; fine = refl; broken = inl (one, sym (only_in (fault_at refusals.NotLinear factor.at) fault within)) }

pub first_break : (scope : List Entry) (at : ℕ) (start : Form) (rest : List Factor) (fault : SourceFault) → Contains (broken_from scope at start rest) fault → FirstBreak scope at start rest fault
first_break scope at start [] fault within = none_in fault within
first_break scope at start (factor ∷ rest) fault within =
    at_factor scope at start factor rest fault (is_constant start || is_constant (form_in scope factor.of)) refl (λ later. first_break scope at (product start (form_in scope factor.of)) rest fault later) within

-- ---- a product whose first factors break nothing

-- a product of which one factor more breaks nothing
record Passed (scope : List Entry) (at : ℕ) (start : Form) (factor : Factor) (rest : List Factor) : Type 0 where
  one : (is_constant start || is_constant (form_in scope factor.of)) ≡ true
  small : large_form at (product start (form_in scope factor.of)) ≡ []
  more : broken_from scope at (product start (form_in scope factor.of)) rest ≡ []

passed : (scope : List Entry) (at : ℕ) (start : Form) (factor : Factor) (rest : List Factor) → broken_from scope at start (factor ∷ rest) ≡ [] → Passed scope at start factor rest
passed scope at start factor rest none = by_test (is_constant start || is_constant (form_in scope factor.of)) refl none
  where
    by_test : (test : Bool) → (is_constant start || is_constant (form_in scope factor.of)) ≡ test → (if test then large_form at (product start (form_in scope factor.of)) or_else broken_from scope at (product start (form_in scope factor.of)) rest else fault_at refusals.NotLinear factor.at ∷ []) ≡ [] → Passed scope at start factor rest
    by_test true one none = let both = or_else_none (large_form at (product start (form_in scope factor.of))) (broken_from scope at (product start (form_in scope factor.of)) rest) none in record { one = one; small = both.0; more = both.1 }
    by_test false one none = absurd cc

after_front : (scope : List Entry) (at : ℕ) (start : Form) (before more : List Factor) → broken_from scope at start before ≡ [] → broken_from scope at start (before ++ more) ≡ broken_from scope at (product_from scope start before) more
after_front scope at start [] more none = refl
after_front scope at start (factor ∷ before) more none =
    let here = passed scope at start factor before none in
    rw (here.one, here.small) (after_front scope at (product start (form_in scope factor.of)) before more here.more)

product_push : (scope : List Entry) (start : Form) (before : List Factor) (factor : Factor) → product_from scope start (before ++ factor ∷ []) ≡ product (product_from scope start before) (form_in scope factor.of)
product_push scope start [] factor = refl
product_push scope start (one ∷ before) factor = product_push scope (product start (form_in scope one.of)) before factor

-- ---- a product as an expression

pub factor_senses : (scope : List Entry) (rest : List Factor) → map (λ (factor : FactorSense). factor.of) (map (factor_sense scope) rest) ≡ map (sense scope) (map (λ factor. factor.of) rest)
factor_senses scope [] = refl
factor_senses scope (factor ∷ rest) = ap (λ more. sense scope factor.of ∷ more) (factor_senses scope rest)

product_faults_are : (scope : List Entry) (first : Expr) (rest : List Factor) → faults_in scope (exprs.Product first rest) ≡ (part_faults kinds.Int (map (sense scope) (first ∷ map (λ factor. factor.of) rest)) or_else broken_product scope first rest)
product_faults_are scope first rest =
    ap (λ (found : Sense). found.faults) (sense-Product scope first rest)
    ∙ ap (λ parts. part_faults kinds.Int (sense scope first ∷ parts) or_else broken_product scope first rest) (factor_senses scope rest)

product_form_is : (scope : List Entry) (first : Expr) (rest : List Factor) → form_in scope (exprs.Product first rest) ≡ product_from scope (form_in scope first) rest
product_form_is scope first rest = ap (λ (found : Sense). found.form) (sense-Product scope first rest)

fine_front : (scope : List Entry) (first : Expr) (before : List Factor) → Fit scope kinds.Int (first ∷ map (λ factor. factor.of) before) → broken_product scope first before ≡ [] → IsFine scope (exprs.Product first before)
fine_front scope first before fit none =
    product_faults_are scope first before ∙ ap (λ front. front or_else broken_product scope first before) (fit_none scope kinds.Int (first ∷ map (λ factor. factor.of) before) fit) ∙ none

unbroken_front : (scope : List Entry) (first : Expr) (before : List Factor) → IsFine scope (exprs.Product first before) → broken_product scope first before ≡ []
unbroken_front scope first before fine =
    (or_else_none (part_faults kinds.Int (map (sense scope) (first ∷ map (λ factor. factor.of) before))) (broken_product scope first before) (sym (product_faults_are scope first before) ∙ fine)).1

-- the factors of a front are among all
among_all : (first part : Expr) (before more : List Factor) → Contains (first ∷ map (λ factor. factor.of) before) part → Contains (first ∷ map (λ factor. factor.of) (before ++ more)) part
among_all first part before more within = elim (first_or_later first part (map (λ factor. factor.of) before) within) [
  | inl is ↦ subst (λ (e : Expr). Contains (first ∷ map (λ factor. factor.of) (before ++ more)) e) is (contains_head first (map (λ factor. factor.of) (before ++ more)))
  | inr later ↦ contains_tail first part (map (λ factor. factor.of) (before ++ more)) (subst (λ (list : List Expr). Contains list part) (sym (map-append (λ (factor : Factor). factor.of) before more)) (Contains-append_left (map (λ factor. factor.of) before) (map (λ factor. factor.of) more) part later))
]

front_fits : (scope : List Entry) (first : Expr) (rest before more : List Factor) → rest ≡ before ++ more → Fit scope kinds.Int (first ∷ map (λ factor. factor.of) rest) → Fit scope kinds.Int (first ∷ map (λ factor. factor.of) before)
front_fits scope first rest before more split fit =
    let all = first ∷ map (λ factor. factor.of) rest in
    let front = first ∷ map (λ factor. factor.of) before in
    let in_all : (part : Expr) → Contains front part → Contains all part = λ part one. subst (λ (list : List Factor). Contains (first ∷ map (λ factor. factor.of) list) part) (sym split) (among_all first part before more one) in
    record {
      fine = each_is (IsFine scope) front (λ part one. All-contains (IsFine scope) all part fit.fine (in_all part one));
      kinds = each_is (λ part. is_other kinds.Int (kind_in scope part) ≡ false) front (λ part one. All-contains (λ part. is_other kinds.Int (kind_in scope part) ≡ false) all part fit.kinds (in_all part one));
    }

-- ---- what a product breaks

-- the test of the code is that of the rule
constant_is : (scope : List Entry) (first : Expr) (before : List Factor) (factor : Factor) → (is_constant (form_in scope (exprs.Product first before)) || is_constant (form_in scope factor.of)) ≡ one_constant scope (form_in scope first) before factor
constant_is scope first before factor = ap (λ form. is_constant form || is_constant (form_in scope factor.of)) (product_form_is scope first before)

longer_is : (scope : List Entry) (first : Expr) (before : List Factor) (factor : Factor) → form_in scope (exprs.Product first (before ++ factor ∷ [])) ≡ product (product_from scope (form_in scope first) before) (form_in scope factor.of)
longer_is scope first before factor = product_form_is scope first (before ++ factor ∷ []) ∙ product_push scope (form_in scope first) before factor

-- the two rules that a product may break at a factor
abbrev pub BreaksProduct : List Entry → Expr → List Factor → SourceFault → Type 0
BreaksProduct scope first rest fault =
    ((reached : Reached scope first rest) × (has_constant reached ≡ false) × (fault ≡ fault_at refusals.NotLinear reached.factor.at))
    ⊎ (HasLargeProduct scope first rest × (fault ≡ fault_at refusals.TooLarge (first_in scope first)))

abbrev reached_at : (scope : List Entry) (first : Expr) (rest : List Factor) (fault : SourceFault) → Fit scope kinds.Int (first ∷ map (λ factor. factor.of) rest) → FirstBreak scope (first_in scope first) (form_in scope first) rest fault → Reached scope first rest
reached_at scope first rest fault fit found = record {
  before = found.before;
  factor = found.factor;
  after = found.after;
  split = found.split;
  fine = fine_front scope first found.before (front_fits scope first rest found.before (found.factor ∷ found.after) found.split fit) found.fine;
}

broken_at : (scope : List Entry) (first : Expr) (rest : List Factor) (fault : SourceFault) → Fit scope kinds.Int (first ∷ map (λ factor. factor.of) rest) → FirstBreak scope (first_in scope first) (form_in scope first) rest fault → BreaksProduct scope first rest fault
broken_at scope first rest fault fit found =
    elim found.broken [
      | inl broken ↦ inl (reached_at scope first rest fault fit found, constant_is scope first found.before found.factor ∙ broken.0, broken.1)
      | inr broken ↦ inr ((reached_at scope first rest fault fit found, constant_is scope first found.before found.factor ∙ broken.0, ap is_limited (longer_is scope first found.before found.factor) ∙ broken.1.large), broken.1.is)
    ]

pub from_product : (scope : List Entry) (first : Expr) (rest : List Factor) (fault : SourceFault) → Fit scope kinds.Int (first ∷ map (λ factor. factor.of) rest) → Contains (broken_product scope first rest) fault → BreaksProduct scope first rest fault
from_product scope first rest fault fit within = broken_at scope first rest fault fit (first_break scope (first_in scope first) (form_in scope first) rest fault within)

-- the faults from a factor on that a product reaches
reached_faults : (scope : List Entry) (first : Expr) (rest : List Factor) (reached : Reached scope first rest) → broken_product scope first rest ≡ broken_from scope (first_in scope first) (product_from scope (form_in scope first) reached.before) (reached.factor ∷ reached.after)
reached_faults scope first rest reached =
    ap (λ list. broken_product scope first list) reached.split
    ∙ after_front scope (first_in scope first) (form_in scope first) reached.before (reached.factor ∷ reached.after) (unbroken_front scope first reached.before reached.fine)

nonlinear_first : (scope : List Entry) (at : ℕ) (form : Form) (factor : Factor) (after : List Factor) → (is_constant form || is_constant (form_in scope factor.of)) ≡ false → Contains (broken_from scope at form (factor ∷ after)) (fault_at refusals.NotLinear factor.at)
nonlinear_first scope at form factor after neither = rw neither (contains_head (fault_at refusals.NotLinear factor.at) [])

large_first : (scope : List Entry) (at : ℕ) (form : Form) (factor : Factor) (after : List Factor) → (is_constant form || is_constant (form_in scope factor.of)) ≡ true → is_limited (product form (form_in scope factor.of)) ≡ false → Contains (broken_from scope at form (factor ∷ after)) (fault_at refusals.TooLarge at)
large_first scope at form factor after one large =
    rw one (in_these (large_form at (product form (form_in scope factor.of))) (broken_from scope at (product form (form_in scope factor.of)) after) (fault_at refusals.TooLarge at) (in_large_form at (product form (form_in scope factor.of)) large))

pub nonlinear_in : (scope : List Entry) (first : Expr) (rest : List Factor) (reached : Reached scope first rest) → has_constant reached ≡ false → Contains (broken_product scope first rest) (fault_at refusals.NotLinear reached.factor.at)
nonlinear_in scope first rest reached neither =
    subst (λ (list : List SourceFault). Contains list (fault_at refusals.NotLinear reached.factor.at)) (sym (reached_faults scope first rest reached))
    (nonlinear_first scope (first_in scope first) (product_from scope (form_in scope first) reached.before) reached.factor reached.after (sym (constant_is scope first reached.before reached.factor) ∙ neither))

pub large_product_in : (scope : List Entry) (first : Expr) (rest : List Factor) → HasLargeProduct scope first rest → Contains (broken_product scope first rest) (fault_at refusals.TooLarge (first_in scope first))
large_product_in scope first rest (reached, one, large) =
    subst (λ (list : List SourceFault). Contains list (fault_at refusals.TooLarge (first_in scope first))) (sym (reached_faults scope first rest reached))
    (large_first scope (first_in scope first) (product_from scope (form_in scope first) reached.before) reached.factor reached.after (sym (constant_is scope first reached.before reached.factor) ∙ one) (sym (ap is_limited (longer_is scope first reached.before reached.factor)) ∙ large))
