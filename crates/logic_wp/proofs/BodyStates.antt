-- The state after a body is what the body makes of a valuation.
use Rattle.std.proofs.Common.{◌≡◌, ℕ, zero, suc, ◌+◌, ◌-◌, ◌<◌, ◌≤◌, ◌^◌, ℤ, pos, ◌+ℤ◌, ◌*ℤ◌, Bool, true, false, not, cond, ◌&&◌, List, [], ◌∷◌, map, length, Option, Some, None, sym, subst, arith, ap, refl, ◌∙◌}
use Rattle.std.specs.Prelude.{int_le, nat_lt, ◌==◌, slice_get, slice_set, unwrap_or}
use Rattle.std.specs.List.{list_all, list_any}
use Rattle.std.proofs.lemmas.Bool.{and_parts, true≢false}
use Rattle.logic_linear.specs.declared.form.Term.{Term}
use Rattle.logic_linear.specs.declared.formula.Formula.{Formula}
use Rattle.logic_linear.specs.declared.formula.Formula.TheOpen.{Formula-F, Row, Flag, All as Every, Any as Some_of}
use Rattle.logic_linear.specs.declared.formula.Formula.TheViews.{roll-Formula}
use Rattle.logic_linear.specs.declared.formula.Formula.TheFolds.{ind-Formula, map-Formula, fold-roll-Formula}
use Rattle.logic_linear.specs.declared.substitution.Put.{Put}
use Rattle.logic_linear.specs.declared.substitution.Put.TheVariants.{Number, Truth}
use Rattle.logic_linear.specs.Linear.{Linear}
use Rattle.logic_linear.specs.Truth.{Valuation, layer_truth, truth_of, value_of, sum_of}
use Rattle.lang_base.specs.Numbers.{is_within}
use Rattle.lang_base.specs.declared.kind.Kind.{Kind}
use Rattle.lang_base.specs.declared.kind.Kind.TheVariants as kinds
use Rattle.lang_monitor.specs.MonitorParts.{Places, IsOfKind, AreOfKinds, kind_at, target_at, is_kind, fits_term, fits_form, fits_formula_step, fits_formula, fits_put, fits_statement}
use Rattle.lang_monitor.specs.Bodies.{number_of_value, truth_of_value, fits_64, reading, Memory, held_at, with_value, memory_of, inputs_from, assigning, on_memory, body_effect, after, values_from, number_or, truth_or, with_memory}
use Rattle.lang_monitor.specs.Changes.{body_change, changing, on_valuations}
use Rattle.lang_monitor.specs.Statements.{run_body}
use Rattle.lang_base.specs.declared.value.Value.{Value}
use Rattle.lang_base.specs.declared.value.Value.TheVariants as values
use Rattle.lang_monitor.specs.declared.monitor.Stmt.{Stmt}
use Rattle.lang_monitor.proofs.Statements.{Agree, RunAlike, simulated}

-- ---- reading

-- a number that is held is read
field_number : (fields : List Kind) (state : List Value) (i : ℕ) (kept : ℤ)
    → AreOfKinds fields state → is_kind kinds.Int (slice_get fields i) ≡ true
    → number_of_value (unwrap_or (slice_get state i) (values.Int (pos 0)))
    ≡ number_or kept (slice_get state i)
field_number [] state i kept h e = absurd cc
field_number (kinds.Int ∷ fields) [] i kept h e = absurd h
field_number (kinds.Bool ∷ fields) [] i kept h e = absurd h
field_number (kinds.Int ∷ fields) (values.Int number ∷ state) zero kept h e = refl
field_number (kinds.Int ∷ fields) (values.Bool truth ∷ state) zero kept h e = absurd h.0
field_number (kinds.Bool ∷ fields) (value ∷ state) zero kept h e = absurd cc
field_number (kinds.Int ∷ fields) (value ∷ state) (suc i) kept h e = field_number fields state i kept h.1 e
field_number (kinds.Bool ∷ fields) (value ∷ state) (suc i) kept h e = field_number fields state i kept h.1 e

field_truth : (fields : List Kind) (state : List Value) (i : ℕ) (kept : Bool)
    → AreOfKinds fields state → is_kind kinds.Bool (slice_get fields i) ≡ true
    → truth_of_value (unwrap_or (slice_get state i) (values.Int (pos 0)))
    ≡ truth_or kept (slice_get state i)
field_truth [] state i kept h e = absurd cc
field_truth (kinds.Int ∷ fields) [] i kept h e = absurd h
field_truth (kinds.Bool ∷ fields) [] i kept h e = absurd h
field_truth (kinds.Bool ∷ fields) (values.Bool truth ∷ state) zero kept h e = refl
field_truth (kinds.Bool ∷ fields) (values.Int number ∷ state) zero kept h e = absurd h.0
field_truth (kinds.Int ∷ fields) (value ∷ state) zero kept h e = absurd cc
field_truth (kinds.Int ∷ fields) (value ∷ state) (suc i) kept h e = field_truth fields state i kept h.1 e
field_truth (kinds.Bool ∷ fields) (value ∷ state) (suc i) kept h e = field_truth fields state i kept h.1 e

step_place : (base i : ℕ) → (base + 1) + i ≡ base + suc i
step_place base i = omega arith

input_number : (v : Valuation) (base : ℕ) (inputs : List Kind) (i : ℕ)
    → is_kind kinds.Int (slice_get inputs i) ≡ true
    → number_of_value (unwrap_or (slice_get (values_from v base inputs) i) (values.Int (pos 0)))
    ≡ v.number (base + i)
input_number v base [] i e = absurd cc
input_number v base (kinds.Int ∷ inputs) zero e = ap v.number (omega arith)
input_number v base (kinds.Bool ∷ inputs) zero e = absurd cc
input_number v base (kinds.Int ∷ inputs) (suc i) e = input_number v (base + 1) inputs i e ∙ ap v.number (step_place base i)
input_number v base (kinds.Bool ∷ inputs) (suc i) e = input_number v (base + 1) inputs i e ∙ ap v.number (step_place base i)

input_truth : (v : Valuation) (base : ℕ) (inputs : List Kind) (i : ℕ)
    → is_kind kinds.Bool (slice_get inputs i) ≡ true
    → truth_of_value (unwrap_or (slice_get (values_from v base inputs) i) (values.Int (pos 0)))
    ≡ v.flag (base + i)
input_truth v base [] i e = absurd cc
input_truth v base (kinds.Bool ∷ inputs) zero e = ap v.flag (omega arith)
input_truth v base (kinds.Int ∷ inputs) zero e = absurd cc
input_truth v base (kinds.Int ∷ inputs) (suc i) e = input_truth v (base + 1) inputs i e ∙ ap v.flag (step_place base i)
input_truth v base (kinds.Bool ∷ inputs) (suc i) e = input_truth v (base + 1) inputs i e ∙ ap v.flag (step_place base i)

-- the values are of the kinds of these fields and locals
pub record HasKinds (places : Places) (memory : Memory) : Type 0 where
  pub state : AreOfKinds places.fields memory.state
  pub locals : AreOfKinds places.locals memory.locals

abbrev pub arguments_of : Places → Valuation → List Value
arguments_of places v = values_from v 16 places.inputs

number_read : (places : Places) (v : Valuation) (memory : Memory) (place : ℕ)
    → HasKinds places memory → is_kind kinds.Int (kind_at places place) ≡ true
    → (reading (arguments_of places v) memory).number place ≡ (with_memory v memory).number place
number_read places v memory place h e = by_test (nat_lt place 16) (nat_lt place 22) refl e
  where
    by_test : (low middle : Bool) → nat_lt place 16 ≡ low
        → is_kind kinds.Int (cond low (slice_get places.fields place)
        (cond middle (slice_get places.inputs (place - 16)) (slice_get places.locals (place - 22))))
        ≡ true
        → number_of_value (unwrap_or (cond low (slice_get memory.state place)
        (cond middle (slice_get (arguments_of places v) (place - 16))
        (slice_get memory.locals (place - 22)))) (values.Int (pos 0)))
        ≡ number_or (v.number place) (cond low (slice_get memory.state place)
        (cond middle (slice_get [] (place - 16)) (slice_get memory.locals (place - 22))))
    by_test true middle is e = field_number places.fields memory.state place (v.number place) h.state e
    by_test false true is e = let above : 16 ≤ place = grind arith in input_number v 16 places.inputs (place - 16) e ∙ ap v.number (omega arith)
    by_test false false is e = field_number places.locals memory.locals (place - 22) (v.number place) h.locals e

truth_read : (places : Places) (v : Valuation) (memory : Memory) (place : ℕ)
    → HasKinds places memory → is_kind kinds.Bool (kind_at places place) ≡ true
    → (reading (arguments_of places v) memory).flag place ≡ (with_memory v memory).flag place
truth_read places v memory place h e = by_test (nat_lt place 16) (nat_lt place 22) refl e
  where
    by_test : (low middle : Bool) → nat_lt place 16 ≡ low
        → is_kind kinds.Bool (cond low (slice_get places.fields place)
        (cond middle (slice_get places.inputs (place - 16)) (slice_get places.locals (place - 22))))
        ≡ true
        → truth_of_value (unwrap_or (cond low (slice_get memory.state place)
        (cond middle (slice_get (arguments_of places v) (place - 16))
        (slice_get memory.locals (place - 22)))) (values.Int (pos 0)))
        ≡ truth_or (v.flag place) (cond low (slice_get memory.state place)
        (cond middle (slice_get [] (place - 16)) (slice_get memory.locals (place - 22))))
    by_test true middle is e = field_truth places.fields memory.state place (v.flag place) h.state e
    by_test false true is e = let above : 16 ≤ place = grind arith in input_truth v 16 places.inputs (place - 16) e ∙ ap v.flag (omega arith)
    by_test false false is e = field_truth places.locals memory.locals (place - 22) (v.flag place) h.locals e

-- ---- forms and formulas

sum_read : (places : Places) (v : Valuation) (memory : Memory) (terms : List Term)
    → HasKinds places memory → list_all (fits_term places) terms ≡ true
    → sum_of (reading (arguments_of places v) memory) terms ≡ sum_of (with_memory v memory) terms
sum_read places v memory [] h e = refl
sum_read places v memory (term ∷ terms) h e =
    let both = and_parts (fits_term places term) (list_all (fits_term places) terms) e in
    let kind = (and_parts (is_kind kinds.Int (kind_at places term.place)) (is_within (2 ^ 31) term.times) both.0).0 in
    same_sum term.times _ _ _ _ (number_read places v memory term.place h kind) (sum_read places v memory terms h both.1)
  where
    same_sum : (t a b c d : ℤ) → a ≡ b → c ≡ d → t *ℤ a +ℤ c ≡ t *ℤ b +ℤ d
    same_sum t a b c d e f = rw (e, f) refl

form_read : (places : Places) (v : Valuation) (memory : Memory) (form : Linear)
    → HasKinds places memory → fits_form places form ≡ true
    → value_of (reading (arguments_of places v) memory) form ≡ value_of (with_memory v memory) form
form_read places v memory form h e = ap (λ n. n +ℤ form.constant) (sum_read places v memory form.terms h (and_parts (list_all (fits_term places) form.terms) (is_within (2 ^ 64) form.constant) e).0)

abbrev pub Reads : Places → Valuation → Memory → Formula → Type 0
Reads places v memory formula = fits_formula places formula ≡ true → truth_of (reading (arguments_of places v) memory) formula ≡ truth_of (with_memory v memory) formula

same_and : (a b c d : Bool) → a ≡ b → c ≡ d → (a && c) ≡ (b && d)
same_and a b c d e f = rw (e, f) refl

all_read : (places : Places) (v : Valuation) (memory : Memory)
    (parts : List ((formula : Formula) × Reads places v memory formula))
    → list_all (λ part. part) (map (fits_formula places) (map (λ part. part.0) parts)) ≡ true
    → list_all (λ part. part) (map (truth_of (reading (arguments_of places v) memory))
    (map (λ part. part.0) parts)) ≡ list_all (λ part. part)
    (map (truth_of (with_memory v memory)) (map (λ part. part.0) parts))
all_read places v memory [] e = refl
all_read places v memory (part ∷ parts) e =
    let both = and_parts (fits_formula places part.0) (list_all (λ part. part) (map (fits_formula places) (map (λ part. part.0) parts))) e in
    let first = part.1 both.0 in
    let rest = all_read places v memory parts both.1 in
    rw (first, rest) refl

any_read : (places : Places) (v : Valuation) (memory : Memory)
    (parts : List ((formula : Formula) × Reads places v memory formula))
    → list_all (λ part. part) (map (fits_formula places) (map (λ part. part.0) parts)) ≡ true
    → list_any (λ part. part) (map (truth_of (reading (arguments_of places v) memory))
    (map (λ part. part.0) parts)) ≡ list_any (λ part. part)
    (map (truth_of (with_memory v memory)) (map (λ part. part.0) parts))
any_read places v memory [] e = refl
any_read places v memory (part ∷ parts) e =
    let both = and_parts (fits_formula places part.0) (list_all (λ part. part) (map (fits_formula places) (map (λ part. part.0) parts))) e in
    let first = part.1 both.0 in
    let rest = any_read places v memory parts both.1 in
    rw (first, rest) refl

abbrev LayerReads : Places → Valuation → Memory → Formula-F Formula → Type 0
LayerReads places v memory layer = fits_formula_step places (map-Formula _ Bool (fits_formula places) layer) ≡ true
    → layer_truth (reading (arguments_of places v) memory) (map-Formula _ Bool (truth_of (reading (arguments_of places v) memory)) layer) ≡ layer_truth (with_memory v memory) (map-Formula _ Bool (truth_of (with_memory v memory)) layer)

layer_reads : (places : Places) (v : Valuation) (memory : Memory) → HasKinds places memory
    → (layer : Formula-F ((formula : Formula) × Reads places v memory formula))
    → LayerReads places v memory (map-Formula _ Formula (λ part. part.0) layer)
layer_reads places v memory h (Row form) e = ap (λ n. int_le n (pos 0)) (form_read places v memory form h e)
layer_reads places v memory h (Flag place is) e = ap (λ held. cond is held (not held)) (truth_read places v memory place h e)
layer_reads places v memory h (Every parts) e = all_read places v memory parts e
layer_reads places v memory h (Some_of parts) e = any_read places v memory parts e

formula_reads : (places : Places) (v : Valuation) (memory : Memory) (layer : Formula-F Formula)
    → LayerReads places v memory layer → Reads places v memory (roll-Formula layer)
formula_reads places v memory layer reads e =
    fold-roll-Formula Bool (layer_truth (reading (arguments_of places v) memory)) layer ∙ reads (sym (fold-roll-Formula Bool (fits_formula_step places) layer) ∙ e) ∙ sym (fold-roll-Formula Bool (layer_truth (with_memory v memory)) layer)

pub formula_read : (places : Places) (v : Valuation) (memory : Memory) → HasKinds places memory
    → (formula : Formula) → Reads places v memory formula
formula_read places v memory h = ind-Formula (Reads places v memory) (λ layer parts is. formula_reads places v memory layer (subst (LayerReads places v memory) is (layer_reads places v memory h parts)))

-- ---- writing

same_valuation : (a b : Valuation) → ((at : ℕ) → a.number at ≡ b.number at)
    → ((at : ℕ) → a.flag at ≡ b.flag at) → a ≡ b
same_valuation a b h g = λ i. record { number = λ at. h at i; flag = λ at. g at i }

set_keeps : (fields : List Kind) (state : List Value) (i : ℕ) (value : Value) (kind : Kind)
    → AreOfKinds fields state → slice_get fields i ≡ Some kind → IsOfKind kind value
    → AreOfKinds fields (slice_set state i value)
set_keeps [] [] i value kind h e k = h
set_keeps [] (first ∷ state) i value kind h e k = absurd h
set_keeps (first ∷ fields) [] i value kind h e k = absurd (no_kinds first fields h)
  where
    no_kinds : (first : Kind) (fields : List Kind) → AreOfKinds (first ∷ fields) [] → ⊥
    no_kinds kinds.Int fields h = h
    no_kinds kinds.Bool fields h = h
set_keeps (first ∷ fields) (held ∷ state) zero value kind h e k = let same : first ≡ kind = cc in (subst (λ kind. IsOfKind kind value) (sym same) k, h.1)
set_keeps (first ∷ fields) (held ∷ state) (suc i) value kind h e k = (h.0, set_keeps fields state i value kind h.1 e k)

get_set : (some : List Value) (i : ℕ) (value : Value) → i < length some
    → slice_get (slice_set some i value) i ≡ Some value
get_set [] i value within = absurd (omega arith)
get_set (held ∷ some) zero value within = refl
get_set (held ∷ some) (suc i) value within = get_set some i value (omega arith)

get_other : (state : List Value) (i at : ℕ) (value : Value) → (at == i) ≡ false → slice_get (slice_set state i value) at ≡ slice_get state at
get_other [] i at value e = refl
get_other (held ∷ state) zero zero value e = absurd (grind arith)
get_other (held ∷ state) zero (suc at) value e = refl
get_other (held ∷ state) (suc i) zero value e = refl
get_other (held ∷ state) (suc i) (suc at) value e = get_other state i at value (grind arith)

int_there : (fields : List Kind) (i : ℕ) → is_kind kinds.Int (slice_get fields i) ≡ true
    → slice_get fields i ≡ Some kinds.Int
int_there fields i e = by_kind (slice_get fields i) e
  where
    by_kind : (kind : Option Kind) → is_kind kinds.Int kind ≡ true → kind ≡ Some kinds.Int
    by_kind None e = absurd cc
    by_kind (Some kinds.Int) e = refl
    by_kind (Some kinds.Bool) e = absurd cc

bool_there : (fields : List Kind) (i : ℕ) → is_kind kinds.Bool (slice_get fields i) ≡ true
    → slice_get fields i ≡ Some kinds.Bool
bool_there fields i e = by_kind (slice_get fields i) e
  where
    by_kind : (kind : Option Kind) → is_kind kinds.Bool kind ≡ true → kind ≡ Some kinds.Bool
    by_kind None e = absurd cc
    by_kind (Some kinds.Bool) e = refl
    by_kind (Some kinds.Int) e = absurd cc

there_below : (fields : List Kind) (state : List Value) (i : ℕ) (kind : Kind)
    → AreOfKinds fields state → is_kind kind (slice_get fields i) ≡ true → i < length state
there_below [] state i kinds.Int h e = absurd cc
there_below [] state i kinds.Bool h e = absurd cc
there_below (kinds.Int ∷ fields) [] i kind h e = absurd h
there_below (kinds.Bool ∷ fields) [] i kind h e = absurd h
there_below (first ∷ fields) (held ∷ state) zero kind h e = omega arith
there_below (first ∷ fields) (held ∷ state) (suc i) kind h e = let rest = there_below fields state i kind h.1 e in omega arith

-- what was there of another kind
int_kept : (fields : List Kind) (state : List Value) (i : ℕ) (kept : Bool) → AreOfKinds fields state
    → slice_get fields i ≡ Some kinds.Int → kept ≡ truth_or kept (slice_get state i)
int_kept [] state i kept h e = absurd cc
int_kept (kinds.Int ∷ fields) [] i kept h e = refl
int_kept (kinds.Bool ∷ fields) [] i kept h e = refl
int_kept (kinds.Int ∷ fields) (values.Int number ∷ state) zero kept h e = refl
int_kept (kinds.Int ∷ fields) (values.Bool truth ∷ state) zero kept h e = absurd h.0
int_kept (kinds.Bool ∷ fields) (value ∷ state) zero kept h e = absurd cc
int_kept (kinds.Int ∷ fields) (value ∷ state) (suc i) kept h e = int_kept fields state i kept h.1 e
int_kept (kinds.Bool ∷ fields) (value ∷ state) (suc i) kept h e = int_kept fields state i kept h.1 e

bool_kept : (fields : List Kind) (state : List Value) (i : ℕ) (kept : ℤ) → AreOfKinds fields state
    → slice_get fields i ≡ Some kinds.Bool → kept ≡ number_or kept (slice_get state i)
bool_kept [] state i kept h e = absurd cc
bool_kept (kinds.Int ∷ fields) [] i kept h e = refl
bool_kept (kinds.Bool ∷ fields) [] i kept h e = refl
bool_kept (kinds.Bool ∷ fields) (values.Bool truth ∷ state) zero kept h e = refl
bool_kept (kinds.Bool ∷ fields) (values.Int number ∷ state) zero kept h e = absurd h.0
bool_kept (kinds.Int ∷ fields) (value ∷ state) zero kept h e = absurd cc
bool_kept (kinds.Int ∷ fields) (value ∷ state) (suc i) kept h e = bool_kept fields state i kept h.1 e
bool_kept (kinds.Bool ∷ fields) (value ∷ state) (suc i) kept h e = bool_kept fields state i kept h.1 e

abbrev written_by : Memory → ℕ → Value → Bool → Memory
written_by memory i value low = cond low (record { state = slice_set memory.state i value; locals = memory.locals }) (record { state = memory.state; locals = slice_set memory.locals (i - 22) value })

-- what stands at a place after a write
held_written : (places : Places) (memory : Memory) (i at : ℕ) (value : Value) (kind : Kind)
    → HasKinds places memory → is_kind kind (target_at places i) ≡ true
    → held_at (with_value memory i value) at ≡ cond (at == i) (Some value) (held_at memory at)
held_written places memory i at value kind h e = by (nat_lt i 16) (nat_lt i 22) (nat_lt at 16) (nat_lt at 22) (at == i) refl refl refl refl refl kind e
  where
    by : (low middle low_at middle_at same : Bool) → nat_lt i 16 ≡ low → nat_lt i 22 ≡ middle → nat_lt at 16 ≡ low_at → nat_lt at 22 ≡ middle_at → (at == i) ≡ same → (kind : Kind)
        → is_kind kind (cond low (slice_get places.fields i) (cond middle (slice_get [] (i - 16)) (slice_get places.locals (i - 22)))) ≡ true
        → cond low_at (slice_get (written_by memory i value low).state at)
        (cond middle_at (slice_get [] (at - 16)) (slice_get (written_by memory i value low).locals (at - 22)))
        ≡ cond same (Some value) (cond low_at (slice_get memory.state at) (cond middle_at (slice_get [] (at - 16)) (slice_get memory.locals (at - 22))))
    by true middle true middle_at true a b c d f kind e =
        let here : at ≡ i = grind arith in ap (slice_get (slice_set memory.state i value)) here ∙ get_set memory.state i value (there_below places.fields memory.state i kind h.state e)
    by true middle true middle_at false a b c d f kind e = get_other memory.state i at value f
    by true middle false middle_at true a b c d f kind e = absurd (let here : at ≡ i = grind arith in true≢false (sym a ∙ ap (λ n. nat_lt n 16) (sym here) ∙ c))
    by true middle false middle_at false a b c d f kind e = refl
    by false true low_at middle_at same a b c d f kinds.Int e = absurd cc
    by false true low_at middle_at same a b c d f kinds.Bool e = absurd cc
    by false false true middle_at true a b c d f kind e = absurd (let here : at ≡ i = grind arith in true≢false (sym c ∙ ap (λ n. nat_lt n 16) here ∙ a))
    by false false true middle_at false a b c d f kind e = refl
    by false false false true true a b c d f kind e = absurd (let here : at ≡ i = grind arith in true≢false (sym d ∙ ap (λ n. nat_lt n 22) here ∙ b))
    by false false false true false a b c d f kind e = refl
    by false false false false true a b c d f kind e =
        let here : at ≡ i = grind arith in ap (λ n. slice_get (slice_set memory.locals (i - 22) value) (n - 22)) here ∙ get_set memory.locals (i - 22) value (there_below places.locals memory.locals (i - 22) kind h.locals e)
    by false false false false false a b c d f kind e =
        let above : 22 ≤ i = grind arith in let also : 22 ≤ at = grind arith in let apart : ((at - 22) == (i - 22)) ≡ false = grind arith in get_other memory.locals (i - 22) (at - 22) value apart

-- the values keep their kinds after a write
kinds_written : (places : Places) (memory : Memory) (i : ℕ) (value : Value) (kind : Kind)
    → HasKinds places memory → is_kind kind (target_at places i) ≡ true → IsOfKind kind value
    → HasKinds places (with_value memory i value)
kinds_written places memory i value kind h e k = by (nat_lt i 16) (nat_lt i 22) kind e k
  where
    there : (some : List Kind) (i : ℕ) (kind : Kind) → is_kind kind (slice_get some i) ≡ true
        → slice_get some i ≡ Some kind
    there some i kinds.Int e = int_there some i e
    there some i kinds.Bool e = bool_there some i e

    by : (low middle : Bool) (kind : Kind)
        → is_kind kind (cond low (slice_get places.fields i)
        (cond middle (slice_get [] (i - 16)) (slice_get places.locals (i - 22)))) ≡ true
        → IsOfKind kind value
        → HasKinds places (cond low (record
        { state = slice_set memory.state i value; locals = memory.locals })
        (record { state = memory.state; locals = slice_set memory.locals (i - 22) value }))
    by true middle kind e k = record { state = set_keeps places.fields memory.state i value kind h.state (there places.fields i kind e) k; locals = h.locals }
    by false true kinds.Int e k = absurd cc
    by false true kinds.Bool e k = absurd cc
    by false false kind e k = record { state = h.state; locals = set_keeps places.locals memory.locals (i - 22) value kind h.locals (there places.locals (i - 22) kind e) k }

-- what was there of another kind
int_held : (places : Places) (memory : Memory) (i : ℕ) (kept : Bool) → HasKinds places memory
    → is_kind kinds.Int (target_at places i) ≡ true → kept ≡ truth_or kept (held_at memory i)
int_held places memory i kept h e = by (nat_lt i 16) (nat_lt i 22) e
  where
    by : (low middle : Bool) → is_kind kinds.Int
        (cond low (slice_get places.fields i)
        (cond middle (slice_get [] (i - 16)) (slice_get places.locals (i - 22)))) ≡ true
        → kept ≡ truth_or kept (cond low (slice_get memory.state i)
        (cond middle (slice_get [] (i - 16)) (slice_get memory.locals (i - 22))))
    by true middle e = int_kept places.fields memory.state i kept h.state (int_there places.fields i e)
    by false true e = refl
    by false false e = int_kept places.locals memory.locals (i - 22) kept h.locals (int_there places.locals (i - 22) e)

bool_held : (places : Places) (memory : Memory) (i : ℕ) (kept : ℤ) → HasKinds places memory
    → is_kind kinds.Bool (target_at places i) ≡ true → kept ≡ number_or kept (held_at memory i)
bool_held places memory i kept h e = by (nat_lt i 16) (nat_lt i 22) e
  where
    by : (low middle : Bool) → is_kind kinds.Bool
        (cond low (slice_get places.fields i)
        (cond middle (slice_get [] (i - 16)) (slice_get places.locals (i - 22)))) ≡ true
        → kept ≡ number_or kept (cond low (slice_get memory.state i)
        (cond middle (slice_get [] (i - 16)) (slice_get memory.locals (i - 22))))
    by true middle e = bool_kept places.fields memory.state i kept h.state (bool_there places.fields i e)
    by false true e = refl
    by false false e = bool_kept places.locals memory.locals (i - 22) kept h.locals (bool_there places.locals (i - 22) e)

number_written : (places : Places) (v : Valuation) (memory : Memory) (i : ℕ) (number : ℤ)
    → HasKinds places memory → is_kind kinds.Int (target_at places i) ≡ true
    → with_memory v (with_value memory i (values.Int number))
    ≡ record {
      number = λ at. cond (at == i) number ((with_memory v memory).number at);
      flag = (with_memory v memory).flag;
    }
number_written places v memory i number h e =
    same_valuation _ _
    (λ at. ap (number_or (v.number at)) (held_written places memory i at (values.Int number) kinds.Int h e) ∙ numbers at (at == i))
    (λ at. ap (truth_or (v.flag at)) (held_written places memory i at (values.Int number) kinds.Int h e) ∙ flags at (at == i) refl)
  where
    numbers : (at : ℕ) (same : Bool) → number_or (v.number at)
        (cond same (Some (values.Int number)) (held_at memory at))
        ≡ cond same number (number_or (v.number at) (held_at memory at))
    numbers at true = refl
    numbers at false = refl

    flags : (at : ℕ) (same : Bool) → (at == i) ≡ same → truth_or (v.flag at) (cond same (Some (values.Int number)) (held_at memory at)) ≡ truth_or (v.flag at) (held_at memory at)
    flags at true is = let here : i ≡ at = grind arith in int_held places memory i (v.flag at) h e ∙ ap (λ n. truth_or (v.flag at) (held_at memory n)) here
    flags at false is = refl

truth_written : (places : Places) (v : Valuation) (memory : Memory) (i : ℕ) (truth : Bool)
    → HasKinds places memory → is_kind kinds.Bool (target_at places i) ≡ true
    → with_memory v (with_value memory i (values.Bool truth))
    ≡ record {
      number = (with_memory v memory).number;
      flag = λ at. cond (at == i) truth ((with_memory v memory).flag at);
    }
truth_written places v memory i truth h e =
    same_valuation _ _
    (λ at. ap (number_or (v.number at)) (held_written places memory i at (values.Bool truth) kinds.Bool h e) ∙ numbers at (at == i) refl)
    (λ at. ap (truth_or (v.flag at)) (held_written places memory i at (values.Bool truth) kinds.Bool h e) ∙ flags at (at == i))
  where
    flags : (at : ℕ) (same : Bool) → truth_or (v.flag at)
        (cond same (Some (values.Bool truth)) (held_at memory at))
        ≡ cond same truth (truth_or (v.flag at) (held_at memory at))
    flags at true = refl
    flags at false = refl

    numbers : (at : ℕ) (same : Bool) → (at == i) ≡ same → number_or (v.number at) (cond same (Some (values.Bool truth)) (held_at memory at)) ≡ number_or (v.number at) (held_at memory at)
    numbers at true is = let here : i ≡ at = grind arith in bool_held places memory i (v.number at) h e ∙ ap (λ n. number_or (v.number at) (held_at memory n)) here
    numbers at false is = refl

-- ---- statements

-- the values have their kinds, and the valuation with them is this one
pub record Mirrors (places : Places) (v : Valuation) (memory : Memory) (now : Valuation) : Type 0 where
  pub held : HasKinds places memory
  pub reached : with_memory v memory ≡ now

abbrev SamePut : Places → Valuation → Put → Memory → Valuation → Type 0
SamePut places v put memory now = RunAlike Memory Valuation (Mirrors places v) (assigning (arguments_of places v) put) (changing put) memory now

put_follows : (places : Places) (v : Valuation) (put : Put) → fits_put places put ≡ true → (memory : Memory) → HasKinds places memory → SamePut places v put memory (with_memory v memory)
put_follows places v (Number place form) e memory h =
    let both = and_parts (is_kind kinds.Int (target_at places place)) (fits_form places form) e in
    let read = form_read places v memory form h both.1 in
    let number = value_of (reading (arguments_of places v) memory) form in
    record {
      reaches = record {
        held = kinds_written places memory place (values.Int number) kinds.Int h both.0 tt;
        reached = number_written places v memory place number h both.0 ∙ ap (λ n. record { number = λ at. cond (at == place) n ((with_memory v memory).number at); flag = (with_memory v memory).flag }) read;
      };
      overflows = ap (λ n. not (fits_64 (values.Int n))) read;
    }
put_follows places v (Truth place is) e memory h =
    let both = and_parts (is_kind kinds.Bool (target_at places place)) (fits_formula places is) e in
    let truth = truth_of (reading (arguments_of places v) memory) is in
    record {
      reaches = record {
        held = kinds_written places memory place (values.Bool truth) kinds.Bool h both.0 tt;
        reached = truth_written places v memory place truth h both.0 ∙ ap (λ held. record { number = (with_memory v memory).number; flag = λ at. cond (at == place) held ((with_memory v memory).flag at) }) (formula_read places v memory h is both.1);
      };
      overflows = refl;
    }

-- statements do to a memory what they do to its valuation
runs_agree : (places : Places) (v : Valuation) → Agree Memory Valuation (Mirrors places v) (on_memory (arguments_of places v)) on_valuations (fits_put places) (fits_formula places)
runs_agree places v = record {
  does = λ put fits memory now is. subst (SamePut places v put memory) is.reached (put_follows places v put fits memory is.held);
  holds = λ when fits memory now is. formula_read places v memory is.held when fits ∙ ap (λ (u : Valuation). truth_of u when) is.reached;
}

-- ---- bodies

start_kinds : (v : Valuation) (base : ℕ) (fields : List Kind)
    → AreOfKinds fields (values_from v base fields)
start_kinds v base [] = tt
start_kinds v base (kinds.Int ∷ fields) = (tt, start_kinds v (base + 1) fields)
start_kinds v base (kinds.Bool ∷ fields) = (tt, start_kinds v (base + 1) fields)

start_number : (v : Valuation) (base : ℕ) (fields : List Kind) (i at : ℕ) → at ≡ base + i
    → number_or (v.number at) (slice_get (values_from v base fields) i) ≡ v.number at
start_number v base [] i at e = refl
start_number v base (kinds.Int ∷ fields) zero at e = ap v.number (omega arith)
start_number v base (kinds.Bool ∷ fields) zero at e = refl
start_number v base (kinds.Int ∷ fields) (suc i) at e = start_number v (base + 1) fields i at (omega arith)
start_number v base (kinds.Bool ∷ fields) (suc i) at e = start_number v (base + 1) fields i at (omega arith)

start_truth : (v : Valuation) (base : ℕ) (fields : List Kind) (i at : ℕ) → at ≡ base + i
    → truth_or (v.flag at) (slice_get (values_from v base fields) i) ≡ v.flag at
start_truth v base [] i at e = refl
start_truth v base (kinds.Bool ∷ fields) zero at e = ap v.flag (omega arith)
start_truth v base (kinds.Int ∷ fields) zero at e = refl
start_truth v base (kinds.Int ∷ fields) (suc i) at e = start_truth v (base + 1) fields i at (omega arith)
start_truth v base (kinds.Bool ∷ fields) (suc i) at e = start_truth v (base + 1) fields i at (omega arith)

start_memory : (places : Places) (v : Valuation)
    → with_memory v (memory_of (values_from v 0 places.fields) (inputs_from v places)) ≡ v
start_memory places v = same_valuation _ _ (λ at. numbers at (nat_lt at 16) (nat_lt at 22) refl) (λ at. flags at (nat_lt at 16) (nat_lt at 22) refl)
  where
    numbers : (at : ℕ) (low middle : Bool) → nat_lt at 22 ≡ middle
        → number_or (v.number at) (cond low (slice_get (values_from v 0 places.fields) at)
        (cond middle (slice_get [] (at - 16))
        (slice_get (values_from v 22 places.locals) (at - 22)))) ≡ v.number at
    numbers at true middle is = start_number v 0 places.fields at at (omega arith)
    numbers at false true is = refl
    numbers at false false is = let above : 22 ≤ at = grind arith in start_number v 22 places.locals (at - 22) at (omega arith)

    flags : (at : ℕ) (low middle : Bool) → nat_lt at 22 ≡ middle
        → truth_or (v.flag at) (cond low (slice_get (values_from v 0 places.fields) at)
        (cond middle (slice_get [] (at - 16))
        (slice_get (values_from v 22 places.locals) (at - 22)))) ≡ v.flag at
    flags at true middle is = start_truth v 0 places.fields at at (omega arith)
    flags at false true is = refl
    flags at false false is = let above : 22 ≤ at = grind arith in start_truth v 22 places.locals (at - 22) at (omega arith)

-- The valuation with the state and the locals that a body reaches is what the body makes of the
-- valuation, and the body overflows on both or on neither.
pub body_follows : (places : Places) (v : Valuation) (body : List Stmt)
    → list_all (fits_statement places) body ≡ true
    → RunAlike Memory Valuation (Mirrors places v) (body_effect (arguments_of places v) body) (run_body on_valuations body) (memory_of (values_from v 0 places.fields) (inputs_from v places)) v
body_follows places v body e =
    simulated Memory Valuation (Mirrors places v) (on_memory (arguments_of places v)) on_valuations (fits_put places) (fits_formula places) (runs_agree places v) body e
    (memory_of (values_from v 0 places.fields) (inputs_from v places)) v
    (record { held = record { state = start_kinds v 0 places.fields; locals = start_kinds v 22 places.locals }; reached = start_memory places v })

pub body_reaches_memory : (places : Places) (v : Valuation) (body : List Stmt)
    → list_all (fits_statement places) body ≡ true
    → with_memory v (after (inputs_from v places) body (values_from v 0 places.fields))
    ≡ body_change body v
body_reaches_memory places v body e = (body_follows places v body e).reaches.reached
