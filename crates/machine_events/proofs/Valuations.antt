-- How valid triples meet states and inputs: the valuation of a state, of the inputs of the block
-- that runs, and of those of a client that waits.
use Rattle.std.proofs.Common.{◌≡◌, ℕ, zero, suc, ◌+◌, ◌-◌, ◌<◌, ◌≤◌, Bool, true, false, cond, not, ◌&&◌, ℤ, pos, List, [], ◌∷◌, ◌++◌, map, length, Option, None, refl, sym, ap, subst, ◌∙◌, arith, inl, inr}
use Rattle.std.specs.Prelude.{All, nat_lt, nat_le, slice_get, unwrap_or}
use Rattle.std.specs.List.{list_all, list_any}
use Rattle.std.proofs.lemmas.Bool.{ltb-true, lt-ltb, le-ltb, lt-leb, and_from, cases_lt, or_from, cond_both}
use Rattle.std.proofs.lemmas.List.{length-map}
use Rattle.std.proofs.lemmas.List.Elements.{All-head, All-tail}
use Rattle.logic_linear.specs.declared.form.Term.{Term}
use Rattle.logic_linear.specs.declared.formula.Formula.{Formula}
use Rattle.logic_linear.specs.Negation.{negation}
use Rattle.logic_linear.specs.Truth.{Valuation, truth_of}
use Rattle.logic_linear.proofs.NegationLemmas.{negation_flips}
use Rattle.lang_base.specs.declared.kind.Kind.{Kind}
use Rattle.lang_monitor.specs.declared.candidate.Candidate.{Candidate}
use Rattle.lang_monitor.specs.declared.candidate.Candidate.TheVariants as candidates
use Rattle.lang_base.specs.declared.value.Value.{Value}
use Rattle.lang_base.specs.declared.value.Value.TheVariants as values
use Rattle.lang_monitor.specs.declared.monitor.Block.{Block}
use Rattle.lang_monitor.specs.MonitorParts.{Places, AreOfKinds, kind_of, at_place, fits_formula, fits_block, fits_statement, fits_result}
use Rattle.lang_monitor.specs.Inputs.{reads_inputs}
use Rattle.lang_monitor.specs.Bodies.{Inputs, no_inputs, Memory, memory_of, held_at, number_of_value, truth_of_value, value_at, valuation, values_from, inputs_from, number_or, truth_or, with_memory, after, IsValid}
use Rattle.machine_implicit.proofs.Held.{kinds_held}
use Rattle.machine_implicit.proofs.Sums.{AreFewPlaces, both_true}
use Rattle.logic_linear.specs.declared.formula.Formula.TheVariants as formulas
use Rattle.lang_monitor.specs.Candidates.{once, opposite, candidate_formula, candidate_truth, AllHold}
use Rattle.lang_monitor.specs.Queries.{waiting_place, for_waiting, hypotheses}
use Rattle.machine_events.proofs.CandidatePlaces.{is_low}
use Rattle.machine_events.proofs.Places.{Agree, agree_on, reads_from, reads_term_from, fitting_is_low, at_waiting, moves_to_waiting, truth_all, reads_row, reads_flag}
use Rattle.machine_implicit.proofs.Bodies.{HasKinds, after_keeps_kinds}

abbrev nothing : Value
nothing = values.Int (pos 0)

-- ---- the valuation of a state, of inputs, and of the inputs of a client that waits

abbrev pub joint_value : List Value → Inputs → Inputs → ℕ → Value
joint_value state inputs others place = cond (nat_lt place 32) (value_at state inputs place) (value_at state others (place - 16))

abbrev pub joint : List Value → Inputs → Inputs → Valuation
joint state inputs others = record { number = λ place. number_of_value (joint_value state inputs others place); flag = λ place. truth_of_value (joint_value state inputs others place) }

low_is : (state : List Value) (inputs others : Inputs) (place : ℕ) → place < 32
    → joint_value state inputs others place ≡ value_at state inputs place
low_is state inputs others place below = ap (λ (test : Bool). cond test (value_at state inputs place) (value_at state others (place - 16))) (lt-ltb place 32 below)

high_is : (state : List Value) (inputs others : Inputs) (place : ℕ) → 32 ≤ place
    → joint_value state inputs others place ≡ value_at state others (place - 16)
high_is state inputs others place above = ap (λ (test : Bool). cond test (value_at state inputs place) (value_at state others (place - 16))) (le-ltb place 32 above)

-- ---- what stands at a place

field_at : {X : Type 0} (fields inputs locals : List X) (place : ℕ) → place < 16
    → at_place fields inputs locals place ≡ slice_get fields place
field_at fields inputs locals place below =
    ap (λ (test : Bool). cond test (slice_get fields place) (cond (nat_lt place 22) (slice_get inputs (place - 16)) (slice_get locals (place - 22)))) (lt-ltb place 16 below)

input_at : {X : Type 0} (fields inputs locals : List X) (place : ℕ) → 16 ≤ place → place < 22
    → at_place fields inputs locals place ≡ slice_get inputs (place - 16)
input_at fields inputs locals place above below =
    ap (λ (test : Bool). cond test (slice_get fields place) (cond (nat_lt place 22) (slice_get inputs (place - 16)) (slice_get locals (place - 22)))) (le-ltb place 16 above)
    ∙ ap (λ (test : Bool). cond test (slice_get inputs (place - 16)) (slice_get locals (place - 22))) (lt-ltb place 22 below)

local_at : {X : Type 0} (fields inputs locals : List X) (place : ℕ) → 22 ≤ place
    → at_place fields inputs locals place ≡ slice_get locals (place - 22)
local_at fields inputs locals place above =
    ap (λ (test : Bool). cond test (slice_get fields place) (cond (nat_lt place 22) (slice_get inputs (place - 16)) (slice_get locals (place - 22)))) (le-ltb place 16 (omega arith))
    ∙ ap (λ (test : Bool). cond test (slice_get inputs (place - 16)) (slice_get locals (place - 22))) (le-ltb place 22 above)

-- from the first input on the fields are not read
above_fields : {X : Type 0} (fields others inputs locals : List X) (place : ℕ) → 16 ≤ place
    → at_place fields inputs locals place ≡ at_place others inputs locals place
above_fields fields others inputs locals place above =
    let from = cond (nat_lt place 22) (slice_get inputs (place - 16)) (slice_get locals (place - 22)) in
    ap (λ (test : Bool). cond test (slice_get fields place) from) (le-ltb place 16 above)
    ∙ sym (ap (λ (test : Bool). cond test (slice_get others place) from) (le-ltb place 16 above))

-- below the first input the fields alone are read
field_is : (state : List Value) (inputs others : Inputs) (place : ℕ) → place < 16
    → value_at state inputs place ≡ value_at state others place
field_is state inputs others place below =
    ap (λ (held : Option Value). unwrap_or held nothing) (field_at state inputs.arguments inputs.locals place below ∙ sym (field_at state others.arguments others.locals place below))

-- from it on they are not
input_is : (state next : List Value) (inputs : Inputs) (place : ℕ) → 16 ≤ place
    → value_at state inputs place ≡ value_at next inputs place
input_is state next inputs place above = ap (λ (held : Option Value). unwrap_or held nothing) (above_fields state next inputs.arguments inputs.locals place above)

-- ---- it is that of the state and the inputs below 26, and that of the state and the others' inputs
-- at the places of a client that waits

joint_agrees : (state : List Value) (inputs others : Inputs)
    → Agree 26 (joint state inputs others) (valuation state inputs)
joint_agrees state inputs others = record {
  number = λ place below. ap number_of_value (low_is state inputs others place (omega arith));
  flag = λ place below. ap truth_of_value (low_is state inputs others place (omega arith));
}

waiting_low : (place : ℕ) → place < 16 → waiting_place place ≡ place
waiting_low place below = ap (λ (test : Bool). cond test place (place + 16)) (lt-ltb place 16 below)

waiting_high : (place : ℕ) → 16 ≤ place → waiting_place place ≡ place + 16
waiting_high place above = ap (λ (test : Bool). cond test place (place + 16)) (le-ltb place 16 above)

waiting_value : (state : List Value) (inputs others : Inputs) (place : ℕ)
    → joint_value state inputs others (waiting_place place) ≡ value_at state others place
waiting_value state inputs others place = elim (cases_lt place 16) [
  | inl below ↦
      ap (joint_value state inputs others) (waiting_low place below) ∙ low_is state inputs others place (omega arith)
      ∙ field_is state inputs others place below
  | inr above ↦
      let back : (place + 16) - 16 ≡ place = omega arith in
      ap (joint_value state inputs others) (waiting_high place above) ∙ high_is state inputs others (place + 16) (omega arith)
      ∙ ap (value_at state others) back
]

pub at_waiting_is : (state : List Value) (inputs others : Inputs)
    → at_waiting (joint state inputs others) ≡ valuation state others
at_waiting_is state inputs others =
    λ i. record { number = λ place. number_of_value (waiting_value state inputs others place i); flag = λ place. truth_of_value (waiting_value state inputs others place i) }

-- ---- the fields' values and the inputs are read back

value_back : (value : Value) (v : Valuation) (place : ℕ) → v.number place ≡ number_of_value value
    → v.flag place ≡ truth_of_value value → values_from v place (kind_of value ∷ []) ≡ value ∷ []
value_back (values.Int number) v place is same = ap (λ (one : ℤ). values.Int one ∷ []) is
value_back (values.Bool truth) v place is same = ap (λ (one : Bool). values.Bool one ∷ []) same

-- the valuation has these values from a place on
pub record HasFrom (v : Valuation) (from : ℕ) (some : List Value) : Type 0 where
  pub number : (k place : ℕ) → place ≡ from + k → k < length some
      → v.number place ≡ number_of_value (unwrap_or (slice_get some k) nothing)
  pub flag : (k place : ℕ) → place ≡ from + k → k < length some
      → v.flag place ≡ truth_of_value (unwrap_or (slice_get some k) nothing)

rest_from : (v : Valuation) (from : ℕ) (value : Value) (more : List Value)
    → HasFrom v from (value ∷ more) → HasFrom v (from + 1) more
rest_from v from value more has = record {
  number = λ k place is below. has.number (suc k) place (omega arith) (omega arith);
  flag = λ k place is below. has.flag (suc k) place (omega arith) (omega arith);
}

values_back : (v : Valuation) (from : ℕ) (some : List Value) → HasFrom v from some
    → values_from v from (map kind_of some) ≡ some
values_back v from [] has = refl
values_back v from (values.Int number ∷ more) has =
    ap (λ (one : ℤ). values.Int one ∷ values_from v (from + 1) (map kind_of more)) (has.number zero from (omega arith) (omega arith))
    ∙ ap (λ (rest : List Value). values.Int number ∷ rest) (values_back v (from + 1) more (rest_from v from (values.Int number) more has))
values_back v from (values.Bool truth ∷ more) has =
    ap (λ (one : Bool). values.Bool one ∷ values_from v (from + 1) (map kind_of more)) (has.flag zero from (omega arith) (omega arith))
    ∙ ap (λ (rest : List Value). values.Bool truth ∷ rest) (values_back v (from + 1) more (rest_from v from (values.Bool truth) more has))

fields_value : (state : List Value) (inputs others : Inputs) (k place : ℕ) → place ≡ 0 + k
    → k < length state → length state ≤ 16
    → joint_value state inputs others place ≡ unwrap_or (slice_get state k) nothing
fields_value state inputs others k place is below few =
    low_is state inputs others place (omega arith) ∙ ap (λ (held : Option Value). unwrap_or held nothing) (field_at state inputs.arguments inputs.locals place (omega arith) ∙ ap (slice_get state) (omega arith))

arguments_value : (state : List Value) (inputs others : Inputs) (k place : ℕ) → place ≡ 16 + k
    → k < length inputs.arguments → length inputs.arguments ≤ 6
    → joint_value state inputs others place ≡ unwrap_or (slice_get inputs.arguments k) nothing
arguments_value state inputs others k place is below few =
    low_is state inputs others place (omega arith)
    ∙ ap (λ (held : Option Value). unwrap_or held nothing) (input_at state inputs.arguments inputs.locals place (omega arith) (omega arith) ∙ ap (slice_get inputs.arguments) (omega arith))

locals_value : (state : List Value) (inputs others : Inputs) (k place : ℕ) → place ≡ 22 + k
    → k < length inputs.locals → length inputs.locals ≤ 4
    → joint_value state inputs others place ≡ unwrap_or (slice_get inputs.locals k) nothing
locals_value state inputs others k place is below few =
    low_is state inputs others place (omega arith)
    ∙ ap (λ (held : Option Value). unwrap_or held nothing) (local_at state inputs.arguments inputs.locals place (omega arith) ∙ ap (slice_get inputs.locals) (omega arith))

pub fields_back : (state : List Value) (inputs others : Inputs) → length state ≤ 16
    → values_from (joint state inputs others) 0 (map kind_of state) ≡ state
fields_back state inputs others few = values_back (joint state inputs others) 0 state (record {
  number = λ k place is below. ap number_of_value (fields_value state inputs others k place is below few);
  flag = λ k place is below. ap truth_of_value (fields_value state inputs others k place is below few);
})

pub arguments_back : (state : List Value) (inputs others : Inputs) → length inputs.arguments ≤ 6
    → values_from (joint state inputs others) 16 (map kind_of inputs.arguments) ≡ inputs.arguments
arguments_back state inputs others few = values_back (joint state inputs others) 16 inputs.arguments (record {
  number = λ k place is below. ap number_of_value (arguments_value state inputs others k place is below few);
  flag = λ k place is below. ap truth_of_value (arguments_value state inputs others k place is below few);
})

pub locals_back : (state : List Value) (inputs others : Inputs) → length inputs.locals ≤ 4
    → values_from (joint state inputs others) 22 (map kind_of inputs.locals) ≡ inputs.locals
locals_back state inputs others few = values_back (joint state inputs others) 22 inputs.locals (record {
  number = λ k place is below. ap number_of_value (locals_value state inputs others k place is below few);
  flag = λ k place is below. ap truth_of_value (locals_value state inputs others k place is below few);
})

-- ---- with the next state in place of the fields' values it is that of the next state

number_next : (state next : List Value) (place : ℕ) → map kind_of next ≡ map kind_of state
    → number_or (number_of_value (unwrap_or (slice_get state place) nothing)) (slice_get next place)
    ≡ number_of_value (unwrap_or (slice_get next place) nothing)
number_next [] [] place same = refl
number_next [] (value ∷ next) place same = absurd (cc)
number_next (held ∷ state) [] place same = absurd (cc)
number_next (values.Int held ∷ state) (values.Int number ∷ next) zero same = refl
number_next (values.Bool held ∷ state) (values.Int number ∷ next) zero same = refl
number_next (values.Int held ∷ state) (values.Bool truth ∷ next) zero same = absurd (cc)
number_next (values.Bool held ∷ state) (values.Bool truth ∷ next) zero same = refl
number_next (held ∷ state) (value ∷ next) (suc place) same = number_next state next place (cc)

flag_next : (state next : List Value) (place : ℕ) → map kind_of next ≡ map kind_of state
    → truth_or (truth_of_value (unwrap_or (slice_get state place) nothing)) (slice_get next place)
    ≡ truth_of_value (unwrap_or (slice_get next place) nothing)
flag_next [] [] place same = refl
flag_next [] (value ∷ next) place same = absurd (cc)
flag_next (held ∷ state) [] place same = absurd (cc)
flag_next (values.Int held ∷ state) (values.Int number ∷ next) zero same = refl
flag_next (values.Bool held ∷ state) (values.Int number ∷ next) zero same = absurd (cc)
flag_next (values.Int held ∷ state) (values.Bool truth ∷ next) zero same = refl
flag_next (values.Bool held ∷ state) (values.Bool truth ∷ next) zero same = refl
flag_next (held ∷ state) (value ∷ next) (suc place) same = flag_next state next place (cc)

none_past : (some : List Value) (place : ℕ) → length some ≤ place → slice_get some place ≡ None
none_past [] place past = refl
none_past (first ∷ some) zero past = absurd (omega arith)
none_past (first ∷ some) (suc place) past = none_past some place (omega arith)

-- the inputs with the locals that a body leaves
abbrev pub inputs_after : Inputs → Memory → Inputs
inputs_after inputs next = record { arguments = inputs.arguments; locals = next.locals }

-- the value of a field or a local is its next one, and what is none of these stays
pub record AreNext (state : List Value) (inputs : Inputs) (next : Memory) : Type 0 where
  pub state_kinds : map kind_of next.state ≡ map kind_of state
  pub local_kinds : map kind_of next.locals ≡ map kind_of inputs.locals
  pub few : length next.locals ≤ 4

-- of a place: what it holds before and after, where it is a field or a local, or nothing that a
-- body changes
data Goes (state : List Value) (inputs others : Inputs) (next : Memory) (place : ℕ) : Type 0 where
  changed : (before now : List Value) (k : ℕ) → map kind_of now ≡ map kind_of before
      → held_at next place ≡ slice_get now k
      → joint_value state inputs others place ≡ unwrap_or (slice_get before k) nothing
      → joint_value next.state (inputs_after inputs next) others place
      ≡ unwrap_or (slice_get now k) nothing → Goes state inputs others next place
  same : held_at next place ≡ None → joint_value state inputs others place
      ≡ joint_value next.state (inputs_after inputs next) others place
      → Goes state inputs others next place

abbrev or_none : Option Value → Value
or_none held = unwrap_or held nothing

goes : (state : List Value) (inputs others : Inputs) (next : Memory) (place : ℕ)
    → AreNext state inputs next → Goes state inputs others next place
goes state inputs others next place are = elim (cases_lt place 16) [
  | inl below ↦ changed state next.state place are.state_kinds (field_at next.state [] next.locals place below)
      (low_is state inputs others place (omega arith) ∙ ap or_none (field_at state inputs.arguments inputs.locals place below))
      (low_is next.state (inputs_after inputs next) others place (omega arith) ∙ ap or_none (field_at next.state inputs.arguments next.locals place below))
  | inr fields ↦ elim (cases_lt place 22) [
    | inl below ↦ same (input_at next.state [] next.locals place fields below)
        (low_is state inputs others place (omega arith) ∙ ap or_none (input_at state inputs.arguments inputs.locals place fields below ∙ sym (input_at next.state inputs.arguments next.locals place fields below))
        ∙ sym (low_is next.state (inputs_after inputs next) others place (omega arith)))
    | inr above ↦ elim (cases_lt place 32) [
      | inl below ↦ changed inputs.locals next.locals (place - 22) are.local_kinds (local_at next.state [] next.locals place above)
          (low_is state inputs others place below ∙ ap or_none (local_at state inputs.arguments inputs.locals place above))
          (low_is next.state (inputs_after inputs next) others place below ∙ ap or_none (local_at next.state inputs.arguments next.locals place above))
      | inr high ↦ same (local_at next.state [] next.locals place above ∙ none_past next.locals (place - 22) (omega (arith, are.few)))
          (high_is state inputs others place high ∙ input_is state next.state others (place - 16) (omega arith) ∙ sym (high_is next.state (inputs_after inputs next) others place high))
    ]
  ]
]

next_number : (state : List Value) (inputs others : Inputs) (next : Memory) (place : ℕ)
    → Goes state inputs others next place
    → (with_memory (joint state inputs others) next).number place
    ≡ (joint next.state (inputs_after inputs next) others).number place
next_number state inputs others next place (changed before now k kinds is was becomes) =
    ap (number_or (number_of_value (joint_value state inputs others place))) is
    ∙ ap (λ (value : Value). number_or (number_of_value value) (slice_get now k)) was
    ∙ number_next before now k kinds ∙ sym (ap number_of_value becomes)
next_number state inputs others next place (same is stays) = ap (number_or (number_of_value (joint_value state inputs others place))) is ∙ ap number_of_value stays

next_flag : (state : List Value) (inputs others : Inputs) (next : Memory) (place : ℕ)
    → Goes state inputs others next place
    → (with_memory (joint state inputs others) next).flag place
    ≡ (joint next.state (inputs_after inputs next) others).flag place
next_flag state inputs others next place (changed before now k kinds is was becomes) =
    ap (truth_or (truth_of_value (joint_value state inputs others place))) is
    ∙ ap (λ (value : Value). truth_or (truth_of_value value) (slice_get now k)) was
    ∙ flag_next before now k kinds ∙ sym (ap truth_of_value becomes)
next_flag state inputs others next place (same is stays) = ap (truth_or (truth_of_value (joint_value state inputs others place))) is ∙ ap truth_of_value stays

pub next_is : (state : List Value) (inputs others : Inputs) (next : Memory)
    → AreNext state inputs next → with_memory (joint state inputs others) next
    ≡ joint next.state (inputs_after inputs next) others
next_is state inputs others next are = λ i. record {
  number = λ place. next_number state inputs others next place (goes state inputs others next place are) i;
  flag = λ place. next_flag state inputs others next place (goes state inputs others next place are) i;
}

-- ---- a state in which a block runs, at inputs of its kinds

pub record Fits (places : Places) (block : Block) (state : List Value) (inputs : Inputs) : Type 0 where
  pub few : AreFewPlaces places
  pub block_fits : fits_block places block ≡ true
  pub state_fits : AreOfKinds places.fields state
  pub arguments_fit : AreOfKinds places.inputs inputs.arguments
  pub locals_fit : AreOfKinds places.locals inputs.locals

pub few_held : (some : List Kind) (held : List Value) → AreOfKinds some held
    → length held ≡ length some
few_held some held are = omega (arith, length-map held kind_of, ap length (kinds_held some held are))

has_kinds : (places : Places) (block : Block) (state : List Value) (inputs : Inputs)
    → Fits places block state inputs → HasKinds places (memory_of state inputs)
has_kinds places block state inputs fit = record { state = kinds_held places.fields state fit.state_fits; locals = kinds_held places.locals inputs.locals fit.locals_fit }

-- what a body leaves has the kinds that there were
pub next_kinds : (places : Places) (block : Block) (state : List Value) (inputs : Inputs)
    → Fits places block state inputs → HasKinds places (after inputs block.body state)
next_kinds places block state inputs fit = after_keeps_kinds places inputs state block fit.block_fits (has_kinds places block state inputs fit)

are_next : (places : Places) (block : Block) (state : List Value) (inputs : Inputs)
    → Fits places block state inputs → AreNext state inputs (after inputs block.body state)
are_next places block state inputs fit =
    let next = after inputs block.body state in
    let before = has_kinds places block state inputs fit in
    let now = next_kinds places block state inputs fit in
    record {
      state_kinds = now.state ∙ sym before.state;
      local_kinds = now.locals ∙ sym before.locals;
      few = omega (arith, length-map next.locals kind_of, ap length now.locals, fit.few.locals);
    }

-- what a valid triple says of a state, of the inputs of the block that runs, and of those of a
-- client that waits
pub triple_meets : (places : Places) (block : Block) (state : List Value) (inputs others : Inputs)
    (before then_after : Formula) → Fits places block state inputs
    → IsValid places before block.body then_after
    → truth_of (joint state inputs others) before ≡ true
    → truth_of (joint (after inputs block.body state).state
    (inputs_after inputs (after inputs block.body state)) others) then_after ≡ true
triple_meets places block state inputs others before then_after fit valid holds =
    let v = joint state inputs others in
    let few_fields = fit.few.fields in
    let few_inputs = fit.few.inputs in
    let few_locals = fit.few.locals in
    let fields_same : values_from v 0 places.fields ≡ state =
    ap (values_from v 0) (sym (kinds_held places.fields state fit.state_fits)) ∙ fields_back state inputs others (omega (arith, few_held places.fields state fit.state_fits, few_fields)) in
    let arguments_same : values_from v 16 places.inputs ≡ inputs.arguments =
    ap (values_from v 16) (sym (kinds_held places.inputs inputs.arguments fit.arguments_fit)) ∙ arguments_back state inputs others (omega (arith, few_held places.inputs inputs.arguments fit.arguments_fit, few_inputs)) in
    let locals_same : values_from v 22 places.locals ≡ inputs.locals =
    ap (values_from v 22) (sym (kinds_held places.locals inputs.locals fit.locals_fit)) ∙ locals_back state inputs others (omega (arith, few_held places.locals inputs.locals fit.locals_fit, few_locals)) in
    let given : inputs_from v places ≡ inputs = λ i. record { arguments = arguments_same i; locals = locals_same i } in
    let reached : after (inputs_from v places) block.body (values_from v 0 places.fields) ≡ after inputs block.body state =
    ap (λ (some : Inputs). after some block.body (values_from v 0 places.fields)) given ∙ ap (after inputs block.body) fields_same in
    let same = ap (with_memory v) reached ∙ next_is state inputs others (after inputs block.body state) (are_next places block state inputs fit) in
    subst (λ (w : Valuation). truth_of w then_after ≡ true) same (valid v holds)

-- ---- formulas at the valuation

-- a guard of the block that runs
pub guard_at : (places : Places) (block : Block) (state : List Value) (inputs others : Inputs)
    → Fits places block state inputs → truth_of (joint state inputs others) block.guard
    ≡ truth_of (valuation state inputs) block.guard
guard_at places block state inputs others fit =
    let parts = both_true (fits_formula places block.guard) (list_all (fits_statement places) block.body && fits_result places block.result) fit.block_fits in
    agree_on 26 (joint state inputs others) (valuation state inputs) (joint_agrees state inputs others) block.guard (fitting_is_low places fit.few block.guard parts.0)

-- the guard of a client that waits
pub waiting_at : (state : List Value) (inputs others : Inputs) (guard : Formula)
    → truth_of (joint state inputs others) (for_waiting guard)
    ≡ truth_of (valuation state others) guard
waiting_at state inputs others guard = moves_to_waiting (joint state inputs others) guard ∙ ap (λ (v : Valuation). truth_of v guard) (at_waiting_is state inputs others)

pub not_waiting_at : (state : List Value) (inputs others : Inputs) (guard : Formula)
    → truth_of (joint state inputs others) (negation (for_waiting guard))
    ≡ not (truth_of (valuation state others) guard)
not_waiting_at state inputs others guard = negation_flips (joint state inputs others) (for_waiting guard) ∙ ap not (waiting_at state inputs others guard)

-- a guard that reads no inputs is as true at any
fields_agree : (state : List Value) (inputs others : Inputs)
    → Agree 16 (valuation state inputs) (valuation state others)
fields_agree state inputs others = record {
  number = λ place below. ap number_of_value (field_is state inputs others place below);
  flag = λ place below. ap truth_of_value (field_is state inputs others place below);
}

pub without_inputs : (state : List Value) (inputs others : Inputs) (guard : Formula)
    → reads_inputs guard ≡ false → truth_of (valuation state inputs) guard
    ≡ truth_of (valuation state others) guard
without_inputs state inputs others guard none = agree_on 16 (valuation state inputs) (valuation state others) (fields_agree state inputs others) guard none

-- ---- candidates

low_place : (fields place : ℕ) → fields ≤ 16 → nat_lt place fields ≡ true → nat_le 16 place ≡ false
low_place fields place few held = lt-leb 16 place (omega (arith, ltb-true place fields held))

candidate_low : (fields : ℕ) (candidate : Candidate) → fields ≤ 16 → is_low fields candidate ≡ true
    → reads_from 16 (candidate_formula candidate) ≡ false
candidate_low fields (candidates.AtMost field bound) few fits = reads_row 16 _ ∙ or_from _ _ (low_place fields field few fits) refl
candidate_low fields (candidates.AtLeast field bound) few fits = reads_row 16 _ ∙ or_from _ _ (low_place fields field few fits) refl
candidate_low fields (candidates.Flag field is) few fits = reads_flag 16 field is ∙ low_place fields field few fits
candidate_low fields (candidates.Below left right) few fits =
    let both = both_true (nat_lt left fields) (nat_lt right fields) fits in
    let left_low = low_place fields left few both.0 in
    let right_low = low_place fields right few both.1 in
    reads_row 16 _
    ∙ cond_both (nat_lt left right) (once left ∷ opposite right ∷ []) (opposite right ∷ once left ∷ []) (λ (terms : List Term). list_any (reads_term_from 16) terms ≡ false)
    (λ yes. or_from (nat_le 16 left) _ left_low (or_from (nat_le 16 right) _ right_low refl))
    (λ no. or_from (nat_le 16 right) _ right_low (or_from (nat_le 16 left) _ left_low refl))

pub fields_same : (state : List Value) (inputs others : Inputs)
    → Agree 16 (joint state inputs others) (valuation state no_inputs)
fields_same state inputs others = record {
  number = λ place below. ap number_of_value (low_is state inputs others place (omega arith) ∙ field_is state inputs no_inputs place below);
  flag = λ place below. ap truth_of_value (low_is state inputs others place (omega arith) ∙ field_is state inputs no_inputs place below);
}

pub candidate_at : (fields : ℕ) (state : List Value) (inputs others : Inputs)
    (candidate : Candidate) → fields ≤ 16 → is_low fields candidate ≡ true
    → truth_of (joint state inputs others) (candidate_formula candidate)
    ≡ candidate_truth state candidate
candidate_at fields state inputs others candidate few fits =
    agree_on 16 (joint state inputs others) (valuation state no_inputs) (fields_same state inputs others) (candidate_formula candidate) (candidate_low fields candidate few fits)

-- ---- hypotheses

all_true : (v : Valuation) (xs ys : List Formula)
    → list_all (λ part. part) (map (truth_of v) xs) ≡ true
    → list_all (λ part. part) (map (truth_of v) ys) ≡ true
    → list_all (λ part. part) (map (truth_of v) (xs ++ ys)) ≡ true
all_true v [] ys first second = second
all_true v (x ∷ xs) ys first second =
    let both = both_true (truth_of v x) (list_all (λ part. part) (map (truth_of v) xs)) first in
    and_from (truth_of v x) (list_all (λ part. part) (map (truth_of v) (xs ++ ys))) both.0 (all_true v xs ys both.1 second)

kept_true : (fields : ℕ) (state : List Value) (inputs others : Inputs) (kept : List Candidate)
    → fields ≤ 16 → All (λ candidate. is_low fields candidate ≡ true) kept → AllHold state kept
    → list_all (λ part. part) (map (truth_of (joint state inputs others))
    (map candidate_formula kept)) ≡ true
kept_true fields state inputs others [] few fits hold = refl
kept_true fields state inputs others (candidate ∷ kept) few fits hold =
    let here = candidate_at fields state inputs others candidate few (All-head (λ (one : Candidate). is_low fields one ≡ true) candidate kept fits)
    ∙ All-head (λ (one : Candidate). candidate_truth state one ≡ true) candidate kept hold in
    and_from (truth_of (joint state inputs others) (candidate_formula candidate)) _ here
    (kept_true fields state inputs others kept few (All-tail (λ (one : Candidate). is_low fields one ≡ true) candidate kept fits) (All-tail (λ (one : Candidate). candidate_truth state one ≡ true) candidate kept hold))

pub hypotheses_true : (fields : ℕ) (state : List Value) (inputs others : Inputs)
    (kept : List Candidate) (more : List Formula) → fields ≤ 16
    → All (λ candidate. is_low fields candidate ≡ true) kept → AllHold state kept
    → list_all (λ part. part) (map (truth_of (joint state inputs others)) more) ≡ true
    → truth_of (joint state inputs others) (formulas.All (hypotheses kept more)) ≡ true
hypotheses_true fields state inputs others kept more few fits hold holds =
    truth_all (joint state inputs others) (map candidate_formula kept ++ more)
    ∙ all_true (joint state inputs others) (map candidate_formula kept) more (kept_true fields state inputs others kept few fits hold) holds
