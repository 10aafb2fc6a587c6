-- The candidates of a monitor are about fields of their kinds, and are true at a valuation exactly
-- where they are in its state.
use Rattle.std.proofs.Common.{◌≡◌, ◌==◌, ℕ, zero, suc, ◌+◌, ◌-◌, ◌<◌, ◌≤◌, Bool, true, false, not, ◌&&◌, cond, ℤ, pos, neg_ℤ, ◌+ℤ◌, ◌*ℤ◌, List, [], ◌∷◌, ◌++◌, map, length, Some, refl, sym, ap, subst, ◌∙◌, arith, inl, inr}
use Rattle.std.specs.Prelude.{All, int_le, nat_lt, slice_get, unwrap_or}
use Rattle.std.specs.List.{filter, flat_map, list_all}
use Rattle.std.proofs.lemmas.Bool.{and_from, and_parts, cond_both, lt-ltb}
use Rattle.std.proofs.lemmas.List.Elements.{All-nil, All-cons, All-head, All-tail}
use Rattle.lang_base.specs.declared.kind.Kind.{Kind}
use Rattle.lang_base.specs.declared.kind.Kind.TheVariants as kinds
use Rattle.lang_base.specs.declared.value.Value.{Value}
use Rattle.lang_base.specs.declared.value.Value.TheVariants as values
use Rattle.logic_linear.specs.declared.form.Term.{Term}
use Rattle.logic_linear.specs.declared.formula.Formula.TheVariants as formulas
use Rattle.logic_linear.specs.declared.formula.Formula.TheOpen.{Row, Flag}
use Rattle.logic_linear.specs.declared.formula.Formula.TheViews.{rolls-Row, rolls-Flag}
use Rattle.logic_linear.specs.declared.formula.Formula.TheFolds.{fold-roll-Formula}
use Rattle.logic_linear.specs.Linear.{Linear}
use Rattle.logic_linear.specs.Truth.{Valuation, layer_truth, sum_of, truth_of, value_of}
use Rattle.lang_monitor.specs.declared.candidate.Candidate.{Candidate}
use Rattle.lang_monitor.specs.declared.candidate.Candidate.TheVariants as candidates
use Rattle.lang_monitor.specs.declared.monitor.Block.{Block}
use Rattle.lang_monitor.specs.declared.monitor.Field.{Field}
use Rattle.lang_monitor.specs.MonitorParts.{MonitorParts, is_kind, kinds_of}
use Rattle.lang_monitor.specs.Bodies.{no_inputs, number_of_value, truth_of_value, valuation, value_at, values_from}
use Rattle.lang_monitor.specs.Candidates.{AllHold, candidate_formula, candidate_truth, candidates_of, difference_terms, field_candidates, int_fields, int_number, kind_candidates, once, opposite, own_numbers, pair_candidates, pool}
use Rattle.machine_events.specs.Plans.{AreSomeOf}
use Rattle.plan_fits.proofs.ReadValues.{slot_flag, slot_number}

-- ---- about fields of their kinds

abbrev is_of : Kind → List Kind → ℕ → Bool
is_of kind some field = is_kind kind (slice_get some field)

-- a candidate about fields of these kinds
abbrev pub is_about : List Kind → Candidate → Bool
is_about some (candidates.AtMost field bound) = is_of kinds.Int some field
is_about some (candidates.AtLeast field bound) = is_of kinds.Int some field
is_about some (candidates.Flag field is) = is_of kinds.Bool some field
is_about some (candidates.Below left right) = is_of kinds.Int some left && is_of kinds.Int some right

abbrev pub AreAbout : List Kind → List Candidate → Type 0
AreAbout some list = All (λ candidate. is_about some candidate ≡ true) list

none_about : (some : List Kind) → AreAbout some []
none_about some = All-nil (λ (candidate : Candidate). is_about some candidate ≡ true)

one_about : (some : List Kind) (candidate : Candidate) (list : List Candidate) → is_about some candidate ≡ true → AreAbout some list → AreAbout some (candidate ∷ list)
one_about some candidate list is rest = All-cons (λ (one : Candidate). is_about some one ≡ true) candidate list is rest

pub both_about : (some : List Kind) (list others : List Candidate) → AreAbout some list → AreAbout some others → AreAbout some (list ++ others)
both_about some [] others are rest = rest
both_about some (first ∷ list) others are rest =
    one_about some first (list ++ others) (All-head (λ (one : Candidate). is_about some one ≡ true) first list are)
    (both_about some list others (All-tail (λ (one : Candidate). is_about some one ≡ true) first list are) rest)

bounds_about : (some : List Kind) (field : ℕ) → is_of kinds.Int some field ≡ true → (numbers : List ℤ)
    → AreAbout some (flat_map (λ bound. candidates.AtMost field bound ∷ candidates.AtLeast field bound ∷ []) numbers)
bounds_about some field is [] = none_about some
bounds_about some field is (number ∷ numbers) =
    let rest = flat_map (λ bound. candidates.AtMost field bound ∷ candidates.AtLeast field bound ∷ []) numbers in
    one_about some (candidates.AtMost field number) (candidates.AtLeast field number ∷ rest) is
    (one_about some (candidates.AtLeast field number) rest is (bounds_about some field is numbers))

kind_about : (some : List Kind) (field : ℕ) (blocks : List Block) (own : List ℤ) (kind : Kind) → slice_get some field ≡ Some kind → AreAbout some (kind_candidates blocks field own kind)
kind_about some field blocks own kinds.Int at = bounds_about some field (ap (is_kind kinds.Int) at) (pool blocks field own)
kind_about some field blocks own kinds.Bool at =
    let is = ap (is_kind kinds.Bool) at in
    one_about some (candidates.Flag field true) (candidates.Flag field false ∷ []) is (one_about some (candidates.Flag field false) [] is (none_about some))

-- what stands after the first kinds
past : (done rest : List Kind) (kind : Kind) → slice_get (done ++ kind ∷ rest) (length done) ≡ Some kind
past [] rest kind = refl
past (first ∷ done) rest kind = past done rest kind

longer : (done : List Kind) (kind : Kind) → length (done ++ kind ∷ []) ≡ length done + 1
longer [] kind = refl
longer (first ∷ done) kind = let rest = longer done kind in omega (arith, rest)

grouped : (done rest : List Kind) (kind : Kind) → (done ++ kind ∷ []) ++ rest ≡ done ++ kind ∷ rest
grouped [] rest kind = refl
grouped (first ∷ done) rest kind = ap (λ (some : List Kind). first ∷ some) (grouped done rest kind)

fields_about : (done : List Kind) (fields : List Field) (blocks : List Block) (number : ℕ) → number ≡ length done
    → AreAbout (done ++ kinds_of fields) (field_candidates blocks number fields)
fields_about done [] blocks number same = none_about (done ++ [])
fields_about done (field ∷ fields) blocks number same =
    let all = done ++ field.kind ∷ kinds_of fields in
    both_about all (kind_candidates blocks number (own_numbers field.start field.origin) field.kind) (field_candidates blocks (number + 1) fields)
    (kind_about all number blocks (own_numbers field.start field.origin) field.kind (ap (slice_get all) same ∙ past done (kinds_of fields) field.kind))
    (subst (λ (some : List Kind). AreAbout some (field_candidates blocks (number + 1) fields)) (grouped done (kinds_of fields) field.kind)
    (fields_about (done ++ field.kind ∷ []) fields blocks (number + 1) (ap (λ (n : ℕ). n + 1) same ∙ sym (longer done field.kind))))

-- ---- pairs

abbrev AreInts : List Kind → List ℕ → Type 0
AreInts some numbers = All (λ number. is_of kinds.Int some number ≡ true) numbers

no_ints : (some : List Kind) → AreInts some []
no_ints some = All-nil (λ (number : ℕ). is_of kinds.Int some number ≡ true)

kind_ints : (some : List Kind) (number : ℕ) (kind : Kind) (rest : List ℕ) → slice_get some number ≡ Some kind → AreInts some rest → AreInts some (int_number number kind ++ rest)
kind_ints some number kinds.Int rest at are = All-cons (λ (one : ℕ). is_of kinds.Int some one ≡ true) number rest (ap (is_kind kinds.Int) at) are
kind_ints some number kinds.Bool rest at are = are

fields_ints : (done : List Kind) (fields : List Field) (number : ℕ) → number ≡ length done → AreInts (done ++ kinds_of fields) (int_fields number fields)
fields_ints done [] number same = no_ints (done ++ [])
fields_ints done (field ∷ fields) number same =
    let all = done ++ field.kind ∷ kinds_of fields in
    kind_ints all number field.kind (int_fields (number + 1) fields) (ap (slice_get all) same ∙ past done (kinds_of fields) field.kind)
    (subst (λ (some : List Kind). AreInts some (int_fields (number + 1) fields)) (grouped done (kinds_of fields) field.kind)
    (fields_ints (done ++ field.kind ∷ []) fields (number + 1) (ap (λ (n : ℕ). n + 1) same ∙ sym (longer done field.kind))))

by_test : (some : List Kind) (left right : ℕ) (test : Bool) (rest : List ℕ) → is_of kinds.Int some left ≡ true → is_of kinds.Int some right ≡ true
    → AreAbout some (map (λ one. candidates.Below left one) rest)
    → AreAbout some (map (λ one. candidates.Below left one) (cond test (right ∷ rest) rest))
by_test some left right true rest is also more =
    one_about some (candidates.Below left right) (map (λ one. candidates.Below left one) rest) (and_from (is_of kinds.Int some left) (is_of kinds.Int some right) is also) more
by_test some left right false rest is also more = more

rights_about : (some : List Kind) (left : ℕ) → is_of kinds.Int some left ≡ true → (rights : List ℕ) → AreInts some rights
    → AreAbout some (map (λ right. candidates.Below left right) (filter (λ right. not (right == left)) rights))
rights_about some left is [] are = none_about some
rights_about some left is (right ∷ rights) are =
    by_test some left right (not (right == left)) (filter (λ one. not (one == left)) rights) is (All-head (λ (one : ℕ). is_of kinds.Int some one ≡ true) right rights are)
    (rights_about some left is rights (All-tail (λ (one : ℕ). is_of kinds.Int some one ≡ true) right rights are))

lefts_about : (some : List Kind) (rights lefts : List ℕ) → AreInts some rights → AreInts some lefts
    → AreAbout some (flat_map (λ left. map (λ right. candidates.Below left right) (filter (λ right. not (right == left)) rights)) lefts)
lefts_about some rights [] are all = none_about some
lefts_about some rights (left ∷ lefts) are all =
    both_about some (map (λ right. candidates.Below left right) (filter (λ right. not (right == left)) rights))
    (flat_map (λ left. map (λ right. candidates.Below left right) (filter (λ right. not (right == left)) rights)) lefts)
    (rights_about some left (All-head (λ (one : ℕ). is_of kinds.Int some one ≡ true) left lefts all) rights are)
    (lefts_about some rights lefts are (All-tail (λ (one : ℕ). is_of kinds.Int some one ≡ true) left lefts all))

candidates_about : (monitor : MonitorParts) → AreAbout (kinds_of monitor.fields) (candidates_of monitor)
candidates_about monitor =
    let some = kinds_of monitor.fields in
    let ints = fields_ints [] monitor.fields 0 refl in
    both_about some (field_candidates monitor.blocks 0 monitor.fields) (pair_candidates (int_fields 0 monitor.fields))
    (fields_about [] monitor.fields monitor.blocks 0 refl) (lefts_about some (int_fields 0 monitor.fields) (int_fields 0 monitor.fields) ints ints)

some_about : (some : List Kind) (kept all : List Candidate) → AreSomeOf kept all → AreAbout some all → AreAbout some kept
some_about some [] all are about = none_about some
some_about some (one ∷ kept) [] are about = absurd are
some_about some (one ∷ kept) (first ∷ all) (inl taken) about =
    one_about some one kept (subst (λ (candidate : Candidate). is_about some candidate ≡ true) (sym taken.0) (All-head (λ (candidate : Candidate). is_about some candidate ≡ true) first all about))
    (some_about some kept all taken.1 (All-tail (λ (candidate : Candidate). is_about some candidate ≡ true) first all about))
some_about some (one ∷ kept) (first ∷ all) (inr later) about = some_about some (one ∷ kept) all later (All-tail (λ (candidate : Candidate). is_about some candidate ≡ true) first all about)

-- those that are some of the monitor's
pub kept_about : (monitor : MonitorParts) (kept : List Candidate) → AreSomeOf kept (candidates_of monitor) → AreAbout (kinds_of monitor.fields) kept
kept_about monitor kept are = some_about (kinds_of monitor.fields) kept (candidates_of monitor) are (candidates_about monitor)

-- ---- true at a valuation as in its state

abbrev reading_of : List Kind → Valuation → Valuation
reading_of some v = valuation (values_from v 0 some) no_inputs

-- a field below the sixteenth
low_is : (state : List Value) (place : ℕ) → place < 16 → value_at state no_inputs place ≡ unwrap_or (slice_get state place) (values.Int (pos 0))
low_is state place below =
    ap (λ (test : Bool). unwrap_or (cond test (slice_get state place) (cond (nat_lt place 22) (slice_get [] (place - 16)) (slice_get [] (place - 22)))) (values.Int (pos 0))) (lt-ltb place 16 below)

is_within : (some : List Kind) (kind : Kind) (place : ℕ) → is_of kind some place ≡ true → place < length some
is_within [] kinds.Int place is = absurd cc
is_within [] kinds.Bool place is = absurd cc
is_within (first ∷ some) kind zero is = omega arith
is_within (first ∷ some) kind (suc place) is = let rest = is_within some kind place is in omega (arith, rest)

number_same : (some : List Kind) (v : Valuation) (place : ℕ) → length some ≤ 16 → is_of kinds.Int some place ≡ true → (reading_of some v).number place ≡ v.number place
number_same some v place few is =
    let below = is_within some kinds.Int place is in
    ap number_of_value (low_is (values_from v 0 some) place (omega (arith, below, few))) ∙ slot_number v 0 some place is ∙ ap v.number (omega arith)

flag_same : (some : List Kind) (v : Valuation) (place : ℕ) → length some ≤ 16 → is_of kinds.Bool some place ≡ true → (reading_of some v).flag place ≡ v.flag place
flag_same some v place few is =
    let below = is_within some kinds.Bool place is in
    ap truth_of_value (low_is (values_from v 0 some) place (omega (arith, below, few))) ∙ slot_flag v 0 some place is ∙ ap v.flag (omega arith)

row_same : (v u : Valuation) (form : Linear) → sum_of v form.terms ≡ sum_of u form.terms → truth_of v (formulas.Row form) ≡ truth_of u (formulas.Row form)
row_same v u form same =
    let told : (w : Valuation) → truth_of w (formulas.Row form) ≡ int_le (value_of w form) (pos 0) = λ w. ap (truth_of w) (sym (rolls-Row form)) ∙ fold-roll-Formula Bool (layer_truth w) (Row form) in
    told v ∙ ap (λ (n : ℤ). int_le (n +ℤ form.constant) (pos 0)) same ∙ sym (told u)

one_same : (v u : Valuation) (place : ℕ) (times : ℤ) → v.number place ≡ u.number place
    → sum_of v (record { place = place; times = times } ∷ []) ≡ sum_of u (record { place = place; times = times } ∷ [])
one_same v u place times same = ap (λ (n : ℤ). times *ℤ n +ℤ pos 0) same

two_same : (v u : Valuation) (first second : Term) → v.number first.place ≡ u.number first.place → v.number second.place ≡ u.number second.place
    → sum_of v (first ∷ second ∷ []) ≡ sum_of u (first ∷ second ∷ [])
two_same v u first second one two = λ i. first.times *ℤ one i +ℤ (second.times *ℤ two i +ℤ pos 0)

pub candidate_same : (some : List Kind) (v : Valuation) (candidate : Candidate) → length some ≤ 16 → is_about some candidate ≡ true
    → candidate_truth (values_from v 0 some) candidate ≡ truth_of v (candidate_formula candidate)
candidate_same some v (candidates.AtMost field bound) few is =
    row_same (reading_of some v) v (record { terms = once field ∷ []; constant = neg_ℤ bound }) (one_same (reading_of some v) v field (pos 1) (number_same some v field few is))
candidate_same some v (candidates.AtLeast field bound) few is =
    row_same (reading_of some v) v (record { terms = opposite field ∷ []; constant = bound }) (one_same (reading_of some v) v field (neg_ℤ (pos 1)) (number_same some v field few is))
candidate_same some v (candidates.Flag field truth) few is =
    let told : (w : Valuation) → truth_of w (formulas.Flag field truth) ≡ cond truth (w.flag field) (not (w.flag field)) =
    λ w. ap (truth_of w) (sym (rolls-Flag field truth)) ∙ fold-roll-Formula Bool (layer_truth w) (Flag field truth) in
    told (reading_of some v) ∙ ap (λ (held : Bool). cond truth held (not held)) (flag_same some v field few is) ∙ sym (told v)
candidate_same some v (candidates.Below left right) few is =
    let both = and_parts (is_of kinds.Int some left) (is_of kinds.Int some right) is in
    let one = number_same some v left few both.0 in
    let two = number_same some v right few both.1 in
    row_same (reading_of some v) v (record { terms = difference_terms left right; constant = pos 0 })
    (cond_both (nat_lt left right) (once left ∷ opposite right ∷ []) (opposite right ∷ once left ∷ []) (λ (terms : List Term). sum_of (reading_of some v) terms ≡ sum_of v terms)
    (λ yes. two_same (reading_of some v) v (once left) (opposite right) one two)
    (λ no. two_same (reading_of some v) v (opposite right) (once left) two one))

-- each is true at the valuation exactly where all hold in its state
pub kept_hold : (some : List Kind) (v : Valuation) (kept : List Candidate) → length some ≤ 16 → AreAbout some kept
    → list_all (truth_of v) (map candidate_formula kept) ≡ true → AllHold (values_from v 0 some) kept
kept_hold some v [] few are held = All-nil (λ (one : Candidate). candidate_truth (values_from v 0 some) one ≡ true)
kept_hold some v (candidate ∷ kept) few are held =
    let both = and_parts (truth_of v (candidate_formula candidate)) (list_all (truth_of v) (map candidate_formula kept)) held in
    All-cons (λ (one : Candidate). candidate_truth (values_from v 0 some) one ≡ true) candidate kept
    (candidate_same some v candidate few (All-head (λ (one : Candidate). is_about some one ≡ true) candidate kept are) ∙ both.0)
    (kept_hold some v kept few (All-tail (λ (one : Candidate). is_about some one ≡ true) candidate kept are) both.1)

pub kept_true : (some : List Kind) (v : Valuation) (kept : List Candidate) → length some ≤ 16 → AreAbout some kept
    → AllHold (values_from v 0 some) kept → list_all (truth_of v) (map candidate_formula kept) ≡ true
kept_true some v [] few are held = refl
kept_true some v (candidate ∷ kept) few are held =
    and_from (truth_of v (candidate_formula candidate)) (list_all (truth_of v) (map candidate_formula kept))
    (sym (candidate_same some v candidate few (All-head (λ (one : Candidate). is_about some one ≡ true) candidate kept are))
    ∙ All-head (λ (one : Candidate). candidate_truth (values_from v 0 some) one ≡ true) candidate kept held)
    (kept_true some v kept few (All-tail (λ (one : Candidate). is_about some one ≡ true) candidate kept are) (All-tail (λ (one : Candidate). candidate_truth (values_from v 0 some) one ≡ true) candidate kept held))
