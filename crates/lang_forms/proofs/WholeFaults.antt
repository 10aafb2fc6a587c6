-- Faults of whole expressions from those of their parts.
use Rattle.std.proofs.Common.{◌≡◌, ℕ, zero, suc, ◌+◌, ◌<◌, Bool, true, false, pos, neg_ℤ, List, [], ◌∷◌, ◌++◌, length, get_or, map, drop, Option, Some, None, Result, Ok, Err, IfOk, refl, sym, ap, subst, ◌∙◌, append_assoc, arith, add-one}
use Rattle.std.specs.Prelude.{if◌then◌else◌, ◌||◌}
use Rattle.std.specs.List.{All, flat_map, fold}
use Rattle.std.specs.Option.{option_or}
use Rattle.std.proofs.lemmas.List.{append-nil}
use Rattle.lang_tree.specs.declared.tree.Op.{Op}
use Rattle.lang_tree.specs.declared.tree.Expr.{Expr}
use Rattle.lang_tree.specs.declared.tree.Addend.{Addend}
use Rattle.lang_tree.specs.declared.tree.Factor.{Factor}
use Rattle.lang_tree.specs.declared.tree.Expr.TheVariants as exprs
use Rattle.lang_base.specs.declared.kind.Kind.{Kind}
use Rattle.lang_base.specs.declared.kind.Kind.TheVariants as kinds
use Rattle.lang_base.specs.declared.source_fault.SourceFault.{SourceFault}
use Rattle.lang_base.specs.declared.source_fault.Refusal.TheVariants as refusals
use Rattle.lang_forms.specs.declared.scope.Entry.{Entry}
use Rattle.lang_base.specs.SourceFaults.{fault_at, least, order, ◌or_else◌}
use Rattle.lang_base.specs.SourceFaults.{earlier_of}
use Rattle.lang_forms.specs.Forms.{Form, is_constant, is_limited, minus, product, scaled}
use Rattle.lang_forms.specs.inner.FormBounds.{IsFormOf}
use Rattle.lang_forms.specs.Making.{IsInt, has_small_numbers}
use Rattle.lang_forms.specs.inner.Parts.{addend_sense, factor_sense}
use Rattle.lang_forms.specs.Sense.{Sense, FactorSense, is_other, large_form, part_faults, product_faults, sense, sum_form, wrong_type}
use Rattle.lang_forms.proofs.SenseLayers.{sense-Minus, sense-Not, sense-Product, sense-Sum, sense-Compare, sense-Both, sense-Either}
use Rattle.lang_forms.proofs.SoundSenses.{every_sense_is_sound}
use Rattle.lang_base.proofs.Least.{earlier_not_none, least_append}
use Rattle.lang_forms.proofs.LeastLaws.{least_or_else, none_is_least}
use Rattle.lang_forms.proofs.MakingLemmas.{rest_after}

-- ---- a whole of some parts

abbrev pub broken_by : List Sense → List SourceFault
broken_by parts = flat_map (λ part. part.faults) parts

abbrev pub wrong_of : Kind → List Sense → List SourceFault
wrong_of wanted parts = flat_map (wrong_type wanted) parts

least_parts : (wanted : Kind) (parts : List Sense) → least (part_faults wanted parts) ≡ option_or (least (broken_by parts)) (least (wrong_of wanted parts))
least_parts wanted parts = least_or_else (broken_by parts) (wrong_of wanted parts)

least_whole : (wanted : Kind) (parts : List Sense) (whole : List SourceFault) → least (part_faults wanted parts or_else whole) ≡ option_or (option_or (least (broken_by parts)) (least (wrong_of wanted parts))) (least whole)
least_whole wanted parts whole = least_or_else (part_faults wanted parts) whole ∙ ap (λ fault. option_or fault (least whole)) (least_parts wanted parts)

-- ---- the lists of parts, from the faults that the code finds

least_of_one : (of : Sense → List SourceFault) (part : Sense) → least (flat_map of (part ∷ [])) ≡ least (of part)
least_of_one of part = ap least (append-nil (of part))

least_of_first : (of : Sense → List SourceFault) (first : Sense) (rest : List Sense) → least (flat_map of (first ∷ rest)) ≡ earlier_of (least (of first)) (least (flat_map of rest))
least_of_first of first rest = least_append order (of first) (flat_map of rest)

least_of_two : (of : Sense → List SourceFault) (left right : Sense) → least (flat_map of (left ∷ right ∷ [])) ≡ earlier_of (least (of left)) (least (of right))
least_of_two of left right = least_of_first of left (right ∷ []) ∙ ap (earlier_of (least (of left))) (least_of_one of right)

of_addends : (of : Sense → List SourceFault) (scope : List Entry) (rest : List Addend) → flat_map of (map (λ addend. addend.of) (map (addend_sense scope) rest)) ≡ flat_map (λ addend. of (sense scope addend.of)) rest
of_addends of scope [] = refl
of_addends of scope (addend ∷ rest) = ap (λ more. of (sense scope addend.of) ++ more) (of_addends of scope rest)

of_factors : (of : Sense → List SourceFault) (scope : List Entry) (rest : List Factor) → flat_map of (map (λ factor. factor.of) (map (factor_sense scope) rest)) ≡ flat_map (λ factor. of (sense scope factor.of)) rest
of_factors of scope [] = refl
of_factors of scope (factor ∷ rest) = ap (λ more. of (sense scope factor.of) ++ more) (of_factors of scope rest)

of_parts : (of : Sense → List SourceFault) (scope : List Entry) (parts : List Expr) → flat_map of (map (sense scope) parts) ≡ flat_map (λ part. of (sense scope part)) parts
of_parts of scope [] = refl
of_parts of scope (part ∷ parts) = ap (λ more. of (sense scope part) ++ more) (of_parts of scope parts)

-- parts that are wrong, as a fold gathers them
least_fold : {X : Type 0} (of : X → List SourceFault) (these : List SourceFault) (xs : List X) → fold (λ found x. earlier_of found (least (of x))) (least these) xs ≡ least (these ++ flat_map of xs)
least_fold of these [] = ap least (sym (append-nil these))
least_fold of these (x ∷ xs) =
    ap (λ found. fold (λ one x. earlier_of one (least (of x))) found xs) (sym (least_append order these (of x)))
    ∙ least_fold of (these ++ of x) xs
    ∙ ap least (append_assoc these (of x) (flat_map of xs))

pub wrong_parts : {X : Type 0} (of : X → List SourceFault) (parts : List X) (wrong : Option SourceFault)
    → wrong ≡ fold (λ found x. earlier_of found (least (of x))) None parts
    → wrong ≡ least (flat_map of parts)
wrong_parts of parts wrong is = is ∙ least_fold of [] parts

pub wrong_first : {X : Type 0} (of : X → List SourceFault) (first : List SourceFault) (rest : List X) (one wrong : Option SourceFault)
    → one ≡ least first
    → wrong ≡ fold (λ found x. earlier_of found (least (of x))) one rest
    → wrong ≡ earlier_of (least first) (least (flat_map of rest))
wrong_first of first rest one wrong one_is is =
    is ∙ ap (λ start. fold (λ found x. earlier_of found (least (of x))) start rest) one_is
    ∙ least_fold of first rest
    ∙ least_append order first (flat_map of rest)

-- ---- what is least of all, where the code has found what is broken by parts and which parts are wrong

abbrev pub combined : Option SourceFault → Option SourceFault → List SourceFault → Option SourceFault
combined broken wrong whole = option_or (option_or broken wrong) (least whole)

combine : (wanted : Kind) (parts : List Sense) (whole : List SourceFault) (broken wrong : Option SourceFault) → least (broken_by parts) ≡ broken → least (wrong_of wanted parts) ≡ wrong
    → least (part_faults wanted parts or_else whole) ≡ combined broken wrong whole
combine wanted parts whole broken wrong broken_is wrong_is =
    least_whole wanted parts whole ∙ ap (λ fault. combined fault (least (wrong_of wanted parts)) whole) broken_is ∙ ap (λ fault. combined broken fault whole) wrong_is

combine_parts : (wanted : Kind) (parts : List Sense) (broken wrong : Option SourceFault) → least (broken_by parts) ≡ broken → least (wrong_of wanted parts) ≡ wrong
    → least (part_faults wanted parts) ≡ option_or broken wrong
combine_parts wanted parts broken wrong broken_is wrong_is =
    least_parts wanted parts ∙ ap (λ fault. option_or fault (least (wrong_of wanted parts))) broken_is ∙ ap (option_or broken) wrong_is

-- ---- the rules on wholes

abbrev pub of_opposite : List Entry → ℕ → Expr → List SourceFault
of_opposite scope at of = large_form at (scaled (neg_ℤ (pos 1)) (sense scope of).form)

abbrev pub of_product : List Entry → Expr → List Factor → List SourceFault
of_product scope first rest = product_faults (sense scope first).first (sense scope first).form (map (factor_sense scope) rest)

abbrev pub of_sum : List Entry → Expr → List Addend → List SourceFault
of_sum scope first rest = large_form (sense scope first).first (sum_form (sense scope first).form (map (addend_sense scope) rest))

abbrev pub of_difference : List Entry → Expr → Expr → List SourceFault
of_difference scope left right = large_form (sense scope left).first (minus (sense scope left).form (sense scope right).form)

pub least_Minus : (scope : List Entry) (at : ℕ) (of : Expr) (broken wrong : Option SourceFault)
    → broken ≡ least (sense scope of).faults
    → wrong ≡ least (wrong_type kinds.Int (sense scope of))
    → least (sense scope (exprs.Minus at of)).faults ≡ combined broken wrong (of_opposite scope at of)
least_Minus scope at of broken wrong broken_is wrong_is =
    ap (λ (found : Sense). least found.faults) (sense-Minus scope at of)
    ∙ combine kinds.Int (sense scope of ∷ []) (of_opposite scope at of) broken wrong
    (least_of_one (λ part. part.faults) (sense scope of) ∙ sym broken_is) (least_of_one (wrong_type kinds.Int) (sense scope of) ∙ sym wrong_is)

pub least_Not : (scope : List Entry) (at : ℕ) (of : Expr) (broken wrong : Option SourceFault)
    → broken ≡ least (sense scope of).faults
    → wrong ≡ least (wrong_type kinds.Bool (sense scope of))
    → least (sense scope (exprs.Not at of)).faults ≡ option_or broken wrong
least_Not scope at of broken wrong broken_is wrong_is =
    ap (λ (found : Sense). least found.faults) (sense-Not scope at of)
    ∙ combine_parts kinds.Bool (sense scope of ∷ []) broken wrong
    (least_of_one (λ part. part.faults) (sense scope of) ∙ sym broken_is) (least_of_one (wrong_type kinds.Bool) (sense scope of) ∙ sym wrong_is)

first_factor : (of : Sense → List SourceFault) (scope : List Entry) (first : Expr) (rest : List Factor)
    → least (flat_map of (sense scope first ∷ map (λ factor. factor.of) (map (factor_sense scope) rest))) ≡ earlier_of (least (of (sense scope first))) (least (flat_map (λ factor. of (sense scope factor.of)) rest))
first_factor of scope first rest =
    least_of_first of (sense scope first) (map (λ factor. factor.of) (map (factor_sense scope) rest)) ∙ ap (λ list. earlier_of (least (of (sense scope first))) (least list)) (of_factors of scope rest)

first_addend : (of : Sense → List SourceFault) (scope : List Entry) (first : Expr) (rest : List Addend)
    → least (flat_map of (sense scope first ∷ map (λ addend. addend.of) (map (addend_sense scope) rest))) ≡ earlier_of (least (of (sense scope first))) (least (flat_map (λ addend. of (sense scope addend.of)) rest))
first_addend of scope first rest =
    least_of_first of (sense scope first) (map (λ addend. addend.of) (map (addend_sense scope) rest)) ∙ ap (λ list. earlier_of (least (of (sense scope first))) (least list)) (of_addends of scope rest)

pub least_Product : (scope : List Entry) (first : Expr) (rest : List Factor) (broken wrong : Option SourceFault)
    → broken ≡ earlier_of (least (sense scope first).faults) (least (flat_map (λ factor. (sense scope factor.of).faults) rest))
    → wrong ≡ earlier_of (least (wrong_type kinds.Int (sense scope first))) (least (flat_map (λ factor. wrong_type kinds.Int (sense scope factor.of)) rest))
    → least (sense scope (exprs.Product first rest)).faults ≡ combined broken wrong (of_product scope first rest)
least_Product scope first rest broken wrong broken_is wrong_is =
    ap (λ (found : Sense). least found.faults) (sense-Product scope first rest)
    ∙ combine kinds.Int (sense scope first ∷ map (λ factor. factor.of) (map (factor_sense scope) rest)) (of_product scope first rest) broken wrong
    (first_factor (λ part. part.faults) scope first rest ∙ sym broken_is) (first_factor (wrong_type kinds.Int) scope first rest ∙ sym wrong_is)

pub least_Sum : (scope : List Entry) (first : Expr) (rest : List Addend) (broken wrong : Option SourceFault)
    → broken ≡ earlier_of (least (sense scope first).faults) (least (flat_map (λ addend. (sense scope addend.of).faults) rest))
    → wrong ≡ earlier_of (least (wrong_type kinds.Int (sense scope first))) (least (flat_map (λ addend. wrong_type kinds.Int (sense scope addend.of)) rest))
    → least (sense scope (exprs.Sum first rest)).faults ≡ combined broken wrong (of_sum scope first rest)
least_Sum scope first rest broken wrong broken_is wrong_is =
    ap (λ (found : Sense). least found.faults) (sense-Sum scope first rest)
    ∙ combine kinds.Int (sense scope first ∷ map (λ addend. addend.of) (map (addend_sense scope) rest)) (of_sum scope first rest) broken wrong
    (first_addend (λ part. part.faults) scope first rest ∙ sym broken_is) (first_addend (wrong_type kinds.Int) scope first rest ∙ sym wrong_is)

pub least_Compare : (scope : List Entry) (op : Op) (left right : Expr) (broken wrong : Option SourceFault)
    → broken ≡ earlier_of (least (sense scope left).faults) (least (sense scope right).faults)
    → wrong ≡ earlier_of (least (wrong_type kinds.Int (sense scope left))) (least (wrong_type kinds.Int (sense scope right)))
    → least (sense scope (exprs.Compare op left right)).faults ≡ combined broken wrong (of_difference scope left right)
least_Compare scope op left right broken wrong broken_is wrong_is =
    ap (λ (found : Sense). least found.faults) (sense-Compare scope op left right)
    ∙ combine kinds.Int (sense scope left ∷ sense scope right ∷ []) (of_difference scope left right) broken wrong
    (least_of_two (λ part. part.faults) (sense scope left) (sense scope right) ∙ sym broken_is) (least_of_two (wrong_type kinds.Int) (sense scope left) (sense scope right) ∙ sym wrong_is)

least_of_parts : (scope : List Entry) (parts : List Expr) (broken wrong : Option SourceFault)
    → broken ≡ least (flat_map (λ part. (sense scope part).faults) parts)
    → wrong ≡ least (flat_map (λ part. wrong_type kinds.Bool (sense scope part)) parts)
    → least (part_faults kinds.Bool (map (sense scope) parts)) ≡ option_or broken wrong
least_of_parts scope parts broken wrong broken_is wrong_is =
    combine_parts kinds.Bool (map (sense scope) parts) broken wrong
    (ap least (of_parts (λ part. part.faults) scope parts) ∙ sym broken_is) (ap least (of_parts (wrong_type kinds.Bool) scope parts) ∙ sym wrong_is)

pub least_Both : (scope : List Entry) (parts : List Expr) (broken wrong : Option SourceFault)
    → broken ≡ least (flat_map (λ part. (sense scope part).faults) parts)
    → wrong ≡ least (flat_map (λ part. wrong_type kinds.Bool (sense scope part)) parts)
    → least (sense scope (exprs.Both parts)).faults ≡ option_or broken wrong
least_Both scope parts broken wrong broken_is wrong_is = ap (λ (found : Sense). least found.faults) (sense-Both scope parts) ∙ least_of_parts scope parts broken wrong broken_is wrong_is

pub least_Either : (scope : List Entry) (parts : List Expr) (broken wrong : Option SourceFault)
    → broken ≡ least (flat_map (λ part. (sense scope part).faults) parts)
    → wrong ≡ least (flat_map (λ part. wrong_type kinds.Bool (sense scope part)) parts)
    → least (sense scope (exprs.Either parts)).faults ≡ option_or broken wrong
least_Either scope parts broken wrong broken_is wrong_is = ap (λ (found : Sense). least found.faults) (sense-Either scope parts) ∙ least_of_parts scope parts broken wrong broken_is wrong_is

-- ---- where the code has found a fault, and where it has found none

pub whole_some : (broken wrong : Option SourceFault) (fault : SourceFault) (every : Option SourceFault) (whole : List SourceFault) → Some fault ≡ option_or broken wrong → every ≡ combined broken wrong whole → Some fault ≡ every
whole_some broken wrong fault every whole found is = sym (is ∙ ap (λ first. option_or first (least whole)) (sym found))

pub whole_none : {E : Type 0} (broken wrong : Option SourceFault) (every : Option SourceFault) (whole : List SourceFault) (r : Result (Option SourceFault) E) → None ≡ option_or broken wrong → every ≡ combined broken wrong whole
    → IfOk r (λ fault. fault ≡ least whole) → IfOk r (λ fault. fault ≡ every)
whole_none broken wrong every whole (Ok fault) none is h = h ∙ sym (is ∙ ap (λ first. option_or first (least whole)) (sym none))
whole_none broken wrong every whole (Err error) none is h = h

pub whole_last : (broken wrong every fault : Option SourceFault) (whole : List SourceFault) → None ≡ option_or broken wrong → every ≡ combined broken wrong whole → fault ≡ least whole → fault ≡ every
whole_last broken wrong every fault whole none is h = h ∙ sym (is ∙ ap (λ first. option_or first (least whole)) (sym none))

-- ---- parts that break no rule and are int

both_none : (one other : Option SourceFault) → None ≡ option_or one other → (one ≡ None) × (other ≡ None)
both_none None other none = (refl, sym none)
both_none (Some fault) other none = absurd (cc)

earlier_both_none : (one other : Option SourceFault) → earlier_of one other ≡ None → (one ≡ None) × (other ≡ None)
earlier_both_none None other none = (refl, none)
earlier_both_none (Some fault) other none = absurd (earlier_not_none order fault other none)

is_wanted : (test : Bool) (fault : SourceFault) → least (if test then fault ∷ [] else []) ≡ None → test ≡ false
is_wanted true fault none = absurd (cc)
is_wanted false fault none = refl

int_part : (scope : List Entry) (part : Expr) → least (sense scope part).faults ≡ None → least (wrong_type kinds.Int (sense scope part)) ≡ None → IsInt scope part
int_part scope part none same = record { fine = none_is_least (sense scope part).faults none; int = is_wanted (is_other kinds.Int (sense scope part).kind) (fault_at refusals.WrongType (sense scope part).first) same }

no_first : (these those : List SourceFault) → (these ++ those) ≡ [] → these ≡ []
no_first [] those none = refl
no_first (fault ∷ these) those none = absurd (cc)

no_later : (these those : List SourceFault) → (these ++ those) ≡ [] → those ≡ []
no_later [] those none = none
no_later (fault ∷ these) those none = absurd (cc)

empty_at : {X : Type 0} (of : X → List SourceFault) (xs : List X) → flat_map of xs ≡ [] → (k : ℕ) (d : X) → k < length xs → of (get_or xs k d) ≡ []
empty_at of [] none k d less = absurd (omega arith)
empty_at of (x ∷ xs) none zero d less = no_first (of x) (flat_map of xs) none
empty_at of (x ∷ xs) none (suc k) d less = empty_at of xs (no_later (of x) (flat_map of xs) none) k d (omega arith)

-- one part, as the code finds it
pub int_alone : (scope : List Entry) (part : Expr) (broken wrong : Option SourceFault)
    → broken ≡ least (sense scope part).faults
    → wrong ≡ least (wrong_type kinds.Int (sense scope part))
    → None ≡ option_or broken wrong
    → IsInt scope part
int_alone scope part broken wrong broken_is wrong_is none =
    let both = both_none broken wrong none in int_part scope part (sym broken_is ∙ both.0) (sym wrong_is ∙ both.1)

int_at : {X : Type 0} (scope : List Entry) (of : X → Expr) (xs : List X) → least (flat_map (λ x. (sense scope (of x)).faults) xs) ≡ None → least (flat_map (λ x. wrong_type kinds.Int (sense scope (of x))) xs) ≡ None → All (λ x. IsInt scope (of x)) xs
int_at scope of xs none same = λ k d less. int_part scope (of (get_or xs k d))
    (ap least (empty_at (λ x. (sense scope (of x)).faults) xs (none_is_least (flat_map (λ x. (sense scope (of x)).faults) xs) none) k d less))
    (ap least (empty_at (λ x. wrong_type kinds.Int (sense scope (of x))) xs (none_is_least (flat_map (λ x. wrong_type kinds.Int (sense scope (of x))) xs) same) k d less))

-- the first part and those after it
pub record AreInts {X : Type 0} (scope : List Entry) (of : X → Expr) (first : Expr) (rest : List X) : Type 0 where
  pub first_int : IsInt scope first
  pub rest_int : All (λ x. IsInt scope (of x)) rest

pub ints_of : {X : Type 0} (scope : List Entry) (of : X → Expr) (first : Expr) (rest : List X) (broken wrong : Option SourceFault)
    → broken ≡ earlier_of (least (sense scope first).faults) (least (flat_map (λ x. (sense scope (of x)).faults) rest))
    → wrong ≡ earlier_of (least (wrong_type kinds.Int (sense scope first))) (least (flat_map (λ x. wrong_type kinds.Int (sense scope (of x))) rest))
    → None ≡ option_or broken wrong
    → AreInts scope of first rest
ints_of scope of first rest broken wrong broken_is wrong_is none =
    let both = both_none broken wrong none in
    let fine = earlier_both_none (least (sense scope first).faults) (least (flat_map (λ x. (sense scope (of x)).faults) rest)) (sym broken_is ∙ both.0) in
    let same = earlier_both_none (least (wrong_type kinds.Int (sense scope first))) (least (flat_map (λ x. wrong_type kinds.Int (sense scope (of x))) rest)) (sym wrong_is ∙ both.1) in
    record { first_int = int_part scope first fine.0 same.0; rest_int = int_at scope of rest fine.1 same.1 }

-- both sides of a comparison
pub record AreBothInt (scope : List Entry) (left right : Expr) : Type 0 where
  pub left_int : IsInt scope left
  pub right_int : IsInt scope right

pub both_int : (scope : List Entry) (left right : Expr) (broken wrong : Option SourceFault)
    → broken ≡ earlier_of (least (sense scope left).faults) (least (sense scope right).faults)
    → wrong ≡ earlier_of (least (wrong_type kinds.Int (sense scope left))) (least (wrong_type kinds.Int (sense scope right)))
    → None ≡ option_or broken wrong
    → AreBothInt scope left right
both_int scope left right broken wrong broken_is wrong_is none =
    let both = both_none broken wrong none in
    let fine = earlier_both_none (least (sense scope left).faults) (least (sense scope right).faults) (sym broken_is ∙ both.0) in
    let same = earlier_both_none (least (wrong_type kinds.Int (sense scope left))) (least (wrong_type kinds.Int (sense scope right))) (sym wrong_is ∙ both.1) in
    record { left_int = int_part scope left fine.0 same.0; right_int = int_part scope right fine.1 same.1 }

-- ---- products, from left to right

-- what is left to find before the factor at an index
abbrev pub from_factor : List Entry → ℕ → Form → List Factor → ℕ → List SourceFault
from_factor scope at before rest k = product_faults at before (map (factor_sense scope) (drop k rest))

factor_turn : (scope : List Entry) (at : ℕ) (before next : Form) (rest : List Factor) (k : ℕ) (factor : Factor) → factor ≡ get_or rest k factor → k < length rest → next ≡ (sense scope factor.of).form
    → from_factor scope at before rest k
    ≡ (if is_constant before || is_constant next then large_form at (product before next) or_else from_factor scope at (product before next) rest (suc k) else fault_at refusals.NotLinear factor.at ∷ [])
factor_turn scope at before next rest k factor is less next_is =
    ap (product_faults at before) (rest_after (factor_sense scope) rest k factor is less)
    ∙ ap (λ form. if is_constant before || is_constant form then large_form at (product before form) or_else from_factor scope at (product before form) rest (suc k) else fault_at refusals.NotLinear factor.at ∷ []) (sym next_is)

pub not_linear : (scope : List Entry) (at : ℕ) (before next : Form) (rest : List Factor) (k : ℕ) (factor : Factor) → factor ≡ get_or rest k factor → k < length rest → next ≡ (sense scope factor.of).form
    → (is_constant before || is_constant next) ≡ false
    → least (from_factor scope at before rest k) ≡ Some (fault_at refusals.NotLinear factor.at)
not_linear scope at before next rest k factor is less next_is linear =
    ap least (factor_turn scope at before next rest k factor is less next_is)
    ∙ ap (λ (test : Bool). least (if test then large_form at (product before next) or_else from_factor scope at (product before next) rest (suc k) else fault_at refusals.NotLinear factor.at ∷ [])) linear

linear_turn : (scope : List Entry) (at : ℕ) (before next after : Form) (rest : List Factor) (k : ℕ) (factor : Factor) → factor ≡ get_or rest k factor → k < length rest → next ≡ (sense scope factor.of).form
    → (is_constant before || is_constant next) ≡ true
    → after ≡ product before next
    → from_factor scope at before rest k ≡ (large_form at after or_else from_factor scope at after rest (suc k))
linear_turn scope at before next after rest k factor is less next_is linear after_is =
    factor_turn scope at before next rest k factor is less next_is
    ∙ ap (λ (test : Bool). if test then large_form at (product before next) or_else from_factor scope at (product before next) rest (suc k) else fault_at refusals.NotLinear factor.at ∷ []) linear
    ∙ ap (λ form. large_form at form or_else from_factor scope at form rest (suc k)) (sym after_is)

pub too_large : (scope : List Entry) (at : ℕ) (before next after : Form) (rest : List Factor) (k : ℕ) (factor : Factor) → factor ≡ get_or rest k factor → k < length rest → next ≡ (sense scope factor.of).form
    → (is_constant before || is_constant next) ≡ true
    → after ≡ product before next
    → is_limited after ≡ false
    → least (from_factor scope at before rest k) ≡ Some (fault_at refusals.TooLarge at)
too_large scope at before next after rest k factor is less next_is linear after_is limited =
    ap least (linear_turn scope at before next after rest k factor is less next_is linear after_is)
    ∙ ap (λ (test : Bool). least ((if test then [] else fault_at refusals.TooLarge at ∷ []) or_else from_factor scope at after rest (suc k))) limited

pub goes_on : (scope : List Entry) (at : ℕ) (before next after : Form) (rest : List Factor) (k : ℕ) (factor : Factor) → factor ≡ get_or rest k factor → k < length rest → next ≡ (sense scope factor.of).form
    → (is_constant before || is_constant next) ≡ true
    → after ≡ product before next
    → is_limited after ≡ true
    → from_factor scope at before rest k ≡ from_factor scope at after rest (k + 1)
goes_on scope at before next after rest k factor is less next_is linear after_is limited =
    rw (add-one k) (linear_turn scope at before next after rest k factor is less next_is linear after_is
    ∙ ap (λ (test : Bool). (if test then [] else fault_at refusals.TooLarge at ∷ []) or_else from_factor scope at after rest (suc k)) limited)

-- ---- forms of parts

pub int_limited : (scope : List Entry) (part : Expr) (form : Form) → has_small_numbers scope ≡ true → IsInt scope part → form ≡ (sense scope part).form → is_limited form ≡ true
int_limited scope part form small int is = ap is_limited is ∙ (every_sense_is_sound scope small part).limited int.fine int.int

pub part_of_scope : (scope : List Entry) (part : Expr) (form : Form) → has_small_numbers scope ≡ true → form ≡ (sense scope part).form → IsFormOf scope form
part_of_scope scope part form small is = subst (IsFormOf scope) (sym is) (every_sense_is_sound scope small part).of_scope

pub int_at_index : {X : Type 0} (scope : List Entry) (of : X → Expr) (xs : List X) (k : ℕ) (x : X) → x ≡ get_or xs k x → k < length xs → All (λ x. IsInt scope (of x)) xs → IsInt scope (of x)
int_at_index scope of xs k x is less each = subst (λ y. IsInt scope (of y)) (sym is) (each k x less)

-- ---- what the code has put together

pub earlier_same : (one other first second found : Option SourceFault) → found ≡ earlier_of one other → one ≡ first → other ≡ second → found ≡ earlier_of first second
earlier_same one other first second found is one_is other_is = is ∙ ap (λ fault. earlier_of fault other) one_is ∙ ap (earlier_of first) other_is

pub large_same : (at place : ℕ) (form other : Form) (found : Option SourceFault) → found ≡ least (large_form at form) → at ≡ place → form ≡ other → found ≡ least (large_form place other)
large_same at place form other found is at_is form_is = is ∙ ap (λ here. least (large_form here form)) at_is ∙ ap (λ it. least (large_form place it)) form_is

pub product_same : {E : Type 0} (at place : ℕ) (form other : Form) (rest : List FactorSense) (r : Result (Option SourceFault) E) → at ≡ place → form ≡ other
    → IfOk r (λ fault. fault ≡ least (product_faults at form rest)) → IfOk r (λ fault. fault ≡ least (product_faults place other rest))
product_same at place form other rest (Ok fault) at_is form_is h = h ∙ ap (λ here. least (product_faults here form rest)) at_is ∙ ap (λ it. least (product_faults place it rest)) form_is
product_same at place form other rest (Err error) at_is form_is h = h
