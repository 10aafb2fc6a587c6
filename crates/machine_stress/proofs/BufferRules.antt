-- The buffer meets the rule of a monitor.
use Rattle.std.proofs.Common.{◌≡◌, ◌≢◌, ℕ, zero, suc, ◌+◌, ◌^◌, ◌<◌, ◌≤◌, Bool, true, false, ◌&&◌, pos, neg_ℤ, ◌-ℤ◌, List, [], ◌∷◌, get_or, codes, refl, sym, ap, ap₂, subst, ◌∙◌, arith}
use Rattle.std.specs.Prelude.{IsSomeAnd, Option, Some, slice_get}
use Rattle.std.specs.List.{AllPairs, list_any}
use Rattle.std.proofs.lemmas.Int.{ints}
use Rattle.std.proofs.lemmas.Bool.{true≢false}
use Rattle.std.proofs.lemmas.Option.{none-some, same_Some}
use Rattle.std.proofs.lemmas.List.Elements.{All-nil, All-cons}
use Rattle.std.proofs.lemmas.List.Kept.{AllPairs-cons}
use Rattle.lang_base.specs.Identifiers.{IsIdentifier}
use Rattle.lang_base.specs.Numbers.{is_within}
use Rattle.lang_base.specs.declared.kind.Kind.TheVariants as kinds
use Rattle.logic_linear.specs.Linear.{Linear}
use Rattle.logic_linear.specs.Truth.{truth_of}
use Rattle.logic_linear.specs.declared.formula.Formula.{Formula}
use Rattle.logic_linear.specs.declared.formula.Formula.TheVariants as formulas
use Rattle.logic_linear.specs.declared.formula.Formula.TheOpen as rows
use Rattle.logic_linear.specs.declared.formula.Formula.TheFolds.{fold-roll-Formula}
use Rattle.logic_linear.specs.declared.substitution.Put.TheVariants as puts
use Rattle.lang_monitor.specs.declared.monitor.Field.{Field}
use Rattle.lang_monitor.specs.declared.monitor.Method.{Method}
use Rattle.lang_monitor.specs.declared.monitor.Stmt.TheVariants as statements
use Rattle.lang_monitor.specs.declared.monitor.Block.{Block}
use Rattle.lang_monitor.specs.declared.monitor.Condition.{Condition}
use Rattle.lang_monitor.specs.Bodies.{no_inputs, valuation}
use Rattle.lang_monitor.specs.Conditions.{HasCondition, HasFirstBlock, IsDescribed}
use Rattle.lang_monitor.specs.Inputs.{reads_inputs, reads_step, reads_term}
use Rattle.lang_monitor.specs.MonitorParts.{HasOrigin, IsBlockOf, IsMethod, IsMonitor, IsOfKind, IsOwned, Places, fits_block, fits_form, fits_formula, fits_formula_step, fits_put, fits_statement, parts}
use Rattle.lang_monitor.proofs.Statements.{put_part}
use Rattle.machine_stress.specs.LargeInput.{buffer_of, count_and, count_field, counting_block, has_room, has_some, less_count, plain_method, room_shown, shown_condition, some_shown}
use Rattle.machine_stress.proofs.Buffers.{holding, room_needed, some_true}

-- ---- names

named_buffer : IsIdentifier (codes "Buffer")
named_buffer = record { spelled = refl; short = omega arith; no_keyword = refl }

named_count : IsIdentifier (codes "count")
named_count = record { spelled = refl; short = omega arith; no_keyword = refl }

named_put : IsIdentifier (codes "put")
named_put = record { spelled = refl; short = omega arith; no_keyword = refl }

named_get : IsIdentifier (codes "get")
named_get = record { spelled = refl; short = omega arith; no_keyword = refl }

-- names whose first letters differ
differ : (name other : List ℕ) → (get_or name 0 0 ≡ get_or other 0 0 → ⊥) → name ≢ other
differ name other letters same = letters (ap (λ (some : List ℕ). get_or some 0 0) same)

abbrev Differ : List ℕ → List ℕ → Type 0
Differ name other = name ≢ other

distinct_names : AllPairs Differ (codes "count" ∷ codes "put" ∷ codes "get" ∷ [])
distinct_names =
    AllPairs-cons Differ (codes "count") (codes "put" ∷ codes "get" ∷ [])
    (All-cons (Differ (codes "count")) (codes "put") (codes "get" ∷ []) (differ (codes "count") (codes "put") (λ same. omega arith))
    (All-cons (Differ (codes "count")) (codes "get") [] (differ (codes "count") (codes "get") (λ same. omega arith)) (All-nil (Differ (codes "count")))))
    (AllPairs-cons Differ (codes "put") (codes "get" ∷ [])
    (All-cons (Differ (codes "put")) (codes "get") [] (differ (codes "put") (codes "get") (λ same. omega arith)) (All-nil (Differ (codes "put"))))
    (AllPairs-cons Differ (codes "get") [] (All-nil (Differ (codes "get"))) (λ i j d less within. absurd (omega arith))))

-- ---- places and kinds

abbrev places : Places
places = record { fields = kinds.Int ∷ []; inputs = []; locals = [] }

fits_row : (form : Linear) → fits_formula places (formulas.Row form) ≡ fits_form places form
fits_row form = ap (fits_formula places) (sym (formulas.rolls-Row form)) ∙ fold-roll-Formula Bool (fits_formula_step places) (rows.Row form)

fits_assignment : (form : Linear)
    → fits_statement places (statements.Put (puts.Number 0 form)) ≡ fits_form places form
fits_assignment form = put_part (fits_put places) (fits_formula places) (puts.Number 0 form)

fits_both : (number : ℕ) (guard : Formula) (form : Linear) → fits_formula places guard ≡ true
    → fits_form places form ≡ true → fits_block places (counting_block number guard form) ≡ true
fits_both number guard form one other =
    ap₂ (λ (first second : Bool). first && (second && true && true)) one (fits_assignment form ∙ other)

small_room : (capacity : ℕ) → capacity ≤ 7 → is_within (2 ^ 64) (pos 1 -ℤ pos capacity) ≡ true
small_room capacity few = grind (arith, ints)

fits_room : (capacity : ℕ) → capacity ≤ 7 → fits_formula places (has_room capacity) ≡ true
fits_room capacity few = fits_row (count_and (pos 1 -ℤ pos capacity)) ∙ small_room capacity few

put_fits : (capacity : ℕ) → capacity ≤ 7
    → fits_block places (counting_block 0 (has_room capacity) (count_and (pos 1))) ≡ true
put_fits capacity few = fits_both 0 (has_room capacity) (count_and (pos 1)) (fits_room capacity few) refl

get_fits : fits_block places (counting_block 1 has_some (count_and (neg_ℤ (pos 1)))) ≡ true
get_fits = fits_both 1 has_some (count_and (neg_ℤ (pos 1))) (fits_row (less_count (pos 1))) refl

-- ---- conditions

row_reads : (form : Linear) → reads_inputs (formulas.Row form) ≡ list_any reads_term form.terms
row_reads form = ap reads_inputs (sym (formulas.rolls-Row form)) ∙ fold-roll-Formula Bool reads_step (rows.Row form)

room_described : (capacity : ℕ) → IsDescribed (shown_condition (has_room capacity) room_shown)
room_described capacity = record {
  inputs = sym (row_reads (count_and (pos 1 -ℤ pos capacity)));
  line = refl;
}

some_described : IsDescribed (shown_condition has_some some_shown)
some_described = record {
  inputs = sym (row_reads (less_count (pos 1)));
  line = refl;
}

-- a state in which the one is false and the other true
guards_differ : (capacity : ℕ) → capacity ≤ 7 → has_room capacity ≢ has_some
guards_differ capacity few same =
    omega (arith, room_needed capacity 8 no_inputs (ap (truth_of (valuation (holding 8) no_inputs)) same ∙ some_true capacity 8 no_inputs (omega arith)))

abbrev HasOther : Condition → Condition → Type 0
HasOther condition other = condition.guard ≢ other.guard

abbrev blocks_of : ℕ → List Block
blocks_of capacity = (buffer_of capacity).blocks

abbrev IsLower : ℕ → Block → Type 0
IsLower number block = block.condition < number

first_blocks : (capacity number : ℕ) → 1 ≤ number → number ≤ 2
    → HasFirstBlock (blocks_of capacity) number
first_blocks capacity zero low high = absurd (omega arith)
first_blocks capacity (suc zero) low high = record { index = 0; has = refl; lower = All-nil (IsLower 1) }
first_blocks capacity (suc (suc zero)) low high =
    record { index = 1; has = refl; lower = All-cons (IsLower 2) (counting_block 0 (has_room capacity) (count_and (pos 1))) [] (omega arith) (All-nil (IsLower 2)) }
first_blocks capacity (suc (suc (suc number))) low high = absurd (omega arith)

-- ---- methods and their blocks

abbrev methods_of : ℕ → List Method
methods_of capacity = (buffer_of capacity).methods

-- a method of no inputs and no locals, and of one block
one_block : (capacity number : ℕ) (name : List ℕ) (block : Block)
    → slice_get (blocks_of capacity) number ≡ Some block
    → IsBlockOf (buffer_of capacity) number 0 (plain_method name number) block
    → IsMethod (buffer_of capacity) number (plain_method name number)
one_block capacity number name block is about = record { few_inputs = omega arith; few_locals = omega arith; some = omega arith; few = omega arith; alone = λ asserts. refl; blocks = by_place }
  where
    by_place : (place : ℕ) → place < 1
        → IsSomeAnd (slice_get (blocks_of capacity) (number + place))
        (λ block. IsBlockOf (buffer_of capacity) number place (plain_method name number) block)
    by_place zero within =
        let same : number + 0 ≡ number = omega arith in
        subst (λ (found : Option Block). IsSomeAnd found (λ block. IsBlockOf (buffer_of capacity) number 0 (plain_method name number) block)) (sym (ap (slice_get (blocks_of capacity)) same ∙ is)) about
    by_place (suc place) within = absurd (omega arith)

asserts_not : {P : Type 0} → false ≡ true → P
asserts_not is = absurd (true≢false (sym is))

methods_fit : (capacity : ℕ) → capacity ≤ 7 → (number : ℕ) (method : Method)
    → slice_get (methods_of capacity) number ≡ Some method
    → IsMethod (buffer_of capacity) number method
methods_fit capacity few zero method is =
    let put = counting_block 0 (has_room capacity) (count_and (pos 1)) in
    subst (IsMethod (buffer_of capacity) 0) (same_Some (plain_method (codes "put") 0) method is)
    (one_block capacity 0 (codes "put") put refl (record { of = refl; fits = put_fits capacity few; answers = λ more. refl; waits = (λ none. absurd (omega (arith, none)), asserts_not) }))
methods_fit capacity few (suc zero) method is =
    let get = counting_block 1 has_some (count_and (neg_ℤ (pos 1))) in
    subst (IsMethod (buffer_of capacity) 1) (same_Some (plain_method (codes "get") 1) method is)
    (one_block capacity 1 (codes "get") get refl (record { of = refl; fits = get_fits; answers = λ more. refl; waits = (λ none. absurd (omega (arith, none)), asserts_not) }))
methods_fit capacity few (suc (suc number)) method is = absurd (none-some method is)

blocks_owned : (capacity number : ℕ) (block : Block)
    → slice_get (blocks_of capacity) number ≡ Some block
    → IsOwned (methods_of capacity) number block
blocks_owned capacity zero block is =
    subst (IsOwned (methods_of capacity) 0) (same_Some (counting_block 0 (has_room capacity) (count_and (pos 1))) block is) (omega arith, omega arith)
blocks_owned capacity (suc zero) block is =
    subst (IsOwned (methods_of capacity) 1) (same_Some (counting_block 1 has_some (count_and (neg_ℤ (pos 1)))) block is) (omega arith, omega arith)
blocks_owned capacity (suc (suc number)) block is = absurd (none-some block is)

-- ---- the whole

abbrev StartsRight : Field → Type 0
StartsRight field = IsOfKind field.kind field.start

abbrev StartsOwn : Field → Type 0
StartsOwn field = HasOrigin (count_field ∷ []) field.kind field.origin

buffer_rule : (capacity : ℕ) → capacity ≤ 7 → IsMonitor (buffer_of capacity)
buffer_rule capacity few =
    let put = counting_block 0 (has_room capacity) (count_and (pos 1)) in
    let get = counting_block 1 has_some (count_and (neg_ℤ (pos 1))) in
    let room = shown_condition (has_room capacity) room_shown in
    let some = shown_condition has_some some_shown in
    record {
      few_fields = omega arith;
      few_methods = omega arith;
      few_blocks = omega arith;
      few_conditions = omega arith;
      name = named_buffer;
      names = All-cons IsIdentifier (codes "count") (codes "put" ∷ codes "get" ∷ []) named_count
          (All-cons IsIdentifier (codes "put") (codes "get" ∷ []) named_put (All-cons IsIdentifier (codes "get") [] named_get (All-nil IsIdentifier)));
      distinct = distinct_names;
      starts = All-cons StartsRight count_field [] tt (All-nil StartsRight);
      origins = All-cons StartsOwn count_field [] tt (All-nil StartsOwn);
      opens = (refl, tt);
      methods = methods_fit capacity few;
      in_turn = (refl, (refl, refl));
      owned = blocks_owned capacity;
      conditions = All-cons (HasCondition (room ∷ some ∷ [])) put (get ∷ []) (λ numbered. refl)
          (All-cons (HasCondition (room ∷ some ∷ [])) get [] (λ numbered. refl) (All-nil (HasCondition (room ∷ some ∷ []))));
      described = All-cons IsDescribed room (some ∷ []) (room_described capacity) (All-cons IsDescribed some [] some_described (All-nil IsDescribed));
      different = AllPairs-cons HasOther room (some ∷ []) (All-cons (HasOther room) some [] (guards_differ capacity few) (All-nil (HasOther room)))
          (AllPairs-cons HasOther some [] (All-nil (HasOther some)) (λ i j d less within. absurd (omega arith)));
      in_order = first_blocks capacity;
    }

-- the rule of what is made of these parts
pub made_buffer : (capacity : ℕ) (name : List ℕ) (fields : List Field) (methods : List Method)
    (blocks : List Block) (conditions : List Condition) → capacity ≤ 7
    → name ≡ codes "Buffer" → fields ≡ count_field ∷ []
    → methods ≡ plain_method (codes "put") 0 ∷ plain_method (codes "get") 1 ∷ []
    → blocks ≡ blocks_of capacity → conditions ≡ shown_condition
    (has_room capacity) room_shown ∷ shown_condition has_some some_shown ∷ []
    → IsMonitor (parts name fields methods blocks conditions)
made_buffer capacity name fields methods blocks conditions few named hold have run wait =
    subst IsMonitor (λ i. parts (sym named i) (sym hold i) (sym have i) (sym run i) (sym wait i)) (buffer_rule capacity few)
