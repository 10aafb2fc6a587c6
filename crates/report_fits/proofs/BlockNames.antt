-- Names of blocks: that each names one.
use Rattle.std.proofs.Common.{◌≡◌, ℕ, ◌+◌, ◌-◌, ◌<◌, ◌≤◌, ◌^◌, Bool, true, false, cond, nat_le, List, [], ◌∷◌, ◌++◌, length, map, get_or, Option, Some, None, inl, inr, codes, decimal, refl, sym, ap, subst, ◌∙◌, append_assoc, length-append, arith}
use Rattle.std.specs.Prelude.{IsSomeAnd, option_map, slice_get}
use Rattle.std.specs.List.{list_all}
use Rattle.std.specs.Option.{option_map_or}
use Rattle.std.proofs.lemmas.Bool.{cases_order, leb-true}
use Rattle.std.proofs.lemmas.List.{get_or-append-add, length-map}
use Rattle.std.proofs.lemmas.Option.{get_or_from_slice_get, none-some, same_Some, slice_get-map, slice_get_within}
use Rattle.lang_base.specs.Identifiers.{is_digit, is_word_byte}
use Rattle.lang_base.proofs.Cuts.{cut, same_rest, stops}
use Rattle.lang_base.proofs.Numerals.{decimal_digits, same_number}
use Rattle.lang_monitor.specs.declared.monitor.Block.{Block}
use Rattle.lang_monitor.specs.declared.monitor.Method.{Method}
use Rattle.lang_monitor.specs.MonitorParts.{IsMonitor, MonitorParts, names_of}
use Rattle.machine_events.specs.PlanText.{block_mark, block_name, method_name, name_in}
use Rattle.report_text.proofs.Names.{method_words}
use Rattle.report_verdict.proofs.Pairs.{at_place}

-- ---- methods

name_at : (methods : List Method) (place : ℕ) (held : Method) → slice_get methods place ≡ Some held → get_or (map (λ method. method.name) methods) place [] ≡ held.name
name_at methods place held there =
    get_or_from_slice_get (map (λ method. method.name) methods) place held.name [] (slice_get-map (λ method. method.name) methods place ∙ ap (option_map (λ (method : Method). method.name)) there)

named_at : (monitor : MonitorParts) (place : ℕ) (held : Method) → slice_get monitor.methods place ≡ Some held
    → get_or (names_of monitor) (length (map (λ field. field.name) monitor.fields) + place) [] ≡ held.name
named_at monitor place held there =
    get_or-append-add (map (λ field. field.name) monitor.fields) (map (λ method. method.name) monitor.methods) place [] ∙ name_at monitor.methods place held there

many_names : (monitor : MonitorParts) → length (names_of monitor) ≡ length (map (λ field. field.name) monitor.fields) + length monitor.methods
many_names monitor =
    let fields : List (List ℕ) = map (λ field. field.name) monitor.fields in
    let methods : List (List ℕ) = map (λ method. method.name) monitor.methods in
    omega (arith, length-append fields methods, length-map monitor.methods (λ method. method.name))

not_before : (monitor : MonitorParts) (place other : ℕ) (held also : Method) → IsMonitor monitor → slice_get monitor.methods place ≡ Some held
    → slice_get monitor.methods other ≡ Some also → held.name ≡ also.name → place < other → ⊥
not_before monitor place other held also rule there here same below =
    let first : ℕ = length (map (λ field. field.name) monitor.fields) in
    rule.distinct (first + place) (first + other) [] (omega (arith, below)) (omega (arith, many_names monitor, slice_get_within monitor.methods other also here))
    (named_at monitor place held there ∙ same ∙ sym (named_at monitor other also here))

same_method : (monitor : MonitorParts) (place other : ℕ) (held also : Method) → IsMonitor monitor → slice_get monitor.methods place ≡ Some held
    → slice_get monitor.methods other ≡ Some also → held.name ≡ also.name → held ≡ also
same_method monitor place other held also rule there here same = elim (cases_order place other) [
  | inl is ↦ same_Some held also (sym there ∙ ap (slice_get monitor.methods) is ∙ here)
  | inr (inl below) ↦ absurd (not_before monitor place other held also rule there here same below)
  | inr (inr above) ↦ absurd (not_before monitor other place also held rule here there (sym same) above)
]

-- ---- a block of a method

record IsIn (monitor : MonitorParts) (number : ℕ) : Type 0 where
  pub place : ℕ
  pub held : Method
  pub there : slice_get monitor.methods place ≡ Some held
  pub low : held.first ≤ number
  pub high : number < held.first + held.count
  pub named : block_name monitor number ≡ held.name ++ block_mark held.count (number - held.first + 1)
  pub words : list_all is_word_byte held.name ≡ true

owned_in : (monitor : MonitorParts) (number : ℕ) (block : Block) → IsMonitor monitor → slice_get monitor.blocks number ≡ Some block
    → (found : Option Method) → slice_get monitor.methods block.method ≡ found
    → IsSomeAnd found (λ method. (method.first ≤ number) × (number < method.first + method.count)) → IsIn monitor number
owned_in monitor number block rule there None is owned = absurd owned
owned_in monitor number block rule there (Some held) is owned = record {
  place = block.method;
  held = held;
  there = is;
  low = owned.0;
  high = owned.1;
  named =
      ap (λ (one : Option Block). option_map_or (λ block. name_in (slice_get monitor.methods block.method) number) one []) there
      ∙ ap (λ (one : Option Method). name_in one number) is;
  words = ap (λ (one : Option Method). list_all is_word_byte (method_name one)) (sym is) ∙ method_words monitor block.method rule;
}

block_in : (monitor : MonitorParts) (number : ℕ) → IsMonitor monitor → number < length monitor.blocks → IsIn monitor number
block_in monitor number rule within = by_held (slice_get monitor.blocks number) refl
  where
    by_held : (held : Option Block) → slice_get monitor.blocks number ≡ held → IsIn monitor number
    by_held None is = let found = at_place monitor.blocks number within in absurd (none-some found.0 (sym is ∙ found.1))
    by_held (Some block) is = owned_in monitor number block rule is (slice_get monitor.methods block.method) refl (rule.owned number block is)

-- ---- its mark

mark_stops : (count number : ℕ) (more : List ℕ) → stops is_word_byte (block_mark count number ++ 58 ∷ more) ≡ true
mark_stops count number more = by_test (nat_le count 1)
  where
    by_test : (test : Bool) → stops is_word_byte (cond test [] (codes "." ++ decimal number) ++ 58 ∷ more) ≡ true
    by_test true = refl
    by_test false = refl

same_mark : (first count i j : ℕ) (more others : List ℕ) → first ≤ i → i < first + count → first ≤ j → j < first + count → i < 2 ^ 64 → j < 2 ^ 64
    → block_mark count (i - first + 1) ++ 58 ∷ more ≡ block_mark count (j - first + 1) ++ 58 ∷ others → i ≡ j
same_mark first count i j more others low high base top short small same = by_test (nat_le count 1) refl same
  where
    by_test : (test : Bool) → nat_le count 1 ≡ test
        → cond test [] (codes "." ++ decimal (i - first + 1)) ++ 58 ∷ more ≡ cond test [] (codes "." ++ decimal (j - first + 1)) ++ 58 ∷ others → i ≡ j
    by_test true is lines = let few = leb-true count 1 is in omega (arith, few, low, high, base, top)
    by_test false is lines =
        let one : List ℕ = decimal (i - first + 1) in
        let two : List ℕ = decimal (j - first + 1) in
        let parts = cut is_digit one two (58 ∷ more) (58 ∷ others) (decimal_digits (i - first + 1)) (decimal_digits (j - first + 1)) refl refl
        (same_rest 46 46 (one ++ 58 ∷ more) (two ++ 58 ∷ others) lines) in
        let number : i - first + 1 ≡ j - first + 1 = same_number (i - first + 1) (j - first + 1) (omega (arith, short)) (omega (arith, small)) parts.0 in
        omega (arith, number, low, base)

-- a block's name, and then a colon (byte 58)
pub same_block : (monitor : MonitorParts) (i j : ℕ) (more others : List ℕ) → IsMonitor monitor → i < length monitor.blocks → j < length monitor.blocks
    → block_name monitor i ++ 58 ∷ more ≡ block_name monitor j ++ 58 ∷ others → i ≡ j
same_block monitor i j more others rule here there same =
    let one = block_in monitor i rule here in
    let two = block_in monitor j rule there in
    let mark : List ℕ = block_mark one.held.count (i - one.held.first + 1) in
    let other : List ℕ = block_mark two.held.count (j - two.held.first + 1) in
    let lines : one.held.name ++ (mark ++ 58 ∷ more) ≡ two.held.name ++ (other ++ 58 ∷ others) =
    sym (append_assoc one.held.name mark (58 ∷ more)) ∙ ap (λ (name : List ℕ). name ++ 58 ∷ more) (sym one.named) ∙ same
    ∙ ap (λ (name : List ℕ). name ++ 58 ∷ others) two.named ∙ append_assoc two.held.name other (58 ∷ others) in
    let parts = cut is_word_byte one.held.name two.held.name (mark ++ 58 ∷ more) (other ++ 58 ∷ others) one.words two.words
    (mark_stops one.held.count (i - one.held.first + 1) more) (mark_stops two.held.count (j - two.held.first + 1) others) lines in
    let method : two.held ≡ one.held = sym (same_method monitor one.place two.place one.held two.held rule one.there two.there parts.0) in
    let low : one.held.first ≤ j = subst (λ (held : Method). held.first ≤ j) method two.low in
    let high : j < one.held.first + one.held.count = subst (λ (held : Method). j < held.first + held.count) method two.high in
    let marks : mark ++ 58 ∷ more ≡ block_mark one.held.count (j - one.held.first + 1) ++ 58 ∷ others =
    parts.1 ∙ ap (λ (held : Method). block_mark held.count (j - held.first + 1) ++ 58 ∷ others) method in
    same_mark one.held.first one.held.count i j more others one.low one.high low high (omega (arith, here, rule.few_blocks)) (omega (arith, there, rule.few_blocks)) marks
