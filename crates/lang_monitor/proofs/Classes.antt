-- Conditions are the classes of equal guards, in the order of their first blocks.
use Rattle.std.proofs.Common.{◌≡◌, ◌≢◌, ℕ, zero, suc, true, ◌+◌, ◌-◌, ◌<◌, ◌≤◌, ◌⊎◌, ◌↔◌, List, [], ◌∷◌, length, get_or, take, refl, sym, ap, subst, ◌∙◌, arith, inl, inr}
use Rattle.std.specs.Prelude.{Some, None, Option, slice_get, IsSomeAnd}
use Rattle.std.specs.List.{All, AllPairs, Any}
use Rattle.std.proofs.lemmas.List.{get_or-take, get_or_default, length-take}
use Rattle.lang_monitor.specs.declared.monitor.Block.{Block}
use Rattle.lang_monitor.specs.declared.monitor.Method.{Method}
use Rattle.lang_monitor.specs.declared.monitor.Condition.{Condition}
use Rattle.lang_monitor.specs.Conditions.{HasCondition, IsFirstBlock, ShareCondition}
use Rattle.lang_monitor.specs.MonitorParts.{MonitorParts, IsBlockOf, IsMethod, IsMonitor, asserts_in}

-- ---- what stands at a place of a list

pub record IsAt {X : Type 0} (P : X → Type 0) (xs : List X) (index : ℕ) : Type 0 where
  pub within : index < length xs
  pub holds : (d : X) → P (get_or xs index d)

pub at_place : {X : Type 0} (P : X → Type 0) (xs : List X) (index : ℕ) → IsSomeAnd (slice_get xs index) P → IsAt P xs index
at_place P [] index has = absurd has
at_place P (x ∷ xs) zero has = record { within = omega arith; holds = λ d. has }
at_place P (x ∷ xs) (suc index) has = let rest = at_place P xs index has in record { within = omega arith; holds = rest.holds }

which : (a b : ℕ) → (a ≡ b) ⊎ (a < b) ⊎ (b < a)
which a b = grind arith

-- ---- classes

-- two places of conditions with one guard are one place
same_place : (conditions : List Condition) (a b : ℕ) (d : Condition) → AllPairs (λ condition other. condition.guard ≢ other.guard) conditions → a < length conditions → b < length conditions → (get_or conditions a d).guard ≡ (get_or conditions b d).guard → a ≡ b
same_place conditions a b d different a_within b_within same = elim (which a b) [
  | inl equal ↦ equal
  | inr (inl below) ↦ absurd (different a b d below b_within same)
  | inr (inr above) ↦ absurd (different b a d above a_within (sym same))
]

share : (conditions : List Condition) (block other : Block) (d : Condition) → AllPairs (λ condition other. condition.guard ≢ other.guard) conditions → HasCondition conditions block → HasCondition conditions other → ShareCondition block other
share conditions block other d different has other_has first second =
    let one = at_place (λ (condition : Condition). condition.guard ≡ block.guard) conditions (block.condition - 1) (has first) in
    let two = at_place (λ (condition : Condition). condition.guard ≡ other.guard) conditions (other.condition - 1) (other_has second) in (
      λ same. sym (one.holds d) ∙ ap (λ (number : ℕ). (get_or conditions (number - 1) d).guard) same ∙ two.holds d,
      λ same.
          let place = same_place conditions (block.condition - 1) (other.condition - 1) d different one.within two.within (one.holds d ∙ same ∙ sym (two.holds d)) in
          omega arith,
    )

-- some condition, where a block has one
some_condition : (conditions : List Condition) (index : ℕ) (P : Condition → Type 0) → IsSomeAnd (slice_get conditions index) P → Condition
some_condition [] index P has = absurd has
some_condition (condition ∷ conditions) index P has = condition

pub classes : (monitor : MonitorParts) → IsMonitor monitor → All (λ block. All (ShareCondition block) monitor.blocks) monitor.blocks
classes monitor rule = λ k d within j other below first second.
    let has = rule.conditions k d within in
    share monitor.conditions (get_or monitor.blocks k d) (get_or monitor.blocks j other) (some_condition monitor.conditions _ _ (has first)) rule.different has (rule.conditions j other below) first second

-- ---- numbers

in_range : (conditions : List Condition) (block : Block) (number : ℕ) → HasCondition conditions block → block.condition ≡ number → 1 ≤ number → number ≤ length conditions
in_range conditions block number has is some =
    let one : 1 ≤ block.condition = omega arith in
    let place = at_place (λ (condition : Condition). condition.guard ≡ block.guard) conditions (block.condition - 1) (has one) in
    let within = place.within in
    omega arith

abbrev Has : ℕ → Block → Type 0
Has number block = block.condition ≡ number

some_block : (blocks : List Block) (number index : ℕ) → IsSomeAnd (slice_get blocks index) (Has number) → Any (Has number) blocks
some_block [] number index has = absurd has
some_block (block ∷ blocks) number index has =
    let place = at_place (Has number) (block ∷ blocks) index has in
    (index, get_or (block ∷ blocks) index block, place.within, get_or_default (block ∷ blocks) index _ _ place.within, place.holds block)

pub numbers : (monitor : MonitorParts) (number : ℕ) → IsMonitor monitor → 1 ≤ number → (number ≤ length monitor.conditions) ↔ Any (λ block. block.condition ≡ number) monitor.blocks
numbers monitor number rule some = (
  λ range. let first = rule.in_order number some range in some_block monitor.blocks number first.index first.has,
  λ (k, block, within, at, is).
      in_range monitor.conditions (get_or monitor.blocks k block) number (rule.conditions k block within) (ap (λ (b : Block). b.condition) at ∙ is) some,
)

-- ---- order

-- what holds of the elements before a place, at one of them
taken : {X : Type 0} (P : X → Type 0) (xs : List X) (index k : ℕ) (d : X) → All P (take index xs) → k < index → k < length xs → P (get_or xs k d)
taken P xs index k d each below within =
    subst P (get_or-take index xs k d below) (each k d (omega (arith, length-take index xs)))

-- the blocks before the first one of a condition have conditions of lower numbers
lower_before : (monitor : MonitorParts) (number index k : ℕ) (d : Block) → IsMonitor monitor → 1 ≤ number → IsFirstBlock monitor.blocks number index → k < index → (get_or monitor.blocks k d).condition < number
lower_before monitor number index k d rule some first below =
    let place = at_place (Has number) monitor.blocks index first.has in
    let within = place.within in
    let range = in_range monitor.conditions (get_or monitor.blocks index d) number (rule.conditions index d within) (place.holds d) some in
    let rule_first = rule.in_order number some range in
    let rule_place = at_place (Has number) monitor.blocks rule_first.index rule_first.has in
    elim (which rule_first.index index) [
      | inl same ↦ taken (λ (block : Block). block.condition < number) monitor.blocks rule_first.index k d rule_first.lower (omega arith) (omega arith)
      | inr (inl earlier) ↦ absurd (taken (λ (block : Block). block.condition ≢ number) monitor.blocks index rule_first.index d first.none earlier rule_place.within (rule_place.holds d))
      | inr (inr later) ↦
          let is = place.holds d in
          let less = taken (λ (block : Block). block.condition < number) monitor.blocks rule_first.index index d rule_first.lower later within in
          absurd (omega arith)
    ]

in_order : (monitor : MonitorParts) (number other first later : ℕ) (d : Block) → IsMonitor monitor → 1 ≤ number → 1 ≤ other → IsFirstBlock monitor.blocks number first → IsFirstBlock monitor.blocks other later → (number < other) ↔ (first < later)
in_order monitor number other first later d rule some other_some one two =
    let one_is = (at_place (Has number) monitor.blocks first one.has).holds d in
    let two_is = (at_place (Has other) monitor.blocks later two.has).holds d in (
      λ less. elim (which first later) [
        | inl same ↦
            let equal = ap (λ (index : ℕ). (get_or monitor.blocks index d).condition) same in
            absurd (omega arith)
        | inr (inl earlier) ↦ earlier
        | inr (inr after) ↦ let lower = lower_before monitor number first later d rule some one after in absurd (omega arith)
      ],
      λ earlier. let lower = lower_before monitor other later first d rule other_some two earlier in omega arith,
    )

pub some_of : (blocks : List Block) (index : ℕ) (P : Block → Type 0) → IsSomeAnd (slice_get blocks index) P → Block
some_of [] index P has = absurd has
some_of (block ∷ blocks) index P has = block

pub order : (monitor : MonitorParts) (number other first later : ℕ) → IsMonitor monitor → 1 ≤ number → 1 ≤ other → IsFirstBlock monitor.blocks number first → IsFirstBlock monitor.blocks other later → (number < other) ↔ (first < later)
order monitor number other first later rule some other_some one two = in_order monitor number other first later (some_of monitor.blocks first (Has number) one.has) rule some other_some one two

-- ---- the block of a condition

-- some block has the guard of the condition
pub record HasBlock (blocks : List Block) (condition : Condition) : Type 0 where
  pub block : ℕ
  pub guard : IsSomeAnd (slice_get blocks block) (λ held. held.guard ≡ condition.guard)

is_there : {X : Type 0} (xs : List X) (index : ℕ) (x : X) → slice_get xs index ≡ Some x → IsAt (λ held. held ≡ x) xs index
is_there xs index x is = at_place (λ held. held ≡ x) xs index (subst (λ found. IsSomeAnd found (λ held. held ≡ x)) (sym is) refl)

there_has : {X : Type 0} (P : X → Type 0) (xs : List X) (index : ℕ) → index < length xs → ((d : X) → P (get_or xs index d)) → IsSomeAnd (slice_get xs index) P
there_has P [] index within holds = absurd (omega arith)
there_has P (x ∷ xs) zero within holds = holds x
there_has P (x ∷ xs) (suc index) within holds = there_has P xs index (omega arith) holds

pub condition_block : (monitor : MonitorParts) (index : ℕ) (condition : Condition) → IsMonitor monitor → slice_get monitor.conditions index ≡ Some condition → HasBlock monitor.blocks condition
condition_block monitor index condition rule is =
    let here = is_there monitor.conditions index condition is in
    let first = rule.in_order (index + 1) (omega arith) (omega (arith, here.within)) in
    let numbered = at_place (λ (held : Block). held.condition ≡ index + 1) monitor.blocks first.index first.has in
    record {
      block = first.index;
      guard = there_has (λ (held : Block). held.guard ≡ condition.guard) monitor.blocks first.index numbered.within (λ d.
          let held = get_or monitor.blocks first.index d in
          let has = rule.conditions first.index d numbered.within in
          let place : held.condition - 1 ≡ index = let at = numbered.holds d in omega arith in
          let waits : 1 ≤ held.condition = let at = numbered.holds d in omega arith in
          let one = at_place (λ (which : Condition). which.guard ≡ held.guard) monitor.conditions (held.condition - 1) (has waits) in
          sym (one.holds condition) ∙ ap (λ (n : ℕ). (get_or monitor.conditions n condition).guard) place ∙ ap (λ (which : Condition). which.guard) (here.holds condition));
    }

-- ---- blocks that assert

-- the method that a block names, with what the rule says of both
pub record HasMethod (monitor : MonitorParts) (block : Block) : Type 0 where
  pub method : Method
  pub is : slice_get monitor.methods block.method ≡ Some method
  pub rule : IsMethod monitor block.method method
  pub place : ℕ
  pub within : place < method.count
  pub number : ℕ
  pub counted : number ≡ method.first + place
  pub held : IsBlockOf monitor block.method place method block

of_owner : (monitor : MonitorParts) (number : ℕ) (block : Block) (owner : Option Method) → IsMonitor monitor → slice_get monitor.blocks number ≡ Some block → slice_get monitor.methods block.method ≡ owner → IsSomeAnd owner (λ method. (method.first ≤ number) × (number < method.first + method.count)) → HasMethod monitor block
of_owner monitor number block None rule is method_is owns = absurd owns
of_owner monitor number block (Some method) rule is method_is owns =
    let lower = owns.0 in
    let upper = owns.1 in
    let of_method = rule.methods block.method method method_is in
    let below : number - method.first < method.count = omega arith in
    let at : method.first + (number - method.first) ≡ number = omega arith in
    let here = ap (slice_get monitor.blocks) at ∙ is in
    record {
      method = method;
      is = method_is;
      rule = of_method;
      place = number - method.first;
      within = below;
      number = number;
      counted = sym at;
      held = subst (λ found. IsSomeAnd found (λ held. IsBlockOf monitor block.method (number - method.first) method held)) here (of_method.blocks (number - method.first) below);
    }

pub method_of : (monitor : MonitorParts) (number : ℕ) (block : Block) → IsMonitor monitor → slice_get monitor.blocks number ≡ Some block → HasMethod monitor block
method_of monitor number block rule is = of_owner monitor number block (slice_get monitor.methods block.method) rule is refl (rule.owned number block is)

-- a block has no condition exactly where its method asserts
pub asserting : (monitor : MonitorParts) (number : ℕ) (block : Block) → IsMonitor monitor → slice_get monitor.blocks number ≡ Some block → (block.condition ≡ 0) ↔ (asserts_in (slice_get monitor.methods block.method) ≡ true)
asserting monitor number block rule is =
    let owner = method_of monitor number block rule is in
    let same = ap asserts_in owner.is in (
      λ none. same ∙ owner.held.waits.0 none,
      λ asserts. owner.held.waits.1 (sym same ∙ asserts),
    )

-- a method that asserts has one block
pub alone : (monitor : MonitorParts) (number : ℕ) (method : Method) → IsMonitor monitor → slice_get monitor.methods number ≡ Some method → method.asserts ≡ true → method.count ≡ 1
alone monitor number method rule is = (rule.methods number method is).alone
