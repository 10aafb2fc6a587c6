-- Conditions are the classes of equal guards, numbered from 1 by their first blocks.
use Rattle.std.proofs.Common.{◌≡◌, ◌≢◌, ℕ, zero, suc, ◌+◌, ◌-◌, ◌<◌, ◌≤◌, ◌⊎◌, ◌↔◌, true, false, List, [], ◌∷◌, ◌++◌, length, refl, sym, ap, subst, ◌∙◌, arith, inl, inr, append_assoc, length-append}
use Rattle.std.specs.Prelude.{Some, slice_get, IsSomeAnd}
use Rattle.std.proofs.lemmas.Bool.{true≢false}
use Rattle.std.specs.List.{All, AllPairs}
use Rattle.std.proofs.Math.Seq.{take-append_seam}
use Rattle.std.proofs.lemmas.List.{append-nil, take-append-le}
use Rattle.std.proofs.lemmas.List.Elements.{All-append, All-cons, All-head, All-nil, All-tail}
use Rattle.std.proofs.lemmas.List.Quantifiers.{all_pairs_push}
use Rattle.lang_base.specs.Identifiers.{IsIdentifier}
use Rattle.lang_tree.specs.Names.{expression_names}
use Rattle.lang_monitor.specs.declared.monitor.Block.{Block}
use Rattle.lang_monitor.specs.declared.monitor.Condition.{Condition}
use Rattle.lang_monitor.specs.Conditions.{HasCondition, HasFirstBlock, IsDescribed}
use Rattle.lang_printer.proofs.ExpressionLines.{expression_in_line}
use Rattle.std.proofs.lemmas.Option.{same_Some}
use Rattle.lang_types.specs.Typed.{AreConditions, PlacedBlock, condition_of}

-- ---- what stands at a place of a list, as the list grows

some_within : {X : Type 0} (xs : List X) (index : ℕ) (P : X → Type 0) → IsSomeAnd (slice_get xs index) P → index < length xs
some_within [] index P has = absurd has
some_within (x ∷ xs) zero P has = omega arith
some_within (x ∷ xs) (suc index) P has = let rest = some_within xs index P has in omega arith

earlier_has : {X : Type 0} (before later : List X) (index : ℕ) (P : X → Type 0) → IsSomeAnd (slice_get before index) P → IsSomeAnd (slice_get (before ++ later) index) P
earlier_has [] later index P has = absurd has
earlier_has (x ∷ before) later zero P has = has
earlier_has (x ∷ before) later (suc index) P has = earlier_has before later index P has

last_has : {X : Type 0} (before : List X) (x : X) (P : X → Type 0) → P x → IsSomeAnd (slice_get (before ++ x ∷ []) (length before)) P
last_has [] x P has = has
last_has (first ∷ before) x P has = last_has before x P has

-- the conditions that were there stay
kept : (before : List Condition) (more : List PlacedBlock) (blocks : List Block) (all : List Condition) → AreConditions before more blocks all → (index : ℕ) (P : Condition → Type 0) → IsSomeAnd (slice_get before index) P → IsSomeAnd (slice_get all index) P
kept before [] [] all are index P has = subst (λ (list : List Condition). IsSomeAnd (slice_get list index) P) (sym are) has
kept before [] (block ∷ blocks) all are index P has = absurd are
kept before (placed ∷ more) [] all are index P has = absurd are
kept before (placed ∷ more) (block ∷ blocks) all are index P has = elim are [
  | inl old ↦ kept before more blocks all old.2 index P has
  | inr (inl new) ↦ kept (before ++ condition_of block placed.block ∷ []) more blocks all new.2 index P (earlier_has before (condition_of block placed.block ∷ []) index P has)
  | inr (inr none) ↦ kept before more blocks all none.2 index P has
]

-- ---- each block's condition has its guard

new_condition : (before : List Condition) (placed : PlacedBlock) (block : Block) (more : List PlacedBlock) (blocks : List Block) (all : List Condition) → block.condition ≡ length before + 1 → AreConditions (before ++ condition_of block placed.block ∷ []) more blocks all → HasCondition all block
new_condition before placed block more blocks all number are =
    let index : block.condition - 1 ≡ length before = omega arith in
    let same = λ (condition : Condition). condition.guard ≡ block.guard in
    λ waits. subst (λ (i : ℕ). IsSomeAnd (slice_get all i) same) (sym index) (kept (before ++ condition_of block placed.block ∷ []) more blocks all are (length before) same (last_has before (condition_of block placed.block) same refl))

old_condition : (before : List Condition) (block : Block) (more : List PlacedBlock) (blocks : List Block) (all : List Condition) → IsSomeAnd (slice_get before (block.condition - 1)) (λ condition. condition.guard ≡ block.guard) → block.condition ≡ (block.condition - 1) + 1 → AreConditions before more blocks all → HasCondition all block
old_condition before block more blocks all has number are = λ waits. kept before more blocks all are (block.condition - 1) (λ (condition : Condition). condition.guard ≡ block.guard) has

no_condition : (all : List Condition) (block : Block) → block.condition ≡ 0 → HasCondition all block
no_condition all block none = λ waits. absurd (omega arith)

pub typed_conditions : (before : List Condition) (more : List PlacedBlock) (blocks : List Block) (all : List Condition) → AreConditions before more blocks all → All (HasCondition all) blocks
typed_conditions before [] [] all are = All-nil (HasCondition all)
typed_conditions before [] (block ∷ blocks) all are = absurd are
typed_conditions before (placed ∷ more) [] all are = absurd are
typed_conditions before (placed ∷ more) (block ∷ blocks) all are = elim are [
  | inl old ↦ All-cons (HasCondition all) block blocks (old_condition before block more blocks all old.0 old.1 old.2) (typed_conditions before more blocks all old.2)
  | inr (inl new) ↦ All-cons (HasCondition all) block blocks (new_condition before placed block more blocks all new.1 new.2) (typed_conditions (before ++ condition_of block placed.block ∷ []) more blocks all new.2)
  | inr (inr none) ↦ All-cons (HasCondition all) block blocks (no_condition all block none.0) (typed_conditions before more blocks all none.2)
]

-- ---- there are no more conditions than blocks

pub no_more : (before : List Condition) (more : List PlacedBlock) (blocks : List Block) (all : List Condition) → AreConditions before more blocks all → length all ≤ length before + length blocks
no_more before [] [] all are = let count = ap (λ (list : List Condition). length list) are in omega arith
no_more before [] (block ∷ blocks) all are = absurd are
no_more before (placed ∷ more) [] all are = absurd are
no_more before (placed ∷ more) (block ∷ blocks) all are = elim are [
  | inl old ↦ let rest = no_more before more blocks all old.2 in omega arith
  | inr (inl new) ↦
      let rest = no_more (before ++ condition_of block placed.block ∷ []) more blocks all new.2 in
      let count = length-append before (condition_of block placed.block ∷ []) in
      omega arith
  | inr (inr none) ↦ let rest = no_more before more blocks all none.2 in omega arith
]

-- ---- different conditions have different guards

abbrev Differ : Condition → Condition → Type 0
Differ condition other = condition.guard ≢ other.guard

pub all_different : (before : List Condition) (more : List PlacedBlock) (blocks : List Block) (all : List Condition) → AreConditions before more blocks all → AllPairs Differ before → AllPairs Differ all
all_different before [] [] all are different = subst (AllPairs Differ) (sym are) different
all_different before [] (block ∷ blocks) all are different = absurd are
all_different before (placed ∷ more) [] all are different = absurd are
all_different before (placed ∷ more) (block ∷ blocks) all are different = elim are [
  | inl old ↦ all_different before more blocks all old.2 different
  | inr (inl new) ↦ all_different (before ++ condition_of block placed.block ∷ []) more blocks all new.2 (all_pairs_push Differ before (condition_of block placed.block) different new.0)
  | inr (inr none) ↦ all_different before more blocks all none.2 different
]

-- ---- what conditions say of their guards

abbrev pub ShowsNames : PlacedBlock → Type 0
ShowsNames placed = All IsIdentifier (expression_names placed.block.guard)

pub all_described : (before : List Condition) (more : List PlacedBlock) (blocks : List Block) (all : List Condition) → AreConditions before more blocks all → All ShowsNames more → All IsDescribed before → All IsDescribed all
all_described before [] [] all are shown described = subst (All IsDescribed) (sym are) described
all_described before [] (block ∷ blocks) all are shown described = absurd are
all_described before (placed ∷ more) [] all are shown described = absurd are
all_described before (placed ∷ more) (block ∷ blocks) all are shown described =
    let later = All-tail ShowsNames placed more shown in
    elim are [
      | inl old ↦ all_described before more blocks all old.2 later described
      | inr (inl new) ↦
          let here : IsDescribed (condition_of block placed.block) = record { inputs = refl; line = expression_in_line placed.block.guard (All-head ShowsNames placed more shown) } in
          all_described (before ++ condition_of block placed.block ∷ []) more blocks all new.2 later
          (All-append IsDescribed before (condition_of block placed.block ∷ []) described (All-cons IsDescribed (condition_of block placed.block) [] here (All-nil IsDescribed)))
      | inr (inr none) ↦ all_described before more blocks all none.2 later described
    ]

-- ---- conditions are in the order of their first blocks

-- of the blocks so far, with so many conditions
record AreInOrder (blocks : List Block) (count : ℕ) : Type 0 where
  within : All (λ block. block.condition ≤ count) blocks
  first : (number : ℕ) → 1 ≤ number → number ≤ count → HasFirstBlock blocks number

still_first : (blocks more : List Block) (number : ℕ) → HasFirstBlock blocks number → HasFirstBlock (blocks ++ more) number
still_first blocks more number first =
    let Has = λ (block : Block). block.condition ≡ number in
    let below = some_within blocks first.index Has first.has in
    let same = take-append-le first.index blocks more (omega arith) in
    record {
      index = first.index;
      has = earlier_has blocks more first.index Has first.has;
      lower = subst (All (λ (block : Block). block.condition < number)) (sym same) first.lower;
    }

and_old : (blocks : List Block) (count : ℕ) (block : Block) → AreInOrder blocks count → block.condition ≤ count → AreInOrder (blocks ++ block ∷ []) count
and_old blocks count block are less =
    let Within = λ (block : Block). block.condition ≤ count in
    record {
      within = All-append Within blocks (block ∷ []) are.within (All-cons Within block [] less (All-nil Within));
      first = λ number one few. still_first blocks (block ∷ []) number (are.first number one few);
    }

new_first : (blocks : List Block) (count : ℕ) (block : Block) → AreInOrder blocks count → block.condition ≡ count + 1 → HasFirstBlock (blocks ++ block ∷ []) (count + 1)
new_first blocks count block are is = record {
  index = length blocks;
  has = last_has blocks block (λ (block : Block). block.condition ≡ count + 1) is;
  lower = subst (All (λ (block : Block). block.condition < count + 1)) (sym (take-append_seam blocks (block ∷ [])))
      (λ k d within. let less = are.within k d within in omega arith);
}

last_or_earlier : (number count : ℕ) → number ≤ count + 1 → (number ≤ count) ⊎ (count + 1 ≡ number)
last_or_earlier number count less = grind arith

and_new : (blocks : List Block) (count : ℕ) (block : Block) → AreInOrder blocks count → block.condition ≡ count + 1 → AreInOrder (blocks ++ block ∷ []) (count + 1)
and_new blocks count block are is =
    let Within = λ (block : Block). block.condition ≤ count + 1 in
    record {
      within = All-append Within blocks (block ∷ []) (λ k d within. let less = are.within k d within in omega arith) (All-cons Within block [] (omega arith) (All-nil Within));
      first = λ number one few. elim (last_or_earlier number count few) [
        | inl earlier ↦ still_first blocks (block ∷ []) number (are.first number one earlier)
        | inr last ↦ subst (HasFirstBlock (blocks ++ block ∷ [])) last (new_first blocks count block are is)
      ];
    }

all_in_order : (before : List Condition) (more : List PlacedBlock) (blocks earlier : List Block) (all : List Condition) → AreConditions before more blocks all → AreInOrder earlier (length before) → AreInOrder (earlier ++ blocks) (length all)
all_in_order before [] [] earlier all are so_far = rw (append-nil, are) so_far
all_in_order before [] (block ∷ blocks) earlier all are so_far = absurd are
all_in_order before (placed ∷ more) [] earlier all are so_far = absurd are
all_in_order before (placed ∷ more) (block ∷ blocks) earlier all are so_far =
    let Whole = λ (list : List Block). AreInOrder list (length all) in
    let parts = append_assoc earlier (block ∷ []) blocks in
    elim are [
      | inl old ↦
          let has = some_within before (block.condition - 1) _ old.0 in
          subst Whole parts (all_in_order before more blocks (earlier ++ block ∷ []) all old.2 (and_old earlier (length before) block so_far (omega arith)))
      | inr (inl new) ↦
          let count = length-append before (condition_of block placed.block ∷ []) in
          let next = and_new earlier (length before) block so_far new.1 in
          subst Whole parts (all_in_order (before ++ condition_of block placed.block ∷ []) more blocks (earlier ++ block ∷ []) all new.2 (subst (AreInOrder (earlier ++ block ∷ [])) (sym count) next))
      | inr (inr none) ↦
          subst Whole parts (all_in_order before more blocks (earlier ++ block ∷ []) all none.2 (and_old earlier (length before) block so_far (let zero_is = none.0 in omega arith)))
    ]

pub in_order : (more : List PlacedBlock) (blocks : List Block) (all : List Condition) → AreConditions [] more blocks all → (number : ℕ) → 1 ≤ number → number ≤ length all → HasFirstBlock blocks number
in_order more blocks all are =
    let none : AreInOrder [] 0 = record { within = All-nil (λ (block : Block). block.condition ≤ 0); first = λ number one few. absurd (omega arith) } in
    (all_in_order [] more blocks [] all are none).first

-- ---- a block has no condition exactly where its method asserts

abbrev pub WaitsAs : PlacedBlock → Block → Type 0
WaitsAs placed block = (block.condition ≡ 0) ↔ (placed.method.asserts ≡ true)

waits_with : (placed : PlacedBlock) (block : Block) (index : ℕ) → block.condition ≡ index + 1 → placed.method.asserts ≡ false → WaitsAs placed block
waits_with placed block index is waits = (λ none. absurd (omega arith), λ asserts. absurd (true≢false (sym asserts ∙ waits)))

pub waits_at : (before : List Condition) (row : List PlacedBlock) (blocks : List Block) (all : List Condition) → AreConditions before row blocks all
    → (place : ℕ) (placed : PlacedBlock) → slice_get row place ≡ Some placed → IsSomeAnd (slice_get blocks place) (WaitsAs placed)
waits_at before [] blocks all are place placed is = absurd cc
waits_at before (first ∷ row) [] all are place placed is = absurd are
waits_at before (first ∷ row) (block ∷ blocks) all are zero placed is =
    let same : first ≡ placed = same_Some first placed is in
    subst (λ (one : PlacedBlock). WaitsAs one block) same (elim are [
      | inl old ↦ waits_with first block (block.condition - 1) old.1 old.3
      | inr (inl new) ↦ waits_with first block (length before) new.1 new.3
      | inr (inr none) ↦ (λ zero_is. none.1, λ asserts. none.0)
    ])
waits_at before (first ∷ row) (block ∷ blocks) all are (suc place) placed is = elim are [
  | inl old ↦ waits_at before row blocks all old.2 place placed is
  | inr (inl new) ↦ waits_at (before ++ condition_of block first.block ∷ []) row blocks all new.2 place placed is
  | inr (inr none) ↦ waits_at before row blocks all none.2 place placed is
]
