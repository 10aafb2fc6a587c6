-- Calls counted until they are above the limit.
use Rattle.std.proofs.Common.{◌≡◌, ℕ, ◌+◌, ◌-◌, ◌<◌, ◌≤◌, min, true, false, List, [], ◌∷◌, ◌++◌, length, get_or, take, drop, refl, sym, ap, ◌∙◌, arith, inl, inr, Ok, Err, add-one, drop-cons}
use Rattle.std.specs.Prelude.{nat_lt, sum_by}
use Rattle.std.specs.List.{Contains, flat_map}
use Rattle.std.proofs.lemmas.Bool.{cases_Bool}
use Rattle.std.proofs.lemmas.Bool.Decides.{nat_tests}
use Rattle.std.proofs.lemmas.Grind.{flat_map-append}
use Rattle.std.proofs.lemmas.List.{append-nil, drop_all, take_more, take_all, take-append-drop}
use Rattle.std.proofs.lemmas.List.Sums.{sum_by-cons}
use Rattle.lang_base.specs.Limits.{CALLS}
use Rattle.lang_tree.specs.declared.tree.Item.{Item}
use Rattle.lang_tree.specs.declared.tree.ClientTree.{ClientTree}
use Rattle.lang_base.specs.SourceFaults.{fault_at}
use Rattle.lang_base.specs.declared.source_fault.SourceFault.{SourceFault}
use Rattle.lang_base.specs.declared.source_fault.Refusal.TheVariants as refusals
use Rattle.lang_script.specs.Scripts.{call_count}
use Rattle.lang_script.specs.Faults.{over_calls, place_of}
use Rattle.lang_script.specs.inner.Counting.{ABOVE, counted}
use Rattle.lang_base.proofs.Members.{contains_head, none_in, only_in}

-- ---- one item more

pub is_above : (before calls : ℕ) → CALLS < before + calls → nat_lt CALLS (before + calls) ≡ true
is_above before calls above = grind (arith, nat_tests)

pub is_below : (before calls : ℕ) → before + calls ≤ CALLS → nat_lt CALLS (before + calls) ≡ false
is_below before calls below = grind (arith, nat_tests)

pub above_from : (n : ℕ) → nat_lt CALLS n ≡ true → CALLS < n
above_from n test = grind (arith, nat_tests)

pub below_from : (n : ℕ) → nat_lt CALLS n ≡ false → n ≤ CALLS
below_from n test = grind (arith, nat_tests)

pub counted_above : (before : ℕ) (item : Item) (more : List Item) → CALLS < before + call_count item → counted before (item ∷ more) ≡ Err (place_of item)
counted_above before item more above = rw (is_above before (call_count item) above) refl

pub counted_below : (before : ℕ) (item : Item) (more : List Item) → before + call_count item ≤ CALLS → counted before (item ∷ more) ≡ counted (before + call_count item) more
counted_below before item more below = rw (is_below before (call_count item) below) refl

-- ---- a loop over items

pub turn : (start before : ℕ) (items : List Item) (i : ℕ) (item : Item) → i < length items → item ≡ get_or items i item → before + call_count item ≤ CALLS
    → counted before (drop i items) ≡ counted start items → counted (before + call_count item) (drop (i + 1) items) ≡ counted start items
turn start before items i item lt is below same =
    sym (counted_below before item (drop (i + 1) items) below)
    ∙ ap (counted before) (sym (at_place items i item lt is))
    ∙ same
  where
    at_place : (items : List Item) (i : ℕ) (item : Item) → i < length items → item ≡ get_or items i item → drop i items ≡ item ∷ drop (i + 1) items
    at_place items i item lt is = rw (add-one, drop-cons items i item, ← is) refl

pub stop : (start before : ℕ) (items : List Item) (i : ℕ) (item : Item) → i < length items → item ≡ get_or items i item → CALLS < before + call_count item
    → counted before (drop i items) ≡ counted start items → Err (place_of item) ≡ counted start items
stop start before items i item lt is above same =
    sym (counted_above before item (drop (i + 1) items) above)
    ∙ ap (counted before) (sym (at_place items i item lt is))
    ∙ same
  where
    at_place : (items : List Item) (i : ℕ) (item : Item) → i < length items → item ≡ get_or items i item → drop i items ≡ item ∷ drop (i + 1) items
    at_place items i item lt is = rw (add-one, drop-cons items i item, ← is) refl

-- ---- parts

pub counted_ok : (before : ℕ) (xs ys : List Item) (next : ℕ) → Ok next ≡ counted before xs → counted before (xs ++ ys) ≡ counted next ys
counted_ok before [] ys next is = let e : next ≡ before = cc in rw e refl
counted_ok before (x ∷ xs) ys next is = elim (cases_Bool (nat_lt CALLS (before + call_count x))) [
  | inl above ↦ let h : Ok next ≡ Err (place_of x) = rw above at is in cc
  | inr below ↦ rw below (counted_ok (before + call_count x) xs ys next (rw below at is))
]

pub counted_err : (before : ℕ) (xs ys : List Item) (at : ℕ) → Err at ≡ counted before xs → Err at ≡ counted before (xs ++ ys)
counted_err before [] ys at is = cc
counted_err before (x ∷ xs) ys at is = elim (cases_Bool (nat_lt CALLS (before + call_count x))) [
  | inl above ↦ let h : Err at ≡ Err (place_of x) = rw above at is in rw above h
  | inr below ↦ rw below (counted_err (before + call_count x) xs ys at (rw below at is))
]

-- what is counted is within the limit
pub counted_within : (before : ℕ) (xs : List Item) (next : ℕ) → before ≤ CALLS → Ok next ≡ counted before xs → next ≤ CALLS
counted_within before [] next within is = let e : next ≡ before = cc in rw e within
counted_within before (x ∷ xs) next within is = elim (cases_Bool (nat_lt CALLS (before + call_count x))) [
  | inl above ↦ let h : Ok next ≡ Err (place_of x) = rw above at is in cc
  | inr below ↦ counted_within (before + call_count x) xs next (below_from (before + call_count x) below) (rw below at is)
]

-- ---- a loop over clients

module _ (clients : List ClientTree) (i : ℕ) (client : ClientTree) (lt : i < length clients) (is : client ≡ get_or clients i client) where
  abbrev items_of : List ClientTree → List Item
  items_of trees = flat_map (λ tree. tree.items) trees

  more : items_of (take (i + 1) clients) ≡ items_of (take i clients) ++ client.items
  more = rw (take_more clients i client lt, ← is, flat_map-append, append-nil) refl

  rest : items_of (drop i clients) ≡ client.items ++ items_of (drop (i + 1) clients)
  rest = rw (add-one, drop-cons clients i client, ← is) refl

  pub next_client : (before next : ℕ) → Ok before ≡ counted 0 (items_of (take i clients)) → Ok next ≡ counted before client.items → Ok next ≡ counted 0 (items_of (take (i + 1) clients))
  next_client before next past here =
      here ∙ sym (counted_ok 0 (items_of (take i clients)) client.items before past) ∙ ap (counted 0) (sym more)

  pub stop_client : (before at : ℕ) → Ok before ≡ counted 0 (items_of (take i clients)) → Err at ≡ counted before client.items → Err at ≡ counted 0 (items_of clients)
  stop_client before at past here =
      counted_err before client.items (items_of (drop (i + 1) clients)) at here
      ∙ ap (counted before) (sym rest)
      ∙ sym (counted_ok 0 (items_of (take i clients)) (items_of (drop i clients)) before past)
      ∙ ap (counted 0) (sym (flat_map-append (λ (tree : ClientTree). tree.items) (take i clients) (drop i clients)) ∙ ap items_of (take-append-drop i clients))

pub last_client : (clients : List ClientTree) (i next : ℕ) → length clients ≤ i → Ok next ≡ counted 0 (flat_map (λ tree. tree.items) (take i clients)) → Ok next ≡ counted 0 (flat_map (λ tree. tree.items) clients)
last_client clients i next past is = is ∙ ap (λ trees. counted 0 (flat_map (λ (tree : ClientTree). tree.items) trees)) (take_all i clients past)

-- ---- the fault

pub no_over : (before : ℕ) (items : List Item) (next : ℕ) → Ok next ≡ counted before items → over_calls before items ≡ []
no_over before [] next is = refl
no_over before (x ∷ xs) next is = elim (cases_Bool (nat_lt CALLS (before + call_count x))) [
  | inl above ↦ let h : Ok next ≡ Err (place_of x) = rw above at is in cc
  | inr below ↦ rw below (no_over (before + call_count x) xs next (rw below at is))
]

pub one_over : (before : ℕ) (items : List Item) (at : ℕ) → Err at ≡ counted before items → over_calls before items ≡ fault_at refusals.TooManyCalls at ∷ []
one_over before [] at is = cc
one_over before (x ∷ xs) at is = elim (cases_Bool (nat_lt CALLS (before + call_count x))) [
  | inl above ↦ let h : Err at ≡ Err (place_of x) = rw above at is in let e : place_of x ≡ at = cc in rw (above, e) refl
  | inr below ↦ rw below (one_over (before + call_count x) xs at (rw below at is))
]

pub within_calls : (before : ℕ) (items : List Item) → before ≤ CALLS → over_calls before items ≡ [] → before + sum_by call_count items ≤ CALLS
within_calls before [] within none = omega (arith, within)
within_calls before (x ∷ xs) within none = elim (cases_Bool (nat_lt CALLS (before + call_count x))) [
  | inl above ↦ let h : fault_at refusals.TooManyCalls (place_of x) ∷ [] ≡ [] = rw above at none in absurd cc
  | inr below ↦ let rest = within_calls (before + call_count x) xs (below_from (before + call_count x) below) (rw below at none) in omega (arith, rest, sum_by-cons call_count x xs)
]

-- ---- the rule

pub record OverAt (start : ℕ) (items : List Item) (fault : SourceFault) : Type 0 where
  pub before : List Item
  pub item : Item
  pub after : List Item
  pub split : items ≡ before ++ item ∷ after
  pub within : start + sum_by call_count before ≤ CALLS
  pub above : CALLS < start + sum_by call_count (before ++ item ∷ [])
  pub is : fault ≡ fault_at refusals.TooManyCalls (place_of item)

pub from_over : (start : ℕ) (items : List Item) (fault : SourceFault) → start ≤ CALLS → Contains (over_calls start items) fault → OverAt start items fault
from_over start [] fault within found = none_in fault found
from_over start (x ∷ xs) fault within found = elim (cases_Bool (nat_lt CALLS (start + call_count x))) [
  | inl above ↦ record {
    before = [];
    item = x;
    after = xs;
    split = refl;
    within = omega (arith, within);
    above = omega (arith, above_from (start + call_count x) above, sum_by-cons call_count x []);
    is = sym (only_in (fault_at refusals.TooManyCalls (place_of x)) fault (rw above at found));
  }
  | inr below ↦
      let later = from_over (start + call_count x) xs fault (below_from (start + call_count x) below) (rw below at found) in
      record {
        before = x ∷ later.before;
        item = later.item;
        after = later.after;
        split = ap (λ more. x ∷ more) later.split;
        within = omega (arith, later.within, sum_by-cons call_count x later.before);
        above = omega (arith, later.above, sum_by-cons call_count x (later.before ++ later.item ∷ []));
        is = later.is;
      }
]

pub in_over : (start : ℕ) (before : List Item) (item : Item) (after : List Item) → start + sum_by call_count before ≤ CALLS → CALLS < start + sum_by call_count (before ++ item ∷ [])
    → Contains (over_calls start (before ++ item ∷ after)) (fault_at refusals.TooManyCalls (place_of item))
in_over start [] item after within above =
    let test = is_above start (call_count item) (omega (arith, above, sum_by-cons call_count item [])) in
    rw test (contains_head (fault_at refusals.TooManyCalls (place_of item)) [])
in_over start (x ∷ before) item after within above =
    let cons = sum_by-cons call_count x before in
    let test = is_below start (call_count x) (omega (arith, within, cons)) in
    rw test (in_over (start + call_count x) before item after (omega (arith, within, cons)) (omega (arith, above, sum_by-cons call_count x (before ++ item ∷ []))))

-- ---- with counts up to one more than the limit

-- the count is the item's where it fits in what is left, and else too many
pub fits_left : (before count calls : ℕ) → before ≤ CALLS → calls ≡ min count ABOVE → calls ≤ CALLS - before → (calls ≡ count) × (before + count ≤ CALLS)
fits_left before count calls within is fits = (omega (arith, within, is, fits), omega (arith, within, is, fits))

pub over_left : (before count calls : ℕ) → before ≤ CALLS → calls ≡ min count ABOVE → CALLS - before < calls → CALLS < before + count
over_left before count calls within is over = omega (arith, within, is, over)

pub item_turn : (start before : ℕ) (items : List Item) (i : ℕ) (item : Item) (calls : ℕ) → i < length items → item ≡ get_or items i item → before ≤ CALLS → calls ≡ min (call_count item) ABOVE → calls ≤ CALLS - before
    → counted before (drop i items) ≡ counted start items → (before + calls ≤ CALLS) × (counted (before + calls) (drop (i + 1) items) ≡ counted start items)
item_turn start before items i item calls lt is within calls_are fits same =
    let both = fits_left before (call_count item) calls within calls_are fits in
    (omega (arith, both.0, both.1), ap (λ n. counted (before + n) (drop (i + 1) items)) both.0 ∙ turn start before items i item lt is both.1 same)

pub item_stop : (start before : ℕ) (items : List Item) (i : ℕ) (item : Item) (calls : ℕ) → i < length items → item ≡ get_or items i item → before ≤ CALLS → calls ≡ min (call_count item) ABOVE → CALLS - before < calls
    → counted before (drop i items) ≡ counted start items → Err (place_of item) ≡ counted start items
item_stop start before items i item calls lt is within calls_are over same = stop start before items i item lt is (over_left before (call_count item) calls within calls_are over) same

pub items_end : (start before : ℕ) (items : List Item) (i : ℕ) → length items ≤ i → counted before (drop i items) ≡ counted start items → Ok before ≡ counted start items
items_end start before items i past same = sym (ap (counted before) (drop_all i items past)) ∙ same
