-- Counts up to one more than the limit, and pairs of inputs and arguments.
use Rattle.std.proofs.Common.{◌≡◌, ℕ, zero, suc, ◌+◌, ◌*◌, ◌<◌, ◌≤◌, min, Bool, true, List, [], ◌∷◌, ◌++◌, length, get_or, take, replicate, refl, sym, ap, ◌∙◌, arith, inl, inr, Option}
use Rattle.std.specs.Prelude.{nat_lt, ◌==◌, sum_by, zip}
use Rattle.std.specs.List.{flat_map}
use Rattle.std.proofs.lemmas.Bool.{cases_Bool}
use Rattle.std.proofs.lemmas.Bool.Decides.{nat_tests}
use Rattle.std.proofs.lemmas.Grind.{flat_map-append}
use Rattle.std.proofs.lemmas.List.{append-nil, get_or_default, nil_from_length, replicate_more, take_all, take_more}
use Rattle.std.proofs.lemmas.List.Sums.{sum_by_more}
use Rattle.std.proofs.lemmas.Nat.{mul-le}
use Rattle.lang_tree.specs.declared.tree.Arg.{Arg}
use Rattle.lang_tree.specs.declared.tree.Item.{Item}
use Rattle.lang_tree.specs.declared.tree.Item.TheVariants as items
use Rattle.lang_base.specs.declared.kind.Kind.{Kind}
use Rattle.lang_base.specs.declared.source_fault.SourceFault.{SourceFault}
use Rattle.lang_script.specs.Scripts.{call_count, joined}
use Rattle.lang_base.specs.SourceFaults.{earlier_of, least, order}
use Rattle.lang_script.specs.Faults.{number_faults, type_faults}
use Rattle.lang_script.specs.inner.Counting.{ABOVE}
use Rattle.lang_script.proofs.Items.{count-Call, count-Repeat}
use Rattle.lang_base.proofs.Least.{least_all, least_turn}

-- ---- sums and products up to a limit

min_sum : (a b limit : ℕ) → min (min a limit + min b limit) limit ≡ min (a + b) limit
min_sum a b limit = omega arith

min_times : (times count limit : ℕ) → min (times * min count limit) limit ≡ min (times * count) limit
min_times zero count limit = omega arith
min_times (suc times) count limit = elim (cases_Bool (nat_lt count limit)) [
  | inl small ↦ let e : min count limit ≡ count = grind (arith, nat_tests) in ap (λ n. min (suc times * n) limit) e
  | inr great ↦
      let reached : limit ≤ count = grind (arith, nat_tests) in
      let e : min count limit ≡ limit = omega (arith, reached) in
      let one = mul-le 1 limit (suc times) limit (omega arith) (omega arith) in
      let all = mul-le 1 limit (suc times) count (omega arith) reached in
      ap (λ n. min (suc times * n) limit) e ∙ at_limit limit (suc times * limit) (suc times * count) (omega (arith, one)) (omega (arith, all))
]
  where
    at_limit : (limit a b : ℕ) → limit ≤ a → limit ≤ b → min a limit ≡ min b limit
    at_limit limit a b one other = omega (arith, one, other)

pub one_call_counted : (at : ℕ) (tries : Bool) (place : ℕ) (name : List ℕ) (arguments : List Arg) → 1 ≡ min (call_count (items.Call at tries place name arguments)) ABOVE
one_call_counted at tries place name arguments = ap (λ n. min n ABOVE) (sym (count-Call at tries place name arguments))

pub repeat_counted : (at times : ℕ) (inner : List Item) (count result : ℕ) → count ≡ min (sum_by call_count inner) ABOVE → result ≡ min (times * count) ABOVE → result ≡ min (call_count (items.Repeat at times inner)) ABOVE
repeat_counted at times inner count result counted is =
    is ∙ ap (λ n. min (times * n) ABOVE) counted ∙ min_times times (sum_by call_count inner) ABOVE ∙ ap (λ n. min n ABOVE) (sym (count-Repeat at times inner))

pub counts_more : (list : List Item) (i : ℕ) (item : Item) (before calls after : ℕ) → i < length list → item ≡ get_or list i item → before ≡ min (sum_by call_count (take i list)) ABOVE → calls ≡ min (call_count item) ABOVE → after ≡ min (before + calls) ABOVE
    → after ≡ min (sum_by call_count (take (i + 1) list)) ABOVE
counts_more list i item before calls after lt is past here sum_is =
    sum_is ∙ ap (λ n. min (n + calls) ABOVE) past ∙ ap (λ n. min (min (sum_by call_count (take i list)) ABOVE + n) ABOVE) here
    ∙ min_sum (sum_by call_count (take i list)) (call_count item) ABOVE
    ∙ ap (λ n. min n ABOVE) (ap (λ (x : Item). sum_by call_count (take i list) + call_count x) is ∙ sym (sum_by_more call_count list i item lt))

pub counts_all : (list : List Item) (i count : ℕ) → length list ≤ i → count ≡ min (sum_by call_count (take i list)) ABOVE → count ≡ min (sum_by call_count list) ABOVE
counts_all list i count past is = is ∙ ap (λ xs. min (sum_by call_count xs) ABOVE) (take_all i list past)

-- ---- copies

-- no elements
abbrev nothing : {X : Type 0} → List X
nothing = []

pub copies_none : {X : Type 0} (times : ℕ) → joined (replicate times (nothing {X = X})) ≡ []
copies_none zero = refl
copies_none (suc times) = copies_none times

pub copies_of_none : {X : Type 0} (times : ℕ) (list slice : List X) → slice ≡ list → (length slice == 0) ≡ true → joined (replicate times list) ≡ []
copies_of_none times list slice same none =
    let empty : length list ≡ 0 = sym (ap length same) ∙ is_zero (length slice) none in
    ap (λ calls. joined (replicate times calls)) (nil_from_length list empty) ∙ copies_none times
  where
    is_zero : (n : ℕ) → (n == 0) ≡ true → n ≡ 0
    is_zero n test = grind (arith, nat_tests)

pub copies_more : {X : Type 0} (times : ℕ) (list : List X) → joined (replicate (times + 1) list) ≡ joined (replicate times list) ++ list
copies_more times list =
    ap joined (sym (replicate_more times list)) ∙ flat_map-append (λ copy. copy) (replicate times list) (list ∷ []) ∙ ap (λ last. joined (replicate times list) ++ last) (append-nil list)

pub copies_turn : {X : Type 0} (times : ℕ) (list before slice after : List X) → before ≡ joined (replicate times list) → slice ≡ list → after ≡ before ++ slice → after ≡ joined (replicate (times + 1) list)
copies_turn times list before slice after before_is slice_is after_is =
    after_is ∙ ap (λ front. front ++ slice) before_is ∙ ap (λ last. joined (replicate times list) ++ last) slice_is ∙ sym (copies_more times list)

-- ---- pairs

pub zip_at : {X Y : Type 0} (xs : List X) (ys : List Y) (i : ℕ) (x : X) (y : Y) → i < length xs → i < length ys → x ≡ get_or xs i x → y ≡ get_or ys i y → (x, y) ≡ get_or (zip xs ys) i (x, y)
zip_at [] ys i x y lx ly ix iy = absurd (omega (arith, lx))
zip_at (a ∷ xs) [] i x y lx ly ix iy = absurd (omega (arith, ly))
zip_at (a ∷ xs) (b ∷ ys) zero x y lx ly ix iy = rw (← ix, ← iy) refl
zip_at (a ∷ xs) (b ∷ ys) (suc i) x y lx ly ix iy = zip_at xs ys i x y (omega (arith, lx)) (omega (arith, ly)) ix iy

pub length-zip : {X Y : Type 0} (xs : List X) (ys : List Y) → length ys ≡ length xs → length (zip xs ys) ≡ length ys
length-zip [] [] same = refl
length-zip [] (y ∷ ys) same = absurd (omega (arith, same))
length-zip (x ∷ xs) [] same = refl
length-zip (x ∷ xs) (y ∷ ys) same = ap suc (length-zip xs ys (omega (arith, same)))

-- one more argument and its input
pub pair_turn : (inputs : List Kind) (given : List Arg) (i : ℕ) (kind : Kind) (argument : Arg) (before here after : Option SourceFault) → length given ≡ length inputs → i < length given
    → before ≡ least (flat_map type_faults (take i (zip inputs given))) → here ≡ least (type_faults (get_or inputs i kind, get_or given i argument)) → after ≡ earlier_of before here
    → after ≡ least (flat_map type_faults (take (i + 1) (zip inputs given)))
pair_turn inputs given i kind argument before here after same lt before_is here_is after_is =
    let k = get_or inputs i kind in
    let a = get_or given i argument in
    let ki = get_or_default inputs i kind k (omega (arith, lt, same)) in
    let ai = get_or_default given i argument a lt in
    least_turn order type_faults (zip inputs given) i (k, a) before here after (omega (arith, lt, length-zip inputs given same)) (zip_at inputs given i k a (omega (arith, lt, same)) lt ki ai) before_is here_is after_is

pub pairs_all : (inputs : List Kind) (given : List Arg) (i : ℕ) (fault : Option SourceFault) → length given ≡ length inputs → length given ≤ i → fault ≡ least (flat_map type_faults (take i (zip inputs given))) → fault ≡ least (flat_map type_faults (zip inputs given))
pairs_all inputs given i fault same past is = least_all order type_faults (zip inputs given) i fault (omega (arith, past, length-zip inputs given same)) is

pub argument_turn : (given : List Arg) (i : ℕ) (argument : Arg) (before here after : Option SourceFault) → i < length given
    → before ≡ least (flat_map number_faults (take i given)) → here ≡ least (number_faults (get_or given i argument)) → after ≡ earlier_of before here → after ≡ least (flat_map number_faults (take (i + 1) given))
argument_turn given i argument before here after lt before_is here_is after_is =
    least_turn order number_faults given i (get_or given i argument) before here after lt (get_or_default given i argument (get_or given i argument) lt) before_is here_is after_is

-- ---- lists put together one after the other

pub flat_map_turn : {X Y : Type 0} (f : X → List Y) (xs : List X) (i : ℕ) (x : X) (before here after : List Y) → i < length xs → x ≡ get_or xs i x → before ≡ flat_map f (take i xs) → here ≡ f x → after ≡ before ++ here
    → after ≡ flat_map f (take (i + 1) xs)
flat_map_turn f xs i x before here after lt is before_is here_is after_is =
    after_is ∙ ap (λ front. front ++ here) before_is ∙ ap (λ last. flat_map f (take i xs) ++ last) (here_is ∙ sym (append-nil (f x)))
    ∙ sym (flat_map-append f (take i xs) (x ∷ []))
    ∙ ap (λ y. flat_map f (take i xs ++ y ∷ [])) is
    ∙ ap (flat_map f) (sym (take_more xs i x lt))

pub flat_map_all : {X Y : Type 0} (f : X → List Y) (xs : List X) (i : ℕ) (all : List Y) → length xs ≤ i → all ≡ flat_map f (take i xs) → all ≡ flat_map f xs
flat_map_all f xs i all past is = is ∙ ap (flat_map f) (take_all i xs past)
