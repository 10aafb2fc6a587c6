-- Lists of numbers, of numbered elements, and what is true of each element of a list that is made
-- of another.
use Rattle.std.proofs.Common.{◌≡◌, ℕ, zero, suc, ◌+◌, ◌-◌, ◌<◌, ◌≤◌, Bool, true, false, cond, List, [], ◌∷◌, ◌++◌, map, length, get_or, Some, refl, sym, ap, subst, ◌∙◌, add-one, arith}
use Rattle.std.specs.Prelude.{All, slice_get}
use Rattle.std.specs.List.{filter, flat_map, enumerate_from, range_with_len}
use Rattle.std.proofs.lemmas.Bool.{false≢true}
use Rattle.std.proofs.lemmas.List.Elements.{All-nil, All-cons, All-head, All-tail, All-get_or}
use Rattle.std.proofs.lemmas.List.FromFn.{length-range_with_len, get_or-range_with_len, length-enumerate_from, get_or-enumerate_from}
use Rattle.std.proofs.lemmas.Option.{slice_get_within, get_or_from_slice_get}

-- ---- one more

range_end : (first count : ℕ) → range_with_len first (suc count) ≡ range_with_len first count ++ (first + count) ∷ []
range_end first zero = ap (λ (one : ℕ). one ∷ []) (omega arith)
range_end first (suc count) =
    ap (λ (rest : List ℕ). first ∷ rest) (range_end (first + 1) count)
    ∙ ap (λ (one : ℕ). first ∷ (range_with_len (first + 1) count ++ one ∷ [])) (omega arith)

pub range_more : (first count last : ℕ) → first + count ≡ last → range_with_len first (count + 1) ≡ range_with_len first count ++ last ∷ []
range_more first count last is =
    ap (range_with_len first) (add-one count) ∙ range_end first count ∙ ap (λ (one : ℕ). range_with_len first count ++ one ∷ []) is

pub numbered_more : {X : Type 0} (first : ℕ) (xs : List X) (x : X) (last : ℕ) → first + length xs ≡ last
    → enumerate_from first (xs ++ x ∷ []) ≡ enumerate_from first xs ++ (last, x) ∷ []
numbered_more {X} first [] x last is = let same : first ≡ last = omega arith in ap {B = List (ℕ × X)} (λ (one : ℕ). (one, x) ∷ []) same
numbered_more {X} first (y ∷ xs) x last is =
    let same : first + 1 + length xs ≡ last = omega arith in
    ap {B = List (ℕ × X)} (λ (rest : List (ℕ × X)). (first, y) ∷ rest) (numbered_more (first + 1) xs x last same)

-- ---- all of a list that is made of others

pub all_left : {X : Type 0} (P : X → Type 0) (xs ys : List X) → All P (xs ++ ys) → All P xs
all_left P [] ys all = All-nil P
all_left P (x ∷ xs) ys all = All-cons P x xs (All-head P x (xs ++ ys) all) (all_left P xs ys (All-tail P x (xs ++ ys) all))

pub all_right : {X : Type 0} (P : X → Type 0) (xs ys : List X) → All P (xs ++ ys) → All P ys
all_right P [] ys all = all
all_right P (x ∷ xs) ys all = all_right P xs ys (All-tail P x (xs ++ ys) all)

pub all_flat : {X Y : Type 0} (P : Y → Type 0) (f : X → List Y) (xs : List X) → All P (flat_map f xs) → All (λ x. All P (f x)) xs
all_flat P f [] all = All-nil (λ x. All P (f x))
all_flat P f (x ∷ xs) all =
    All-cons (λ x. All P (f x)) x xs (all_left P (f x) (flat_map f xs) all) (all_flat P f xs (all_right P (f x) (flat_map f xs) all))

pub all_mapped : {X Y : Type 0} (P : Y → Type 0) (f : X → Y) (xs : List X) → All P (map f xs) → All (λ x. P (f x)) xs
all_mapped P f [] all = All-nil (λ x. P (f x))
all_mapped P f (x ∷ xs) all =
    All-cons (λ x. P (f x)) x xs (All-head P (f x) (map f xs) all) (all_mapped P f xs (All-tail P (f x) (map f xs) all))

pub all_filtered : {X : Type 0} (test : X → Bool) (P : X → Type 0) (xs : List X) → All P (filter test xs) → All (λ x. test x ≡ true → P x) xs
all_filtered test P [] all = All-nil (λ x. test x ≡ true → P x)
all_filtered {X} test P (x ∷ xs) all = split (test x) refl all (all_filtered test P xs)
  where
    split : (answer : Bool) → test x ≡ answer → All P (cond answer (x ∷ filter test xs) (filter test xs))
        → (All P (filter test xs) → All (λ x. test x ≡ true → P x) xs) → All (λ x. test x ≡ true → P x) (x ∷ xs)
    split true is each rest =
        All-cons (λ (x : X). test x ≡ true → P x) x xs (λ passes. All-head P x (filter test xs) each) (rest (All-tail P x (filter test xs) each))
    split false is each rest =
        All-cons (λ (x : X). test x ≡ true → P x) x xs (λ passes. absurd (false≢true (sym is ∙ passes))) (rest each)

-- ---- at a number

abbrev pair : {X : Type 0} → ℕ → X → ℕ × X
pair number x = (number, x)

pub in_range : (P : ℕ → Type 0) (first count number : ℕ) → first ≤ number → number < first + count → All P (range_with_len first count) → P number
in_range P first count number low high all =
    let within : number - first < length (range_with_len first count) = omega (arith, length-range_with_len first count) in
    let is : first + (number - first) ≡ number = omega arith in
    subst P (get_or-range_with_len first count (number - first) 0 (omega arith) ∙ is) (All-get_or P (range_with_len first count) (number - first) 0 within all)

same_pair : {X : Type 0} (a b : ℕ) (y z : X) → a ≡ b → y ≡ z → pair a y ≡ pair b z
same_pair a b y z p q = λ i. (p i, q i)

pub in_numbered : {X : Type 0} (P : ℕ × X → Type 0) (first : ℕ) (xs : List X) (place : ℕ) (x : X) (number : ℕ)
    → slice_get xs place ≡ Some x → first + place ≡ number → All P (enumerate_from first xs) → P (number, x)
in_numbered {X} P first xs place x number there is all =
    let low = slice_get_within xs place x there in
    let within : place < length (enumerate_from first xs) = omega (arith, length-enumerate_from first xs) in
    let same = same_pair (first + place) number (get_or xs place x) x is (get_or_from_slice_get xs place x x there) in
    subst P (get_or-enumerate_from first xs place (0, x) low ∙ same) (All-get_or P (enumerate_from first xs) place (0, x) within all)

-- from each numbered element to each element
pub all_numbers : {X : Type 0} (P : ℕ × X → Type 0) (Q : X → Type 0) (each : (number : ℕ) (x : X) → P (number, x) → Q x) (first : ℕ) (xs : List X)
    → All P (enumerate_from first xs) → All Q xs
all_numbers P Q each first [] all = All-nil Q
all_numbers P Q each first (x ∷ xs) all =
    All-cons Q x xs (each first x (All-head P (first, x) (enumerate_from (first + 1) xs) all))
    (all_numbers P Q each (first + 1) xs (All-tail P (first, x) (enumerate_from (first + 1) xs) all))

-- two tests that agree on the numbers of a range
pub same_filter : (test other : ℕ → Bool) (first count : ℕ) → ((number : ℕ) → first ≤ number → number < first + count → test number ≡ other number)
    → filter test (range_with_len first count) ≡ filter other (range_with_len first count)
same_filter test other first zero agree = refl
same_filter test other first (suc count) agree =
    let rest = same_filter test other (first + 1) count (λ number low high. agree number (omega arith) (omega arith)) in
    ap (λ (answer : Bool). cond answer (first ∷ filter test (range_with_len (first + 1) count)) (filter test (range_with_len (first + 1) count))) (agree first (omega arith) (omega arith))
    ∙ ap (λ (numbers : List ℕ). cond (other first) (first ∷ numbers) numbers) rest
