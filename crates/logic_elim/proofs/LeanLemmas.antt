-- Sums that are left out of a chain.
use Rattle.std.proofs.Common.{◌≡◌, ℕ, zero, suc, ◌+◌, ◌-◌, ◌<◌, ◌≤◌, Bool, true, false, ◌||◌, if◌then◌else◌, List, [], ◌∷◌, ◌++◌, length, map, set, take, drop, get_or, add-one, Option, Some, None, sym, subst, arith, ap, refl, ◌∙◌}
use Rattle.std.specs.Prelude.{◌==◌, nat_lt, slice_get}
use Rattle.std.specs.List.{list_any}
use Rattle.logic_linear.specs.Linear.{Linear}
use Rattle.logic_cert.specs.declared.cert.Combine.{Combine}
use Rattle.logic_cert.specs.Refutes.{chain_closes, chain_goes, is_nil, made, made_of}
use Rattle.logic_elim.specs.LeanChains.{is_needed, uses, IsLean}
use Rattle.logic_elim.specs.inner.Leaving.{renumbered, with_sum, without, IsLeanPart, IsLeanSoFar}
use Rattle.logic_elim.proofs.Lists.{append_assoc, append_length, append_none, map_length}

-- ---- numbers

neither : (a b : Bool) → (a || b) ≡ false → (a ≡ false) × (b ≡ false)
neither true b h = absurd cc
neither false b h = (refl, h)

other_number : (n m : ℕ) → (n == m) ≡ false → n ≡ m → ⊥
other_number n m h same = grind arith

same_number : (n m : ℕ) → (n == m) ≡ true → n ≡ m
same_number n m h = grind arith

is_same : (n m : ℕ) → n ≡ m → (n == m) ≡ true
is_same n m h = grind arith

above : (n m : ℕ) → nat_lt n m ≡ true → n < m
above n m h = grind arith

not_above : (n m : ℕ) → nat_lt n m ≡ false → m ≤ n
not_above n m h = grind arith

is_above : (n m : ℕ) → n < m → nat_lt n m ≡ true
is_above n m h = grind arith

-- ---- the rows without one

before_it : {X : Type 0} (xs more : List X) (x : X) (k : ℕ) → k < length xs → slice_get (xs ++ x ∷ more) k ≡ slice_get (xs ++ more) k
before_it [] more x k h = absurd (omega arith)
before_it (first ∷ xs) more x zero h = refl
before_it (first ∷ xs) more x (suc k) h = before_it xs more x k (omega arith)

after_it : {X : Type 0} (xs more : List X) (x : X) (k : ℕ) → length xs ≤ k → slice_get (xs ++ x ∷ more) (suc k) ≡ slice_get (xs ++ more) k
after_it [] more x k h = refl
after_it (first ∷ xs) more x zero h = absurd (omega arith)
after_it (first ∷ xs) more x (suc k) h = after_it xs more x k (omega arith)

get_other : {X : Type 0} (xs more : List X) (x : X) (number k : ℕ) → length xs ≡ number → (k == number) ≡ false → slice_get (xs ++ x ∷ more) k ≡ slice_get (xs ++ more) (renumbered number k)
get_other {X} xs more x number k count other = by_test (nat_lt number k) refl
  where
    late : (k : ℕ) → number < k → slice_get (xs ++ x ∷ more) k ≡ slice_get (xs ++ more) (k - 1)
    late zero h = absurd (omega arith)
    late (suc j) h = let back : suc j - 1 ≡ j = omega arith in after_it xs more x j (omega arith) ∙ ap (slice_get (xs ++ more)) (sym back)

    by_test : (test : Bool) → nat_lt number k ≡ test → slice_get (xs ++ x ∷ more) k ≡ slice_get (xs ++ more) (if test then k - 1 else k)
    by_test true e = late k (above number k e)
    by_test false e = let apart = other_number k number other in let low = not_above number k e in before_it xs more x k (by_order low apart)
      where
        by_order : k ≤ number → (k ≡ number → ⊥) → k < length xs
        by_order low apart = grind arith

get_sum : (rows more : List (Option Linear)) (x : Option Linear) (number : ℕ) (combine : Combine) → length rows ≡ number → uses number combine ≡ false → made combine (rows ++ x ∷ more) ≡ made (without number combine) (rows ++ more)
get_sum rows more x number combine count unused =
    let parts = neither (combine.left == number) (combine.right == number) unused in
    ap (λ left. made_of combine left (slice_get (rows ++ x ∷ more) combine.right)) (get_other rows more x number combine.left count parts.0)
    ∙ ap (made_of combine (slice_get (rows ++ more) (renumbered number combine.left))) (get_other rows more x number combine.right count parts.1)
    ∙ same_made (slice_get (rows ++ more) (renumbered number combine.left)) (slice_get (rows ++ more) (renumbered number combine.right))
  where
    same_made : (left right : Option (Option Linear)) → made_of combine left right ≡ made_of (without number combine) left right
    same_made None right = refl
    same_made (Some None) right = refl
    same_made (Some (Some left)) None = refl
    same_made (Some (Some left)) (Some None) = refl
    same_made (Some (Some left)) (Some (Some right)) = refl

-- ---- a chain without a row

map_nil : (f : Combine → Combine) (combines : List Combine) → is_nil (map f combines) ≡ is_nil combines
map_nil f [] = refl
map_nil f (combine ∷ combines) = refl

goes : (more other : List (Option Linear) → Bool) (rows rows_after : List (Option Linear)) (last last_after : Bool) (row : Option Linear) → last ≡ last_after
    → ((made_row : Option Linear) → more (rows ++ made_row ∷ []) ≡ true → other (rows_after ++ made_row ∷ []) ≡ true)
    → chain_goes more rows last row ≡ true → chain_goes other rows_after last_after row ≡ true
goes more other rows rows_after last last_after None same each h = absurd cc
goes more other rows rows_after true true (Some row) same each h = h
goes more other rows rows_after false false (Some row) same each h = each (Some row) h
goes more other rows rows_after true false (Some row) same each h = absurd cc
goes more other rows rows_after false true (Some row) same each h = absurd cc

pub closes_without : (number : ℕ) (combines : List Combine) (rows more : List (Option Linear)) (x : Option Linear) → length rows ≡ number → list_any (uses number) combines ≡ false
    → chain_closes combines (rows ++ x ∷ more) ≡ true → chain_closes (map (without number) combines) (rows ++ more) ≡ true
closes_without number [] rows more x count unused h = absurd cc
closes_without number (combine ∷ combines) rows more x count unused h =
    let parts = neither (uses number combine) (list_any (uses number) combines) unused in
    goes (chain_closes combines) (chain_closes (map (without number) combines)) (rows ++ x ∷ more) (rows ++ more) (is_nil combines) (is_nil (map (without number) combines)) (made (without number combine) (rows ++ more))
    (sym (map_nil (without number) combines))
    (λ row held. subst (λ (some : List (Option Linear)). chain_closes (map (without number) combines) some ≡ true) (sym (append_assoc rows more (row ∷ [])))
    (closes_without number combines rows (more ++ row ∷ []) x count parts.1 (subst (λ (some : List (Option Linear)). chain_closes combines some ≡ true) (append_assoc rows (x ∷ more) (row ∷ [])) held)))
    (subst (λ (row : Option Linear). chain_goes (chain_closes combines) (rows ++ x ∷ more) (is_nil combines) row ≡ true) (get_sum rows more x number combine count parts.0) h)

-- ---- a lean chain without a row

renumbered_later : (number k row : ℕ) → row ≡ number + 1 + k → renumbered number row ≡ number + k
renumbered_later number k row is = by_test (nat_lt number row) refl
  where
    by_test : (test : Bool) → nat_lt number row ≡ test → (if test then row - 1 else row) ≡ number + k
    by_test true e = omega arith
    by_test false e = let low = not_above number row e in absurd (omega arith)

left_true : (a b : Bool) → a ≡ true → (a || b) ≡ true
left_true true b h = refl
left_true false b h = absurd cc

right_true : (a b : Bool) → b ≡ true → (a || b) ≡ true
right_true true b h = refl
right_true false b h = h

either_one : (a b c d : Bool) → (a ≡ true → c ≡ true) → (b ≡ true → d ≡ true) → (a || b) ≡ true → (c || d) ≡ true
either_one true b c d left right h = left_true c d (left refl)
either_one false b c d left right h = right_true c d (right h)

uses_later : (number k : ℕ) (combine : Combine) → uses (number + 1 + k) combine ≡ true → uses (number + k) (without number combine) ≡ true
uses_later number k combine h =
    either_one (combine.left == number + 1 + k) (combine.right == number + 1 + k) (renumbered number combine.left == number + k) (renumbered number combine.right == number + k) (at combine.left) (at combine.right) h
  where
    at : (row : ℕ) → (row == number + 1 + k) ≡ true → (renumbered number row == number + k) ≡ true
    at row e = is_same (renumbered number row) (number + k) (renumbered_later number k row (same_number row (number + 1 + k) e))

used_later : (number k : ℕ) (combines : List Combine) → list_any (uses (number + 1 + k)) combines ≡ true → list_any (uses (number + k)) (map (without number) combines) ≡ true
used_later number k [] h = absurd cc
used_later number k (combine ∷ combines) h =
    either_one (uses (number + 1 + k) combine) (list_any (uses (number + 1 + k)) combines) (uses (number + k) (without number combine)) (list_any (uses (number + k)) (map (without number) combines))
    (uses_later number k combine) (used_later number k combines) h

needed_later : (number k : ℕ) (combines : List Combine) → is_needed (number + 1 + k) combines ≡ true → is_needed (number + k) (map (without number) combines) ≡ true
needed_later number k [] h = refl
needed_later number k (combine ∷ combines) h = used_later number k (combine ∷ combines) h

lean_without : (number k : ℕ) (combines : List Combine) → IsLean (number + 1 + k) combines → IsLean (number + k) (map (without number) combines)
lean_without number k [] lean = tt
lean_without number k (combine ∷ combines) lean =
    let next : number + 1 + k + 1 ≡ number + 1 + (k + 1) = omega arith in
    let less : number + (k + 1) ≡ number + k + 1 = omega arith in
    (needed_later number k combines lean.0, subst (λ (n : ℕ). IsLean n (map (without number) combines)) less (lean_without number (k + 1) combines (subst (λ (n : ℕ). IsLean n combines) next lean.1)))

-- ---- from the last sum back

unneeded : (number : ℕ) (later : List Combine) → is_needed number later ≡ false → list_any (uses number) later ≡ false
unneeded number [] h = absurd cc
unneeded number (combine ∷ later) h = h

goes_on : (more : List (Option Linear) → Bool) (rows : List (Option Linear)) (last : Bool) (row : Option Linear) → last ≡ false → chain_goes more rows last row ≡ true → (made_row : Option Linear) × (more (rows ++ made_row ∷ []) ≡ true)
goes_on more rows last None other h = absurd cc
goes_on more rows true (Some row) other h = absurd cc
goes_on more rows false (Some row) other h = (Some row, h)

some_later : (number : ℕ) (later : List Combine) → is_needed number later ≡ false → is_nil later ≡ false
some_later number [] h = absurd cc
some_later number (combine ∷ later) h = refl

pub part_before : (number : ℕ) (combine : Combine) (rest later : List Combine) → IsLeanPart (number + 1) rest later → IsLeanPart number (combine ∷ rest) (with_sum number combine later)
part_before number combine rest later part = by_test (is_needed number later) refl
  where
    longer : (rows : List (Option Linear)) (row : Option Linear) → length rows ≡ number → length (rows ++ row ∷ []) ≡ number + 1
    longer rows row count = append_length rows (row ∷ []) ∙ ap (λ n. n + 1) count

    closes_kept : (rows : List (Option Linear)) → length rows ≡ number → chain_closes (combine ∷ rest) rows ≡ true → chain_closes (combine ∷ later) rows ≡ true
    closes_kept rows count h = goes (chain_closes rest) (chain_closes later) rows rows (is_nil rest) (is_nil later) (made combine rows) part.same (λ row held. part.closes (rows ++ row ∷ []) (longer rows row count) held) h

    closes_left_out : is_needed number later ≡ false → (rows : List (Option Linear)) → length rows ≡ number → chain_closes (combine ∷ rest) rows ≡ true → chain_closes (map (without number) later) rows ≡ true
    closes_left_out e rows count h =
        let on = goes_on (chain_closes rest) rows (is_nil rest) (made combine rows) (part.same ∙ some_later number later e) h in
        subst (λ (some : List (Option Linear)). chain_closes (map (without number) later) some ≡ true) (append_none rows)
        (closes_without number later rows [] on.0 count (unneeded number later e) (part.closes (rows ++ on.0 ∷ []) (longer rows on.0 count) on.1))

    lean_left_out : IsLean (number + 1) later → IsLean number (map (without number) later)
    lean_left_out lean =
        let more : number + 1 ≡ number + 1 + 0 = omega arith in
        let less : number + 0 ≡ number = omega arith in
        subst (λ (n : ℕ). IsLean n (map (without number) later)) less (lean_without number 0 later (subst (λ (n : ℕ). IsLean n later) more lean))

    by_test : (test : Bool) → is_needed number later ≡ test → IsLeanPart number (combine ∷ rest) (if test then (combine ∷ later) else map (without number) later)
    by_test true e = record { same = refl; closes = closes_kept; lean = (e, part.lean) }
    by_test false e = record { same = sym (map_nil (without number) later ∙ some_later number later e); closes = closes_left_out e; lean = lean_left_out part.lean }

-- ---- the loops

walked : {X : Type 0} (f : X → X) (xs : List X) (i : ℕ) (d : X) → i < length xs → set (map f (take i xs) ++ drop i xs) i (f (get_or (map f (take i xs) ++ drop i xs) i d)) ≡ map f (take (suc i) xs) ++ drop (suc i) xs
walked f [] i d within = absurd (omega arith)
walked f (x ∷ xs) zero d within = refl
walked {X} f (x ∷ xs) (suc i) d within = ap (λ (rest : List X). f x ∷ rest) (walked f xs i d (omega arith))

pub walk_step : {X : Type 0} (f : X → X) (xs now : List X) (i : ℕ) (y d : X) → now ≡ map f (take i xs) ++ drop i xs → i < length xs → y ≡ f (get_or now i d)
    → set now i y ≡ map f (take (i + 1) xs) ++ drop (i + 1) xs
walk_step f xs now i y d is within same = rw (same, is, add-one) (walked f xs i d within)

pub no_sums : (first : ℕ) (combines kept : List Combine) → kept ≡ [] → IsLeanSoFar first combines combines kept
no_sums first combines kept none = subst (IsLeanSoFar first combines combines) (sym none) (record { done = []; whole = sym (append_none combines); part = record { same = refl; closes = λ rows count h. h; lean = tt } })

pub one_sum : (first number : ℕ) (combine : Combine) (combines left before kept after : List Combine) → left ≡ before ++ combine ∷ [] → number ≡ first + length before → after ≡ with_sum number combine kept
    → IsLeanSoFar first combines left kept → IsLeanSoFar first combines before after
one_sum first number combine combines left before kept after is count put sofar =
    let longer = ap length is ∙ append_length before (combine ∷ []) in
    let next : first + length left ≡ number + 1 = omega arith in
    record {
      done = combine ∷ sofar.done;
      whole = sofar.whole ∙ ap (λ some. some ++ sofar.done) is ∙ append_assoc before (combine ∷ []) sofar.done;
      part = subst (λ (some : List Combine). IsLeanPart (first + length before) (combine ∷ sofar.done) some) (sym put)
          (subst (λ (n : ℕ). IsLeanPart n (combine ∷ sofar.done) (with_sum number combine kept)) count (part_before number combine sofar.done kept (subst (λ (n : ℕ). IsLeanPart n sofar.done kept) next sofar.part)));
    }

pub all_sums : (first : ℕ) (combines left kept : List Combine) → left ≡ [] → IsLeanSoFar first combines left kept → IsLeanPart first combines kept
all_sums first combines left kept none sofar =
    let whole = sofar.whole ∙ ap (λ some. some ++ sofar.done) none in
    let same : first + length left ≡ first = let zero_left = ap length none in omega arith in
    subst (λ (some : List Combine). IsLeanPart first some kept) (sym whole) (subst (λ (n : ℕ). IsLeanPart n sofar.done kept) same sofar.part)

pub none_left : (before after : List Combine) (n : ℕ) → n ≡ 0 → before ≡ after ++ [] → after ≡ take (n - 1) before → before ≡ []
none_left [] after n e f g = refl
none_left (x ∷ before) after n e f g = let none : take (n - 1) (x ∷ before) ≡ [] = rw e refl in f ∙ ap (λ (some : List Combine). some ++ []) (g ∙ none)

-- ---- chains over rows

pub closes_leanly : (rows : List Linear) (first : ℕ) (combines kept : List Combine) → first ≡ length rows
    → ((given : List (Option Linear)) → length given ≡ first → chain_closes combines given ≡ true → chain_closes kept given ≡ true)
    → chain_closes combines (map Some rows) ≡ true → chain_closes kept (map Some rows) ≡ true
closes_leanly rows first combines kept count closes h = closes (map Some rows) (map_length Some rows ∙ sym count) h

pub same_lean : (first count : ℕ) (kept : List Combine) → first ≡ count → IsLean first kept → IsLean count kept
same_lean first count kept is lean = subst (λ (n : ℕ). IsLean n kept) is lean

pub one_is_lean : (first : ℕ) (combine : Combine) (kept : List Combine) → kept ≡ combine ∷ [] → IsLean first kept
one_is_lean first combine kept is = subst (IsLean first) (sym is) (refl, tt)
