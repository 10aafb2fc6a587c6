-- The numbers with which guards compare a field, and the pool of a field.
use Rattle.std.proofs.Common.{◌≡◌, ◌⊎◌, inl, inr, ℕ, ◌+◌, ◌<◌, ◌≤◌, ℤ, pos, Bool, true, false, not, cond, ◌&&◌, ◌||◌, List, [], ◌∷◌, ◌++◌, map, take, length, get_or, sym, arith, ap, refl, ◌∙◌}
use Rattle.std.specs.Prelude.{nat_lt}
use Rattle.std.specs.List.{filter, flat_map, list_any}
use Rattle.std.specs.Ordering.{int_eq}
use Rattle.std.proofs.lemmas.Bool.{cases_lt}
use Rattle.std.proofs.lemmas.Int.{ints}
use Rattle.std.proofs.lemmas.List.{append-nil, length-append, length-take-le, take_all, take_more, take-append-le}
use Rattle.std.proofs.lemmas.List.Concat.{flat_map-append}
use Rattle.std.proofs.lemmas.List.Elements.{filter-append}
use Rattle.logic_linear.specs.declared.formula.Formula.{Formula}
use Rattle.logic_linear.specs.declared.formula.Formula.TheVariants as formulas
use Rattle.logic_linear.specs.declared.formula.Formula.TheOpen.{All as Every, Any as Some_of}
use Rattle.logic_linear.specs.declared.formula.Formula.TheFolds.{fold-roll-Formula}
use Rattle.logic_linear.specs.Linear.{Linear}
use Rattle.logic_linear.specs.Places.{rows_layer, rows_of}
use Rattle.lang_monitor.specs.declared.monitor.Block.{Block}
use Rattle.lang_monitor.specs.Candidates.{around, bound_of, distinct, guard_bounds, pool, MOST_BOUNDS}
use Rattle.plan_candidates.proofs.ListSteps.{one_more}
use Rattle.plan_candidates.specs.inner.Numbers.{formula_numbers, row_numbers, with_number}

-- ---- formulas

parts_made : (field : ℕ) (parts : List Formula) → flat_map (row_numbers field) (flat_map (λ rows. rows) (map rows_of parts)) ≡ flat_map (formula_numbers field) parts
parts_made field [] = refl
parts_made field (part ∷ parts) =
    flat_map-append (row_numbers field) (rows_of part) (flat_map (λ rows. rows) (map rows_of parts))
    ∙ ap (λ (more : List ℤ). formula_numbers field part ++ more) (parts_made field parts)

pub all_made : (field : ℕ) (parts : List Formula) → formula_numbers field (formulas.All parts) ≡ flat_map (formula_numbers field) parts
all_made field parts =
    ap (flat_map (row_numbers field)) (ap rows_of (sym (formulas.rolls-All parts)) ∙ fold-roll-Formula (List Linear) rows_layer (Every parts))
    ∙ parts_made field parts

pub any_made : (field : ℕ) (parts : List Formula) → formula_numbers field (formulas.Any parts) ≡ flat_map (formula_numbers field) parts
any_made field parts =
    ap (flat_map (row_numbers field)) (ap rows_of (sym (formulas.rolls-Any parts)) ∙ fold-roll-Formula (List Linear) rows_layer (Some_of parts))
    ∙ parts_made field parts

rows_around : (field : ℕ) (rows : List Linear) → flat_map around (flat_map (bound_of field) rows) ≡ flat_map (row_numbers field) rows
rows_around field [] = refl
rows_around field (row ∷ rows) =
    flat_map-append around (bound_of field row) (flat_map (bound_of field) rows)
    ∙ ap (λ (more : List ℤ). row_numbers field row ++ more) (rows_around field rows)

pub guard_made : (field : ℕ) (block : Block) → guard_bounds field block ≡ formula_numbers field block.guard
guard_made field block = rows_around field (rows_of block.guard)

-- what a formula of parts adds to the numbers before
pub all_put : (field : ℕ) (before after : List ℤ) (formula : Formula) (parts items : List Formula) → formula ≡ formulas.All parts → items ≡ parts
    → after ≡ before ++ flat_map (formula_numbers field) items → after ≡ before ++ formula_numbers field formula
all_put field before after formula parts items is same made =
    made ∙ ap (λ (some : List ℤ). before ++ some) (ap (flat_map (formula_numbers field)) same ∙ sym (all_made field parts) ∙ ap (formula_numbers field) (sym is))

pub any_put : (field : ℕ) (before after : List ℤ) (formula : Formula) (parts items : List Formula) → formula ≡ formulas.Any parts → items ≡ parts
    → after ≡ before ++ flat_map (formula_numbers field) items → after ≡ before ++ formula_numbers field formula
any_put field before after formula parts items is same made =
    made ∙ ap (λ (some : List ℤ). before ++ some) (ap (flat_map (formula_numbers field)) same ∙ sym (any_made field parts) ∙ ap (formula_numbers field) (sym is))

-- 0, some numbers and those of guards, with one more block
pub guards_more : (field : ℕ) (own : List ℤ) (before after : List ℤ) (blocks : List Block) (i : ℕ) (block : Block) → i < length blocks → block ≡ get_or blocks i block
    → before ≡ pos 0 ∷ own ++ flat_map (guard_bounds field) (take i blocks) → after ≡ before ++ formula_numbers field block.guard
    → after ≡ pos 0 ∷ own ++ flat_map (guard_bounds field) (take (i + 1) blocks)
guards_more field own before after blocks i block low at is made =
    one_more (guard_bounds field) (pos 0 ∷ own) before after blocks i block low is
    (made ∙ ap (λ (some : List ℤ). before ++ some) (sym (guard_made field block) ∙ ap (guard_bounds field) at))

-- ---- the pool

abbrev has : ℤ → List ℤ → Bool
has number numbers = list_any (λ other. int_eq other number) numbers

-- what one more number adds to those before
abbrev added : ℤ → List ℤ → List ℤ
added number numbers = cond (has number numbers) [] (number ∷ [])

abbrev differs : ℤ → ℤ → Bool
differs first other = not (int_eq other first)

flipped : (a b : ℤ) (test : Bool) → int_eq a b ≡ test → int_eq b a ≡ test
flipped a b true e = grind (arith, ints)
flipped a b false e = grind (arith, ints)

one_of_two : (a b c : ℤ) → int_eq a b ≡ false → int_eq c a ≡ true → int_eq c b ≡ false
one_of_two a b c e f = grind (arith, ints)

-- a filter that keeps the number leaves whether it is there
has_filtered : (first number : ℤ) (numbers : List ℤ) → int_eq first number ≡ false → has number (filter (differs first) numbers) ≡ has number numbers
has_filtered first number [] e = refl
has_filtered first number (other ∷ numbers) e = by_test (int_eq other first) refl (has_filtered first number numbers e)
  where
    by_test : (same : Bool) → int_eq other first ≡ same → has number (filter (differs first) numbers) ≡ has number numbers
        → has number (cond (not same) (other ∷ filter (differs first) numbers) (filter (differs first) numbers)) ≡ (int_eq other number || has number numbers)
    by_test true f rest = rest ∙ sym (ap (λ test. test || has number numbers) (one_of_two first number other e f))
    by_test false f rest = ap (λ test. int_eq other number || test) rest

added_filtered : (first number : ℤ) (numbers : List ℤ) → filter (differs first) (added number numbers) ≡ added number (first ∷ filter (differs first) numbers)
added_filtered first number numbers = by_test (int_eq first number) refl (has number numbers) refl
  where
    by_test : (same : Bool) → int_eq first number ≡ same → (there : Bool) → has number numbers ≡ there
        → filter (differs first) (cond there [] (number ∷ [])) ≡ cond (same || has number (filter (differs first) numbers)) [] (number ∷ [])
    by_test true e true f = refl
    by_test true e false f = rw (flipped first number true e) refl
    by_test false e true f = rw (has_filtered first number numbers e ∙ f) refl
    by_test false e false f = rw (has_filtered first number numbers e ∙ f, flipped first number false e) refl

pub distinct_push : (numbers : List ℤ) (number : ℤ) → distinct (numbers ++ number ∷ []) ≡ distinct numbers ++ added number (distinct numbers)
distinct_push [] number = refl
distinct_push (first ∷ numbers) number =
    ap (λ (more : List ℤ). first ∷ more)
    (ap (filter (differs first)) (distinct_push numbers number)
    ∙ filter-append (differs first) (distinct numbers) (added number (distinct numbers))
    ∙ ap (λ (more : List ℤ). filter (differs first) (distinct numbers) ++ more) (added_filtered first number (distinct numbers)))

-- a pool of so many
abbrev noted_in : ℕ → List ℤ → ℤ → List ℤ
noted_in limit numbers number = cond (nat_lt (length numbers) limit && not (has number numbers)) (numbers ++ number ∷ []) numbers

pub limited : (limit : ℕ) (numbers : List ℤ) (number : ℤ) → noted_in limit (take limit numbers) number ≡ take limit (numbers ++ added number numbers)
limited limit numbers number = by_length (cases_lt (length numbers) limit)
  where
    room : (there : Bool) → length numbers < limit → has number numbers ≡ there → noted_in limit numbers number ≡ take limit (numbers ++ cond there [] (number ∷ []))
    room true low f =
        let below : nat_lt (length numbers) limit ≡ true = grind arith in
        let long : length numbers ≤ limit = omega arith in
        rw (below, f) (sym (ap (take limit) (append-nil numbers) ∙ take_all limit numbers long))
    room false low f =
        let below : nat_lt (length numbers) limit ≡ true = grind arith in
        let long : length (numbers ++ number ∷ []) ≤ limit = rw (length-append numbers (number ∷ [])) (omega arith) in
        rw (below, f) (sym (take_all limit (numbers ++ number ∷ []) long))

    full : (short : Bool) → length (take limit numbers) ≡ limit → nat_lt (length (take limit numbers)) limit ≡ short
        → cond (short && not (has number (take limit numbers))) (take limit numbers ++ number ∷ []) (take limit numbers) ≡ take limit numbers
    full true long f = absurd (grind arith)
    full false long f = refl

    by_length : (length numbers < limit) ⊎ (limit ≤ length numbers) → noted_in limit (take limit numbers) number ≡ take limit (numbers ++ added number numbers)
    by_length (inl low) =
        let long : length numbers ≤ limit = omega arith in
        ap (λ (pool : List ℤ). noted_in limit pool number) (take_all limit numbers long) ∙ room (has number numbers) low refl
    by_length (inr high) =
        full (nat_lt (length (take limit numbers)) limit) (length-take-le limit numbers high) refl ∙ sym (take-append-le limit numbers (added number numbers) high)

pub pool_push : (numbers : List ℤ) (number : ℤ) → with_number (take MOST_BOUNDS (distinct numbers)) number ≡ take MOST_BOUNDS (distinct (numbers ++ number ∷ []))
pool_push numbers number =
    limited MOST_BOUNDS (distinct numbers) number ∙ ap (take MOST_BOUNDS) (sym (distinct_push numbers number))

-- one more number of a list, and all of them
pub noted : (numbers before after : List ℤ) (i : ℕ) (number : ℤ) → i < length numbers → number ≡ get_or numbers i (pos 0)
    → before ≡ take MOST_BOUNDS (distinct (take i numbers)) → after ≡ with_number before number → after ≡ take MOST_BOUNDS (distinct (take (i + 1) numbers))
noted numbers before after i number low at is made =
    made
    ∙ ap (λ (held : List ℤ). with_number held number) is
    ∙ pool_push (take i numbers) number
    ∙ ap (λ (some : List ℤ). take MOST_BOUNDS (distinct some)) (ap (λ (one : ℤ). take i numbers ++ one ∷ []) at ∙ sym (take_more numbers i (pos 0) low))

pub all_noted : (blocks : List Block) (field : ℕ) (own numbers gathered made : List ℤ) (i : ℕ) → length numbers ≤ i → numbers ≡ gathered
    → gathered ≡ pos 0 ∷ own ++ flat_map (guard_bounds field) blocks → made ≡ take MOST_BOUNDS (distinct (take i numbers)) → made ≡ pool blocks field own
all_noted blocks field own numbers gathered made i long same are is =
    is ∙ ap (λ (some : List ℤ). take MOST_BOUNDS (distinct some)) (take_all i numbers long ∙ same ∙ are)
