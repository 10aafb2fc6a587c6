-- Rows found by their buckets.
use Rattle.std.specs.Global.{Global}
use Rattle.std.proofs.Common.{◌≡◌, ℕ, zero, suc, ◌+◌, ◌<◌, Bool, true, false, cond, ◌||◌, List, [], ◌∷◌, ◌++◌, length, get_or, sym, subst, arith, ap, refl, ◌∙◌}
use Rattle.std.specs.Prelude.{Vec, ◌==◌, slice_get, slice_set, Option, Some, None}
use Rattle.std.specs.List.{find, list_any, AllByRecursion as Each}
use Rattle.std.proofs.lemmas.List.{append-nil}
use Rattle.logic_linear.specs.declared.form.Term.{Term}
use Rattle.logic_linear.specs.Linear.{Linear}
use Rattle.logic_elim.specs.declared.rows.Numbered.{Numbered}
use Rattle.logic_elim.specs.Rows.{is_as_tight, same_terms, with_row}
use Rattle.logic_elim.specs.inner.Index.{numbers_at, AreBuckets, bucket_of, is_same_at, is_tight_at, IsIndexed}
use Rattle.logic_elim.proofs.RowLemmas.{same_terms_decides, both_true}

-- ---- numbers

equal_numbers : (a b : ℕ) → (a == b) ≡ true → a ≡ b
equal_numbers a b e = grind arith

number_itself : (a b : ℕ) → a ≡ b → (a == b) ≡ true
number_itself a b e = grind arith

other_number : (a b : ℕ) → (a ≡ b → ⊥) → (a == b) ≡ false
other_number a b differ = by_test (a == b) refl
  where
    by_test : (same : Bool) → (a == b) ≡ same → same ≡ false
    by_test true e = absurd (differ (equal_numbers a b e))
    by_test false e = refl

-- ---- a part of the rows

-- The rows stand in the whole from a number on.
abbrev Follows : List Numbered → ℕ → List Numbered → Type 0
Follows whole from rows = (i : ℕ) → slice_get whole (from + i) ≡ slice_get rows i

whole_follows : (rows : List Numbered) → Follows rows 0 rows
whole_follows rows i = let e : 0 + i ≡ i = omega arith in ap (slice_get rows) e

first_follows : (whole : List Numbered) (from : ℕ) (first : Numbered) (rows : List Numbered) → Follows whole from (first ∷ rows) → slice_get whole from ≡ Some first
first_follows whole from first rows follows = let e : from ≡ from + 0 = omega arith in ap (slice_get whole) e ∙ follows 0

rest_follows : (whole : List Numbered) (from : ℕ) (first : Numbered) (rows : List Numbered) → Follows whole from (first ∷ rows) → Follows whole (from + 1) rows
rest_follows whole from first rows follows i = let e : (from + 1) + i ≡ from + suc i = omega arith in ap (slice_get whole) e ∙ follows (suc i)

-- ---- what a test finds in a bucket

-- The rows that pass the test are in the bucket.
abbrev IsOf : (List Term → ℕ) → ℕ → (Option Numbered → Bool) → Type 0
IsOf bucket at test = (kept : Numbered) → test (Some kept) ≡ true → bucket kept.row.terms ≡ at

fails_elsewhere : (bucket : List Term → ℕ) (at : ℕ) (test : Option Numbered → Bool) (kept : Numbered) → IsOf bucket at test → (bucket kept.row.terms == at) ≡ false → test (Some kept) ≡ false
fails_elsewhere bucket at test kept fits e = by_test (test (Some kept)) refl
  where
    by_test : (passed : Bool) → test (Some kept) ≡ passed → passed ≡ false
    by_test true h = let same = number_itself (bucket kept.row.terms) at (fits kept h) in absurd cc
    by_test false h = refl

any_found : (bucket : List Term → ℕ) (at : ℕ) (test : Option Numbered → Bool) (whole : List Numbered) (from : ℕ) (rows : List Numbered) → IsOf bucket at test → Follows whole from rows
    → list_any (λ number. test (slice_get whole number)) (numbers_at bucket at from rows) ≡ list_any (λ kept. test (Some kept)) rows
any_found bucket at test whole from [] fits follows = refl
any_found bucket at test whole from (first ∷ rows) fits follows =
    by_bucket (bucket first.row.terms == at) refl (any_found bucket at test whole (from + 1) rows fits (rest_follows whole from first rows follows))
  where
    Any : List ℕ → Bool
    Any numbers = list_any (λ number. test (slice_get whole number)) numbers

    by_bucket : (here : Bool) → (bucket first.row.terms == at) ≡ here → Any (numbers_at bucket at (from + 1) rows) ≡ list_any (λ kept. test (Some kept)) rows
        → Any (cond here (from ∷ numbers_at bucket at (from + 1) rows) (numbers_at bucket at (from + 1) rows)) ≡ (test (Some first) || list_any (λ kept. test (Some kept)) rows)
    by_bucket true e more =
        ap (λ (one : Option Numbered). test one || Any (numbers_at bucket at (from + 1) rows)) (first_follows whole from first rows follows)
        ∙ ap (λ (others : Bool). test (Some first) || others) more
    by_bucket false e more = more ∙ sym (ap (λ (one : Bool). one || list_any (λ kept. test (Some kept)) rows) (fails_elsewhere bucket at test first fits e))

-- The number of the first row that passes the test.
abbrev found : (Option Numbered → Bool) → ℕ → List Numbered → Option ℕ
found test from [] = None
found test from (first ∷ rows) = cond (test (Some first)) (Some from) (found test (from + 1) rows)

first_found : (bucket : List Term → ℕ) (at : ℕ) (test : Option Numbered → Bool) (whole : List Numbered) (from : ℕ) (rows : List Numbered) → IsOf bucket at test → Follows whole from rows
    → find (λ number. test (slice_get whole number)) (numbers_at bucket at from rows) ≡ found test from rows
first_found bucket at test whole from [] fits follows = refl
first_found bucket at test whole from (first ∷ rows) fits follows =
    by_bucket (bucket first.row.terms == at) refl (first_found bucket at test whole (from + 1) rows fits (rest_follows whole from first rows follows))
  where
    Find : List ℕ → Option ℕ
    Find numbers = find (λ number. test (slice_get whole number)) numbers

    by_bucket : (here : Bool) → (bucket first.row.terms == at) ≡ here → Find (numbers_at bucket at (from + 1) rows) ≡ found test (from + 1) rows
        → Find (cond here (from ∷ numbers_at bucket at (from + 1) rows) (numbers_at bucket at (from + 1) rows)) ≡ cond (test (Some first)) (Some from) (found test (from + 1) rows)
    by_bucket true e more =
        ap (λ (one : Option Numbered). cond (test one) (Some from) (Find (numbers_at bucket at (from + 1) rows))) (first_follows whole from first rows follows)
        ∙ ap (λ (later : Option ℕ). cond (test (Some first)) (Some from) later) more
    by_bucket false e more = more ∙ sym (ap (λ (one : Bool). cond one (Some from) (found test (from + 1) rows)) (fails_elsewhere bucket at test first fits e))

same_fits : (bucket : List Term → ℕ) (row : Linear) → IsOf bucket (bucket row.terms) (is_same_at row)
same_fits bucket row kept h = ap bucket ((same_terms_decides kept.row.terms row.terms).0 h)

tight_fits : (bucket : List Term → ℕ) (row : Linear) → IsOf bucket (bucket row.terms) (is_tight_at row)
tight_fits bucket row kept h = same_fits bucket row kept (both_true _ _ h).0

-- ---- the row put

-- What putting the row does where one with its terms has this number.
pub record IsReplaced (bucket : List Term → ℕ) (rows : List Numbered) (new : Numbered) (i : ℕ) : Type 0 where
  pub within : i < length rows
  pub set : slice_set rows i new ≡ with_row rows new
  pub same : (at from : ℕ) → numbers_at bucket at from (with_row rows new) ≡ numbers_at bucket at from rows

-- At the number found there is such a row.
abbrev FindsRow : (List Term → ℕ) → List Numbered → Numbered → ℕ → Option ℕ → Type 0
FindsRow bucket rows new from None = with_row rows new ≡ rows ++ new ∷ []
FindsRow bucket rows new from (Some number) = (i : ℕ) × (number ≡ from + i) × IsReplaced bucket rows new i

finds_row : (bucket : List Term → ℕ) (rows : List Numbered) (new : Numbered) (from : ℕ) → FindsRow bucket rows new from (found (is_same_at new.row) from rows)
finds_row bucket [] new from = refl
finds_row bucket (first ∷ rows) new from =
    by_test (same_terms first.row.terms new.row.terms) refl (found (is_same_at new.row) (from + 1) rows) (finds_row bucket rows new (from + 1))
  where
    Put : Bool → List Numbered
    Put same = cond same (new ∷ rows) (first ∷ with_row rows new)

    put_is : (same : Bool) → same_terms first.row.terms new.row.terms ≡ same → with_row (first ∷ rows) new ≡ Put same
    put_is same e = ap Put e

    same_bucket : (at from : ℕ) → bucket first.row.terms ≡ bucket new.row.terms → numbers_at bucket at from (new ∷ rows) ≡ numbers_at bucket at from (first ∷ rows)
    same_bucket at from e = ap (λ (here : ℕ). cond (here == at) (from ∷ numbers_at bucket at (from + 1) rows) (numbers_at bucket at (from + 1) rows)) (sym e)

    later : (at from : ℕ) → numbers_at bucket at (from + 1) (with_row rows new) ≡ numbers_at bucket at (from + 1) rows → numbers_at bucket at from (first ∷ with_row rows new) ≡ numbers_at bucket at from (first ∷ rows)
    later at from e = ap (λ (others : List ℕ). cond (bucket first.row.terms == at) (from ∷ others) others) e

    by_test : (same : Bool) → same_terms first.row.terms new.row.terms ≡ same → (rest : Option ℕ) → FindsRow bucket rows new (from + 1) rest → FindsRow bucket (first ∷ rows) new from (cond same (Some from) rest)
    by_test true e rest more =
        let terms = (same_terms_decides first.row.terms new.row.terms).0 e in (
          0,
          (let here : from ≡ from + 0 = omega arith in here),
          record {
            within = omega arith;
            set = sym (put_is true e);
            same = λ at from. ap (numbers_at bucket at from) (put_is true e) ∙ same_bucket at from (ap bucket terms);
          },
        )
    by_test false e None more = put_is false e ∙ ap (λ (others : List Numbered). first ∷ others) more
    by_test false e (Some number) more =
        let is = more.1 in
        let replaced = more.2 in
        let within = replaced.within in (
          suc more.0,
          (let there : number ≡ from + suc more.0 = omega arith in there),
          record {
            within = omega arith;
            set = ap (λ (others : List Numbered). first ∷ others) replaced.set ∙ sym (put_is false e);
            same = λ at from. ap (numbers_at bucket at from) (put_is false e) ∙ later at from (replaced.same at (from + 1));
          },
        )

-- ---- the buckets

same_buckets : (bucket : List Term → ℕ) (rows after : List Numbered) (at : ℕ) (buckets : List (Vec ℕ Global)) → ((at from : ℕ) → numbers_at bucket at from after ≡ numbers_at bucket at from rows) → AreBuckets bucket rows at buckets → AreBuckets bucket after at buckets
same_buckets bucket rows after at [] same are = tt
same_buckets bucket rows after at (first ∷ buckets) same are = (are.0 ∙ sym (same at 0), same_buckets bucket rows after (at + 1) buckets same are.1)

bucket_at : (bucket : List Term → ℕ) (rows : List Numbered) (at : ℕ) (buckets : List (Vec ℕ Global)) (i : ℕ) (one : Vec ℕ Global) → i < length buckets → one ≡ get_or buckets i one → AreBuckets bucket rows at buckets → one.items ≡ numbers_at bucket (at + i) 0 rows
bucket_at bucket rows at [] i one h is are = absurd (omega arith)
bucket_at bucket rows at (first ∷ buckets) zero one h is are =
    let e : at ≡ at + 0 = omega arith in
    ap (λ (it : Vec ℕ Global). it.items) is ∙ are.0 ∙ ap (λ (here : ℕ). numbers_at bucket here 0 rows) e
bucket_at bucket rows at (first ∷ buckets) (suc i) one h is are =
    let e : (at + 1) + i ≡ at + suc i = omega arith in
    bucket_at bucket rows (at + 1) buckets i one (omega arith) is are.1 ∙ ap (λ (here : ℕ). numbers_at bucket here 0 rows) e

-- What the last row adds to the numbers.
abbrev last_number : (List Term → ℕ) → ℕ → Numbered → ℕ → List ℕ
last_number bucket at new last = cond (bucket new.row.terms == at) (last ∷ []) []

numbers_more : (bucket : List Term → ℕ) (at from : ℕ) (rows : List Numbered) (new : Numbered) (last : ℕ) → last ≡ from + length rows → numbers_at bucket at from (rows ++ new ∷ []) ≡ numbers_at bucket at from rows ++ last_number bucket at new last
numbers_more bucket at from [] new last e = let here : from ≡ last = omega arith in ap (λ (number : ℕ). last_number bucket at new number) here
numbers_more bucket at from (first ∷ rows) new last e = by_bucket (bucket first.row.terms == at) (numbers_more bucket at (from + 1) rows new last (omega arith))
  where
    by_bucket : (here : Bool) → numbers_at bucket at (from + 1) (rows ++ new ∷ []) ≡ numbers_at bucket at (from + 1) rows ++ last_number bucket at new last
        → cond here (from ∷ numbers_at bucket at (from + 1) (rows ++ new ∷ [])) (numbers_at bucket at (from + 1) (rows ++ new ∷ []))
        ≡ cond here (from ∷ numbers_at bucket at (from + 1) rows) (numbers_at bucket at (from + 1) rows) ++ last_number bucket at new last
    by_bucket true more = ap (λ (others : List ℕ). from ∷ others) more
    by_bucket false more = more

numbers_here : (bucket : List Term → ℕ) (at : ℕ) (rows : List Numbered) (new : Numbered) → bucket new.row.terms ≡ at → numbers_at bucket at 0 (rows ++ new ∷ []) ≡ numbers_at bucket at 0 rows ++ length rows ∷ []
numbers_here bucket at rows new here =
    let e : length rows ≡ 0 + length rows = omega arith in
    numbers_more bucket at 0 rows new (length rows) e
    ∙ ap (λ (test : Bool). numbers_at bucket at 0 rows ++ cond test (length rows ∷ []) []) (number_itself (bucket new.row.terms) at here)

numbers_elsewhere : (bucket : List Term → ℕ) (at : ℕ) (rows : List Numbered) (new : Numbered) → (bucket new.row.terms ≡ at → ⊥) → numbers_at bucket at 0 (rows ++ new ∷ []) ≡ numbers_at bucket at 0 rows
numbers_elsewhere bucket at rows new differ =
    let e : length rows ≡ 0 + length rows = omega arith in
    numbers_more bucket at 0 rows new (length rows) e
    ∙ ap (λ (test : Bool). numbers_at bucket at 0 rows ++ cond test (length rows ∷ []) []) (other_number (bucket new.row.terms) at differ)
    ∙ append-nil (numbers_at bucket at 0 rows)

buckets_after : (bucket : List Term → ℕ) (rows : List Numbered) (new : Numbered) (at : ℕ) (buckets : List (Vec ℕ Global)) → bucket new.row.terms < at → AreBuckets bucket rows at buckets → AreBuckets bucket (rows ++ new ∷ []) at buckets
buckets_after bucket rows new at [] h are = tt
buckets_after bucket rows new at (first ∷ buckets) h are =
    (are.0 ∙ sym (numbers_elsewhere bucket at rows new (λ e. omega arith)), buckets_after bucket rows new (at + 1) buckets (omega arith) are.1)

buckets_more : (bucket : List Term → ℕ) (rows : List Numbered) (new : Numbered) (at : ℕ) (buckets : List (Vec ℕ Global)) (i : ℕ) (one : Vec ℕ Global) → i < length buckets → bucket new.row.terms ≡ at + i
    → one.items ≡ numbers_at bucket (at + i) 0 rows ++ length rows ∷ [] → AreBuckets bucket rows at buckets → AreBuckets bucket (rows ++ new ∷ []) at (slice_set buckets i one)
buckets_more bucket rows new at [] i one h is holds are = absurd (omega arith)
buckets_more bucket rows new at (first ∷ buckets) zero one h is holds are =
    let e : at + 0 ≡ at = omega arith in (
      holds ∙ sym (numbers_here bucket (at + 0) rows new is) ∙ ap (λ (here : ℕ). numbers_at bucket here 0 (rows ++ new ∷ [])) e,
      buckets_after bucket rows new (at + 1) buckets (omega arith) are.1,
    )
buckets_more bucket rows new at (first ∷ buckets) (suc i) one h is holds are =
    let e : at + suc i ≡ (at + 1) + i = omega arith in (
      are.0 ∙ sym (numbers_elsewhere bucket at rows new (λ g. omega arith)),
      buckets_more bucket rows new (at + 1) buckets i one (omega arith) (is ∙ e) (holds ∙ ap (λ (here : ℕ). numbers_at bucket here 0 rows ++ length rows ∷ []) e) are.1,
    )

empty_are : (bucket : List Term → ℕ) (at : ℕ) (buckets : List (Vec ℕ Global)) → Each (λ (one : Vec ℕ Global). one.items ≡ []) buckets → AreBuckets bucket [] at buckets
empty_are bucket at [] all = tt
empty_are bucket at (first ∷ buckets) all = (all.0, empty_are bucket (at + 1) buckets all.1)

set_length : (buckets : List (Vec ℕ Global)) (i : ℕ) (one : Vec ℕ Global) → length (slice_set buckets i one) ≡ length buckets
set_length [] i one = refl
set_length (first ∷ buckets) zero one = refl
set_length (first ∷ buckets) (suc i) one = ap suc (set_length buckets i one)

-- ---- the table

pub empty_indexed : (side : ℕ) (buckets : List (Vec ℕ Global)) → 0 < length buckets → Each (λ (one : Vec ℕ Global). one.items ≡ []) buckets → IsIndexed side [] buckets
empty_indexed side buckets some all = record { some = some; each = empty_are (bucket_of side (length buckets)) 0 buckets all }

-- The bucket of the row holds the numbers of the rows that may have its terms.
holds_numbers : (side : ℕ) (rows : List Numbered) (buckets : List (Vec ℕ Global)) (at : ℕ) (one : Vec ℕ Global) → IsIndexed side rows buckets → at < length buckets → one ≡ get_or buckets at one → one.items ≡ numbers_at (bucket_of side (length buckets)) at 0 rows
holds_numbers side rows buckets at one indexed h is =
    let e : 0 + at ≡ at = omega arith in
    bucket_at (bucket_of side (length buckets)) rows 0 buckets at one h is indexed.each ∙ ap (λ (here : ℕ). numbers_at (bucket_of side (length buckets)) here 0 rows) e

-- The slices of the rows and of the bucket's numbers are shown as they are where these are
-- searched.
pub known_by_bucket : (side : ℕ) (rows : List Numbered) (buckets : List (Vec ℕ Global)) (at : ℕ) (one : Vec ℕ Global) (row : Linear) (shown : List Numbered) (numbers : List ℕ)
    → IsIndexed side rows buckets → at ≡ bucket_of side (length buckets) row.terms → at < length buckets → one ≡ get_or buckets at one → shown ≡ rows → numbers ≡ one.items
    → list_any (λ number. is_tight_at row (slice_get shown number)) numbers ≡ list_any (is_as_tight row) rows
known_by_bucket side rows buckets at one row shown numbers indexed e h is f g =
    let bucket = bucket_of side (length buckets) in
    ap (λ (all : List Numbered). list_any (λ number. is_tight_at row (slice_get all number)) numbers) f
    ∙ ap (list_any (λ number. is_tight_at row (slice_get rows number))) (g ∙ holds_numbers side rows buckets at one indexed h is ∙ ap (λ (here : ℕ). numbers_at bucket here 0 rows) e)
    ∙ any_found bucket (bucket row.terms) (is_tight_at row) rows 0 rows (tight_fits bucket row) (whole_follows rows)

found_is : (side : ℕ) (rows : List Numbered) (buckets : List (Vec ℕ Global)) (at : ℕ) (one : Vec ℕ Global) (new : Numbered) (shown : List Numbered) (numbers : List ℕ)
    → IsIndexed side rows buckets → at ≡ bucket_of side (length buckets) new.row.terms → at < length buckets → one ≡ get_or buckets at one → shown ≡ rows → numbers ≡ one.items
    → find (λ number. is_same_at new.row (slice_get shown number)) numbers ≡ found (is_same_at new.row) 0 rows
found_is side rows buckets at one new shown numbers indexed e h is f g =
    let bucket = bucket_of side (length buckets) in
    ap (λ (all : List Numbered). find (λ number. is_same_at new.row (slice_get all number)) numbers) f
    ∙ ap (find (λ number. is_same_at new.row (slice_get rows number))) (g ∙ holds_numbers side rows buckets at one indexed h is ∙ ap (λ (here : ℕ). numbers_at bucket here 0 rows) e)
    ∙ first_found bucket (bucket new.row.terms) (is_same_at new.row) rows 0 rows (same_fits bucket new.row) (whole_follows rows)

pub none_by_bucket : (side : ℕ) (rows : List Numbered) (buckets : List (Vec ℕ Global)) (at : ℕ) (one : Vec ℕ Global) (new : Numbered) (shown : List Numbered) (numbers : List ℕ)
    → IsIndexed side rows buckets → at ≡ bucket_of side (length buckets) new.row.terms → at < length buckets → one ≡ get_or buckets at one → shown ≡ rows → numbers ≡ one.items
    → None ≡ find (λ number. is_same_at new.row (slice_get shown number)) numbers → with_row rows new ≡ rows ++ new ∷ []
none_by_bucket side rows buckets at one new shown numbers indexed e h is f g none =
    subst (FindsRow (bucket_of side (length buckets)) rows new 0) (sym (none ∙ found_is side rows buckets at one new shown numbers indexed e h is f g)) (finds_row (bucket_of side (length buckets)) rows new 0)

pub some_by_bucket : (side : ℕ) (rows : List Numbered) (buckets : List (Vec ℕ Global)) (at : ℕ) (one : Vec ℕ Global) (new : Numbered) (number : ℕ) (shown : List Numbered) (numbers : List ℕ)
    → IsIndexed side rows buckets → at ≡ bucket_of side (length buckets) new.row.terms → at < length buckets → one ≡ get_or buckets at one → shown ≡ rows → numbers ≡ one.items
    → Some number ≡ find (λ number. is_same_at new.row (slice_get shown number)) numbers → IsReplaced (bucket_of side (length buckets)) rows new number
some_by_bucket side rows buckets at one new number shown numbers indexed e h is f g some =
    let bucket = bucket_of side (length buckets) in
    let finds : FindsRow bucket rows new 0 (Some number) = subst (FindsRow bucket rows new 0) (sym (some ∙ found_is side rows buckets at one new shown numbers indexed e h is f g)) (finds_row bucket rows new 0) in
    let there = finds.1 in
    let same : finds.0 ≡ number = omega arith in
    subst (IsReplaced bucket rows new) same finds.2

pub replaced_indexed : (side : ℕ) (rows : List Numbered) (buckets : List (Vec ℕ Global)) (new : Numbered) (number : ℕ) → IsIndexed side rows buckets → IsReplaced (bucket_of side (length buckets)) rows new number → IsIndexed side (slice_set rows number new) buckets
replaced_indexed side rows buckets new number indexed replaced =
    let bucket = bucket_of side (length buckets) in
    record {
      some = indexed.some;
      each = subst (λ (after : List Numbered). AreBuckets bucket after 0 buckets) (sym replaced.set) (same_buckets bucket rows (with_row rows new) 0 buckets replaced.same indexed.each);
    }

buckets_same : (bucket : List Term → ℕ) (rows : List Numbered) (at : ℕ) (buckets : List (Vec ℕ Global)) (i : ℕ) (one : Vec ℕ Global) → one.items ≡ numbers_at bucket (at + i) 0 rows → AreBuckets bucket rows at buckets → AreBuckets bucket rows at (slice_set buckets i one)
buckets_same bucket rows at [] i one holds are = tt
buckets_same bucket rows at (first ∷ buckets) zero one holds are =
    let e : at + 0 ≡ at = omega arith in
    (holds ∙ ap (λ (here : ℕ). numbers_at bucket here 0 rows) e, are.1)
buckets_same bucket rows at (first ∷ buckets) (suc i) one holds are =
    let e : at + suc i ≡ (at + 1) + i = omega arith in
    (are.0, buckets_same bucket rows (at + 1) buckets i one (holds ∙ ap (λ (here : ℕ). numbers_at bucket here 0 rows) e) are.1)

pub kept_indexed : (side : ℕ) (rows after : List Numbered) (buckets : List (Vec ℕ Global)) (at : ℕ) (one other : Vec ℕ Global) → IsIndexed side rows buckets → at < length buckets → one ≡ get_or buckets at one
    → other.items ≡ one.items → after ≡ rows → IsIndexed side after (slice_set buckets at other)
kept_indexed side rows after buckets at one other indexed h is same stays =
    let bucket = bucket_of side (length buckets) in
    let set = set_length buckets at other in
    let some = indexed.some in
    record {
      some = omega arith;
      each = subst (λ (count : ℕ). AreBuckets (bucket_of side count) after 0 (slice_set buckets at other)) (sym set)
          (subst (λ (all : List Numbered). AreBuckets bucket all 0 (slice_set buckets at other)) (sym stays)
          (buckets_same bucket rows 0 buckets at other (same ∙ bucket_at bucket rows 0 buckets at one h is indexed.each) indexed.each));
    }

pub pushed_indexed : (side : ℕ) (rows after : List Numbered) (buckets : List (Vec ℕ Global)) (at : ℕ) (one more : Vec ℕ Global) (new : Numbered) → IsIndexed side rows buckets → at ≡ bucket_of side (length buckets) new.row.terms → at < length buckets → one ≡ get_or buckets at one
    → more.items ≡ one.items ++ length rows ∷ [] → after ≡ rows ++ new ∷ [] → IsIndexed side after (slice_set buckets at more)
pushed_indexed side rows after buckets at one more new indexed e h is adds grown =
    let bucket = bucket_of side (length buckets) in
    let place : bucket new.row.terms ≡ 0 + at = (let here : at ≡ 0 + at = omega arith in sym e ∙ here) in
    let same : 0 + at ≡ at = omega arith in
    let set = set_length buckets at more in
    let some = indexed.some in
    record {
      some = omega arith;
      each = subst (λ (count : ℕ). AreBuckets (bucket_of side count) after 0 (slice_set buckets at more)) (sym set)
          (subst (λ (all : List Numbered). AreBuckets bucket all 0 (slice_set buckets at more)) (sym grown)
          (buckets_more bucket rows new 0 buckets at more h place
          (adds ∙ ap (λ (numbers : List ℕ). numbers ++ length rows ∷ []) (bucket_at bucket rows 0 buckets at one h is indexed.each)) indexed.each));
    }
