-- For private contracts: the buckets by which kept rows are found.
use Rattle.std.specs.Global.{Global}
use Rattle.std.specs.Prelude.{Vec, ◌≡◌, ◌<◌, ℕ, ◌+◌, ◌*◌, ◌%◌, ◌==◌, Bool, false, if◌then◌else◌}
use Rattle.std.specs.Prelude.{List, [], ◌∷◌, length, Option, Some, None}
use Rattle.logic_linear.specs.declared.form.Term.{Term}
use Rattle.logic_linear.specs.Linear.{Linear}
use Rattle.logic_elim.specs.declared.rows.Numbered.{Numbered}
use Rattle.logic_elim.specs.Rows.{is_as_tight, same_terms}

-- The bucket of these terms among so many: by the places, where there are one or two.
abbrev pub bucket_of : ℕ → ℕ → List Term → ℕ
bucket_of side count [] = 0
bucket_of side count (one ∷ []) = (one.place + one.place * side) % count
bucket_of side count (one ∷ two ∷ []) = (one.place + two.place * side) % count
bucket_of side count (one ∷ two ∷ three ∷ others) = 0

-- The numbers of the rows in a bucket, where the first row has number `from`.
abbrev pub numbers_at : (List Term → ℕ) → ℕ → ℕ → List Numbered → List ℕ
numbers_at bucket at from [] = []
numbers_at bucket at from (first ∷ rows) =
    if bucket first.row.terms == at then (from ∷ numbers_at bucket at (from + 1) rows)
    else numbers_at bucket at (from + 1) rows

-- The buckets from one on hold the numbers of their rows.
abbrev pub AreBuckets : (List Term → ℕ) → List Numbered → ℕ → List (Vec ℕ Global) → Type 0
AreBuckets bucket rows at [] = Unit {0}
AreBuckets bucket rows at (first ∷ buckets) =
    (first.items ≡ numbers_at bucket at 0 rows) × AreBuckets bucket rows (at + 1) buckets

-- Each row's number is in its bucket.
pub record IsIndexed (side : ℕ) (rows : List Numbered) (buckets : List (Vec ℕ Global)) : Type 0
  where
    pub some : 0 < length buckets
    pub each : AreBuckets (bucket_of side (length buckets)) rows 0 buckets

-- Whether there is a row at a number, and it has these terms.
abbrev pub is_same_at : Linear → Option Numbered → Bool
is_same_at row None = false
is_same_at row (Some kept) = same_terms kept.row.terms row.terms

-- And whether it implies the row.
abbrev pub is_tight_at : Linear → Option Numbered → Bool
is_tight_at row None = false
is_tight_at row (Some kept) = is_as_tight row kept
