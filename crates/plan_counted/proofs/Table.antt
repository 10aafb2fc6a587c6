-- The notes and kinds of a plan that a table makes.
use Rattle.std.proofs.Common.{◌≡◌, ◌==◌, inl, inr, ℕ, zero, suc, ◌+◌, ◌-◌, ◌<◌, ◌≤◌, Bool, true, false, cond, ◌&&◌, List, [], ◌∷◌, ◌++◌, map, length, get_or, Option, Some, None, refl, sym, ap, ◌∙◌, arith}
use Rattle.std.specs.Prelude.{All, slice_get, unwrap_or, IfSome, ◌||◌}
use Rattle.std.specs.List.{enumerate_from}
use Rattle.std.specs.Option.{option_to_list}
use Rattle.std.proofs.lemmas.Bool.{true≢false, cases_eq, eq-eqb}
use Rattle.std.proofs.lemmas.List.{length-map}
use Rattle.std.proofs.lemmas.List.FromFn.{length-enumerate_from}
use Rattle.std.proofs.lemmas.Option.{none-some, same_Some, slice_get_within, slice_get-get_or}
use Rattle.machine_events.specs.declared.plan.CondKind.{CondKind}
use Rattle.machine_events.specs.declared.plan.Note.{Note}
use Rattle.machine_events.specs.declared.plan.Plan.{Plan}
use Rattle.machine_events.specs.Plans.{condition_kind, has_note, has_broadcast, notes_at}
use Rattle.plan_place.specs.Relayed.{note_on}
use Rattle.plan_place.proofs.NotesOn.{AreOnTheirs, is_some, made, on_found, on_is}
use Rattle.plan_counted.specs.declared.counted.Column.{Column}
use Rattle.plan_counted.specs.declared.counted.Told.{Told}
use Rattle.plan_counted.specs.declared.counted.Told.TheVariants as telling
use Rattle.plan_counted.specs.Counted.{column_at, counted_kind, counted_notes, counted_of, told_by, told_on}

-- ---- elements with their numbers

pub numbered_at : {X Y : Type 0} (f : ℕ × X → Y) (first : ℕ) (xs : List X) (k : ℕ) (x : X) → slice_get xs k ≡ Some x
    → slice_get (map f (enumerate_from first xs)) k ≡ Some (f (first + k, x))
numbered_at f first [] k x is = absurd (omega (arith, slice_get_within [] k x is))
numbered_at {X} {Y} f first (one ∷ xs) zero x is =
    let here : first ≡ first + 0 = omega arith in
    let same : one ≡ x = same_Some one x is in
    λ i. Some (f (here i, same i))
numbered_at {X} {Y} f first (one ∷ xs) (suc k) x is =
    let there : first + 1 + k ≡ first + suc k = omega arith in
    numbered_at f (first + 1) xs k x is ∙ ap {B = Option Y} (λ (n : ℕ). Some (f (n, x))) there

pub none_numbered : {X Y : Type 0} (f : ℕ × X → Y) (first : ℕ) (xs : List X) (k : ℕ) → slice_get xs k ≡ None
    → slice_get (map f (enumerate_from first xs)) k ≡ None
none_numbered f first [] k is = refl
none_numbered f first (x ∷ xs) zero is = absurd (none-some x (sym is))
none_numbered f first (x ∷ xs) (suc k) is = none_numbered f (first + 1) xs k is

pub length_numbered : {X Y : Type 0} (f : ℕ × X → Y) (first : ℕ) (xs : List X) → length (map f (enumerate_from first xs)) ≡ length xs
length_numbered f first xs = length-map (enumerate_from first xs) f ∙ length-enumerate_from first xs

-- ---- the note that is found among those that were made

none_below : (f : ℕ → Option Note) → AreOnTheirs f → (first count q : ℕ) → q < first → note_on (made f first count) q ≡ None
none_below f on first zero q below = refl
none_below f on first (suc count) q below = by_found (f first) (on first) (none_below f on (first + 1) count q (omega arith))
  where
    by_found : (found : Option Note) → IfSome found (λ note. note.condition ≡ first)
        → note_on (made f (first + 1) count) q ≡ None → note_on (option_to_list found ++ made f (first + 1) count) q ≡ None
    by_found None is rest = rest
    by_found (Some note) is rest =
        ap (λ (test : Bool). cond test (Some note) (note_on (made f (first + 1) count) q)) (other (note.condition) is) ∙ rest
      where
        other : (n : ℕ) → n ≡ first → (n == q) ≡ false
        other n is = grind (arith, is, below)

pub note_made : (f : ℕ → Option Note) → AreOnTheirs f → (first count q : ℕ) → first ≤ q → q < first + count
    → note_on (made f first count) q ≡ f q
note_made f on first zero q low high = absurd (omega arith)
note_made f on first (suc count) q low high = elim (cases_eq q first) [
  | inl same ↦ here (f first) (on first) same refl ∙ ap f (sym same)
  | inr differs ↦ later (f first) (on first) differs (note_made f on (first + 1) count q (omega arith) (omega arith))
]
  where
    here : (found : Option Note) → IfSome found (λ note. note.condition ≡ first) → q ≡ first → f first ≡ found
        → note_on (option_to_list found ++ made f (first + 1) count) q ≡ found
    here None is same found_is = none_below f on (first + 1) count q (omega arith)
    here (Some note) is same found_is =
        ap (λ (test : Bool). cond test (Some note) (note_on (made f (first + 1) count) q)) (eq-eqb note.condition q (is ∙ sym same))

    later : (found : Option Note) → IfSome found (λ note. note.condition ≡ first) → (q ≡ first → ⊥)
        → note_on (made f (first + 1) count) q ≡ f q → note_on (option_to_list found ++ made f (first + 1) count) q ≡ f q
    later None is differs rest = rest
    later (Some note) is differs rest =
        ap (λ (test : Bool). cond test (Some note) (note_on (made f (first + 1) count) q)) (other note.condition is) ∙ rest
      where
        other : (n : ℕ) → n ≡ first → (n == q) ≡ false
        other n is = grind (arith, is, differs)

-- ---- what is made for a condition

abbrev pub made_on : List (Option Column) → ℕ → List Note → ℕ → Option Note
made_on columns block notes condition = told_on condition block (column_at columns condition) (note_on notes condition)

anything : (notes : List Note) → All (λ (note : Note). Unit {0}) notes
anything notes = λ place other within. tt

pub on_theirs : (columns : List (Option Column)) (block : ℕ) (notes : List Note) → AreOnTheirs (made_on columns block notes)
on_theirs columns block notes condition = by_column (column_at columns condition)
  where
    placed : (found : Option Note) → note_on notes condition ≡ found → IfSome found (λ note. note.condition ≡ condition)
    placed None is = tt
    placed (Some note) is = (on_found (λ (one : Note). Unit {0}) notes condition note is (anything notes)).0

    by_told : (told : Option Told) → IfSome (told_by condition told (note_on notes condition)) (λ note. note.condition ≡ condition)
    by_told None = tt
    by_told (Some (telling.Nothing counts)) = tt
    by_told (Some (telling.Signal gives first)) = refl
    by_told (Some telling.Broadcast) = refl

    by_column : (column : Option Column) → IfSome (told_on condition block column (note_on notes condition)) (λ note. note.condition ≡ condition)
    by_column None = placed (note_on notes condition) refl
    by_column (Some column) = by_told (slice_get column.told block)

-- ---- the parts of the plan

pub notes_there : (plan : Plan) (columns : List (Option Column)) (block : ℕ) (notes : List Note) → slice_get plan.notes block ≡ Some notes
    → notes_at (counted_of plan columns) block ≡ counted_notes columns block notes
notes_there plan columns block notes is =
    let same : 0 + block ≡ block = omega arith in
    ap (λ (found : Option (List Note)). unwrap_or found [])
    (numbered_at (λ (one : ℕ × List Note). counted_notes columns one.0 one.1) 0 plan.notes block notes is)
    ∙ ap (λ (number : ℕ). counted_notes columns number notes) same

pub notes_missing : (plan : Plan) (columns : List (Option Column)) (block : ℕ) → slice_get plan.notes block ≡ None
    → notes_at (counted_of plan columns) block ≡ []
notes_missing plan columns block is =
    ap (λ (found : Option (List Note)). unwrap_or found [])
    (none_numbered (λ (one : ℕ × List Note). counted_notes columns one.0 one.1) 0 plan.notes block is)

-- the note of a block that there is
pub note_is : (plan : Plan) (columns : List (Option Column)) (block condition : ℕ) (notes : List Note) → slice_get plan.notes block ≡ Some notes
    → 1 ≤ condition → condition ≤ length columns
    → note_on (notes_at (counted_of plan columns) block) condition
    ≡ told_on condition block (column_at columns condition) (note_on (notes_at plan block) condition)
note_is plan columns block condition notes there first last =
    ap (λ (own : List Note). note_on own condition) (notes_there plan columns block notes there)
    ∙ note_made (made_on columns block notes) (on_theirs columns block notes) 1 (length columns) condition first (omega arith)
    ∙ ap (λ (own : List Note). told_on condition block (column_at columns condition) (note_on own condition)) (sym (ap (λ (found : Option (List Note)). unwrap_or found []) there))

-- the note of a block on a condition with no column is the placed one
pub note_left : (plan : Plan) (columns : List (Option Column)) (block condition : ℕ) → 1 ≤ condition → condition ≤ length columns
    → column_at columns condition ≡ None
    → note_on (notes_at (counted_of plan columns) block) condition ≡ note_on (notes_at plan block) condition
note_left plan columns block condition first last none = by_notes (slice_get plan.notes block) refl
  where
    by_notes : (found : Option (List Note)) → slice_get plan.notes block ≡ found
        → note_on (notes_at (counted_of plan columns) block) condition ≡ note_on (notes_at plan block) condition
    by_notes None is =
        ap (λ (own : List Note). note_on own condition) (notes_missing plan columns block is ∙ sym (ap (λ (found : Option (List Note)). unwrap_or found []) is))
    by_notes (Some notes) is =
        note_is plan columns block condition notes is first last
        ∙ ap (λ (column : Option Column). told_on condition block column (note_on (notes_at plan block) condition)) none

pub kind_at : (plan : Plan) (columns : List (Option Column)) (condition : ℕ) (was : CondKind) → 1 ≤ condition
    → condition_kind plan condition ≡ Some was
    → condition_kind (counted_of plan columns) condition ≡ Some (counted_kind was (column_at columns condition))
kind_at plan columns condition was first is =
    let same : 1 + (condition - 1) ≡ condition = omega arith in
    numbered_at (λ (one : ℕ × CondKind). counted_kind one.1 (column_at columns one.0)) 1 plan.kinds (condition - 1) was is
    ∙ ap (λ (number : ℕ). Some (counted_kind was (column_at columns number))) same

pub kind_missing : (plan : Plan) (columns : List (Option Column)) (condition : ℕ)
    → condition_kind plan condition ≡ None → condition_kind (counted_of plan columns) condition ≡ None
kind_missing plan columns condition is =
    none_numbered (λ (one : ℕ × CondKind). counted_kind one.1 (column_at columns one.0)) 1 plan.kinds (condition - 1) is

-- ---- notes that are found

pub broadcast_found : (notes : List Note) (condition : ℕ) (note : Note) → note_on notes condition ≡ Some note → note.all ≡ true
    → has_broadcast notes condition ≡ true
broadcast_found [] condition note is all = absurd (none-some note is)
broadcast_found (one ∷ notes) condition note is all =
    by_test (one.condition == condition) is (λ more. broadcast_found notes condition note more all)
  where
    by_test : (test : Bool) → cond test (Some one) (note_on notes condition) ≡ Some note
        → (note_on notes condition ≡ Some note → has_broadcast notes condition ≡ true)
        → ((test && one.all) || has_broadcast notes condition) ≡ true
    by_test true same more = ap (λ (test : Bool). test || has_broadcast notes condition) (ap (λ (each : Note). each.all) (same_Some one note same) ∙ all)
    by_test false same more = more same

pub has_if : (notes : List Note) (condition : ℕ) (found : Option Note) → note_on notes condition ≡ found
    → has_note notes condition ≡ is_some found
has_if notes condition found is = on_is notes condition ∙ ap is_some is

pub none_if : (notes : List Note) (condition : ℕ) → has_note notes condition ≡ false → note_on notes condition ≡ None
none_if notes condition none = by_found (note_on notes condition) refl
  where
    by_found : (found : Option Note) → note_on notes condition ≡ found → found ≡ None
    by_found None is = refl
    by_found (Some note) is = absurd (true≢false (sym (has_if notes condition (Some note) is) ∙ none))

-- ---- columns by their index

pub column_is : (columns : List (Option Column)) (index : ℕ) (d : Option Column) → index < length columns
    → column_at columns (index + 1) ≡ get_or columns index d
column_is columns index d low =
    let same : index + 1 - 1 ≡ index = omega arith in
    ap (λ (place : ℕ). unwrap_or (slice_get columns place) None) same
    ∙ ap (λ (found : Option (Option Column)). unwrap_or found None) (slice_get-get_or columns index d low)
