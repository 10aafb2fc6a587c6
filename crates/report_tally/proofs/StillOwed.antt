-- The proofs of the placed plan that are still owed are those of the claims that the counted plan
-- rests on.
use Rattle.std.proofs.Common.{◌≡◌, ◌==◌, ℕ, zero, suc, ◌+◌, ◌-◌, ◌<◌, ◌≤◌, Bool, true, false, not, cond, ◌&&◌, List, [], ◌∷◌, ◌++◌, map, length, Option, Some, None, inl, inr, refl, sym, ap, ap₂, subst, ◌∙◌, arith}
use Rattle.std.specs.Prelude.{All, slice_get, unwrap_or, IfSome, is_some as has_some}
use Rattle.std.specs.List.{enumerate_from, filter, flat_map, range_with_len}
use Rattle.std.specs.Option.{option_to_list, option_map_or}
use Rattle.std.proofs.lemmas.Bool.{cases_eq, eq-eqb}
use Rattle.std.proofs.lemmas.List.{map-append}
use Rattle.std.proofs.lemmas.List.Elements.{All-nil, All-cons, All-head, All-tail, All-map, filter-append}
use Rattle.std.proofs.lemmas.Option.{slice_get_within}
use Rattle.lang_monitor.specs.declared.claim.Claim.{Claim}
use Rattle.lang_monitor.specs.declared.claim.Claim.TheVariants as claims
use Rattle.lang_monitor.specs.MonitorParts.{MonitorParts}
use Rattle.machine_events.specs.declared.plan.CondKind.{CondKind}
use Rattle.machine_events.specs.declared.plan.CondKind.TheVariants as kinds
use Rattle.machine_events.specs.declared.plan.Note.{Note}
use Rattle.machine_events.specs.declared.plan.Plan.{Plan}
use Rattle.machine_events.specs.Plans.{has_note, notes_at}
use Rattle.plan_candidates.specs.Claims.{keeps_claims}
use Rattle.plan_claims.specs.Backing.{backed_claims, block_numbers, condition_numbers, kind_claims, reads_none, unnoted_claims, untested_claims, waits_at}
use Rattle.plan_place.specs.Relayed.{note_on}
use Rattle.plan_place.proofs.NotesOn.{is_some, on_found, on_is}
use Rattle.plan_counted.specs.declared.counted.Column.{Column}
use Rattle.plan_counted.specs.declared.counted.Told.{Told}
use Rattle.plan_counted.specs.declared.counted.Told.TheVariants as telling
use Rattle.plan_counted.proofs.Table.{made_on, note_made, on_theirs}
use Rattle.plan_counted.specs.Counted.{column_at, counted_kind, counted_notes, counted_of, is_tested, told_by, told_on}
use Rattle.report_verdict.specs.Reports.{AreNotesOf, IsPlanOf}
use Rattle.report_proofs.specs.inner.Reading.{AreFrom}
use Rattle.report_verdict.proofs.Askable.{flat_all, range_all}
use Rattle.report_verdict.proofs.Pairs.{all_at}
use Rattle.report_proofs.proofs.NoteLines.{from_notes}
use Rattle.report_tally.specs.CountedReports.{is_counted, is_owed}
use Rattle.report_tally.specs.CountedTexts.{column_row, has_column, is_note, is_noted, is_still_owed}

-- ---- filters of lists

-- tests that agree on each element
pub same_filter : {X : Type 0} (p q : X → Bool) (xs : List X) → All (λ x. p x ≡ q x) xs → filter p xs ≡ filter q xs
same_filter p q [] each = refl
same_filter {X} p q (x ∷ xs) each =
    let rest = same_filter p q xs (All-tail (λ (x : X). p x ≡ q x) x xs each) in
    ap₂ (λ (test : Bool) (more : List X). cond test (x ∷ more) more) (All-head (λ (x : X). p x ≡ q x) x xs each) rest

-- what passes one test, is mapped, and passes another
one_mapped : {X Y : Type 0} (f : X → Y) (p : Y → Bool) (passes : Bool) (x : X) (xs : List X)
    → filter p (map f (cond passes (x ∷ xs) xs)) ≡ cond (passes && p (f x)) (f x ∷ filter p (map f xs)) (filter p (map f xs))
one_mapped f p true x xs = refl
one_mapped f p false x xs = refl

pub two_tests : {X Y : Type 0} (f : X → Y) (p q : Y → Bool) (s t : X → Bool) (xs : List X) → All (λ x. (s x && p (f x)) ≡ (t x && q (f x))) xs
    → filter p (map f (filter s xs)) ≡ filter q (map f (filter t xs))
two_tests f p q s t [] each = refl
two_tests {X} {Y} f p q s t (x ∷ xs) each =
    let P : X → Type 0 = λ x. (s x && p (f x)) ≡ (t x && q (f x)) in
    one_mapped f p (s x) x (filter s xs)
    ∙ ap₂ (λ (test : Bool) (more : List Y). cond test (f x ∷ more) more) (All-head P x xs each) (two_tests f p q s t xs (All-tail P x xs each))
    ∙ sym (one_mapped f q (t x) x (filter t xs))

-- numbered lists, whose elements agree one by one
pub both_flat : {X Z : Type 0} (p q : Claim → Bool) (f : ℕ → X → List Claim) (g : ℕ → Z → List Claim) (h : ℕ → X → Z) (first : ℕ) (xs : List X)
    → ((k : ℕ) (x : X) → slice_get xs k ≡ Some x → filter p (f (first + k) x) ≡ filter q (g (first + k) (h (first + k) x)))
    → filter p (flat_map (λ one. f one.0 one.1) (enumerate_from first xs))
    ≡ filter q (flat_map (λ one. g one.0 one.1) (enumerate_from first (map (λ one. h one.0 one.1) (enumerate_from first xs))))
both_flat p q f g h first [] each = refl
both_flat {X} p q f g h first (x ∷ xs) each =
    let start : first + 0 ≡ first = omega arith in
    let here : filter p (f first x) ≡ filter q (g first (h first x)) = subst (λ (n : ℕ). filter p (f n x) ≡ filter q (g n (h n x))) start (each 0 x refl) in
    let more = flat_map (λ one. f one.0 one.1) (enumerate_from (first + 1) xs) in
    let others = flat_map (λ one. g one.0 one.1) (enumerate_from (first + 1) (map (λ one. h one.0 one.1) (enumerate_from (first + 1) xs))) in
    filter-append p (f first x) more
    ∙ ap₂ (λ (a b : List Claim). a ++ b) here (both_flat p q f g h (first + 1) xs (λ k one there.
    let far : first + suc k ≡ first + 1 + k = omega arith in
    subst (λ (n : ℕ). filter p (f n one) ≡ filter q (g n (h n one))) far (each (suc k) one there)))
    ∙ sym (filter-append q (g first (h first x)) others)

-- ---- what is known of a column

-- where the counted plan has no note, the placed one has none
abbrev pub KeepsNotes : ℕ → ℕ → Option Column → Option Note → Type 0
KeepsNotes condition block column placed = told_on condition block column placed ≡ None → placed ≡ None

-- ---- kinds

marked : (columns : List (Option Column)) (condition : ℕ) → is_counted (map column_row columns) condition ≡ has_column (column_at columns condition)
marked columns condition = at columns (condition - 1)
  where
    at : (columns : List (Option Column)) (k : ℕ) → has_some (unwrap_or (slice_get (map column_row columns) k) None) ≡ has_column (unwrap_or (slice_get columns k) None)
    at [] k = refl
    at (None ∷ columns) zero = refl
    at (Some column ∷ columns) zero = refl
    at (column ∷ columns) (suc k) = at columns k

none_of : {X : Type 0} (f : X → Claim) (p : Claim → Bool) (xs : List X) → ((x : X) → p (f x) ≡ false) → filter p (map f xs) ≡ []
none_of f p [] each = refl
none_of f p (x ∷ xs) each = ap (λ (test : Bool). cond test (f x ∷ filter p (map f xs)) (filter p (map f xs))) (each x) ∙ none_of f p xs each

pub kinds_still_owed : (monitor : MonitorParts) (columns : List (Option Column)) (condition : ℕ) (kind : CondKind)
    → filter (is_still_owed columns) (kind_claims monitor condition kind)
    ≡ filter (is_owed (map column_row columns)) (kind_claims monitor condition (counted_kind kind (column_at columns condition)))
kinds_still_owed monitor columns condition kind = by_column (column_at columns condition) refl
  where
    P : List Claim → Type 0
    P all = All (λ claim. is_still_owed columns claim ≡ is_owed (map column_row columns) claim) all

    waiting : List ℕ
    waiting = filter (waits_at monitor condition) (block_numbers monitor)

    agree : (blocks : List ℕ) → P (map (claims.One condition) blocks)
    agree [] = All-nil (λ claim. is_still_owed columns claim ≡ is_owed (map column_row columns) claim)
    agree (block ∷ blocks) =
        All-cons (λ claim. is_still_owed columns claim ≡ is_owed (map column_row columns) claim) (claims.One condition block) (map (claims.One condition) blocks) (ap not (sym (marked columns condition))) (agree blocks)

    by_kind : (kind : CondKind) → P (kind_claims monitor condition kind)
    by_kind kinds.Signal = agree waiting
    by_kind kinds.Broadcast = All-nil (λ claim. is_still_owed columns claim ≡ is_owed (map column_row columns) claim)

    nothing_owed : (column : Column) → column_at columns condition ≡ Some column → (kind : CondKind) → filter (is_still_owed columns) (kind_claims monitor condition kind) ≡ []
    nothing_owed column is kinds.Signal = none_of (claims.One condition) (is_still_owed columns) waiting (λ block. ap (λ (one : Option Column). not (has_column one)) is)
    nothing_owed column is kinds.Broadcast = refl

    by_column : (column : Option Column) → column_at columns condition ≡ column
        → filter (is_still_owed columns) (kind_claims monitor condition kind) ≡ filter (is_owed (map column_row columns)) (kind_claims monitor condition (counted_kind kind column))
    by_column None is = same_filter (is_still_owed columns) (is_owed (map column_row columns)) (kind_claims monitor condition kind) (by_kind kind)
    by_column (Some column) is =
        nothing_owed column is kind
        ∙ sym (none_of (claims.One condition) (is_owed (map column_row columns)) waiting (λ block. ap not (marked columns condition) ∙ ap (λ (one : Option Column). not (has_column one)) is))

-- ---- blocks without a note

and_false : (b : Bool) → (b && false) ≡ false
and_false true = refl
and_false false = refl

unnoted_at : (condition block : ℕ) (column : Option Column) (placed : Option Note) → KeepsNotes condition block column placed
    → (not (is_some placed) && not (is_noted column block)) ≡ (not (is_some (told_on condition block column placed)) && true)
unnoted_at condition block None placed keeps = refl
unnoted_at condition block (Some column) placed keeps = by_told (slice_get column.told block) keeps
  where
    by_told : (told : Option Told) → (told_by condition told placed ≡ None → placed ≡ None)
        → (not (is_some placed) && not (option_map_or is_note told false)) ≡ (not (is_some (told_by condition told placed)) && true)
    by_told None keeps = ap (λ (one : Option Note). not (is_some one) && true) (keeps refl)
    by_told (Some (telling.Nothing counts)) keeps = ap (λ (one : Option Note). not (is_some one) && true) (keeps refl)
    by_told (Some (telling.Signal gives first)) keeps = and_false (not (is_some placed))
    by_told (Some telling.Broadcast) keeps = and_false (not (is_some placed))

pub unnoted_still_owed : (monitor : MonitorParts) (columns : List (Option Column)) (block : ℕ) (notes others : List Note)
    → ((condition : ℕ) → 1 ≤ condition → condition ≤ length monitor.conditions
    → (note_on others condition ≡ told_on condition block (column_at columns condition) (note_on notes condition))
    × KeepsNotes condition block (column_at columns condition) (note_on notes condition))
    → filter (is_still_owed columns) (unnoted_claims monitor block notes) ≡ filter (is_owed (map column_row columns)) (unnoted_claims monitor block others)
unnoted_still_owed monitor columns block notes others each =
    two_tests (claims.NoNote block) (is_still_owed columns) (is_owed (map column_row columns)) (λ condition. not (has_note notes condition)) (λ condition. not (has_note others condition)) (condition_numbers monitor)
    (range_all P 1 (length monitor.conditions) (λ condition first last. by_note condition (each condition first (omega (arith, last)))))
  where
    P : ℕ → Type 0
    P condition = (not (has_note notes condition) && is_still_owed columns (claims.NoNote block condition)) ≡ (not (has_note others condition) && true)

    by_note : (condition : ℕ) → (note_on others condition ≡ told_on condition block (column_at columns condition) (note_on notes condition))
        × KeepsNotes condition block (column_at columns condition) (note_on notes condition) → P condition
    by_note condition known =
        let column = column_at columns condition in
        ap (λ (test : Bool). not test && not (is_noted column block)) (on_is notes condition)
        ∙ unnoted_at condition block column (note_on notes condition) known.1
        ∙ ap (λ (found : Option Note). not (is_some found) && true) (sym known.0)
        ∙ ap (λ (test : Bool). not test && true) (sym (on_is others condition))

-- ---- untested notes

-- an untested note on a condition that reads no inputs
abbrev untested : MonitorParts → Note → Bool
untested monitor note = not note.tested && reads_none monitor note.condition

-- of a note, or none, the claim that it needs no test
abbrev untested_of : MonitorParts → ℕ → Option Note → List Claim
untested_of monitor block found = map (λ note. claims.NoTest block note.condition) (filter (untested monitor) (option_to_list found))

untested_at : (monitor : MonitorParts) (condition block : ℕ) (column : Option Column) (placed : Option Note)
    → IfSome placed (λ note. note.condition ≡ condition) → KeepsNotes condition block column placed
    → untested_of monitor block placed ≡ untested_of monitor block (told_on condition block column placed)
untested_at monitor condition block None placed on keeps = refl
untested_at monitor condition block (Some column) placed on keeps = by_told (slice_get column.told block) keeps
  where
    one_claim : (passes : Bool) (note : Note)
        → map (λ one. claims.NoTest block one.condition) (cond passes (note ∷ []) []) ≡ cond passes (claims.NoTest block note.condition ∷ []) []
    one_claim true note = refl
    one_claim false note = refl

    none : (told : Option Note) → told ≡ None → (told ≡ None → placed ≡ None) → untested_of monitor block placed ≡ untested_of monitor block told
    none told is keeps = ap (untested_of monitor block) (keeps is ∙ sym is)

    made : (all : Bool) (placed : Option Note) → IfSome placed (λ note. note.condition ≡ condition)
        → untested_of monitor block placed ≡ untested_of monitor block (Some (record { condition = condition; all = all; tested = is_tested placed }))
    made all None on = refl
    made all (Some note) on =
        one_claim (untested monitor note) note
        ∙ sym (one_claim (untested monitor note) (record { condition = note.condition; all = all; tested = note.tested }))
        ∙ ap (λ (number : ℕ). map (λ one. claims.NoTest block one.condition) (filter (untested monitor) (record { condition = number; all = all; tested = note.tested } ∷ []))) on

    by_told : (told : Option Told) → (told_by condition told placed ≡ None → placed ≡ None)
        → untested_of monitor block placed ≡ untested_of monitor block (told_by condition told placed)
    by_told None keeps = none None refl keeps
    by_told (Some (telling.Nothing counts)) keeps = none None refl keeps
    by_told (Some (telling.Signal gives first)) keeps = made false placed on
    by_told (Some telling.Broadcast) keeps = made true placed on

untested_parts : (monitor : MonitorParts) (block : ℕ) (f : ℕ → Option Note) (numbers : List ℕ)
    → untested_claims monitor block (flat_map (λ condition. option_to_list (f condition)) numbers)
    ≡ flat_map (λ condition. untested_of monitor block (f condition)) numbers
untested_parts monitor block f [] = refl
untested_parts monitor block f (condition ∷ numbers) =
    let claim : Note → Claim = λ note. claims.NoTest block note.condition in
    let own : List Note = option_to_list (f condition) in
    let more : List Note = flat_map (λ condition. option_to_list (f condition)) numbers in
    ap (map claim) (filter-append (untested monitor) own more)
    ∙ map-append claim (filter (untested monitor) own) (filter (untested monitor) more)
    ∙ ap (λ (rest : List Claim). map claim (filter (untested monitor) own) ++ rest) (untested_parts monitor block f numbers)

same_parts : {Y : Type 0} (f g : ℕ → List Y) (first count : ℕ) → ((n : ℕ) → first ≤ n → n < first + count → f n ≡ g n)
    → flat_map f (range_with_len first count) ≡ flat_map g (range_with_len first count)
same_parts f g first zero each = refl
same_parts {Y} f g first (suc count) each =
    ap₂ (λ (a b : List Y). a ++ b) (each first (omega arith) (omega arith)) (same_parts f g (first + 1) count (λ n low high. each n (omega arith) (omega arith)))

-- ---- notes in rising order are those that are found

none_before : (monitor : MonitorParts) (notes : List Note) (first q : ℕ) → AreFrom monitor first notes → q < first → note_on notes q ≡ None
none_before monitor [] first q from low = refl
none_before monitor (note ∷ notes) first q from low =
    ap (λ (test : Bool). cond test (Some note) (note_on notes q)) (other note.condition from.0)
    ∙ none_before monitor notes (note.condition + 1) q from.2 (omega (arith, from.0, low))
  where
    other : (n : ℕ) → first ≤ n → (n == q) ≡ false
    other n high = grind (arith, high, low)

none_found : (numbers : List ℕ) → flat_map (λ condition. option_to_list (note_on [] condition)) numbers ≡ []
none_found [] = refl
none_found (condition ∷ numbers) = none_found numbers

rebuilt : (monitor : MonitorParts) (notes : List Note) (first count : ℕ) → AreFrom monitor first notes → first + count ≡ length monitor.conditions + 1
    → flat_map (λ condition. option_to_list (note_on notes condition)) (range_with_len first count) ≡ notes
rebuilt monitor [] first count from many = none_found (range_with_len first count)
rebuilt monitor (note ∷ notes) first zero from many = absurd (omega (arith, from.0, from.1, many))
rebuilt monitor (note ∷ notes) first (suc count) from many = elim (cases_eq note.condition first) [
  | inl same ↦
      let later : AreFrom monitor (first + 1) notes = subst (λ (n : ℕ). AreFrom monitor (n + 1) notes) same from.2 in
      ap₂ (λ (a b : List Note). a ++ b) (ap (λ (test : Bool). option_to_list (cond test (Some note) (note_on notes first))) (eq-eqb note.condition first same))
      (same_parts (λ condition. option_to_list (note_on (note ∷ notes) condition)) (λ condition. option_to_list (note_on notes condition)) (first + 1) count (λ n low high.
      ap (λ (test : Bool). option_to_list (cond test (Some note) (note_on notes n))) (past note.condition n same low))
      ∙ rebuilt monitor notes (first + 1) count later (omega (arith, many)))
  | inr differs ↦
      let later : AreFrom monitor (first + 1) (note ∷ notes) = (omega (arith, from.0, differs), from.1, from.2) in
      ap₂ (λ (a b : List Note). a ++ b) (ap (λ (found : Option Note). option_to_list found) (none_before monitor (note ∷ notes) (first + 1) first later (omega arith)))
      (rebuilt monitor (note ∷ notes) (first + 1) count later (omega (arith, many)))
]
  where
    past : (own n : ℕ) → own ≡ first → first + 1 ≤ n → (own == n) ≡ false
    past own n same low = grind (arith, same, low)

-- ---- of each block

pub untested_still_owed : (monitor : MonitorParts) (columns : List (Option Column)) (block : ℕ) (notes : List Note)
    → length columns ≡ length monitor.conditions → AreNotesOf monitor notes
    → ((condition : ℕ) → 1 ≤ condition → condition ≤ length monitor.conditions → KeepsNotes condition block (column_at columns condition) (note_on notes condition))
    → untested_claims monitor block notes ≡ untested_claims monitor block (counted_notes columns block notes)
untested_still_owed monitor columns block notes many are keeps =
    ap (untested_claims monitor block) (sym (rebuilt monitor notes 1 (length columns) (from_notes monitor notes are) (omega (arith, many))))
    ∙ untested_parts monitor block (note_on notes) (range_with_len 1 (length columns))
    ∙ same_parts (λ condition. untested_of monitor block (note_on notes condition)) (λ condition. untested_of monitor block (told_on condition block (column_at columns condition) (note_on notes condition)))
    1 (length columns) (λ condition first last. untested_at monitor condition block (column_at columns condition) (note_on notes condition) (on condition) (keeps condition first (omega (arith, last, many))))
    ∙ sym (untested_parts monitor block (λ condition. told_on condition block (column_at columns condition) (note_on notes condition)) (range_with_len 1 (length columns)))
  where
    on : (condition : ℕ) → IfSome (note_on notes condition) (λ note. note.condition ≡ condition)
    on condition = by_found (note_on notes condition) refl
      where
        by_found : (found : Option Note) → note_on notes condition ≡ found → IfSome found (λ note. note.condition ≡ condition)
        by_found None is = tt
        by_found (Some note) is = (on_found (λ (one : Note). Unit {0}) notes condition note is (λ place other within. tt)).0

-- ---- the whole

pub claims_still_owed : (monitor : MonitorParts) (plan : Plan) (columns : List (Option Column)) → IsPlanOf monitor plan
    → length columns ≡ length monitor.conditions
    → ((block condition : ℕ) → block < length monitor.blocks → 1 ≤ condition → condition ≤ length monitor.conditions
    → KeepsNotes condition block (column_at columns condition) (note_on (notes_at plan block) condition))
    → filter (is_still_owed columns) (backed_claims monitor plan) ≡ filter (is_owed (map column_row columns)) (backed_claims monitor (counted_of plan columns))
claims_still_owed monitor plan columns is many keeps =
    filter-append p a (b ++ (c ++ d))
    ∙ ap₂ (λ (x y : List Claim). x ++ y) keeps_same
    (filter-append p b (c ++ d) ∙ ap₂ (λ (x y : List Claim). x ++ y) unnoted_same
    (filter-append p c d ∙ ap₂ (λ (x y : List Claim). x ++ y) kinds_same untested_same ∙ sym (filter-append q c2 d2)) ∙ sym (filter-append q b2 (c2 ++ d2)))
    ∙ sym (filter-append q a (b2 ++ (c2 ++ d2)))
  where
    p : Claim → Bool
    p = is_still_owed columns

    q : Claim → Bool
    q = is_owed (map column_row columns)

    made : Plan
    made = counted_of plan columns

    a : List Claim
    a = keeps_claims monitor plan.kept

    b : List Claim
    b = flat_map (λ (one : ℕ × List Note). unnoted_claims monitor one.0 one.1) (enumerate_from 0 plan.notes)

    b2 : List Claim
    b2 = flat_map (λ (one : ℕ × List Note). unnoted_claims monitor one.0 one.1) (enumerate_from 0 made.notes)

    c : List Claim
    c = flat_map (λ (one : ℕ × CondKind). kind_claims monitor one.0 one.1) (enumerate_from 1 plan.kinds)

    c2 : List Claim
    c2 = flat_map (λ (one : ℕ × CondKind). kind_claims monitor one.0 one.1) (enumerate_from 1 made.kinds)

    d : List Claim
    d = flat_map (λ (one : ℕ × List Note). untested_claims monitor one.0 one.1) (enumerate_from 0 plan.notes)

    d2 : List Claim
    d2 = flat_map (λ (one : ℕ × List Note). untested_claims monitor one.0 one.1) (enumerate_from 0 made.notes)

    keeps_same : filter p a ≡ filter q a
    keeps_same =
        same_filter p q a (flat_all (λ claim. p claim ≡ q claim) (λ candidate. map (claims.Keeps candidate) (block_numbers monitor)) plan.kept (λ k candidate there.
        All-map (λ claim. p claim ≡ q claim) (claims.Keeps candidate) (block_numbers monitor) (λ place other within. refl)))

    -- the notes of a block
    own : (k : ℕ) (notes : List Note) → slice_get plan.notes k ≡ Some notes → notes_at plan k ≡ notes
    own k notes there = ap (λ (found : Option (List Note)). unwrap_or found []) there

    kept_at : (k : ℕ) (notes : List Note) → slice_get plan.notes k ≡ Some notes → (condition : ℕ) → 1 ≤ condition → condition ≤ length monitor.conditions
        → KeepsNotes condition k (column_at columns condition) (note_on notes condition)
    kept_at k notes there condition first last =
        subst (λ (some : List Note). KeepsNotes condition k (column_at columns condition) (note_on some condition)) (own k notes there)
        (keeps k condition (omega (arith, slice_get_within plan.notes k notes there, is.notes)) first last)

    unnoted_same : filter p b ≡ filter q b2
    unnoted_same =
        both_flat p q (unnoted_claims monitor) (unnoted_claims monitor) (λ block notes. counted_notes columns block notes) 0 plan.notes (λ k notes there.
        let same : k ≡ 0 + k = omega arith in
        subst (λ (n : ℕ). filter p (unnoted_claims monitor n notes) ≡ filter q (unnoted_claims monitor n (counted_notes columns n notes))) same
        (unnoted_still_owed monitor columns k notes (counted_notes columns k notes) (λ condition first last. (
          note_made (made_on columns k notes) (on_theirs columns k notes) 1 (length columns) condition first (omega (arith, last, many)),
          kept_at k notes there condition first last,
        ))))

    kinds_same : filter p c ≡ filter q c2
    kinds_same = both_flat p q (kind_claims monitor) (kind_claims monitor) (λ condition kind. counted_kind kind (column_at columns condition)) 1 plan.kinds (λ k kind there. kinds_still_owed monitor columns (1 + k) kind)

    passes : (block : ℕ) (notes : List Note) → All (λ claim. p claim ≡ q claim) (untested_claims monitor block notes)
    passes block notes =
        All-map (λ claim. p claim ≡ q claim) (λ (note : Note). claims.NoTest block note.condition) (filter (λ note. not note.tested && reads_none monitor note.condition) notes) (λ place other within. refl)

    untested_same : filter p d ≡ filter q d2
    untested_same =
        both_flat p q (untested_claims monitor) (untested_claims monitor) (λ block notes. counted_notes columns block notes) 0 plan.notes (λ k notes there.
        let same : k ≡ 0 + k = omega arith in
        subst (λ (n : ℕ). filter p (untested_claims monitor n notes) ≡ filter q (untested_claims monitor n (counted_notes columns n notes))) same
        (same_filter p q (untested_claims monitor k notes) (passes k notes)
        ∙ ap (filter q) (untested_still_owed monitor columns k notes many (all_at (AreNotesOf monitor) plan.notes k notes there is.each) (kept_at k notes there))))
