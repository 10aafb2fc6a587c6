-- Rows of pairs: the conditions with their numbers and kinds, and the notes of a block with a
-- separator between them.
use Rattle.std.proofs.Common.{◌≡◌, ℕ, ◌+◌, ◌-◌, ◌<◌, ◌≤◌, ◌++◌, ◌∷◌, [], ◌∙◌, min, map, List, Ok, length, get_or, take, codes, ap, sym, refl, arith}
use Rattle.std.specs.List.{flat_map, zip, enumerate_from}
use Rattle.std.proofs.lemmas.List.{take_all}
use Rattle.std.proofs.lemmas.List.FromFn.{length-enumerate_from, get_or-enumerate_from}
use Rattle.std.proofs.lemmas.Slice.Zip.{length-zip, get_or-zip}
use Rattle.base_io.specs.Outside.{SinkSeen}
use Rattle.base_io.specs.Writing.{Wrote}
use Rattle.base_io.proofs.Rows.{row_went}
use Rattle.base_io.proofs.Writing.{wrote_same}
use Rattle.lang_printer.proofs.Printing.{after_first}
use Rattle.lang_monitor.specs.declared.candidate.Candidate.{Candidate}
use Rattle.lang_monitor.specs.declared.monitor.Field.{Field}
use Rattle.lang_monitor.specs.declared.monitor.Condition.{Condition}
use Rattle.lang_monitor.specs.MonitorParts.{MonitorParts}
use Rattle.machine_events.specs.declared.plan.CondKind.{CondKind}
use Rattle.machine_events.specs.declared.plan.Note.{Note}
use Rattle.machine_events.specs.declared.plan.Plan.{Plan}
use Rattle.machine_events.specs.PlanText.{kept_text, conditions_text, note_text, notes_text, blocks_text, plan_text}

-- ---- pairs

abbrev pub both : {A B : Type 0} → A → B → A × B
both x y = (x, y)

pub within_pairs : {A B : Type 0} (xs : List A) (ys : List B) (i : ℕ) → i < length xs
    → i < length ys → i < length (zip xs ys)
within_pairs xs ys i here there = omega (arith, length-zip xs ys)

pub pair_at : {A B : Type 0} (xs : List A) (ys : List B) (i : ℕ) (x : A) (y : B) → i < length xs
    → i < length ys → x ≡ get_or xs i x → y ≡ get_or ys i y
    → both x y ≡ get_or (zip xs ys) i (both x y)
pair_at xs ys i x y here there is_x is_y = ap (λ a. both a y) is_x ∙ ap (λ b. both (get_or xs i x) b) is_y ∙ sym (get_or-zip xs ys i (both x y) here there)

-- ---- pairs with their numbers, from 1

pub within_numbered : {A B : Type 0} (xs : List A) (ys : List B) (i : ℕ) → i < length xs
    → i < length ys → i < length (enumerate_from 1 (zip xs ys))
within_numbered xs ys i here there = omega (arith, length-enumerate_from 1 (zip xs ys), length-zip xs ys)

pub numbered_at : {A B : Type 0} (xs : List A) (ys : List B) (i number : ℕ) (x : A) (y : B)
    → number ≡ 1 + i → i < length xs → i < length ys → x ≡ get_or xs i x → y ≡ get_or ys i y
    → both number (both x y) ≡ get_or (enumerate_from 1 (zip xs ys)) i (both number (both x y))
numbered_at xs ys i number x y counted here there is_x is_y =
    ap (λ n. both n (both x y)) counted ∙ ap (λ p. both (1 + i) p) (pair_at xs ys i x y here there is_x is_y)
    ∙ sym (get_or-enumerate_from 1 (zip xs ys) i (both number (both x y)) (within_pairs xs ys i here there))

pub numbered_end : {A B : Type 0} (xs : List A) (ys : List B) (i : ℕ)
    → i ≡ min (length xs) (length ys)
    → take i (enumerate_from 1 (zip xs ys)) ≡ enumerate_from 1 (zip xs ys)
numbered_end xs ys i end = take_all i (enumerate_from 1 (zip xs ys)) (omega (arith, length-enumerate_from 1 (zip xs ys), length-zip xs ys))

-- ---- notes

notes-rest : (notes : List Note)
    → flat_map (λ note. codes ", " ++ note_text note) notes
    ≡ flat_map (λ text. codes ", " ++ text) (map note_text notes)
notes-rest [] = refl
notes-rest (note ∷ notes) = ap (λ l. (codes ", " ++ note_text note) ++ l) (notes-rest notes)

-- the first note, then the others
pub notes-cut : (notes : List Note) (any : Note) → 1 ≤ length notes
    → note_text (get_or notes 0 any) ++ flat_map (λ note. codes ", " ++ note_text note)
    (after_first notes) ≡ notes_text notes
notes-cut [] any some = absurd (omega arith)
notes-cut (note ∷ notes) any some =
    ap (λ l. note_text note ++ flat_map (λ one. codes ", " ++ note_text one) l) (take_all (length (note ∷ notes) - 1) notes (omega arith))
    ∙ ap (λ l. note_text note ++ l) (notes-rest notes)

-- the same where the others were written one after the other
pub notes-done : (notes : List Note) (any : Note) (i : ℕ) → 1 ≤ length notes
    → length (after_first notes) ≤ i
    → note_text (get_or notes 0 any) ++ flat_map (λ note. codes ", " ++ note_text note)
    (take i (after_first notes)) ≡ notes_text notes
notes-done notes any i some end =
    ap (λ l. note_text (get_or notes 0 any) ++ flat_map (λ note. codes ", " ++ note_text note) l) (take_all i (after_first notes) end) ∙ notes-cut notes any some

-- ---- the whole, by what stands for its parts

pub plan_text-parts : (monitor : MonitorParts) (plan : Plan) (name : List ℕ) (fields : List Field)
    (kept : List Candidate) (conditions : List Condition) (kinds : List CondKind)
    (lists : List (List Note))
    → name ≡ monitor.name → fields ≡ monitor.fields → kept ≡ plan.kept
    → conditions ≡ monitor.conditions → kinds ≡ plan.kinds → lists ≡ plan.notes
    → (codes "plan " ++ (name ++ codes "\n")) ++ flat_map
    (kept_text fields) kept ++ conditions_text conditions kinds ++ blocks_text monitor lists
    ≡ plan_text monitor plan
plan_text-parts monitor plan name fields kept conditions kinds lists is are keeps stand have note =
    ap (λ n. (codes "plan " ++ (n ++ codes "\n")) ++ flat_map (kept_text fields) kept ++ conditions_text conditions kinds ++ blocks_text monitor lists) is
    ∙ ap (λ n. (codes "plan " ++ (monitor.name ++ codes "\n")) ++ flat_map (kept_text n) kept ++ conditions_text conditions kinds ++ blocks_text monitor lists) are
    ∙ ap (λ n. (codes "plan " ++ (monitor.name ++ codes "\n")) ++ flat_map (kept_text monitor.fields) n ++ conditions_text conditions kinds ++ blocks_text monitor lists) keeps
    ∙ ap (λ n. (codes "plan " ++ (monitor.name ++ codes "\n")) ++ flat_map (kept_text monitor.fields) plan.kept ++ conditions_text n kinds ++ blocks_text monitor lists) stand
    ∙ ap (λ n. (codes "plan " ++ (monitor.name ++ codes "\n")) ++ flat_map (kept_text monitor.fields) plan.kept ++ conditions_text monitor.conditions n ++ blocks_text monitor lists) have
    ∙ ap (λ n. (codes "plan " ++ (monitor.name ++ codes "\n")) ++ flat_map (kept_text monitor.fields) plan.kept ++ conditions_text monitor.conditions plan.kinds ++ blocks_text monitor n) note

-- ---- a row whose index is a count

-- the next text of a row
pub row_turned : {X : Type 0} {s0 s1 s2 : SinkSeen} (f : X → List ℕ) (xs : List X) (i next : ℕ)
    (x : X) (text : List ℕ)
    → next ≡ i + 1 → i < length xs → x ≡ get_or xs i x → text ≡ f x
    → Wrote s0 s1 (Ok tt) (flat_map f (take i xs)) → Wrote s1 s2 (Ok tt) text
    → Wrote s0 s2 (Ok tt) (flat_map f (take next xs))
row_turned f xs i next x text further within is says before here =
    wrote_same _ (ap (λ n. flat_map f (take n xs)) (sym further)) (row_went f xs i x text within is says before here)
