-- What costs something, one after the other, and that it is about conditions that there are.
use Rattle.std.proofs.Common.{◌≡◌, inl, inr, ℕ, zero, suc, ◌+◌, ◌-◌, ◌<◌, ◌≤◌, Bool, true, false, cond, not, ◌&&◌, List, [], ◌∷◌, ◌++◌, length, map, take, get_or, Option, Some, None, sym, subst, arith, ap, refl, ◌∙◌, append_assoc, append-nil}
use Rattle.std.specs.Prelude.{All, slice_get}
use Rattle.std.specs.List.{filter, flat_map, enumerate_from, list_all}
use Rattle.std.specs.Option.{IsSomeAnd, option_map_or}
use Rattle.std.proofs.lemmas.Bool.{and_parts}
use Rattle.std.proofs.lemmas.List.{map-append, take_all, take_more, length-take}
use Rattle.std.proofs.lemmas.List.Concat.{flat_map-append}
use Rattle.std.proofs.lemmas.List.Elements.{All-nil, All-cons, All-head, All-tail, filter-append}
use Rattle.lang_monitor.specs.declared.candidate.Candidate.{Candidate}
use Rattle.lang_monitor.specs.declared.monitor.Condition.{Condition}
use Rattle.lang_monitor.specs.Candidates.{AreSomeOf}
use Rattle.lang_monitor.specs.Inputs.{reads_inputs}
use Rattle.lang_monitor.specs.MonitorParts.{MonitorParts}
use Rattle.machine_events.specs.declared.plan.CondKind.{CondKind}
use Rattle.machine_events.specs.declared.plan.CondKind.TheVariants as kinds
use Rattle.machine_events.specs.declared.plan.Note.{Note}
use Rattle.machine_events.specs.declared.plan.Plan.{Plan}
use Rattle.machine_events.specs.Plans.{FitsNote, FitsNotes, FitsPlan}
use Rattle.logic_wp.specs.Expressible.{is_expressible}
use Rattle.logic_wp.specs.PlainClaims.{IsConditionNumber, ReadsNone}
use Rattle.plan_why.specs.declared.reason.Thing.{Thing}
use Rattle.plan_why.specs.declared.reason.Thing.TheVariants as things
use Rattle.plan_why.specs.Things.{broadcast_of_condition, notes_of_block, reads_none, tests_of_block, things_of, IsThingOf}

-- ---- kept candidates

pub kept_expressible : (kept all : List Candidate) → AreSomeOf kept all → list_all is_expressible all ≡ true → list_all is_expressible kept ≡ true
kept_expressible [] all some e = refl
kept_expressible (one ∷ kept) [] some e = absurd some
kept_expressible (one ∷ kept) (first ∷ all) (inl (same, some)) e =
    let parts = and_parts (is_expressible first) (list_all is_expressible all) e in
    both_true (is_expressible one) (list_all is_expressible kept) (ap is_expressible same ∙ parts.0) (kept_expressible kept all some parts.1)
  where
    both_true : (a b : Bool) → a ≡ true → b ≡ true → (a && b) ≡ true
    both_true a b h g = rw (h, g) refl
kept_expressible (one ∷ kept) (first ∷ all) (inr some) e = kept_expressible (one ∷ kept) all some (and_parts (is_expressible first) (list_all is_expressible all) e).1

-- ---- lists that are made one after the other

taken_one : {X : Type 0} (xs : List X) (i : ℕ) (x : X) → i < length xs → x ≡ get_or xs i x → take (i + 1) xs ≡ take i xs ++ x ∷ []
taken_one xs i x h is = take_more xs i x h ∙ ap (λ y. take i xs ++ y ∷ []) (sym is)

numbered_push : {X : Type 0} (first : ℕ) (xs : List X) (x : X) (last : ℕ) → first + length xs ≡ last → enumerate_from first (xs ++ x ∷ []) ≡ enumerate_from first xs ++ (last, x) ∷ []
numbered_push {X} first [] x last is = let same : first ≡ last = omega arith in ap {B = List (ℕ × X)} (λ (one : ℕ). (one, x) ∷ []) same
numbered_push {X} first (y ∷ xs) x last is =
    let same : first + 1 + length xs ≡ last = omega arith in
    ap {B = List (ℕ × X)} (λ (rest : List (ℕ × X)). (first, y) ∷ rest) (numbered_push (first + 1) xs x last same)

-- one more element under its number
pub listed_more : {X Y : Type 0} (f : ℕ → X → List Y) (first i last : ℕ) (xs : List X) (default : X) (old before after : List Y) → i < length xs → first + i ≡ last
    → before ≡ old ++ flat_map (λ one. f one.0 one.1) (enumerate_from first (take i xs)) → after ≡ before ++ f last (get_or xs i default) → after ≡ old ++ flat_map (λ one. f one.0 one.1) (enumerate_from first (take (i + 1) xs))
listed_more {X} {Y} f first i last xs default old before after low at had made =
    let F : ℕ × X → List Y = λ one. f one.0 one.1 in
    let some = enumerate_from first (take i xs) in
    let x = get_or xs i default in
    let long : first + length (take i xs) ≡ last = omega (arith, length-take i xs) in
    made ∙ ap (λ one. one ++ f last x) had ∙ append_assoc old (flat_map F some) (f last x)
    ∙ ap (λ one. old ++ (flat_map F some ++ one)) (sym (append-nil (f last x)))
    ∙ ap (λ one. old ++ one) (sym (flat_map-append F some ((last, x) ∷ [])))
    ∙ ap (λ one. old ++ flat_map F one) (sym (numbered_push first (take i xs) x last long))
    ∙ ap (λ one. old ++ flat_map F (enumerate_from first one)) (sym (take_more xs i default low))

pub listed_all : {X Y : Type 0} (f : ℕ → X → List Y) (first i : ℕ) (xs : List X) (old after : List Y) → length xs ≤ i → after ≡ old ++ flat_map (λ one. f one.0 one.1) (enumerate_from first (take i xs)) → after ≡ old ++ flat_map (λ one. f one.0 one.1) (enumerate_from first xs)
listed_all {X} {Y} f first i xs old after h so = so ∙ ap (λ (some : List X). old ++ flat_map (λ one. f one.0 one.1) (enumerate_from first some)) (take_all i xs h)

pub listed_none : {X Y : Type 0} (f : ℕ → X → List Y) (first : ℕ) (xs : List X) (old : List Y) → old ≡ old ++ flat_map (λ one. f one.0 one.1) (enumerate_from first (take 0 xs))
listed_none f first [] old = sym (append-nil old)
listed_none f first (x ∷ xs) old = sym (append-nil old)

-- one more note that may pass a test
pub picked_more : {X : Type 0} (test : Note → Bool) (make : Note → X) (i : ℕ) (notes : List Note) (note : Note) (old before after : List X) → i < length notes → note ≡ get_or notes i note
    → before ≡ old ++ map make (filter test (take i notes)) → after ≡ before ++ map make (filter test (note ∷ [])) → after ≡ old ++ map make (filter test (take (i + 1) notes))
picked_more {X} test make i notes note old before after h is had made =
    let some = take i notes in
    made ∙ ap (λ (one : List X). one ++ map make (filter test (note ∷ []))) had ∙ append_assoc old (map make (filter test some)) (map make (filter test (note ∷ [])))
    ∙ ap (λ (one : List X). old ++ one) (sym (map-append make (filter test some) (filter test (note ∷ []))))
    ∙ ap (λ (one : List Note). old ++ map make one) (sym (filter-append test some (note ∷ [])))
    ∙ ap (λ (one : List Note). old ++ map make (filter test one)) (sym (taken_one notes i note h is))

-- one more tested note
pub tests_more : (block i : ℕ) (notes : List Note) (note : Note) (old before after : List Thing) → i < length notes → note ≡ get_or notes i note → before ≡ old ++ tests_of_block block (take i notes) → after ≡ before ++ tests_of_block block (note ∷ []) → after ≡ old ++ tests_of_block block (take (i + 1) notes)
tests_more block i notes note old before after = picked_more (λ (one : Note). one.tested) (λ (one : Note). things.Test block one.condition) i notes note old before after

pub tests_none : (block : ℕ) (notes : List Note) (old : List Thing) → old ≡ old ++ tests_of_block block (take 0 notes)
tests_none block [] old = sym (append-nil old)
tests_none block (note ∷ notes) old = sym (append-nil old)

pub in_three : {X : Type 0} (a b c none first second last : List X) → none ≡ [] → first ≡ none ++ a → second ≡ first ++ b → last ≡ second ++ c → last ≡ a ++ (b ++ c)
in_three a b c none first second last empty one two three =
    three ∙ ap (λ some. some ++ c) two ∙ ap (λ some. some ++ b ++ c) (one ∙ ap (λ some. some ++ a) empty) ∙ append_assoc a b c

pub gathered : (monitor : MonitorParts) (plan : Plan) (notes tests : List (List Note)) (kinds : List CondKind) (none first second last : List Thing) → notes ≡ plan.notes → kinds ≡ plan.kinds → tests ≡ plan.notes → none ≡ []
    → first ≡ none ++ flat_map (λ one. notes_of_block one.0 one.1) (enumerate_from 0 notes) → second ≡ first ++ flat_map (λ one. broadcast_of_condition monitor one.0 one.1) (enumerate_from 1 kinds)
    → last ≡ second ++ flat_map (λ one. tests_of_block one.0 one.1) (enumerate_from 0 tests) → last ≡ things_of monitor plan
gathered monitor plan notes tests kinds none first second last is_notes is_kinds is_tests empty one two three =
    in_three (flat_map (λ one. notes_of_block one.0 one.1) (enumerate_from 0 plan.notes)) (flat_map (λ one. broadcast_of_condition monitor one.0 one.1) (enumerate_from 1 plan.kinds)) (flat_map (λ one. tests_of_block one.0 one.1) (enumerate_from 0 plan.notes)) none first second last empty
    (one ∙ ap (λ (some : List (List Note)). none ++ flat_map (λ one. notes_of_block one.0 one.1) (enumerate_from 0 some)) is_notes)
    (two ∙ ap (λ (some : List CondKind). first ++ flat_map (λ one. broadcast_of_condition monitor one.0 one.1) (enumerate_from 1 some)) is_kinds)
    (three ∙ ap (λ (some : List (List Note)). second ++ flat_map (λ one. tests_of_block one.0 one.1) (enumerate_from 0 some)) is_tests)

-- ---- conditions that there are

abbrev There : MonitorParts → Thing → Type 0
There monitor thing = IsThingOf monitor thing

pub all_append : {X : Type 0} (P : X → Type 0) (xs ys : List X) → All P xs → All P ys → All P (xs ++ ys)
all_append P [] ys all more = more
all_append P (x ∷ xs) ys all more = All-cons P x (xs ++ ys) (All-head P x xs all) (all_append P xs ys (All-tail P x xs all) more)

get_within : {X : Type 0} (xs : List X) (n : ℕ) (x : X) → slice_get xs n ≡ Some x → n < length xs
get_within [] n x e = absurd cc
get_within (first ∷ xs) zero x e = omega arith
get_within (first ∷ xs) (suc n) x e = let less = get_within xs n x e in omega arith

pub note_there : (monitor : MonitorParts) (note : Note) → FitsNote monitor note → IsConditionNumber monitor note.condition
note_there monitor note fits = by (slice_get monitor.conditions (note.condition - 1)) refl fits.1
  where
    by : (found : Option Condition) → slice_get monitor.conditions (note.condition - 1) ≡ found → IsSomeAnd found (λ which. note.tested ≡ true → reads_inputs which.guard ≡ false) → IsConditionNumber monitor note.condition
    by None is there = absurd there
    by (Some held) is there = let less = get_within monitor.conditions (note.condition - 1) held is in let low = fits.0 in (low, omega arith)

notes_there : (monitor : MonitorParts) (block : ℕ) (notes : List Note) → All (FitsNote monitor) notes → All (There monitor) (notes_of_block block notes)
notes_there monitor block [] fits = All-nil (There monitor)
notes_there monitor block (note ∷ notes) fits =
    All-cons (There monitor) (things.Note block note.condition) (notes_of_block block notes) (note_there monitor note (All-head (FitsNote monitor) note notes fits)) (notes_there monitor block notes (All-tail (FitsNote monitor) note notes fits))

tests_there : (monitor : MonitorParts) (block : ℕ) (notes : List Note) → All (FitsNote monitor) notes → All (There monitor) (tests_of_block block notes)
tests_there monitor block [] fits = All-nil (There monitor)
tests_there monitor block (note ∷ notes) fits = by note.tested (tests_there monitor block notes (All-tail (FitsNote monitor) note notes fits))
  where
    by : (tested : Bool) → All (There monitor) (tests_of_block block notes) → All (There monitor) (map (λ (one : Note). things.Test block one.condition) (cond tested (note ∷ filter (λ (one : Note). one.tested) notes) (filter (λ (one : Note). one.tested) notes)))
    by true rest = All-cons (There monitor) (things.Test block note.condition) (tests_of_block block notes) (note_there monitor note (All-head (FitsNote monitor) note notes fits)) rest
    by false rest = rest

lists_there : (monitor : MonitorParts) (f : ℕ → List Note → List Thing) (first : ℕ) (lists : List (List Note)) → ((block : ℕ) (notes : List Note) → All (FitsNote monitor) notes → All (There monitor) (f block notes)) → All (FitsNotes monitor) lists
    → All (There monitor) (flat_map (λ one. f one.0 one.1) (enumerate_from first lists))
lists_there monitor f first [] each fits = All-nil (There monitor)
lists_there monitor f first (notes ∷ lists) each fits =
    all_append (There monitor) (f first notes) (flat_map (λ one. f one.0 one.1) (enumerate_from (first + 1) lists)) (each first notes (All-head (FitsNotes monitor) notes lists fits).each)
    (lists_there monitor f (first + 1) lists each (All-tail (FitsNotes monitor) notes lists fits))

-- such a condition is there
reads_none_there : (monitor : MonitorParts) (condition : ℕ) → 1 ≤ condition → reads_none monitor condition ≡ true → ReadsNone monitor condition
reads_none_there monitor condition low e = (low, by (slice_get monitor.conditions (condition - 1)) e)
  where
    other : (reads : Bool) → not reads ≡ true → reads ≡ false
    other true e = absurd cc
    other false e = refl

    by : (found : Option Condition) → option_map_or (λ held. not held.reads_inputs) found false ≡ true → IsSomeAnd found (λ held. held.reads_inputs ≡ false)
    by None e = absurd cc
    by (Some held) e = other held.reads_inputs e

pub condition_there : (monitor : MonitorParts) (condition : ℕ) → ReadsNone monitor condition → IsConditionNumber monitor condition
condition_there monitor condition (low, there) = by (slice_get monitor.conditions (condition - 1)) refl there
  where
    by : (found : Option Condition) → slice_get monitor.conditions (condition - 1) ≡ found → IsSomeAnd found (λ held. held.reads_inputs ≡ false) → IsConditionNumber monitor condition
    by None is there = absurd there
    by (Some held) is there = let less = get_within monitor.conditions (condition - 1) held is in (low, omega arith)

broadcast_there : (monitor : MonitorParts) (condition : ℕ) (kind : CondKind) → 1 ≤ condition → All (There monitor) (broadcast_of_condition monitor condition kind)
broadcast_there monitor condition kinds.Signal low = All-nil (There monitor)
broadcast_there monitor condition kinds.Broadcast low = by (reads_none monitor condition) refl
  where
    by : (reads : Bool) → reads_none monitor condition ≡ reads → All (There monitor) (cond reads (things.Broadcast condition ∷ []) [])
    by true is = All-cons (There monitor) (things.Broadcast condition) [] (reads_none_there monitor condition low is) (All-nil (There monitor))
    by false is = All-nil (There monitor)

kinds_there : (monitor : MonitorParts) (first : ℕ) (some : List CondKind) → 1 ≤ first → All (There monitor) (flat_map (λ one. broadcast_of_condition monitor one.0 one.1) (enumerate_from first some))
kinds_there monitor first [] low = All-nil (There monitor)
kinds_there monitor first (kind ∷ some) low =
    all_append (There monitor) (broadcast_of_condition monitor first kind) (flat_map (λ one. broadcast_of_condition monitor one.0 one.1) (enumerate_from (first + 1) some)) (broadcast_there monitor first kind low)
    (kinds_there monitor (first + 1) some (omega arith))

pub things_there : (monitor : MonitorParts) (plan : Plan) → FitsPlan monitor plan → All (IsThingOf monitor) (things_of monitor plan)
things_there monitor plan fits =
    all_append (There monitor) (flat_map (λ one. notes_of_block one.0 one.1) (enumerate_from 0 plan.notes)) (flat_map (λ one. broadcast_of_condition monitor one.0 one.1) (enumerate_from 1 plan.kinds) ++ flat_map (λ one. tests_of_block one.0 one.1) (enumerate_from 0 plan.notes))
    (lists_there monitor notes_of_block 0 plan.notes (notes_there monitor) fits.each)
    (all_append (There monitor) (flat_map (λ one. broadcast_of_condition monitor one.0 one.1) (enumerate_from 1 plan.kinds)) (flat_map (λ one. tests_of_block one.0 one.1) (enumerate_from 0 plan.notes))
    (kinds_there monitor 1 plan.kinds (omega arith)) (lists_there monitor tests_of_block 0 plan.notes (tests_there monitor) fits.each))

-- at an element
all_at : {X : Type 0} (P : X → Type 0) (xs : List X) (i : ℕ) (x : X) → i < length xs → x ≡ get_or xs i x → All P xs → P x
all_at P [] i x h is all = absurd (omega arith)
all_at P (first ∷ xs) zero x h is all = subst P (sym is) (All-head P first xs all)
all_at P (first ∷ xs) (suc i) x h is all = all_at P xs i x (omega arith) is (All-tail P first xs all)

pub thing_there : (monitor : MonitorParts) (all : List Thing) (i : ℕ) (thing : Thing) → i < length all → thing ≡ get_or all i thing → All (IsThingOf monitor) all → IsThingOf monitor thing
thing_there monitor all i thing h is each = all_at (IsThingOf monitor) all i thing h is each
