-- Texts of the last ones before a place of a row, in a loop over the whole row.
use Rattle.std.proofs.Common.{◌≡◌, ◌⊎◌, ℕ, ◌+◌, ◌-◌, ◌<◌, ◌≤◌, ◌++◌, inl, inr, nat_le, Bool, true, false, List, [], ◌∷◌, ◌∙◌, take, drop, length, get_or, refl, ap, sym, append-nil, arith, Result, Ok, Err, IsErr}
use Rattle.std.specs.List.{flat_map}
use Rattle.std.proofs.lemmas.Bool.{leb-false, leb-true}
use Rattle.std.proofs.lemmas.List.{get_or-drop, get_or-take, length-drop, length-take, take_all}
use Rattle.base_io.specs.declared.sink.SinkFailed.{SinkFailed}
use Rattle.base_io.specs.Outside.{SinkSeen}
use Rattle.base_io.specs.Writing.{Wrote}
use Rattle.base_io.proofs.Rows.{row_stopped, row_went}
use Rattle.base_io.proofs.Writing.{wrote_both, wrote_same, wrote_until}
use Rattle.emit_comments.specs.Comments.{due_text}

pub due_none : (due : Bool) (text : List ℕ) → due ≡ false → [] ≡ due_text due text
due_none due text lacks = ap (λ (b : Bool). due_text b text) (sym lacks)

pub due_whole : (due : Bool) (text : List ℕ) → due ≡ true → text ≡ due_text due text
due_whole due text holds = ap (λ (b : Bool). due_text b text) (sym holds)

-- the last ones before a place, so many
abbrev pub lasts : {X : Type 0} → List X → ℕ → ℕ → List X
lasts xs place count = take count (drop (place - count) xs)

many : {X : Type 0} (xs : List X) (place count i left : ℕ) → left + i ≡ place → left ≤ count → count ≤ place → 0 < left → i < length xs → i - (place - count) < length (lasts xs place count)
many xs place count i left fits far few more less =
    omega (arith, fits, far, few, more, less, length-take count (drop (place - count) xs), length-drop (place - count) xs)

found : {X : Type 0} (xs : List X) (place count i left : ℕ) (x : X) → left + i ≡ place → left ≤ count → count ≤ place → 0 < left → x ≡ get_or xs i x
    → x ≡ get_or (lasts xs place count) (i - (place - count)) x
found xs place count i left x fits far few more is =
    let at : i ≡ (place - count) + (i - (place - count)) = omega (arith, fits, far, few, more) in
    is ∙ ap (λ n. get_or xs n x) at ∙ sym (get_or-drop (place - count) xs (i - (place - count)) x)
    ∙ sym (get_or-take count (drop (place - count) xs) (i - (place - count)) x (omega (arith, fits, far, few, more)))

none_yet : {X : Type 0} (f : X → List ℕ) (xs : List X) → flat_map f (take 0 xs) ≡ []
none_yet f [] = refl
none_yet f (x ∷ xs) = refl

pub last_begun : {X : Type 0} (f : X → List ℕ) (xs : List X) (place count : ℕ) → [] ≡ flat_map f (take (0 - (place - count)) (lasts xs place count))
last_begun f xs place count =
    let zero : 0 ≡ 0 - (place - count) = omega arith in
    sym (none_yet f (lasts xs place count)) ∙ ap (λ n. flat_map f (take n (lasts xs place count))) zero

pub last_went : {X : Type 0} {s0 s1 s2 : SinkSeen} (f : X → List ℕ) (xs : List X) (place count i left : ℕ) (x : X) (due : Bool)
    → left + i ≡ place → count ≤ place → 0 < left → i < length xs → x ≡ get_or xs i x → due ≡ nat_le left count
    → Wrote s0 s1 (Ok tt) (flat_map f (take (i - (place - count)) (lasts xs place count))) → Wrote s1 s2 (Ok tt) (due_text due (f x))
    → Wrote s0 s2 (Ok tt) (flat_map f (take (i + 1 - (place - count)) (lasts xs place count)))
last_went f xs place count i left x true fits few more less is due before here =
    let far : left ≤ count = leb-true left count (sym due) in
    let next : (i - (place - count)) + 1 ≡ i + 1 - (place - count) = omega (arith, fits, few, far, more) in
    wrote_same _ (ap (λ n. flat_map f (take n (lasts xs place count))) next)
    (row_went f (lasts xs place count) (i - (place - count)) x (f x) (many xs place count i left fits far few more less) (found xs place count i left x fits far few more is) refl before here)
last_went f xs place count i left x false fits few more less is due before here =
    let near : count < left = leb-false left count (sym due) in
    let next : i - (place - count) ≡ i + 1 - (place - count) = omega (arith, fits, few, near, more) in
    wrote_same _ (append-nil _ ∙ ap (λ n. flat_map f (take n (lasts xs place count))) next) (wrote_both before here)

pub last_stopped : {X : Type 0} {s0 s1 s2 : SinkSeen} {fault : SinkFailed} (f : X → List ℕ) (xs : List X) (place count i left : ℕ) (x : X) (due : Bool) (answer : Result (Unit {0}) SinkFailed)
    → left + i ≡ place → count ≤ place → 0 < left → i < length xs → x ≡ get_or xs i x → due ≡ nat_le left count → IsErr answer
    → Wrote s0 s1 (Ok tt) (flat_map f (take (i - (place - count)) (lasts xs place count))) → Wrote s1 s2 (Err fault) (due_text due (f x))
    → Wrote s0 s2 answer (flat_map f (lasts xs place count))
last_stopped f xs place count i left x true answer fits few more less is due fails before here =
    let far : left ≤ count = leb-true left count (sym due) in
    row_stopped f (lasts xs place count) (i - (place - count)) x (f x) answer (many xs place count i left fits far few more less) (found xs place count i left x fits far few more is) refl fails before here
last_stopped f xs place count i left x false answer fits few more less is due fails before here =
    let near : count < left = leb-false left count (sym due) in
    let none : i - (place - count) ≡ 0 = omega (arith, fits, few, near, more) in
    let begun = ap (λ n. flat_map f (take n (lasts xs place count))) none ∙ none_yet f (lasts xs place count) in
    wrote_until (flat_map f (lasts xs place count)) _ answer (ap (λ front. front ++ [] ++ flat_map f (lasts xs place count)) begun) fails before here

-- as many turns as there are before the place, or elements in all
pub last_done : {X : Type 0} (f : X → List ℕ) (xs : List X) (place count i left : ℕ) → left + i ≡ place → count ≤ place → left ≡ 0 ⊎ length xs ≤ i
    → flat_map f (take (i - (place - count)) (lasts xs place count)) ≡ flat_map f (lasts xs place count)
last_done f xs place count i left fits few (inl zero) =
    ap (flat_map f) (take_all (i - (place - count)) (lasts xs place count) (omega (arith, fits, few, zero, length-take count (drop (place - count) xs))))
last_done f xs place count i left fits few (inr all) =
    ap (flat_map f) (take_all (i - (place - count)) (lasts xs place count) (omega (arith, fits, few, all, length-take count (drop (place - count) xs), length-drop (place - count) xs)))
