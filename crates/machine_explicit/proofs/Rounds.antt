-- A ring that is gone round once.
use Rattle.std.proofs.Common.{◌≡◌, ℕ, zero, suc, ◌+◌, ◌-◌, ◌<◌, ◌≤◌, Bool, true, false, cond, List, [], ◌∷◌, ◌++◌, length, get_or, map, replicate, take, drop, refl, sym, ap, subst, ◌∙◌, arith}
use Rattle.std.specs.Prelude.{All, slice_index_or, slice_set}
use Rattle.std.proofs.lemmas.List.{take_more, drop_more, length-take, length-drop, length-append, length_push, append_assoc, map-set}
use Rattle.std.proofs.lemmas.List.Elements.{filter-append}
use Rattle.circular_buffer.specs.Buffer.{Buffer, buffer, keep_last}
use Rattle.lang_base.specs.Limits.{CLIENTS}
use Rattle.machine_explicit.specs.inner.Rings.{line_of, is_not, without}

shorter_by : (test : Bool) (x : ℕ) (rest line : List ℕ) → length rest ≤ length line → length (cond test (x ∷ rest) rest) ≤ length (x ∷ line)
shorter_by true x rest line shorter = omega (arith, shorter)
shorter_by false x rest line shorter = omega (arith, shorter)

without_shorter : (client : ℕ) (line : List ℕ) → length (without client line) ≤ length line
without_shorter client [] = omega arith
without_shorter client (x ∷ line) = shorter_by (is_not client x) x (without client line) line (without_shorter client line)

-- the ring after so many turns
abbrev pub turned_line : ℕ → ℕ → List ℕ → List ℕ
turned_line client i line = drop i line ++ without client (take i line)

pub turned_fits : (client i capacity : ℕ) (line : List ℕ) (ring : Buffer ℕ) → ring ≡ buffer (turned_line client i line) capacity → i < length line → length line ≤ capacity → length ring.items ≤ ring.capacity
turned_fits client i capacity line ring is within room =
    subst (λ (b : Buffer ℕ). length b.items ≤ b.capacity) (sym is)
    (omega (arith, length-append (drop i line) (without client (take i line)), length-drop i line, length-take i line, without_shorter client (take i line), within, room))

turned_once : (client i : ℕ) (line : List ℕ) → i < length line → drop 1 (turned_line client i line) ++ without client (take 1 (turned_line client i line)) ≡ turned_line client (i + 1) line
turned_once client i line within =
    let first = get_or line i 0 in
    let rest = drop (i + 1) line in
    let kept = without client (take i line) in
    ap (λ (left : List ℕ). drop 1 (left ++ kept) ++ without client (take 1 (left ++ kept))) (drop_more line i 0 within)
    ∙ append_assoc rest kept (without client (first ∷ []))
    ∙ ap (λ (end : List ℕ). rest ++ end) (sym (filter-append (is_not client) (take i line) (first ∷ [])) ∙ ap (without client) (sym (take_more line i 0 within)))

pub turned_more : (client i capacity : ℕ) (line : List ℕ) (ring new : Buffer ℕ) → ring ≡ buffer (turned_line client i line) capacity → i < length line
    → new ≡ buffer (drop 1 ring.items ++ without client (take 1 ring.items)) ring.capacity → new ≡ buffer (turned_line client (i + 1) line) capacity
turned_more client i capacity line ring new is within turned =
    turned ∙ ap (λ (b : Buffer ℕ). buffer (drop 1 b.items ++ without client (take 1 b.items)) b.capacity) is ∙ ap (λ (items : List ℕ). buffer items capacity) (turned_once client i line within)

-- ---- the ring of a condition, as the lines show it

abbrev pub line_in : Buffer ℕ → List ℕ
line_in ring = ring.items

pub line_at : (rings : List (Buffer ℕ)) (condition : ℕ) (ring : Buffer ℕ) → condition < length rings → ring ≡ slice_index_or rings condition ring → line_of (map line_in rings) condition ≡ ring.items
line_at [] condition ring within is = absurd (omega (arith, within))
line_at (first ∷ rings) zero ring within is = ap line_in (sym is)
line_at (first ∷ rings) (suc condition) ring within is = line_at rings condition ring (omega (arith, within)) is

pub ring_set : (rings : List (Buffer ℕ)) (condition : ℕ) (new : Buffer ℕ) (line : List ℕ) → new.items ≡ line → map line_in (slice_set rings condition new) ≡ slice_set (map line_in rings) condition line
ring_set rings condition new line is = map-set line_in rings condition new ∙ ap (slice_set (map line_in rings) condition) is

pub ring_cleared : (rings : List (Buffer ℕ)) (condition : ℕ) (ring new : Buffer ℕ) → new ≡ buffer [] ring.capacity → map line_in (slice_set rings condition new) ≡ slice_set (map line_in rings) condition []
ring_cleared rings condition ring new is = ring_set rings condition new [] (ap line_in is)

pub ring_popped : (rings : List (Buffer ℕ)) (condition : ℕ) (ring new : Buffer ℕ) → condition < length rings → ring ≡ slice_index_or rings condition ring → new ≡ buffer (drop 1 ring.items) ring.capacity
    → map line_in (slice_set rings condition new) ≡ slice_set (map line_in rings) condition (drop 1 (line_of (map line_in rings) condition))
ring_popped rings condition ring new within at is =
    ring_set rings condition new (drop 1 (line_of (map line_in rings) condition)) (ap line_in is ∙ ap (drop 1) (sym (line_at rings condition ring within at)))

pub ring_left : (rings : List (Buffer ℕ)) (condition client : ℕ) (ring new : Buffer ℕ) → condition < length rings → ring ≡ slice_index_or rings condition ring → new ≡ buffer (without client ring.items) ring.capacity
    → map line_in (slice_set rings condition new) ≡ slice_set (map line_in rings) condition (without client (line_of (map line_in rings) condition))
ring_left rings condition client ring new within at is =
    ring_set rings condition new (without client (line_of (map line_in rings) condition)) (ap line_in is ∙ ap (without client) (sym (line_at rings condition ring within at)))

pub ring_joined : (rings : List (Buffer ℕ)) (condition client : ℕ) (ring new : Buffer ℕ) → All (λ one. one.capacity ≡ CLIENTS) rings → condition < length rings → ring ≡ slice_index_or rings condition ring
    → length (line_of (map line_in rings) condition) < CLIENTS → new ≡ buffer (keep_last ring.capacity (ring.items ++ client ∷ [])) ring.capacity
    → map line_in (slice_set rings condition new) ≡ slice_set (map line_in rings) condition (line_of (map line_in rings) condition ++ client ∷ [])
ring_joined rings condition client ring new room within at short is =
    let line = line_at rings condition ring within at in
    let capacity : ring.capacity ≡ CLIENTS = ap (λ (b : Buffer ℕ). b.capacity) at ∙ room condition ring within in
    let none : length (ring.items ++ client ∷ []) - ring.capacity ≡ 0 = omega (arith, capacity, length_push ring.items client, short, ap length line) in
    ring_set rings condition new (line_of (map line_in rings) condition ++ client ∷ [])
    (ap line_in is ∙ ap (λ (n : ℕ). drop n (ring.items ++ client ∷ [])) none ∙ ap (λ (items : List ℕ). items ++ client ∷ []) (sym line))

-- ---- empty rings

abbrev pub empty_ring : Buffer ℕ
empty_ring = buffer [] CLIENTS

replicate_push : (count : ℕ) → replicate count empty_ring ++ empty_ring ∷ [] ≡ replicate (suc count) empty_ring
replicate_push zero = refl
replicate_push (suc count) = ap (λ (rings : List (Buffer ℕ)). empty_ring ∷ rings) (replicate_push count)

pub one_more_ring : (count : ℕ) (rings next : List (Buffer ℕ)) (ring : Buffer ℕ) → rings ≡ replicate count empty_ring → ring ≡ empty_ring → next ≡ rings ++ ring ∷ [] → next ≡ replicate (count + 1) empty_ring
one_more_ring count rings next ring are is pushed =
    let one : suc count ≡ count + 1 = omega arith in
    pushed ∙ ap (λ (some : List (Buffer ℕ)). some ++ ring ∷ []) are ∙ ap (λ (b : Buffer ℕ). replicate count empty_ring ++ b ∷ []) is
    ∙ replicate_push count ∙ ap (λ (n : ℕ). replicate n empty_ring) one

pub empty_lines : (count : ℕ) → map line_in (replicate count empty_ring) ≡ replicate count []
empty_lines zero = refl
empty_lines (suc count) = ap (λ (lines : List (List ℕ)). [] ∷ lines) (empty_lines count)

pub all_roomy : (count : ℕ) → All (λ ring. ring.capacity ≡ CLIENTS) (replicate count empty_ring)
all_roomy zero i d within = absurd (omega (arith, within))
all_roomy (suc count) zero d within = refl
all_roomy (suc count) (suc i) d within = all_roomy count i d (omega (arith, within))
