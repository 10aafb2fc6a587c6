-- Texts of a row, each by its number.
use Rattle.std.proofs.Common.{◌≡◌, ℕ, ◌+◌, ◌<◌, ◌≤◌, ◌∙◌, List, length, get_or, take, ap, sym, arith, Result, Ok, Err, IsErr}
use Rattle.std.specs.List.{flat_map, enumerate_from}
use Rattle.std.proofs.lemmas.List.{take_all}
use Rattle.std.proofs.lemmas.List.FromFn.{length-enumerate_from, get_or-enumerate_from}
use Rattle.base_io.specs.declared.sink.SinkFailed.{SinkFailed}
use Rattle.base_io.specs.Outside.{SinkSeen}
use Rattle.base_io.specs.Writing.{Wrote}
use Rattle.base_io.proofs.Rows.{row_went, row_stopped}

abbrev both : {A B : Type 0} → A → B → A × B
both x y = (x, y)

-- the text of an element with its number
abbrev pub numbered : {X : Type 0} → (ℕ → X → List ℕ) → ℕ × X → List ℕ
numbered f one = f one.0 one.1

within : {X : Type 0} (xs : List X) (i : ℕ) → i < length xs → i < length (enumerate_from 0 xs)
within xs i less = omega (arith, length-enumerate_from 0 xs)

at : {X : Type 0} (xs : List X) (i : ℕ) (x : X) → i < length xs → x ≡ get_or xs i x → both i x ≡ get_or (enumerate_from 0 xs) i (both i x)
at xs i x less is =
    let number : i ≡ 0 + i = omega arith in
    ap (λ n. both n x) number ∙ ap (λ y. both (0 + i) y) is ∙ sym (get_or-enumerate_from 0 xs i (both i x) less)

pub numbered_went : {X : Type 0} {s0 s1 s2 : SinkSeen} (f : ℕ → X → List ℕ) (xs : List X) (i : ℕ) (x : X) (text : List ℕ)
    → i < length xs → x ≡ get_or xs i x → text ≡ f i x → Wrote s0 s1 (Ok tt) (flat_map (numbered f) (take i (enumerate_from 0 xs))) → Wrote s1 s2 (Ok tt) text
    → Wrote s0 s2 (Ok tt) (flat_map (numbered f) (take (i + 1) (enumerate_from 0 xs)))
numbered_went f xs i x text less is says before here =
    row_went (numbered f) (enumerate_from 0 xs) i (both i x) text (within xs i less) (at xs i x less is) says before here

pub numbered_stopped : {X : Type 0} {s0 s1 s2 : SinkSeen} {fault : SinkFailed} (f : ℕ → X → List ℕ) (xs : List X) (i : ℕ) (x : X) (text : List ℕ) (answer : Result (Unit {0}) SinkFailed)
    → i < length xs → x ≡ get_or xs i x → text ≡ f i x → IsErr answer → Wrote s0 s1 (Ok tt) (flat_map (numbered f) (take i (enumerate_from 0 xs))) → Wrote s1 s2 (Err fault) text
    → Wrote s0 s2 answer (flat_map (numbered f) (enumerate_from 0 xs))
numbered_stopped f xs i x text answer less is says fails before here =
    row_stopped (numbered f) (enumerate_from 0 xs) i (both i x) text answer (within xs i less) (at xs i x less is) says fails before here

pub numbered_done : {X : Type 0} (f : ℕ → X → List ℕ) (xs : List X) (i : ℕ) → length xs ≤ i → flat_map (numbered f) (take i (enumerate_from 0 xs)) ≡ flat_map (numbered f) (enumerate_from 0 xs)
numbered_done f xs i end = ap (flat_map (numbered f)) (take_all i (enumerate_from 0 xs) (omega (arith, length-enumerate_from 0 xs)))
