-- Those of a range of whom a test is true.
use Rattle.std.proofs.Common.{◌≡◌, ℕ, zero, suc, ◌+◌, ◌-◌, ◌<◌, ◌≤◌, Bool, true, false, cond, List, [], ◌∷◌, length, get_or, Option, Some, None, sym, ap, ◌∙◌, arith, inl, inr}
use Rattle.std.specs.Prelude.{filter, slice_get}
use Rattle.std.specs.List.{range_with_len}
use Rattle.std.proofs.lemmas.Bool.{cases_Bool, cases_eq}
use Rattle.std.proofs.lemmas.Option.{none-some, slice_get-get_or}

-- those from a number on, below another
abbrev pub from_on : (ℕ → Bool) → ℕ → ℕ → List ℕ
from_on p from count = filter p (range_with_len from (count - from))

from_on_steps : (p : ℕ → Bool) (from count : ℕ) → from < count → from_on p from count ≡ cond (p from) (from ∷ from_on p (from + 1) count) (from_on p (from + 1) count)
from_on_steps p from count within = let e : count - from ≡ suc (count - (from + 1)) = omega arith in ap (λ n. filter p (range_with_len from n)) e

from_on_yes : (p : ℕ → Bool) (from count : ℕ) → from < count → p from ≡ true → from_on p from count ≡ from ∷ from_on p (from + 1) count
from_on_yes p from count within is = from_on_steps p from count within ∙ ap (λ b. cond b (from ∷ from_on p (from + 1) count) (from_on p (from + 1) count)) is

from_on_no : (p : ℕ → Bool) (from count : ℕ) → from < count → p from ≡ false → from_on p from count ≡ from_on p (from + 1) count
from_on_no p from count within is = from_on_steps p from count within ∙ ap (λ b. cond b (from ∷ from_on p (from + 1) count) (from_on p (from + 1) count)) is

pub from_on_start : (p : ℕ → Bool) (count : ℕ) → from_on p 0 count ≡ filter p (range_with_len 0 count)
from_on_start p count = let e : count - 0 ≡ count = omega arith in ap (λ n. filter p (range_with_len 0 n)) e

pub from_on_end : (p : ℕ → Bool) (from count : ℕ) → count ≤ from → from_on p from count ≡ []
from_on_end p from count past = let e : count - from ≡ 0 = omega arith in ap (λ n. filter p (range_with_len from n)) e

-- ---- how many they are

pub counts_yes : (p : ℕ → Bool) (from count so_far : ℕ) (whole : ℕ) → from < count → p from ≡ true → so_far + length (from_on p from count) ≡ whole → (so_far + 1) + length (from_on p (from + 1) count) ≡ whole
counts_yes p from count so_far whole within is held = omega (arith, held, ap (λ (xs : List ℕ). length xs) (from_on_yes p from count within is))

pub counts_no : (p : ℕ → Bool) (from count so_far : ℕ) (whole : ℕ) → from < count → p from ≡ false → so_far + length (from_on p from count) ≡ whole → so_far + length (from_on p (from + 1) count) ≡ whole
counts_no p from count so_far whole within is held = omega (arith, held, ap (λ (xs : List ℕ). length xs) (from_on_no p from count within is))

-- ---- the one at a position

pub is_found : (p : ℕ → Bool) (from count before : ℕ) (whole : Option ℕ) → from < count → p from ≡ true → before ≡ 0 → slice_get (from_on p from count) before ≡ whole → whole ≡ Some from
is_found p from count before whole within is first held =
    sym held ∙ ap (λ xs. slice_get xs before) (from_on_yes p from count within is) ∙ ap (slice_get (from ∷ from_on p (from + 1) count)) first

pub found_later : (p : ℕ → Bool) (from count before : ℕ) (whole : Option ℕ) → from < count → p from ≡ true → 0 < before → slice_get (from_on p from count) before ≡ whole → slice_get (from_on p (from + 1) count) (before - 1) ≡ whole
found_later p from count before whole within is later held =
    let e : suc (before - 1) ≡ before = omega arith in
    ap (slice_get (from ∷ from_on p (from + 1) count)) e ∙ sym (ap (λ xs. slice_get xs before) (from_on_yes p from count within is)) ∙ held

pub found_after : (p : ℕ → Bool) (from count before : ℕ) (whole : Option ℕ) → from < count → p from ≡ false → slice_get (from_on p from count) before ≡ whole → slice_get (from_on p (from + 1) count) before ≡ whole
found_after p from count before whole within is held = sym (ap (λ xs. slice_get xs before) (from_on_no p from count within is)) ∙ held

pub none_left : (p : ℕ → Bool) (from count before position : ℕ) (whole : List ℕ) → count ≤ from → slice_get (from_on p from count) before ≡ slice_get whole position → position < length whole → ⊥
none_left p from count before position whole past held within =
    let none : None ≡ slice_get whole position = sym (ap (λ xs. slice_get xs before) (from_on_end p from count past)) ∙ held in
    none-some (get_or whole position 0) (none ∙ slice_get-get_or whole position 0 within)

-- ---- none of them

none_here_or_later : (p : ℕ → Bool) (from count : ℕ) → p from ≡ false → ((one : ℕ) → from + 1 ≤ one → one < (from + 1) + count → p one ≡ false) → (one : ℕ) → from ≤ one → one < from + suc count → p one ≡ false
none_here_or_later p from count isnt later one above below =
    elim (cases_eq one from) [
      | inl same ↦ ap p same ∙ isnt
      | inr differs ↦ later one (omega (arith, differs)) (omega arith)
    ]

pub none_of_none : (p : ℕ → Bool) (from count : ℕ) → length (filter p (range_with_len from count)) ≡ 0 → (one : ℕ) → from ≤ one → one < from + count → p one ≡ false
none_of_none p from zero none one above below = absurd (omega arith)
none_of_none p from (suc count) none one above below =
    elim (cases_Bool (p from)) [
      | inl is ↦ absurd (omega (arith, none, ap (λ b. length (cond b (from ∷ filter p (range_with_len (from + 1) count)) (filter p (range_with_len (from + 1) count)))) is))
      | inr isnt ↦ (let rest : length (filter p (range_with_len (from + 1) count)) ≡ 0 = sym (ap (λ b. length (cond b (from ∷ filter p (range_with_len (from + 1) count)) (filter p (range_with_len (from + 1) count)))) isnt) ∙ none in
          none_here_or_later p from count isnt (none_of_none p (from + 1) count rest) one above below)
    ]
