-- Commits by client: those of clients below a number, and those of each client, add up.
use Rattle.std.proofs.Common.{◌≡◌, ◌==◌, ℕ, zero, suc, ◌+◌, ◌*◌, ◌<◌, ◌≤◌, ◌⊎◌, Bool, cond, List, [], ◌∷◌, ◌++◌, refl, ap, ◌∙◌, arith, inl, inr, suc-mul}
use Rattle.std.specs.Prelude.{count_by, nat_lt}
use Rattle.std.proofs.lemmas.Bool.Decides.{nat_tests}
use Rattle.std.proofs.lemmas.List.Sums.{sum_by-cons, sum_by_push}
use Rattle.machine_implicit.specs.declared.commit.Commit.{Commit}

-- how many commits are the client's
abbrev pub done : List Commit → ℕ → ℕ
done history client = count_by (λ commit. commit.client == client) history

-- how many commits are of clients below this number
abbrev pub below : ℕ → List Commit → ℕ
below bound history = count_by (λ commit. nat_lt commit.client bound) history

-- ---- one client more

-- a commit of a client counts where the test is true
abbrev pub counts : Bool → ℕ
counts test = cond test 1 0

none_below : (client : ℕ) → counts (nat_lt client 0) ≡ 0
none_below client = grind (arith, nat_tests)

one_below : (client bound : ℕ) → counts (nat_lt client (suc bound)) ≡ counts (nat_lt client bound) + counts (client == bound)
one_below client bound = grind (arith, nat_tests)

pub below_none : (history : List Commit) → below 0 history ≡ 0
below_none [] = refl
below_none (commit ∷ history) =
    omega (arith, sum_by-cons (λ (one : Commit). counts (nat_lt one.client 0)) commit history, none_below commit.client, below_none history)

pub below_more : (bound : ℕ) (history : List Commit) → below (suc bound) history ≡ below bound history + done history bound
below_more bound [] = refl
below_more bound (commit ∷ history) =
    omega (
      arith,
      sum_by-cons (λ (one : Commit). counts (nat_lt one.client (suc bound))) commit history,
      sum_by-cons (λ (one : Commit). counts (nat_lt one.client bound)) commit history,
      sum_by-cons (λ (one : Commit). counts (one.client == bound)) commit history,
      one_below commit.client bound,
      below_more bound history,
    )

-- ---- one commit more

pub below_push : (bound : ℕ) (history : List Commit) (commit : Commit) → below bound (history ++ commit ∷ []) ≡ below bound history + counts (nat_lt commit.client bound)
below_push bound history commit = sum_by_push (λ (one : Commit). counts (nat_lt one.client bound)) history commit

pub done_push : (history : List Commit) (commit : Commit) (client : ℕ) → done (history ++ commit ∷ []) client ≡ done history client + counts (commit.client == client)
done_push history commit client = sum_by_push (λ (one : Commit). counts (one.client == client)) history commit

-- ---- the clients of a range

-- so many clients from one on
abbrev pub InRange : ℕ → ℕ → ℕ → Type 0
InRange from count client = (from ≤ client) × (client < from + count)

next_place : (from count : ℕ) → from + suc count ≡ suc (from + count)
next_place from count = omega arith

-- each has committed so often at most
pub at_most_each : (history : List Commit) (from count most : ℕ) → ((client : ℕ) → InRange from count client → done history client ≤ most) → below (from + count) history ≤ below from history + count * most
at_most_each history from zero most each = omega (arith, ap (λ (bound : ℕ). below bound history) (let same : from + 0 ≡ from = omega arith in same))
at_most_each history from (suc count) most each =
    omega (
      arith,
      ap (λ (bound : ℕ). below bound history) (next_place from count),
      below_more (from + count) history,
      suc-mul count most,
      each (from + count) (omega arith, omega arith),
      at_most_each history from count most (λ client within. each client (within.0, omega (arith, within.1))),
    )

-- each has committed just so often
pub just_each : (history : List Commit) (from count most : ℕ) → ((client : ℕ) → InRange from count client → done history client ≡ most) → below (from + count) history ≡ below from history + count * most
just_each history from zero most each = omega (arith, ap (λ (bound : ℕ). below bound history) (let same : from + 0 ≡ from = omega arith in same))
just_each history from (suc count) most each =
    omega (
      arith,
      ap (λ (bound : ℕ). below bound history) (next_place from count),
      below_more (from + count) history,
      suc-mul count most,
      each (from + count) (omega arith, omega arith),
      just_each history from count most (λ client within. each client (within.0, omega (arith, within.1))),
    )

last_or_before : (client last : ℕ) → client < suc last → (client ≡ last) ⊎ (client < last)
last_or_before client last within = grind arith

-- where they have together as often as they can, each has
pub each_from_all : (history : List Commit) (from count most : ℕ) → ((client : ℕ) → InRange from count client → done history client ≤ most) → below (from + count) history ≡ below from history + count * most
    → (client : ℕ) → InRange from count client → done history client ≡ most
each_from_all history from zero most each all client within = absurd (omega (arith, within.0, within.1))
each_from_all history from (suc count) most each all client within =
    let fewer : (one : ℕ) → InRange from count one → done history one ≤ most = λ one inside. each one (inside.0, omega (arith, inside.1)) in
    let place = ap (λ (bound : ℕ). below bound history) (next_place from count) in
    let more = below_more (from + count) history in
    let before = at_most_each history from count most fewer in
    let last = each (from + count) (omega arith, omega arith) in
    let times = suc-mul count most in
    elim (last_or_before client (from + count) (omega (arith, within.1))) [
      | inl is ↦ ap (done history) is ∙ (omega (arith, place, more, before, last, times, all))
      | inr less ↦ each_from_all history from count most fewer (omega (arith, place, more, before, last, times, all)) client (within.0, less)
    ]
