-- A list that a loop has rewritten up to an index.
use Rattle.std.proofs.Common.{◌≡◌, ℕ, zero, suc, ◌<◌, List, [], ◌∷◌, ◌++◌, length, get_or, take, drop, set, refl, ap, arith}

-- the front of the new list, and the rest of the old one
abbrev pub partly : {X : Type 0} → List X → List X → ℕ → List X
partly new old i = take i new ++ drop i old

pub partly_at : {X : Type 0} (new old : List X) (i : ℕ) (d : X) → length new ≡ length old → i < length old → get_or (partly new old i) i d ≡ get_or old i d
partly_at [] [] i d same lt = absurd (omega arith)
partly_at [] (y ∷ old) i d same lt = absurd (omega arith)
partly_at (x ∷ new) [] i d same lt = absurd (omega arith)
partly_at (x ∷ new) (y ∷ old) zero d same lt = refl
partly_at (x ∷ new) (y ∷ old) (suc i) d same lt = partly_at new old i d (omega arith) (omega arith)

pub partly_step : {X : Type 0} (new old : List X) (i : ℕ) (d v : X) → length new ≡ length old → i < length old → v ≡ get_or new i d → set (partly new old i) i v ≡ partly new old (suc i)
partly_step [] [] i d v same lt is = absurd (omega arith)
partly_step [] (y ∷ old) i d v same lt is = absurd (omega arith)
partly_step (x ∷ new) [] i d v same lt is = absurd (omega arith)
partly_step (x ∷ new) (y ∷ old) zero d v same lt is = ap (λ first. first ∷ old) is
partly_step (x ∷ new) (y ∷ old) (suc i) d v same lt is = ap (λ more. x ∷ more) (partly_step new old i d v (omega arith) (omega arith) is)

pub partly_begins : {X : Type 0} (new old : List X) → old ≡ partly new old 0
partly_begins new old = refl

pub partly_ends : {X : Type 0} (new old : List X) (i : ℕ) → length new ≡ length old → i ≡ length old → partly new old i ≡ new
partly_ends [] [] zero same end = refl
partly_ends [] [] (suc i) same end = absurd (omega arith)
partly_ends [] (y ∷ old) i same end = absurd (omega arith)
partly_ends (x ∷ new) [] i same end = absurd (omega arith)
partly_ends (x ∷ new) (y ∷ old) zero same end = absurd (omega arith)
partly_ends (x ∷ new) (y ∷ old) (suc i) same end = ap (λ more. x ∷ more) (partly_ends new old i (omega arith) (omega arith))
