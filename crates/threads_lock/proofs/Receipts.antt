-- Receipts of sections that were made in turn.
use Rattle.std.proofs.Common.{◌≡◌, ◌≢◌, ℕ, zero, suc, ◌+◌, ◌<◌, ◌≤◌, List, [], ◌∷◌, ◌++◌, length, get_or, cond, eqb, eq-eqb, ne_eqb, refl, sym, ap, ◌∙◌, arith}
use Rattle.std.proofs.lemmas.List.Sums.{sum_by-append, sum_by-cons}
use mathlib.Core.Logic.{dite}
use native.Mathlib.Decide.{ℕ_discrete}
use Rattle.threads_lock.specs.declared.receipt.Receipt.{Receipt}
use Rattle.threads_lock.specs.Closing.{times}
use Rattle.threads_lock.specs.inner.Queueing.{AreInTurn}

-- 1 where the receipt is of the place
abbrev pub here : ℕ → Receipt → ℕ
here k r = cond (eqb r.place k) 1 0

pub is_here : (k : ℕ) (r : Receipt) → r.place ≡ k → here k r ≡ 1
is_here k r same = ap (λ b. cond b 1 0) (eq-eqb r.place k same)

pub not_here : (k : ℕ) (r : Receipt) → r.place ≢ k → here k r ≡ 0
not_here k r other = ap (λ b. cond b 1 0) (ne_eqb r.place k other)

pub times_cons : (k : ℕ) (r : Receipt) (rs : List Receipt) → times k (r ∷ rs) ≡ here k r + times k rs
times_cons k r rs = sum_by-cons (here k) r rs

pub times_append : (k : ℕ) (rs qs : List Receipt) → times k (rs ++ qs) ≡ times k rs + times k qs
times_append k rs qs = sum_by-append (here k) rs qs

pub times_push : (k : ℕ) (rs : List Receipt) (r : Receipt) → times k (rs ++ r ∷ []) ≡ times k rs + here k r
times_push k rs r = let a = times_append k rs (r ∷ []) in let b = times_cons k r [] in let z : times k [] ≡ 0 = refl in omega arith

pub turn_push : (place ticket : ℕ) (rs : List Receipt) (last : ℕ) (r : Receipt) → AreInTurn place ticket rs last → r.place ≡ place + length rs → last ≤ r.ticket → AreInTurn place ticket (rs ++ r ∷ []) (r.ticket + 1)
turn_push place ticket [] last r h at le = (omega arith, omega arith, omega arith)
turn_push place ticket (x ∷ rs) last r h at le = (h.0, h.1, turn_push (place + 1) (x.ticket + 1) rs last r h.2 (omega arith) le)

pub turn_place : (place ticket : ℕ) (rs : List Receipt) (last : ℕ) → AreInTurn place ticket rs last → (k : ℕ) (d : Receipt) → k < length rs → (get_or rs k d).place ≡ place + k
turn_place place ticket [] last h k d lt = absurd (omega arith)
turn_place place ticket (x ∷ rs) last h zero d lt = let e = h.0 in omega arith
turn_place place ticket (x ∷ rs) last h (suc k) d lt = let e = turn_place (place + 1) (x.ticket + 1) rs last h.2 k d (omega arith) in omega arith

pub turn_from : (place ticket : ℕ) (rs : List Receipt) (last : ℕ) → AreInTurn place ticket rs last → (k : ℕ) (d : Receipt) → k < length rs → ticket ≤ (get_or rs k d).ticket
turn_from place ticket [] last h k d lt = absurd (omega arith)
turn_from place ticket (x ∷ rs) last h zero d lt = h.1
turn_from place ticket (x ∷ rs) last h (suc k) d lt = let a = h.1 in let b = turn_from (place + 1) (x.ticket + 1) rs last h.2 k d (omega arith) in omega arith

pub turn_order : (place ticket : ℕ) (rs : List Receipt) (last : ℕ) → AreInTurn place ticket rs last → (i k : ℕ) (d e : Receipt) → i < k → k < length rs → (get_or rs i d).ticket < (get_or rs k e).ticket
turn_order place ticket [] last h i k d e lt in_range = absurd (omega arith)
turn_order place ticket (x ∷ rs) last h i zero d e lt in_range = absurd (omega arith)
turn_order place ticket (x ∷ rs) last h zero (suc k) d e lt in_range = let b = turn_from (place + 1) (x.ticket + 1) rs last h.2 k e (omega arith) in omega arith
turn_order place ticket (x ∷ rs) last h (suc i) (suc k) d e lt in_range = turn_order (place + 1) (x.ticket + 1) rs last h.2 i k d e (omega arith) (omega arith)

pub times_before : (place ticket : ℕ) (rs : List Receipt) (last : ℕ) → AreInTurn place ticket rs last → (k : ℕ) → k < place → times k rs ≡ 0
times_before place ticket [] last h k lt = refl
times_before place ticket (x ∷ rs) last h k lt =
    let a = times_cons k x rs in let e = h.0 in let b = not_here k x (λ same. omega arith) in
    let c = times_before (place + 1) (x.ticket + 1) rs last h.2 k (omega arith) in omega arith

pub times_after : (place ticket : ℕ) (rs : List Receipt) (last : ℕ) → AreInTurn place ticket rs last → (k : ℕ) → place + length rs ≤ k → times k rs ≡ 0
times_after place ticket [] last h k le = refl
times_after place ticket (x ∷ rs) last h k le =
    let a = times_cons k x rs in let e = h.0 in let b = not_here k x (λ same. omega arith) in
    let c = times_after (place + 1) (x.ticket + 1) rs last h.2 k (omega arith) in omega arith

pub times_once : (place ticket : ℕ) (rs : List Receipt) (last : ℕ) → AreInTurn place ticket rs last → (k : ℕ) → place ≤ k → k < place + length rs → times k rs ≡ 1
times_once place ticket [] last h k ge lt = absurd (omega arith)
times_once place ticket (x ∷ rs) last h k ge lt = let a = times_cons k x rs in let e = h.0 in dite (ℕ_discrete place k)
    (λ same. let b = is_here k x (e ∙ same) in let c = times_before (place + 1) (x.ticket + 1) rs last h.2 k (omega arith) in omega arith)
    (λ other. let b = not_here k x (λ q. other (sym e ∙ q)) in let lt' : place < k = omega arith in let c = times_once (place + 1) (x.ticket + 1) rs last h.2 k (omega arith) (omega arith) in omega arith)
