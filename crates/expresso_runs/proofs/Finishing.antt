-- Where no client has a call left at its place all are finished, and the other way round.
use Rattle.std.proofs.Common.{◌≡◌, ℕ, zero, suc, ◌+◌, ◌≤◌, Bool, true, false, List, [], ◌∷◌, length, Some, None, refl, subst, arith}
use Rattle.std.specs.Prelude.{◌&&◌, nat_le, slice_get}
use Rattle.std.specs.List.{list_all, enumerate_from}
use Rattle.std.proofs.lemmas.Bool.{false≢true}
use Rattle.machine_implicit.specs.declared.script.Client.{Client}
use Rattle.machine_implicit.specs.declared.place.Place.{Place}
use Rattle.machine_implicit.specs.Scripted.{calls_of}
use Rattle.machine_implicit.specs.Places.{call_at}
use Rattle.machine_implicit.specs.Runs.{Situation, IsFinished}
use Rattle.report_text.specs.TurnsText.{has_done}
use Rattle.report_text.specs.LogText.{are_done}

-- nothing stands from the end on
past_end : {X : Type 0} (xs : List X) (i : ℕ) → length xs ≤ i → slice_get xs i ≡ None
past_end [] i past = refl
past_end (x ∷ xs) zero past = absurd (omega (arith, past))
past_end (x ∷ xs) (suc i) past = past_end xs i (omega (arith, past))

none_past : {X : Type 0} (xs : List X) (i : ℕ) → slice_get xs i ≡ None → length xs ≤ i
none_past [] i none = omega arith
none_past (x ∷ xs) zero none = absurd (some_none x none)
  where
    some_none : {Y : Type 0} (y : Y) → Some y ≡ None → ⊥
    some_none y e = cc
none_past (x ∷ xs) (suc i) none = omega (arith, none_past xs i none)

le_true : (m n : ℕ) → nat_le m n ≡ true → m ≤ n
le_true m n is = grind arith

true_le : (m n : ℕ) → m ≤ n → nat_le m n ≡ true
true_le m n le = grind arith

both_true : (a b : Bool) → (a && b) ≡ true → (a ≡ true) × (b ≡ true)
both_true true b is = (refl, is)
both_true false b is = absurd (false≢true is)

all_true : (a b : Bool) → a ≡ true → b ≡ true → (a && b) ≡ true
all_true true b p q = q
all_true false b p q = absurd (false≢true p)

module _ (clients : List Client) where
  -- none of these places, the first of which is this client's, has a call left
  abbrev AreDoneFrom : ℕ → List Place → Type 0
  AreDoneFrom first places = (number : ℕ) (place : Place) → slice_get places number ≡ Some place → call_at clients (first + number) place ≡ None

  same_place : (one other : Place) → Some one ≡ Some other → one ≡ other
  same_place one other is = cc

  no_place : (place : Place) → None ≡ Some place → ⊥
  no_place place is = cc

  each_done : (first : ℕ) (places : List Place) → list_all (λ one. has_done clients one.0 one.1) (enumerate_from first places) ≡ true → AreDoneFrom first places
  each_done first [] is number place at = absurd (no_place place at)
  each_done first (one ∷ more) is zero place at =
      subst (λ (n : ℕ). call_at clients n place ≡ None) (omega arith)
      (subst (λ (p : Place). call_at clients first p ≡ None) (same_place one place at)
      (past_end (calls_of clients first) one.past (le_true _ _ (both_true (has_done clients first one) (list_all (λ one. has_done clients one.0 one.1) (enumerate_from (first + 1) more)) is).0)))
  each_done first (one ∷ more) is (suc number) place at =
      subst (λ (n : ℕ). call_at clients n place ≡ None) (omega arith)
      (each_done (first + 1) more (both_true (has_done clients first one) (list_all (λ one. has_done clients one.0 one.1) (enumerate_from (first + 1) more)) is).1 number place at)

  done_each : (first : ℕ) (places : List Place) → AreDoneFrom first places → list_all (λ one. has_done clients one.0 one.1) (enumerate_from first places) ≡ true
  done_each first [] each = refl
  done_each first (one ∷ more) each =
      all_true (has_done clients first one) (list_all (λ one. has_done clients one.0 one.1) (enumerate_from (first + 1) more))
      (true_le _ _ (none_past (calls_of clients first) one.past (subst (λ (n : ℕ). call_at clients n one ≡ None) (omega arith) (each 0 one refl))))
      (done_each (first + 1) more (λ number place at. subst (λ (n : ℕ). call_at clients n place ≡ None) (omega arith) (each (suc number) place at)))

  pub done_finished : (now : Situation) → are_done clients now.places ≡ true → IsFinished clients now
  done_finished now is client place at = subst (λ (n : ℕ). call_at clients n place ≡ None) (omega arith) (each_done 0 now.places is client place at)

  pub finished_done : (now : Situation) → IsFinished clients now → are_done clients now.places ≡ true
  finished_done now all = done_each 0 now.places (λ number place at. subst (λ (n : ℕ). call_at clients n place ≡ None) (omega arith) (all number place at))
