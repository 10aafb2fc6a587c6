-- Receipts of two seats, put together in rising places.
use Rattle.std.proofs.Common.{◌≡◌, ◌≢◌, ℕ, ◌+◌, ◌<◌, ◌≤◌, List, [], ◌∷◌, ◌++◌, Bool, true, false, refl, arith, if◌then◌else◌}
use Rattle.std.specs.Prelude.{nat_lt}
use Rattle.std.specs.List.{All}
use Rattle.std.proofs.lemmas.List.Elements.{All-nil, All-cons, All-head, All-push, All-tail, All-weaker}
use Rattle.threads_lock.specs.declared.receipt.Receipt.{Receipt}
use Rattle.threads_lock.specs.Passes.{HaveRisingPlaces}
use Rattle.threads_lock.specs.Closing.{times}
use Rattle.threads_lock.specs.inner.Queueing.{put_in, merged}
use Rattle.threads_lock.proofs.Receipts.{here, is_here, times_cons}

abbrev by_test : Bool → Receipt → Receipt → List Receipt → List Receipt → List Receipt
by_test b r q qs more = if b then r ∷ q ∷ qs else q ∷ more

times_put : (k : ℕ) (r : Receipt) (qs : List Receipt) → times k (put_in r qs) ≡ here k r + times k qs
times_put k r [] = times_cons k r []
times_put k r (q ∷ qs) = which (nat_lt r.place q.place) (times_put k r qs)
  where
    which : (b : Bool) → times k (put_in r qs) ≡ here k r + times k qs → times k (by_test b r q qs (put_in r qs)) ≡ here k r + times k (q ∷ qs)
    which true h = times_cons k r (q ∷ qs)
    which false h = let a = times_cons k q (put_in r qs) in let b = times_cons k q qs in omega arith

pub times_merged : (k : ℕ) (rs qs : List Receipt) → times k (merged rs qs) ≡ times k rs + times k qs
times_merged k [] qs = let z : times k [] ≡ 0 = refl in omega arith
times_merged k (r ∷ rs) qs = let a = times_put k r (merged rs qs) in let b = times_merged k rs qs in let c = times_cons k r rs in omega arith

module _ (P : Receipt → Type 0) where
  all_put : (r : Receipt) (qs : List Receipt) → P r → All P qs → All P (put_in r qs)
  all_put r [] one all = All-cons P r [] one all
  all_put r (q ∷ qs) one all = which (nat_lt r.place q.place) (all_put r qs one (All-tail P q qs all))
    where
      which : (b : Bool) → All P (put_in r qs) → All P (by_test b r q qs (put_in r qs))
      which true h = All-cons P r (q ∷ qs) one all
      which false h = All-cons P q (put_in r qs) (All-head P q qs all) h

  pub all_merged : (rs qs : List Receipt) → All P rs → All P qs → All P (merged rs qs)
  all_merged [] qs all other = other
  all_merged (r ∷ rs) qs all other = all_put r (merged rs qs) (All-head P r rs all) (all_merged rs qs (All-tail P r rs all) other)

  all_unput : (r : Receipt) (qs : List Receipt) → All P (put_in r qs) → P r × All P qs
  all_unput r [] all = (All-head P r [] all, All-nil P)
  all_unput r (q ∷ qs) all = which (nat_lt r.place q.place) all (all_unput r qs)
    where
      which : (b : Bool) → All P (by_test b r q qs (put_in r qs)) → (All P (put_in r qs) → P r × All P qs) → P r × All P (q ∷ qs)
      which true h more = (All-head P r (q ∷ qs) h, All-tail P r (q ∷ qs) h)
      which false h more = let inner = more (All-tail P q (put_in r qs) h) in (inner.0, All-cons P q qs (All-head P q (put_in r qs) h) inner.1)

  pub all_unmerged : (rs qs : List Receipt) → All P (merged rs qs) → All P rs × All P qs
  all_unmerged [] qs all = (All-nil P, all)
  all_unmerged (r ∷ rs) qs all =
      let one = all_unput r (merged rs qs) all in
      let more = all_unmerged rs qs one.1 in
      (All-cons P r rs one.0 more.0, more.1)

-- places that differ stay in rising order
rising_put : (r : Receipt) (qs : List Receipt) → HaveRisingPlaces qs → times r.place qs ≡ 0 → HaveRisingPlaces (put_in r qs)
rising_put r [] rising none = (All-nil (λ other. r.place < other.place), tt)
rising_put r (q ∷ qs) rising none =
    let counts = times_cons r.place q qs in
    let apart : q.place ≢ r.place = λ same. let one = is_here r.place q same in absurd (omega arith) in
    which (nat_lt r.place q.place) refl apart (rising_put r qs rising.1 (omega arith))
  where
    which : (b : Bool) → nat_lt r.place q.place ≡ b → q.place ≢ r.place → HaveRisingPlaces (put_in r qs) → HaveRisingPlaces (by_test b r q qs (put_in r qs))
    which true is apart more =
        let lt : r.place < q.place = grind arith in
        (All-cons (λ other. r.place < other.place) q qs lt (All-weaker (λ other. q.place < other.place) (λ other. r.place < other.place) (λ other after. omega arith) qs rising.0), rising)
    which false is apart more =
        let le : q.place ≤ r.place = grind arith in
        let lt : q.place < r.place = omega arith in
        (all_put (λ other. q.place < other.place) r qs lt rising.0, more)

pub rising_merged : (rs qs : List Receipt) → HaveRisingPlaces rs → HaveRisingPlaces qs → ((k : ℕ) → times k (merged rs qs) ≤ 1) → HaveRisingPlaces (merged rs qs)
rising_merged [] qs rising other once = other
rising_merged (r ∷ rs) qs rising other once =
    let at = times_put r.place r (merged rs qs) in let mine = is_here r.place r refl in let most = once r.place in
    rising_put r (merged rs qs) (rising_merged rs qs rising.1 other (λ k. let a = times_put k r (merged rs qs) in let b = once k in omega arith)) (omega arith)

pub rising_push : (rs : List Receipt) (r : Receipt) → HaveRisingPlaces rs → All (λ other. other.place < r.place) rs → HaveRisingPlaces (rs ++ r ∷ [])
rising_push [] r rising below = (All-nil (λ other. r.place < other.place), tt)
rising_push (q ∷ qs) r rising below =
    (all_push (λ other. q.place < other.place) qs r rising.0 (All-head (λ other. other.place < r.place) q qs below), rising_push qs r rising.1 (All-tail (λ other. other.place < r.place) q qs below))
  where
    all_push : (P : Receipt → Type 0) (xs : List Receipt) (x : Receipt) → All P xs → P x → All P (xs ++ x ∷ [])
    all_push P xs x h p = All-push P xs x h p
