-- Some of the candidates, in their order.
use Rattle.std.proofs.Common.{◌≡◌, inl, inr, ℕ, zero, suc, ◌<◌, ◌≤◌, Bool, true, false, cond, List, [], ◌∷◌, ◌++◌, length, get_or, arith, ap, refl, ◌∙◌}
use Rattle.std.specs.List.{All, Contains, filter, list_all, remove}
use Rattle.std.proofs.lemmas.Bool.{and_parts, and_from}
use Rattle.std.proofs.lemmas.List.Elements.{All-contains, All-weaker}
use Rattle.lang_monitor.specs.declared.candidate.Candidate.{Candidate}
use Rattle.lang_monitor.specs.Candidates.{AreSomeOf}
use Rattle.logic_wp.proofs.FewerKept.{some_contained}

-- ---- one more candidate

some_skip : (first : Candidate) (kept all : List Candidate) → AreSomeOf kept all → AreSomeOf kept (first ∷ all)
some_skip first [] all are = tt
some_skip first (one ∷ kept) all are = inr are

pub some_push : (candidate : Candidate) (kept all : List Candidate) → AreSomeOf kept all → AreSomeOf (kept ++ candidate ∷ []) (all ++ candidate ∷ [])
some_push candidate [] [] are = inl (refl, tt)
some_push candidate [] (first ∷ all) are = inr (some_push candidate [] all tt)
some_push candidate (one ∷ kept) [] are = absurd are
some_push candidate (one ∷ kept) (first ∷ all) (inl both) = inl (both.0, some_push candidate kept all both.1)
some_push candidate (one ∷ kept) (first ∷ all) (inr are) = inr (some_push candidate (one ∷ kept) all are)

pub some_more : (candidate : Candidate) (kept all : List Candidate) → AreSomeOf kept all → AreSomeOf kept (all ++ candidate ∷ [])
some_more candidate [] all are = tt
some_more candidate (one ∷ kept) [] are = absurd are
some_more candidate (one ∷ kept) (first ∷ all) (inl both) = inl (both.0, some_more candidate kept all both.1)
some_more candidate (one ∷ kept) (first ∷ all) (inr are) = inr (some_more candidate (one ∷ kept) all are)

some_all : (all : List Candidate) → AreSomeOf all all
some_all [] = tt
some_all (first ∷ all) = inl (refl, some_all all)

pub some_remove : (all : List Candidate) (i : ℕ) → AreSomeOf (remove all i) all
some_remove [] zero = tt
some_remove [] (suc i) = tt
some_remove (first ∷ all) zero = some_skip first all all (some_all all)
some_remove (first ∷ all) (suc i) = inl (refl, some_remove all i)

-- ---- some of some

pub some_trans : (few kept all : List Candidate) → AreSomeOf few kept → AreSomeOf kept all → AreSomeOf few all
some_trans [] kept all are more = tt
some_trans (one ∷ few) [] all are more = absurd are
some_trans (one ∷ few) (head ∷ kept) [] are more = absurd more
some_trans (one ∷ few) (head ∷ kept) (first ∷ all) (inl both) (inl other) = inl (both.0 ∙ other.0, some_trans few kept all both.1 other.1)
some_trans (one ∷ few) (head ∷ kept) (first ∷ all) (inr are) (inl other) = inr (some_trans (one ∷ few) kept all are other.1)
some_trans (one ∷ few) (head ∷ kept) (first ∷ all) are (inr more) = inr (some_trans (one ∷ few) (head ∷ kept) all are more)

-- ---- lengths

pub some_length : (kept all : List Candidate) → AreSomeOf kept all → length kept ≤ length all
some_length [] all are = omega arith
some_length (one ∷ kept) [] are = absurd are
some_length (one ∷ kept) (first ∷ all) (inl both) = let rest = some_length kept all both.1 in omega arith
some_length (one ∷ kept) (first ∷ all) (inr are) = let rest = some_length (one ∷ kept) all are in omega arith

-- as many as there are, are all
pub some_same : (kept all : List Candidate) → AreSomeOf kept all → length kept ≡ length all → kept ≡ all
some_same [] [] are same = refl
some_same [] (first ∷ all) are same = absurd (omega arith)
some_same (one ∷ kept) [] are same = absurd are
some_same (one ∷ kept) (first ∷ all) (inl both) same =
    let head = both.0 in
    let rest = some_same kept all both.1 (omega arith) in
    cc
some_same (one ∷ kept) (first ∷ all) (inr are) same = let rest = some_length (one ∷ kept) all are in absurd (omega arith)

-- ---- what holds of all

contains_later : (first one : Candidate) (all : List Candidate) → Contains all one → Contains (first ∷ all) one
contains_later first one all is = let low = is.1 in (suc is.0, omega arith, is.2)

pub some_hold : (P : Candidate → Type 0) (kept all : List Candidate) → AreSomeOf kept all → All P all → All P kept
some_hold P kept all are each =
    All-weaker (Contains all) P (λ one is. All-contains P all one each is) kept (some_contained kept all are)

pub some_pass : (test : Candidate → Bool) (kept all : List Candidate) → AreSomeOf kept all → list_all test all ≡ true → list_all test kept ≡ true
some_pass test [] all are e = refl
some_pass test (one ∷ kept) [] are e = absurd are
some_pass test (one ∷ kept) (first ∷ all) (inl both) e =
    let parts = and_parts (test first) (list_all test all) e in
    and_from (test one) (list_all test kept) (ap test both.0 ∙ parts.0) (some_pass test kept all both.1 parts.1)
some_pass test (one ∷ kept) (first ∷ all) (inr are) e = some_pass test (one ∷ kept) all are (and_parts (test first) (list_all test all) e).1

-- ---- a filter

pub some_filter : (test : Candidate → Bool) (all : List Candidate) → AreSomeOf (filter test all) all
some_filter test [] = tt
some_filter test (first ∷ all) = by_test (test first) (some_filter test all)
  where
    by_test : (passes : Bool) → AreSomeOf (filter test all) all → AreSomeOf (cond passes (first ∷ filter test all) (filter test all)) (first ∷ all)
    by_test true rest = inl (refl, rest)
    by_test false rest = some_skip first (filter test all) all rest

filter_at : (test : Candidate → Bool) (all : List Candidate) (one : Candidate) (k : ℕ) → k < length all → get_or all k one ≡ one → test one ≡ true → Contains (filter test all) one
filter_at test [] one k low at e = absurd (omega arith)
filter_at test (first ∷ all) one zero low at e = here (test first) (ap test at ∙ e)
  where
    here : (passes : Bool) → passes ≡ true → Contains (cond passes (first ∷ filter test all) (filter test all)) one
    here true f = (0, omega arith, at)
    here false f = absurd cc
filter_at test (first ∷ all) one (suc k) low at e = later (test first) (filter_at test all one k (omega arith) at e)
  where
    later : (passes : Bool) → Contains (filter test all) one → Contains (cond passes (first ∷ filter test all) (filter test all)) one
    later true is = contains_later first one (filter test all) is
    later false is = is

pub filter_contains : (test : Candidate → Bool) (all : List Candidate) (one : Candidate) → Contains all one → test one ≡ true → Contains (filter test all) one
filter_contains test all one is e = filter_at test all one is.0 is.1 is.2 e

-- ---- without one

remove_at : (all : List Candidate) (i : ℕ) (one : Candidate) (k : ℕ) → k < length all → get_or all k one ≡ one → (get_or all i one ≡ one → ⊥)
    → Contains (remove all i) one
remove_at [] i one k low at other = absurd (omega arith)
remove_at (first ∷ all) zero one zero low at other = absurd (other at)
remove_at (first ∷ all) zero one (suc k) low at other = (k, omega arith, at)
remove_at (first ∷ all) (suc i) one zero low at other = (0, omega arith, at)
remove_at (first ∷ all) (suc i) one (suc k) low at other = contains_later first one (remove all i) (remove_at all i one k (omega arith) at other)

pub remove_contains : (all : List Candidate) (i : ℕ) (one : Candidate) → Contains all one → (get_or all i one ≡ one → ⊥) → Contains (remove all i) one
remove_contains all i one is other = remove_at all i one is.0 is.1 is.2 other
