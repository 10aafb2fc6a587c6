-- How the facts of literals are gathered.
use Rattle.std.proofs.Common.{◌≡◌, ◌⊎◌, inl, inr, ℕ, zero, suc, ◌+◌, ◌<◌, Bool, true, false, ◌&&◌, ◌||◌, not, List, [], ◌∷◌, ◌++◌, length, take, drop, get_or, Some, sym, subst, arith, ap, refl, ◌∙◌}
use Rattle.std.specs.Prelude.{◌==◌, if◌then◌else◌, slice_get}
use Rattle.std.specs.List.{list_any}
use Rattle.logic_linear.specs.Linear.{Linear}
use Rattle.logic_cert.specs.declared.cert.Literal.{Literal}
use Rattle.logic_cert.specs.declared.cert.Literal.TheVariants.{Row, Flag}
use Rattle.logic_elim.proofs.RowLemmas.{each_push, each_weaker}
use Rattle.logic_solve.specs.Cubes.{rows_of_literals}
use Rattle.logic_solve.specs.inner.Different.{Among}
use Rattle.logic_solve.specs.inner.Facts.{is_flag, AreFacts, IsNoted}
use Rattle.logic_solve.proofs.KeptLemmas.{row_next, flag_next}
use Rattle.logic_solve.proofs.LiteralLemmas.{gets, take_next}

both_true : (a b : Bool) → (a && b) ≡ true → (a ≡ true) × (b ≡ true)
both_true true b h = (refl, h)
both_true false b h = absurd cc

same_place : (a b : ℕ) → (a == b) ≡ true → a ≡ b
same_place a b h = grind arith

same_truth : (a b : Bool) → (if a then b else not b) ≡ true → a ≡ b
same_truth true true h = refl
same_truth true false h = absurd cc
same_truth false true h = absurd cc
same_truth false false h = refl

flag_is : (place : ℕ) (truth : Bool) (literal : Literal) → is_flag place truth literal ≡ true → literal ≡ Flag place truth
flag_is place truth (Row form) h = absurd cc
flag_is place truth (Flag other other_truth) h =
    let parts = both_true (other == place) _ h in
    ap (λ (at : ℕ). Flag at other_truth) (same_place other place parts.0) ∙ ap (Flag place) (same_truth other_truth truth parts.1)

flag_among : (place : ℕ) (truth : Bool) (facts : List Literal) → list_any (is_flag place truth) facts ≡ true → Among (Flag place truth) facts
flag_among place truth [] h = absurd cc
flag_among place truth (fact ∷ facts) h = by_test (is_flag place truth fact) refl h (flag_among place truth facts)
  where
    by_test : (here : Bool) → is_flag place truth fact ≡ here → (here || list_any (is_flag place truth) facts) ≡ true → (list_any (is_flag place truth) facts ≡ true → Among (Flag place truth) facts) → Among (Flag place truth) (fact ∷ facts)
    by_test true e h more = inl (flag_is place truth fact e)
    by_test false e h more = inr (more h)

among_dropped : (n : ℕ) (facts : List Literal) (x : Literal) → Among x (drop n facts) → Among x facts
among_dropped zero facts x h = h
among_dropped (suc n) [] x h = absurd h
among_dropped (suc n) (fact ∷ facts) x h = inr (among_dropped n facts x h)

pub flag_known : (number : ℕ) (literal : Literal) (place : ℕ) (truth : Bool) (facts slice : List Literal) (numbers : List ℕ) (n : ℕ) → literal ≡ Flag place truth → slice ≡ facts → list_any (is_flag place truth) (drop n slice) ≡ true → IsNoted number literal facts numbers facts numbers
flag_known number literal place truth facts slice numbers n is same known = inr (record {
  place = place;
  truth = truth;
  is = is;
  among = subst (λ (some : Literal). Among some facts) (sym is) (among_dropped n facts (Flag place truth) (flag_among place truth (drop n facts) (subst (λ (some : List Literal). list_any (is_flag place truth) (drop n some) ≡ true) same known)));
  facts_same = refl;
  numbers_same = refl;
})

among_more : (facts : List Literal) (new x : Literal) → Among x facts → Among x (facts ++ new ∷ [])
among_more [] new x h = absurd h
among_more (fact ∷ facts) new x (inl h) = inl h
among_more (fact ∷ facts) new x (inr h) = inr (among_more facts new x h)

among_last : (facts : List Literal) (new : Literal) → Among new (facts ++ new ∷ [])
among_last [] new = inl refl
among_last (fact ∷ facts) new = inr (among_last facts new)

push_length : {X : Type 0} (xs : List X) (x : X) → length (xs ++ x ∷ []) ≡ length xs + 1
push_length [] x = omega arith
push_length (y ∷ xs) x = let rest = push_length xs x in omega arith

get_before : {X : Type 0} (xs : List X) (new : X) (k : ℕ) (x : X) → slice_get xs k ≡ Some x → slice_get (xs ++ new ∷ []) k ≡ Some x
get_before [] new k x h = absurd cc
get_before (first ∷ xs) new zero x h = h
get_before (first ∷ xs) new (suc k) x h = get_before xs new k x h

get_last : {X : Type 0} (xs : List X) (new : X) (k : ℕ) → k ≡ length xs → slice_get (xs ++ new ∷ []) k ≡ Some new
get_last [] new zero h = refl
get_last [] new (suc k) h = absurd (omega arith)
get_last (first ∷ xs) new zero h = absurd (omega arith)
get_last (first ∷ xs) new (suc k) h = get_last xs new k (omega arith)

get_either : (xs : List Literal) (new x : Literal) (k : ℕ) → slice_get (xs ++ new ∷ []) k ≡ Some x → (slice_get xs k ≡ Some x) ⊎ ((k ≡ length xs) × (new ≡ x))
get_either [] new x zero h = inr (refl, cc)
get_either [] new x (suc k) h = absurd cc
get_either (first ∷ xs) new x zero h = inl h
get_either (first ∷ xs) new x (suc k) h = by_cases (get_either xs new x k h)
  where
    by_cases : (slice_get xs k ≡ Some x) ⊎ ((k ≡ length xs) × (new ≡ x)) → (slice_get xs k ≡ Some x) ⊎ ((suc k ≡ suc (length xs)) × (new ≡ x))
    by_cases (inl h) = inl h
    by_cases (inr (e, f)) = inr (ap suc e, f)

rows_put : (some facts : List Literal) (literal : Literal) → rows_of_literals some ≡ rows_of_literals facts → rows_of_literals (some ++ literal ∷ []) ≡ rows_of_literals (facts ++ literal ∷ [])
rows_put some facts (Row form) same = row_next some form ∙ ap (λ (rows : List Linear). rows ++ form ∷ []) same ∙ sym (row_next facts form)
rows_put some facts (Flag place truth) same = flag_next some place truth ∙ same ∙ sym (flag_next facts place truth)

fact_put : (literals some facts : List Literal) (numbers : List ℕ) (number : ℕ) (literal : Literal) → slice_get literals number ≡ Some literal → AreFacts literals some facts numbers → AreFacts literals (some ++ literal ∷ []) (facts ++ literal ∷ []) (numbers ++ number ∷ [])
fact_put literals some facts numbers number literal is are =
    let longer = push_length some literal in
    let longer_facts = push_length facts literal in
    let longer_numbers = push_length numbers number in
    let fewer = are.fewer in
    let count = are.count in
    record {
      fewer = omega arith;
      count = omega arith;
      stand = λ k fact at. by_cases k fact (get_either facts literal fact k at);
      covers = each_push (λ (x : Literal). Among x (facts ++ literal ∷ [])) some literal (each_weaker (λ (x : Literal). Among x facts) (λ (x : Literal). Among x (facts ++ literal ∷ [])) (among_more facts literal) some are.covers) (among_last facts literal);
      rows = rows_put some facts literal are.rows;
    }
  where
    by_cases : (k : ℕ) (fact : Literal) → (slice_get facts k ≡ Some fact) ⊎ ((k ≡ length facts) × (literal ≡ fact)) → (n : ℕ) × ((slice_get (numbers ++ number ∷ []) k ≡ Some n) × (slice_get literals n ≡ Some fact))
    by_cases k fact (inl before) = let here = are.stand k fact before in (here.0, (get_before numbers number k here.0 here.1.0, here.1.1))
    by_cases k fact (inr (last, same)) = (number, (get_last numbers number k (last ∙ sym are.count), is ∙ ap Some same))

fact_known : (literals some facts : List Literal) (numbers : List ℕ) (place : ℕ) (truth : Bool) → Among (Flag place truth) facts → AreFacts literals some facts numbers → AreFacts literals (some ++ Flag place truth ∷ []) facts numbers
fact_known literals some facts numbers place truth among are =
    let longer = push_length some (Flag place truth) in
    let fewer = are.fewer in
    record {
      fewer = omega arith;
      count = are.count;
      stand = are.stand;
      covers = each_push (λ (x : Literal). Among x facts) some (Flag place truth) are.covers among;
      rows = flag_next some place truth ∙ are.rows;
    }

pub one_more_fact : (literals : List Literal) (i : ℕ) (literal : Literal) (facts facts_after : List Literal) (numbers numbers_after : List ℕ) → i < length literals → literal ≡ get_or literals i literal
    → AreFacts literals (take i literals) facts numbers → IsNoted i literal facts numbers facts_after numbers_after → AreFacts literals (take (i + 1) literals) facts_after numbers_after
one_more_fact literals i literal facts facts_after numbers numbers_after l is are noted =
    subst (λ (some : List Literal). AreFacts literals some facts_after numbers_after) (sym (take_next literals i literal l is)) (by_cases noted)
  where
    by_cases : IsNoted i literal facts numbers facts_after numbers_after → AreFacts literals (take i literals ++ literal ∷ []) facts_after numbers_after
    by_cases (inl put) =
        subst (λ (some : List Literal). AreFacts literals (take i literals ++ literal ∷ []) some numbers_after) (sym put.facts_are)
        (subst (AreFacts literals (take i literals ++ literal ∷ []) (facts ++ literal ∷ [])) (sym put.numbers_are) (fact_put literals (take i literals) facts numbers i literal (gets literals i literal l is) are))
    by_cases (inr known) =
        subst (λ (some : List Literal). AreFacts literals (take i literals ++ literal ∷ []) some numbers_after) (sym known.facts_same)
        (subst (AreFacts literals (take i literals ++ literal ∷ []) facts) (sym known.numbers_same)
        (subst (λ (some : Literal). AreFacts literals (take i literals ++ some ∷ []) facts numbers) (sym known.is)
        (fact_known literals (take i literals) facts numbers known.place known.truth (subst (λ (some : Literal). Among some facts) known.is known.among) are)))
