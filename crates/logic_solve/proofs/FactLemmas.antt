-- What closes the facts of literals closes the literals.
use Rattle.std.proofs.Common.{◌≡◌, ◌⊎◌, inl, inr, ℕ, zero, suc, ◌+◌, ◌-◌, ◌≤◌, Bool, true, false, ◌||◌, List, [], ◌∷◌, ◌++◌, length, map, Option, Some, None, sym, subst, arith, ap, refl, ◌∙◌}
use Rattle.std.specs.Prelude.{◌==◌, slice_get}
use Rattle.std.specs.List.{list_any, AllByRecursion as Each}
use Rattle.logic_linear.specs.Linear.{Linear}
use Rattle.logic_cert.specs.declared.cert.Combine.{Combine}
use Rattle.logic_cert.specs.declared.cert.Cert.{Cert, out-Cert}
use Rattle.logic_cert.specs.declared.cert.Cert.TheOpen.{Cert-F, Split, Clash, Chain, Cases}
use Rattle.logic_cert.specs.declared.cert.Literal.{Literal}
use Rattle.logic_cert.specs.declared.cert.Literal.TheVariants.{Row, Flag}
use Rattle.logic_cert.specs.Refutes.{are_opposite, chain_closes, chain_goes, closes, is_nil, literal_truth, made, made_of, row_of}
use Rattle.logic_linear.specs.LightCubes.{IsLightCube}
use Rattle.logic_linear.specs.Fractions.{HasFractionalSolution}
use Rattle.logic_elim.specs.LeanChains.{IsLean, is_needed, uses}
use Rattle.logic_solve.specs.Cubes.{HasGeneral, is_general, is_opposite}
use Rattle.logic_solve.specs.LeanRefutations.{IsLeanEnd}
use Rattle.logic_solve.specs.inner.Different.{Among}
use Rattle.logic_solve.specs.inner.Facts.{moved, moved_sum, AreFacts, IsMoved}
use Rattle.logic_solve.specs.inner.Flags.{IsUnopposed}
use Rattle.logic_solve.specs.inner.Literals.{Closes, IsDifferenceLiteral, IsOpen}

-- ---- literals that are facts

each_among : {X : Type 0} (P : X → Type 0) (xs : List X) (x : X) → Among x xs → Each P xs → P x
each_among P [] x among all = absurd among
each_among P (y ∷ xs) x (inl is) all = subst P is all.0
each_among P (y ∷ xs) x (inr more) all = each_among P xs x more all.1

each_covered : {X : Type 0} (P : X → Type 0) (xs some : List X) → Each (λ (x : X). Among x xs) some → Each P xs → Each P some
each_covered P xs [] covers all = tt
each_covered P xs (x ∷ some) covers all = (each_among P xs x covers.0 all, each_covered P xs some covers.1 all)

each_at : {X : Type 0} (P : X → Type 0) (xs : List X) (n : ℕ) (x : X) → slice_get xs n ≡ Some x → Each P xs → P x
each_at P [] n x is all = absurd cc
each_at P (y ∷ xs) zero x is all = let same : y ≡ x = cc in subst P same all.0
each_at P (y ∷ xs) (suc n) x is all = each_at P xs n x is all.1

each_standing : {X : Type 0} (P : X → Type 0) (xs some : List X) → ((k : ℕ) (x : X) → slice_get some k ≡ Some x → (n : ℕ) × (slice_get xs n ≡ Some x)) → Each P xs → Each P some
each_standing P xs [] stand all = tt
each_standing P xs (x ∷ some) stand all = let here = stand zero x refl in (each_at P xs here.0 x here.1 all, each_standing P xs some (λ k y is. stand (suc k) y is) all)

either_false : (a b : Bool) → (a || b) ≡ false → (a ≡ false) × (b ≡ false)
either_false true b h = absurd cc
either_false false b h = (refl, h)

none_each : (p : Literal → Bool) (xs : List Literal) → list_any p xs ≡ false → Each (λ (x : Literal). p x ≡ false) xs
none_each p [] h = tt
none_each p (x ∷ xs) h = let parts = either_false (p x) _ h in (parts.0, none_each p xs parts.1)

each_none : (p : Literal → Bool) (xs : List Literal) → Each (λ (x : Literal). p x ≡ false) xs → list_any p xs ≡ false
each_none p [] h = refl
each_none p (x ∷ xs) h = rw h.0 (each_none p xs h.1)

none_covered : (p : Literal → Bool) (facts some : List Literal) → Each (λ (x : Literal). Among x facts) some → list_any p facts ≡ false → list_any p some ≡ false
none_covered p facts some covers none = each_none p some (each_covered (λ (x : Literal). p x ≡ false) facts some covers (none_each p facts none))

unopposed_all : (literals facts : List Literal) → Each (λ (x : Literal). Among x facts) literals → (some : List Literal) → Each (IsUnopposed facts) some → Each (IsUnopposed literals) some
unopposed_all literals facts covers [] all = tt
unopposed_all literals facts covers (x ∷ some) all = (none_covered (is_opposite x) facts literals covers all.0, unopposed_all literals facts covers some all.1)

general_fact : (literals facts : List Literal) → Each (λ (x : Literal). Among x facts) literals → HasGeneral literals → HasGeneral facts
general_fact literals facts covers general = by_test (list_any is_general facts) refl
  where
    by_test : (test : Bool) → list_any is_general facts ≡ test → HasGeneral facts
    by_test true e = e
    by_test false e = let none = none_covered is_general facts literals covers e in absurd (let no : true ≡ false = sym general ∙ none in cc)

-- Where the facts are open, all literals are.
open_facts : (literals facts : List Literal) (numbers : List ℕ) → AreFacts literals literals facts numbers → IsOpen facts → IsOpen literals
open_facts literals facts numbers are is = record {
  no_clash = unopposed_all literals facts are.covers literals (each_covered (IsUnopposed facts) facts literals are.covers is.no_clash);
  differences = λ small.
      let held = is.differences (each_standing IsDifferenceLiteral literals facts (λ k x at. let here = are.stand k x at in (here.0, here.1.1)) small) in
      (held.0, each_covered (λ (literal : Literal). literal_truth held.0 literal ≡ true) facts literals are.covers held.1);
  light = λ general light. subst HasFractionalSolution (sym are.rows) (is.light (general_fact literals facts are.covers general) (subst IsLightCube are.rows light));
}

pub open_literals : (literals facts slice : List Literal) (numbers : List ℕ) → slice ≡ facts → AreFacts literals literals facts numbers → IsOpen slice → IsOpen literals
open_literals literals facts slice numbers same are is = open_facts literals facts numbers are (subst IsOpen same is)

-- ---- numbers among the literals

at_none : {X : Type 0} (xs : List X) (k : ℕ) → length xs ≤ k → slice_get xs k ≡ None
at_none [] k h = refl
at_none (x ∷ xs) zero h = absurd (omega arith)
at_none (x ∷ xs) (suc k) h = at_none xs k (omega arith)

moved_later : (numbers : List ℕ) (count number : ℕ) → length numbers ≤ number → moved numbers count number ≡ (number - length numbers) + count
moved_later numbers count number h = rw (at_none numbers number h) refl

-- The rows of the numbers stand at the moved ones.
pub record StandMoved (numbers : List ℕ) (count : ℕ) (rows all : List (Option Linear)) : Type 0 where
  pub later : length numbers ≤ length rows
  pub next : moved numbers count (length rows) ≡ length all
  pub at : (number : ℕ) (row : Linear) → slice_get rows number ≡ Some (Some row) → slice_get all (moved numbers count number) ≡ Some (Some row)

made_moved : (numbers : List ℕ) (count : ℕ) (rows all : List (Option Linear)) (sum : Combine) (row : Linear) → StandMoved numbers count rows all → made sum rows ≡ Some row → made (moved_sum numbers count sum) all ≡ Some row
made_moved numbers count rows all sum row stand is = by_rows (slice_get rows sum.left) (slice_get rows sum.right) refl refl is
  where
    by_rows : (left right : Option (Option Linear)) → slice_get rows sum.left ≡ left → slice_get rows sum.right ≡ right → made_of sum left right ≡ Some row → made (moved_sum numbers count sum) all ≡ Some row
    by_rows None right e f h = absurd cc
    by_rows (Some None) right e f h = absurd cc
    by_rows (Some (Some left)) None e f h = absurd cc
    by_rows (Some (Some left)) (Some None) e f h = absurd cc
    by_rows (Some (Some left)) (Some (Some right)) e f h = rw (stand.at sum.left left e, stand.at sum.right right f) h

get_before : (rows : List (Option Linear)) (new : Option Linear) (k : ℕ) (row : Option Linear) → slice_get rows k ≡ Some row → slice_get (rows ++ new ∷ []) k ≡ Some row
get_before [] new k row h = absurd cc
get_before (first ∷ rows) new zero row h = h
get_before (first ∷ rows) new (suc k) row h = get_before rows new k row h

get_last : (rows : List (Option Linear)) (new : Option Linear) (k : ℕ) → k ≡ length rows → slice_get (rows ++ new ∷ []) k ≡ Some new
get_last [] new zero h = refl
get_last [] new (suc k) h = absurd (omega arith)
get_last (first ∷ rows) new zero h = absurd (omega arith)
get_last (first ∷ rows) new (suc k) h = get_last rows new k (omega arith)

get_either : (rows : List (Option Linear)) (new row : Option Linear) (k : ℕ) → slice_get (rows ++ new ∷ []) k ≡ Some row → (slice_get rows k ≡ Some row) ⊎ ((k ≡ length rows) × (new ≡ row))
get_either [] new row zero h = inr (refl, cc)
get_either [] new row (suc k) h = absurd cc
get_either (first ∷ rows) new row zero h = inl h
get_either (first ∷ rows) new row (suc k) h = by_cases (get_either rows new row k h)
  where
    by_cases : (slice_get rows k ≡ Some row) ⊎ ((k ≡ length rows) × (new ≡ row)) → (slice_get rows k ≡ Some row) ⊎ ((suc k ≡ suc (length rows)) × (new ≡ row))
    by_cases (inl h) = inl h
    by_cases (inr (e, f)) = inr (ap suc e, f)

push_length : (rows : List (Option Linear)) (new : Option Linear) → length (rows ++ new ∷ []) ≡ length rows + 1
push_length [] new = omega arith
push_length (first ∷ rows) new = let rest = push_length rows new in omega arith

stand_more : (numbers : List ℕ) (count : ℕ) (rows all : List (Option Linear)) (new : Option Linear) → StandMoved numbers count rows all → StandMoved numbers count (rows ++ new ∷ []) (all ++ new ∷ [])
stand_more numbers count rows all new stand =
    let longer = push_length rows new in
    let longer_all = push_length all new in
    let later = stand.later in
    let here = sym (moved_later numbers count (length rows) stand.later) ∙ stand.next in
    record {
      later = omega arith;
      next = moved_later numbers count (length (rows ++ new ∷ [])) (omega arith) ∙ one_more (length rows) (length numbers) count (length all) (length (rows ++ new ∷ [])) (length (all ++ new ∷ [])) longer longer_all later here;
      at = λ number row is. by_cases number row (get_either rows new (Some row) number is);
    }
  where
    one_more : (r n c a r1 a1 : ℕ) → r1 ≡ r + 1 → a1 ≡ a + 1 → n ≤ r → (r - n) + c ≡ a → (r1 - n) + c ≡ a1
    one_more r n c a r1 a1 e f g h = omega arith

    by_cases : (number : ℕ) (row : Linear) → (slice_get rows number ≡ Some (Some row)) ⊎ ((number ≡ length rows) × (new ≡ Some row)) → slice_get (all ++ new ∷ []) (moved numbers count number) ≡ Some (Some row)
    by_cases number row (inl before) = get_before all new (moved numbers count number) (Some row) (stand.at number row before)
    by_cases number row (inr (last, same)) = get_last all new (moved numbers count number) (ap (moved numbers count) last ∙ stand.next) ∙ ap Some same

map_nil : (f : Combine → Combine) (sums : List Combine) → is_nil (map f sums) ≡ is_nil sums
map_nil f [] = refl
map_nil f (sum ∷ sums) = refl

closes_moved : (numbers : List ℕ) (count : ℕ) (sums : List Combine) (rows all : List (Option Linear)) → StandMoved numbers count rows all → chain_closes sums rows ≡ true → chain_closes (map (moved_sum numbers count) sums) all ≡ true
closes_moved numbers count [] rows all stand h = absurd cc
closes_moved numbers count (sum ∷ sums) rows all stand h =
    by_made (made sum rows) refl (λ row. closes_moved numbers count sums (rows ++ Some row ∷ []) (all ++ Some row ∷ []) (stand_more numbers count rows all (Some row) stand)) h
  where
    by_last : (row : Linear) (last last_moved : Bool) → last_moved ≡ last → (chain_closes sums (rows ++ Some row ∷ []) ≡ true → chain_closes (map (moved_sum numbers count) sums) (all ++ Some row ∷ []) ≡ true)
        → chain_goes (chain_closes sums) rows last (Some row) ≡ true → chain_goes (chain_closes (map (moved_sum numbers count) sums)) all last_moved (Some row) ≡ true
    by_last row true true same more h = h
    by_last row false false same more h = more h
    by_last row true false same more h = absurd cc
    by_last row false true same more h = absurd cc

    by_made : (row : Option Linear) → made sum rows ≡ row → ((row : Linear) → chain_closes sums (rows ++ Some row ∷ []) ≡ true → chain_closes (map (moved_sum numbers count) sums) (all ++ Some row ∷ []) ≡ true) → chain_goes (chain_closes sums) rows (is_nil sums) row ≡ true → chain_closes (moved_sum numbers count sum ∷ map (moved_sum numbers count) sums) all ≡ true
    by_made None e more h = absurd cc
    by_made (Some row) e more h =
        subst (λ (some : Option Linear). chain_goes (chain_closes (map (moved_sum numbers count) sums)) all (is_nil (map (moved_sum numbers count) sums)) some ≡ true) (sym (made_moved numbers count rows all sum row stand e))
        (by_last row (is_nil sums) (is_nil (map (moved_sum numbers count) sums)) (map_nil (moved_sum numbers count) sums) (more row) h)

-- ---- chains in which each made row is needed

uses_moved : (numbers : List ℕ) (count number : ℕ) (sum : Combine) → uses number sum ≡ true → uses (moved numbers count number) (moved_sum numbers count sum) ≡ true
uses_moved numbers count number sum h = by_test (sum.left == number) (sum.right == number) refl refl h
  where
    same : (a b : ℕ) → (a == b) ≡ true → a ≡ b
    same a b h = grind arith

    itself : (a b : ℕ) → a ≡ b → (a == b) ≡ true
    itself a b h = grind arith

    first : (a b : Bool) → a ≡ true → (a || b) ≡ true
    first true b h = refl
    first false b h = absurd cc

    second : (a b : Bool) → b ≡ true → (a || b) ≡ true
    second true b h = refl
    second false b h = h

    by_test : (left right : Bool) → (sum.left == number) ≡ left → (sum.right == number) ≡ right → (left || right) ≡ true → uses (moved numbers count number) (moved_sum numbers count sum) ≡ true
    by_test true right e f h = first _ _ (itself _ _ (ap (moved numbers count) (same sum.left number e)))
    by_test false true e f h = second _ _ (itself _ _ (ap (moved numbers count) (same sum.right number f)))
    by_test false false e f h = absurd cc

any_moved : (numbers : List ℕ) (count number : ℕ) (sums : List Combine) → list_any (uses number) sums ≡ true → list_any (uses (moved numbers count number)) (map (moved_sum numbers count) sums) ≡ true
any_moved numbers count number [] h = absurd cc
any_moved numbers count number (sum ∷ sums) h = by_test (uses number sum) refl (any_moved numbers count number sums) h
  where
    second : (a b : Bool) → b ≡ true → (a || b) ≡ true
    second true b h = refl
    second false b h = h

    by_test : (here : Bool) → uses number sum ≡ here → (list_any (uses number) sums ≡ true → list_any (uses (moved numbers count number)) (map (moved_sum numbers count) sums) ≡ true) → (here || list_any (uses number) sums) ≡ true → list_any (uses (moved numbers count number)) (moved_sum numbers count sum ∷ map (moved_sum numbers count) sums) ≡ true
    by_test true e later h = rw (uses_moved numbers count number sum e) refl
    by_test false e later h = second _ _ (later h)

needed_moved : (numbers : List ℕ) (count number : ℕ) (sums : List Combine) → is_needed number sums ≡ true → is_needed (moved numbers count number) (map (moved_sum numbers count) sums) ≡ true
needed_moved numbers count number [] h = refl
needed_moved numbers count number (sum ∷ sums) h = any_moved numbers count number (sum ∷ sums) h

lean_moved : (numbers : List ℕ) (count first after : ℕ) (sums : List Combine) → length numbers ≤ first → moved numbers count first ≡ after → IsLean first sums → IsLean after (map (moved_sum numbers count) sums)
lean_moved numbers count first after [] h is lean = tt
lean_moved numbers count first after (sum ∷ sums) h is lean = (
  subst (λ (number : ℕ). is_needed number (map (moved_sum numbers count) sums) ≡ true) is (needed_moved numbers count first sums lean.0),
  lean_moved numbers count (first + 1) (after + 1) sums (omega arith) (moved_later numbers count (first + 1) (omega arith) ∙ one_more first (length numbers) count after h (sym (moved_later numbers count first h) ∙ is)) lean.1,
)
  where
    one_more : (f n c a : ℕ) → n ≤ f → (f - n) + c ≡ a → ((f + 1) - n) + c ≡ a + 1
    one_more f n c a g h = omega arith

-- ---- certificates

row_count : (literals : List Literal) → length (map row_of literals) ≡ length literals
row_count [] = refl
row_count (literal ∷ literals) = let rest = row_count literals in omega arith

row_at : (literals : List Literal) (k : ℕ) (row : Linear) → slice_get (map row_of literals) k ≡ Some (Some row) → slice_get literals k ≡ Some (Row row)
row_at [] k row is = absurd cc
row_at (Row form ∷ literals) zero row is = let same : form ≡ row = cc in ap (λ (some : Linear). Some (Row some)) same
row_at (Flag place truth ∷ literals) zero row is = absurd cc
row_at (literal ∷ literals) (suc k) row is = row_at literals k row is

at_row : (literals : List Literal) (k : ℕ) (row : Linear) → slice_get literals k ≡ Some (Row row) → slice_get (map row_of literals) k ≡ Some (Some row)
at_row [] k row is = absurd cc
at_row (first ∷ literals) zero row is = let same : first ≡ Row row = cc in ap (λ (literal : Literal). Some (row_of literal)) same
at_row (first ∷ literals) (suc k) row is = at_row literals k row is

-- A fact stands among the literals at its moved number.
stands_moved : (literals facts : List Literal) (numbers : List ℕ) (count k : ℕ) (fact : Literal) → AreFacts literals literals facts numbers → slice_get facts k ≡ Some fact → slice_get literals (moved numbers count k) ≡ Some fact
stands_moved literals facts numbers count k fact are is =
    let here = are.stand k fact is in
    subst (λ (at : ℕ). slice_get literals at ≡ Some fact) (sym (rw here.1.0 refl)) here.1.1

begins : (literals facts : List Literal) (numbers : List ℕ) (count : ℕ) → count ≡ length literals → AreFacts literals literals facts numbers → StandMoved numbers count (map row_of facts) (map row_of literals)
begins literals facts numbers count is are =
    let rows = row_count facts in
    let all = row_count literals in
    let same = are.count in
    record {
      later = omega arith;
      next = moved_later numbers count (length (map row_of facts)) (omega arith) ∙ omega arith;
      at = λ number row at. at_row literals (moved numbers count number) row (stands_moved literals facts numbers count number (Row row) are (row_at facts number row at));
    }

clash_moved : (literals facts : List Literal) (numbers : List ℕ) (count left right : ℕ) → AreFacts literals literals facts numbers → are_opposite (slice_get facts left) (slice_get facts right) ≡ true
    → are_opposite (slice_get literals (moved numbers count left)) (slice_get literals (moved numbers count right)) ≡ true
clash_moved literals facts numbers count left right are h = by_facts (slice_get facts left) (slice_get facts right) refl refl h
  where
    by_facts : (one other : Option Literal) → slice_get facts left ≡ one → slice_get facts right ≡ other → are_opposite one other ≡ true → are_opposite (slice_get literals (moved numbers count left)) (slice_get literals (moved numbers count right)) ≡ true
    by_facts None other e f h = absurd cc
    by_facts (Some (Row form)) other e f h = absurd cc
    by_facts (Some (Flag place truth)) None e f h = absurd cc
    by_facts (Some (Flag place truth)) (Some (Row form)) e f h = absurd cc
    by_facts (Some (Flag place truth)) (Some (Flag other other_truth)) e f h =
        rw (stands_moved literals facts numbers count left (Flag place truth) are e, stands_moved literals facts numbers count right (Flag other other_truth) are f) h

closes_by : (literals facts : List Literal) (numbers : List ℕ) (count : ℕ) (layer after : Cert-F Cert) → count ≡ length literals → AreFacts literals literals facts numbers → IsMoved numbers count layer after
    → closes facts layer ≡ true → IsLeanEnd (length facts) layer → (closes literals after ≡ true) × IsLeanEnd (length literals) after
closes_by literals facts numbers count (Split certs) after is are same closed lean = absurd same
closes_by literals facts numbers count (Clash left right) (Split certs) is are same closed lean = absurd same
closes_by literals facts numbers count (Clash left right) (Chain sums) is are same closed lean = absurd same
closes_by literals facts numbers count (Clash left right) (Cases form below above) is are same closed lean = absurd same
closes_by literals facts numbers count (Clash left right) (Clash left_after right_after) is are same closed lean =
    (rw (same.0, same.1) (clash_moved literals facts numbers count left right are closed), tt)
closes_by literals facts numbers count (Chain sums) (Split certs) is are same closed lean = absurd same
closes_by literals facts numbers count (Chain sums) (Clash left right) is are same closed lean = absurd same
closes_by literals facts numbers count (Chain sums) (Cases form below above) is are same closed lean = absurd same
closes_by literals facts numbers count (Cases form below above) after is are same closed lean = absurd same
closes_by literals facts numbers count (Chain sums) (Chain sums_after) is are same closed lean =
    let few = are.count in
    let first = moved_later numbers count (length facts) (omega arith) ∙ let here : (length facts - length numbers) + count ≡ length literals = omega arith in here in (
      subst (λ (some : List Combine). chain_closes some (map row_of literals) ≡ true) (sym same) (closes_moved numbers count sums (map row_of facts) (map row_of literals) (begins literals facts numbers count is are) closed),
      subst (IsLean (length literals)) (sym same) (lean_moved numbers count (length facts) (length literals) sums (omega arith) first lean),
    )

-- A certificate that closes the facts closes the literals where its numbers are moved.
pub closes_literals : (literals facts slice : List Literal) (numbers some : List ℕ) (count : ℕ) (cert made : Cert) → slice ≡ facts → some ≡ numbers → count ≡ length literals → AreFacts literals literals facts numbers
    → IsMoved some count (out-Cert cert) (out-Cert made) → Closes slice cert → Closes literals made
closes_literals literals facts slice numbers some count cert made same same_numbers is are moves closed =
    let here = subst (λ (all : List Literal). Closes all cert) same closed in
    closes_by literals facts numbers count (out-Cert cert) (out-Cert made) is are (subst (λ (all : List ℕ). IsMoved all count (out-Cert cert) (out-Cert made)) same_numbers moves) here.0 here.1
