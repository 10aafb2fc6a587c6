-- What is left to do, and what a search finds.
use Rattle.std.proofs.Common.{Bor, ◌≡◌, ◌⊎◌, inl, inr, ℕ, zero, suc, ◌+◌, ◌<◌, ◌≤◌, Bool, true, false, ◌||◌, List, [], ◌∷◌, ◌++◌, length, map, reverse, get_or, sum, Option, Some, None, sym, subst, arith, ap, refl, ◌∙◌}
use Rattle.std.specs.Prelude.{slice_get}
use Rattle.std.specs.List.{fold, list_all, list_any, flat_map, AllByRecursion as Each}
use Rattle.std.proofs.lemmas.List.{reverse-append, reverse-reverse}
use Rattle.logic_linear.specs.declared.formula.Formula.{Formula}
use Rattle.logic_linear.specs.declared.formula.Formula.TheVariants as formulas
use Rattle.logic_linear.specs.declared.formula.Formula.TheOpen as layers
use Rattle.logic_linear.specs.declared.formula.Formula.TheFolds.{fold-roll-Formula}
use Rattle.logic_linear.specs.Linear.{Linear}
use Rattle.logic_linear.specs.Measures.{nodes_of, nodes_layer}
use Rattle.logic_linear.specs.Truth.{Valuation, layer_truth, truth_of}
use Rattle.logic_cert.specs.declared.cert.Cert.{Cert}
use Rattle.logic_cert.specs.declared.cert.Cert.TheVariants as certificates
use Rattle.logic_cert.specs.declared.cert.Literal.{Literal}
use Rattle.logic_cert.specs.declared.cert.Literal.TheVariants.{Row, Flag}
use Rattle.logic_cert.specs.Refutes.{row, flag, every, split, closed, ended, literal_truth}
use Rattle.logic_linear.specs.Places.{rows_of, rows_layer}
use Rattle.logic_solve.specs.Cubes.{IsCubeFrom}
use Rattle.logic_solve.specs.Cubes as cubes
use Rattle.logic_solve.specs.LeanRefutations.{RefutesLeanly}
use Rattle.logic_solve.specs.inner.Different.{IsGrown}
use Rattle.logic_solve.specs.inner.Literals.{Closes, IsClosing}
use Rattle.logic_solve.specs.inner.Searches.{weight, in_order, HasOpenCube, IsPutOff, IsAnyOf, IsFound, IsFoundAt}
use Rattle.logic_elim.proofs.RowLemmas.{each_push}
use Rattle.logic_solve.proofs.GrownLemmas.{grown_more, not_grown}

-- ---- reversed lists

reverse_push : {X : Type 0} (xs : List X) (x : X) → reverse (xs ++ x ∷ []) ≡ x ∷ reverse xs
reverse_push xs x = reverse-append xs (x ∷ [])

reverse_first : {X : Type 0} (x : X) (xs : List X) → reverse (x ∷ xs) ≡ reverse xs ++ x ∷ []
reverse_first x xs = reverse-append (x ∷ []) xs

each_reverse : {X : Type 0} (P : X → Type 0) (xs : List X) → Each P xs → Each P (reverse xs)
each_reverse P [] all = tt
each_reverse P (x ∷ xs) all = subst (Each P) (sym (reverse_first x xs)) (each_push P (reverse xs) x (each_reverse P xs all.1) all.0)

each_unreverse : {X : Type 0} (P : X → Type 0) (xs : List X) → Each P (reverse xs) → Each P xs
each_unreverse P xs all = subst (Each P) (reverse-reverse xs) (each_reverse P (reverse xs) all)

-- ---- weights

pub weight-append : (xs ys : List Formula) → weight (xs ++ ys) ≡ weight xs + weight ys
weight-append [] ys = omega arith
weight-append (x ∷ xs) ys = let rest = weight-append xs ys in omega arith

weight_reverse : (xs : List Formula) → weight (reverse xs) ≡ weight xs
weight_reverse [] = refl
weight_reverse (x ∷ xs) =
    let rest = weight_reverse xs in
    let parts = ap weight (reverse_first x xs) ∙ weight-append (reverse xs) (x ∷ []) in
    omega arith

pub push_length : {X : Type 0} (xs : List X) (x : X) → length (xs ++ x ∷ []) ≡ length xs + 1
push_length [] x = omega arith
push_length (first ∷ xs) x = let rest = push_length xs x in omega arith

fold_from : (a : ℕ) (xs : List ℕ) → fold ◌+◌ a xs ≡ a + sum xs
fold_from a [] = omega arith
fold_from a (x ∷ xs) = let one = fold_from (a + x) xs in let other = fold_from (0 + x) xs in omega arith

sum-cons : (x : ℕ) (xs : List ℕ) → sum (x ∷ xs) ≡ x + sum xs
sum-cons x xs = let e = fold_from (0 + x) xs in omega arith

weight_sum : (parts : List Formula) → weight parts ≡ sum (map nodes_of parts)
weight_sum [] = refl
weight_sum (part ∷ parts) = ap (λ n. nodes_of part + n) (weight_sum parts) ∙ sym (sum-cons (nodes_of part) (map nodes_of parts))

pub row_nodes : (form : Linear) → nodes_of (formulas.Row form) ≡ 1
row_nodes form = ap nodes_of (sym (formulas.rolls-Row form)) ∙ fold-roll-Formula ℕ nodes_layer (layers.Row form)

pub flag_nodes : (place : ℕ) (is : Bool) → nodes_of (formulas.Flag place is) ≡ 1
flag_nodes place is = ap nodes_of (sym (formulas.rolls-Flag place is)) ∙ fold-roll-Formula ℕ nodes_layer (layers.Flag place is)

pub all_nodes : (parts : List Formula) → nodes_of (formulas.All parts) ≡ 1 + weight parts
all_nodes parts = ap nodes_of (sym (formulas.rolls-All parts)) ∙ fold-roll-Formula ℕ nodes_layer (layers.All parts) ∙ ap (λ n. 1 + n) (sym (weight_sum parts))

pub any_nodes : (parts : List Formula) → nodes_of (formulas.Any parts) ≡ 1 + weight parts
any_nodes parts = ap nodes_of (sym (formulas.rolls-Any parts)) ∙ fold-roll-Formula ℕ nodes_layer (layers.Any parts) ∙ ap (λ n. 1 + n) (sym (weight_sum parts))

-- ---- truths

pub row_truth : (v : Valuation) (form : Linear) → truth_of v (formulas.Row form) ≡ literal_truth v (Row form)
row_truth v form = ap (truth_of v) (sym (formulas.rolls-Row form)) ∙ fold-roll-Formula Bool (layer_truth v) (layers.Row form)

pub flag_truth : (v : Valuation) (place : ℕ) (is : Bool) → truth_of v (formulas.Flag place is) ≡ literal_truth v (Flag place is)
flag_truth v place is = ap (truth_of v) (sym (formulas.rolls-Flag place is)) ∙ fold-roll-Formula Bool (layer_truth v) (layers.Flag place is)

pub all_truth : (v : Valuation) (parts : List Formula) → truth_of v (formulas.All parts) ≡ list_all (λ part. part) (map (truth_of v) parts)
all_truth v parts = ap (truth_of v) (sym (formulas.rolls-All parts)) ∙ fold-roll-Formula Bool (layer_truth v) (layers.All parts)

pub any_truth : (v : Valuation) (parts : List Formula) → truth_of v (formulas.Any parts) ≡ list_any (λ part. part) (map (truth_of v) parts)
any_truth v parts = ap (truth_of v) (sym (formulas.rolls-Any parts)) ∙ fold-roll-Formula Bool (layer_truth v) (layers.Any parts)

pub each_true : (v : Valuation) (parts : List Formula) → Each (λ (formula : Formula). truth_of v formula ≡ true) parts → list_all (λ part. part) (map (truth_of v) parts) ≡ true
each_true v [] all = refl
each_true v (part ∷ parts) all = rw all.0 (each_true v parts all.1)

pub some_true : (v : Valuation) (parts : List Formula) (i : ℕ) (part : Formula) → slice_get parts i ≡ Some part → truth_of v part ≡ true → list_any (λ part. part) (map (truth_of v) parts) ≡ true
some_true v [] i part is h = absurd cc
some_true v (first ∷ parts) zero part is h = let same : first ≡ part = cc in rw (same, h) refl
some_true v (first ∷ parts) (suc i) part is h = last (truth_of v first) _ (some_true v parts i part is h)
  where
    last : (a b : Bool) → b ≡ true → (a || b) ≡ true
    last true b h = refl
    last false b h = h

-- ---- rows

pub row_rows : (form : Linear) → rows_of (formulas.Row form) ≡ form ∷ []
row_rows form = ap rows_of (sym (formulas.rolls-Row form)) ∙ fold-roll-Formula (List Linear) rows_layer (layers.Row form)

pub all_rows : (parts : List Formula) → rows_of (formulas.All parts) ≡ flat_map (λ rows. rows) (map rows_of parts)
all_rows parts = ap rows_of (sym (formulas.rolls-All parts)) ∙ fold-roll-Formula (List Linear) rows_layer (layers.All parts)

pub any_rows : (parts : List Formula) → rows_of (formulas.Any parts) ≡ flat_map (λ rows. rows) (map rows_of parts)
any_rows parts = ap rows_of (sym (formulas.rolls-Any parts)) ∙ fold-roll-Formula (List Linear) rows_layer (layers.Any parts)

pub each_of : {X : Type 0} (P : X → Type 0) (xs : List X) (i : ℕ) (x : X) → slice_get xs i ≡ Some x → Each P xs → P x
each_of P [] i x is all = absurd cc
each_of P (first ∷ xs) zero x is all = let same : first ≡ x = cc in subst P same all.0
each_of P (first ∷ xs) (suc i) x is all = each_of P xs i x is all.1

-- ---- what is left to do

-- The last list comes first.
pub order_push : (todo : List (Bor (List Formula))) (parts : Bor (List Formula)) → in_order (todo ++ parts ∷ []) ≡ parts.now ++ in_order todo
order_push todo parts = ap (λ (some : List (Bor (List Formula))). flat_map (λ part. part.now) some) (reverse_push todo parts)

pub empty_popped : (todo left : List (Bor (List Formula))) (parts : Bor (List Formula)) → todo ≡ left ++ parts ∷ [] → parts.now ≡ [] → in_order todo ≡ in_order left
empty_popped todo left parts is none = ap in_order is ∙ order_push left parts ∙ ap (λ (some : List Formula). some ++ in_order left) none

pub first_popped : (todo left after : List (Bor (List Formula))) (parts rest : Bor (List Formula)) (first : Formula) → todo ≡ left ++ parts ∷ [] → parts.now ≡ first ∷ rest.now → after ≡ left ++ rest ∷ [] → in_order todo ≡ first ∷ in_order after
first_popped todo left after parts rest first is cut put =
    ap in_order is ∙ order_push left parts ∙ ap (λ (some : List Formula). some ++ in_order left) cut ∙ ap (λ (some : List Formula). first ∷ some) (sym (ap in_order put ∙ order_push left rest))

-- ---- a formula that is taken

put_row : (todo : List (Bor (List Formula))) (literals : List Literal) (form : Linear) → IsPutOff (formulas.Row form) todo todo literals (literals ++ Row form ∷ [])
put_row todo literals form =
    let nodes = row_nodes form in
    let count = push_length literals (Row form) in
    record {
      refutes = λ cert h. (row form (in_order todo) literals cert h.0, h.1);
      cubes = λ cube h. cubes.row form (in_order todo) literals cube h;
      size = omega arith;
      less = omega arith;
      grown = (Row form ∷ [], refl);
    }

put_flag : (todo : List (Bor (List Formula))) (literals : List Literal) (place : ℕ) (is : Bool) → IsPutOff (formulas.Flag place is) todo todo literals (literals ++ Flag place is ∷ [])
put_flag todo literals place is =
    let nodes = flag_nodes place is in
    let count = push_length literals (Flag place is) in
    record {
      refutes = λ cert h. (flag place is (in_order todo) literals cert h.0, h.1);
      cubes = λ cube h. cubes.flag place is (in_order todo) literals cube h;
      size = omega arith;
      less = omega arith;
      grown = (Flag place is ∷ [], refl);
    }

put_all : (todo after : List (Bor (List Formula))) (literals : List Literal) (parts : List Formula) → in_order after ≡ parts ++ in_order todo → IsPutOff (formulas.All parts) todo after literals literals
put_all todo after literals parts is =
    let nodes = all_nodes parts in
    let whole = ap weight is ∙ weight-append parts (in_order todo) in
    record {
      refutes = λ cert h.
          let all = subst (λ (left : List Formula). RefutesLeanly left literals cert) is h in
          (every parts (in_order todo) literals cert all.0, all.1);
      cubes = λ cube h. cubes.every parts (in_order todo) literals cube (subst (λ (left : List Formula). IsCubeFrom left literals cube) is h);
      size = omega arith;
      less = omega arith;
      grown = not_grown literals;
    }

pub row_taken : (formula : Formula) (form copy : Linear) (todo : List (Bor (List Formula))) (literals literals_after : List Literal) → formula ≡ formulas.Row form → copy ≡ form → literals_after ≡ literals ++ Row copy ∷ [] → IsPutOff formula todo todo literals literals_after
row_taken formula form copy todo literals literals_after is same after =
    subst (λ (some : Formula). IsPutOff some todo todo literals literals_after) (sym is)
    (subst (IsPutOff (formulas.Row form) todo todo literals) (sym (after ∙ ap (λ (some : Linear). literals ++ Row some ∷ []) same)) (put_row todo literals form))

pub flag_taken : (formula : Formula) (place : ℕ) (truth : Bool) (todo : List (Bor (List Formula))) (literals literals_after : List Literal) → formula ≡ formulas.Flag place truth → literals_after ≡ literals ++ Flag place truth ∷ [] → IsPutOff formula todo todo literals literals_after
flag_taken formula place truth todo literals literals_after is after = subst (λ (some : Formula). IsPutOff some todo todo literals literals_after) (sym is) (subst (IsPutOff (formulas.Flag place truth) todo todo literals) (sym after) (put_flag todo literals place truth))

pub all_taken : (formula : Formula) (parts : List Formula) (slice : Bor (List Formula)) (todo todo_after : List (Bor (List Formula))) (literals : List Literal) → formula ≡ formulas.All parts → slice.now ≡ parts → todo_after ≡ todo ++ slice ∷ [] → IsPutOff formula todo todo_after literals literals
all_taken formula parts slice todo todo_after literals is same after =
    subst (λ (some : Formula). IsPutOff some todo todo_after literals literals) (sym is)
    (put_all todo todo_after literals parts (ap in_order after ∙ order_push todo slice ∙ ap (λ (some : List Formula). some ++ in_order todo) same))

pub any_taken : (formula : Formula) (parts slice : List Formula) (todo : List (Bor (List Formula))) (literals : List Literal) → formula ≡ formulas.Any parts → slice ≡ parts → IsAnyOf formula todo todo literals literals slice
any_taken formula parts slice todo literals is same = record { is = is ∙ ap formulas.Any (sym same); todo_same = refl; literals_same = refl }

-- ---- the loop over what is left to do

-- what is left now answers for what there was to begin with
pub record GoesBack (start left : List Formula) (gathered literals : List Literal) : Type 0 where
  pub refutes : (cert : Cert) → RefutesLeanly left literals cert → RefutesLeanly start gathered cert
  pub cubes : (cube : List Literal) → IsCubeFrom left literals cube → IsCubeFrom start gathered cube
  pub size : weight left + length literals ≤ weight start + length gathered
  pub less : weight left ≤ weight start
  pub grown : IsGrown gathered literals

goes_back : (start : List Formula) (gathered : List Literal) → GoesBack start start gathered gathered
goes_back start gathered = record { refutes = λ cert h. h; cubes = λ cube h. h; size = omega arith; less = omega arith; grown = not_grown gathered }

pub at_first : (formula : Formula) (todo rest : List (Bor (List Formula))) (gathered : List Literal) → todo ≡ rest → GoesBack (formula ∷ in_order rest) (formula ∷ in_order todo) gathered gathered
at_first formula todo rest gathered same =
    subst (λ (some : List (Bor (List Formula))). GoesBack (formula ∷ in_order rest) (formula ∷ in_order some) gathered gathered) (sym same) (goes_back (formula ∷ in_order rest) gathered)

put_off : (start : List Formula) (formula : Formula) (todo after : List (Bor (List Formula))) (gathered literals literals_after : List Literal) → IsPutOff formula todo after literals literals_after
    → GoesBack start (formula ∷ in_order todo) gathered literals → GoesBack start (in_order after) gathered literals_after
put_off start formula todo after gathered literals literals_after put back =
    let less = put.less in
    let size = put.size in
    let back_less = back.less in
    let back_size = back.size in
    record {
      refutes = λ cert h. back.refutes cert (put.refutes cert h);
      cubes = λ cube h. back.cubes cube (put.cubes cube h);
      size = omega arith;
      less = omega arith;
      grown = grown_more gathered literals literals_after back.grown put.grown;
    }

pub goes_on : (start left : List Formula) (formula : Formula) (todo after : List (Bor (List Formula))) (gathered literals literals_after : List Literal) → IsPutOff formula todo after literals literals_after → in_order after ≡ left
    → GoesBack start (formula ∷ in_order todo) gathered literals → GoesBack start left gathered literals_after
goes_on start left formula todo after gathered literals literals_after put is back =
    subst (λ (some : List Formula). GoesBack start some gathered literals_after) is (put_off start formula todo after gathered literals literals_after put back)

pub goes_less : (left : List Formula) (formula : Formula) (todo after : List (Bor (List Formula))) (literals literals_after : List Literal) → IsPutOff formula todo after literals literals_after → in_order after ≡ left → weight left < weight (formula ∷ in_order todo)
goes_less left formula todo after literals literals_after put is = let less = put.less in let same = ap weight is in omega arith

found_back : (start left : List Formula) (gathered literals cube : List Literal) (answer : Option Cert) → GoesBack start left gathered literals → IsFound left literals cube answer → IsFound start gathered cube answer
found_back start left gathered literals cube (Some cert) back found = back.refutes cert found
found_back start left gathered literals cube None back found = record { is_cube = back.cubes cube found.is_cube; open_cube = found.open_cube }

any_is : (formula : Formula) (todo after slice : List (Bor (List Formula))) (parts : List Formula) → formula ≡ formulas.Any parts → slice ≡ after → after ≡ todo → formulas.Any parts ∷ in_order slice ≡ formula ∷ in_order todo
any_is formula todo after slice parts is same kept = ap (λ (some : List (Bor (List Formula))). formulas.Any parts ∷ in_order some) (same ∙ kept) ∙ ap (λ (some : Formula). some ∷ in_order todo) (sym is)

pub any_found : (start : List Formula) (formula : Formula) (parts : List Formula) (todo after slice : List (Bor (List Formula))) (gathered literals literals_after cube : List Literal) (answer : Option Cert) → slice ≡ after
    → IsAnyOf formula todo after literals literals_after parts → GoesBack start (formula ∷ in_order todo) gathered literals → IsFoundAt parts (in_order slice) literals_after cube answer → IsFound start gathered cube answer
any_found start formula parts todo after slice gathered literals literals_after cube answer same any back found =
    found_back start (formula ∷ in_order todo) gathered literals cube answer back
    (subst (λ (some : List Formula). IsFound some literals cube answer) (any_is formula todo after slice parts any.is same any.todo_same)
    (subst (λ (some : List Literal). IsFound (formulas.Any parts ∷ in_order slice) some cube answer) any.literals_same found))

pub any_grown : (start left : List Formula) (gathered literals literals_after last : List Literal) → literals_after ≡ literals → GoesBack start left gathered literals → IsGrown literals_after last → IsGrown gathered last
any_grown start left gathered literals literals_after last same back grown = grown_more gathered literals last back.grown (subst (λ (some : List Literal). IsGrown some last) same grown)

pub any_room : (start : List Formula) (formula : Formula) (parts : List Formula) (todo after slice : List (Bor (List Formula))) (gathered literals literals_after : List Literal) → slice ≡ after
    → IsAnyOf formula todo after literals literals_after parts → GoesBack start (formula ∷ in_order todo) gathered literals → weight start + length gathered ≤ 65536
    → (1 + weight parts + weight (in_order slice) + length literals_after ≤ 65536) × (1 + weight parts + weight (in_order slice) ≤ weight start)
any_room start formula parts todo after slice gathered literals literals_after same any back room =
    let nodes = any_nodes parts in
    let one = ap weight (any_is formula todo after slice parts any.is same any.todo_same) in
    let two = ap length any.literals_same in
    let size = back.size in
    let less = back.less in
    (omega arith, omega arith)

pub nothing_left : (start : List Formula) (formula : Formula) (todo after : List (Bor (List Formula))) (gathered literals literals_after slice : List Literal) (answer : Option Cert) → IsPutOff formula todo after literals literals_after → in_order after ≡ []
    → GoesBack start (formula ∷ in_order todo) gathered literals → slice ≡ literals_after → IsClosing slice answer → IsFound start gathered literals_after answer
nothing_left start formula todo after gathered literals literals_after slice answer put none back same closing =
    found_back start [] gathered literals_after literals_after answer (goes_on start [] formula todo after gathered literals literals_after put none back)
    (by_answer answer (subst (λ (some : List Literal). IsClosing some answer) same closing))
  where
    by_answer : (answer : Option Cert) → IsClosing literals_after answer → IsFound [] literals_after literals_after answer
    by_answer (Some cert) closes = (ended literals_after cert closes.0, closes.1)
    by_answer None is_open = record { is_cube = cubes.ended literals_after; open_cube = is_open }

pub last_grown : (start : List Formula) (formula : Formula) (todo after : List (Bor (List Formula))) (gathered literals literals_after : List Literal) → IsPutOff formula todo after literals literals_after
    → GoesBack start (formula ∷ in_order todo) gathered literals → IsGrown gathered literals_after
last_grown start formula todo after gathered literals literals_after put back = grown_more gathered literals literals_after back.grown put.grown

pub last_room : (start : List Formula) (formula : Formula) (todo after : List (Bor (List Formula))) (gathered literals literals_after slice : List Literal) → slice ≡ literals_after → IsPutOff formula todo after literals literals_after
    → GoesBack start (formula ∷ in_order todo) gathered literals → weight start + length gathered ≤ 65536 → length slice ≤ 65536
last_room start formula todo after gathered literals literals_after slice same put back room = let size = put.size in let back_size = back.size in let count = ap length same in omega arith

-- ---- the parts of an any

pub any_closed : (parts others : List Formula) (literals after slice : List Literal) (cert : Cert) → slice ≡ literals → Closes slice cert → IsFoundAt parts others literals after (Some cert)
any_closed parts others literals after slice cert same h = let here = subst (λ (some : List Literal). Closes some cert) same h in (closed parts others literals cert here.0, here.1)

pub record PartsRefuted (parts others : List Formula) (literals : List Literal) (certs : List Cert) (i : ℕ) : Type 0 where
  pub count : length certs ≡ i
  pub each : (j : ℕ) (part : Formula) (cert : Cert) → slice_get parts j ≡ Some part → slice_get certs j ≡ Some cert → RefutesLeanly (part ∷ others) literals cert

pub no_parts : (parts others : List Formula) (literals : List Literal) → PartsRefuted parts others literals [] 0
no_parts parts others literals = record { count = refl; each = λ j part cert is cert_is. absurd cc }

gets : {X : Type 0} (xs : List X) (i : ℕ) (x : X) → i < length xs → x ≡ get_or xs i x → slice_get xs i ≡ Some x
gets [] i x h is = absurd (omega arith)
gets (first ∷ xs) zero x h is = ap Some (sym is)
gets (first ∷ xs) (suc i) x h is = gets xs i x (omega arith) is

get_pushed : {X : Type 0} (xs : List X) (new x : X) (j : ℕ) → slice_get (xs ++ new ∷ []) j ≡ Some x → (slice_get xs j ≡ Some x) ⊎ ((j ≡ length xs) × (new ≡ x))
get_pushed [] new x zero h = inr (refl, cc)
get_pushed [] new x (suc j) h = absurd cc
get_pushed (first ∷ xs) new x zero h = inl h
get_pushed (first ∷ xs) new x (suc j) h = by_cases (get_pushed xs new x j h)
  where
    by_cases : (slice_get xs j ≡ Some x) ⊎ ((j ≡ length xs) × (new ≡ x)) → (slice_get xs j ≡ Some x) ⊎ ((suc j ≡ suc (length xs)) × (new ≡ x))
    by_cases (inl h) = inl h
    by_cases (inr (e, f)) = inr (ap suc e, f)

pub one_more_part : (parts others : List Formula) (literals now cube : List Literal) (part : Formula) (certs after : List Cert) (cert : Cert) (i : ℕ) → i < length parts → part ≡ get_or parts i part
    → now ≡ literals → IsFound (part ∷ others) now cube (Some cert) → after ≡ certs ++ cert ∷ [] → PartsRefuted parts others literals certs i → PartsRefuted parts others literals after (i + 1)
one_more_part parts others literals now cube part certs after cert i l is same found pushed sofar =
    let here = subst (λ (some : List Literal). RefutesLeanly (part ∷ others) some cert) same found in
    let count = sofar.count in
    let longer = ap length pushed ∙ push_length certs cert in
    record {
      count = omega arith;
      each = λ j other other_cert other_is cert_is. by_cases here j other other_cert other_is (get_pushed certs cert other_cert j (subst (λ (some : List Cert). slice_get some j ≡ Some other_cert) pushed cert_is));
    }
  where
    by_cases : RefutesLeanly (part ∷ others) literals cert → (j : ℕ) (other : Formula) (other_cert : Cert) → slice_get parts j ≡ Some other → (slice_get certs j ≡ Some other_cert) ⊎ ((j ≡ length certs) × (cert ≡ other_cert)) → RefutesLeanly (other ∷ others) literals other_cert
    by_cases here j other other_cert other_is (inl before) = sofar.each j other other_cert other_is before
    by_cases here j other other_cert other_is (inr (last, same)) =
        let at : slice_get parts i ≡ Some other = subst (λ (n : ℕ). slice_get parts n ≡ Some other) (last ∙ sofar.count) other_is in
        let same_part : part ≡ other = same_of part other (sym (gets parts i part l is) ∙ at) in
        subst (λ (some : Formula). RefutesLeanly (some ∷ others) literals other_cert) same_part (subst (RefutesLeanly (part ∷ others) literals) same here)
      where
        same_of : (a b : Formula) → Some a ≡ Some b → a ≡ b
        same_of a b h = cc

pub all_parts : (parts others : List Formula) (literals cube : List Literal) (gathered certs : List Cert) (i : ℕ) → length parts ≤ i → i ≤ length parts → certs ≡ gathered → PartsRefuted parts others literals gathered i → IsFoundAt parts others literals cube (Some (certificates.Split certs))
all_parts parts others literals cube gathered certs i h g same gathered_sofar =
    let sofar = subst (λ (some : List Cert). PartsRefuted parts others literals some i) (sym same) gathered_sofar in
    let count = sofar.count in
    (split parts certs others literals (omega arith) (λ i part cert at is. (sofar.each i part cert at is).0), λ i part cert at is. (sofar.each i part cert at is).1)

pub part_holds : (parts others : List Formula) (literals now cube : List Literal) (part : Formula) (i : ℕ) → i < length parts → part ≡ get_or parts i part → now ≡ literals → IsFound (part ∷ others) now cube None → IsFoundAt parts others literals cube None
part_holds parts others literals now cube part i l is same found =
    let here = subst (λ (some : List Literal). HasOpenCube (part ∷ others) some cube) same found in
    record {
      is_cube = cubes.chosen parts others i part literals cube (gets parts i part l is) here.is_cube;
      open_cube = here.open_cube;
    }

pub part_room : (parts others : List Formula) (literals now : List Literal) (part : Formula) (i : ℕ) → i < length parts → part ≡ get_or parts i part → now ≡ literals → 1 + weight parts + weight others + length literals ≤ 65536
    → (weight (part ∷ others) + length now ≤ 65536) × (weight (part ∷ others) ≤ weight parts + weight others)
part_room parts others literals now part i l is same room =
    let count = ap length same in
    let part_is = part_weight parts i part l is in
    (omega arith, omega arith)
  where
    part_weight : (parts : List Formula) (i : ℕ) (part : Formula) → i < length parts → part ≡ get_or parts i part → nodes_of part ≤ weight parts
    part_weight [] i part h is = absurd (omega arith)
    part_weight (first ∷ parts) zero part h is = let same = ap nodes_of is in omega arith
    part_weight (first ∷ parts) (suc i) part h is = let rest = part_weight parts i part (omega arith) is in omega arith
