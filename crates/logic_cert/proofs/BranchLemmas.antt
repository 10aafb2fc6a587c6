-- Branches of a refutation that are still to follow.
use Rattle.std.proofs.Common.{◌≡◌, Bor, sum, ℕ, suc, ◌+◌, ◌-◌, ◌<◌, ◌≤◌, Bool, true, false, ◌&&◌, length, get_or, take, drop, List, [], ◌∷◌, ◌++◌, map, Option, None, Some, Result, Ok, Err, IfOk, sym, subst, arith, ap, refl, ◌∙◌, length-take}
use Rattle.std.specs.declared.alloc.AllocError.{AllocError}
use Rattle.std.specs.Global.{Vec}
use Rattle.std.specs.List.{fold}
use Rattle.std.proofs.lemmas.List.{at_drop_more, take_more}
use Rattle.std.proofs.lemmas.List.Folds.{list_all-append}
use Rattle.logic_linear.specs.declared.formula.Formula.{Formula, out-Formula}
use Rattle.logic_linear.specs.declared.formula.Formula.TheOpen.{Formula-F}
use Rattle.logic_linear.specs.declared.formula.Formula.TheViews.{roll-Formula, out-roll-Formula, roll-out-Formula}
use Rattle.logic_linear.specs.declared.formula.Formula.TheVariants as formulas
use Rattle.logic_linear.specs.declared.formula.Formula.TheOpen as layers
use Rattle.logic_linear.specs.declared.formula.Formula.TheFolds.{fold-roll-Formula}
use Rattle.logic_linear.specs.Linear.{Linear}
use Rattle.logic_linear.specs.Negation.{can_negate_linear, one_less}
use Rattle.logic_linear.specs.Measures.{nodes_of, nodes_layer}
use Rattle.logic_cert.specs.declared.acceptance.Branch.{Branch}
use Rattle.logic_cert.specs.declared.cert.Literal.{Literal}
use Rattle.logic_cert.specs.declared.cert.Literal.TheVariants.{Row, Flag}
use Rattle.logic_cert.specs.declared.cert.Cert.{Cert, out-Cert}
use Rattle.logic_cert.specs.declared.cert.Combine.{Combine}
use Rattle.logic_cert.specs.declared.cert.Cert.TheVariants as certificates
use Rattle.logic_cert.specs.Refutes.{closes}
use Rattle.logic_cert.specs.inner.Branches.{stack_on, shown, stack_of, weight, weight_of, total, size_of, sizes_of, branch_refutes, all_refute, branches_size, any_refutes, any_parts, parts_layer, is_some, is_paused, Replaces, Shrinks}
use Rattle.logic_cert.specs.inner.Deciding.{Ends, Todo, done, by_cases, before, in_order, each_way, at_any}
use Rattle.logic_cert.proofs.CertForms.{by_both, by_chain, by_clash, by_split, chain_out, clash_out}
use Rattle.logic_cert.proofs.DecidingLemmas.{row_before, flag_before, all_before, any_before, Closing, any_closing, done_closing}

-- ---- formulas to do

stack_push : (todo : List Formula) (formula : Formula) (rest : Todo) → stack_on (todo ++ formula ∷ []) rest ≡ before formula (stack_on todo rest)
stack_push [] formula rest = refl
stack_push (first ∷ todo) formula rest = stack_push todo formula (before first rest)

shown_push : (todo : List (Bor Formula)) (formula : Bor Formula) → shown (todo ++ formula ∷ []) ≡ shown todo ++ formula.now ∷ []
shown_push [] formula = refl
shown_push (first ∷ todo) formula = ap (λ n. first.now ∷ n) (shown_push todo formula)

weight_push : (todo : List Formula) (formula : Formula) → weight (todo ++ formula ∷ []) ≡ nodes_of formula + weight todo
weight_push [] formula = omega arith
weight_push (first ∷ todo) formula = let rest = weight_push todo formula in omega arith

pub stack_of_push : (todo : List (Bor Formula)) (formula : Bor Formula) → stack_of (todo ++ formula ∷ []) ≡ before formula.now (stack_of todo)
stack_of_push todo formula = ap (λ (n : List Formula). stack_on n done) (shown_push todo formula) ∙ stack_push (shown todo) formula.now done

pub weight_of_push : (todo : List (Bor Formula)) (formula : Bor Formula) → weight_of (todo ++ formula ∷ []) ≡ nodes_of formula.now + weight_of todo
weight_of_push todo formula = ap weight (shown_push todo formula) ∙ weight_push (shown todo) formula.now

-- ---- parts that are put first

dropped_at : {X : Type 0} (xs : List X) (n : ℕ) (x : X) → 0 < n → n ≤ length xs → x ≡ get_or xs (n - 1) x → drop (n - 1) xs ≡ x ∷ drop n xs
dropped_at {X} xs n x low high is =
    let back : n - 1 + 1 ≡ n = omega arith in
    at_drop_more (λ (rest : List X). rest) xs (n - 1) x (omega arith) ∙ rw (back, ← is) refl

pub put_one : (parts : List Formula) (n : ℕ) (todo after : List (Bor Formula)) (part : Bor Formula) (rest : Todo) → 0 < n → n ≤ length parts → part.now ≡ get_or parts (n - 1) part.now → after ≡ todo ++ part ∷ []
    → stack_of todo ≡ in_order (map before (drop n parts)) rest → stack_of after ≡ in_order (map before (drop (n - 1) parts)) rest
put_one parts n todo after part rest low high is push so_far =
    ap stack_of push ∙ stack_of_push todo part ∙ ap (before part.now) so_far ∙ ap (λ (left : List Formula). in_order (map before left) rest) (sym (dropped_at parts n part.now low high is))

pub put_weighs : (parts : List Formula) (n : ℕ) (todo after : List (Bor Formula)) (part : Bor Formula) (rest : ℕ) → 0 < n → n ≤ length parts → part.now ≡ get_or parts (n - 1) part.now → after ≡ todo ++ part ∷ []
    → weight_of todo ≡ weight (drop n parts) + rest → weight_of after ≡ weight (drop (n - 1) parts) + rest
put_weighs parts n todo after part rest low high is push so_far =
    let one = ap weight_of push ∙ weight_of_push todo part in
    let whole = ap weight (dropped_at parts n part.now low high is) in
    omega arith

-- ---- a formula that is taken

fold_from : (a : ℕ) (xs : List ℕ) → fold ◌+◌ a xs ≡ a + sum xs
fold_from a [] = omega arith
fold_from a (x ∷ xs) = let one = fold_from (a + x) xs in let other = fold_from (0 + x) xs in omega arith

sum-cons : (x : ℕ) (xs : List ℕ) → sum (x ∷ xs) ≡ x + sum xs
sum-cons x xs = let e = fold_from (0 + x) xs in omega arith

weight_sum : (parts : List Formula) → weight parts ≡ sum (map nodes_of parts)
weight_sum [] = refl
weight_sum (part ∷ parts) = ap (λ n. nodes_of part + n) (weight_sum parts) ∙ sym (sum-cons (nodes_of part) (map nodes_of parts))

all_nodes : (parts : List Formula) → nodes_of (formulas.All parts) ≡ 1 + weight parts
all_nodes parts = ap nodes_of (sym (formulas.rolls-All parts)) ∙ fold-roll-Formula ℕ nodes_layer (layers.All parts) ∙ ap (λ n. 1 + n) (sym (weight_sum parts))

row_nodes : (form : Linear) → nodes_of (formulas.Row form) ≡ 1
row_nodes form = ap nodes_of (sym (formulas.rolls-Row form)) ∙ fold-roll-Formula ℕ nodes_layer (layers.Row form)

flag_nodes : (place : ℕ) (is : Bool) → nodes_of (formulas.Flag place is) ≡ 1
flag_nodes place is = ap nodes_of (sym (formulas.rolls-Flag place is)) ∙ fold-roll-Formula ℕ nodes_layer (layers.Flag place is)

popped : (todo rest : List (Bor Formula)) (formula : Bor Formula) (shape : Formula) → todo ≡ rest ++ formula ∷ [] → formula.now ≡ shape → stack_of todo ≡ before shape (stack_of rest)
popped todo rest formula shape is shaped = ap stack_of is ∙ stack_of_push rest formula ∙ ap (λ n. before n (stack_of rest)) shaped

popped_weighs : (todo rest : List (Bor Formula)) (formula : Bor Formula) (shape : Formula) → todo ≡ rest ++ formula ∷ [] → formula.now ≡ shape → weight_of todo ≡ nodes_of shape + weight_of rest
popped_weighs todo rest formula shape is shaped = ap weight_of is ∙ weight_of_push rest formula ∙ ap (λ n. nodes_of n + weight_of rest) shaped

pub row_goes : (whole : Bool) (todo rest : List (Bor Formula)) (formula : Bor Formula) (form copy : Linear) (literals after : List Literal) (cert : Cert) → whole ≡ stack_of todo literals cert → todo ≡ rest ++ formula ∷ [] → formula.now ≡ formulas.Row form → copy ≡ form
    → after ≡ literals ++ Row copy ∷ [] → whole ≡ stack_of rest after cert
row_goes whole todo rest formula form copy literals after cert e is shaped same push =
    e ∙ ap (λ (way : Todo). way literals cert) (popped todo rest formula (formulas.Row form) is shaped) ∙ row_before form (stack_of rest) literals cert ∙ ap (λ (n : List Literal). stack_of rest n cert) (sym (push ∙ ap (λ n. literals ++ Row n ∷ []) same))

pub row_shrinks : (todo rest : List (Bor Formula)) (formula : Bor Formula) (form : Linear) → todo ≡ rest ++ formula ∷ [] → formula.now ≡ formulas.Row form → weight_of rest < weight_of todo
row_shrinks todo rest formula form is shaped = let e = popped_weighs todo rest formula (formulas.Row form) is shaped in let f = row_nodes form in omega arith

pub flag_goes : (whole : Bool) (todo rest : List (Bor Formula)) (formula : Bor Formula) (place : ℕ) (is_true : Bool) (literals after : List Literal) (cert : Cert) → whole ≡ stack_of todo literals cert → todo ≡ rest ++ formula ∷ [] → formula.now ≡ formulas.Flag place is_true
    → after ≡ literals ++ Flag place is_true ∷ [] → whole ≡ stack_of rest after cert
flag_goes whole todo rest formula place is_true literals after cert e is shaped push =
    e ∙ ap (λ (way : Todo). way literals cert) (popped todo rest formula (formulas.Flag place is_true) is shaped) ∙ flag_before place is_true (stack_of rest) literals cert ∙ ap (λ (n : List Literal). stack_of rest n cert) (sym push)

pub flag_shrinks : (todo rest : List (Bor Formula)) (formula : Bor Formula) (place : ℕ) (is_true : Bool) → todo ≡ rest ++ formula ∷ [] → formula.now ≡ formulas.Flag place is_true → weight_of rest < weight_of todo
flag_shrinks todo rest formula place is_true is shaped = let e = popped_weighs todo rest formula (formulas.Flag place is_true) is shaped in let f = flag_nodes place is_true in omega arith

pub all_goes : (whole : Bool) (todo rest after : List (Bor Formula)) (formula : Bor Formula) (parts slice : List Formula) (literals : List Literal) (cert : Cert) → whole ≡ stack_of todo literals cert → todo ≡ rest ++ formula ∷ [] → formula.now ≡ formulas.All parts → slice ≡ parts
    → stack_of after ≡ in_order (map before slice) (stack_of rest) → whole ≡ stack_of after literals cert
all_goes whole todo rest after formula parts slice literals cert e is shaped same order =
    e ∙ ap (λ (way : Todo). way literals cert) (popped todo rest formula (formulas.All parts) is shaped ∙ all_before parts (stack_of rest) ∙ sym (order ∙ ap (λ (n : List Formula). in_order (map before n) (stack_of rest)) same))

pub all_shrinks : (todo rest after : List (Bor Formula)) (formula : Bor Formula) (parts slice : List Formula) → todo ≡ rest ++ formula ∷ [] → formula.now ≡ formulas.All parts → slice ≡ parts → weight_of after ≡ weight slice + weight_of rest → weight_of after < weight_of todo
all_shrinks todo rest after formula parts slice is shaped same weighs =
    let e = popped_weighs todo rest formula (formulas.All parts) is shaped in let f = all_nodes parts in let g = ap weight same in omega arith

-- ---- an any that is next

pub any_stays : (whole : Bool) (todo rest after : List (Bor Formula)) (formula : Bor Formula) (literals : List Literal) (cert : Cert) → whole ≡ stack_of todo literals cert → todo ≡ rest ++ formula ∷ [] → after ≡ rest ++ formula ∷ []
    → whole ≡ stack_of after literals cert
any_stays whole todo rest after formula literals cert e is push = e ∙ ap (λ (some : List (Bor Formula)). stack_of some literals cert) (is ∙ sym push)

paused_push : (rest : List (Bor Formula)) (any : Bor Formula) → is_paused (rest ++ any ∷ []) ≡ is_some (any_parts any.now)
paused_push [] any = refl
paused_push (first ∷ []) any = refl
paused_push (first ∷ second ∷ rest) any = paused_push (second ∷ rest) any

parts_are : (formula : Formula) (parts : List Formula) → formula ≡ formulas.Any parts → any_parts formula ≡ Some parts
parts_are formula parts is = ap any_parts (is ∙ sym (formulas.rolls-Any parts)) ∙ ap parts_layer (out-roll-Formula (layers.Any parts))

any_layer : (formula : Formula) (layer : Formula-F Formula) (parts : List Formula) → formula ≡ roll-Formula layer → parts_layer layer ≡ Some parts → formula ≡ formulas.Any parts
any_layer formula (layers.Row form) parts is h = absurd cc
any_layer formula (layers.Flag place truth) parts is h = absurd cc
any_layer formula (layers.All some) parts is h = absurd cc
any_layer formula (layers.Any some) parts is h = let same : some ≡ parts = cc in is ∙ formulas.rolls-Any some ∙ ap formulas.Any same

pub any_paused : (rest after : List (Bor Formula)) (formula : Bor Formula) (parts : List Formula) → after ≡ rest ++ formula ∷ [] → formula.now ≡ formulas.Any parts → is_paused after ≡ true
any_paused rest after formula parts push shaped = ap is_paused push ∙ paused_push rest formula ∙ ap is_some (parts_are formula.now parts shaped)

pub not_paused : (todo rest : List (Bor Formula)) (any : Bor Formula) → todo ≡ rest ++ any ∷ [] → any_parts any.now ≡ None → is_paused todo ≡ true → ⊥
not_paused todo rest any is none paused = let no : false ≡ true = sym (ap is_paused is ∙ paused_push rest any ∙ ap is_some none) ∙ paused in absurd cc

-- what ends the work where no literal is next
pub record Pauses (todo : List (Bor Formula)) : Type 0 where
  pub ends : Ends
  pub closing : Closing ends
  pub is : (literals : List Literal) (cert : Cert) → stack_of todo literals cert ≡ by_cases ends literals cert

pauses_any : (rest : List (Bor Formula)) (any : Bor Formula) (parts : List Formula) → any_parts any.now ≡ Some parts → Pauses (rest ++ any ∷ [])
pauses_any rest any parts is = record {
  ends = at_any (map before parts) (stack_of rest);
  closing = any_closing (map before parts) (stack_of rest);
  is = λ literals cert.
      ap (λ (way : Todo). way literals cert) (stack_of_push rest any ∙ ap (λ (n : Formula). before n (stack_of rest)) (any_layer any.now (out-Formula any.now) parts (sym (roll-out-Formula any.now)) is))
      ∙ any_before parts (stack_of rest) literals cert;
}

data Last (todo : List (Bor Formula)) : Type 0 where
  nothing : todo ≡ [] → Last todo
  the_last : (rest : List (Bor Formula)) (formula : Bor Formula) → todo ≡ rest ++ formula ∷ [] → Last todo

last_of : (todo : List (Bor Formula)) → Last todo
last_of [] = nothing refl
last_of (first ∷ todo) = by (last_of todo)
  where
    by : Last todo → Last (first ∷ todo)
    by (nothing is) = the_last [] first (ap (λ (n : List (Bor Formula)). first ∷ n) is)
    by (the_last rest formula is) = the_last (first ∷ rest) formula (ap (λ (n : List (Bor Formula)). first ∷ n) is)

pub pauses : (todo : List (Bor Formula)) → is_paused todo ≡ true → Pauses todo
pauses todo paused = by (last_of todo)
  where
    of_any : (rest : List (Bor Formula)) (any : Bor Formula) (parts : Option (List Formula)) → any_parts any.now ≡ parts → is_some parts ≡ true → Pauses (rest ++ any ∷ [])
    of_any rest any None is some = absurd cc
    of_any rest any (Some parts) is some = pauses_any rest any parts is

    by : Last todo → Pauses todo
    by (nothing is) = subst Pauses (sym is) (record { ends = closes; closing = done_closing; is = λ literals cert. refl })
    by (the_last rest any is) = subst Pauses (sym is) (of_any rest any (any_parts any.now) refl (sym (ap is_paused is ∙ paused_push rest any) ∙ paused))

pub clash_there : (todo : List (Bor Formula)) (literals : List Literal) (cert : Cert) (left right : ℕ) → is_paused todo ≡ true → cert ≡ certificates.Clash left right → stack_of todo literals cert ≡ closes literals (out-Cert cert)
clash_there todo literals cert left right paused is =
    let p = pauses todo paused in
    p.is literals cert ∙ ap (by_cases p.ends literals) is ∙ by_clash p.ends literals left right ∙ p.closing.0 literals left right ∙ sym (ap (closes literals) (ap out-Cert is ∙ clash_out left right))

pub chain_there : (todo : List (Bor Formula)) (literals : List Literal) (cert : Cert) (combines : List Combine) → is_paused todo ≡ true → cert ≡ certificates.Chain combines → stack_of todo literals cert ≡ closes literals (out-Cert cert)
chain_there todo literals cert combines paused is =
    let p = pauses todo paused in
    p.is literals cert ∙ ap (by_cases p.ends literals) is ∙ by_chain p.ends literals combines ∙ p.closing.1 literals combines ∙ sym (ap (closes literals) (ap out-Cert is ∙ chain_out combines))

pub cases_there : (todo : List (Bor Formula)) (literals : List Literal) (cert : Cert) (form : Linear) (below above : Cert) → is_paused todo ≡ true → cert ≡ certificates.Cases form below above
    → stack_of todo literals cert ≡ (can_negate_linear form && (stack_of todo (literals ++ Row form ∷ []) below && stack_of todo (literals ++ Row (one_less form) ∷ []) above))
cases_there todo literals cert form below above paused is =
    let p = pauses todo paused in
    p.is literals cert ∙ ap (by_cases p.ends literals) is ∙ by_both p.ends literals form below above
    ∙ ap (λ (low : Bool). can_negate_linear form && (low && by_cases p.ends (literals ++ Row (one_less form) ∷ []) above)) (sym (p.is (literals ++ Row form ∷ []) below))
    ∙ ap (λ (high : Bool). can_negate_linear form && (stack_of todo (literals ++ Row form ∷ []) below && high)) (sym (p.is (literals ++ Row (one_less form) ∷ []) above))

pub no_split : (todo : List (Bor Formula)) (literals : List Literal) (certs : List Cert) → todo ≡ [] → stack_of todo literals (certificates.Split certs) ≡ false
no_split todo literals certs is = ap (λ (some : List (Bor Formula)). stack_of some literals (certificates.Split certs)) is ∙ by_split closes literals certs

pub split_there : (todo rest : List (Bor Formula)) (any : Bor Formula) (parts : List Formula) (literals : List Literal) (certs : List Cert) → todo ≡ rest ++ any ∷ [] → any_parts any.now ≡ Some parts
    → stack_of todo literals (certificates.Split certs) ≡ each_way (map before parts) (stack_of rest) literals certs
unfolding pauses_any
split_there todo rest any parts literals certs is some =
    let p = pauses_any rest any parts some in
    ap (λ (some : List (Bor Formula)). stack_of some literals (certificates.Split certs)) is ∙ p.is literals (certificates.Split certs) ∙ by_split p.ends literals certs

-- ---- what comes of a branch

pub replaced_so : (held other : Bool) (old new : Vec Branch) (answer : Result Bool AllocError) → held ≡ other → IfOk answer (Replaces other old new) → IfOk answer (Replaces held old new)
replaced_so held other old new answer e h = subst (λ (n : Bool). IfOk answer (Replaces n old new)) (sym e) h

pub closed_so : (held closed : Bool) (branches : Vec Branch) (answer : Result Bool AllocError) → held ≡ closed → IfOk answer (λ told. told ≡ closed) → IfOk answer (Replaces held branches branches)
closed_so held closed branches (Ok true) e told = ap (λ (n : Bool). n && all_refute branches.items) (e ∙ sym told)
closed_so held closed branches (Ok false) e told = e ∙ sym told
closed_so held closed branches (Err error) e told = tt

-- ---- branches

pub branch_made : (todo copied after : List (Bor Formula)) (first : Bor Formula) (literals made : List Literal) (cert : Cert) → copied ≡ todo → after ≡ copied ++ first ∷ [] → made ≡ literals → stack_of after made cert ≡ before first.now (stack_of todo) literals cert
branch_made todo copied after first literals made cert e f g =
    ap (λ (n : List Literal). stack_of after n cert) g ∙ ap (λ (way : Todo). way literals cert) (ap stack_of (f ∙ ap (λ n. n ++ first ∷ []) e) ∙ stack_of_push todo first)

last_false : (a b : Bool) → false ≡ b → false ≡ (a && b)
last_false true b h = h
last_false false b h = refl

uneven : (parts : List Formula) (certs : List Cert) (rest : Todo) (literals : List Literal) → (length parts ≡ length certs → ⊥) → false ≡ each_way (map before parts) rest literals certs
uneven [] [] rest literals h = absurd (h refl)
uneven [] (cert ∷ certs) rest literals h = refl
uneven (part ∷ parts) [] rest literals h = refl
uneven (part ∷ parts) (cert ∷ certs) rest literals h = last_false (before part rest literals cert) _ (uneven parts certs rest literals (λ e. h (ap suc e)))

pub not_as_many : (at : Branch) (parts : List Formula) (certs : List Cert) → (length parts ≡ length certs → ⊥) → any_refutes at parts certs ≡ false
not_as_many at parts certs h = sym (uneven parts certs (stack_of at.todo.items) at.literals.items h)

and_assoc : (a b c : Bool) → ((a && b) && c) ≡ (a && (b && c))
and_assoc true b c = refl
and_assoc false b c = refl

and_swap : (a b c : Bool) → ((a && b) && c) ≡ ((a && c) && b)
and_swap true true true = refl
and_swap true true false = refl
and_swap true false true = refl
and_swap true false false = refl
and_swap false b c = refl

and_true : (a : Bool) → (a && true) ≡ a
and_true true = refl
and_true false = refl

each_way_push : (parts : List Formula) (certs : List Cert) (part : Formula) (cert : Cert) (rest : Todo) (literals : List Literal) → length parts ≡ length certs
    → each_way (map before (parts ++ part ∷ [])) rest literals (certs ++ cert ∷ []) ≡ (each_way (map before parts) rest literals certs && before part rest literals cert)
each_way_push [] [] part cert rest literals h = and_true (before part rest literals cert)
each_way_push [] (other ∷ certs) part cert rest literals h = absurd (omega arith)
each_way_push (first ∷ parts) [] part cert rest literals h = absurd (omega arith)
each_way_push (first ∷ parts) (other ∷ certs) part cert rest literals h =
    ap (λ n. before first rest literals other && n) (each_way_push parts certs part cert rest literals (omega arith)) ∙ sym (and_assoc (before first rest literals other) (each_way (map before parts) rest literals certs) (before part rest literals cert))

taken_one : {X : Type 0} (xs : List X) (i : ℕ) (x : X) → i < length xs → x ≡ get_or xs i x → take (i + 1) xs ≡ take i xs ++ x ∷ []
taken_one xs i x h is = take_more xs i x h ∙ ap (λ y. take i xs ++ y ∷ []) (sym is)

one_true : (b : Bool) → (b && true) ≡ b
one_true b = and_true b

pub split_more : (at : Branch) (parts : List Formula) (certs : List Cert) (part : Formula) (cert : Cert) (i : ℕ) (old before_now after : List Branch) (branch : Branch) → length parts ≡ length certs → i < length certs → part ≡ get_or parts i part → cert ≡ get_or certs i cert
    → (any_refutes at (take i parts) (take i certs) && all_refute old) ≡ all_refute before_now → after ≡ before_now ++ branch ∷ [] → branch_refutes branch ≡ before part (stack_of at.todo.items) at.literals.items cert
    → (any_refutes at (take (i + 1) parts) (take (i + 1) certs) && all_refute old) ≡ all_refute after
split_more at parts certs part cert i old before_now after branch even h is cert_is so_far push answer =
    ap (λ n. n && all_refute old)
    (rw (taken_one parts i part (omega arith) is, taken_one certs i cert h cert_is)
    (each_way_push (take i parts) (take i certs) part cert (stack_of at.todo.items) at.literals.items (omega (arith, length-take {A = Formula}, length-take {A = Cert}))))
    ∙ and_swap (any_refutes at (take i parts) (take i certs)) (before part (stack_of at.todo.items) at.literals.items cert) (all_refute old)
    ∙ ap (λ n. n && before part (stack_of at.todo.items) at.literals.items cert) so_far ∙ ap (λ n. all_refute before_now && n) (sym answer ∙ sym (and_true (branch_refutes branch)))
    ∙ sym (ap all_refute push ∙ list_all-append branch_refutes before_now (branch ∷ []))

total_push : (xs : List ℕ) (x : ℕ) → total (xs ++ x ∷ []) ≡ total xs + x
total_push [] x = omega arith
total_push (y ∷ xs) x = let rest = total_push xs x in omega arith

sizes_push : (certs : List Cert) (cert : Cert) → sizes_of (certs ++ cert ∷ []) ≡ sizes_of certs + size_of cert
sizes_push [] cert = omega arith
sizes_push (other ∷ certs) cert = let rest = sizes_push certs cert in omega arith

pub branches_push : (branches : List Branch) (branch : Branch) → branches_size (branches ++ branch ∷ []) ≡ branches_size branches + size_of branch.cert.now
branches_push [] branch = omega arith
branches_push (other ∷ branches) branch = let rest = branches_push branches branch in omega arith

pub split_sizes : (certs : List Cert) (cert : Cert) (i : ℕ) (before_now after : List Branch) (branch : Branch) (old : ℕ) → i < length certs → cert ≡ get_or certs i cert → branches_size before_now ≡ sizes_of (take i certs) + old
    → after ≡ before_now ++ branch ∷ [] → branch.cert.now ≡ cert → branches_size after ≡ sizes_of (take (i + 1) certs) + old
split_sizes certs cert i before_now after branch old h is so_far push same =
    let one = ap branches_size push ∙ branches_push before_now branch in
    let size = ap size_of same in
    let more = ap sizes_of (taken_one certs i cert h is) ∙ sizes_push (take i certs) cert in
    omega arith

pub both_sizes : (old middle new : List Branch) (high low : Branch) (below above : Cert) → middle ≡ old ++ high ∷ [] → new ≡ middle ++ low ∷ [] → high.cert.now ≡ above → low.cert.now ≡ below
    → branches_size new ≡ size_of below + size_of above + branches_size old
both_sizes old middle new high low below above first second high_is low_is =
    let one = ap branches_size first ∙ branches_push old high in
    let two = ap branches_size second ∙ branches_push middle low in
    let one_size = ap size_of high_is in
    let two_size = ap size_of low_is in
    omega arith

pub answer_at : (answer : Bool) (part : Formula) (slice todo : List (Bor Formula)) (lits literals : List Literal) (cert : Cert) → answer ≡ before part (stack_of slice) lits cert → slice ≡ todo → lits ≡ literals → answer ≡ before part (stack_of todo) literals cert
answer_at answer part slice todo lits literals cert e f g = e ∙ rw (f, g) refl

shrunk : (branch : Branch) (old new : Vec Branch) (going : Bool) → going ≡ true → Shrinks branch old new going → branches_size new.items < size_of branch.cert.now + branches_size old.items
shrunk branch old new true e h = h
shrunk branch old new false e h = absurd cc

-- The list gets smaller with each branch that is followed.
pub follow_shrinks : (branches rest after : Vec Branch) (branch : Branch) (going : Bool) → branches.items ≡ rest.items ++ branch ∷ [] → going ≡ true → Shrinks branch rest after going → branches_size after.items < branches_size branches.items
follow_shrinks branches rest after branch going is went less = let e = ap branches_size is ∙ branches_push rest.items branch in let f = shrunk branch rest after going went less in omega arith
