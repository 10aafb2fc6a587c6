-- A refuted formula is true nowhere.
use Rattle.std.proofs.Common.{◌≡◌, ◌⊎◌, inl, inr, ⊎_elim, ℕ, zero, suc, ℤ, pos, ◌+ℤ◌, ◌-ℤ◌, ◌*ℤ◌, ◌≤ℤ◌, Bool, true, false, not, cond, ◌&&◌, ◌||◌, List, [], ◌∷◌, ◌++◌, map, Option, Some, None, Result, Ok, Err, sym, subst, arith, ap, refl, ◌∙◌}
use Rattle.std.specs.Prelude.{int_le, int_lt, ◌==◌, slice_get, IsTrue, IfOk}
use Rattle.std.specs.declared.alloc.AllocError.{AllocError}
use Rattle.std.specs.List.{list_all, list_any}
use Rattle.std.proofs.lemmas.Bool.{and_parts}
use Rattle.std.proofs.lemmas.Int.{ints}
use Rattle.logic_linear.specs.declared.form.Term.{Term}
use Rattle.logic_linear.specs.declared.formula.Formula.{Formula}
use Rattle.logic_linear.specs.declared.formula.Formula.TheOpen.{Formula-F, Row as RowLayer, Flag as FlagLayer, All as Every, Any as Some_of}
use Rattle.logic_linear.specs.declared.formula.Formula.TheViews.{roll-Formula}
use Rattle.logic_linear.specs.declared.formula.Formula.TheFolds.{ind-Formula, map-Formula, fold-roll-Formula}
use Rattle.logic_linear.specs.Linear.{Linear}
use Rattle.logic_linear.specs.Truth.{Valuation, layer_truth, truth_of, value_of}
use Rattle.logic_linear.specs.Sums.{sum_of_multiples, sum_fits}
use Rattle.logic_linear.specs.Negation.{can_negate_linear, one_less}
use Rattle.logic_linear.proofs.NegationLemmas.{value_of_one_less}
use Rattle.logic_linear.proofs.SumLemmas.{sum_value}
use Rattle.logic_cert.specs.declared.cert.Combine.{Combine}
use Rattle.logic_cert.specs.declared.cert.Literal.{Literal}
use Rattle.logic_cert.specs.declared.cert.Literal.TheVariants.{Row, Flag}
use Rattle.logic_cert.specs.declared.cert.Cert.{Cert}
use Rattle.logic_cert.specs.declared.cert.Cert.TheOpen.{Cert-F, Split, Clash, Chain, Cases}
use Rattle.logic_cert.specs.declared.cert.Cert.TheVariants as certificates
use Rattle.logic_cert.specs.Refutes.{literal_truth, row_of, are_opposite, made_of, made, is_absurd, chain_goes, is_nil, chain_closes, closes, Refutes}
use Rattle.logic_cert.specs.inner.Deciding.{Ends, Todo, done, by_cases, in_order, each_way, at_any, before_layer, before, refutes}
use Rattle.logic_cert.proofs.CertForms.{by_both, by_chain, by_clash, by_parts, by_split}
use Rattle.logic_cert.proofs.DecidingLemmas.{decides}

-- ---- chains

-- a row, where there is one, is true
abbrev RowHolds : Valuation → Option Linear → Type 0
RowHolds v None = Unit {0}
RowHolds v (Some form) = value_of v form ≤ℤ pos 0

abbrev RowsHold : Valuation → List (Option Linear) → Type 0
RowsHold v rows = (i : ℕ) (row : Option Linear) → slice_get rows i ≡ Some row → RowHolds v row

times_nonpositive : (k x : ℤ) → pos 0 ≤ℤ k → x ≤ℤ pos 0 → (k *ℤ x) ≤ℤ pos 0
times_nonpositive k x h g = grind (arith, ints)

both_nonpositive : (a b : ℤ) → a ≤ℤ pos 0 → b ≤ℤ pos 0 → (a +ℤ b) ≤ℤ pos 0
both_nonpositive a b h g = omega (arith, ints)

made_holds : (v : Valuation) (combine : Combine) (left right : Option (Option Linear)) → ((row : Option Linear) → left ≡ Some row → RowHolds v row) → ((row : Option Linear) → right ≡ Some row → RowHolds v row) → RowHolds v (made_of combine left right)
made_holds v combine None right h g = tt
made_holds v combine (Some None) right h g = tt
made_holds v combine (Some (Some left)) None h g = tt
made_holds v combine (Some (Some left)) (Some None) h g = tt
made_holds v combine (Some (Some left)) (Some (Some right)) h g = by_test (int_le (pos 0) combine.left_times) (int_le (pos 0) combine.right_times) (sum_fits combine.left_times left combine.right_times right) refl refl
  where
    by_test : (a b c : Bool) → int_le (pos 0) combine.left_times ≡ a → int_le (pos 0) combine.right_times ≡ b → RowHolds v (cond ((a && b) && c) (Some (sum_of_multiples combine.left_times left combine.right_times right)) None)
    by_test true true true e f =
        subst (λ (n : ℤ). n ≤ℤ pos 0) (sym (sum_value v combine.left_times left combine.right_times right))
        (both_nonpositive _ _ (times_nonpositive combine.left_times (value_of v left) (grind (arith, ints)) (h (Some left) refl)) (times_nonpositive combine.right_times (value_of v right) (grind (arith, ints)) (g (Some right) refl)))
    by_test true true false e f = tt
    by_test true false c e f = tt
    by_test false b c e f = tt

get_push : (rows : List (Option Linear)) (new : Option Linear) (i : ℕ) (row : Option Linear) → slice_get (rows ++ new ∷ []) i ≡ Some row → (slice_get rows i ≡ Some row) ⊎ (new ≡ row)
get_push [] new zero row h = inr cc
get_push [] new (suc i) row h = absurd cc
get_push (first ∷ rows) new zero row h = inl h
get_push (first ∷ rows) new (suc i) row h = get_push rows new i row h

push_holds : (v : Valuation) (rows : List (Option Linear)) (new : Option Linear) → RowsHold v rows → RowHolds v new → RowsHold v (rows ++ new ∷ [])
push_holds v rows new h g i row e = ⊎_elim (λ (old : slice_get rows i ≡ Some row). h i row old) (λ (is : new ≡ row). subst (RowHolds v) is g) (get_push rows new i row e)

not_absurd : (v : Valuation) (row : Linear) → value_of v row ≤ℤ pos 0 → is_absurd row ≡ true → ⊥
not_absurd v row h e = by_terms row.terms refl
  where
    by_terms : (terms : List Term) → row.terms ≡ terms → ⊥
    by_terms [] is = let low : (pos 0 +ℤ row.constant) ≤ℤ pos 0 = (rw is at h) in let high : int_lt (pos 0) row.constant ≡ true = (rw is at e) in absurd (grind (arith, ints))
    by_terms (term ∷ terms) is = let no : false ≡ true = (rw is at e) in absurd cc

chain_fails : (v : Valuation) (combines : List Combine) (rows : List (Option Linear)) → RowsHold v rows → chain_closes combines rows ≡ true → ⊥
chain_fails v [] rows h e = absurd cc
chain_fails v (combine ∷ combines) rows h e = by_row (made combine rows) (is_nil combines) (made_holds v combine (slice_get rows combine.left) (slice_get rows combine.right) (h combine.left) (h combine.right)) (λ rows h e. chain_fails v combines rows h e) e
  where
    by_row : (row : Option Linear) (is_last : Bool) → RowHolds v row → ((rows : List (Option Linear)) → RowsHold v rows → chain_closes combines rows ≡ true → ⊥) → chain_goes (chain_closes combines) rows is_last row ≡ true → ⊥
    by_row None is_last g more e = absurd cc
    by_row (Some row) true g more e = not_absurd v row g e
    by_row (Some row) false g more e = more (rows ++ Some row ∷ []) (push_holds v rows (Some row) h g) e

-- ---- literals

abbrev AllHold : Valuation → List Literal → Type 0
AllHold v literals = (i : ℕ) (literal : Literal) → slice_get literals i ≡ Some literal → literal_truth v literal ≡ true

row_holds : (v : Valuation) (literal : Literal) → literal_truth v literal ≡ true → RowHolds v (row_of literal)
row_holds v (Row form) h = grind (arith, ints)
row_holds v (Flag place is) h = tt

rows_hold : (v : Valuation) (literals : List Literal) → AllHold v literals → RowsHold v (map row_of literals)
rows_hold v [] h i row e = absurd cc
rows_hold v (literal ∷ literals) h zero row e = let same : row_of literal ≡ row = cc in subst (RowHolds v) same (row_holds v literal (h zero literal refl))
rows_hold v (literal ∷ literals) h (suc i) row e = rows_hold v literals (λ i literal. h (suc i) literal) i row e

flags_clash : (at : ℕ → Bool) (place other : ℕ) (is other_is : Bool) → ((place == other) && cond is (not other_is) other_is) ≡ true → cond is (at place) (not (at place)) ≡ true → cond other_is (at other) (not (at other)) ≡ true → ⊥
flags_clash at place other is other_is e h g =
    let same : place ≡ other = grind arith in
    by_truth is other_is (at other) (and_parts (place == other) (cond is (not other_is) other_is) e).1 (rw same at h) g
  where
    by_truth : (is other_is truth : Bool) → cond is (not other_is) other_is ≡ true → cond is truth (not truth) ≡ true → cond other_is truth (not truth) ≡ true → ⊥
    by_truth true true truth e h g = absurd cc
    by_truth true false true e h g = absurd cc
    by_truth true false false e h g = absurd cc
    by_truth false true true e h g = absurd cc
    by_truth false true false e h g = absurd cc
    by_truth false false truth e h g = absurd cc

opposites_fail : (v : Valuation) (left right : Option Literal) → ((literal : Literal) → left ≡ Some literal → literal_truth v literal ≡ true) → ((literal : Literal) → right ≡ Some literal → literal_truth v literal ≡ true) → are_opposite left right ≡ true → ⊥
opposites_fail v None right h g e = absurd cc
opposites_fail v (Some (Row form)) right h g e = absurd cc
opposites_fail v (Some (Flag place is)) None h g e = absurd cc
opposites_fail v (Some (Flag place is)) (Some (Row form)) h g e = absurd cc
opposites_fail v (Some (Flag place is)) (Some (Flag other other_is)) h g e = flags_clash v.flag place other is other_is e (h (Flag place is) refl) (g (Flag other other_is) refl)

closes_fails : (v : Valuation) (literals : List Literal) (layer : Cert-F Cert) → AllHold v literals → closes literals layer ≡ true → ⊥
closes_fails v literals (Split certs) h e = absurd cc
closes_fails v literals (Clash left right) h e = opposites_fail v (slice_get literals left) (slice_get literals right) (h left) (h right) e
closes_fails v literals (Chain combines) h e = chain_fails v combines (map row_of literals) (rows_hold v literals h) e
closes_fails v literals (Cases form below above) h e = absurd cc

literal_push : (v : Valuation) (literals : List Literal) (new : Literal) → AllHold v literals → literal_truth v new ≡ true → AllHold v (literals ++ new ∷ [])
literal_push v [] new h g zero literal e = let same : new ≡ literal = cc in rw (← same) g
literal_push v [] new h g (suc i) literal e = absurd cc
literal_push v (first ∷ literals) new h g zero literal e = h zero literal e
literal_push v (first ∷ literals) new h g (suc i) literal e = literal_push v literals new (λ i literal. h (suc i) literal) g i literal e

-- ---- formulas

-- where the literals are true, what is left to do, of this truth, is not
abbrev Fails : Valuation → Bool → Todo → Type 0
Fails v truth rest = (literals : List Literal) (cert : Cert) → AllHold v literals → rest literals cert ≡ true → truth ≡ false

-- so it is where a certificate that makes no cases ends it
abbrev EndsFail : Valuation → Bool → Ends → Type 0
EndsFail v truth ends = (literals : List Literal) (layer : Cert-F Cert) → AllHold v literals → ends literals layer ≡ true → truth ≡ false

-- a whole number is at most 0, or at least 1
other_side : (a b : ℤ) → a ≡ pos 1 -ℤ b → int_le b (pos 0) ≡ false → int_le a (pos 0) ≡ true
other_side a b is h = grind (arith, ints)

abbrev CertFails : Valuation → Bool → Ends → Cert → Type 0
CertFails v truth ends cert = (literals : List Literal) → AllHold v literals → by_cases ends literals cert ≡ true → truth ≡ false

cases_fail : (v : Valuation) (truth : Bool) (ends : Ends) → EndsFail v truth ends → Fails v truth (by_cases ends)
cases_fail v truth ends h literals cert g e = by_parts (CertFails v truth ends) of_split of_clash of_chain of_cases cert literals g e
  where
    of_split : (parts : List ((cert : Cert) × CertFails v truth ends cert)) → CertFails v truth ends (certificates.Split (map (λ part. part.0) parts))
    of_split parts literals g e =
        let certs = map (λ (part : (cert : Cert) × CertFails v truth ends cert). part.0) parts in
        h literals (Split certs) g (sym (by_split ends literals certs) ∙ e)

    of_clash : (left right : ℕ) → CertFails v truth ends (certificates.Clash left right)
    of_clash left right literals g e = h literals (Clash left right) g (sym (by_clash ends literals left right) ∙ e)

    of_chain : (combines : List Combine) → CertFails v truth ends (certificates.Chain combines)
    of_chain combines literals g e = h literals (Chain combines) g (sym (by_chain ends literals combines) ∙ e)

    of_cases : (form : Linear) (below above : Cert) → CertFails v truth ends below → CertFails v truth ends above → CertFails v truth ends (certificates.Cases form below above)
    of_cases form below above low high literals g e = by_side (int_le (value_of v form) (pos 0)) refl
      where
        both : (by_cases ends (literals ++ Row form ∷ []) below && by_cases ends (literals ++ Row (one_less form) ∷ []) above) ≡ true
        both = (and_parts (can_negate_linear form) _ (sym (by_both ends literals form below above) ∙ e)).1

        sides : (by_cases ends (literals ++ Row form ∷ []) below ≡ true) × (by_cases ends (literals ++ Row (one_less form) ∷ []) above ≡ true)
        sides = and_parts (by_cases ends (literals ++ Row form ∷ []) below) (by_cases ends (literals ++ Row (one_less form) ∷ []) above) both

        by_side : (is_low : Bool) → int_le (value_of v form) (pos 0) ≡ is_low → truth ≡ false
        by_side true is = low (literals ++ Row form ∷ []) (literal_push v literals (Row form) g is) sides.0
        by_side false is =
            high (literals ++ Row (one_less form) ∷ [])
            (literal_push v literals (Row (one_less form)) g (other_side (value_of v (one_less form)) (value_of v form) (value_of_one_less v form) is)) sides.1

abbrev Sound : Valuation → Formula → Type 0
Sound v formula = (truth : Bool) (rest : Todo) → Fails v truth rest → Fails v (truth_of v formula && truth) (before formula rest)

abbrev Parts : Valuation → Type 0
Parts v = List ((formula : Formula) × Sound v formula)

and_assoc : (a b c : Bool) → (a && (b && c)) ≡ ((a && b) && c)
and_assoc true b c = refl
and_assoc false b c = refl

in_order_fails : (v : Valuation) (parts : Parts v) (truth : Bool) (rest : Todo) → Fails v truth rest
    → Fails v (list_all (λ part. part) (map (truth_of v) (map (λ part. part.0) parts)) && truth) (in_order (map before (map (λ part. part.0) parts)) rest)
in_order_fails v [] truth rest h literals cert g e = h literals cert g e
in_order_fails v (part ∷ parts) truth rest h literals cert g e =
    sym (and_assoc (truth_of v part.0) (list_all (λ part. part) (map (truth_of v) (map (λ part. part.0) parts))) truth)
    ∙ part.1 (list_all (λ part. part) (map (truth_of v) (map (λ part. part.0) parts)) && truth) (in_order (map before (map (λ part. part.0) parts)) rest) (in_order_fails v parts truth rest h) literals cert g e

either_fails : (a b c : Bool) → (a && c) ≡ false → (b && c) ≡ false → ((a || b) && c) ≡ false
either_fails true b c h g = h
either_fails false b c h g = g

each_way_fails : (v : Valuation) (parts : Parts v) (truth : Bool) (rest : Todo) → Fails v truth rest → (literals : List Literal) (certs : List Cert) → AllHold v literals
    → each_way (map before (map (λ part. part.0) parts)) rest literals certs ≡ true → (list_any (λ part. part) (map (truth_of v) (map (λ part. part.0) parts)) && truth) ≡ false
each_way_fails v [] truth rest h literals certs g e = refl
each_way_fails v (part ∷ parts) truth rest h literals [] g e = absurd cc
each_way_fails v (part ∷ parts) truth rest h literals (cert ∷ certs) g e =
    let both = and_parts (before part.0 rest literals cert) (each_way (map before (map (λ part. part.0) parts)) rest literals certs) e in
    either_fails (truth_of v part.0) _ truth (part.1 truth rest h literals cert g both.0) (each_way_fails v parts truth rest h literals certs g both.1)

at_any_fails : (v : Valuation) (parts : Parts v) (truth : Bool) (rest : Todo) → Fails v truth rest → (literals : List Literal) (layer : Cert-F Cert) → AllHold v literals
    → at_any (map before (map (λ part. part.0) parts)) rest literals layer ≡ true → (list_any (λ part. part) (map (truth_of v) (map (λ part. part.0) parts)) && truth) ≡ false
at_any_fails v parts truth rest h literals (Split certs) g e = each_way_fails v parts truth rest h literals certs g e
at_any_fails v parts truth rest h literals (Clash left right) g e = absurd (closes_fails v literals (Clash left right) g e)
at_any_fails v parts truth rest h literals (Chain combines) g e = absurd (closes_fails v literals (Chain combines) g e)
at_any_fails v parts truth rest h literals (Cases form below above) g e = absurd cc

abbrev LayerSound : Valuation → Formula-F Formula → Type 0
LayerSound v layer = (truth : Bool) (rest : Todo) → Fails v truth rest → Fails v (layer_truth v (map-Formula _ Bool (truth_of v) layer) && truth) (before_layer (map-Formula _ (Todo → Todo) before layer) rest)

literal_fails : (v : Valuation) (literal : Literal) (truth : Bool) (rest : Todo) → Fails v truth rest → (literals : List Literal) (cert : Cert) → AllHold v literals → rest (literals ++ literal ∷ []) cert ≡ true → (literal_truth v literal && truth) ≡ false
literal_fails v literal truth rest h literals cert g e = by_truth (literal_truth v literal) refl
  where
    by_truth : (held : Bool) → literal_truth v literal ≡ held → (held && truth) ≡ false
    by_truth true is = h (literals ++ literal ∷ []) cert (literal_push v literals literal g is) e
    by_truth false is = refl

layer_sound : (v : Valuation) (layer : Formula-F ((formula : Formula) × Sound v formula)) → LayerSound v (map-Formula _ Formula (λ part. part.0) layer)
layer_sound v (RowLayer form) truth rest h literals cert g e = literal_fails v (Row form) truth rest h literals cert g e
layer_sound v (FlagLayer place is) truth rest h literals cert g e = literal_fails v (Flag place is) truth rest h literals cert g e
layer_sound v (Every parts) truth rest h literals cert g e = in_order_fails v parts truth rest h literals cert g e
layer_sound v (Some_of parts) truth rest h literals cert g e =
    cases_fail v _ (at_any (map before (map (λ part. part.0) parts)) rest) (at_any_fails v parts truth rest h) literals cert g e

formula_sound : (v : Valuation) (layer : Formula-F Formula) → LayerSound v layer → Sound v (roll-Formula layer)
formula_sound v layer sound truth rest h literals cert g e =
    ap (λ held. held && truth) (fold-roll-Formula Bool (layer_truth v) layer)
    ∙ sound truth rest h literals cert g (sym (ap (λ (way : Todo → Todo). way rest literals cert) (fold-roll-Formula (Todo → Todo) before_layer layer)) ∙ e)

pub sound : (v : Valuation) (formula : Formula) → Sound v formula
sound v = ind-Formula (Sound v) (λ layer parts is. formula_sound v layer (subst (LayerSound v) is (layer_sound v parts)))

and_true : (a : Bool) → (a && true) ≡ a
and_true true = refl
and_true false = refl

decided_is_false : (formula : Formula) (cert : Cert) (v : Valuation) → refutes formula cert ≡ true → truth_of v formula ≡ false
decided_is_false formula cert v e =
    sym (and_true (truth_of v formula)) ∙ sound v formula true done (cases_fail v true closes (λ literals layer g e. absurd (closes_fails v literals layer g e))) [] cert (λ i literal e. absurd cc) e

-- A refuted formula is true at no valuation.
pub refuted_is_false : (formula : Formula) (cert : Cert) (v : Valuation) → Refutes formula cert → truth_of v formula ≡ false
refuted_is_false formula cert v refuted = decided_is_false formula cert v (decides refuted)

pub sound_answer : (formula : Formula) (cert : Cert) (answer : Result Bool AllocError) → IfOk answer (λ accepted. accepted ≡ refutes formula cert) → IfOk answer (λ accepted. IsTrue accepted → (v : Valuation) → truth_of v formula ≡ false)
sound_answer formula cert (Ok accepted) h = λ t v. decided_is_false formula cert v (sym h ∙ t)
sound_answer formula cert (Err error) h = tt
