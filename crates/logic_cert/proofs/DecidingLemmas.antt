-- The test decides whether a certificate refutes a formula.
use Rattle.std.proofs.Common.{◌≡◌, ℕ, zero, suc, Bool, true, ◌&&◌, length, List, [], ◌∷◌, ◌++◌, map, Some, Result, Ok, Err, sym, subst, arith, ap, refl, ◌∙◌}
use Rattle.std.specs.Prelude.{slice_get, IsTrue, IfOk, ◌↔◌}
use Rattle.std.specs.declared.alloc.AllocError.{AllocError}
use Rattle.std.proofs.lemmas.Bool.{and_parts}
use Rattle.logic_linear.specs.declared.formula.Formula.{Formula}
use Rattle.logic_linear.specs.declared.formula.Formula.TheVariants as formulas
use Rattle.logic_linear.specs.declared.formula.Formula.TheOpen as layers
use Rattle.logic_linear.specs.declared.formula.Formula.TheOpen.{Formula-F}
use Rattle.logic_linear.specs.declared.formula.Formula.TheViews.{roll-Formula}
use Rattle.logic_linear.specs.declared.formula.Formula.TheFolds.{ind-Formula, map-Formula, fold-roll-Formula}
use Rattle.logic_linear.specs.Linear.{Linear}
use Rattle.logic_linear.specs.Negation.{can_negate_linear, one_less}
use Rattle.logic_cert.specs.declared.cert.Combine.{Combine}
use Rattle.logic_cert.specs.declared.cert.Literal.{Literal}
use Rattle.logic_cert.specs.declared.cert.Literal.TheVariants.{Row, Flag}
use Rattle.logic_cert.specs.declared.cert.Cert.{Cert, out-Cert}
use Rattle.logic_cert.specs.declared.cert.Cert.TheOpen as cert_layers
use Rattle.logic_cert.specs.declared.cert.Cert.TheOpen.{Cert-F}
use Rattle.logic_cert.specs.declared.cert.Cert.TheVariants as certificates
use Rattle.logic_cert.specs.declared.cert.Cert.TheViews.{roll-Cert, roll-out-Cert}
use Rattle.logic_cert.specs.Refutes.{cases, closes, last_cases, RefutesFrom, row, flag, every, split, closed, ended, Refutes}
use Rattle.logic_cert.specs.inner.Deciding.{Ends, Todo, done, by_cases, in_order, each_way, at_any, before_layer, before, todo_of, refutes}
use Rattle.logic_cert.proofs.CertForms.{by_both, by_chain, by_clash, by_parts, by_split, chain_out, clash_out}

-- ---- what is refuted passes the test

pub row_before : (form : Linear) (rest : Todo) (literals : List Literal) (cert : Cert) → before (formulas.Row form) rest literals cert ≡ rest (literals ++ Row form ∷ []) cert
row_before form rest literals cert = ap (λ (way : Todo → Todo). way rest literals cert) (ap before (sym (formulas.rolls-Row form)) ∙ fold-roll-Formula (Todo → Todo) before_layer (layers.Row form))

pub flag_before : (place : ℕ) (is : Bool) (rest : Todo) (literals : List Literal) (cert : Cert) → before (formulas.Flag place is) rest literals cert ≡ rest (literals ++ Flag place is ∷ []) cert
flag_before place is rest literals cert = ap (λ (way : Todo → Todo). way rest literals cert) (ap before (sym (formulas.rolls-Flag place is)) ∙ fold-roll-Formula (Todo → Todo) before_layer (layers.Flag place is))

pub all_before : (parts : List Formula) (rest : Todo) → before (formulas.All parts) rest ≡ in_order (map before parts) rest
all_before parts rest = ap (λ (way : Todo → Todo). way rest) (ap before (sym (formulas.rolls-All parts)) ∙ fold-roll-Formula (Todo → Todo) before_layer (layers.All parts))

pub any_before : (parts : List Formula) (rest : Todo) (literals : List Literal) (cert : Cert) → before (formulas.Any parts) rest literals cert ≡ by_cases (at_any (map before parts) rest) literals cert
any_before parts rest literals cert = ap (λ (way : Todo → Todo). way rest literals cert) (ap before (sym (formulas.rolls-Any parts)) ∙ fold-roll-Formula (Todo → Todo) before_layer (layers.Any parts))

in_order-append : (parts more : List Formula) (rest : Todo) → in_order (map before (parts ++ more)) rest ≡ in_order (map before parts) (in_order (map before more) rest)
in_order-append [] more rest = refl
in_order-append (part ∷ parts) more rest = ap (before part) (in_order-append parts more rest)

each_way_from : (parts : List Formula) (certs : List Cert) (rest : Todo) (literals : List Literal) → length certs ≡ length parts
    → ((i : ℕ) (part : Formula) (cert : Cert) → slice_get parts i ≡ Some part → slice_get certs i ≡ Some cert → before part rest literals cert ≡ true) → each_way (map before parts) rest literals certs ≡ true
each_way_from [] [] rest literals even each = refl
each_way_from [] (cert ∷ certs) rest literals even each = absurd (omega arith)
each_way_from (part ∷ parts) [] rest literals even each = absurd (omega arith)
each_way_from (part ∷ parts) (cert ∷ certs) rest literals even each =
    rw (each zero part cert refl refl) (each_way_from parts certs rest literals (omega arith) (λ i. each (suc i)))

-- a clash or a chain ends what is next
abbrev pub Closing : Ends → Type 0
Closing ends =
    ((literals : List Literal) (left right : ℕ) → ends literals (cert_layers.Clash left right) ≡ closes literals (cert_layers.Clash left right))
    × ((literals : List Literal) (combines : List Combine) → ends literals (cert_layers.Chain combines) ≡ closes literals (cert_layers.Chain combines))

pub any_closing : (parts : List (Todo → Todo)) (rest : Todo) → Closing (at_any parts rest)
any_closing parts rest = (λ literals left right. refl, λ literals combines. refl)

pub done_closing : Closing closes
done_closing = (λ literals left right. refl, λ literals combines. refl)

closing_layer : (ends : Ends) → Closing ends → (literals : List Literal) (cert : Cert) (layer : Cert-F Cert) → cert ≡ roll-Cert layer → closes literals layer ≡ true → by_cases ends literals cert ≡ true
closing_layer ends closing literals cert (cert_layers.Split certs) is h = absurd cc
closing_layer ends closing literals cert (cert_layers.Clash left right) is h =
    ap (by_cases ends literals) (is ∙ certificates.rolls-Clash left right) ∙ by_clash ends literals left right ∙ closing.0 literals left right ∙ h
closing_layer ends closing literals cert (cert_layers.Chain combines) is h =
    ap (by_cases ends literals) (is ∙ certificates.rolls-Chain combines) ∙ by_chain ends literals combines ∙ closing.1 literals combines ∙ h
closing_layer ends closing literals cert (cert_layers.Cases form below above) is h = absurd cc

closes_by : (ends : Ends) → Closing ends → (literals : List Literal) (cert : Cert) → closes literals (out-Cert cert) ≡ true → by_cases ends literals cert ≡ true
closes_by ends closing literals cert h = closing_layer ends closing literals cert (out-Cert cert) (sym (roll-out-Cert cert)) h

three : (a b c : Bool) → a ≡ true → b ≡ true → c ≡ true → (a && (b && c)) ≡ true
three a b c e f g = rw (e, f) g

pub decides : {todo : List Formula} {literals : List Literal} {cert : Cert} → RefutesFrom todo literals cert → todo_of todo literals cert ≡ true
decides (row form todo literals cert more) = row_before form (todo_of todo) literals cert ∙ decides more
decides (flag place is todo literals cert more) = flag_before place is (todo_of todo) literals cert ∙ decides more
decides (every parts todo literals cert more) = ap (λ (way : Todo). way literals cert) (all_before parts (todo_of todo) ∙ sym (in_order-append parts todo done)) ∙ decides more
decides (split parts certs todo literals even each) =
    any_before parts (todo_of todo) literals (certificates.Split certs) ∙ by_split (at_any (map before parts) (todo_of todo)) literals certs
    ∙ each_way_from parts certs (todo_of todo) literals even (λ i part cert e f. decides (each i part cert e f))
decides (closed parts todo literals cert closing) = any_before parts (todo_of todo) literals cert ∙ closes_by (at_any (map before parts) (todo_of todo)) (any_closing (map before parts) (todo_of todo)) literals cert closing
decides (ended literals cert closing) = closes_by closes done_closing literals cert closing
decides (cases form below above parts todo literals can low high) =
    let ends : Ends = at_any (map before parts) (todo_of todo) in
    any_before parts (todo_of todo) literals (certificates.Cases form below above) ∙ by_both ends literals form below above
    ∙ three (can_negate_linear form) (by_cases ends (literals ++ Row form ∷ []) below) (by_cases ends (literals ++ Row (one_less form) ∷ []) above) can
    (sym (row_before form (before (formulas.Any parts) (todo_of todo)) literals below ∙ any_before parts (todo_of todo) (literals ++ Row form ∷ []) below) ∙ decides low)
    (sym (row_before (one_less form) (before (formulas.Any parts) (todo_of todo)) literals above ∙ any_before parts (todo_of todo) (literals ++ Row (one_less form) ∷ []) above) ∙ decides high)
decides (last_cases form below above literals can low high) =
    by_both closes literals form below above
    ∙ three (can_negate_linear form) (done (literals ++ Row form ∷ []) below) (done (literals ++ Row (one_less form) ∷ []) above) can
    (sym (row_before form done literals below) ∙ decides low) (sym (row_before (one_less form) done literals above) ∙ decides high)

-- ---- what passes the test is refuted

abbrev Builds : Todo → List Formula → Type 0
Builds rest todo = (literals : List Literal) (cert : Cert) → rest literals cert ≡ true → RefutesFrom todo literals cert

abbrev Built : Formula → Type 0
Built formula = (rest : Todo) (todo : List Formula) → Builds rest todo → Builds (before formula rest) (formula ∷ todo)

abbrev Parts : Type 0
Parts = List ((formula : Formula) × Built formula)

abbrev formulas_of : Parts → List Formula
formulas_of parts = map (λ part. part.0) parts

in_order_builds : (parts : Parts) (rest : Todo) (todo : List Formula) → Builds rest todo → Builds (in_order (map before (formulas_of parts)) rest) (formulas_of parts ++ todo)
in_order_builds [] rest todo h = h
in_order_builds (part ∷ parts) rest todo h = part.1 (in_order (map before (formulas_of parts)) rest) (formulas_of parts ++ todo) (in_order_builds parts rest todo h)

even_ways : (parts : List Formula) (certs : List Cert) (rest : Todo) (literals : List Literal) → each_way (map before parts) rest literals certs ≡ true → length certs ≡ length parts
even_ways [] [] rest literals h = refl
even_ways [] (cert ∷ certs) rest literals h = absurd cc
even_ways (part ∷ parts) [] rest literals h = absurd cc
even_ways (part ∷ parts) (cert ∷ certs) rest literals h =
    let rest_even = even_ways parts certs rest literals (and_parts (before part rest literals cert) (each_way (map before parts) rest literals certs) h).1 in omega arith

each_way_builds : (parts : Parts) (certs : List Cert) (rest : Todo) (todo : List Formula) (literals : List Literal) → Builds rest todo → each_way (map before (formulas_of parts)) rest literals certs ≡ true
    → (i : ℕ) (part : Formula) (cert : Cert) → slice_get (formulas_of parts) i ≡ Some part → slice_get certs i ≡ Some cert → RefutesFrom (part ∷ todo) literals cert
each_way_builds [] certs rest todo literals h e i part cert f g = absurd cc
each_way_builds (first ∷ parts) [] rest todo literals h e i part cert f g = absurd cc
each_way_builds (first ∷ parts) (one ∷ certs) rest todo literals h e zero part cert f g =
    let here = first.1 rest todo h literals one (and_parts (before first.0 rest literals one) (each_way (map before (formulas_of parts)) rest literals certs) e).0 in
    let same : first.0 ≡ part = cc in
    let cert_same : one ≡ cert = cc in
    subst (λ (n : Formula). RefutesFrom (n ∷ todo) literals cert) same (subst (λ (n : Cert). RefutesFrom (first.0 ∷ todo) literals n) cert_same here)
each_way_builds (first ∷ parts) (one ∷ certs) rest todo literals h e (suc i) part cert f g =
    each_way_builds parts certs rest todo literals h (and_parts (before first.0 rest literals one) (each_way (map before (formulas_of parts)) rest literals certs) e).1 i part cert f g

of_three : (a b c : Bool) → (a && (b && c)) ≡ true → (a ≡ true) × (b ≡ true) × (c ≡ true)
of_three a b c h = let outer = and_parts a (b && c) h in let inner = and_parts b c outer.1 in (outer.0, inner.0, inner.1)

-- what is next, where no literal is, is refuted as it is ended
record Paused (ends : Ends) (todo : List Formula) : Type 0 where
  closing : Closing ends
  splits : (literals : List Literal) (certs : List Cert) → ends literals (cert_layers.Split certs) ≡ true → RefutesFrom todo literals (certificates.Split certs)
  closed_so : (literals : List Literal) (cert : Cert) → closes literals (out-Cert cert) ≡ true → RefutesFrom todo literals cert
  sides : (form : Linear) (below above : Cert) (literals : List Literal) → can_negate_linear form ≡ true → RefutesFrom (formulas.Row form ∷ todo) literals below
      → RefutesFrom (formulas.Row (one_less form) ∷ todo) literals above → RefutesFrom todo literals (certificates.Cases form below above)

abbrev Refuted : Ends → List Formula → Cert → Type 0
Refuted ends todo cert = (literals : List Literal) → by_cases ends literals cert ≡ true → RefutesFrom todo literals cert

cases_build : (ends : Ends) (todo : List Formula) → Paused ends todo → (cert : Cert) → Refuted ends todo cert
cases_build ends todo next = by_parts (Refuted ends todo) of_split of_clash of_chain of_cases
  where
    of_split : (parts : List ((cert : Cert) × Refuted ends todo cert)) → Refuted ends todo (certificates.Split (map (λ part. part.0) parts))
    of_split parts literals e =
        let certs = map (λ (part : (cert : Cert) × Refuted ends todo cert). part.0) parts in
        next.splits literals certs (sym (by_split ends literals certs) ∙ e)

    of_clash : (left right : ℕ) → Refuted ends todo (certificates.Clash left right)
    of_clash left right literals e =
        next.closed_so literals (certificates.Clash left right) (ap (closes literals) (clash_out left right) ∙ sym (next.closing.0 literals left right) ∙ sym (by_clash ends literals left right) ∙ e)

    of_chain : (combines : List Combine) → Refuted ends todo (certificates.Chain combines)
    of_chain combines literals e =
        next.closed_so literals (certificates.Chain combines) (ap (closes literals) (chain_out combines) ∙ sym (next.closing.1 literals combines) ∙ sym (by_chain ends literals combines) ∙ e)

    of_cases : (form : Linear) (below above : Cert) → Refuted ends todo below → Refuted ends todo above → Refuted ends todo (certificates.Cases form below above)
    of_cases form below above low high literals e =
        let all = of_three (can_negate_linear form) (by_cases ends (literals ++ Row form ∷ []) below) (by_cases ends (literals ++ Row (one_less form) ∷ []) above) (sym (by_both ends literals form below above) ∙ e) in
        next.sides form below above literals all.0
        (row form todo literals below (low (literals ++ Row form ∷ []) all.1)) (row (one_less form) todo literals above (high (literals ++ Row (one_less form) ∷ []) all.2))

any_builds : (parts : Parts) (rest : Todo) (todo : List Formula) → Builds rest todo → (cert : Cert) (literals : List Literal)
    → by_cases (at_any (map before (formulas_of parts)) rest) literals cert ≡ true → RefutesFrom (formulas.Any (formulas_of parts) ∷ todo) literals cert
any_builds parts rest todo h = cases_build (at_any (map before (formulas_of parts)) rest) (formulas.Any (formulas_of parts) ∷ todo) (record {
  closing = any_closing (map before (formulas_of parts)) rest;
  splits = λ literals certs e. split (formulas_of parts) certs todo literals (even_ways (formulas_of parts) certs rest literals e) (each_way_builds parts certs rest todo literals h e);
  closed_so = λ literals cert closing. closed (formulas_of parts) todo literals cert closing;
  sides = λ form below above literals can low high. cases form below above (formulas_of parts) todo literals can low high;
})

done_builds : (cert : Cert) (literals : List Literal) → done literals cert ≡ true → RefutesFrom [] literals cert
done_builds = cases_build closes [] (record {
  closing = done_closing;
  splits = λ literals certs e. absurd cc;
  closed_so = λ literals cert closing. ended literals cert closing;
  sides = λ form below above literals can low high. last_cases form below above literals can low high;
})

abbrev LayerBuilt : Formula-F Formula → Type 0
LayerBuilt layer = (rest : Todo) (todo : List Formula) → Builds rest todo → Builds (before_layer (map-Formula _ (Todo → Todo) before layer) rest) (roll-Formula layer ∷ todo)

shaped : (layer : Formula-F Formula) (formula : Formula) (todo : List Formula) (literals : List Literal) (cert : Cert) → roll-Formula layer ≡ formula → RefutesFrom (formula ∷ todo) literals cert → RefutesFrom (roll-Formula layer ∷ todo) literals cert
shaped layer formula todo literals cert is h = subst (λ (n : Formula). RefutesFrom (n ∷ todo) literals cert) (sym is) h

layer_built : (layer : Formula-F ((formula : Formula) × Built formula)) → LayerBuilt (map-Formula _ Formula (λ part. part.0) layer)
layer_built (layers.Row form) rest todo h literals cert e = shaped (layers.Row form) _ todo literals cert (formulas.rolls-Row form) (row form todo literals cert (h (literals ++ Row form ∷ []) cert e))
layer_built (layers.Flag place is) rest todo h literals cert e = shaped (layers.Flag place is) _ todo literals cert (formulas.rolls-Flag place is) (flag place is todo literals cert (h (literals ++ Flag place is ∷ []) cert e))
layer_built (layers.All parts) rest todo h literals cert e =
    shaped (layers.All (formulas_of parts)) _ todo literals cert (formulas.rolls-All (formulas_of parts)) (every (formulas_of parts) todo literals cert (in_order_builds parts rest todo h literals cert e))
layer_built (layers.Any parts) rest todo h literals cert e =
    shaped (layers.Any (formulas_of parts)) _ todo literals cert (formulas.rolls-Any (formulas_of parts)) (any_builds parts rest todo h cert literals e)

formula_built : (layer : Formula-F Formula) → LayerBuilt layer → Built (roll-Formula layer)
formula_built layer built rest todo h literals cert e =
    built rest todo h literals cert (sym (ap (λ (way : Todo → Todo). way rest literals cert) (fold-roll-Formula (Todo → Todo) before_layer layer)) ∙ e)

built : (formula : Formula) → Built formula
built = ind-Formula Built (λ layer parts is. formula_built layer (subst LayerBuilt is (layer_built parts)))

pub builds : (formula : Formula) (cert : Cert) → refutes formula cert ≡ true → Refutes formula cert
builds formula cert e = built formula done [] (λ literals cert e. done_builds cert literals e) [] cert e

-- ---- answers

pub exact_answer : (formula : Formula) (cert : Cert) (answer : Result Bool AllocError) → IfOk answer (λ accepted. accepted ≡ refutes formula cert) → IfOk answer (λ accepted. IsTrue accepted ↔ Refutes formula cert)
exact_answer formula cert (Ok accepted) h = (λ t. builds formula cert (sym h ∙ t), λ refuted. h ∙ decides refuted)
exact_answer formula cert (Err error) h = tt
