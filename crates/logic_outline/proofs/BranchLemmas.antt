-- Branches of a refutation that are still to follow, node by node.
use Rattle.std.proofs.Common.{◌≡◌, Bor, Some, None, Result, Ok, Err, ℕ, zero, suc, ◌+◌, ◌-◌, ◌<◌, ◌≤◌, Bool, true, false, ◌&&◌, List, [], ◌∷◌, ◌++◌, map, length, get_or, drop, reverse, refl, sym, ap, subst, ◌∙◌, append_assoc, append-nil, length-append, arith}
use Rattle.std.specs.Prelude.{IfOk, IsTrue, ◌↔◌, if◌then◌else◌}
use Rattle.std.specs.declared.alloc.AllocError.{AllocError}
use Rattle.std.proofs.lemmas.Bool.{false≢true, true≢false}
use Rattle.std.proofs.lemmas.List.{at_drop_more, reverse-append, length-drop}
use Rattle.std.proofs.lemmas.List.Concat.{flat_map-append}
use Rattle.logic_linear.specs.declared.formula.Formula.{Formula}
use Rattle.logic_linear.specs.declared.formula.Formula.TheOpen as formula_layers
use Rattle.logic_linear.specs.declared.formula.Formula.TheVariants as formulas
use Rattle.logic_linear.specs.declared.formula.Formula.TheViews.{out-roll-Formula}
use Rattle.logic_linear.specs.Linear.{Linear}
use Rattle.logic_linear.specs.Negation.{can_negate_linear, one_less}
use Rattle.logic_cert.specs.declared.cert.Literal.{Literal}
use Rattle.logic_cert.specs.declared.cert.Literal.TheVariants.{Row, Flag}
use Rattle.logic_cert.specs.declared.cert.Cert.{Cert, out-Cert}
use Rattle.logic_cert.specs.declared.cert.Cert.TheOpen.{Cert-F}
use Rattle.logic_cert.specs.declared.cert.Cert.TheOpen as layers
use Rattle.logic_cert.specs.declared.cert.Cert.TheVariants as certificates
use Rattle.logic_cert.specs.declared.cert.Cert.TheViews.{roll-Cert, out-roll-Cert, roll-out-Cert}
use Rattle.logic_cert.specs.Refutes.{closes, Refutes}
use Rattle.logic_cert.specs.inner.Branches.{any_parts, is_paused, stack_of}
use Rattle.logic_cert.specs.inner.Deciding.{Todo, by_cases, done, before, in_order, each_way, refutes}
use Rattle.logic_cert.proofs.BranchLemmas.{row_goes, flag_goes, stack_of_push, cases_there, no_split, pauses, split_there}
use Rattle.logic_cert.proofs.CertForms.{by_chain, by_clash}
use Rattle.logic_cert.proofs.DecidingLemmas.{all_before, builds, decides, flag_before, row_before}
use Rattle.logic_outline.specs.declared.acceptance.Branch.{Branch}
use Rattle.logic_outline.specs.declared.outline.Node.{Node}
use Rattle.logic_outline.specs.declared.outline.Node.TheVariants.{Parts, End, Sides}
use Rattle.logic_outline.specs.Outlines.{outline_of, outlines_of}
use Rattle.logic_outline.specs.inner.Branches.{all_refute, any_refutes, branch_refutes, formula_of, IsFirst, IsFollowed, Gathers, IsSplit, IsUnsplit, both_rows, cases_of, literal_in, literal_layer, met_literals, PutsFirst, Replaces, ReplacesOrNot, rows_of, rows_with, stack_refutes}
use Rattle.logic_outline.proofs.OutlineForms.{cases_outline, chain_outline, clash_outline, split_outline}

-- ---- rows and flags that are met

met_push : (met : List (Bor Formula)) (formula : Bor Formula) → met_literals (met ++ formula ∷ []) ≡ met_literals met ++ literal_in formula.now
met_push met formula = flat_map-append (λ (one : Bor Formula). literal_in one.now) met (formula ∷ []) ∙ ap (λ (some : List Literal). met_literals met ++ some) (append-nil (literal_in formula.now))

row_literal : (formula : Formula) (form : Linear) → formula ≡ formulas.Row form → literal_in formula ≡ Row form ∷ []
row_literal formula form is = ap literal_in (is ∙ sym (formulas.rolls-Row form)) ∙ ap literal_layer (out-roll-Formula (formula_layers.Row form))

flag_literal : (formula : Formula) (place : ℕ) (truth : Bool) → formula ≡ formulas.Flag place truth → literal_in formula ≡ Flag place truth ∷ []
flag_literal formula place truth is = ap literal_in (is ∙ sym (formulas.rolls-Flag place truth)) ∙ ap literal_layer (out-roll-Formula (formula_layers.Flag place truth))

pub row_met : (whole : Bool) (todo rest met after : List (Bor Formula)) (formula : Bor Formula) (form : Linear) (cert : Cert) → whole ≡ stack_of todo (met_literals met) cert → todo ≡ rest ++ formula ∷ [] → formula.now ≡ formulas.Row form
    → after ≡ met ++ formula ∷ [] → whole ≡ stack_of rest (met_literals after) cert
row_met whole todo rest met after formula form cert e is shaped push =
    row_goes whole todo rest formula form form (met_literals met) (met_literals after) cert e is shaped refl
    (ap met_literals push ∙ met_push met formula ∙ ap (λ (some : List Literal). met_literals met ++ some) (row_literal formula.now form shaped))

pub flag_met : (whole : Bool) (todo rest met after : List (Bor Formula)) (formula : Bor Formula) (place : ℕ) (truth : Bool) (cert : Cert) → whole ≡ stack_of todo (met_literals met) cert → todo ≡ rest ++ formula ∷ [] → formula.now ≡ formulas.Flag place truth
    → after ≡ met ++ formula ∷ [] → whole ≡ stack_of rest (met_literals after) cert
flag_met whole todo rest met after formula place truth cert e is shaped push =
    flag_goes whole todo rest formula place truth (met_literals met) (met_literals after) cert e is shaped
    (ap met_literals push ∙ met_push met formula ∙ ap (λ (some : List Literal). met_literals met ++ some) (flag_literal formula.now place truth shaped))

-- ---- copies of what was met

in_all : (literals before_now : List Literal) (cert : Cert) → in_order (map before (map formula_of literals)) done before_now cert ≡ done (before_now ++ literals) cert
in_all [] before_now cert = ap (λ (some : List Literal). done some cert) (sym (append-nil before_now))
in_all (Row form ∷ literals) before_now cert =
    row_before form (in_order (map before (map formula_of literals)) done) before_now cert ∙ in_all literals (before_now ++ Row form ∷ []) cert
    ∙ ap (λ (some : List Literal). done some cert) (append_assoc before_now (Row form ∷ []) literals)
in_all (Flag place is ∷ literals) before_now cert =
    flag_before place is (in_order (map before (map formula_of literals)) done) before_now cert ∙ in_all literals (before_now ++ Flag place is ∷ []) cert
    ∙ ap (λ (some : List Literal). done some cert) (append_assoc before_now (Flag place is ∷ []) literals)

told : (formula : Formula) (cert : Cert) (accepted : Bool) → (IsTrue accepted ↔ Refutes formula cert) → accepted ≡ refutes formula cert
told formula cert true says = sym (decides (says.0 refl))
told formula cert false says = by (refutes formula cert) refl
  where
    by : (answer : Bool) → refutes formula cert ≡ answer → false ≡ refutes formula cert
    by true is = absurd (false≢true (says.1 (builds formula cert is)))
    by false is = sym is

all_closes : (literals : List Literal) (formula : Formula) (parts : List Formula) (cert : Cert) → formula ≡ formulas.All parts → parts ≡ map formula_of literals → refutes formula cert ≡ done literals cert
all_closes literals formula parts cert is same =
    ap (λ (one : Formula). refutes one cert) (is ∙ ap formulas.All same) ∙ ap (λ (way : Todo). way [] cert) (all_before (map formula_of literals) done) ∙ in_all literals [] cert

pub closed_so : (literals : List Literal) (formula : Formula) (parts : List Formula) (cert : Cert) (answer : Result Bool AllocError) → formula ≡ formulas.All parts → parts ≡ map formula_of literals
    → IfOk answer (λ accepted. IsTrue accepted ↔ Refutes formula cert) → IfOk answer (λ closed. closed ≡ done literals cert)
closed_so literals formula parts cert (Ok accepted) is same says = told formula cert accepted says ∙ all_closes literals formula parts cert is same
closed_so literals formula parts cert (Err error) is same says = tt

pub refuted_so : (formula : Formula) (cert : Cert) (answer : Result Bool AllocError) → IfOk answer (λ refuted. refuted ≡ refutes formula cert) → IfOk answer (λ refuted. IsTrue refuted ↔ Refutes formula cert)
refuted_so formula cert (Ok refuted) is = (λ t. builds formula cert (sym is ∙ t), λ h. is ∙ decides h)
refuted_so formula cert (Err error) is = tt

-- ---- parts that are put on the list

last_false : (a b : Bool) → b ≡ false → (a && b) ≡ false
last_false true b h = h
last_false false b h = refl

uneven : (parts : List Formula) (certs : List Cert) (rest : Todo) (literals : List Literal) → (length parts ≡ length certs → ⊥) → each_way (map before parts) rest literals certs ≡ false
uneven [] [] rest literals h = absurd (h refl)
uneven [] (cert ∷ certs) rest literals h = refl
uneven (part ∷ parts) [] rest literals h = refl
uneven (part ∷ parts) (cert ∷ certs) rest literals h = last_false (before part rest literals cert) _ (uneven parts certs rest literals (λ e. h (ap suc e)))

pub not_as_many : (at : Branch) (parts : List Formula) (count : ℕ) (old new : List Branch) → (length parts ≡ count → ⊥) → IsSplit at parts count old new false
not_as_many at parts count old new h certs many = uneven parts certs (stack_of at.todo.items) (met_literals at.met.items) (λ e. h (e ∙ many))

abbrev pub Puts : Branch → List Formula → List Branch → List Branch → Type 0
Puts at parts old now = Replaces (any_refutes at parts) (length parts) old now

pub none_put : (at : Branch) (parts : List Formula) (n : ℕ) (old : List Branch) → n ≡ length parts → Puts at (drop n parts) old old
none_put at parts n old end = subst (λ (some : List Formula). Puts at some old old) (sym (ap (λ (k : ℕ). drop k parts) end ∙ all_dropped parts)) (record { number = omega arith; same = same })
  where
    all_dropped : (some : List Formula) → drop (length some) some ≡ []
    all_dropped [] = refl
    all_dropped (part ∷ some) = all_dropped some

    same : (certs rest : List Cert) → length certs ≡ 0 → stack_refutes old (certs ++ rest) ≡ (any_refutes at [] certs && stack_refutes old rest)
    same [] rest many = refl
    same (cert ∷ certs) rest many = absurd (omega (arith, many))

and_assoc : (a b c : Bool) → ((a && b) && c) ≡ (a && (b && c))
and_assoc true b c = refl
and_assoc false b c = refl

top_first : (branches : List Branch) (branch : Branch) → reverse (branches ++ branch ∷ []) ≡ branch ∷ reverse branches
top_first branches branch = reverse-append branches (branch ∷ [])

put_more : (at branch : Branch) (part : Formula) (parts : List Formula) (old now : List Branch) → PutsFirst at part branch → Puts at parts old now → Puts at (part ∷ parts) old (now ++ branch ∷ [])
put_more at branch part parts old now first h = record { number = omega (arith, h.number, length-append now (branch ∷ [])); same = same }
  where
    same : (certs rest : List Cert) → length certs ≡ length (part ∷ parts) → stack_refutes (now ++ branch ∷ []) (certs ++ rest) ≡ (any_refutes at (part ∷ parts) certs && stack_refutes old rest)
    same [] rest many = absurd (omega (arith, many))
    same (cert ∷ certs) rest many =
        ap (λ (some : List Branch). all_refute some (cert ∷ certs ++ rest)) (top_first now branch)
        ∙ ap (λ (held : Bool). held && stack_refutes now (certs ++ rest)) (first cert)
        ∙ ap (λ (held : Bool). before part (stack_of at.todo.items) (met_literals at.met.items) cert && held) (h.same certs rest (omega (arith, many)))
        ∙ sym (and_assoc (before part (stack_of at.todo.items) (met_literals at.met.items) cert) (any_refutes at parts certs) (stack_refutes old rest))

dropped_at : {X : Type 0} (xs : List X) (n : ℕ) (x : X) → 0 < n → n ≤ length xs → x ≡ get_or xs (n - 1) x → drop (n - 1) xs ≡ x ∷ drop n xs
dropped_at {X} xs n x low high is =
    let back : n - 1 + 1 ≡ n = omega arith in
    at_drop_more (λ (rest : List X). rest) xs (n - 1) x (omega arith) ∙ rw (back, ← is) refl

pub put_one : (at branch : Branch) (parts : List Formula) (n : ℕ) (part : Formula) (old now after : List Branch) → 0 < n → n ≤ length parts → part ≡ get_or parts (n - 1) part → after ≡ now ++ branch ∷ []
    → PutsFirst at part branch → Puts at (drop n parts) old now → Puts at (drop (n - 1) parts) old after
put_one at branch parts n part old now after low high is push first h =
    subst (λ (some : List Formula). Puts at some old after) (sym (dropped_at parts n part low high is))
    (subst (Puts at (part ∷ drop n parts) old) (sym push) (put_more at branch part (drop n parts) old now first h))

pub all_put : (at : Branch) (parts : List Formula) (n count : ℕ) (old now : List Branch) → n ≡ 0 → length parts ≡ count → Puts at (drop n parts) old now → IsSplit at parts count old now true
all_put at parts n count old now none many h =
    subst (λ (size : ℕ). Replaces (any_refutes at parts) size old now) many (subst (λ (k : ℕ). Puts at (drop k parts) old now) none h)

pub put_in : (at : Branch) (copied after made : List (Bor Formula)) (first : Bor Formula) (cert : Cert) → copied ≡ at.todo.items → after ≡ copied ++ first ∷ [] → made ≡ at.met.items
    → stack_of after (met_literals made) cert ≡ before first.now (stack_of at.todo.items) (met_literals at.met.items) cert
put_in at copied after made first cert same push met_same =
    ap (λ (some : List (Bor Formula)). stack_of after (met_literals some) cert) met_same
    ∙ ap (λ (some : List (Bor Formula)). stack_of some (met_literals at.met.items) cert) (push ∙ ap (λ (some : List (Bor Formula)). some ++ first ∷ []) same)
    ∙ ap (λ (way : Todo). way (met_literals at.met.items) cert) (stack_of_push at.todo.items first)

-- ---- what comes of a branch by the first node of its certificate

same_held : (held other : List Cert → Bool) (count : ℕ) (old new : List Branch) (answer : Result Bool AllocError) → ((certs : List Cert) → length certs ≡ count → other certs ≡ held certs)
    → IfOk answer (ReplacesOrNot held count old new) → IfOk answer (ReplacesOrNot other count old new)
same_held held other count old new (Ok true) is h = record {
  number = h.number;
  same = λ certs rest many. h.same certs rest many ∙ ap (λ (one : Bool). one && stack_refutes old rest) (sym (is certs many));
}
same_held held other count old new (Ok false) is h = λ certs many. is certs many ∙ h certs many
same_held held other count old new (Err error) is h = tt

ended_layer : (todo : List (Bor Formula)) (literals : List Literal) (cert : Cert) (layer : Cert-F Cert) → cert ≡ roll-Cert layer → is_paused todo ≡ true → IsUnsplit layer → stack_of todo literals cert ≡ done literals cert
ended_layer todo literals cert (layers.Split certs) is paused un = absurd un
ended_layer todo literals cert (layers.Clash left right) is paused un =
    let p = pauses todo paused in
    let same = is ∙ certificates.rolls-Clash left right in
    p.is literals cert ∙ ap (by_cases p.ends literals) same ∙ by_clash p.ends literals left right ∙ p.closing.0 literals left right ∙ sym (ap (done literals) same ∙ by_clash closes literals left right)
ended_layer todo literals cert (layers.Chain combines) is paused un =
    let p = pauses todo paused in
    let same = is ∙ certificates.rolls-Chain combines in
    p.is literals cert ∙ ap (by_cases p.ends literals) same ∙ by_chain p.ends literals combines ∙ p.closing.1 literals combines ∙ sym (ap (done literals) same ∙ by_chain closes literals combines)
ended_layer todo literals cert (layers.Cases form below above) is paused un = absurd un

pub followed_end : (branch gathered : Branch) (cert : Cert) (met : List (Bor Formula)) (branches : List Branch) (answer : Result Bool AllocError) → Gathers branch gathered → met ≡ gathered.met.items
    → IfOk answer (λ closed. closed ≡ done (met_literals met) cert) → IfOk answer (IsFollowed branch (End cert) branches branches)
followed_end branch gathered cert met branches (Ok going) g is told = (
  λ un. told ∙ ap (λ (some : List (Bor Formula)). done (met_literals some) cert) is
      ∙ sym (g.same cert ∙ ended_layer gathered.todo.items (met_literals gathered.met.items) cert (out-Cert cert) (sym (roll-out-Cert cert)) g.paused un),
  refl,
)
followed_end branch gathered cert met branches (Err error) g is told = tt

pub followed_split : (branch gathered : Branch) (count : ℕ) (old new : List Branch) (answer : Result Bool AllocError) → Gathers branch gathered
    → IfOk answer (ReplacesOrNot (λ certs. branch_refutes gathered (certificates.Split certs)) count old new) → IfOk answer (IsFollowed branch (Parts count) old new)
followed_split branch gathered count old new answer g h =
    same_held (λ certs. branch_refutes gathered (certificates.Split certs)) (λ certs. branch_refutes branch (certificates.Split certs)) count old new answer (λ certs many. g.same (certificates.Split certs)) h

pub no_split_so : (branch : Branch) (count : ℕ) → branch.todo.items ≡ [] → (certs : List Cert) → length certs ≡ count → branch_refutes branch (certificates.Split certs) ≡ false
no_split_so branch count is certs many = no_split branch.todo.items (met_literals branch.met.items) certs is

pub split_so : (branch at : Branch) (any : Bor Formula) (parts : List Formula) (count : ℕ) (old new : List Branch) (answer : Result Bool AllocError) → branch.todo.items ≡ at.todo.items ++ any ∷ [] → any_parts any.now ≡ Some parts
    → branch.met.items ≡ at.met.items → IfOk answer (IsSplit at parts count old new) → IfOk answer (ReplacesOrNot (λ certs. branch_refutes branch (certificates.Split certs)) count old new)
split_so branch at any parts count old new answer popped are met h =
    same_held (any_refutes at parts) (λ certs. branch_refutes branch (certificates.Split certs)) count old new answer
    (λ certs many. split_there branch.todo.items at.todo.items any parts (met_literals branch.met.items) certs popped are
    ∙ ap (λ (some : List (Bor Formula)). each_way (map before parts) (stack_of at.todo.items) (met_literals some) certs) met)
    h

and_true : (a : Bool) → (a && true) ≡ a
and_true true = refl
and_true false = refl

sides_refute : (todo : List (Bor Formula)) (literals : List Literal) (form : Linear) (can : Bool) (below above : Cert) → (can && (stack_of todo (literals ++ Row form ∷ []) below && stack_of todo (literals ++ Row (one_less form) ∷ []) above))
    ≡ each_way (map before (rows_with form (if can then Some (one_less form) else None))) (stack_of todo) literals (below ∷ above ∷ [])
sides_refute todo literals form false below above = refl
sides_refute todo literals form true below above =
    ap (λ (low : Bool). low && stack_of todo (literals ++ Row (one_less form) ∷ []) above) (sym (row_before form (stack_of todo) literals below))
    ∙ ap (λ (high : Bool). before (formulas.Row form) (stack_of todo) literals below && high)
    (sym (row_before (one_less form) (stack_of todo) literals above) ∙ sym (and_true (before (formulas.Row (one_less form)) (stack_of todo) literals above)))

cases_refute : (branch gathered : Branch) (form : Linear) (certs : List Cert) → Gathers branch gathered → length certs ≡ 2 → branch_refutes branch (cases_of form certs) ≡ any_refutes gathered (both_rows form) certs
cases_refute branch gathered form [] g many = absurd (omega (arith, many))
cases_refute branch gathered form (one ∷ []) g many = absurd (omega (arith, many))
cases_refute branch gathered form (one ∷ other ∷ third ∷ certs) g many = absurd (omega (arith, many))
cases_refute branch gathered form (below ∷ above ∷ []) g many =
    g.same (certificates.Cases form below above)
    ∙ cases_there gathered.todo.items (met_literals gathered.met.items) (certificates.Cases form below above) form below above g.paused refl
    ∙ sides_refute gathered.todo.items (met_literals gathered.met.items) form (can_negate_linear form) below above

pub followed_cases : (branch gathered : Branch) (form : Linear) (rows : List Formula) (old new : List Branch) (answer : Result Bool AllocError) → Gathers branch gathered → rows ≡ both_rows form
    → IfOk answer (IsSplit gathered rows 2 old new) → IfOk answer (IsFollowed branch (Sides form) old new)
followed_cases branch gathered form rows old new answer g is h =
    same_held (any_refutes gathered rows) (λ certs. branch_refutes branch (cases_of form certs)) 2 old new answer
    (λ certs many. cases_refute branch gathered form certs g many ∙ ap (λ (some : List Formula). any_refutes gathered some certs) (sym is)) h

pub at_node : (branch : Branch) (node made : Node) (old new : List Branch) (answer : Result Bool AllocError) → node ≡ made → IfOk answer (IsFollowed branch made old new) → IfOk answer (IsFollowed branch node old new)
at_node branch node made old new answer is h = subst (λ (one : Node). IfOk answer (IsFollowed branch one old new)) (sym is) h

pub rows_there : (nodes : List Node) (rows : List (List Formula)) (i : ℕ) (node : Node) (row : List Formula) → rows ≡ map rows_of nodes → i < length nodes → node ≡ get_or nodes i node → row ≡ get_or rows i row → row ≡ rows_of node
rows_there nodes rows i node row all low is here = here ∙ ap (λ (some : List (List Formula)). get_or some i row) all ∙ by nodes i low ∙ ap rows_of (sym is)
  where
    by : (some : List Node) (at : ℕ) → at < length some → get_or (map rows_of some) at row ≡ rows_of (get_or some at node)
    by [] at below = absurd (omega (arith, below))
    by (one ∷ some) zero below = refl
    by (one ∷ some) (suc at) below = by some at (omega (arith, below))

-- ---- the nodes of a certificate, one after the other

-- certificates are left for the branches, whose nodes come next
pub record Follows (formula : Formula) (cert : Cert) (nodes : List Node) (branches : List Branch) : Type 0 where
  pub certs : List Cert
  pub rest : outlines_of certs ≡ nodes
  pub number : length certs ≡ length branches
  pub same : refutes formula cert ≡ stack_refutes branches certs

pub first_follows : (formula : Formula) (cert : Cert) (nodes : List Node) (empty branches : List Branch) (branch : Branch) → nodes ≡ outline_of cert → empty ≡ [] → branches ≡ empty ++ branch ∷ [] → IsFirst formula branch
    → Follows formula cert nodes branches
first_follows formula cert nodes empty branches branch is none push first =
    subst (Follows formula cert nodes) (sym (push ∙ ap (λ (some : List Branch). some ++ branch ∷ []) none)) (record {
      certs = cert ∷ [];
      rest = append-nil (outline_of cert) ∙ sym is;
      number = refl;
      same = sym (and_true (branch_refutes branch cert) ∙ first cert);
    })

-- a certificate is split, makes cases, or is one node
data Shape (cert : Cert) : Type 0 where
  a_split : (parts : List Cert) → cert ≡ certificates.Split parts → Shape cert
  some_cases : (form : Linear) (below above : Cert) → cert ≡ certificates.Cases form below above → Shape cert
  an_end : IsUnsplit (out-Cert cert) → outline_of cert ≡ End cert ∷ [] → Shape cert

shape_of : (cert : Cert) (layer : Cert-F Cert) → cert ≡ roll-Cert layer → Shape cert
shape_of cert (layers.Split parts) is = a_split parts (is ∙ certificates.rolls-Split parts)
shape_of cert (layers.Clash left right) is =
    let same = is ∙ certificates.rolls-Clash left right in
    an_end (subst IsUnsplit (sym (ap out-Cert is ∙ out-roll-Cert (layers.Clash left right))) tt)
    (ap outline_of same ∙ clash_outline left right ∙ ap (λ (one : Cert). End one ∷ []) (sym same))
shape_of cert (layers.Chain combines) is =
    let same = is ∙ certificates.rolls-Chain combines in
    an_end (subst IsUnsplit (sym (ap out-Cert is ∙ out-roll-Cert (layers.Chain combines))) tt)
    (ap outline_of same ∙ chain_outline combines ∙ ap (λ (one : Cert). End one ∷ []) (sym same))
shape_of cert (layers.Cases form below above) is = some_cases form below above (is ∙ certificates.rolls-Cases form below above)

shape : (cert : Cert) → Shape cert
shape cert = shape_of cert (out-Cert cert) (sym (roll-out-Cert cert))

heads : (x y : Node) (xs ys : List Node) → x ∷ xs ≡ y ∷ ys → (x ≡ y) × (xs ≡ ys)
heads x y xs ys is = (ap (first x) is, ap rest is)
  where
    first : Node → List Node → Node
    first d [] = d
    first d (one ∷ more) = one

    rest : List Node → List Node
    rest [] = []
    rest (one ∷ more) = more

split_nodes : (cert : Cert) (parts certs : List Cert) → cert ≡ certificates.Split parts → outlines_of (cert ∷ certs) ≡ Parts (length parts) ∷ outlines_of (parts ++ certs)
split_nodes cert parts certs is =
    ap (λ (nodes : List Node). nodes ++ outlines_of certs) (ap outline_of is ∙ split_outline parts)
    ∙ ap (λ (nodes : List Node). Parts (length parts) ∷ nodes) (sym (flat_map-append outline_of parts certs))

cases_nodes : (cert : Cert) (form : Linear) (below above : Cert) (certs : List Cert) → cert ≡ certificates.Cases form below above → outlines_of (cert ∷ certs) ≡ Sides form ∷ outlines_of ((below ∷ above ∷ []) ++ certs)
cases_nodes cert form below above certs is =
    ap (λ (nodes : List Node). nodes ++ outlines_of certs) (ap outline_of is ∙ cases_outline form below above)
    ∙ ap (λ (nodes : List Node). Sides form ∷ nodes) (sym (flat_map-append outline_of (below ∷ above ∷ []) certs))

-- what comes of the branch on top
pub record Step (formula : Formula) (cert : Cert) (nodes : List Node) (after : List Branch) (going : Bool) : Type 0 where
  pub goes : going ≡ true → Follows formula cert nodes after
  pub fails : going ≡ false → false ≡ refutes formula cert

by_parts : (formula : Formula) (cert one : Cert) (make : List Cert → Cert) (parts certs : List Cert) (nodes : List Node) (branch : Branch) (rest after : List Branch) (going : Bool) → outlines_of (parts ++ certs) ≡ nodes
    → length (one ∷ certs) ≡ length (branch ∷ rest) → refutes formula cert ≡ (branch_refutes branch one && stack_refutes rest certs) → one ≡ make parts
    → ReplacesOrNot (λ some. branch_refutes branch (make some)) (length parts) rest after going → Step formula cert nodes after going
by_parts formula cert one make parts certs nodes branch rest after true left number same is h = record {
  goes = λ g. record {
    certs = parts ++ certs;
    rest = left;
    number = omega (arith, number, h.number, length-append parts certs);
    same = same ∙ ap (λ (some : Cert). branch_refutes branch some && stack_refutes rest certs) is ∙ sym (h.same parts certs refl);
  };
  fails = λ g. absurd (true≢false g);
}
by_parts formula cert one make parts certs nodes branch rest after false left number same is h = record {
  goes = λ g. absurd (false≢true g);
  fails = λ g. sym (same ∙ ap (λ (some : Cert). branch_refutes branch some && stack_refutes rest certs) is ∙ ap (λ (held : Bool). held && stack_refutes rest certs) (h parts refl));
}

by_end : (formula : Formula) (cert one : Cert) (certs : List Cert) (nodes : List Node) (branch : Branch) (rest after : List Branch) (going : Bool) → outlines_of certs ≡ nodes
    → length (one ∷ certs) ≡ length (branch ∷ rest) → refutes formula cert ≡ (branch_refutes branch one && stack_refutes rest certs)
    → going ≡ branch_refutes branch one → after ≡ rest → Step formula cert nodes after going
by_end formula cert one certs nodes branch rest after going left number same told kept = record {
  goes = λ g. subst (Follows formula cert nodes) (sym kept) (record {
    certs = certs;
    rest = left;
    number = omega (arith, number);
    same = same ∙ ap (λ (held : Bool). held && stack_refutes rest certs) (sym told ∙ g);
  });
  fails = λ g. sym (same ∙ ap (λ (held : Bool). held && stack_refutes rest certs) (sym told ∙ g));
}

by_shape : (formula : Formula) (cert one : Cert) (certs : List Cert) (node : Node) (nodes : List Node) (branch : Branch) (rest after : List Branch) (going : Bool) → Shape one
    → outlines_of (one ∷ certs) ≡ node ∷ nodes → length (one ∷ certs) ≡ length (branch ∷ rest) → refutes formula cert ≡ (branch_refutes branch one && stack_refutes rest certs)
    → IsFollowed branch node rest after going → Step formula cert nodes after going
by_shape formula cert one certs node nodes branch rest after going (a_split parts is) left number same h =
    let at = heads (Parts (length parts)) node (outlines_of (parts ++ certs)) nodes (sym (split_nodes one parts certs is) ∙ left) in
    by_parts formula cert one certificates.Split parts certs nodes branch rest after going at.1 number same is (subst (λ (some : Node). IsFollowed branch some rest after going) (sym at.0) h)
by_shape formula cert one certs node nodes branch rest after going (some_cases form below above is) left number same h =
    let at = heads (Sides form) node (outlines_of ((below ∷ above ∷ []) ++ certs)) nodes (sym (cases_nodes one form below above certs is) ∙ left) in
    by_parts formula cert one (cases_of form) (below ∷ above ∷ []) certs nodes branch rest after going at.1 number same is (subst (λ (some : Node). IsFollowed branch some rest after going) (sym at.0) h)
by_shape formula cert one certs node nodes branch rest after going (an_end un is) left number same h =
    let at = heads (End one) node (outlines_of certs) nodes (sym (ap (λ (some : List Node). some ++ outlines_of certs) is) ∙ left) in
    let told = subst (λ (some : Node). IsFollowed branch some rest after going) (sym at.0) h in
    by_end formula cert one certs nodes branch rest after going at.1 number same (told.0 un) told.1

pub steps : (formula : Formula) (cert : Cert) (node : Node) (nodes : List Node) (branches rest after : List Branch) (branch : Branch) (going : Bool) → branches ≡ rest ++ branch ∷ []
    → IsFollowed branch node rest after going → Follows formula cert (node ∷ nodes) branches → Step formula cert nodes after going
steps formula cert node nodes branches rest after branch going popped h f = by f.certs f.rest (f.number ∙ ap length popped) (f.same ∙ ap (λ (some : List Branch). stack_refutes some f.certs) popped)
  where
    by : (certs : List Cert) → outlines_of certs ≡ node ∷ nodes → length certs ≡ length (rest ++ branch ∷ []) → refutes formula cert ≡ stack_refutes (rest ++ branch ∷ []) certs → Step formula cert nodes after going
    by [] left number same = absurd (omega (arith, ap length left))
    by (one ∷ certs) left number same =
        by_shape formula cert one certs node nodes branch rest after going (shape one) left (omega (arith, number, length-append rest (branch ∷ [])))
        (same ∙ ap (λ (some : List Branch). all_refute some (one ∷ certs)) (top_first rest branch)) h

-- where no node is left, nor is a branch
pub none_left : (formula : Formula) (cert : Cert) (nodes : List Node) (branches : List Branch) → nodes ≡ [] → Follows formula cert nodes branches → true ≡ refutes formula cert
none_left formula cert nodes branches none f = by f.certs (f.rest ∙ none) f.number f.same
  where
    first : (one : Cert) (certs : List Cert) → outlines_of (one ∷ certs) ≡ [] → Shape one → ⊥
    first one certs is (a_split parts same) = absurd (omega (arith, ap length (sym (split_nodes one parts certs same) ∙ is)))
    first one certs is (some_cases form below above same) = absurd (omega (arith, ap length (sym (cases_nodes one form below above certs same) ∙ is)))
    first one certs is (an_end un same) = absurd (omega (arith, ap length (sym (ap (λ (some : List Node). some ++ outlines_of certs) same) ∙ is)))

    no_branch : (some : List Branch) → length some ≡ 0 → stack_refutes some [] ≡ true
    no_branch [] number = refl
    no_branch (branch ∷ some) number = absurd (omega (arith, number))

    by : (certs : List Cert) → outlines_of certs ≡ [] → length certs ≡ length branches → refutes formula cert ≡ stack_refutes branches certs → true ≡ refutes formula cert
    by [] left number same = sym (same ∙ no_branch branches (sym number))
    by (one ∷ certs) left number same = absurd (first one certs left (shape one))

-- ---- by the place in the list

pub next_there : (nodes : List Node) (n : ℕ) (node : Node) → n < length nodes → node ≡ get_or nodes n node → drop n nodes ≡ node ∷ drop (n + 1) nodes
next_there nodes n node low is = at_drop_more (λ (rest : List Node). rest) nodes n node low ∙ ap (λ (one : Node). one ∷ drop (n + 1) nodes) (sym is)

pub all_gone : (nodes : List Node) (n : ℕ) → length nodes ≤ n → drop n nodes ≡ []
all_gone nodes n end = by (drop n nodes) (length-drop n nodes)
  where
    by : (some : List Node) → length some ≡ length nodes - n → some ≡ []
    by [] size = refl
    by (node ∷ some) size = absurd (omega (arith, size, end))

pub no_branch : (formula : Formula) (cert : Cert) (nodes : List Node) (n : ℕ) (branches : List Branch) → n < length nodes → branches ≡ [] → Follows formula cert (drop n nodes) branches → ⊥
no_branch formula cert nodes n branches low none f = by f.certs (f.number ∙ ap length none) f.rest
  where
    by : (certs : List Cert) → length certs ≡ 0 → outlines_of certs ≡ drop n nodes → ⊥
    by [] number rest = absurd (omega (arith, ap length rest, length-drop n nodes, low))
    by (one ∷ certs) number rest = absurd (omega (arith, number))

pub step_there : (formula : Formula) (cert : Cert) (nodes : List Node) (n : ℕ) (node : Node) (branches rest after : List Branch) (branch : Branch) (going : Bool) → n < length nodes → node ≡ get_or nodes n node
    → branches ≡ rest ++ branch ∷ [] → IsFollowed branch node rest after going → Follows formula cert (drop n nodes) branches → Step formula cert (drop (n + 1) nodes) after going
step_there formula cert nodes n node branches rest after branch going low is popped h f =
    steps formula cert node (drop (n + 1) nodes) branches rest after branch going popped h (subst (λ (some : List Node). Follows formula cert some branches) (next_there nodes n node low is) f)
