-- For private contracts: what is left to refute, as the code keeps it.
use Rattle.std.specs.Prelude.{◌≡◌, ◌<◌, ℕ, ◌+◌, Bool, true, false, ◌&&◌, List, [], ◌∷◌, ◌++◌, map}
use Rattle.std.specs.Prelude.{Option, Some, None}
use Rattle.std.specs.Borrow.{Bor}
use Rattle.std.specs.Global.{Vec}
use Rattle.std.specs.List.{list_all}
use Rattle.logic_linear.specs.declared.formula.Formula.{Formula, out-Formula}
use Rattle.logic_linear.specs.declared.formula.Formula.TheOpen.{Formula-F, Row, Flag, All, Any}
use Rattle.logic_linear.specs.Linear.{Linear}
use Rattle.logic_linear.specs.Negation.{can_negate_linear, one_less}
use Rattle.logic_linear.specs.Measures.{nodes_of}
use Rattle.logic_cert.specs.declared.acceptance.Branch.{Branch}
use Rattle.logic_cert.specs.declared.cert.Literal.{Literal}
use Rattle.logic_cert.specs.declared.cert.Literal.TheVariants as literals
use Rattle.logic_cert.specs.declared.cert.Cert.{Cert}
use Rattle.logic_cert.specs.declared.cert.Cert.TheOpen.{Cert-F, Split, Clash, Chain, Cases}
use Rattle.logic_cert.specs.declared.cert.Cert.TheFolds.{fold-Cert}
use Rattle.logic_cert.specs.inner.Deciding.{Todo, done, before, each_way, in_order}

-- ---- formulas to do, the last one first

abbrev pub stack_on : List Formula → Todo → Todo
stack_on [] rest = rest
stack_on (formula ∷ formulas) rest = stack_on formulas (before formula rest)

-- The formulas that are referred to.
abbrev pub shown : List (Bor Formula) → List Formula
shown formulas = map (λ formula. formula.now) formulas

-- The formulas that are referred to, as what is left to do.
abbrev pub stack_of : List (Bor Formula) → Todo
stack_of formulas = stack_on (shown formulas) done

abbrev pub weight : List Formula → ℕ
weight [] = 0
weight (formula ∷ formulas) = nodes_of formula + weight formulas

-- The nodes of the formulas that are referred to.
abbrev pub weight_of : List (Bor Formula) → ℕ
weight_of formulas = weight (shown formulas)

-- Parts put before what is left to do.
abbrev pub put_before : List Formula → List (Bor Formula) → Todo
put_before parts todo = in_order (map before parts) (stack_of todo)

-- The parts of an any.
abbrev pub parts_layer : Formula-F Formula → Option (List Formula)
parts_layer (Row form) = None
parts_layer (Flag place is) = None
parts_layer (All parts) = None
parts_layer (Any parts) = Some parts

abbrev pub any_parts : Formula → Option (List Formula)
any_parts formula = parts_layer (out-Formula formula)

abbrev pub is_some : Option (List Formula) → Bool
is_some None = false
is_some (Some parts) = true

-- No formula is left to do, or an any is next.
abbrev pub is_paused : List (Bor Formula) → Bool
is_paused [] = true
is_paused (formula ∷ []) = is_some (any_parts formula.now)
is_paused (formula ∷ next ∷ formulas) = is_paused (next ∷ formulas)

-- The formulas have as many nodes more as the parts.
abbrev pub Outweighs : List Formula → List (Bor Formula) → List (Bor Formula) → Type 0
Outweighs parts old new = weight_of new ≡ weight parts + weight_of old

-- ---- how large a certificate is

abbrev pub total : List ℕ → ℕ
total [] = 0
total (x ∷ xs) = x + total xs

abbrev pub size_layer : Cert-F ℕ → ℕ
size_layer (Split sizes) = 1 + total sizes
size_layer (Clash left right) = 1
size_layer (Chain combines) = 1
size_layer (Cases form below above) = 1 + (below + above)

abbrev pub size_of : Cert → ℕ
size_of = fold-Cert ℕ size_layer

abbrev pub sizes_of : List Cert → ℕ
sizes_of certs = total (map size_of certs)

-- ---- branches

-- The branch's certificate refutes what is left to do there.
abbrev pub branch_refutes : Branch → Bool
branch_refutes branch = stack_of branch.todo.items branch.literals.items branch.cert.now

-- Each branch's does.
abbrev pub all_refute : List Branch → Bool
all_refute branches = list_all branch_refutes branches

-- The size of the certificates of the branches.
abbrev pub branches_size : List Branch → ℕ
branches_size branches = total (map (λ branch. size_of branch.cert.now) branches)

-- The formulas of a branch were done up to an any, or all were.
pub record Gathers (old new : Branch) : Type 0 where
  pub same : branch_refutes old ≡ branch_refutes new
  pub cert : new.cert ≡ old.cert
  pub paused : is_paused new.todo.items ≡ true

-- The certificates refute the parts, each put before what is left to do at a branch.
abbrev pub any_refutes : Branch → List Formula → List Cert → Bool
any_refutes branch parts certs =
    each_way (map before parts) (stack_of branch.todo.items) branch.literals.items certs

-- Branches were put on the list that refute exactly where this holds; or it does not hold.
abbrev pub Replaces : Bool → Vec Branch → Vec Branch → Bool → Type 0
Replaces held old new true = (held && all_refute old.items) ≡ all_refute new.items
Replaces held old new false = held ≡ false

-- The certificates that were put on the list are smaller than that of the branch.
abbrev pub Shrinks : Branch → Vec Branch → Vec Branch → Bool → Type 0
Shrinks branch old new true =
    branches_size new.items < size_of branch.cert.now + branches_size old.items
Shrinks branch old new false = Unit {0}

-- Branches were put on the list for the parts of an any.
abbrev pub Splits : Branch → List Formula → List Cert → Vec Branch → Vec Branch → Bool → Type 0
Splits branch parts certs old new even = Replaces (any_refutes branch parts certs) old new even

-- The branch is the one in which a formula is put before the others.
abbrev pub PutsFirst : List (Bor Formula) → Formula → List Literal → Cert → Branch → Type 0
PutsFirst todo first literals cert branch =
    branch_refutes branch ≡ before first (stack_of todo) literals cert

-- ---- cases

-- The certificate refutes what is left to do at a branch where a row is gathered too.
abbrev pub side_refutes : Branch → Linear → Cert → Bool
side_refutes branch row cert =
    stack_of branch.todo.items (branch.literals.items ++ literals.Row row ∷ []) cert

-- The certificates of both sides of a form do.
abbrev pub cases_refute : Branch → Linear → Cert → Cert → Bool
cases_refute branch form below above =
    can_negate_linear form
    && (side_refutes branch form below && side_refutes branch (one_less form) above)

-- Branches were put on the list for both sides of a form.
abbrev pub MakesCases : Branch → Linear → Cert → Cert → Vec Branch → Vec Branch → Bool → Type 0
MakesCases branch form below above old new made =
    Replaces (cases_refute branch form below above) old new made

-- The branch is the one in which a row is gathered too.
abbrev pub TakesRow : Branch → Linear → Cert → Branch → Type 0
TakesRow at row cert branch = branch_refutes branch ≡ side_refutes at row cert
