-- For private contracts: what is left to refute, as the code keeps it.
use Rattle.std.specs.Prelude.{◌≡◌, ◌+◌, ℕ, ⊤, Bool, true, false, ◌&&◌, List, [], ◌∷◌, ◌++◌, map}
use Rattle.std.specs.Prelude.{length, drop, reverse, Option, Some, None}
use Rattle.std.specs.Borrow.{Bor}
use Rattle.std.specs.List.{flat_map}
use Rattle.logic_linear.specs.declared.formula.Formula.{Formula, out-Formula}
use Rattle.logic_linear.specs.declared.formula.Formula.TheOpen as formula_layers
use Rattle.logic_linear.specs.declared.formula.Formula.TheOpen.{Formula-F}
use Rattle.logic_linear.specs.declared.formula.Formula.TheVariants as formulas
use Rattle.logic_linear.specs.Linear.{Linear}
use Rattle.logic_cert.specs.declared.cert.Literal.{Literal}
use Rattle.logic_cert.specs.declared.cert.Literal.TheVariants.{Row, Flag}
use Rattle.logic_cert.specs.declared.cert.Cert.{Cert, out-Cert}
use Rattle.logic_cert.specs.declared.cert.Cert.TheOpen.{Cert-F, Split, Clash, Chain, Cases}
use Rattle.logic_cert.specs.declared.cert.Cert.TheVariants as certificates
use Rattle.logic_cert.specs.Refutes.{upper_row}
use Rattle.logic_cert.specs.inner.Branches.{is_paused, stack_of}
use Rattle.logic_cert.specs.inner.Deciding.{before, each_way, refutes}
use Rattle.logic_outline.specs.declared.acceptance.Branch.{Branch}
use Rattle.logic_outline.specs.declared.outline.Node.{Node}
use Rattle.logic_outline.specs.declared.outline.Node.TheVariants.{Parts, End, Sides}
use Rattle.logic_outline.specs.Outlines.{first_of}

-- ---- literals

-- The literal of a row or a flag.
abbrev pub literal_layer : Formula-F Formula → List Literal
literal_layer (formula_layers.Row form) = Row form ∷ []
literal_layer (formula_layers.Flag place is) = Flag place is ∷ []
literal_layer (formula_layers.All parts) = []
literal_layer (formula_layers.Any parts) = []

abbrev pub literal_in : Formula → List Literal
literal_in formula = literal_layer (out-Formula formula)

-- The literals of the rows and flags that are referred to.
abbrev pub met_literals : List (Bor Formula) → List Literal
met_literals met = flat_map (λ formula. literal_in formula.now) met

-- The row or flag of a literal.
abbrev pub formula_of : Literal → Formula
formula_of (Row form) = formulas.Row form
formula_of (Flag place is) = formulas.Flag place is

-- ---- branches

-- The certificate refutes what is left to do at the branch.
abbrev pub branch_refutes : Branch → Cert → Bool
branch_refutes branch cert = stack_of branch.todo.items (met_literals branch.met.items) cert

-- Each does at its branch.
abbrev pub all_refute : List Branch → List Cert → Bool
all_refute [] certs = true
all_refute (branch ∷ branches) [] = true
all_refute (branch ∷ branches) (cert ∷ certs) =
    branch_refutes branch cert && all_refute branches certs

-- The same, where the last branch comes first.
abbrev pub stack_refutes : List Branch → List Cert → Bool
stack_refutes branches certs = all_refute (reverse branches) certs

-- The branch of a formula alone.
abbrev pub IsFirst : Formula → Branch → Type 0
IsFirst formula branch = (cert : Cert) → branch_refutes branch cert ≡ refutes formula cert

-- The formulas of a branch were done up to an any, or all were.
pub record Gathers (old new : Branch) : Type 0 where
  pub same : (cert : Cert) → branch_refutes old cert ≡ branch_refutes new cert
  pub paused : is_paused new.todo.items ≡ true

-- The certificates refute the parts, each put before what is left to do at a branch.
abbrev pub any_refutes : Branch → List Formula → List Cert → Bool
any_refutes branch parts certs =
    each_way (map before parts) (stack_of branch.todo.items) (met_literals branch.met.items) certs

-- So many branches were put on the list, which refute exactly where this holds.
pub record Replaces (held : List Cert → Bool) (count : ℕ) (old new : List Branch) : Type 0 where
  pub number : length new ≡ length old + count
  pub same : (certs rest : List Cert) → length certs ≡ count
      → stack_refutes new (certs ++ rest) ≡ (held certs && stack_refutes old rest)

-- They were, or it never holds.
abbrev pub ReplacesOrNot : (List Cert → Bool) → ℕ → List Branch → List Branch → Bool → Type 0
ReplacesOrNot held count old new true = Replaces held count old new
ReplacesOrNot held count old new false =
    (certs : List Cert) → length certs ≡ count → held certs ≡ false

-- Branches were put on the list for the parts of an any.
abbrev pub IsSplit : Branch → List Formula → ℕ → List Branch → List Branch → Bool → Type 0
IsSplit at parts count old new even =
    ReplacesOrNot (any_refutes at parts) count old new even

-- The rows of both sides of a form, where that of the upper side can be made.
abbrev pub rows_with : Linear → Option Linear → List Formula
rows_with form None = []
rows_with form (Some upper) = formulas.Row form ∷ formulas.Row upper ∷ []

abbrev pub both_rows : Linear → List Formula
both_rows form = rows_with form (upper_row form)

-- Those of a node that makes cases.
abbrev pub rows_of : Node → List Formula
rows_of (Parts count) = []
rows_of (End cert) = []
rows_of (Sides form) = both_rows form

-- The cases of a form, with the first two certificates.
abbrev pub cases_of : Linear → List Cert → Cert
cases_of form certs = certificates.Cases form (first_of certs) (first_of (drop 1 certs))

-- A clash or a chain.
abbrev pub IsUnsplit : Cert-F Cert → Type 0
IsUnsplit (Split certs) = ⊥
IsUnsplit (Clash left right) = ⊤
IsUnsplit (Chain combines) = ⊤
IsUnsplit (Cases form below above) = ⊥

-- What came of a branch by the first node of its certificate.
abbrev pub IsFollowed : Branch → Node → List Branch → List Branch → Bool → Type 0
IsFollowed branch (Parts count) old new going =
    ReplacesOrNot (λ certs. branch_refutes branch (certificates.Split certs)) count old new going
IsFollowed branch (End cert) old new going =
    (IsUnsplit (out-Cert cert) → going ≡ branch_refutes branch cert) × (new ≡ old)
IsFollowed branch (Sides form) old new going =
    ReplacesOrNot (λ certs. branch_refutes branch (cases_of form certs)) 2 old new going

-- The branch is the one in which a formula is put before the others.
abbrev pub PutsFirst : Branch → Formula → Branch → Type 0
PutsFirst at first branch =
    (cert : Cert) → branch_refutes branch cert
    ≡ before first (stack_of at.todo.items) (met_literals at.met.items) cert
