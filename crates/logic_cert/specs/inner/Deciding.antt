-- For private contracts: the test that decides whether a certificate refutes a formula.
use Rattle.std.specs.Prelude.{Bool, true, false, ◌&&◌, List, [], ◌∷◌, ◌++◌, map}
use Rattle.logic_linear.specs.declared.formula.Formula.{Formula}
use Rattle.logic_linear.specs.declared.formula.Formula.TheOpen.{Formula-F, Row as RowLayer}
use Rattle.logic_linear.specs.declared.formula.Formula.TheOpen.{Flag as FlagLayer, All as Every}
use Rattle.logic_linear.specs.declared.formula.Formula.TheOpen.{Any as Some_of}
use Rattle.logic_linear.specs.declared.formula.Formula.TheFolds.{fold-Formula}
use Rattle.logic_linear.specs.Negation.{can_negate_linear, one_less}
use Rattle.logic_cert.specs.declared.cert.Literal.{Literal}
use Rattle.logic_cert.specs.declared.cert.Literal.TheVariants.{Row, Flag}
use Rattle.logic_cert.specs.declared.cert.Cert.{Cert}
use Rattle.logic_cert.specs.declared.cert.Cert.TheOpen.{Cert-F, Split, Clash, Chain, Cases}
use Rattle.logic_cert.specs.declared.cert.Cert.TheFolds.{fold-Cert, map-Cert}
use Rattle.logic_cert.specs.declared.cert.Cert.TheViews.{roll-Cert}
use Rattle.logic_cert.specs.Refutes.{closes}

-- What is left to do: whether a certificate refutes it, given the literals gathered before.
abbrev pub Todo : Type 0
Todo = List Literal → Cert → Bool

-- Whether a certificate that makes no cases refutes what is next.
abbrev pub Ends : Type 0
Ends = List Literal → Cert-F Cert → Bool

-- A certificate, and whether it refutes what is next, given the literals gathered before.
abbrev pub Way : Type 0
Way = Cert × (List Literal → Bool)

-- One layer of a certificate: of cases each side does with its row, and another one by itself.
abbrev pub way_layer : Ends → Cert-F Way → List Literal → Bool
way_layer ends (Split ways) literals = ends literals (Split (map (λ way. way.0) ways))
way_layer ends (Clash left right) literals = ends literals (Clash left right)
way_layer ends (Chain combines) literals = ends literals (Chain combines)
way_layer ends (Cases form below above) literals =
    can_negate_linear form && (below.1 (literals ++ Row form ∷ [])
    && above.1 (literals ++ Row (one_less form) ∷ []))

abbrev pub whole_layer : Ends → Cert-F Way → Way
whole_layer ends layer = (roll-Cert (map-Cert Way Cert (λ way. way.0) layer), way_layer ends layer)

abbrev pub way_of : Ends → Cert → Way
way_of ends = fold-Cert Way (whole_layer ends)

-- Cases are made, as many as there are, before what is next is ended.
abbrev pub by_cases : Ends → Todo
by_cases ends literals cert = (way_of ends cert).1 literals

-- Nothing is left to do.
abbrev pub done : Todo
done = by_cases closes

-- The parts of an all, in order, and then the rest.
abbrev pub in_order : List (Todo → Todo) → Todo → Todo
in_order [] rest = rest
in_order (part ∷ parts) rest = part (in_order parts rest)

-- Each part of an any, each with a certificate of its own.
abbrev pub each_way : List (Todo → Todo) → Todo → List Literal → List Cert → Bool
each_way [] rest literals [] = true
each_way (part ∷ parts) rest literals (cert ∷ certs) =
    part rest literals cert && each_way parts rest literals certs
each_way parts rest literals certs = false

-- An any, with a split or closed by a clash or a chain.
abbrev pub at_any : List (Todo → Todo) → Todo → Ends
at_any parts rest literals (Split certs) = each_way parts rest literals certs
at_any parts rest literals (Clash left right) = closes literals (Clash left right)
at_any parts rest literals (Chain combines) = closes literals (Chain combines)
at_any parts rest literals (Cases form below above) = false

-- One layer of a formula put before the rest.
abbrev pub before_layer : Formula-F (Todo → Todo) → Todo → Todo
before_layer (RowLayer form) rest literals cert = rest (literals ++ Row form ∷ []) cert
before_layer (FlagLayer place is) rest literals cert = rest (literals ++ Flag place is ∷ []) cert
before_layer (Every parts) rest literals cert = in_order parts rest literals cert
before_layer (Some_of parts) rest literals cert = by_cases (at_any parts rest) literals cert

-- A formula put before the rest.
abbrev pub before : Formula → Todo → Todo
before = fold-Formula (Todo → Todo) before_layer

-- The formulas to do, the first one first.
abbrev pub todo_of : List Formula → Todo
todo_of formulas = in_order (map before formulas) done

-- The certificate refutes the formula.
abbrev pub refutes : Formula → Cert → Bool
refutes formula cert = before formula done [] cert
