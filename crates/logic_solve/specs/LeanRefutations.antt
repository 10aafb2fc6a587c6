-- Refutations by chains in which each made row is needed.
use Rattle.std.specs.Prelude.{◌≡◌, ℕ, List, length, Some, slice_get}
use Rattle.logic_linear.specs.declared.formula.Formula.{Formula}
use Rattle.logic_cert.specs.declared.cert.Cert.{Cert, out-Cert}
use Rattle.logic_cert.specs.declared.cert.Cert.TheOpen.{Cert-F, Split, Clash, Chain, Cases}
use Rattle.logic_cert.specs.declared.cert.Literal.{Literal}
use Rattle.logic_cert.specs.Refutes.{RefutesFrom, row, flag, every, split, closed, ended}
use Rattle.logic_cert.specs.Refutes.{cases, last_cases}
use Rattle.logic_elim.specs.LeanChains.{IsLean}

-- Where it is a chain over so many literals, each made row is needed.
abbrev pub IsLeanEnd : ℕ → Cert-F Cert → Type 0
IsLeanEnd count (Split certs) = Unit {0}
IsLeanEnd count (Clash left right) = Unit {0}
IsLeanEnd count (Chain combines) = IsLean count combines
IsLeanEnd count (Cases form below above) = Unit {0}

-- Each chain of the refutation is so.
abbrev pub HasLeanChains : {todo : List Formula} {literals : List Literal} {cert : Cert}
    → RefutesFrom todo literals cert → Type 0
HasLeanChains (row form todo literals cert rest) = HasLeanChains rest
HasLeanChains (flag place is todo literals cert rest) = HasLeanChains rest
HasLeanChains (every parts todo literals cert rest) = HasLeanChains rest
HasLeanChains (split parts certs todo literals count each) =
    (i : ℕ) (part : Formula) (cert : Cert) (at : slice_get parts i
    ≡ Some part) (is : slice_get certs i ≡ Some cert)
    → HasLeanChains (each i part cert at is)
HasLeanChains (closed parts todo literals cert closes) = IsLeanEnd (length literals) (out-Cert cert)
HasLeanChains (ended literals cert closes) = IsLeanEnd (length literals) (out-Cert cert)
HasLeanChains (cases form below above parts todo literals can low high) =
    HasLeanChains low × HasLeanChains high
HasLeanChains (last_cases form below above literals can low high) =
    HasLeanChains low × HasLeanChains high

-- The certificate refutes the formulas to do, by such chains.
abbrev pub RefutesLeanly : List Formula → List Literal → Cert → Type 0
RefutesLeanly todo literals cert = (is : RefutesFrom todo literals cert) × HasLeanChains is
