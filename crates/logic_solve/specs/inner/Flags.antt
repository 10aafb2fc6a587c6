-- For private contracts: flags whose opposite is looked for once.
use Rattle.std.specs.Global.{Global}
use Rattle.std.specs.Prelude.{Vec, ◌≡◌, ℕ, Bool, false, not, ◌&&◌, ◌==◌, if◌then◌else◌, List}
use Rattle.std.specs.Prelude.{Option, Some, None}
use Rattle.std.specs.List.{list_any, position, AllByRecursion as Each}
use Rattle.logic_cert.specs.declared.cert.Cert.{Cert}
use Rattle.logic_cert.specs.declared.cert.Literal.{Literal}
use Rattle.logic_cert.specs.declared.cert.Literal.TheVariants.{Flag}
use Rattle.logic_solve.specs.declared.flags.Clear.{Clear}
use Rattle.logic_solve.specs.Cubes.{is_opposite, HasNoClash}
use Rattle.logic_solve.specs.inner.Literals.{Closes}

-- The flag is the one at the place with this truth.
abbrev pub is_same : ℕ → Bool → Clear → Bool
is_same place is clear = (clear.place == place) && (if clear.is then is else not is)

-- It is one of these.
abbrev pub is_clear : ℕ → Bool → List Clear → Bool
is_clear place is clear = list_any (is_same place is) clear

-- No literal is the opposite of the literal.
abbrev pub IsUnopposed : List Literal → Literal → Type 0
IsUnopposed literals literal = list_any (is_opposite literal) literals ≡ false

abbrev pub AreClear : List Literal → List Clear → Type 0
AreClear literals clear =
    Each (λ (flag : Clear). IsUnopposed literals (Flag flag.place flag.is)) clear

-- The literal's opposite was found, or there is none, and flags that are noted have none still.
abbrev pub Looks : List Literal → Literal → List Clear → Vec Clear Global → Option ℕ → Type 0
Looks literals literal clear after (Some other) =
    position (is_opposite literal) literals ≡ Some other
Looks literals literal clear after None =
    AreClear literals clear → AreClear literals after.items × IsUnopposed literals literal

-- No literal is another's flag with the other truth, or the certificate says which.
abbrev pub HasClash : List Literal → Option Cert → Type 0
HasClash literals None = HasNoClash literals
HasClash literals (Some cert) = Closes literals cert
