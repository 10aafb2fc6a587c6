-- Letters, and how a name is written with them.
use Rattle.std.specs.Prelude.{ℕ, ◌+◌, ◌-◌, Bool, true, false, ◌&&◌, ◌==◌, nat_le, List, [], ◌∷◌}
use Rattle.std.specs.Prelude.{if◌then◌else◌}
use Rattle.lang_base.specs.Identifiers.{is_letter}
use Rattle.emit_names.specs.declared.style.Style.{Style}
use Rattle.emit_names.specs.declared.style.Style.TheVariants as styles

abbrev pub is_lower : ℕ → Bool
is_lower b = nat_le 97 b && nat_le b 122

abbrev pub is_upper : ℕ → Bool
is_upper b = nat_le 65 b && nat_le b 90

abbrev pub lower : ℕ → ℕ
lower b = if is_upper b then b + 32 else b

abbrev pub upper : ℕ → ℕ
upper b = if is_lower b then b - 32 else b

abbrev pub cased : Style → ℕ → ℕ
cased styles.Kept b = b
cased styles.Snake b = lower b
cased styles.Upper b = upper b

-- an upper-case letter after a lower-case one begins a word, unless the name is written as it
-- stands
abbrev pub begins_word : Style → ℕ → ℕ → Bool
begins_word styles.Kept before b = false
begins_word styles.Snake before b = is_lower before && is_upper b
begins_word styles.Upper before b = is_lower before && is_upper b

-- with a `_` before it, where a word begins
abbrev pub marked : Bool → List ℕ → List ℕ
marked true text = 95 ∷ text
marked false text = text

-- a name after this byte; 0 where none comes before it
abbrev pub spelled : Style → ℕ → List ℕ → List ℕ
spelled style before [] = []
spelled style before (b ∷ more) =
    marked (begins_word style before b) (cased style b ∷ spelled style b more)

-- `startRead` and `start_read` have one
abbrev pub snake : List ℕ → List ℕ
snake = spelled styles.Snake 0

-- ---- the name of a type

-- the first byte is a letter or a `_`
abbrev pub starts : List ℕ → Bool
starts [] = false
starts (b ∷ more) = is_letter b

-- as it stands, or raised
abbrev pub raised : Bool → ℕ → ℕ
raised true b = upper b
raised false b = b

-- a `_` before a letter or another `_` is left out, and the letter after it is raised
abbrev pub camel_from : Bool → List ℕ → List ℕ
camel_from raise [] = []
camel_from raise (b ∷ more) =
    if b == 95 && starts more then camel_from true more
    else raised raise b ∷ camel_from false more

-- `readers_writers` becomes `ReadersWriters`
abbrev pub camel : List ℕ → List ℕ
camel = camel_from true
