-- With which values a monitor may be opened.
use Rattle.std.specs.Prelude.{◌≡◌, ◌^◌, ℤ, pos, neg_ℤ, int_le, int_lt, Bool, true, ◌&&◌, List, []}
use Rattle.std.specs.Prelude.{◌∷◌, Some, slice_get}
use Rattle.lang_base.specs.declared.value.Value.{Value}
use Rattle.lang_base.specs.declared.value.Value.TheVariants as values
use Rattle.lang_monitor.specs.declared.monitor.Field.{Field}
use Rattle.lang_monitor.specs.declared.start.Limit.{Limit}
use Rattle.lang_monitor.specs.declared.start.Limit.TheVariants as limits
use Rattle.lang_monitor.specs.declared.start.Origin.{Origin}
use Rattle.lang_monitor.specs.declared.start.Origin.TheVariants as origins

-- the value is within 64 bits
abbrev pub fits_64 : Value → Bool
fits_64 (values.Int number) = int_le (neg_ℤ (pos (2 ^ 63))) number && int_lt number (pos (2 ^ 63))
fits_64 (values.Bool truth) = true

-- a parameter with this limit may have the number
abbrev pub Admits : Limit → ℤ → Type 0
Admits (limits.Exactly only) number = number ≡ only
Admits (limits.AtMost bound) number = int_le number bound ≡ true
Admits (limits.AtLeast bound) number = int_le bound number ≡ true

-- the number with which a limit compares
abbrev pub limit_number : Limit → ℤ
limit_number (limits.Exactly only) = only
limit_number (limits.AtMost bound) = bound
limit_number (limits.AtLeast bound) = bound

-- What a field may start with in a monitor that is opened with these values: its own value, a
-- number of 64 bits that its limit admits, or what the parameter has that it copies.
abbrev pub MayStart : List Value → Value → Origin → Value → Type 0
MayStart all own origins.Own value = value ≡ own
MayStart all own (origins.Chosen limit) (values.Int number) =
    Admits limit number × (fits_64 (values.Int number) ≡ true)
MayStart all own (origins.Chosen limit) (values.Bool truth) = ⊥
MayStart all own (origins.Copied parameter) value = slice_get all parameter ≡ Some value

-- one value for each field, in order
abbrev pub AreStarts : List Value → List Field → List Value → Type 0
AreStarts all [] [] = Unit {0}
AreStarts all (field ∷ fields) (value ∷ more) =
    MayStart all field.start field.origin value × AreStarts all fields more
AreStarts all some_fields some_values = ⊥

-- the fields may start with these values
abbrev pub IsStart : List Field → List Value → Type 0
IsStart fields start = AreStarts start fields start

-- the fields as they are where the monitor is opened with these values
abbrev pub started : List Field → List Value → List Field
started [] some_values = []
started (field ∷ fields) [] = field ∷ fields
started (field ∷ fields) (value ∷ more) =
    record { name = field.name; kind = field.kind; start = value; origin = field.origin }
    ∷ started fields more
