-- The bounds within which the code makes forms.
use Rattle.std.specs.Prelude.{◌≡◌, ℕ, ◌^◌, ◌*◌, ◌<◌, ℤ, pos, neg_ℤ, ◌≤ℤ◌, true, List, [], ◌∷◌, All}
use Rattle.std.specs.List.{list_all}
use Rattle.lang_base.specs.Limits.{GREATEST_CONSTANT, MOST_TIMES}
use Rattle.lang_base.specs.Numbers.{is_within}
use Rattle.lang_forms.specs.declared.scope.Meaning.{Meaning}
use Rattle.lang_forms.specs.declared.scope.Meaning.TheVariants as meanings
use Rattle.lang_forms.specs.declared.scope.Entry.{Entry}
use Rattle.lang_forms.specs.Forms.{Form}

-- ---- forms of a scope

-- a constant counts in the constant of a form
abbrev pub CanCount : Meaning → ℤ → Type 0
CanCount (meanings.Number value) number = number ≡ pos 0
CanCount (meanings.Int place) number = Unit {0}
CanCount (meanings.Flag place) number = Unit {0}

-- a number for each entry, and 0 for a constant
abbrev pub AreTimesOf : List Entry → List ℤ → Type 0
AreTimesOf [] [] = Unit {0}
AreTimesOf (entry ∷ scope) (number ∷ times) = CanCount entry.meaning number × AreTimesOf scope times
AreTimesOf [] (number ∷ times) = ⊥
AreTimesOf (entry ∷ scope) [] = ⊥

abbrev pub IsFormOf : List Entry → Form → Type 0
IsFormOf scope form = AreTimesOf scope form.times

-- ---- the bounds within which the code adds up forms

abbrev pub IsWithin : ℕ → ℤ → Type 0
IsWithin bound number = (neg_ℤ (pos bound) ≤ℤ number) × (number ≤ℤ pos bound)

-- each number has a magnitude of at most so many times the limit
abbrev pub AreTimesWithin : ℕ → List ℤ → Type 0
AreTimesWithin parts times = All (IsWithin (parts * MOST_TIMES)) times

-- A sum of so many limited forms: its numbers are at most so many times as large as those of one.
pub record AreWithin (parts : ℕ) (form : Form) : Type 0 where
  pub each : AreTimesWithin parts form.times
  pub above : neg_ℤ (pos (parts * GREATEST_CONSTANT)) ≤ℤ form.constant
  pub below : form.constant ≤ℤ pos (parts * GREATEST_CONSTANT)

-- so few parts that one more can be added
abbrev pub HasRoom : Form → Type 0
HasRoom form = (parts : ℕ) × (parts < 2 ^ 62) × AreWithin parts form

-- each number has a magnitude of at most 2^94, so that a linear form takes it
pub record FitsLinear (form : Form) : Type 0 where
  pub each : list_all (is_within (2 ^ 94)) form.times ≡ true
  pub whole : is_within (2 ^ 94) form.constant ≡ true
