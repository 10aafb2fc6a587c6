-- Flattened forms: how many times each name of a scope counts, and a constant.
use Rattle.std.specs.Prelude.{ℕ, ◌≤◌, ℤ, pos, neg_ℤ, ◌+ℤ◌, ◌*ℤ◌, Bool, ◌&&◌, List, [], ◌∷◌, map}
use Rattle.std.specs.Prelude.{Option, Some, length, slice_set, if◌then◌else◌}
use Rattle.lang_base.specs.Limits.{FIELDS, GREATEST_CONSTANT, INPUTS, MOST_TIMES}
use Rattle.lang_base.specs.Numbers.{is_within}
use Rattle.std.specs.List.{list_all}
use Rattle.std.specs.List.Sorted.{IsStrictlyIncreasing}
use Rattle.std.specs.Ordering.{int_eq}
use Rattle.lang_tree.specs.declared.tree.Decl.{Decl}
use Rattle.lang_tree.specs.declared.tree.MethodTree.{MethodTree}
use Rattle.logic_linear.specs.declared.form.Term.{Term}
use Rattle.logic_linear.specs.Linear.{Linear}
use Rattle.lang_forms.specs.declared.scope.Meaning.{Meaning}
use Rattle.lang_forms.specs.declared.scope.Meaning.TheVariants as meanings
use Rattle.lang_forms.specs.declared.scope.Entry.{Entry}
use Rattle.lang_forms.specs.Scope.{index_of, entry_at, field_count, scope_of}

-- `times` has a number for each entry of the scope, in its order
pub record Form : Type 0 where
  pub times : List ℤ
  pub constant : ℤ

abbrev pub no_times : List Entry → List ℤ
no_times scope = map (λ entry. pos 0) scope

abbrev pub number_form : List Entry → ℤ → Form
number_form scope number = record { times = no_times scope; constant = number }

-- the entry at an index, once
abbrev pub once : List Entry → ℕ → Form
once scope index = record { times = slice_set (no_times scope) index (pos 1); constant = pos 0 }

-- What a name counts as. A bool and an unknown name are no number; they count as 0 where no rule
-- looks.
abbrev pub meaning_form : List Entry → ℕ → Meaning → Form
meaning_form scope index (meanings.Number number) = number_form scope number
meaning_form scope index (meanings.Int place) = once scope index
meaning_form scope index (meanings.Flag place) = number_form scope (pos 0)

abbrev pub entry_form : List Entry → Option ℕ → Option Entry → Form
entry_form scope (Some index) (Some entry) = meaning_form scope index entry.meaning
entry_form scope index entry = number_form scope (pos 0)

abbrev pub name_form : List Entry → List ℕ → Form
name_form scope name = entry_form scope (index_of scope name) (entry_at scope (index_of scope name))

-- number by number
abbrev pub added : List ℤ → List ℤ → List ℤ
added (a ∷ more) (b ∷ others) = (a +ℤ b) ∷ added more others
added more others = []

abbrev pub plus : Form → Form → Form
plus a b = record { times = added a.times b.times; constant = a.constant +ℤ b.constant }

abbrev pub scaled : ℤ → Form → Form
scaled by form = record {
  times = map (λ number. by *ℤ number) form.times;
  constant = by *ℤ form.constant;
}

abbrev pub opposite : Form → Form
opposite form = scaled (neg_ℤ (pos 1)) form

abbrev pub minus : Form → Form → Form
minus a b = plus a (opposite b)

abbrev pub raised : ℤ → Form → Form
raised by form = record { times = form.times; constant = form.constant +ℤ by }

-- no name counts
abbrev pub is_constant : Form → Bool
is_constant form = list_all (λ number. int_eq number (pos 0)) form.times

-- the product of two forms, of which one at least is constant
abbrev pub product : Form → Form → Form
product a b = if is_constant a then scaled a.constant b else scaled b.constant a

-- the numbers of names and the constant have a magnitude of at most their limits
abbrev pub is_limited : Form → Bool
is_limited form =
    list_all (is_within MOST_TIMES) form.times && is_within GREATEST_CONSTANT form.constant

-- ---- as a linear form over places

abbrev pub meaning_place : Meaning → ℕ
meaning_place (meanings.Number number) = 0
meaning_place (meanings.Int place) = place
meaning_place (meanings.Flag place) = place

-- names that count 0 times are dropped
abbrev pub terms_of : List Entry → List ℤ → List Term
terms_of (entry ∷ scope) (number ∷ times) =
    if int_eq number (pos 0) then terms_of scope times
    else record { place = meaning_place entry.meaning; times = number } ∷ terms_of scope times
terms_of scope times = []

abbrev pub linear_of : List Entry → Form → Linear
linear_of scope form = record { terms = terms_of scope form.times; constant = form.constant }

-- ---- the order of a scope

-- the place, where there is one, before the others; a constant has none
abbrev pub meaning_places : Meaning → List ℕ → List ℕ
meaning_places (meanings.Number number) others = others
meaning_places (meanings.Int place) others = place ∷ others
meaning_places (meanings.Flag place) others = place ∷ others

abbrev pub places_of : List Entry → List ℕ
places_of [] = []
places_of (entry ∷ scope) = meaning_places entry.meaning (places_of scope)

-- The places of the entries that are no constants rise strictly.
abbrev pub IsOrdered : List Entry → Type 0
IsOrdered scope = IsStrictlyIncreasing (places_of scope)

-- with no more fields than a monitor has, and no more inputs than a method has, the scope of a
-- method is ordered
abbrev pub HasOrderedScope : List Decl → MethodTree → Type 0
HasOrderedScope declared method =
    field_count declared ≤ FIELDS → length method.inputs ≤ INPUTS
    → IsOrdered (scope_of declared method)
