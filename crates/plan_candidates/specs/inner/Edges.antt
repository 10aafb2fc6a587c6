-- A start at which one parameter has its greatest number, and each other one its least, as the code
-- makes it.
use Rattle.std.specs.Prelude.{ℕ, suc, ◌==◌, ℤ, pos, Bool, true, false, List, [], ◌∷◌}
use Rattle.std.specs.Prelude.{Option, None, Some, slice_get}
use Rattle.lang_base.specs.declared.value.Value.{Value}
use Rattle.lang_base.specs.declared.value.Value.TheVariants as values
use Rattle.lang_monitor.specs.declared.candidate.Candidate.{Candidate}
use Rattle.lang_monitor.specs.declared.candidate.Candidate.TheVariants as candidates
use Rattle.lang_monitor.specs.declared.monitor.Field.{Field}
use Rattle.lang_monitor.specs.declared.start.Limit.{Limit}
use Rattle.lang_monitor.specs.declared.start.Origin.{Origin}
use Rattle.lang_monitor.specs.declared.start.Origin.TheVariants as origins
use Rattle.plan_candidates.specs.inner.Starts.{least_in, most_in, root_at}

abbrev pub chosen : Bool → Limit → ℤ
chosen true limit = most_in limit
chosen false limit = least_in limit

abbrev pub picked : Bool → Value → Origin → Value
picked top own origins.Own = own
picked top own (origins.Chosen limit) = values.Int (chosen top limit)
picked top own (origins.Copied parameter) = own

abbrev pub picked_found : Bool → Option Field → Value
picked_found top None = values.Int (pos 0)
picked_found top (Some field) = picked top field.start field.origin

-- the value of the field at this place, where the parameter at `top` has its greatest number
abbrev pub picked_at : List Field → ℕ → ℕ → Value
picked_at fields top place =
    picked_found (root_at fields place == top) (slice_get fields (root_at fields place))

abbrev pub picked_from : List Field → ℕ → ℕ → List Field → List Value
picked_from all top number [] = []
picked_from all top number (field ∷ fields) =
    picked_at all top number ∷ picked_from all top (suc number) fields

-- the value of each field
abbrev pub edge : List Field → ℕ → List Value
edge fields top = picked_from fields top 0 fields

-- which parameter is to have its greatest number, so that the candidate is false if it may be: of
-- `field >= bound` none that it is about
abbrev pub top_of : List Field → Candidate → ℕ
top_of fields (candidates.AtMost field bound) = root_at fields field
top_of fields (candidates.AtLeast field bound) = suc (root_at fields field)
top_of fields (candidates.Flag field is) = 0
top_of fields (candidates.Below left right) = root_at fields left
