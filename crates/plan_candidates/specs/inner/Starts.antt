-- The numbers with which fields may start, as the code computes them.
use Rattle.std.specs.Prelude.{ℕ, ◌^◌, ◌==◌, ℤ, pos, neg_ℤ, ◌-ℤ◌, int_le, Bool, true, List, map}
use Rattle.std.specs.Prelude.{Option, None, Some, slice_get, if◌then◌else◌}
use Rattle.lang_base.specs.declared.value.Value.{Value}
use Rattle.lang_monitor.specs.declared.candidate.Candidate.{Candidate}
use Rattle.lang_monitor.specs.declared.candidate.Candidate.TheVariants as candidates
use Rattle.lang_monitor.specs.declared.monitor.Field.{Field}
use Rattle.lang_monitor.specs.declared.start.Limit.{Limit}
use Rattle.lang_monitor.specs.declared.start.Limit.TheVariants as limits
use Rattle.lang_monitor.specs.declared.start.Origin.{Origin}
use Rattle.lang_monitor.specs.declared.start.Origin.TheVariants as origins
use Rattle.lang_monitor.specs.Bodies.{number_of_value}
use Rattle.lang_monitor.specs.Candidates.{candidate_truth}

-- the values where nothing is chosen
abbrev pub starts : List Field → List Value
starts fields = map (λ field. field.start) fields

-- ---- the field itself, or the parameter that it copies

abbrev pub root_of : ℕ → Origin → ℕ
root_of place origins.Own = place
root_of place (origins.Chosen limit) = place
root_of place (origins.Copied parameter) = parameter

abbrev pub root_found : ℕ → Option Field → ℕ
root_found place None = place
root_found place (Some field) = root_of place field.origin

abbrev pub root_at : List Field → ℕ → ℕ
root_at fields place = root_found place (slice_get fields place)

-- ---- the least and the greatest number

abbrev pub LEAST : ℤ
LEAST = neg_ℤ (pos (2 ^ 63))

abbrev pub MOST : ℤ
MOST = pos (2 ^ 63) -ℤ pos 1

abbrev pub least_in : Limit → ℤ
least_in (limits.Exactly only) = only
least_in (limits.AtMost bound) = LEAST
least_in (limits.AtLeast bound) = if int_le bound LEAST then LEAST else bound

abbrev pub most_in : Limit → ℤ
most_in (limits.Exactly only) = only
most_in (limits.AtMost bound) = if int_le MOST bound then MOST else bound
most_in (limits.AtLeast bound) = MOST

abbrev pub least_of : Value → Origin → ℤ
least_of own origins.Own = number_of_value own
least_of own (origins.Chosen limit) = least_in limit
least_of own (origins.Copied parameter) = number_of_value own

abbrev pub most_of : Value → Origin → ℤ
most_of own origins.Own = number_of_value own
most_of own (origins.Chosen limit) = most_in limit
most_of own (origins.Copied parameter) = number_of_value own

abbrev pub least_found : Option Field → ℤ
least_found None = pos 0
least_found (Some field) = least_of field.start field.origin

abbrev pub most_found : Option Field → ℤ
most_found None = pos 0
most_found (Some field) = most_of field.start field.origin

-- of a field at its place
abbrev pub least_at : List Field → ℕ → ℤ
least_at fields place = least_found (slice_get fields (root_at fields place))

abbrev pub most_at : List Field → ℕ → ℤ
most_at fields place = most_found (slice_get fields (root_at fields place))

-- ---- the test

abbrev pub starts_below : List Field → ℕ → ℕ → Bool
starts_below fields left right =
    if root_at fields left == root_at fields right then true
    else int_le (most_at fields left) (least_at fields right)

abbrev pub starts_true : List Field → Candidate → Bool
starts_true fields (candidates.AtMost field bound) = int_le (most_at fields field) bound
starts_true fields (candidates.AtLeast field bound) = int_le bound (least_at fields field)
starts_true fields (candidates.Flag field is) =
    candidate_truth (starts fields) (candidates.Flag field is)
starts_true fields (candidates.Below left right) = starts_below fields left right
