-- How calls are counted: up to one more than the limit.
use Rattle.std.specs.Prelude.{ℕ, ◌+◌, nat_lt, if◌then◌else◌, List, [], ◌∷◌, Result, Ok, Err}
use Rattle.lang_tree.specs.declared.tree.Item.{Item}
use Rattle.lang_base.specs.Limits.{CALLS}
use Rattle.lang_script.specs.Scripts.{call_count}
use Rattle.lang_script.specs.Faults.{place_of}

-- one more than the limit stands for every greater count
abbrev pub ABOVE : ℕ
ABOVE = CALLS + 1

-- how many calls there are with these items after so many before, or where the first item stands
-- with which they are above the limit
abbrev pub counted : ℕ → List Item → Result ℕ ℕ
counted before [] = Ok before
counted before (item ∷ more) =
    if nat_lt CALLS (before + call_count item) then Err (place_of item)
    else counted (before + call_count item) more
