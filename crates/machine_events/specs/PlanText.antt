-- The text of a plan.
use Rattle.std.specs.Prelude.{ℕ, ◌+◌, ◌-◌, Bool, true, false, nat_le, List, [], ◌∷◌, ◌++◌, map}
use Rattle.std.specs.Prelude.{slice_get, codes, decimal, Option, Some, None, if◌then◌else◌}
use Rattle.std.specs.Fmt.{signed_decimal}
use Rattle.std.specs.List.{flat_map, zip, enumerate_from}
use Rattle.std.specs.Option.{option_map_or}
use Rattle.lang_base.specs.Texts.{joined}
use Rattle.lang_monitor.specs.declared.candidate.Candidate.{Candidate}
use Rattle.lang_monitor.specs.declared.candidate.Candidate.TheVariants as candidates
use Rattle.lang_monitor.specs.declared.monitor.Field.{Field}
use Rattle.lang_monitor.specs.declared.monitor.Method.{Method}
use Rattle.lang_monitor.specs.declared.monitor.Condition.{Condition}
use Rattle.lang_monitor.specs.MonitorParts.{MonitorParts, first_in, count_in}
use Rattle.machine_events.specs.declared.plan.CondKind.{CondKind}
use Rattle.machine_events.specs.declared.plan.CondKind.TheVariants as kinds
use Rattle.machine_events.specs.declared.plan.Note.{Note}
use Rattle.machine_events.specs.declared.plan.Plan.{Plan}

-- ---- names, and none where there is no such field, method or block: a plan that fits its monitor
-- names those that there are

abbrev pub field_name : Option Field → List ℕ
field_name None = []
field_name (Some field) = field.name

abbrev pub method_name : Option Method → List ℕ
method_name None = []
method_name (Some method) = method.name

-- `.2`: the number, from 1, of a block among so many of its method; nothing for the only one
abbrev pub block_mark : ℕ → ℕ → List ℕ
block_mark count number = if nat_le count 1 then [] else codes "." ++ decimal number

-- `put`, or `pair.2`: a method, and the block of it that has this number in the monitor
abbrev pub name_in : Option Method → ℕ → List ℕ
name_in method block =
    method_name method ++ block_mark (count_in method) (block - first_in method + 1)

-- the name of a block, by its number in the monitor
abbrev pub block_name : MonitorParts → ℕ → List ℕ
block_name monitor block =
    option_map_or (λ held. name_in (slice_get monitor.methods held.method) block)
    (slice_get monitor.blocks block) []

-- ---- kept candidates

-- what stands before a bool field that is true, or that is false
abbrev pub flag_mark : Bool → List ℕ
flag_mark true = []
flag_mark false = codes "!"

-- `x <= 4`, `x >= -1`, `b`, `!b`, `x <= y`
abbrev pub candidate_text : List Field → Candidate → List ℕ
candidate_text fields (candidates.AtMost field bound) =
    field_name (slice_get fields field) ++ codes " <= " ++ signed_decimal bound
candidate_text fields (candidates.AtLeast field bound) =
    field_name (slice_get fields field) ++ codes " >= " ++ signed_decimal bound
candidate_text fields (candidates.Flag field is) =
    flag_mark is ++ field_name (slice_get fields field)
candidate_text fields (candidates.Below left right) =
    field_name (slice_get fields left) ++ codes " <= " ++ field_name (slice_get fields right)

-- `keep x <= 4` and a line feed
abbrev pub kept_text : List Field → Candidate → List ℕ
kept_text fields candidate = codes "keep " ++ candidate_text fields candidate ++ codes "\n"

-- ---- conditions

abbrev pub kind_text : CondKind → List ℕ
kind_text kinds.Signal = codes "signal"
kind_text kinds.Broadcast = codes "broadcast"

-- `condition 1 signal: x < 4` and a line feed, with the guard as the first block of the condition
-- has it
abbrev pub condition_text : ℕ → Condition → CondKind → List ℕ
condition_text number condition kind =
    codes "condition " ++ decimal number ++ codes " " ++ kind_text kind ++ codes ": "
    ++ condition.shown ++ codes "\n"

-- a line for each condition, with its kind; they are numbered from 1
abbrev pub conditions_text : List Condition → List CondKind → List ℕ
conditions_text conditions kinds =
    flat_map (λ one. condition_text one.0 one.1.0 one.1.1) (enumerate_from 1 (zip conditions kinds))

-- ---- notes

-- of which kind a note is
abbrev pub note_kind : Bool → CondKind
note_kind true = kinds.Broadcast
note_kind false = kinds.Signal

abbrev pub tested_text : Bool → List ℕ
tested_text true = codes " tested"
tested_text false = []

-- `3 signal tested`: a note, by its condition's number
abbrev pub note_text : Note → List ℕ
note_text note =
    decimal note.condition ++ codes " " ++ kind_text (note_kind note.all) ++ tested_text note.tested

-- `1 broadcast, 3 signal tested`, or `none`
abbrev pub notes_text : List Note → List ℕ
notes_text [] = codes "none"
notes_text (note ∷ notes) = joined (codes ", ") (map note_text (note ∷ notes))

-- `block put: 2 signal` and a line feed: a block, by its number, and its notes
abbrev pub block_text : MonitorParts → ℕ → List Note → List ℕ
block_text monitor block notes =
    codes "block " ++ block_name monitor block ++ codes ": " ++ notes_text notes ++ codes "\n"

-- a line for each block, with its notes; they are numbered from 0
abbrev pub blocks_text : MonitorParts → List (List Note) → List ℕ
blocks_text monitor lists =
    flat_map (λ one. block_text monitor one.0 one.1) (enumerate_from 0 lists)

-- ---- the whole

-- the monitor's name, then the kept candidates, the conditions and the blocks, a line each
abbrev pub plan_text : MonitorParts → Plan → List ℕ
plan_text monitor plan =
    codes "plan " ++ monitor.name ++ codes "\n"
    ++ flat_map (kept_text monitor.fields) plan.kept
    ++ conditions_text monitor.conditions plan.kinds
    ++ blocks_text monitor plan.notes
