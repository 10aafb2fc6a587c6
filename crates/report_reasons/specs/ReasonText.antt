-- The lines of reasons.
use Rattle.std.specs.Prelude.{ℕ, ◌+◌, ◌==◌, Bool, List, [], ◌++◌, length, slice_get, codes, decimal}
use Rattle.std.specs.Prelude.{Option, Some, None, if◌then◌else◌}
use Rattle.std.specs.Fmt.{signed_decimal}
use Rattle.std.specs.List.{find, flat_map, enumerate_from}
use Rattle.std.specs.Option.{option_map_or}
use Rattle.lang_base.specs.Limits.{FIRST_INPUT, FIRST_LOCAL}
use Rattle.lang_base.specs.declared.kind.Kind.{Kind}
use Rattle.lang_base.specs.declared.kind.Kind.TheVariants as kinds
use Rattle.lang_base.specs.declared.value.Value.{Value}
use Rattle.lang_tree.specs.declared.tree.Decl.{Decl}
use Rattle.lang_tree.specs.declared.tree.InputTree.{InputTree}
use Rattle.lang_tree.specs.declared.tree.MethodTree.{MethodTree}
use Rattle.lang_tree.specs.declared.tree.MonitorTree.{MonitorTree}
use Rattle.lang_tree.specs.Names.{declared_name}
use Rattle.logic_linear.specs.Truth.{Valuation}
use Rattle.lang_printer.specs.Canonical.{truth_text}
use Rattle.lang_monitor.specs.declared.monitor.Block.{Block}
use Rattle.lang_monitor.specs.declared.monitor.Field.{Field}
use Rattle.lang_monitor.specs.declared.monitor.Method.{Method}
use Rattle.lang_monitor.specs.MonitorParts.{MonitorParts, kind_of}
use Rattle.machine_events.specs.PlanText.{block_name}
use Rattle.logic_solve.specs.declared.valuation.Solution.{Solution}
use Rattle.logic_solve.specs.Solutions.{valuation_of}
use Rattle.plan_why.specs.declared.reason.Answer.{Answer}
use Rattle.plan_why.specs.declared.reason.Answer.TheVariants as answers
use Rattle.plan_why.specs.declared.reason.Reason.{Reason}
use Rattle.plan_why.specs.declared.reason.Thing.{Thing}
use Rattle.plan_why.specs.declared.reason.Thing.TheVariants as things
use Rattle.plan_why.specs.Things.{reads_none}

-- ---- values

-- what stands at a place of this kind: a number, or `true` or `false`
abbrev pub value_text : Valuation → Kind → ℕ → List ℕ
value_text v kinds.Int place = signed_decimal (v.number place)
value_text v kinds.Bool place = truth_text (v.flag place)

-- `readers=0`
abbrev pub named_text : Valuation → List ℕ → Kind → ℕ → List ℕ
named_text v name kind place = name ++ codes "=" ++ value_text v kind place

-- ` readers=0`: a field, by its number
abbrev pub field_text : Valuation → ℕ → Field → List ℕ
field_text v number field = codes " " ++ named_text v field.name field.kind number

-- ` readers=0 writing=false`
abbrev pub fields_text : Valuation → List Field → List ℕ
fields_text v fields = flat_map (λ one. field_text v one.0 one.1) (enumerate_from 0 fields)

-- ---- inputs and locals

-- what stands before the first one, and before each other
abbrev pub opening : ℕ → List ℕ
opening number = if number == 0 then codes "(" else codes " "

-- what stands after so many
abbrev pub closing : ℕ → List ℕ
closing count = if count == 0 then [] else codes ")"

-- names that the file has, and none where there is no such method, input or local

abbrev pub inputs_in : Option MethodTree → List InputTree
inputs_in None = []
inputs_in (Some method) = method.inputs

abbrev pub locals_in : Option MethodTree → List Decl
locals_in None = []
locals_in (Some method) = method.locals

abbrev pub input_name : Option InputTree → List ℕ
input_name None = []
input_name (Some input) = input.name

abbrev pub local_name : Option Decl → List ℕ
local_name None = []
local_name (Some local) = declared_name local

-- an input, by its number; the first one has this place
abbrev pub input_text : Valuation → ℕ → List InputTree → ℕ → Kind → List ℕ
input_text v first inputs number kind =
    opening number ++ named_text v (input_name (slice_get inputs number)) kind (first + number)

-- a local, by its number, after so many inputs; the first one has this place
abbrev pub local_text : Valuation → ℕ → List Decl → ℕ → ℕ → Value → List ℕ
local_text v first locals before number value =
    opening (before + number)
    ++ named_text v (local_name (slice_get locals number)) (kind_of value) (first + number)

abbrev pub inputs_text : Valuation → ℕ → List InputTree → List Kind → List ℕ
inputs_text v first inputs kinds =
    flat_map (λ one. input_text v first inputs one.0 one.1) (enumerate_from 0 kinds)

abbrev pub locals_text : Valuation → ℕ → List Decl → ℕ → List Value → List ℕ
locals_text v first locals before values =
    flat_map (λ one. local_text v first locals before one.0 one.1) (enumerate_from 0 values)

-- `(n=3 left=1)`: the inputs and locals of a method, or nothing where it has none; their places are
-- so many further than those of a block that runs
abbrev pub call_text : Valuation → ℕ → Option MethodTree → Method → List ℕ
call_text v further names method =
    inputs_text v (further + FIRST_INPUT) (inputs_in names) method.inputs
    ++ locals_text v (further + FIRST_LOCAL) (locals_in names) (length method.inputs) method.locals
    ++ closing (length method.inputs + length method.locals)

-- the same, by the method's number
abbrev pub method_text : MonitorTree → MonitorParts → Valuation → ℕ → ℕ → List ℕ
method_text tree monitor v further number =
    option_map_or (call_text v further (slice_get tree.methods number))
    (slice_get monitor.methods number) []

-- the same of the method of a block
abbrev pub client_text : MonitorTree → MonitorParts → Valuation → ℕ → Option Block → List ℕ
client_text tree monitor v further block =
    option_map_or (λ held. method_text tree monitor v further held.method) block []

-- ---- blocks and conditions

-- `put(n=3)`: a block that runs
abbrev pub running_text : MonitorTree → MonitorParts → Valuation → ℕ → List ℕ
running_text tree monitor v block =
    block_name monitor block ++ client_text tree monitor v 0 (slice_get monitor.blocks block)

abbrev pub waits_at : ℕ → Block → Bool
waits_at condition block = block.condition == condition

-- the inputs and locals of a client that waits at the condition, where its guard reads such; they
-- have the names of those of the condition's first block
abbrev pub waiting_client_text : MonitorTree → MonitorParts → Valuation → ℕ → List ℕ
waiting_client_text tree monitor v condition =
    if reads_none monitor condition then []
    else client_text tree monitor v FIRST_INPUT (find (waits_at condition) monitor.blocks)

-- `2(k=4)`: a condition
abbrev pub waiting_text : MonitorTree → MonitorParts → Valuation → ℕ → List ℕ
waiting_text tree monitor v condition =
    decimal condition ++ waiting_client_text tree monitor v condition

-- `put(n=3) 2(k=4)`
abbrev pub noted_text : MonitorTree → MonitorParts → Valuation → ℕ → ℕ → List ℕ
noted_text tree monitor v block condition =
    running_text tree monitor v block ++ codes " " ++ waiting_text tree monitor v condition

-- a thing, and the block that shows that it is needed
abbrev pub heading_text : MonitorTree → MonitorParts → Valuation → Thing → ℕ → List ℕ
heading_text tree monitor v (things.Note own condition) block =
    noted_text tree monitor v block condition
heading_text tree monitor v (things.Broadcast condition) block =
    decimal condition ++ codes " broadcast " ++ running_text tree monitor v block
heading_text tree monitor v (things.Test own condition) block =
    noted_text tree monitor v block condition ++ codes " tested"

-- `put 2`
abbrev pub pair_text : MonitorParts → ℕ → ℕ → List ℕ
pair_text monitor block condition = block_name monitor block ++ codes " " ++ decimal condition

-- a thing alone
abbrev pub thing_text : MonitorParts → Thing → List ℕ
thing_text monitor (things.Note block condition) = pair_text monitor block condition
thing_text monitor (things.Broadcast condition) = decimal condition ++ codes " broadcast"
thing_text monitor (things.Test block condition) =
    pair_text monitor block condition ++ codes " tested"

-- ---- lines

-- the fields after the body, where they were computed
abbrev pub after_text : MonitorParts → Option Solution → List ℕ
after_text monitor None = codes " numbers beyond 128 bits"
after_text monitor (Some last) = fields_text (valuation_of last) monitor.fields

-- ` readers=0 writing=false to readers=1 writing=false`
abbrev pub change_text : MonitorParts → Solution → Option Solution → List ℕ
change_text monitor before after =
    fields_text (valuation_of before) monitor.fields ++ codes " to" ++ after_text monitor after

-- a thing that is needed, the block that shows it, and the fields before and after its body
abbrev pub shown_text : MonitorTree → MonitorParts → Thing → ℕ → Solution → Option Solution → List ℕ
shown_text tree monitor thing block before after =
    heading_text tree monitor (valuation_of before) thing block ++ codes ":"
    ++ change_text monitor before after

abbrev pub answer_text : MonitorTree → MonitorParts → Thing → Answer → List ℕ
answer_text tree monitor thing (answers.Shown block before after) =
    shown_text tree monitor thing block before after
answer_text tree monitor thing answers.Undecided = thing_text monitor thing ++ codes ": not decided"

-- `why startRead 2: readers=0 to readers=1`, `why 2 broadcast endRead: readers=2 to readers=1`,
-- `why endRead 4 tested: readers=2 to readers=1` or `why startRead 2: not decided`, and a line feed
abbrev pub reason_text : MonitorTree → MonitorParts → Reason → List ℕ
reason_text tree monitor reason =
    codes "why " ++ answer_text tree monitor reason.thing reason.answer ++ codes "\n"

-- a line for each reason
abbrev pub reasons_text : MonitorTree → MonitorParts → List Reason → List ℕ
reasons_text tree monitor reasons = flat_map (reason_text tree monitor) reasons
