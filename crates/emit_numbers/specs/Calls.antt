-- What a call does of the function that is printed of a block's body.
use Rattle.std.specs.Prelude.{Bool, true, false, not, ◌&&◌, List, [], ◌∷◌, map, Option, Some, None}
use Rattle.std.specs.Prelude.{ℤ, if◌then◌else◌}
use Rattle.std.specs.List.{list_all}
use Rattle.lang_tree.specs.declared.tree.Expr.{Expr}
use Rattle.lang_tree.specs.declared.tree.StmtTree.{StmtTree, out-StmtTree}
use Rattle.lang_tree.specs.declared.tree.StmtTree.TheOpen.{StmtTree-F, Set, If, Return}
use Rattle.lang_tree.specs.declared.tree.StmtTree.TheFolds.{fold-StmtTree}
use Rattle.lang_base.specs.declared.value.Value.{Value}
use Rattle.lang_base.specs.declared.value.Value.TheVariants as values
use Rattle.lang_forms.specs.declared.scope.Meaning.{Meaning}
use Rattle.lang_forms.specs.declared.scope.Meaning.TheVariants as meanings
use Rattle.lang_forms.specs.declared.scope.Entry.{Entry}
use Rattle.lang_forms.specs.Scope.{scope_of, entry_named}
use Rattle.lang_forms.specs.Plain.{Plain, number, truth, truth_in, plain_value}
use Rattle.lang_monitor.specs.Bodies.{Inputs, Memory, memory_of, reading, with_value, fits_64}
use Rattle.machine_implicit.specs.Steps.{reply_of}
use Rattle.machine_implicit.specs.declared.commit.Reply.{Reply}
use Rattle.machine_implicit.specs.declared.commit.Reply.TheVariants as replies
use Rattle.emit_expressions.specs.Scopes.{ScopeParts}
use Rattle.emit_expressions.specs.Expressions.{written}
use Rattle.emit_expressions.specs.Values.{is_single}
use Rattle.emit_bodies.specs.Traces.{body_trace}
use Rattle.emit_numbers.specs.Widths.{worked}

-- ---- expressions

-- the names of a body, with their places
abbrev pub entries : ScopeParts → List Entry
entries scope = scope_of scope.tree.decls scope.method

-- what an expression stands for, by ordinary arithmetic and logic, where its names are read now
abbrev pub plain_now : ScopeParts → List Value → Memory → Expr → Plain
plain_now scope arguments memory = plain_value (entries scope) (reading arguments memory)

-- a number or a truth value, as a field or a local holds it
abbrev pub as_value : Plain → Value
as_value (number n) = values.Int n
as_value (truth b) = values.Bool b

-- the value that an expression has now
abbrev pub value_now : ScopeParts → List Value → Memory → Expr → Value
value_now scope arguments memory expression = as_value (plain_now scope arguments memory expression)

-- whether it may need more than 64 bits
abbrev pub is_long : ScopeParts → Expr → Bool
is_long scope expression = (written scope expression).narrows

-- each has 64 bits
abbrev pub all_fit : List ℤ → Bool
all_fit = list_all (λ n. fits_64 (values.Int n))

-- Whether what is written for a value keeps to 64 bits now. Where it is one operation in 64 bits,
-- so must each number that is made on the way to it; else it is made in 128 bits.
abbrev pub keeps_64 : ScopeParts → List Value → Memory → Expr → Bool
keeps_64 scope arguments memory expression =
    if scope.whole && is_single scope expression
    then all_fit (worked (entries scope) (reading arguments memory) expression).made
    else fits_64 (value_now scope arguments memory expression)

-- ---- statements

-- A body goes on with these fields and locals, or it has stopped with these at a value outside 64
-- bits. The fields are those of the copy, where the body works on one. Where the body is whole no
-- test stops it there: what Rust does then is not said, and the laws speak of no such call.
pub data Outcome : Type 0 where
  goes_on : Memory → Outcome
  stops : Memory → Outcome

-- what comes next is done where the body goes on
abbrev pub and_then : Outcome → (Memory → Outcome) → Outcome
and_then (goes_on memory) rest = rest memory
and_then (stops memory) rest = stops memory

-- one after the other, up to the first that stops
abbrev pub in_order : List (Memory → Outcome) → Memory → Outcome
in_order [] memory = goes_on memory
in_order (first ∷ rest) memory = and_then (first memory) (in_order rest)

-- one that may need more than 64 bits stops where it doesn't keep to 64; another one never does
abbrev pub tested : Bool → Bool → Memory → Memory → Outcome
tested long keeps memory next = if long && not keeps then stops memory else goes_on next

-- a field or a local has the value; a constant is none
abbrev pub with_meaning : Meaning → Value → Memory → Memory
with_meaning (meanings.Number constant) value memory = memory
with_meaning (meanings.Int place) value memory = with_value memory place value
with_meaning (meanings.Flag place) value memory = with_value memory place value

-- what a name finds has the value
abbrev pub assigned : Option Entry → Value → Memory → Memory
assigned None value memory = memory
assigned (Some target) value memory = with_meaning target.meaning value memory

-- One layer. A `return` comes last in a checked body: its value is tested where the body ends.
abbrev pub call_step : ScopeParts → List Value → StmtTree-F (Memory → Outcome) → Memory → Outcome
call_step scope arguments (Set at name value) memory =
    tested (is_long scope value) (keeps_64 scope arguments memory value) memory
    (assigned (entry_named (entries scope) name) (value_now scope arguments memory value) memory)
call_step scope arguments (If at when body other) memory =
    if truth_in (plain_now scope arguments memory when) then in_order body memory
    else in_order other memory
call_step scope arguments (Return at value) memory =
    tested (is_long scope value) (keeps_64 scope arguments memory value) memory memory

-- what a statement does at these arguments
abbrev pub statement_call : ScopeParts → List Value → StmtTree → Memory → Outcome
statement_call scope arguments = fold-StmtTree (Memory → Outcome) (call_step scope arguments)

-- what the statements of a body do
abbrev pub body_call : ScopeParts → List Value → List StmtTree → Memory → Outcome
body_call scope arguments body = in_order (map (statement_call scope arguments) body)

-- ---- what a call leaves

-- the value of a `return`
abbrev pub answer_by : ScopeParts → List Value → Memory → StmtTree-F StmtTree → Option Value
answer_by scope arguments memory (Set at name value) = None
answer_by scope arguments memory (If at when body other) = None
answer_by scope arguments memory (Return at value) = Some (value_now scope arguments memory value)

-- that of the last statement, where it is a `return`
abbrev pub answer_of : ScopeParts → List Value → Memory → List StmtTree → Option Value
answer_of scope arguments memory [] = None
answer_of scope arguments memory (last ∷ []) =
    answer_by scope arguments memory (out-StmtTree last)
answer_of scope arguments memory (first ∷ next ∷ more) =
    answer_of scope arguments memory (next ∷ more)

-- the state and the locals that were lent, and what is answered
pub record Left : Type 0 where
  pub state : List Value
  pub locals : List Value
  pub reply : Reply

-- The state, after a body has stopped with these fields. One that works on a copy of the state
-- drops the copy; another one has changed the state itself.
abbrev pub state_left : Bool → List Value → Memory → List Value
state_left true before memory = before
state_left false before memory = memory.state

-- what a body leaves by its outcome; a copy is kept at the end
abbrev pub left_by : ScopeParts → List Value → List StmtTree → List Value → Outcome → Left
left_by scope arguments body before (goes_on memory) = record {
  state = memory.state;
  locals = memory.locals;
  reply = reply_of (answer_of scope arguments memory body);
}
left_by scope arguments body before (stops memory) = record {
  state = state_left (body_trace scope body).copies before memory;
  locals = memory.locals;
  reply = replies.Overflow;
}

-- a call of the function that is printed of a body, with a state and inputs
abbrev pub printed_call : ScopeParts → List StmtTree → List Value → Inputs → Left
printed_call scope body state inputs =
    left_by scope inputs.arguments body state
    (body_call scope inputs.arguments body (memory_of state inputs))
