-- The statements of a method: one for each operation of its code.
use Rattle.std.specs.Prelude.{ℕ, ◌+◌, ◌-◌, ◌==◌, Bool, true, false, ◌&&◌, ◌||◌, List, [], ◌∷◌}
use Rattle.std.specs.Prelude.{◌++◌, codes, length, Option, Some, None, slice_get}
use Rattle.std.specs.Prelude.{if◌then◌else◌}
use Rattle.std.specs.List.{flat_map, list_any, enumerate_from}
use Rattle.std.specs.Option.{option_map_or}
use Rattle.lang_base.specs.declared.kind.Kind.{Kind}
use Rattle.lang_tree.specs.declared.tree.BlockTree.{BlockTree}
use Rattle.lang_tree.specs.declared.tree.MethodTree.{MethodTree}
use Rattle.lang_monitor.specs.MonitorParts.{first_in}
use Rattle.machine_events.specs.declared.plan.Note.{Note}
use Rattle.machine_events.specs.Configurations.{block_condition}
use Rattle.emit_code.specs.Code.{Op, blocks_code, late_order}
use Rattle.emit_code.specs.Code.Op.{Lock, WaitUntil, ElseRefuse, Run, Release, Notify, Unlock}
use Rattle.emit_expressions.specs.declared.scope.Reach.{Reach}
use Rattle.emit_expressions.specs.declared.scope.Reach.TheVariants as reaches
use Rattle.emit_bodies.specs.Blocks.{block_name}
use Rattle.emit_bodies.specs.Bodies.{body_fails, body_shortens}
use Rattle.emit_statements.specs.declared.source.Calls.{Calls}
use Rattle.emit_statements.specs.declared.ways.Way.{Way}
use Rattle.emit_statements.specs.Ways.{ends, may_refuse, tries}
use Rattle.emit_statements.specs.Sources.{SourceParts, seen, answer_of, is_whole, tests_alone}
use Rattle.emit_statements.specs.Conditions.{arguments_text, around_count, around_name}

-- ---- whether a call may fail

-- the body of the block may, by its number in the monitor
abbrev pub block_fails : SourceParts → MethodTree → ℕ → BlockTree → Bool
block_fails source method block parts =
    body_fails source.tree method parts.body (is_whole source block)

-- the number of a method's first block
abbrev pub first_of : SourceParts → ℕ → ℕ
first_of source number = first_in (slice_get source.monitor.methods number)

-- the body of some block of the method of this number may
abbrev pub method_fails : SourceParts → ℕ → MethodTree → Bool
method_fails source number method =
    list_any (λ one. block_fails source method (first_of source number + one.0) one.1)
    (enumerate_from 0 method.blocks)

-- the body of the block has a number that is known to have 64 bits, and is worked out in 128
abbrev pub block_shortens : SourceParts → MethodTree → ℕ → BlockTree → Bool
block_shortens source method block parts =
    body_shortens source.tree method parts.body (is_whole source block)

-- so has some block of the method
abbrev pub method_shortens : SourceParts → ℕ → MethodTree → Bool
method_shortens source number method =
    list_any (λ one. block_shortens source method (first_of source number + one.0) one.1)
    (enumerate_from 0 method.blocks)

-- ---- a method, for calls that wait, try or have a time, with a function or with none

-- what the text of a method hangs on
pub record MethodParts : Type 0 where
  pub source : SourceParts
  pub method : MethodTree
  -- the number of its first block
  pub first : ℕ
  -- what its last block answers
  pub answer : Option Kind
  -- some block of it may fail
  pub fails : Bool
  -- how its calls wait for the guard of that block
  pub way : Way
  -- its last block calls a function with the data
  pub works : Bool

-- what the code holds
abbrev pub method_seen : Calls → MethodParts
method_seen calls = record {
  source = seen calls.source.now;
  method = calls.method.now;
  first = calls.first;
  answer = calls.answer;
  fails = calls.fails;
  way = calls.way;
  works = calls.works;
}

-- this block is the last, and calls it
abbrev pub works_at : MethodParts → ℕ → Bool
works_at it block = it.works && (block + 1 - it.first) == length it.method.blocks

-- the body of this block may fail
abbrev pub fails_at : MethodParts → ℕ → Bool
fails_at it block =
    option_map_or (block_fails it.source it.method block)
    (slice_get it.method.blocks (block - it.first)) false

-- ---- calls of the functions of the state

-- a call of a block's own function, after a word
abbrev pub own_call : MethodParts → List ℕ → ℕ → Reach → List ℕ
own_call it word block reach =
    block_name it.source.tree it.method word (block + 1 - it.first) ++ codes "("
    ++ arguments_text it.method reach ++ codes ")"

-- `can_put()`, or `can_withdraw(amount)`: where the guard of its condition reads inputs, and where
-- there is no condition, each block has a test of its own
abbrev pub test_text : MethodParts → ℕ → List ℕ
test_text it block =
    let condition = block_condition it.source.monitor block in
    if tests_alone it.source.monitor condition then own_call it (codes "can") block reaches.Held
    else around_name it.source [] condition (codes "()")

-- `inner.state.run_put(amount)`
abbrev pub call_text : MethodParts → ℕ → List ℕ
call_text it block = codes "inner.state." ++ own_call it (codes "run") block reaches.Lent

-- a call that tries and is refused, by whether its method may fail too
abbrev pub refusal_text : Bool → List ℕ
refusal_text true = codes " {\n            return Err(Failed::Refused);\n        }\n"
refusal_text false = codes " {\n            return Err(Refused);\n        }\n"

-- ---- the loop of a block

-- The loop ends where the time of the call is over, by whether its method may fail too; the first
-- block of a method alone has such a loop.
abbrev pub end_at : MethodParts → ℕ → Option Bool
end_at it block = if ends it.way && (block == it.first) then Some it.fails else None

-- the call is refused there
abbrev pub sleep_start : Option Bool → List ℕ
sleep_start None = codes " {\n            inner."
sleep_start (Some true) =
    codes " {\n            let Some(left) = time_left(end) else {\n"
    ++ codes "                return Err(Failed::Refused);\n            };\n            inner."
sleep_start (Some false) =
    codes " {\n            let Some(left) = time_left(end) else {\n"
    ++ codes "                return Err(Refused);\n            };\n            inner."

-- it waits no longer than what is left
abbrev pub wait_start : Option Bool → List ℕ
wait_start None = codes "            inner = wait(&self."
wait_start (Some fails) = codes "            inner = wait_for(&self."

-- after the condition
abbrev pub wait_end : Option Bool → List ℕ
wait_end None = codes ", inner);\n"
wait_end (Some fails) = codes ", inner, left);\n"

-- where its guard is false: who waits is counted while it does
abbrev pub sleep_text : SourceParts → Option Bool → ℕ → List ℕ
sleep_text source end condition =
    around_count source (sleep_start end) condition (codes " += 1;\n")
    ++ around_name source (wait_start end) condition (wait_end end)
    ++ around_count source (codes "            inner.") condition (codes " -= 1;\n        }\n")

-- ---- notes

-- by whether the note is for all
abbrev pub notify_call : Bool → List ℕ
notify_call true = codes ".notify_all();\n"
notify_call false = codes ".notify_one();\n"

-- `self.can_get.notify_one();`
abbrev pub notify_text : SourceParts → Note → List ℕ
notify_text source note =
    around_name source (codes "        self.") note.condition (notify_call note.all)

-- a tested one is made where the guard was true when the mutex was given back
abbrev pub note_test : SourceParts → Note → List ℕ
note_test source note =
    if note.tested then around_name source (codes " && copy.state.") note.condition (codes "()")
    else []

-- each is made where someone slept on its condition then
abbrev pub note_text : SourceParts → Note → List ℕ
note_text source note =
    around_count source (codes "        if copy.") note.condition (codes " > 0")
    ++ note_test source note ++ codes " {\n    " ++ notify_text source note
    ++ codes "        }\n"

-- the mutex is given back, and of what it guarded a copy is kept for the notes that come next, but
-- of the data
abbrev pub release_text : SourceParts → List Note → List ℕ
release_text source [] = codes "        drop(inner);\n"
release_text source (note ∷ notes) =
    codes "        let copy = inner.copy();\n        drop(inner);\n"
    ++ flat_map (note_text source) (note ∷ notes)

-- ---- the body of a block

-- what it answers, where that is kept for the end of the method
abbrev pub let_text : Option Kind → List ℕ
let_text None = codes "        "
let_text (Some kind) = codes "        let answer = "

-- the name of what it answered
abbrev pub answer_name : Option Kind → List ℕ
answer_name None = codes "()"
answer_name (Some kind) = codes "answer"

-- the call of a body, and what ends it
abbrev pub plain_run : MethodParts → ℕ → List ℕ → List ℕ
plain_run it block ending =
    let_text (answer_of it.source.monitor block) ++ call_text it block ++ ending

-- the error of a body that overflows, by whether the call may be refused
abbrev pub overflow_text : Bool → List ℕ
overflow_text true = codes "            return Err(Failed::Overflow);\n        };\n"
overflow_text false = codes "            return Err(Overflow);\n        };\n"

-- with the notes that are made where it overflows, and whether it may
abbrev pub run_text : MethodParts → ℕ → List Note → Bool → List ℕ
run_text it block notes false = plain_run it block (codes ";\n")
run_text it block [] true = plain_run it block (codes "?;\n")
run_text it block (note ∷ notes) true =
    codes "        let Ok(" ++ answer_name (answer_of it.source.monitor block) ++ codes ") = "
    ++ call_text it block ++ codes " else {\n"
    ++ flat_map (λ other. codes "    " ++ notify_text it.source other) (note ∷ notes)
    ++ overflow_text (may_refuse it.way)

-- ---- the body of a block that calls a function

-- The body runs on a copy of the state, which is kept after the function has returned. Where that
-- panics, or a number overflows, `hand` is dropped, and then `inner`: the note of an overflow is
-- made, and the mutex given back. There is one note at most.

-- the note that is made where `hand` is dropped
abbrev pub hand_text : SourceParts → List Note → List ℕ
hand_text source [] = []
hand_text source (note ∷ notes) =
    around_name source (codes "        let hand = HandOn(&self.") note.condition (codes ");\n")

-- it is not made where the function returns
abbrev pub forget_text : List Note → List ℕ
forget_text [] = []
forget_text (note ∷ notes) = codes "        std::mem::forget(hand);\n"

-- what ends the call of a body, by whether it may fail
abbrev pub failing_text : Bool → List ℕ
failing_text true = codes "?;\n"
failing_text false = codes ";\n"

-- what is handed to the function after the data
abbrev pub given_text : Option Kind → List ℕ
given_text None = codes ");\n"
given_text (Some kind) = codes ", answer);\n"

-- with the notes that are made where it overflows or the function panics
abbrev pub work_text : MethodParts → ℕ → List Note → List ℕ
work_text it block notes =
    hand_text it.source notes ++ codes "        let mut next = inner.state;\n"
    ++ let_text (answer_of it.source.monitor block) ++ codes "next."
    ++ own_call it (codes "run") block reaches.Lent ++ failing_text (fails_at it block)
    ++ codes "        let result = f(&mut inner.data"
    ++ given_text (answer_of it.source.monitor block) ++ forget_text notes
    ++ codes "        inner.state = next;\n"

-- ---- a statement for each operation

-- An operation of a method. A body that cannot fail has no branch for an overflow: then the code's
-- notes of one are never made. The function that a call is given is called with the last body.
abbrev pub op_text : MethodParts → Op → List ℕ
op_text it Lock = codes "        let mut inner = lock(&self.inner);\n"
op_text it (WaitUntil block condition) =
    codes "        while !inner.state." ++ test_text it block
    ++ sleep_text it.source (end_at it block) condition
op_text it (ElseRefuse block) =
    codes "        if !inner.state." ++ test_text it block ++ refusal_text it.fails
op_text it (Run block otherwise) =
    if works_at it block then work_text it block otherwise
    else run_text it block otherwise (fails_at it block)
op_text it (Release notes) = release_text it.source notes
op_text it (Notify note) = notify_text it.source note
op_text it Unlock = codes "        drop(inner);\n"

-- the operations of a method, one after the other
abbrev pub ops_text : MethodParts → List Op → List ℕ
ops_text it = flat_map (op_text it)

-- those of so many blocks of a method, from its first on
abbrev pub blocks_ops : MethodParts → ℕ → List ℕ
blocks_ops it count =
    ops_text it
    (blocks_code it.source.monitor (late_order it.source.plan) (tries it.way) it.first count)

-- ---- what the method answers after them, by whether it may fail, and whether its calls may be
-- refused

-- it is answered as it is
abbrev pub plain_end : Option Kind → List ℕ
plain_end None = []
plain_end (Some kind) = codes "        answer\n"

-- the last line of a method that is given no function
abbrev pub own_end : Bool → Bool → Option Kind → List ℕ
own_end fails refused answer =
    if fails || refused then codes "        Ok(" ++ answer_name answer ++ codes ")\n"
    else plain_end answer

-- what the function answered
abbrev pub work_end : Bool → Bool → List ℕ
work_end fails refused =
    if fails || refused then codes "        Ok(result)\n" else codes "        result\n"

-- the last line of a method
abbrev pub end_text : MethodParts → List ℕ
end_text it =
    if it.works then work_end it.fails (may_refuse it.way)
    else own_end it.fails (may_refuse it.way) it.answer
