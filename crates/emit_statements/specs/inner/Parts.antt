-- The texts of parts of a method, for their writers.
use Rattle.std.specs.Prelude.{ℕ, Bool, true, false, List, [], ◌∷◌, ◌++◌, codes}
use Rattle.std.specs.Prelude.{if◌then◌else◌}
use Rattle.std.specs.List.{flat_map}
use Rattle.logic_linear.specs.declared.formula.Formula.{Formula}
use Rattle.machine_events.specs.declared.plan.Note.{Note}
use Rattle.machine_events.specs.Configurations.{block_condition}
use Rattle.emit_code.specs.Code.{is_waited_on, late_order, overflow_notes, test_code}
use Rattle.emit_code.specs.Code.Op.{Lock, Run}
use Rattle.emit_statements.specs.Sources.{SourceParts}
use Rattle.emit_statements.specs.Conditions.{around_name}
use Rattle.emit_statements.specs.Statements.{MethodParts, answer_name, call_text, fails_at}
use Rattle.emit_statements.specs.Statements.{note_text, op_text, ops_text, overflow_text, run_text}
use Rattle.emit_statements.specs.Sources.{answer_of}
use Rattle.emit_statements.specs.Ways.{may_refuse}

-- a formula of no parts is `true`
abbrev pub are_none : List Formula → Bool
are_none [] = true
are_none (part ∷ parts) = false

-- the test of a block's guard
abbrev pub test_ops : MethodParts → Bool → ℕ → List ℕ
test_ops it tries block = ops_text it (test_code it.source.monitor tries block [])

-- its body
abbrev pub run_op : MethodParts → ℕ → List ℕ
run_op it block = op_text it (Run block (overflow_notes it.source.monitor block))

-- where it calls no function
abbrev pub own_run : MethodParts → ℕ → List ℕ
own_run it block =
    run_text it block (overflow_notes it.source.monitor block) (fails_at it block)

-- a note, and the error of a body that overflows
abbrev pub guarded_end : Bool → List ℕ
guarded_end refused = codes ".notify_one();\n" ++ overflow_text refused

-- a body that may fail in a block that waits
abbrev pub guarded_run : MethodParts → ℕ → List ℕ
guarded_run it block =
    codes "        let Ok(" ++ answer_name (answer_of it.source.monitor block) ++ codes ") = "
    ++ call_text it block
    ++ around_name it.source (codes " else {\n            self.")
    (block_condition it.source.monitor block) (guarded_end (may_refuse it.way))

-- what comes after the body
abbrev pub told_ops : MethodParts → ℕ → List ℕ
told_ops it block = ops_text it (late_order it.source.plan block)

-- a whole block
abbrev pub block_ops : MethodParts → Bool → ℕ → List ℕ
block_ops it tries block =
    op_text it Lock ++ test_ops it tries block ++ run_op it block ++ told_ops it block

-- ---- notes that someone may hear

-- the statement of such a note
abbrev pub heard_text : SourceParts → Note → List ℕ
heard_text source note =
    if is_waited_on source.monitor note.condition then note_text source note else []

-- the statements of such notes
abbrev pub heard_texts : SourceParts → List Note → List ℕ
heard_texts source = flat_map (heard_text source)
