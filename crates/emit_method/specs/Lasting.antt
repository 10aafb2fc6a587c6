-- The methods whose calls wait for a time: each is one of two others.
use Rattle.std.specs.Prelude.{ℕ, Bool, true, false, List, [], ◌++◌, codes, length}
use Rattle.std.specs.Prelude.{Option, Some, None}
use Rattle.std.specs.List.{flat_map, enumerate_from}
use Rattle.lang_base.specs.declared.kind.Kind.{Kind}
use Rattle.lang_tree.specs.declared.tree.MethodTree.{MethodTree}
use Rattle.emit_statements.specs.declared.ways.Way.TheVariants as ways
use Rattle.emit_statements.specs.Conditions.{comma_text, handed_parameter}
use Rattle.emit_statements.specs.Statements.{MethodParts}
use Rattle.emit_method.specs.Called.{name_of}

-- its own parameters
abbrev pub parameters_given : MethodTree → List ℕ
parameters_given method =
    flat_map (λ one. handed_parameter method one.0 one.1) (enumerate_from 0 method.inputs)

-- the function, where there is one
abbrev pub function_given : Bool → ℕ → List ℕ
function_given true inputs = comma_text inputs ++ codes "f"
function_given false inputs = []

-- the end of its time, and the function
abbrev pub end_given : Bool → List ℕ
end_given true = codes "end, f"
end_given false = codes "end"

-- `put(amount)`
abbrev pub waiting_call : MethodParts → List ℕ
waiting_call it =
    name_of it ways.Waits ++ codes "(" ++ parameters_given it.method
    ++ function_given it.works (length it.method.inputs) ++ codes ")"

-- `put_until(amount, end)`
abbrev pub ending_call : MethodParts → List ℕ
ending_call it =
    name_of it ways.Until ++ codes "(" ++ parameters_given it.method
    ++ comma_text (length it.method.inputs) ++ end_given it.works ++ codes ")"

-- the call answers something: what its last block does, or its function
abbrev pub answers_by : Bool → Option Kind → Bool
answers_by true answer = true
answers_by false None = false
answers_by false (Some kind) = true

-- before the call that waits, by whether it answers something
abbrev pub before_call : Bool → List ℕ
before_call true = codes "            return Ok(self."
before_call false = codes "            self."

-- after it, by that and by whether it may fail
abbrev pub after_call : Bool → Bool → List ℕ
after_call true true = codes "?);\n        };\n"
after_call true false = codes ");\n        };\n"
after_call false true = codes "?;\n            return Ok(());\n        };\n"
after_call false false = codes ";\n            return Ok(());\n        };\n"

-- where the clock does not get to the end of its time, the call waits; else it waits until then
abbrev pub lasting_lines : MethodParts → List ℕ
lasting_lines it =
    codes "        let Some(end) = Instant::now().checked_add(time) else {\n"
    ++ before_call (answers_by it.works it.answer) ++ waiting_call it
    ++ after_call (answers_by it.works it.answer) it.fails ++ codes "        self."
    ++ ending_call it ++ codes "\n"
