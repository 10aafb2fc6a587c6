-- The bodies of blocks, as functions of the state.
use Rattle.std.specs.Prelude.{ℕ, ◌-◌, Bool, true, false, List, [], ◌∷◌, ◌++◌, codes}
use Rattle.std.specs.Prelude.{length, Option, Some, None, slice_get, if◌then◌else◌}
use Rattle.std.specs.Option.{option_map_or}
use Rattle.lang_base.specs.declared.kind.Kind.{Kind}
use Rattle.lang_tree.specs.declared.tree.Expr.{Expr}
use Rattle.lang_tree.specs.declared.tree.MethodTree.{MethodTree}
use Rattle.lang_tree.specs.declared.tree.MonitorTree.{MonitorTree}
use Rattle.lang_tree.specs.declared.tree.StmtTree.{StmtTree, out-StmtTree}
use Rattle.lang_tree.specs.declared.tree.StmtTree.TheOpen.{StmtTree-F, Set, If, Return}
use Rattle.emit_expressions.specs.declared.scope.Reach.TheVariants as reaches
use Rattle.emit_expressions.specs.Scopes.{ScopeParts}
use Rattle.emit_expressions.specs.Expressions.{written, plain_text}
use Rattle.emit_expressions.specs.Values.{value_text}
use Rattle.emit_bodies.specs.declared.traces.Trace.{Trace}
use Rattle.emit_bodies.specs.Blocks.{all_inputs_text, block_name, kind_text}
use Rattle.emit_bodies.specs.Statements.{statements_text}
use Rattle.emit_bodies.specs.Traces.{body_trace}

-- ---- what a function answers

abbrev pub answer_text : Option Kind → List ℕ
answer_text None = codes "()"
answer_text (Some kind) = kind_text kind

-- nothing where it answers nothing
abbrev pub arrow_plain : Option Kind → List ℕ
arrow_plain None = []
arrow_plain (Some kind) = codes " -> " ++ kind_text kind

-- by whether it may fail
abbrev pub arrow_text : Option Kind → Bool → List ℕ
arrow_text answer true = codes " -> Result<" ++ answer_text answer ++ codes ", Overflow>"
arrow_text answer false = arrow_plain answer

-- ---- the end of a body

-- Its value, by whether the body may fail, and whether the value itself may need more than 64 bits.
-- One that may is answered with its own test, where it has one.
abbrev pub result_by : Bool → Bool → List ℕ → List ℕ → List ℕ
result_by fails true value plain = value
result_by true false value plain = codes "Ok(" ++ plain ++ codes ")"
result_by false false value plain = plain

abbrev pub result_text : ScopeParts → Bool → Expr → List ℕ
result_text scope fails value =
    result_by fails (written scope value).narrows (value_text scope value [])
    (plain_text scope value)

abbrev pub answer_line : ScopeParts → Bool → Expr → List ℕ
answer_line scope fails value =
    codes "        " ++ result_text scope fails value ++ codes "\n"

-- without a value
abbrev pub done_text : Bool → List ℕ
done_text true = codes "        Ok(())\n"
done_text false = []

-- the end of a body that works on the state itself, by its last statement
abbrev pub end_by : ScopeParts → Bool → StmtTree-F StmtTree → List ℕ
end_by scope fails (Set at name value) = done_text fails
end_by scope fails (If at when body other) = done_text fails
end_by scope fails (Return at value) = answer_line scope fails value

abbrev pub end_text : ScopeParts → Bool → StmtTree → List ℕ
end_text scope fails statement = end_by scope fails (out-StmtTree statement)

-- a value that may need more than 64 bits is tested before the copy is kept
abbrev pub kept_answer : Bool → ScopeParts → ScopeParts → Expr → List ℕ
kept_answer true next kept value =
    codes "        let answer = " ++ value_text next value (codes "?")
    ++ codes ";\n        *self = next;\n        Ok(answer)\n"
kept_answer false next kept value =
    codes "        *self = next;\n" ++ answer_line kept true value

-- the end of a body that works on a copy, `next`, which it keeps
abbrev pub kept_end_by : ScopeParts → ScopeParts → StmtTree-F StmtTree → List ℕ
kept_end_by next kept (Set at name value) = codes "        *self = next;\n        Ok(())\n"
kept_end_by next kept (If at when body other) = codes "        *self = next;\n        Ok(())\n"
kept_end_by next kept (Return at value) =
    kept_answer (written next value).narrows next kept value

abbrev pub kept_end_text : ScopeParts → ScopeParts → StmtTree → List ℕ
kept_end_text next kept statement = kept_end_by next kept (out-StmtTree statement)

abbrev pub last_of : List StmtTree → Option StmtTree
last_of body = slice_get body (length body - 1)

-- ---- the function that runs the body of a block

-- where a body stands, and whether no value of it leaves 64 bits
abbrev pub body_scope : MonitorTree → MethodTree → List ℕ → Bool → ScopeParts
body_scope tree method receiver whole = record {
  tree = tree;
  method = method;
  receiver = receiver;
  reach = reaches.Lent;
  whole = whole;
}

abbrev pub own_trace : MonitorTree → MethodTree → List StmtTree → Bool → Trace
own_trace tree method body whole = body_trace (body_scope tree method (codes "self") whole) body

-- some value in a body is tested
abbrev pub body_fails : MonitorTree → MethodTree → List StmtTree → Bool → Bool
body_fails tree method body whole = (own_trace tree method body whole).fails

-- some value in a body is worked out in 128 bits and known to have 64
abbrev pub body_shortens : MonitorTree → MethodTree → List StmtTree → Bool → Bool
body_shortens tree method body whole = (own_trace tree method body whole).shortens

-- a body that works on the state itself
abbrev pub own_lines : ScopeParts → Bool → List StmtTree → List ℕ
own_lines scope fails body =
    statements_text scope 2 body
    ++ option_map_or (end_text scope fails) (last_of body) (done_text fails)

-- a body that works on a copy
abbrev pub copied_lines : ScopeParts → ScopeParts → List StmtTree → List ℕ
copied_lines next kept body =
    codes "        let mut next = *self;\n" ++ statements_text next 2 body
    ++ option_map_or (kept_end_text next kept) (last_of body) []

-- A body works on a copy where a field may be assigned and a later value is tested: so nothing is
-- changed where one leaves 64 bits.
abbrev pub lines_by : MonitorTree → MethodTree → Trace → List StmtTree → Bool → List ℕ
lines_by tree method trace body whole =
    if trace.copies then copied_lines (body_scope tree method (codes "next") whole)
    (body_scope tree method (codes "self") whole) body
    else own_lines (body_scope tree method (codes "self") whole) trace.fails body

-- `fn run_put(&mut self, amount: i64) -> Result<(), Overflow>`
abbrev pub body_head : MonitorTree → MethodTree → ℕ → Option Kind → Bool → List ℕ
body_head tree method number answer fails =
    codes "    fn " ++ block_name tree method (codes "run") number ++ codes "(&mut self"
    ++ all_inputs_text method reaches.Lent ++ codes ")" ++ arrow_text answer fails

-- the braces of a function, and what stands in them
abbrev pub braced : List StmtTree → List ℕ → List ℕ
braced [] lines = codes " {}\n"
braced (first ∷ rest) lines = codes " {\n" ++ lines ++ codes "    }\n"

abbrev pub traced_text : MonitorTree → MethodTree → ℕ → Option Kind → Trace → List StmtTree → Bool
    → List ℕ
traced_text tree method number answer trace body whole =
    body_head tree method number answer trace.fails
    ++ braced body (lines_by tree method trace body whole)

-- by the number, from 1, of a block among those of its method, what it answers, and whether no
-- value of it leaves 64 bits
abbrev pub body_text : MonitorTree → MethodTree → ℕ → Option Kind → List StmtTree → Bool → List ℕ
body_text tree method number answer body whole =
    traced_text tree method number answer (own_trace tree method body whole) body whole
