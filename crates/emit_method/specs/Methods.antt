-- The methods of a module.
use Rattle.std.specs.Prelude.{ℕ, ◌+◌, ◌-◌, Bool, true, false, ◌&&◌, ◌||◌, List, [], ◌++◌, codes}
use Rattle.std.specs.Prelude.{Option, Some, None, slice_get, if◌then◌else◌}
use Rattle.std.specs.List.{flat_map}
use Rattle.lang_base.specs.declared.kind.Kind.{Kind}
use Rattle.lang_tree.specs.declared.tree.Decl.{Decl}
use Rattle.lang_tree.specs.declared.tree.MethodTree.{MethodTree}
use Rattle.lang_tree.specs.declared.tree.MonitorTree.{MonitorTree}
use Rattle.lang_tree.specs.Names.{declared_name}
use Rattle.lang_monitor.specs.MonitorParts.{MonitorParts, asserts_in, first_in, count_in}
use Rattle.machine_events.specs.Configurations.{block_condition}
use Rattle.emit_code.specs.Code.{Op, is_guarded, is_waited_on, code_of}
use Rattle.emit_names.specs.Names.{are_lasting_free, are_lasting_with_free, is_try_free}
use Rattle.emit_names.specs.Names.{is_try_with_free, is_with_free, input_name}
use Rattle.emit_bodies.specs.Blocks.{kind_text, parameter_text}
use Rattle.emit_bodies.specs.Bodies.{answer_text, arrow_text}
use Rattle.emit_choices.specs.Declarations.{typed_start}
use Rattle.emit_statements.specs.Sources.{SourceParts, answer_of}
use Rattle.emit_statements.specs.Statements.{MethodParts, first_of, method_fails, ops_text}
use Rattle.emit_statements.specs.Statements.{end_text}
use Rattle.emit_statements.specs.declared.ways.Way.{Way}
use Rattle.emit_statements.specs.declared.ways.Way.TheVariants as ways
use Rattle.emit_statements.specs.Ways.{may_refuse, tries}
use Rattle.emit_method.specs.Called.{called_text}
use Rattle.emit_method.specs.Docs.{docs_text}
use Rattle.emit_method.specs.Lasting.{lasting_lines}

-- ---- locals

-- `let mut seen: i64 = 0;`
abbrev pub local_line : MethodTree → Decl → List ℕ
local_line method local =
    codes "        let mut " ++ input_name method (declared_name local) ++ typed_start local
    ++ codes ";\n"

-- ---- the head

-- what its calls may end with that may be refused, by whether it may fail too
abbrev pub error_text : Bool → List ℕ
error_text true = codes ", Failed>"
error_text false = codes ", Refused>"

-- `Result<i64, Refused>`
abbrev pub try_arrow : Option Kind → Bool → List ℕ
try_arrow answer fails = codes " -> Result<" ++ answer_text answer ++ error_text fails

-- what a method answers that is given no function
abbrev pub own_arrow : MethodParts → List ℕ
own_arrow it =
    if may_refuse it.way then try_arrow it.answer it.fails else arrow_text it.answer it.fails

-- `Result<R, Refused>`: what the function answers, by whether the calls may be refused, and whether
-- they may fail
abbrev pub work_arrow : Bool → Bool → List ℕ
work_arrow true fails = codes " -> Result<R" ++ error_text fails
work_arrow false true = codes " -> Result<R, Overflow>"
work_arrow false false = codes " -> R"

-- what a method answers
abbrev pub method_arrow : MethodParts → List ℕ
method_arrow it = if it.works then work_arrow (may_refuse it.way) it.fails else own_arrow it

-- what its function is handed after the data, and what it answers
abbrev pub function_end : Option Kind → List ℕ
function_end None = codes ") -> R"
function_end (Some kind) = codes ", " ++ kind_text kind ++ codes ") -> R"

-- `, f: impl FnOnce(&mut D, i64) -> R`
abbrev pub function_text : MethodParts → List ℕ
function_text it =
    if it.works then codes ", f: impl FnOnce(&mut D" ++ function_end it.answer else []

-- its time
abbrev pub time_text : Way → List ℕ
time_text ways.Waits = []
time_text ways.Asserts = []
time_text ways.Tries = []
time_text ways.Until = codes ", end: Instant"
time_text ways.For = codes ", time: Duration"

-- `pub fn put(&self, amount: i64) -> Result<(), Overflow> {`
abbrev pub head_text : MethodParts → List ℕ
head_text it =
    codes "    pub fn " ++ called_text it ++ codes "(&self"
    ++ flat_map (parameter_text it.method) it.method.inputs ++ time_text it.way
    ++ function_text it ++ codes ")" ++ method_arrow it ++ codes " {\n"

-- ---- a method, by its number, for calls of each way, and with a function or with none

-- what its last block answers
abbrev pub method_answer : MonitorParts → ℕ → Option Kind
method_answer monitor number =
    let held = slice_get monitor.methods number in
    answer_of monitor (first_in held + count_in held - 1)

-- the method of this number
abbrev pub parts_of : SourceParts → ℕ → MethodTree → Way → Bool → MethodParts
parts_of source number method way works = record {
  source = source;
  method = method;
  first = first_of source number;
  answer = method_answer source.monitor number;
  fails = method_fails source number method;
  way = way;
  works = works;
}

-- what is said of it, its head and locals, a statement for each operation, and what it answers
abbrev pub code_text : MethodParts → List Op → List ℕ
code_text it ops =
    codes "\n" ++ docs_text it ++ head_text it ++ flat_map (local_line it.method) it.method.locals
    ++ ops_text it ops ++ end_text it ++ codes "    }\n"

-- one whose calls wait for a time calls others
abbrev pub lasting_text : MethodParts → List ℕ
lasting_text it =
    codes "\n" ++ docs_text it ++ head_text it ++ lasting_lines it ++ codes "    }\n"

-- calls of this way wait for a time
abbrev pub lasts : Way → Bool
lasts ways.Waits = false
lasts ways.Asserts = false
lasts ways.Tries = false
lasts ways.Until = false
lasts ways.For = true

-- a method is the text of its code, unless it calls others
abbrev pub method_text : SourceParts → ℕ → MethodTree → Way → Bool → List ℕ
method_text source number method way works =
    if lasts way then lasting_text (parts_of source number method way works)
    else code_text (parts_of source number method way works)
    (code_of source.monitor source.plan number (tries way))

-- the first block of a method waits
abbrev pub waits_first : MonitorParts → ℕ → Bool
waits_first monitor number =
    is_waited_on monitor (block_condition monitor (first_in (slice_get monitor.methods number)))

-- so its calls may try, where nothing else of the module is called so
abbrev pub has_try : SourceParts → ℕ → MethodTree → Bool
has_try source number method =
    waits_first source.monitor number && is_try_free source.tree method.name

-- then they may have a time, where nothing else is called as those
abbrev pub has_times : SourceParts → ℕ → MethodTree → Bool
has_times source number method =
    has_try source number method && are_lasting_free source.tree method.name

-- nothing else is called as the method that is given a function
abbrev pub has_with : MonitorTree → MethodTree → Way → Bool
has_with tree method ways.Waits = is_with_free tree method.name
has_with tree method ways.Asserts = is_with_free tree method.name
has_with tree method ways.Tries = is_try_with_free tree method.name
has_with tree method ways.Until = are_lasting_with_free tree method.name
has_with tree method ways.For = are_lasting_with_free tree method.name

-- it is printed there
abbrev pub with_text : SourceParts → ℕ → MethodTree → Way → List ℕ
with_text source number method way =
    if has_with source.tree method way then method_text source number method way true else []

-- a method without a function, and with one
abbrev pub both_text : SourceParts → ℕ → MethodTree → Way → List ℕ
both_text source number method way =
    method_text source number method way false ++ with_text source number method way

-- the methods whose calls try, where there are any
abbrev pub try_text : SourceParts → ℕ → MethodTree → List ℕ
try_text source number method =
    if has_try source number method then both_text source number method ways.Tries else []

-- those whose calls have a time
abbrev pub timed_texts : SourceParts → ℕ → MethodTree → List ℕ
timed_texts source number method =
    both_text source number method ways.Until ++ both_text source number method ways.For

-- where there are any
abbrev pub times_text : SourceParts → ℕ → MethodTree → List ℕ
times_text source number method =
    if has_times source number method then timed_texts source number method else []

-- the method asserts a guard that is not `true`
abbrev pub has_assertion : MonitorParts → ℕ → Bool
has_assertion monitor number =
    let held = slice_get monitor.methods number in
    asserts_in held && is_guarded monitor (first_in held)

-- how the calls wait that bear the method's own name
abbrev pub own_way : MonitorParts → ℕ → Way
own_way monitor number = if has_assertion monitor number then ways.Asserts else ways.Waits

-- some calls of the method are refused
abbrev pub refuses : SourceParts → ℕ → MethodTree → Bool
refuses source number method =
    has_assertion source.monitor number || has_try source number method

-- The methods that stand for one method of the monitor. No condition is waited for by one that
-- asserts, so it has its own name alone.
abbrev pub methods_text : SourceParts → ℕ → MethodTree → List ℕ
methods_text source number method =
    both_text source number method (own_way source.monitor number)
    ++ try_text source number method
    ++ times_text source number method
