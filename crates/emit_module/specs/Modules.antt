-- The Rust module of a monitor under a plan.
use Rattle.std.specs.Prelude.{ℕ, ◌+◌, ◌==◌, Bool, true, false, not, ◌&&◌, ◌||◌, List, [], ◌++◌}
use Rattle.std.specs.Prelude.{Option, Some, None, codes, length, slice_get, if◌then◌else◌}
use Rattle.std.specs.List.{flat_map, list_any, enumerate_from}
use Rattle.lang_tree.specs.declared.tree.BlockTree.{BlockTree}
use Rattle.lang_tree.specs.declared.tree.Decl.{Decl}
use Rattle.lang_tree.specs.declared.tree.Decl.TheVariants as decls
use Rattle.lang_tree.specs.declared.tree.MethodTree.{MethodTree}
use Rattle.lang_tree.specs.declared.tree.MonitorTree.{MonitorTree}
use Rattle.lang_tree.specs.Names.{declared_name}
use Rattle.lang_monitor.specs.declared.monitor.Condition.{Condition}
use Rattle.lang_monitor.specs.MonitorParts.{MonitorParts, first_in}
use Rattle.machine_events.specs.declared.plan.Plan.{Plan}
use Rattle.machine_events.specs.PlanText.{plan_text}
use Rattle.machine_events.specs.Configurations.{block_condition}
use Rattle.emit_code.specs.Code.{is_always, is_guarded}
use Rattle.emit_comments.specs.Comments.{comment_docs, first_line, has_comments, leading_docs}
use Rattle.emit_comments.specs.Comments.{line_of}
use Rattle.emit_names.specs.declared.style.Style.TheVariants as styles
use Rattle.emit_names.specs.Names.{has_parameters, member_name, type_name}
use Rattle.emit_names.specs.Lints.{has_odd_name}
use Rattle.emit_bodies.specs.Blocks.{kind_declared, kind_text}
use Rattle.emit_bodies.specs.Bodies.{body_text}
use Rattle.emit_bodies.specs.Guards.{guard_text}
use Rattle.emit_statements.specs.Sources.{SourceParts, source_of, answer_of, is_whole, tests_alone}
use Rattle.emit_statements.specs.Conditions.{around_count, around_name, first_block}
use Rattle.emit_statements.specs.Statements.{method_fails, method_shortens}
use Rattle.emit_choices.specs.Declarations.{is_field, typed_start}
use Rattle.emit_choices.specs.Openings.{new_text, with_data_text}
use Rattle.emit_choices.specs.Starts.{brace_text, starts_text}
use Rattle.emit_method.specs.Methods.{has_times, methods_text, refuses}
use Rattle.emit_module.specs.Fixed.{VERSION, HEAD, WITH, DATA, DEFAULT, DEBUG}
use Rattle.emit_module.specs.Fixed.{DEBUG_END, INNER, COPY, COPY_END, STATE, STATE_IMPL, LOCK, WAIT}
use Rattle.emit_module.specs.Fixed.{TIMES, OVERFLOW, REFUSED, FAILED, WHOLE}

-- lints would speak of names that are written as they stand
abbrev pub lints_text : MonitorTree → List ℕ
lints_text tree =
    if has_odd_name tree then codes "#[allow(non_snake_case, non_upper_case_globals)]\n" else []

-- ---- conditions, by their numbers from 0

-- someone may wait on some condition
abbrev pub waits_somewhere : MonitorParts → Bool
waits_somewhere monitor = list_any (λ which. not (is_always which.guard)) monitor.conditions

-- the condition variable of a condition
abbrev pub waited_field : SourceParts → ℕ → Condition → List ℕ
waited_field source place which =
    codes "    /// For calls that wait until `" ++ which.shown ++ codes "`.\n"
    ++ around_name source (codes "    ") (place + 1) (codes ": Condvar,\n")

-- where someone may wait on it
abbrev pub condition_field : SourceParts → ℕ → Condition → List ℕ
condition_field source place which =
    if is_always which.guard then [] else waited_field source place which

-- a condition variable at its start
abbrev pub condition_start : SourceParts → ℕ → Condition → List ℕ
condition_start source place which =
    if is_always which.guard then []
    else around_name source (codes "            ") (place + 1) (codes ": Condvar::new(),\n")

-- how many sleep on it
abbrev pub count_field : SourceParts → ℕ → Condition → List ℕ
count_field source place which =
    if is_always which.guard then []
    else around_count source (codes "    ") (place + 1) (codes ": usize,\n")

-- in a copy as many
abbrev pub count_copy : SourceParts → ℕ → Condition → List ℕ
count_copy source place which =
    if is_always which.guard then []
    else around_count source (codes "            ") (place + 1) []
    ++ around_count source (codes ": self.") (place + 1) (codes ",\n")

-- at the start nobody does
abbrev pub count_start : SourceParts → ℕ → Condition → List ℕ
count_start source place which =
    if is_always which.guard then []
    else around_count source (codes "                ") (place + 1) (codes ": 0,\n")

-- ---- the type

-- what is used of `std`, by whether calls wait, and whether there are calls
abbrev pub use_by : Bool → Bool → List ℕ
use_by waits calls =
    if waits then codes "use std::sync::{Condvar, Mutex, MutexGuard, PoisonError};\n"
    else if calls then codes "use std::sync::{Mutex, MutexGuard, PoisonError};\n"
    else codes "use std::sync::{Mutex, PoisonError};\n"

-- and by whether some calls have a time
abbrev pub use_times : Bool → List ℕ
use_times true = codes "use std::time::{Duration, Instant};\n\n"
use_times false = codes "\n"

-- those of some method do
abbrev pub times_somewhere : SourceParts → Bool
times_somewhere source =
    list_any (λ one. has_times source one.0 one.1) (enumerate_from 0 source.tree.methods)

-- the monitor has methods
abbrev pub has_calls : MonitorTree → Bool
has_calls tree = not (length tree.methods == 0)

-- what this module uses of `std`
abbrev pub use_text : SourceParts → List ℕ
use_text source =
    use_by (waits_somewhere source.monitor) (has_calls source.tree)
    ++ use_times (times_somewhere source)

-- what is said of the type, with its plan
abbrev pub struct_docs : SourceParts → List ℕ
struct_docs source =
    leading_docs [] source.text (first_line source.text)
    ++ codes "/// The monitor `" ++ source.tree.name
    ++ codes "`. Threads share it by reference. A call waits for its guard, unless it tries.\n"
    ++ codes "///\n/// Its lock guards data `D` too, for the functions that calls are given.\n"
    ++ codes "/**\n# Plan\n\n```text\n" ++ plan_text source.monitor source.given
    ++ codes "```\n*/\n"

-- Up to the condition variables. A program may use little of the module, and the name may be one of
-- which lints would speak.
abbrev pub struct_head : MonitorTree → List ℕ
struct_head tree =
    codes "#[allow(dead_code, non_camel_case_types)]\n"
    ++ codes "#[allow(clippy::doc_markdown, clippy::upper_case_acronyms)]\npub struct "
    ++ type_name tree ++ codes "<D = ()> {\n    inner: Mutex<Inner<D>>,\n"

-- the type that threads share
abbrev pub struct_text : SourceParts → List ℕ
struct_text source =
    struct_docs source ++ lints_text source.tree ++ struct_head source.tree
    ++ flat_map (λ one. condition_field source one.0 one.1)
    (enumerate_from 0 source.monitor.conditions)
    ++ codes "}\n\n"

-- ---- its functions

-- what is said of a constant with no comment
abbrev pub plain_docs : Decl → List ℕ
plain_docs declared = codes "    /// The constant `" ++ declared_name declared ++ codes "`.\n"

-- the comments above a constant in this line, or that
abbrev pub constant_docs : List ℕ → ℕ → Decl → List ℕ
constant_docs text place declared =
    if has_comments text place then comment_docs (codes "    ") text place
    else plain_docs declared

-- `pub const CAP: i64 = 4;`, of a constant with this offset
abbrev pub constant_text : SourceParts → ℕ → Decl → List ℕ
constant_text source at declared =
    constant_docs source.text (line_of source.text at) declared ++ codes "    pub const "
    ++ member_name source.tree styles.Upper (declared_name declared) ++ typed_start declared
    ++ codes ";\n"

-- nothing for a field or a parameter
abbrev pub constant_line : SourceParts → Decl → List ℕ
constant_line source (decls.Const at name value) =
    constant_text source at (decls.Const at name value)
constant_line source (decls.Param at name value limit) = []
constant_line source (decls.Int at name value) = []
constant_line source (decls.Copied at name other) = []
constant_line source (decls.Flag at name value) = []

-- an empty line comes after the last
abbrev pub constants_end : Bool → List ℕ
constants_end true = codes "\n"
constants_end false = []

-- the constants of a monitor
abbrev pub constants_text : SourceParts → List ℕ
constants_text source =
    flat_map (constant_line source) source.tree.decls
    ++ constants_end (list_any (λ one. not (is_field one)) source.tree.decls)

-- a monitor at its start, with data
abbrev pub opening_text : SourceParts → List ℕ
opening_text source =
    with_data_text source.text source.tree
    ++ flat_map (λ one. count_start source one.0 one.1)
    (enumerate_from 0 source.monitor.conditions)
    ++ codes "                data,\n            }),\n"
    ++ flat_map (λ one. condition_start source one.0 one.1)
    (enumerate_from 0 source.monitor.conditions)
    ++ codes "        }\n    }\n"

-- The functions of a monitor with no data, for which a name of the type means it. A line may have
-- more than 100 columns, so the layout is kept as it is.
abbrev pub own_impl : SourceParts → List ℕ
own_impl source =
    codes "#[rustfmt::skip]\n#[allow(dead_code, clippy::doc_markdown, clippy::style)]\n"
    ++ lints_text source.tree ++ codes "impl " ++ type_name source.tree ++ codes " {\n"
    ++ constants_text source ++ new_text source.text source.tree

-- those of one with any data
abbrev pub with_impl : SourceParts → List ℕ
with_impl source =
    WITH ++ type_name source.tree ++ codes "<D> {\n" ++ opening_text source ++ DATA
    ++ flat_map (λ one. methods_text source one.0 one.1) (enumerate_from 0 source.tree.methods)
    ++ codes "}\n\n"

-- all functions of the type
abbrev pub impl_text : SourceParts → List ℕ
impl_text source = own_impl source ++ with_impl source

-- the same by `Default`, where nothing is to be chosen
abbrev pub default_by : MonitorTree → Bool → List ℕ
default_by tree true = []
default_by tree false = codes "impl Default for " ++ type_name tree ++ DEFAULT

abbrev pub default_text : MonitorTree → List ℕ
default_text tree = default_by tree (has_parameters tree)

-- It shows a copy of the state, since the caller's own code runs in it, which may call the monitor;
-- and it waits for nobody, since it may be called by who has the mutex.
abbrev pub debug_text : SourceParts → List ℕ
debug_text source =
    codes "impl<D> std::fmt::Debug for " ++ type_name source.tree ++ DEBUG ++ type_name source.tree
    ++ DEBUG_END

-- what the type is by traits of `std`
abbrev pub traits_text : SourceParts → List ℕ
traits_text source = default_text source.tree ++ debug_text source

-- ---- what the mutex guards

-- the state, how many sleep on each condition on which someone may wait, and data; and a copy of it
-- without these
abbrev pub inner_text : SourceParts → List ℕ
inner_text source =
    INNER ++ lints_text source.tree ++ codes "struct Inner<D = ()> {\n    state: State,\n"
    ++ flat_map (λ one. count_field source one.0 one.1)
    (enumerate_from 0 source.monitor.conditions)
    ++ COPY
    ++ flat_map (λ one. count_copy source one.0 one.1)
    (enumerate_from 0 source.monitor.conditions)
    ++ COPY_END

-- ---- the state

-- `count: i64,`
abbrev pub field_text : MonitorTree → Decl → List ℕ
field_text tree declared =
    codes "    " ++ member_name tree styles.Snake (declared_name declared) ++ codes ": "
    ++ kind_text (kind_declared declared) ++ codes ",\n"

-- nothing for a constant
abbrev pub field_line : MonitorTree → Decl → List ℕ
field_line tree declared = if is_field declared then field_text tree declared else []

-- the struct of the state
abbrev pub state_text : MonitorTree → List ℕ
state_text tree =
    STATE ++ lints_text tree ++ codes "struct State " ++ brace_text tree
    ++ flat_map (field_line tree) tree.decls ++ codes "}\n\n"

-- ---- the functions of the state

-- the block is the one that was found first
abbrev pub is_first : Option ℕ → ℕ → Bool
is_first None block = false
is_first (Some first) block = first == block

-- A block has a test of its guard where this is not `true`, and either each block of its condition
-- has one, or the block is the first of the condition.
abbrev pub tests_guard : MonitorParts → ℕ → ℕ → Bool
tests_guard monitor condition block =
    is_guarded monitor block
    && (tests_alone monitor condition || is_first (first_block monitor condition) block)

-- by the number of a block in its method, from 0, and in the monitor
abbrev pub test_function : SourceParts → MethodTree → ℕ → ℕ → BlockTree → List ℕ
test_function source method place block parts =
    let condition = block_condition source.monitor block in
    if tests_guard source.monitor condition block
    then codes "\n" ++ guard_text source.tree method (place + 1)
    (tests_alone source.monitor condition) parts.guard
    else []

-- the function of its body, in the same way
abbrev pub body_function : SourceParts → MethodTree → ℕ → ℕ → BlockTree → List ℕ
body_function source method place block parts =
    codes "\n"
    ++ body_text source.tree method (place + 1) (answer_of source.monitor block) parts.body
    (is_whole source block)

-- by the number of the first block of its method
abbrev pub block_functions : SourceParts → MethodTree → ℕ → ℕ → BlockTree → List ℕ
block_functions source method first place parts =
    test_function source method place (first + place) parts
    ++ body_function source method place (first + place) parts

-- the functions of the blocks of a method
abbrev pub method_functions : SourceParts → ℕ → MethodTree → List ℕ
method_functions source number method =
    let first = first_in (slice_get source.monitor.methods number) in
    flat_map (λ one. block_functions source method first one.0 one.1)
    (enumerate_from 0 method.blocks)

-- the functions of the state
abbrev pub state_impl_text : SourceParts → List ℕ
state_impl_text source =
    STATE_IMPL ++ lints_text source.tree ++ codes "impl State {\n" ++ starts_text source.tree
    ++ flat_map (λ one. method_functions source one.0 one.1) (enumerate_from 0 source.tree.methods)
    ++ codes "}\n"

-- ---- the module

-- some method may fail
abbrev pub fails_somewhere : SourceParts → Bool
fails_somewhere source =
    list_any (λ one. method_fails source one.0 one.1) (enumerate_from 0 source.tree.methods)

-- some number is known to have 64 bits, and is worked out in 128
abbrev pub shortens_somewhere : SourceParts → Bool
shortens_somewhere source =
    list_any (λ one. method_shortens source one.0 one.1) (enumerate_from 0 source.tree.methods)

-- some calls of a method are refused, by whether it may fail too
abbrev pub refuses_so : SourceParts → Bool → ℕ → MethodTree → Bool
refuses_so source fails number method =
    refuses source number method && (if fails then method_fails source number method
    else not (method_fails source number method))

-- so are those of some method
abbrev pub refuses_somewhere : SourceParts → Bool → Bool
refuses_somewhere source fails =
    list_any (λ one. refuses_so source fails one.0 one.1) (enumerate_from 0 source.tree.methods)

-- a text where there is a use for it
abbrev pub text_if : Bool → List ℕ → List ℕ
text_if any text = if any then text else []

-- what is free of the monitor: where there are calls, where some wait, where some have a time,
-- where some may fail, where some may be refused, and where some number is known to have 64 bits
abbrev pub functions_text : SourceParts → List ℕ
functions_text source =
    text_if (has_calls source.tree) LOCK ++ text_if (waits_somewhere source.monitor) WAIT
    ++ text_if (times_somewhere source) TIMES ++ text_if (fails_somewhere source) OVERFLOW
    ++ text_if (refuses_somewhere source false) REFUSED
    ++ text_if (refuses_somewhere source true) FAILED
    ++ text_if (shortens_somewhere source) WHOLE

-- what the module is, and what made it
abbrev pub head_text : MonitorTree → List ℕ
head_text tree =
    codes "// The monitor `" ++ tree.name
    ++ codes "` as a module of Rust, made by `expresso emit` " ++ VERSION ++ HEAD

-- the whole module
abbrev pub module_text : SourceParts → List ℕ
module_text source =
    head_text source.tree ++ use_text source ++ struct_text source ++ impl_text source
    ++ traits_text source ++ inner_text source ++ state_text source.tree ++ state_impl_text source
    ++ functions_text source

-- the module of a monitor, as it is written in a text and as it was checked, under its plan, and
-- with those blocks of which it is known that no number of them leaves 64 bits
abbrev pub rust_text : List ℕ → MonitorTree → MonitorParts → Plan → List Bool → List ℕ
rust_text text tree monitor plan whole = module_text (source_of text tree monitor plan whole)
