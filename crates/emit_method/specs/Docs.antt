-- What is said of a method.
use Rattle.std.specs.Prelude.{ℕ, ◌+◌, ◌==◌, nat_le, Bool, true, false, List, [], ◌++◌}
use Rattle.std.specs.Prelude.{Option, Some, None, codes, length, slice_get, if◌then◌else◌}
use Rattle.std.specs.List.{flat_map, enumerate_from}
use Rattle.std.specs.Option.{option_map_or}
use Rattle.lang_base.specs.declared.kind.Kind.{Kind}
use Rattle.lang_tree.specs.declared.tree.BlockTree.{BlockTree}
use Rattle.lang_tree.specs.declared.tree.MethodTree.{MethodTree}
use Rattle.lang_printer.specs.Canonical.{expression_text}
use Rattle.machine_events.specs.Configurations.{block_condition}
use Rattle.emit_code.specs.Code.{is_waited_on}
use Rattle.emit_comments.specs.Comments.{leading_docs, line_of}
use Rattle.emit_names.specs.declared.style.Style.TheVariants as styles
use Rattle.emit_names.specs.Names.{member_name}
use Rattle.emit_statements.specs.declared.ways.Way.{Way}
use Rattle.emit_statements.specs.declared.ways.Way.TheVariants as ways
use Rattle.emit_statements.specs.Ways.{asserts, may_refuse}
use Rattle.emit_statements.specs.Statements.{MethodParts}
use Rattle.emit_method.specs.Called.{plain_called}

-- ---- what a block waits for, by its number among those of its method, from 0

-- no guard is tested
abbrev pub going_text : ℕ → List ℕ
going_text place =
    if place == 0 then codes "    /// Does not wait.\n"
    else codes "    ///\n    /// Then goes on.\n"

-- a guard is tested
abbrev pub waits_until : ℕ → List ℕ
waits_until place =
    if place == 0 then codes "    /// Waits until `"
    else codes "    ///\n    /// Then waits until `"

-- what this block of a method waits for
abbrev pub waiting_text : MethodParts → ℕ → BlockTree → List ℕ
waiting_text it place block =
    if is_waited_on it.source.monitor (block_condition it.source.monitor (it.first + place))
    then waits_until place ++ expression_text block.guard ++ codes "`.\n"
    else going_text place

-- ---- when a method fails

-- before the errors
abbrev pub ERRORS : List ℕ
ERRORS = codes "    ///\n    /// # Errors\n    ///\n"

-- what stays where a number would leave 64 bits, in a method of so many blocks
abbrev pub stays_text : ℕ → List ℕ
stays_text blocks =
    if nat_le blocks 1 then codes "Then nothing changes.\n"
    else codes "Its block then changes nothing, and no later one runs.\n"

-- nothing where it cannot fail
abbrev pub errors_text : Bool → ℕ → List ℕ
errors_text false blocks = []
errors_text true blocks =
    ERRORS ++ codes "    /// [`Overflow`] where a number would leave 64 bits. " ++ stays_text blocks

-- the comments directly above it
abbrev pub own_comments : MethodParts → List ℕ
own_comments it =
    leading_docs (codes "    ") it.source.text (line_of it.source.text it.method.at)

-- what is said of a method for calls that wait
abbrev pub waiting_docs : MethodParts → List ℕ
waiting_docs it =
    own_comments it
    ++ flat_map (λ one. waiting_text it one.0 one.1) (enumerate_from 0 it.method.blocks)
    ++ errors_text it.fails (length it.method.blocks)

-- ---- calls that try, or have a time

-- the guard for which they don't wait, or not any longer
abbrev pub first_guard : MethodTree → List ℕ
first_guard method =
    option_map_or (λ block. expression_text block.guard) (slice_get method.blocks 0) []

-- before that guard
abbrev pub unlike_text : Way → List ℕ
unlike_text ways.Waits = []
unlike_text ways.Asserts = []
unlike_text ways.Tries = codes "), but does not wait until `"
unlike_text ways.Until = codes "), but waits for `"
unlike_text ways.For = codes "), but waits for `"

-- and after it
abbrev pub longest_text : Way → List ℕ
longest_text ways.Waits = []
longest_text ways.Asserts = []
longest_text ways.Tries = codes "`.\n"
longest_text ways.Until = codes "` no longer than until `end`.\n"
longest_text ways.For = codes "` no longer than `time`.\n"

-- they do what the others do
abbrev pub likeness_text : MethodParts → List ℕ
likeness_text it =
    codes "    /// As [`" ++ member_name it.source.tree styles.Snake it.method.name
    ++ codes "`](Self::" ++ member_name it.source.tree styles.Snake it.method.name
    ++ unlike_text it.way ++ first_guard it.method ++ longest_text it.way

-- when they are refused, by whether the method may fail too
abbrev pub refused_by : Bool → List ℕ
refused_by true = codes "    /// [`Failed::Refused`] where "
refused_by false = codes "    /// [`Refused`] where "

-- and when it may be
abbrev pub when_text : Way → List ℕ
when_text ways.Waits = []
when_text ways.Asserts = codes "`"
when_text ways.Tries = codes "`"
when_text ways.Until = codes "its time is over and `"
when_text ways.For = codes "its time is over and `"

-- the other error
abbrev pub other_error : Bool → ℕ → List ℕ
other_error false blocks = []
other_error true blocks =
    codes "    ///\n    /// [`Failed::Overflow`] where a number would leave 64 bits. "
    ++ stays_text blocks

-- when calls fail that may be refused
abbrev pub refusal_docs : MethodParts → List ℕ
refusal_docs it =
    ERRORS ++ refused_by it.fails ++ when_text it.way ++ first_guard it.method
    ++ codes "` is false. Then nothing changes.\n"
    ++ other_error it.fails (length it.method.blocks)

-- what a method does that asserts
abbrev pub asserting_text : MethodParts → List ℕ
asserting_text it = own_comments it ++ going_text 0

-- what a method does for calls that may be refused
abbrev pub doing_text : MethodParts → List ℕ
doing_text it = if asserts it.way then asserting_text it else likeness_text it

-- what is said of a method for such calls
abbrev pub trying_docs : MethodParts → List ℕ
trying_docs it = doing_text it ++ refusal_docs it

-- ---- calls that are given a function

-- what the function is handed
abbrev pub handed_text : Option Kind → List ℕ
handed_text None = codes "the data"
handed_text (Some kind) = codes "the data and the answer"

-- when it is called, and what stays where it panics, in a method of so many blocks
abbrev pub panics_text : ℕ → List ℕ
panics_text blocks =
    if nat_le blocks 1
    then codes " under the same lock.\n    ///\n    /// Where `f` panics no field changes. "
    else codes " under the same lock, in its last block.\n    ///\n"
    ++ codes "    /// Where `f` panics that block changes no field. "

-- they do what the others do, and more
abbrev pub work_likeness : MethodParts → List ℕ
work_likeness it =
    codes "    /// As [`" ++ plain_called it ++ codes "`](Self::" ++ plain_called it
    ++ codes "), and calls `f` with " ++ handed_text it.answer
    ++ panics_text (length it.method.blocks) ++ codes "`f` must not call this monitor.\n"

-- when they fail
abbrev pub failure_docs : MethodParts → List ℕ
failure_docs it =
    if may_refuse it.way then refusal_docs it else errors_text it.fails (length it.method.blocks)

-- what is said of a method for calls with a function
abbrev pub work_docs : MethodParts → List ℕ
work_docs it = work_likeness it ++ failure_docs it

-- ---- the whole

-- what is said of a method that is given no function
abbrev pub own_docs : MethodParts → List ℕ
own_docs it = if may_refuse it.way then trying_docs it else waiting_docs it

-- what is said of a method
abbrev pub docs_text : MethodParts → List ℕ
docs_text it = if it.works then work_docs it else own_docs it
