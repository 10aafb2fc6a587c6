-- What methods are called.
use Rattle.std.specs.Prelude.{ℕ, List, ◌++◌, codes, if◌then◌else◌}
use Rattle.lang_tree.specs.declared.tree.MonitorTree.{MonitorTree}
use Rattle.emit_names.specs.declared.endings.Ending.TheVariants as endings
use Rattle.emit_names.specs.declared.style.Style.TheVariants as styles
use Rattle.emit_names.specs.Names.{ended_name, member_name, try_name, try_with_name, with_name}
use Rattle.emit_statements.specs.declared.ways.Way.{Way}
use Rattle.emit_statements.specs.declared.ways.Way.TheVariants as ways
use Rattle.emit_statements.specs.Statements.{MethodParts}

-- what a method that is given no function is called: `put`, as of calls that wait or assert,
-- `try_put`, `put_until` or `put_for`
abbrev pub plain_name : MonitorTree → List ℕ → Way → List ℕ
plain_name tree name ways.Waits = member_name tree styles.Snake name
plain_name tree name ways.Asserts = member_name tree styles.Snake name
plain_name tree name ways.Tries = try_name tree name
plain_name tree name ways.Until = ended_name tree endings.Until name
plain_name tree name ways.For = ended_name tree endings.For name

-- and one that is
abbrev pub work_name : MonitorTree → List ℕ → Way → List ℕ
work_name tree name ways.Waits = with_name tree name
work_name tree name ways.Asserts = with_name tree name
work_name tree name ways.Tries = try_with_name tree name
work_name tree name ways.Until = ended_name tree endings.UntilWith name
work_name tree name ways.For = ended_name tree endings.ForWith name

-- a method with a function or with none, for calls of this way
abbrev pub name_of : MethodParts → Way → List ℕ
name_of it way =
    if it.works then work_name it.source.tree it.method.name way
    else plain_name it.source.tree it.method.name way

-- the method without a function
abbrev pub plain_called : MethodParts → List ℕ
plain_called it = plain_name it.source.tree it.method.name it.way

-- with the type of what its function answers, where it has one
abbrev pub called_text : MethodParts → List ℕ
called_text it =
    if it.works then work_name it.source.tree it.method.name it.way ++ codes "<R>"
    else plain_called it
