-- Bodies of blocks, and how many paths they have.
use Rattle.std.specs.Prelude.{ℕ, ◌+◌, List, [], map, Option, Some, None, slice_get}
use Rattle.logic_linear.specs.Measures.{product}
use Rattle.lang_monitor.specs.declared.monitor.Block.{Block}
use Rattle.lang_monitor.specs.declared.monitor.Stmt.{Stmt}
use Rattle.lang_monitor.specs.declared.monitor.Stmt.TheOpen.{Stmt-F, Put, If}
use Rattle.lang_monitor.specs.declared.monitor.Stmt.TheFolds.{fold-Stmt}
use Rattle.lang_monitor.specs.MonitorParts.{MonitorParts}

-- with no such block no statements
abbrev pub body_in : Option Block → List Stmt
body_in None = []
body_in (Some block) = block.body

-- the body of a block
abbrev pub block_body : MonitorParts → ℕ → List Stmt
block_body monitor block = body_in (slice_get monitor.blocks block)

-- a path of an `if` is one of its first side, or one of its other side
abbrev pub count_step : Stmt-F ℕ → ℕ
count_step (Put put) = 1
count_step (If when body other) = product body + product other

abbrev pub statement_count : Stmt → ℕ
statement_count = fold-Stmt ℕ count_step

-- a path of a body is one of each of its statements
abbrev pub path_count : List Stmt → ℕ
path_count body = product (map statement_count body)

-- the most paths of a body that is decided
abbrev pub MOST_PATHS : ℕ
MOST_PATHS = 64
