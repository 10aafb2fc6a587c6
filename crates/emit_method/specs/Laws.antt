-- What the laws say.
use Rattle.std.specs.Prelude.{◌≡◌, ◌&&◌, ℕ, Bool, List, ◌∷◌, ◌++◌, length, slice_get}
use Rattle.lang_tree.specs.declared.tree.MethodTree.{MethodTree}
use Rattle.lang_monitor.specs.MonitorParts.{count_in}
use Rattle.machine_events.specs.declared.plan.Note.{Note}
use Rattle.emit_code.specs.Code.{Op, code_of, is_last_run}
use Rattle.emit_code.specs.Code.Op.{Run}
use Rattle.emit_statements.specs.Sources.{SourceParts}
use Rattle.emit_statements.specs.Statements.{works_at}
use Rattle.emit_statements.specs.declared.ways.Way.{Way}
use Rattle.emit_statements.specs.Ways.{tries}
use Rattle.emit_method.specs.Methods.{parts_of}

-- Of each method that was checked with as many blocks as are written in it, and of each body in the
-- code of its calls: what is printed of the body calls the call's function exactly where the calls
-- are given one and no other body comes after this one in the code.
abbrev pub FunctionsRunLast : Type 0
FunctionsRunLast =
    (source : SourceParts) (number : ℕ) (method : MethodTree) (way : Way) (works : Bool)
    → length method.blocks ≡ count_in (slice_get source.monitor.methods number)
    → (before rest : List Op) (block : ℕ) (otherwise : List Note)
    → code_of source.monitor source.plan number (tries way)
    ≡ before ++ Run block otherwise ∷ rest
    → works_at (parts_of source number method way works) block ≡ (works && is_last_run rest)
