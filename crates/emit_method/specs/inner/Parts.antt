-- The text of a method, for its writer.
use Rattle.std.specs.Prelude.{ℕ, List}
use Rattle.emit_code.specs.Code.{blocks_code, late_order}
use Rattle.emit_statements.specs.Statements.{MethodParts}
use Rattle.emit_statements.specs.Ways.{tries}
use Rattle.emit_method.specs.Methods.{code_text}

-- a method of so many blocks
abbrev pub calls_text : MethodParts → ℕ → List ℕ
calls_text it count =
    code_text it
    (blocks_code it.source.monitor (late_order it.source.plan) (tries it.way) it.first count)
