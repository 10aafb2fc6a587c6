-- The lines of conditions, by their numbers from 0 and by where they stand, for their writers.
use Rattle.std.specs.Prelude.{List, ℕ, ◌+◌, [], ◌++◌, codes, if◌then◌else◌}
use Rattle.lang_monitor.specs.declared.monitor.Condition.{Condition}
use Rattle.emit_code.specs.Code.{is_always}
use Rattle.emit_statements.specs.Sources.{SourceParts}
use Rattle.emit_statements.specs.Conditions.{around_count, around_name}
use Rattle.emit_module.specs.declared.fields.ConditionLine.{ConditionLine}
use Rattle.emit_module.specs.declared.fields.ConditionLine.TheVariants as kinds
use Rattle.emit_module.specs.Modules.{waited_field}

-- the count in a copy
abbrev pub copied_count : SourceParts → ℕ → List ℕ
copied_count source number =
    around_count source (codes "            ") number []
    ++ around_count source (codes ": self.") number (codes ",\n")

-- the condition variable or the count, as a field or at its start, or in a copy
abbrev pub condition_at : ConditionLine → SourceParts → ℕ → Condition → List ℕ
condition_at kinds.Variable source place which = waited_field source place which
condition_at kinds.NewVariable source place which =
    around_name source (codes "            ") (place + 1) (codes ": Condvar::new(),\n")
condition_at kinds.Count source place which =
    around_count source (codes "    ") (place + 1) (codes ": usize,\n")
condition_at kinds.NewCount source place which =
    around_count source (codes "                ") (place + 1) (codes ": 0,\n")
condition_at kinds.CopiedCount source place which = copied_count source (place + 1)

-- `condition_field`, `condition_start`, `count_field`, `count_start` or `count_copy`
abbrev pub condition_line_at : ConditionLine → SourceParts → ℕ → Condition → List ℕ
condition_line_at line source place which =
    if is_always which.guard then [] else condition_at line source place which
