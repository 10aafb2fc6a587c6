-- Columns that are short.
use Rattle.std.proofs.Common.{ℕ, List, Option, Some, None, arith}
use Rattle.std.specs.Prelude.{All}
use Rattle.std.specs.List.{enumerate_from}
use Rattle.lang_monitor.specs.declared.candidate.Candidate.{Candidate}
use Rattle.lang_monitor.specs.MonitorParts.{MonitorParts, IsMonitor}
use Rattle.plan_claims.proofs.Lists.{all_numbers}
use Rattle.plan_counted.specs.declared.counted.Column.{Column}
use Rattle.plan_counted.specs.Counted.{IsColumnBacked}
use Rattle.report_tally.specs.inner.Lines.{IsShortColumn}

pub short_columns : (monitor : MonitorParts) (kept : List Candidate) (columns : List (Option Column)) → IsMonitor monitor
    → All (λ one. IsColumnBacked monitor kept one.0 one.1) (enumerate_from 1 columns) → All IsShortColumn columns
short_columns monitor kept columns rule each = all_numbers (λ one. IsColumnBacked monitor kept one.0 one.1) IsShortColumn short 1 columns each
  where
    short : (number : ℕ) (column : Option Column) → IsColumnBacked monitor kept number column → IsShortColumn column
    short number None backed = tt
    short number (Some column) backed = omega (arith, backed.many, rule.few_blocks)
