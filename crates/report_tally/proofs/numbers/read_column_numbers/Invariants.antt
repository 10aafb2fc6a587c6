use Rattle.std.proofs.Common.{take}
use Rattle.std.specs.Prelude.{All}
use Rattle.report_tally.specs.CountedTexts.{HasTypedColumn}
use Rattle.report_tally.proofs.numbers.read_column_numbers.Given as goal

abbrev pub invariant-loop-column : goal.invariant-loop-column
invariant-loop-column l = All HasTypedColumn (take l.column-index l.columns)
